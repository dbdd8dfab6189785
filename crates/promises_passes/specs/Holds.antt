-- Along every history of the piece: the register counts the passes, each pass stands, and none was given to fewer than two people.
use Rattle.std.specs.Prelude.{◌≡◌, Bool, not, ◌&&◌, ◌||◌, List, [], ◌∷◌, ◌++◌, ℕ, zero, suc, ◌+◌, ◌≤◌, ◌<◌, eqb, length}
use Rattle.std.proofs.Math.Path.{refl, ap, subst}
use Rattle.std.proofs.Common.{sym, ◌∙◌, arith, eq-eqb, eqb-true, le-leb, ne_eqb, length-append}
use Rattle.std.proofs.Math.Bool.{true, false, cond}
use Rattle.std.proofs.Math.Option.{none, some}
use Rattle.std.proofs.Math.Decide.{ℕ_discrete}
use Rattle.std.proofs.lemmas.Bool.{eqb-false}
use Rattle.rules.specs.Flash.{Bytes}
use Rattle.rules.specs.Answers.{Outcome, number}
use Rattle.rules.specs.Calls.{Call, abort, begin, commit, delete, format, mount, outcome, read, read_at, read_open, write}
use Rattle.rules.specs.Histories.{Files, MayLeave, Plain, Reached, changed, dropped, follow, is_format, laid_down, no_changes, no_files, takes_bytes, unless}
use Rattle.rules.specs.Histories as histories
use Rattle.rules.specs.Plain.{is_settled, plainly, seen}
use Rattle.rules.specs.Settled.{survey}
use Rattle.rules.specs.Sound.{standing}
use Rattle.rules.specs.declared.Geometry.{Geometry}
use Rattle.rules.specs.declared.Standing.{Standing}
use Rattle.rules.specs.declared.Standing.TheVariants.{Neither, Settled, Sound}
use Rattle.pass_rules.specs.Texts.{StaffList, pass_text, register_in, register_text, staff_in}
use Rattle.pass_rules.specs.Give.{Looked, Went, counted, ends, finds, give, give_look, gives_at, is_on, parts, refuses, starts}
use Rattle.promises_passes.specs.Grammar.{register_of_text}
use Rattle.promises_passes.specs.Keeps.{Clear, clear_keep, dropped_clear, files_keep, none_some}
use Rattle.promises_passes.specs.Looked.{MayGive, allowed, look_plainly, still}
use Rattle.promises_passes.specs.Results.{WalkResult, done_after, pass_writes, starts_result}
use Rattle.promises_passes.specs.Walk.{give_left}
use Rattle.promises_passes.specs.Words.{Held, Kept, MayLeaveAll, Pass, Turn, after_call, after_give, called, follow_all, formatted, gave, grown, is_allowed, is_commit, is_committed, is_mount, is_others, is_ours, is_read, nth, pass_changes, pass_file, plain_count, register_file, still_owed, turned, with_pass}

-- Two different people, both on the list that the pass carries.
pub record TwoOnList (p : Pass) : Type 0 where
  pub content : Bytes
  pub file : p.list ≡ some content
  pub list : StaffList
  pub reads : staff_in content ≡ some list
  pub first : is_on p.first list.people ≡ true
  pub second : is_on p.second list.people ≡ true
  pub differ : p.first ≡ p.second → ⊥

pub data AllTwo : List Pass → Type 0 where
  no_pass : AllTwo []
  and_pass : {p : Pass} {ps : List Pass} → TwoOnList p → AllTwo ps → AllTwo (p ∷ ps)

two_more : {ps : List Pass} {p : Pass} → AllTwo ps → TwoOnList p → AllTwo (ps ++ (p ∷ []))
two_more no_pass t = and_pass t no_pass
two_more (and_pass h r) t = and_pass h (two_more r t)

-- ---- the list of passes
nth_this : (ps : List Pass) (p : Pass) → nth (length ps) (ps ++ (p ∷ [])) ≡ some p
unfolding nth
nth_this [] p = refl
nth_this (q ∷ ps) p = nth_this ps p

nth_other : (ps : List Pass) (p : Pass) (i : ℕ) → (i ≡ length ps → ⊥) → nth i (ps ++ (p ∷ [])) ≡ nth i ps
unfolding nth
nth_other [] p zero h = absurd (h refl)
nth_other [] p (suc i) h = refl
nth_other (q ∷ ps) p zero h = refl
nth_other (q ∷ ps) p (suc i) h = nth_other ps p i (λ e. h (ap suc e))

register_more : (ps : List Pass) (p : Pass) → register_file (ps ++ (p ∷ [])) ≡ some (register_text (length ps + 1))
unfolding register_file
register_more [] p = refl
register_more (q ∷ ps) p =
    let e : suc (length (ps ++ (p ∷ []))) ≡ suc (length ps) + 1 = omega (arith, length-append ps (p ∷ [])) in
    ap (λ (n : ℕ). some (register_text n)) e

-- The register that is read is the number of passes.
count_of_lem : (ps : List Pass) (n : ℕ) → length ps ≤ 126 → plain_count (register_file ps) ≡ finds n → n ≡ length ps
unfolding plain_count register_file counted
count_of_lem [] n h e = cc
count_of_lem (p ∷ ps) n h e =
    let r : register_in (register_text (length (p ∷ ps))) ≡ some (length (p ∷ ps)) = (register_of_text (register_text (length (p ∷ ps))) (length (p ∷ ps))).1 (h, refl) in
    let w : counted (some (length (p ∷ ps))) ≡ finds n = sym (ap counted r) ∙ e in
    cc

-- ---- the map with a pass
module _ (n a b : ℕ) (F : Files) where
  with_count : with_pass n a b F 1 ≡ some (register_text (n + 1))
  unfolding with_pass pass_changes laid_down unless changed
  with_count = refl

  with_file : (i : ℕ) (t : Bool) → eqb (2 + i) (2 + n) ≡ t → with_pass n a b F (2 + i) ≡ cond t (some (pass_text n a b)) (F (2 + i))
  unfolding with_pass pass_changes laid_down unless changed no_changes
  with_file i t e =
      ap (λ (c : Bool). unless (cond c (some (some (register_text (n + 1)))) (cond (eqb (2 + i) (2 + n)) (some (some (pass_text n a b))) none)) (F (2 + i))) (ne_eqb (2 + i) 1 (λ q. omega arith))
      ∙ ap (λ (c : Bool). unless (cond c (some (some (pass_text n a b))) none) (F (2 + i))) e
      ∙ go t
    where
      go : (t : Bool) → unless (cond t (some (some (pass_text n a b))) none) (F (2 + i)) ≡ cond t (some (pass_text n a b)) (F (2 + i))
      go true = refl
      go false = refl

-- ---- what holds
pub record PassesHold (g : Geometry) (h : Held) : Type 0 where
  pub reached : Reached g h.image h.store
  pub register : h.store.files 1 ≡ register_file h.passes
  pub passes : (i : ℕ) → i < 126 → h.store.files (2 + i) ≡ pass_file i (nth i h.passes)
  pub few : length h.passes ≤ 126
  pub clear : h.owed ≡ false → Clear h.store
  pub two : AllTwo h.passes

pub settled_still : (x : Standing) → is_settled x ≡ true → x ≡ Settled
unfolding is_settled
settled_still Settled e = refl
settled_still Sound e = cc
settled_still Neither e = cc

commit_no : (c : Call) → is_commit c ≡ true → is_mount c || is_read c ≡ true → ◌≡◌ {A = ℕ} 0 1
unfolding is_commit is_mount is_read
commit_no (format k) a b = cc
commit_no (mount k) a b = cc
commit_no (begin rule k) a b = cc
commit_no (commit k) a b = cc
commit_no (abort k) a b = cc
commit_no (write rule f c k) a b = cc
commit_no (delete rule f k) a b = cc
commit_no (read f) a b = cc
commit_no (read_open f) a b = cc
commit_no (read_at L p) a b = cc

not_so : false ≡ true → ◌≡◌ {A = ℕ} 0 1
not_so e = cc

yes_no : true ≡ false → ◌≡◌ {A = ℕ} 0 1
yes_no e = cc

module _ (g : Geometry) where
  mount_clear : (m : Plain) (s : Bytes) → Reached g s m → (c : Call) → is_mount c ≡ true → number (outcome g c s).answer ≡ 0 → Clear (follow g c (outcome g c s) m)
  unfolding is_mount
  mount_clear m s r (mount k) a e =
      let p : plainly m (seen g (mount k) s) (mount k) ≡ dropped m = unfold plainly in refl in
      subst Clear (sym (done_after g 0 m.files m s r (mount k) (unfold is_format in refl) e ∙ p)) (dropped_clear g m)
  mount_clear m s r (format k) a e = absurd (omega (arith, not_so a))
  mount_clear m s r (begin rule k) a e = absurd (omega (arith, not_so a))
  mount_clear m s r (commit k) a e = absurd (omega (arith, not_so a))
  mount_clear m s r (abort k) a e = absurd (omega (arith, not_so a))
  mount_clear m s r (write rule f c k) a e = absurd (omega (arith, not_so a))
  mount_clear m s r (delete rule f k) a e = absurd (omega (arith, not_so a))
  mount_clear m s r (read f) a e = absurd (omega (arith, not_so a))
  mount_clear m s r (read_open f) a e = absurd (omega (arith, not_so a))
  mount_clear m s r (read_at L p) a e = absurd (omega (arith, not_so a))

  ours : (i : ℕ) → i < 126 → is_ours (2 + i) ≡ true
  unfolding is_ours
  ours i l = go (le-leb 1 (2 + i) (omega arith)) (le-leb (2 + i) 127 (omega arith))
    where
      go : {a b : Bool} → a ≡ true → b ≡ true → a && b ≡ true
      go {a} {b} p q = cc

  call_holds : (h : Held) → PassesHold g h → (c : Call) → is_format c ≡ false → takes_bytes c ≡ true → is_others c ≡ true → is_allowed h.owed c ≡ true → {u : Bytes} → MayLeave g c h.image u → PassesHold g (after_call g u c h)
  unfolding after_call
  call_holds h k c f t n w l =
      record {
        reached = histories.called c f t k.reached l;
        register = files_keep g h.store c o (cl h.owed refl w) 1 (unfold is_ours in refl) ∙ k.register;
        passes = λ i b. files_keep g h.store c o (cl h.owed refl w) (2 + i) (ours i b) ∙ k.passes i b;
        few = k.few;
        clear = still_clear h.owed refl;
        two = k.two;
      }
    where
      o : Outcome
      o = outcome g c h.image

      cl : (b : Bool) → h.owed ≡ b → is_allowed b c ≡ true → is_commit c ≡ true → Clear h.store
      cl true e v i = absurd (omega (arith, commit_no c i (unfold is_allowed in v)))
      cl false e v i = k.clear e

      paid : (a b : Bool) → not (a && b) ≡ false → (a ≡ true) × (b ≡ true)
      paid true true e = (refl, refl)
      paid true false e = absurd (omega (arith, yes_no e))
      paid false b e = absurd (omega (arith, yes_no e))

      still_clear : (b : Bool) → h.owed ≡ b → still_owed b c (number o.answer) ≡ false → Clear (follow g c o h.store)
      still_clear true e v =
          let p = paid (is_mount c) (eqb (number o.answer) 0) (unfold still_owed in v) in
          mount_clear h.store h.image k.reached c p.0 (eqb-true (number o.answer) 0 p.1)
      still_clear false e v = clear_keep g h.store c o n (k.clear e)

  -- The Held after a walk that may have given p and left the image u.
  unfoldable held : Bytes → Held → Pass → Went → Held
  held u h p v =
      record {
        image = u;
        store = follow_all g v.calls h.image h.store;
        passes = grown (is_committed g v.calls h.image) h.passes p;
        owed = eqb v.number 1;
      }

  pass_holds : (h : Held) (w : PassesHold g h) (a b k n : ℕ) {u : Bytes} → MayGive (still g h.image h.store w.reached) h.store a b n
      → Reached g u (follow_all g (starts g k (parts n a b) h.image).calls h.image h.store)
      → PassesHold g (held u h (record { first = a; second = b; list = h.store.files 0 }) (starts g k (parts n a b) h.image))
  unfolding held grown with_pass pass_file Clear
  pass_holds h w a b k n al q =
      record {
        reached = q;
        register = ap (λ (x : Files). x 1) r.files ∙ count made;
        passes = λ i l. ap (λ (x : Files). x (2 + i)) r.files ∙ file i l made;
        few = many made;
        clear = λ e. (λ o c. none_some (sym (r.shut (eqb-false v.number 1 e)) ∙ c));
        two = both made;
      }
    where
      F : Files
      F = h.store.files

      ps : List Pass
      ps = h.passes

      p : Pass
      p = record { first = a; second = b; list = F 0 }

      v : Went
      v = starts g k (parts n a b) h.image

      made : Bool
      made = is_committed g v.calls h.image

      r : WalkResult g F (laid_down (pass_changes n a b) F) h.image h.store v
      r = starts_result g k h.store (pass_writes n a b) h.image w.reached al.shut (settled_still (standing g (survey g h.image)) al.still)

      len : n ≡ length ps
      len = count_of_lem ps n w.few (sym (ap plain_count w.register) ∙ al.count)

      less : n < 126
      less = let k = w.few in let l = al.low in omega (arith, len)

      count : (t : Bool) → cond t (laid_down (pass_changes n a b) F) F 1 ≡ register_file (grown t ps p)
      count true =
          let x : laid_down (pass_changes n a b) F 1 ≡ some (register_text (n + 1)) = with_count n a b F in
          (x ∙ ap (λ (i : ℕ). some (register_text (i + 1))) len ∙ sym (register_more ps p))
      count false = w.register

      file : (i : ℕ) → i < 126 → (t : Bool) → cond t (laid_down (pass_changes n a b) F) F (2 + i) ≡ pass_file i (nth i (grown t ps p))
      file i l false = w.passes i l
      file i l true = this (ℕ_discrete i n)
        where
          this : Dec (i ≡ n) → laid_down (pass_changes n a b) F (2 + i) ≡ pass_file i (nth i (grown true ps p))
          this (yes e) =
              let x : laid_down (pass_changes n a b) F (2 + i) ≡ some (pass_text n a b) = with_file n a b F i true (eq-eqb (2 + i) (2 + n) (ap (λ (j : ℕ). 2 + j) e)) in
              let y : nth i (ps ++ (p ∷ [])) ≡ some p = ap (λ (j : ℕ). nth j (ps ++ (p ∷ []))) (e ∙ len) ∙ nth_this ps p in
              let z : pass_file i (some p) ≡ some (pass_text n a b) = ap (λ (j : ℕ). some (pass_text j a b)) e in
              (x ∙ sym (ap (pass_file i) y ∙ z))
          this (no e) =
              let x : laid_down (pass_changes n a b) F (2 + i) ≡ F (2 + i) = with_file n a b F i false (ne_eqb (2 + i) (2 + n) (λ q. e (omega arith))) in
              (x ∙ w.passes i l ∙ ap (pass_file i) (sym (nth_other ps p i (λ q. e (q ∙ sym len)))))

      many : (t : Bool) → length (grown t ps p) ≤ 126
      many true = omega (arith, length-append ps (p ∷ []), less, len)
      many false = w.few

      both : (t : Bool) → AllTwo (grown t ps p)
      both true = two_more w.two (record { content = al.content; file = al.file; list = al.list; reads = al.reads; first = al.first; second = al.second; differ = al.differ })
      both false = w.two

  give_holds : (h : Held) → PassesHold g h → h.owed ≡ false → (a b k : ℕ) {u : Bytes} → MayLeaveAll g (give g k a b h.image).calls h.image u → PassesHold g (after_give g u a b k h)
  unfolding after_give give held
  give_holds h w owed a b k {u} l = go (give_look g h.image a b) refl (give_left g k a b w.reached l)
    where
      p : Pass
      p = record { first = a; second = b; list = h.store.files 0 }

      go : (x : Looked ℕ) → give_look g h.image a b ≡ x → Reached g u (follow_all g (gives_at g k a b x h.image).calls h.image h.store)
          → PassesHold g (held u h p (gives_at g k a b x h.image))
      go (refuses r) e q = unfold gives_at ends follow_all is_committed grown in (record { reached = q; register = w.register; passes = w.passes; few = w.few; clear = λ v. w.clear owed; two = w.two })
      go (finds n) e q = unfold gives_at in pass_holds h w a b k n (allowed h.store a b n (still g h.image h.store w.reached) (sym (look_plainly g h.image h.store w.reached a b) ∙ e)) q

  turn_holds : {h t : Held} → PassesHold g h → Turn g h t → PassesHold g t
  turn_holds {h} w (called c f b n a l) = call_holds h w c f b n a l
  turn_holds {h} w (gave a b k o l) = give_holds h w o a b k l

  pub kept_holds : {h : Held} → Kept g h → PassesHold g h
  unfolding no_files register_file nth pass_file
  kept_holds (formatted s k e) =
      record {
        reached = histories.formatted s k e;
        register = refl;
        passes = λ i l. refl;
        few = omega arith;
        clear = λ e. unfold Clear in (λ o q. none_some q);
        two = no_pass;
      }
  kept_holds (turned w t) = turn_holds (kept_holds w) t
