-- The read through the table: beside its own image it is the plain read with 12 after 4; of any table and image it shows nothing wrong.
use Rattle.std.specs.Prelude.{◌≡◌, Bool, ◌&&◌, ◌||◌, ◌≢◌, ℕ, zero, suc, ◌+◌, ◌≤◌, ◌<◌, length, Ok}
use Rattle.std.proofs.Math.Path.{refl, sym, ap, subst}
use Rattle.std.proofs.Common.{◌∙◌, zero-add}
use Rattle.std.proofs.Math.Bool.{true, false, not, cond}
use Rattle.std.proofs.Math.Option.{Option, none, some}
use native.Mathlib.Omega.{arith}
use Rattle.std.proofs.Math.Dec.{eqb}
use Rattle.std.proofs.Math.ListN.{get_or}
use Rattle.rules.specs.Flash.{Bytes, is_geometry}
use Rattle.rules.specs.Settled.{Entry, survey}
use Rattle.rules.specs.Sound.{standing}
use Rattle.rules.specs.Views.{committed_view}
use Rattle.rules.specs.Answers.{Plan, refuses, shows, carry_out, given, number, shown}
use Rattle.rules.specs.Calls.{in_geometry, in_settled, is_bad_file, outcome, plan, read, refuse, showing, when_settled, allowance}
use Rattle.rules.specs.Table.{Table, a_file, entry_of, fresh, is_usable, judged, mark, no_file, of_length, plan_read, read_through, said_of, says_file, says_none, showing_or, shown_by, table_after, with_table}
use Rattle.rules.specs.declared.NotDone.TheVariants.{Absent, BadFile, BadGeometry, BadImage, StaleTable, Unsettled}
use Rattle.rules.specs.declared.Geometry.{Geometry}
use Rattle.rules.specs.declared.Origin.TheVariants.{NotSaid}
use Rattle.rules.specs.declared.Standing.{Standing}
use Rattle.rules.specs.declared.Standing.TheVariants.{Settled, Sound, Neither}
use Rattle.rules.specs.declared.TableEntry.{TableEntry}
use Rattle.theory.specs.Base.Facts.{eqb_same, true_false}
use Rattle.theory.specs.Meaning.Handles.{none_some}
use Rattle.theory.specs.Base.Inputs.{small_file}
use Rattle.promises_table.specs.Fresh.{fresh_rows, rows}
use Rattle.promises_table.specs.CommittedShown.{committed_shown, inside, shown_committed}
use Rattle.promises_table.specs.CommittedShown as shown
use Rattle.promises_table.specs.Words.{exactly}

-- ---- an entry of the fresh table
get_rows : (h : ℕ → TableEntry) (k f i : ℕ) → i < k → get_or (rows h k f) i mark ≡ h (f + i)
get_rows h zero f i l = absurd (let w : ⊥ = omega arith in w)
get_rows h (suc k) f zero l = ap h (let z : f ≡ f + 0 = omega arith in z)
get_rows h (suc k) f (suc i) l = get_rows h k (suc f) i (omega arith) ∙ ap h (let z : suc f + i ≡ f + suc i = omega arith in z)

pub fresh_at : (g : Geometry) (s : Bytes) (f : ℕ) → f < 256 → get_or (fresh g s) f mark ≡ entry_of (committed_view f (survey g s))
fresh_at g s f l =
    ap (λ (t : Table). get_or t f mark) (fresh_rows g s) ∙ get_rows (λ n. entry_of (committed_view n (survey g s))) 256 0 f l ∙ ap (λ (n : ℕ). entry_of (committed_view n (survey g s))) (zero-add f)

length_rows : (h : ℕ → TableEntry) (k f : ℕ) → length (rows h k f) ≡ k
length_rows h zero f = refl
length_rows h (suc k) f = ap suc (length_rows h k (suc f))

pub fresh_length : (g : Geometry) (s : Bytes) → length (fresh g s) ≡ 256
fresh_length g s = ap (λ (t : Table). length t) (fresh_rows g s) ∙ length_rows (λ n. entry_of (committed_view n (survey g s))) 256 0

entry_usable : (o : Option Entry) → says_none (entry_of o) || says_file (entry_of o) ≡ true
unfolding entry_of says_none says_file no_file a_file
entry_usable none = refl
entry_usable (some e) = refl

-- a fresh table is usable
pub fresh_usable : (g : Geometry) (s : Bytes) → is_usable (fresh g s) ≡ true
unfolding is_usable
fresh_usable g s = ap (λ (x : TableEntry). says_none x || says_file x) (fresh_at g s 0 (omega arith)) ∙ entry_usable (committed_view 0 (survey g s))

-- ---- beside its own image
module _ (g : Geometry) (s : Bytes) (t : Table) (f : ℕ) where
  -- the refusal 2 of the geometry, asked twice, is one
  twice : (p : Plan) → in_geometry g s (in_geometry g s p) ≡ in_geometry g s p
  unfolding in_geometry refuse
  twice p = go (is_geometry g (length s))
    where
      go : (b : Bool) → cond (not b) (refuses BadGeometry) (cond (not b) (refuses BadGeometry) p) ≡ cond (not b) (refuses BadGeometry) p
      go true = refl
      go false = refl

  -- a table that says nothing of the file: the image is judged
  says_nothing : said_of t f ≡ mark → plan_read g s t f ≡ of_length t (judged g s t f)
  unfolding plan_read judged in_settled says_none shown_by says_file showing_or mark refuse
  says_nothing e =
      ap (λ (x : TableEntry). of_length t (in_geometry g s (refuse (says_none x) (Absent NotSaid) (showing_or (judged g s t f) (shown_by g (survey g s) x f))))) e
      ∙ ap (of_length t) (twice (when_settled (standing g (survey g s)) (refuse (not (is_usable t)) StaleTable (refuse (is_bad_file f) BadFile (refuses StaleTable)))))

  unusable_says : is_usable t ≡ false → said_of t f ≡ mark
  unfolding said_of
  unusable_says u = ap (λ (b : Bool). cond (b && not (is_bad_file f)) (get_or t f mark) mark) u

  bad_says : is_bad_file f ≡ true → said_of t f ≡ mark
  unfolding said_of
  bad_says b = go (is_usable t) (is_bad_file f) b
    where
      go : (u b : Bool) → b ≡ true → cond (u && not b) (get_or t f mark) mark ≡ mark
      go true true e = refl
      go false b e = refl
      go true false e = true_false false e refl

  good_says : is_usable t ≡ true → is_bad_file f ≡ false → said_of t f ≡ get_or t f mark
  unfolding said_of
  good_says u b = λ i. cond (u i && not (b i)) (get_or t f mark) mark

  unusable_exactly : is_usable t ≡ false → plan_read g s t f ≡ exactly g s t f
  unfolding judged exactly refuse
  unusable_exactly u =
      says_nothing (unusable_says u)
      ∙ ap (λ (b : Bool). of_length t (in_settled g s λ v. cond (not b) (refuses StaleTable) (refuse (is_bad_file f) BadFile (refuses StaleTable)))) u
      ∙ ap (λ (b : Bool). of_length t (in_settled g s λ v. cond (not b) (refuses StaleTable) (refuse (is_bad_file f) BadFile (showing NotSaid (committed_view f v))))) (sym u)

  usable_exactly : is_usable t ≡ true → standing g (survey g s) ≡ Settled → t ≡ fresh g s → plan_read g s t f ≡ exactly g s t f
  unfolding exactly in_settled
  usable_exactly u st e = go (is_bad_file f) refl
    where
      -- what exactly is, on a settled image and with a usable table
      rest : Plan
      rest = refuse (is_bad_file f) BadFile (showing NotSaid (committed_view f (survey g s)))

      is : of_length t (in_geometry g s rest) ≡ of_length t (in_geometry g s (when_settled (standing g (survey g s)) (refuse (not (is_usable t)) StaleTable rest)))
      is = unfold when_settled refuse in λ i. of_length t (in_geometry g s (when_settled (sym st i) (refuse (not (sym u i)) StaleTable rest)))

      bad : is_bad_file f ≡ true → of_length t (judged g s t f) ≡ of_length t (in_geometry g s rest)
      bad b = unfold judged in_settled when_settled refuse in
          (λ i. of_length t (in_geometry g s (when_settled (st i) (refuse (not (u i)) StaleTable (refuse (b i) BadFile (refuses StaleTable))))))
          ∙ (λ i. of_length t (in_geometry g s (refuse (sym b i) BadFile (showing NotSaid (committed_view f (survey g s))))))

      good : is_bad_file f ≡ false → (o : Option Entry) → committed_view f (survey g s) ≡ o → plan_read g s t f ≡ of_length t (in_geometry g s (refuse false BadFile (showing NotSaid o)))
      good b o q = unfold plan_read in
          ap (λ (x : TableEntry). of_length t (in_geometry g s (refuse (says_none x) (Absent NotSaid) (showing_or (judged g s t f) (shown_by g (survey g s) x f)))))
          (good_says u b ∙ ap (λ (y : Table). get_or y f mark) e ∙ fresh_at g s f (small_file g f b) ∙ ap entry_of q)
          ∙ two o q
        where
          two : (o : Option Entry) → committed_view f (survey g s) ≡ o
              → of_length t (in_geometry g s (refuse (says_none (entry_of o)) (Absent NotSaid) (showing_or (judged g s t f) (shown_by g (survey g s) (entry_of o) f)))) ≡ of_length t (in_geometry g s (refuse false BadFile (showing NotSaid o)))
          two none q = unfold entry_of says_none no_file refuse showing in refl
          two (some x) q = unfold entry_of says_none a_file refuse showing showing_or in ap (λ (y : Option Entry). of_length t (in_geometry g s (showing_or (judged g s t f) y))) (committed_shown g s st f x q)

      go : (b : Bool) → is_bad_file f ≡ b → plan_read g s t f ≡ of_length t (in_geometry g s (when_settled (standing g (survey g s)) (refuse (not (is_usable t)) StaleTable (refuse (is_bad_file f) BadFile (showing NotSaid (committed_view f (survey g s)))))))
      go true b = says_nothing (bad_says b) ∙ bad b ∙ is
      go false b = good b (committed_view f (survey g s)) refl ∙ (λ i. of_length t (in_geometry g s (refuse (sym b i) BadFile (showing NotSaid (committed_view f (survey g s)))))) ∙ is

  pub plan_exactly : (is_usable t ≡ true → (standing g (survey g s) ≡ Settled) × (t ≡ fresh g s)) → plan_read g s t f ≡ exactly g s t f
  plan_exactly h = go (is_usable t) refl
    where
      go : (b : Bool) → is_usable t ≡ b → plan_read g s t f ≡ exactly g s t f
      go true u = let k = h u in usable_exactly u k.0 k.1
      go false u = unusable_exactly u

-- ---- of any table and any image
-- Each decision of a read, with what is then so.
pub data Due (g : Geometry) (s : Bytes) (t : Table) (f : ℕ) : Plan → Type 0 where
  geometry : eqb (length t) 256 && is_geometry g (length s) ≡ false → Due g s t f (refuses BadGeometry)
  bad : standing g (survey g s) ≡ Neither → Due g s t f (refuses BadImage)
  unsettled : standing g (survey g s) ≡ Sound → Due g s t f (refuses Unsettled)
  stale : standing g (survey g s) ≡ Settled → t ≢ fresh g s → Due g s t f (refuses StaleTable)
  over : standing g (survey g s) ≡ Settled → is_usable t ≡ true → is_bad_file f ≡ true → Due g s t f (refuses BadFile)
  absent : is_usable t ≡ true → is_bad_file f ≡ false → Due g s t f (refuses (Absent NotSaid))
  shows' : is_geometry g (length s) ≡ true → is_bad_file f ≡ false → (e : Entry) → shown_by g (survey g s) (said_of t f) f ≡ some e → Due g s t f (shows e.at 0 e NotSaid)

module _ (g : Geometry) (s : Bytes) (t : Table) (f : ℕ) where
  -- what a table says of a file, it is usable for and the file is not over 255
  says_some : (x : TableEntry) → said_of t f ≡ x → says_none x || says_file x ≡ true → (is_usable t ≡ true) × (is_bad_file f ≡ false)
  unfolding said_of says_none says_file mark
  says_some x e h = go (is_usable t) (is_bad_file f) refl refl (ap (λ (y : TableEntry). says_none y || says_file y) e ∙ h)
    where
      go : (u b : Bool) → is_usable t ≡ u → is_bad_file f ≡ b → says_none (cond (u && not b) (get_or t f mark) mark) || says_file (cond (u && not b) (get_or t f mark) mark) ≡ true → (is_usable t ≡ true) × (is_bad_file f ≡ false)
      go true false p q z = (p, q)
      go true true p q z = true_false false z refl
      go false b p q z = true_false false z refl

  -- the fresh table of a settled image is not contradicted
  contradicted : standing g (survey g s) ≡ Settled → is_usable t ≡ true → is_bad_file f ≡ false → says_none (said_of t f) ≡ false → shown_by g (survey g s) (said_of t f) f ≡ none → t ≢ fresh g s
  unfolding entry_of says_none no_file
  contradicted st u b a z e = go (committed_view f (survey g s)) refl
    where
      is : said_of t f ≡ entry_of (committed_view f (survey g s))
      is = good_says g s t f u b ∙ ap (λ (y : Table). get_or y f mark) e ∙ fresh_at g s f (small_file g f b)

      go : (o : Option Entry) → committed_view f (survey g s) ≡ o → ⊥
      go none q = true_false (says_none (said_of t f)) (ap says_none (is ∙ ap entry_of q)) a
      go (some x) q = none_some x (sym z ∙ ap (λ (y : TableEntry). shown_by g (survey g s) y f) (is ∙ ap entry_of q) ∙ committed_shown g s st f x q)

  judged_due : is_geometry g (length s) ≡ true → says_none (said_of t f) ≡ false → shown_by g (survey g s) (said_of t f) f ≡ none → Due g s t f (judged g s t f)
  unfolding judged in_settled in_geometry refuse
  judged_due legal a z = subst (λ (b : Bool). Due g s t f (refuse (not b) BadGeometry (when_settled (standing g (survey g s)) (refuse (not (is_usable t)) StaleTable (refuse (is_bad_file f) BadFile (refuses StaleTable)))))) (sym legal) (go (standing g (survey g s)) (is_usable t) (is_bad_file f) refl refl refl)
    where
      go : (d : Standing) (u b : Bool) → standing g (survey g s) ≡ d → is_usable t ≡ u → is_bad_file f ≡ b → Due g s t f (when_settled d (refuse (not u) StaleTable (refuse b BadFile (refuses StaleTable))))
      go Neither u b p q r = unfold when_settled in bad p
      go Sound u b p q r = unfold when_settled in unsettled p
      go Settled false b p q r = unfold when_settled in stale p (λ e. true_false (is_usable t) (ap is_usable e ∙ fresh_usable g s) q)
      go Settled true true p q r = unfold when_settled in over p q r
      go Settled true false p q r = unfold when_settled in stale p (contradicted p q r a z)

  pub read_due : Due g s t f (plan_read g s t f)
  unfolding plan_read of_length in_geometry refuse
  read_due = go (eqb (length t) 256) (is_geometry g (length s)) (says_none (said_of t f)) (shown_by g (survey g s) (said_of t f) f) refl refl refl refl
    where
      go : (n l a : Bool) (o : Option Entry) → eqb (length t) 256 ≡ n → is_geometry g (length s) ≡ l → says_none (said_of t f) ≡ a → shown_by g (survey g s) (said_of t f) f ≡ o
          → Due g s t f (refuse (not n) BadGeometry (refuse (not l) BadGeometry (refuse a (Absent NotSaid) (showing_or (judged g s t f) o))))
      go false l a o p q r z = geometry (ap (λ (b : Bool). b && is_geometry g (length s)) p)
      go true false a o p q r z = geometry (λ i. p i && q i)
      go true true true o p q r z = let k = says_some (said_of t f) refl (ap (λ (b : Bool). b || says_file (said_of t f)) r) in absent k.0 k.1
      go true true false none p q r z = unfold showing_or in judged_due q r z
      go true true false (some e) p q r z =
          let k = shown.shows g s (said_of t f) f e z in
          unfold showing_or in shows' q (says_some (said_of t f) refl (ap (λ (b : Bool). b || says_file (said_of t f)) r ∙ k.says)).1 e z

  -- DONE, of a settled image: the plain read's answer
  pub done_right : standing g (survey g s) ≡ Settled → number (read_through g s t f).answer ≡ 0 → (read_through g s t f).answer ≡ (outcome g (read f) s).answer
  unfolding read_through with_table carry_out number outcome plan in_settled in_geometry when_settled refuse showing allowance
  done_right st = go read_due
    where
      go : {p : Plan} → Due g s t f p → number (carry_out p 0 s).answer ≡ 0 → (carry_out p 0 s).answer ≡ (outcome g (read f) s).answer
      go (geometry e) z = absurd (let w : ⊥ = omega arith in w)
      go (bad e) z = absurd (let w : ⊥ = omega arith in w)
      go (unsettled e) z = absurd (let w : ⊥ = omega arith in w)
      go (stale e h) z = absurd (let w : ⊥ = omega arith in w)
      go (over e h k) z = absurd (let w : ⊥ = omega arith in w)
      go (absent e h) z = absurd (let w : ⊥ = omega arith in w)
      go (shows' legal b e q) z = sym (reads_as legal b e (shown_committed g s st (said_of t f) f e q))
        where
          reads_as : is_geometry g (length s) ≡ true → is_bad_file f ≡ false → (e : Entry) → committed_view f (survey g s) ≡ some e → (outcome g (read f) s).answer ≡ Ok (shown e.at 0 e NotSaid)
          reads_as l b e c = λ i. (carry_out (refuse (not (l i)) BadGeometry (when_settled (st i) (refuse (b i) BadFile (showing NotSaid (c i))))) 0 s).answer

  -- DONE, of any image: the content lies in the image, and has at most 256 bytes
  pub done_inside : number (read_through g s t f).answer ≡ 0 → ((given (read_through g s t f).answer).start + (given (read_through g s t f).answer).len ≤ length s) × ((given (read_through g s t f).answer).len ≤ 256)
  unfolding read_through with_table carry_out number given shown
  done_inside = go read_due
    where
      at : (m start n : ℕ) → start + m ≤ n → cond (eqb m 0) 0 start + m ≤ n
      at m start n l = by (eqb m 0)
        where
          by : (b : Bool) → cond b 0 start + m ≤ n
          by true = omega arith
          by false = l

      go : {p : Plan} → Due g s t f p → number (carry_out p 0 s).answer ≡ 0 → ((given (carry_out p 0 s).answer).start + (given (carry_out p 0 s).answer).len ≤ length s) × ((given (carry_out p 0 s).answer).len ≤ 256)
      go (geometry e) z = absurd (let w : ⊥ = omega arith in w)
      go (bad e) z = absurd (let w : ⊥ = omega arith in w)
      go (unsettled e) z = absurd (let w : ⊥ = omega arith in w)
      go (stale e h) z = absurd (let w : ⊥ = omega arith in w)
      go (over e h k) z = absurd (let w : ⊥ = omega arith in w)
      go (absent e h) z = absurd (let w : ⊥ = omega arith in w)
      go (shows' legal b e q) z = let k = inside g s legal (said_of t f) f e (shown.shows g s (said_of t f) f e q) in (at e.descriptor.len e.start (length s) k.0, k.1)

  -- nothing is changed
  pub read_keeps : ((read_through g s t f).image ≡ s) × ((read_through g s t f).table ≡ t)
  unfolding read_through with_table carry_out number table_after
  read_keeps = go read_due
    where
      go : {p : Plan} → Due g s t f p → ((carry_out p 0 s).image ≡ s) × (table_after (carry_out p 0 s).answer t t ≡ t)
      go (geometry e) = (refl, refl)
      go (bad e) = (refl, refl)
      go (unsettled e) = (refl, refl)
      go (stale e h) = (refl, refl)
      go (over e h k) = (refl, refl)
      go (absent e h) = (refl, refl)
      go (shows' legal b e q) = (refl, refl)

  -- each refusal only where it is due
  pub record OnlyWhereDue (m : ℕ) : Type 0 where
    pub geometry' : m ≡ 2 → eqb (length t) 256 && is_geometry g (length s) ≡ false
    pub bad' : m ≡ 3 → standing g (survey g s) ≡ Neither
    pub unsettled' : m ≡ 4 → standing g (survey g s) ≡ Sound
    pub over' : m ≡ 5 → (standing g (survey g s) ≡ Settled) × (is_bad_file f ≡ true)
    pub stale' : m ≡ 12 → (standing g (survey g s) ≡ Settled) × (t ≢ fresh g s)

  pub only_where_due : OnlyWhereDue (number (read_through g s t f).answer)
  unfolding read_through with_table carry_out number
  only_where_due = go read_due
    where
      no : {A : Type 0} (m k : ℕ) → eqb m k ≡ false → m ≡ k → A
      no m k h e = true_false (eqb m k) (ap (eqb m) (sym e) ∙ eqb_same m) h

      go : {p : Plan} → Due g s t f p → OnlyWhereDue (number (carry_out p 0 s).answer)
      go (geometry e) = record { geometry' = λ z. e; bad' = λ z. no 2 3 refl z; unsettled' = λ z. no 2 4 refl z; over' = λ z. no 2 5 refl z; stale' = λ z. no 2 12 refl z }
      go (bad e) = record { geometry' = λ z. no 3 2 refl z; bad' = λ z. e; unsettled' = λ z. no 3 4 refl z; over' = λ z. no 3 5 refl z; stale' = λ z. no 3 12 refl z }
      go (unsettled e) = record { geometry' = λ z. no 4 2 refl z; bad' = λ z. no 4 3 refl z; unsettled' = λ z. e; over' = λ z. no 4 5 refl z; stale' = λ z. no 4 12 refl z }
      go (stale e h) = record { geometry' = λ z. no 12 2 refl z; bad' = λ z. no 12 3 refl z; unsettled' = λ z. no 12 4 refl z; over' = λ z. no 12 5 refl z; stale' = λ z. (e, h) }
      go (over e h k) = record { geometry' = λ z. no 5 2 refl z; bad' = λ z. no 5 3 refl z; unsettled' = λ z. no 5 4 refl z; over' = λ z. (e, k); stale' = λ z. no 5 12 refl z }
      go (absent e h) = record { geometry' = λ z. no 9 2 refl z; bad' = λ z. no 9 3 refl z; unsettled' = λ z. no 9 4 refl z; over' = λ z. no 9 5 refl z; stale' = λ z. no 9 12 refl z }
      go (shows' legal b e q) = record { geometry' = λ z. no 0 2 refl z; bad' = λ z. no 0 3 refl z; unsettled' = λ z. no 0 4 refl z; over' = λ z. no 0 5 refl z; stale' = λ z. no 0 12 refl z }
