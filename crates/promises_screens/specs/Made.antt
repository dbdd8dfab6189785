-- What bodies and transactions make of the plain store.
use Rattle.std.specs.Prelude.{false, true, List, ◌≡◌, ℕ}
use Rattle.std.proofs.Math.Option.{Option, none, some}
use Rattle.std.proofs.Common.{◌∙◌, ap₂, subst, sym}
use Rattle.std.proofs.Math.Path.{ap, refl}
use Rattle.rules.specs.Answers.{number}
use Rattle.rules.specs.Calls.{begin, commit, outcome}
use Rattle.rules.specs.Flash.{Bytes}
use Rattle.rules.specs.Histories.{Changes, Files, Plain, Reached, as_made, begun, called, changed, changed_to, committed, follow, is_format, laid_down, no_changes, takes_bytes, unless}
use Rattle.rules.specs.Plain.{Onward, here, onward, plainly, seen}
use Rattle.rules.specs.declared.Geometry.{Geometry}
use Rattle.rules.specs.declared.Rule.{Rule}
use Rattle.promises.specs.Demands.{done_settles}
use Rattle.promises_screens.specs.Words.{Body, Change, Commits, Ends, Makes, Rests, Shows, call_of, call_to, change, idly, is_no_commit, last, later, makes, meanwhile, nothing, whole}
use Rattle.promises_screens.specs.Maps.{laid_twice, last_over, later_none}
use Rattle.promises_screens.specs.Trips.{done_goes, idle_same, trip_files, trip_reached}

-- ---- the call of a change
call_fine : (q : Rule) (f : ℕ) (x : Option Bytes) (k : ℕ) → is_format (call_to q f x k) ≡ false
unfolding call_to is_format
call_fine q f none k = refl
call_fine q f (some x) k = refl

call_commits_none : (q : Rule) (f : ℕ) (x : Option Bytes) (k : ℕ) (g : Geometry) (s : Bytes) (m : Plain) → is_no_commit (call_to q f x k) (outcome g (call_to q f x k) s) m ≡ true
unfolding call_to is_no_commit
call_commits_none q f none k g s m = refl
call_commits_none q f (some x) k g s m = refl

call_makes : (q : Rule) (f : ℕ) (x : Option Bytes) (k : ℕ) (g : Geometry) (s : Bytes) (m : Plain) → plainly m (seen g (call_to q f x k) s) (call_to q f x k) ≡ changed_to m f x m.changes
unfolding call_to plainly
call_makes q f none k g s m = refl
call_makes q f (some x) k g s m = refl

module _ (g : Geometry) {s : Bytes} {m : Plain} (r : Reached g s m) where
  -- the image t after a body b over the changes o
  pub record Open (t : Bytes) (b : List Change) (o : Changes) : Type 0 where
    pub store : Plain
    pub trip : Onward g is_no_commit s m t store
    pub over : Changes
    pub has : store.changes ≡ some over
    pub changes : (f : ℕ) → over f ≡ later (last b f) (o f)

  pub body_goes : {u t : Bytes} {n : Plain} {b : List Change} → Onward g is_no_commit s m u n → (o : Changes) → n.changes ≡ some o → Body g u b t → Open t b o
  unfolding call_of last later changed_to
  body_goes {n = n} w o e whole = record { store = n; trip = w; over = o; has = e; changes = λ f. refl }
  body_goes {u} {n = n} w o e (change {b = b} c q k by z rest) =
      let p = body_goes (subst (Onward g is_no_commit s m (outcome g (call_to q c.file c.to k) u).image) made (onward (call_to q c.file c.to k) (call_fine q c.file c.to k) by (call_commits_none q c.file c.to k g u n) w as_made))
      (changed c.file c.to o) refl rest in
      record { store = p.store; trip = p.trip; over = p.over; has = p.has; changes = λ f. p.changes f ∙ last_over c b o f }
    where
      made : follow g (call_to q c.file c.to k) (outcome g (call_to q c.file c.to k) u) n ≡ record { files = n.files; changes = some (changed c.file c.to o) }
      made =
          done_goes g (trip_reached g r w) (call_to q c.file c.to k) (call_fine q c.file c.to k) z
          ∙ call_makes q c.file c.to k g u n
          ∙ ap (changed_to n c.file c.to) e
  body_goes {u} {n = n} w o e (idly c i rest) = body_goes (subst (λ (x : Bytes). Onward g is_no_commit s m x n) (sym (idle_same g c u i)) w) o e rest

-- a body, and then a commit
pub ends_committed : (g : Geometry) {s : Bytes} {m : Plain} → Reached g s m → (o : Changes) → m.changes ≡ some o → {b : List Change} {k : ℕ} {t : Bytes} → Ends g s b (commit k) t
    → Shows g t (λ f. unless (later (last b f) (o f)) (m.files f))
unfolding committed laid_down is_format takes_bytes plainly
ends_committed g {s} {m} r o e {b} {k} {t} w =
    subst (λ (x : Bytes). Shows g x (λ f. unless (later (last b f) (o f)) (m.files f))) w.image
    (record {
      store = after;
      rests =
          record {
            reached = subst (Reached g (outcome g (commit k) w.before).image) goes (called (commit k) refl refl q as_made);
            settled = done_settles g w.before p.store q (commit k) refl w.done;
            shut = refl;
          };
      same = λ f. ap₂ unless (p.changes f) (ap (λ (x : Files). x f) (trip_files g p.trip));
    })
  where
    p : Open g r w.before b o
    p = body_goes g r here o e w.body

    q : Reached g w.before p.store
    q = trip_reached g r p.trip

    after : Plain
    after = record { files = laid_down p.over p.store.files; changes = none }

    goes : follow g (commit k) (outcome g (commit k) w.before) p.store ≡ after
    goes = done_goes g q (commit k) refl w.done ∙ ap (committed p.store) p.has

-- 0. a transaction
pub begun_reached : (g : Geometry) {s : Bytes} {m : Plain} → Reached g s m → (rule : Rule) (k : ℕ) → number (outcome g (begin rule k) s).answer ≡ 0 → Reached g (outcome g (begin rule k) s).image (begun m)
unfolding is_format takes_bytes plainly
begun_reached g {s} r rule k z = subst (Reached g (outcome g (begin rule k) s).image) (done_goes g r (begin rule k) refl z) (called (begin rule k) refl refl r as_made)

pub makes_committed : (g : Geometry) {s : Bytes} {m : Plain} → Reached g s m → {b : List Change} {k : ℕ} {t : Bytes} → Makes g s b (commit k) t → Shows g t (laid_down (last b) m.files)
unfolding begun no_changes laid_down
makes_committed g {s} {m} r {b} w =
    let p = ends_committed g (begun_reached g r w.rule w.k w.begins) no_changes refl w.ends in
    record { store = p.store; rests = p.rests; same = λ f. p.same f ∙ ap (λ (x : Option (Option Bytes)). unless x (m.files f)) (later_none (last b f)) }

-- any number of transactions in a row
pub commits_shows : (g : Geometry) {s : Bytes} {m : Plain} → Rests g s m → {b : List Change} {t : Bytes} → Commits g s b t → Shows g t (laid_down (last b) m.files)
unfolding last laid_down unless
commits_shows g {m = m} r nothing = record { store = m; rests = r; same = λ f. refl }
commits_shows g {m = m} r (makes {b = b} {c = c} k w rest) =
    let p = makes_committed g r.reached w in
    let q = commits_shows g p.rests rest in
    record { store = q.store; rests = q.rests; same = λ f. q.same f ∙ ap (λ (x : Option Bytes). unless (last c f) x) (p.same f) ∙ laid_twice b c m.files f }
commits_shows g {s} {m} r (meanwhile c i rest) = commits_shows g (subst (λ (x : Bytes). Rests g x m) (sym (idle_same g c s i)) r) rest
