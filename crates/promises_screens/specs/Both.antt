-- Two stores with the same map, and what each makes of it.
use Rattle.std.specs.Prelude.{List, ◌++◌, ◌≡◌, ℕ}
use Rattle.std.proofs.Math.Option.{some}
use Rattle.std.proofs.Common.{◌∙◌, ap, ap₂, sym}
use Rattle.rules.specs.Calls.{commit}
use Rattle.rules.specs.Flash.{Bytes}
use Rattle.rules.specs.Histories.{Changes, Plain, Reached, laid_down, unless}
use Rattle.rules.specs.declared.Geometry.{Geometry}
use Rattle.promises_screens.specs.Words.{Alike, Change, Ends, Makes, Rests, Same, Shows, last, later}
use Rattle.promises_screens.specs.Maps.{laid_alike, laid_twice}
use Rattle.promises_screens.specs.Made.{ends_committed, makes_committed}

pub both_show : (g : Geometry) (s : Bytes) (h : Geometry) (u : Bytes) (w : Same g s h u) (b d : List Change) {s' u' : Bytes}
    → Shows g s' (laid_down (last b) w.here.store.files) → Shows h u' (laid_down (last d) w.there.store.files) → ((f : ℕ) → Alike (w.files f) (last b f) (last d f)) → Same g s' h u'
unfolding laid_down
both_show g s h u w b d p q e =
    record {
      files = laid_down (last b) w.files;
      here = record { store = p.store; rests = p.rests; same = λ f. p.same f ∙ ap (unless (last b f)) (w.here.same f) };
      there =
          record {
            store = q.store;
            rests = q.rests;
            same = λ f. q.same f ∙ ap (unless (last d f)) (w.there.same f) ∙ sym (laid_alike (w.files f) (last b f) (last d f) (e f));
          };
    }

-- two transactions show what one with both bodies shows
pub twice_shows : (g : Geometry) {s x t : Bytes} {m : Plain} → Rests g s m → {a b : List Change} {i j : ℕ} → Makes g s a (commit i) x → Makes g x b (commit j) t → Shows g t (laid_down (last (a ++ b)) m.files)
unfolding laid_down
twice_shows g {m = m} r {a} {b} v w =
    let p = makes_committed g r.reached v in
    let q = makes_committed g p.rests.reached w in
    record { store = q.store; rests = q.rests; same = λ f. q.same f ∙ ap (unless (last b f)) (p.same f) ∙ laid_twice a b m.files f }

-- inside two open transactions with the same changes
pub both_end : (g : Geometry) {s : Bytes} {m : Plain} (h : Geometry) {u : Bytes} {n : Plain} → Reached g s m → Reached h u n → (o p : Changes) → m.changes ≡ some o → n.changes ≡ some p
    → ((f : ℕ) → m.files f ≡ n.files f) → ((f : ℕ) → o f ≡ p f) → {b c : List Change} {j k : ℕ} {s' u' : Bytes} → Ends g s b (commit j) s' → Ends h u c (commit k) u'
    → ((f : ℕ) → last b f ≡ last c f) → Same g s' h u'
both_end g {m = m} h {n = n} r q o p has has' files changes {b} {c} v w e =
    let x = ends_committed g r o has v in
    let y = ends_committed h q p has' w in
    record {
      files = λ f. unless (later (last b f) (o f)) (m.files f);
      here = x;
      there =
          record {
            store = y.store;
            rests = y.rests;
            same = λ f. y.same f ∙ sym (ap₂ unless (ap₂ later (e f) (changes f)) (files f));
          };
    }
