-- Nothing committed: the map, each file's handle and the listing stay.
use Rattle.std.specs.Prelude.{cond, false, true, List, ◌++◌, ◌≡◌, refl, ◌+◌, ◌<◌, ◌≤◌, suc, zero, ℕ}
use Rattle.std.proofs.Common.{◌∙◌, ap, ap₂, sym, arith}
use Rattle.std.proofs.Math.Path.{subst}
use Rattle.rules.specs.Answers.{given}
use Rattle.rules.specs.Calls.{Call, abort, begin, mount, outcome, read}
use Rattle.rules.specs.Flash.{Bytes}
use Rattle.rules.specs.Histories.{Files, Plain, Reached, as_made, begun, dropped, follow, is_format, no_changes, takes_bytes}
use Rattle.rules.specs.Listing.{keyed, listed}
use Rattle.rules.specs.Plain.{Onward, count_from, here, is_shut, onward, plain_line, plain_lines, plain_listing, plainly, seen}
use Rattle.rules.specs.Settled.{survey}
use Rattle.rules.specs.Sound.{standing}
use Rattle.rules.specs.declared.Geometry.{Geometry}
use Rattle.rules.specs.declared.Handle.{Handle}
use Rattle.rules.specs.declared.Standing.TheVariants.{Settled}
use Rattle.theory.specs.Promised.Histories.{reached_holds}
use Rattle.promises.specs.Demands.{done_settles, lists_plainly}
use Rattle.promises.specs.Lists.{same_handle}
use Rattle.promises_screens.specs.Words.{Change, Makes, Rests, is_no_commit}
use Rattle.promises_screens.specs.Trips.{done_goes, trip_files, trip_reached, trip_unchanged}
use Rattle.promises_screens.specs.Made.{Open, body_goes}

-- ---- the listing, by handles
lines_same : (m : Files) (at at' : ℕ → Handle) → ((f : ℕ) → f < 256 → at f ≡ at' f) → (k f : ℕ) → f + k ≤ 256 → plain_lines k f m at ≡ plain_lines k f m at'
unfolding plain_lines
lines_same m at at' e zero f l = refl
lines_same m at at' e (suc k) f l = ap₂ (λ (x y : Bytes). x ++ y) (ap (plain_line f (m f)) (e f (omega arith))) (lines_same m at at' e k (suc f) (omega arith))

listing_same : (g : Geometry) (m : Plain) (at at' : ℕ → Handle) → ((f : ℕ) → f < 256 → at f ≡ at' f) → plain_listing g m at ≡ plain_listing g m at'
unfolding plain_listing
listing_same g m at at' e =
    ap (λ (x : Bytes). keyed "unit=" g.size ++ (keyed "units=" g.units ++ (keyed "open=" (cond (is_shut m.changes) 0 1) ++ (keyed "files=" (count_from 256 0 m.files) ++ x))))
    (lines_same m.files at at' e 256 0 (omega arith))

module _ (g : Geometry) {s t : Bytes} {m n : Plain} (r : Reached g s m) (w : Onward g is_no_commit s m t n) (before : standing g (survey g s) ≡ Settled) (after : standing g (survey g t) ≡ Settled) where
  pub handle_kept : (f : ℕ) → f < 256 → (given (outcome g (read f) t).answer).at ≡ (given (outcome g (read f) s).answer).at
  handle_kept f l = same_handle g (reached_holds g r) f l (trip_unchanged g f w) before after

  pub listing_kept : n.changes ≡ m.changes → listed g t ≡ listed g s
  listing_kept e =
      lists_plainly g t n (trip_reached g r w) after
      ∙ ap (λ (x : Plain). plain_listing g x (λ f. (given (outcome g (read f) t).answer).at)) all_same
      ∙ listing_same g m (λ f. (given (outcome g (read f) t).answer).at) (λ f. (given (outcome g (read f) s).answer).at) handle_kept
      ∙ sym (lists_plainly g s m r before)
    where
      all_same : n ≡ m
      all_same = λ i. record { files = trip_files g w i; changes = e i }

-- ---- a transaction that is dropped: by e, an abort or a mount
module _ (g : Geometry) {s : Bytes} {m : Plain} (r : Rests g s m) (e : Call) (nf : is_format e ≡ false) (by : takes_bytes e ≡ true) where
  drops_to : ((t : Bytes) (n : Plain) → is_no_commit e (outcome g e t) n ≡ true) → ((t : Bytes) (n : Plain) → plainly n (seen g e t) e ≡ dropped n)
      → {b : List Change} {t : Bytes} → Makes g s b e t → Rests g t m × (listed g t ≡ listed g s)
  unfolding begun dropped plainly is_no_commit is_format takes_bytes
  drops_to none_made drops {b} {t} w =
      subst (λ (x : Bytes). Rests g x m × (listed g x ≡ listed g s)) w.ends.image
      (record { reached = trip_reached g r.reached trip; settled = still; shut = r.shut }, listing_kept g r.reached trip r.settled still refl)
    where
      u : Bytes
      u = w.ends.before

      p : Open g r.reached u b no_changes
      p =
          body_goes g r.reached (subst (Onward g is_no_commit s m (outcome g (begin w.rule w.k) s).image) (done_goes g r.reached (begin w.rule w.k) refl w.begins) (onward (begin w.rule w.k) refl refl refl here as_made))
          no_changes refl w.ends.body

      q : Reached g u p.store
      q = trip_reached g r.reached p.trip

      goes : follow g e (outcome g e u) p.store ≡ m
      goes = done_goes g q e nf w.ends.done ∙ drops u p.store ∙ λ i. record { files = trip_files g p.trip i; changes = sym r.shut i }

      trip : Onward g is_no_commit s m (outcome g e u).image m
      trip = subst (Onward g is_no_commit s m (outcome g e u).image) goes (onward e nf by (none_made u p.store) p.trip as_made)

      still : standing g (survey g (outcome g e u).image) ≡ Settled
      still = done_settles g u p.store q e by w.ends.done

pub aborted_keeps : (g : Geometry) {s : Bytes} {m : Plain} → Rests g s m → {b : List Change} {k : ℕ} {t : Bytes} → Makes g s b (abort k) t → Rests g t m × (listed g t ≡ listed g s)
unfolding is_format takes_bytes is_no_commit plainly
aborted_keeps g r {k = k} w = drops_to g r (abort k) refl refl (λ t n. refl) (λ t n. refl) w

pub mounted_keeps : (g : Geometry) {s : Bytes} {m : Plain} → Rests g s m → {b : List Change} {k : ℕ} {t : Bytes} → Makes g s b (mount k) t → Rests g t m × (listed g t ≡ listed g s)
unfolding is_format takes_bytes is_no_commit plainly
mounted_keeps g r {k = k} w = drops_to g r (mount k) refl refl (λ t n. refl) (λ t n. refl) w
