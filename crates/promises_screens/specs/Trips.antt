-- Calls that commit nothing: the plain store's files stay, whatever is stopped or refused.
use Rattle.std.specs.Prelude.{Bool, ◌&&◌, false, not, true, ◌≡◌, refl, ℕ, eqb, ltb}
use Rattle.std.proofs.Math.Bool.{cond}
use Rattle.std.proofs.Math.Option.{Option, none, some}
use Rattle.std.proofs.Common.{◌∙◌, sym}
use Rattle.std.proofs.Math.Path.{ap}
use Rattle.rules.specs.Answers.{Outcome, given, number}
use Rattle.rules.specs.Calls.{Call, abort, allowance, begin, commit, delete, format, has_none, mount, outcome, read, read_at, read_open, write}
use Rattle.rules.specs.Flash.{Bytes}
use Rattle.rules.specs.Histories.{Changes, Plain, Reached, begun, called, changed_to, committed, dropped, ended_in, follow, is_done, is_format}
use Rattle.laws.specs.Calls.{call_refused}
use Rattle.laws.specs.Runs.{applied}
use Rattle.rules.specs.Plain.{Onward, cut_short, has_change, here, is_unchanged, onward, plain_after, plain_number, plainly, seen}
use Rattle.rules.specs.Settled.{survey}
use Rattle.rules.specs.declared.Geometry.{Geometry}
use Rattle.theory.specs.Base.Facts.{lt_of, true_false}
use Rattle.promises.specs.Demands.{answers_plainly, by_its_list, goes_on_plainly}
use Rattle.promises_screens.specs.Words.{is_idle, is_no_commit}

-- ---- what a call makes of the plain store, by its number
module _ (g : Geometry) {s : Bytes} {m : Plain} (r : Reached g s m) (c : Call) (n : is_format c ≡ false) where
  number_is : plain_number m (seen g c s) c ≡ number (outcome g c s).answer
  number_is = sym (answers_plainly g s m r c).0

  after_is : (k : ℕ) → number (outcome g c s).answer ≡ k → follow g c (outcome g c s) m ≡ cond (eqb k 0) (plainly m (seen g c s) c) (cond (eqb k 1) (cut_short m (seen g c s) c) m)
  unfolding plain_after
  after_is k e =
      goes_on_plainly g s m r c n
      ∙ ap (λ (i : ℕ). cond (eqb i 0) (plainly m (seen g c s) c) (cond (eqb i 1) (cut_short m (seen g c s) c) m)) (number_is ∙ e)

  pub done_goes : number (outcome g c s).answer ≡ 0 → follow g c (outcome g c s) m ≡ plainly m (seen g c s) c
  done_goes e = after_is 0 e

-- ---- a call that changes nothing changes no byte
refused : (g : Geometry) (c : Call) (s : Bytes) → ltb 1 (number (outcome g c s).answer) ≡ true → (outcome g c s).image ≡ s
refused g c s l = (call_refused g c s (lt_of 1 (number (outcome g c s).answer) l)).image

pub idle_same : (g : Geometry) (c : Call) (s : Bytes) → is_idle c (outcome g c s) ≡ true → (outcome g c s).image ≡ s
unfolding is_idle allowance applied
idle_same g (format k) s i = refused g (format k) s i
idle_same g (mount k) s i = refused g (mount k) s i
idle_same g (begin rule k) s i = refused g (begin rule k) s i
idle_same g (commit k) s i = refused g (commit k) s i
idle_same g (abort k) s i = refused g (abort k) s i
idle_same g (write rule f c k) s i = refused g (write rule f c k) s i
idle_same g (delete rule f k) s i = refused g (delete rule f k) s i
idle_same g (read f) s i = (by_its_list g (read f) s).0
idle_same g (read_open f) s i = (by_its_list g (read_open f) s).0
idle_same g (read_at L p) s i = (by_its_list g (read_at L p) s).0

-- ---- a call that commits nothing
leaves_unchanged : (f : ℕ) (c : Call) (o : Outcome) (m : Plain) → is_no_commit c o m ≡ true → is_unchanged f c o m ≡ true
unfolding is_no_commit is_unchanged
leaves_unchanged f (format k) o m i = refl
leaves_unchanged f (mount k) o m i = refl
leaves_unchanged f (begin rule k) o m i = refl
leaves_unchanged f (commit k) o m i = go (ltb 0 (given o.answer).steps) i
  where
    go : (b : Bool) → not b ≡ true → not (b && has_change f m.changes) ≡ true
    go true h = true_false false h refl
    go false h = refl
leaves_unchanged f (abort k) o m i = refl
leaves_unchanged f (write rule h c k) o m i = refl
leaves_unchanged f (delete rule h k) o m i = refl
leaves_unchanged f (read h) o m i = refl
leaves_unchanged f (read_open h) o m i = refl
leaves_unchanged f (read_at L p) o m i = refl

one_of : (b : Bool) (x y : Plain) → x.files ≡ y.files → (cond b x y).files ≡ y.files
one_of true x y e = e
one_of false x y e = refl

changed_files : (m : Plain) (f : ℕ) (x : Option Bytes) (o : Option Changes) → (changed_to m f x o).files ≡ m.files
unfolding changed_to
changed_files m f x none = refl
changed_files m f x (some o) = refl

same_files : (g : Geometry) (c : Call) (o : Outcome) (m : Plain) → is_no_commit c o m ≡ true → (follow g c o m).files ≡ m.files
unfolding is_no_commit follow ended_in begun dropped
same_files g (format k) o m i = refl
same_files g (mount k) o m i = one_of (has_none (survey g o.image)) (dropped m) m refl
same_files g (begin rule k) o m i = one_of (is_done o) (begun m) m refl
same_files g (commit k) o m i = go (ltb 0 (given o.answer).steps) i
  where
    go : (b : Bool) → not b ≡ true → (cond b (committed m m.changes) m).files ≡ m.files
    go true h = true_false false h refl
    go false h = refl
same_files g (abort k) o m i = one_of (has_none (survey g o.image)) (dropped m) m refl
same_files g (write rule f c k) o m i = one_of (is_done o) (changed_to m f (some c) m.changes) m (changed_files m f (some c) m.changes)
same_files g (delete rule f k) o m i = one_of (is_done o) (changed_to m f none m.changes) m (changed_files m f none m.changes)
same_files g (read f) o m i = refl
same_files g (read_open f) o m i = refl
same_files g (read_at L p) o m i = refl

-- ---- any number of them
module _ (g : Geometry) {s : Bytes} {m : Plain} where
  pub trip_reached : {t : Bytes} {n : Plain} → Reached g s m → Onward g is_no_commit s m t n → Reached g t n
  trip_reached r here = r
  trip_reached r (onward c nf by ok w l) = called c nf by (trip_reached r w) l

  pub trip_files : {t : Bytes} {n : Plain} → Onward g is_no_commit s m t n → n.files ≡ m.files
  trip_files here = refl
  trip_files (onward {t = t} {n = n} c nf by ok w l) = same_files g c (outcome g c t) n ok ∙ trip_files w

  pub trip_unchanged : (f : ℕ) {t : Bytes} {n : Plain} → Onward g is_no_commit s m t n → Onward g (is_unchanged f) s m t n
  trip_unchanged f here = here
  trip_unchanged f (onward {t = t} {n = n} c nf by ok w l) = onward c nf by (leaves_unchanged f c (outcome g c t) n ok) (trip_unchanged f w) l
