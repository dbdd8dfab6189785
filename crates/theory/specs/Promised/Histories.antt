-- Histories: what every image that a history reaches is, beside the plain store and its handles.
use Rattle.std.specs.Prelude.{Bool, cond, false, true, List, [], ◌∷◌, ◌≡◌, refl, ℕ, eqb, ltb}
use Rattle.std.proofs.Math.Option.{Option, none, some}
use Rattle.std.proofs.Common.{◌∙◌, ap, subst, sym, arith}
use Rattle.rules.specs.Answers.{Outcome, given, number}
use Rattle.rules.specs.Calls.{Call, abort, begin, commit, delete, format, has_none, mount, outcome, read, read_at, read_open, write}
use Rattle.rules.specs.Flash.{Bytes}
use Rattle.rules.specs.Histories.{Changes, MayLeave, Plain, Reached, begun, called, changed, changed_to, committed, dropped, ended_in, follow, formatted, is_done, is_format, laid_down, no_changes, no_files, takes_bytes, unless}
use Rattle.rules.specs.Lists.{all, filter, is_none}
use Rattle.rules.specs.Settled.{Entry, pairs, pick, select, survey}
use Rattle.rules.specs.Unit.{is_open}
use Rattle.rules.specs.declared.Geometry.{Geometry}
use Rattle.theory.specs.Base.Stops.{leave_holds}
use Rattle.theory.specs.Tidying.Sorted.{OrderlyE, View, sorted, unfinished}
use Rattle.theory.specs.Tidying.Held.{HeldEntries, held_map}
use Rattle.theory.specs.Mounting.Formatted.{format_held}
use Rattle.theory.specs.Mounting.Kept.{KeptImage, calmly}
use Rattle.theory.specs.Meaning.Means.{Drafts, Keeping, Means, bytes_of, laid_on, with_open}
use Rattle.theory.specs.Meaning.MeansEnds.{commits}
use Rattle.theory.specs.Meaning.MeansMount.{Inv, held_lists, lists_of}
use Rattle.theory.specs.Meaning.StoreFinal.{changes_to}
use Rattle.theory.specs.Promised.Follow.{follows, keep}

-- ---- the plain store, without the handles
abbrev pub change_in : Option (Option View) → Option (Option Bytes)
change_in none = none
change_in (some x) = some (bytes_of x)

abbrev pub changes_in : Option Drafts → Option Changes
changes_in none = none
changes_in (some o) = some (λ f. change_in (o f))

abbrev pub plain : Keeping → Plain
plain b = record { files = λ f. bytes_of (b.files f); changes = changes_in b.changes }

pub plain_open : (b : Keeping) (l : List Entry) → plain (with_open b l) ≡ cond (is_none l) (dropped (plain b)) (plain b)
unfolding is_none dropped
plain_open b [] = refl
plain_open b (t ∷ ts) = refl

plain_changes : (b : Keeping) (f : ℕ) (x : Option View) → plain (changes_to f x b) ≡ changed_to (plain b) f (bytes_of x) (plain b).changes
unfolding changed_to changed
plain_changes b f x = go b.changes refl
  where
    each : (o : Drafts) (c : Bool) (h : ℕ) → change_in (cond c (some x) (o h)) ≡ cond c (some (bytes_of x)) (change_in (o h))
    each o true h = refl
    each o false h = refl

    go : (o : Option Drafts) → b.changes ≡ o
        → plain (record { files = b.files; changes = elim o as (λ j. Option Drafts) [ none ↦ none | some o ↦ some (λ h. cond (eqb h f) (some x) (o h)) ] }) ≡ changed_to (plain b) f (bytes_of x) (changes_in o)
    go none e = λ i. record { files = λ h. bytes_of (b.files h); changes = sym (ap changes_in e) i }
    go (some o) e = λ i. record { files = λ h. bytes_of (b.files h); changes = some (λ h. each o (eqb h f) h i) }

pub plain_laid : (o : Option (Option View)) (x : Option View) → bytes_of (laid_on o x) ≡ unless (change_in o) (bytes_of x)
unfolding unless
plain_laid none x = refl
plain_laid (some y) x = refl

plain_commits : (b : Keeping) → plain (commits b) ≡ committed (plain b) (plain b).changes
unfolding committed laid_down
plain_commits b = go b.changes refl
  where
    go : (o : Option Drafts) → b.changes ≡ o
        → plain (record { files = elim o as (λ j. ℕ → Option View) [ none ↦ b.files | some o ↦ λ f. laid_on (o f) (b.files f) ]; changes = none }) ≡ committed (plain b) (changes_in o)
    go none e = λ i. record { files = λ h. bytes_of (b.files h); changes = sym (ap changes_in e) i }
    go (some o) e = λ i. record { files = λ f. plain_laid (o f) (b.files f) i; changes = none }

-- call by call it is the definitions' plain store
pub plain_follows : (g : Geometry) (c : Call) (o : Outcome) (b : Keeping) → plain (keep g c o b) ≡ follow g c o (plain b)
unfolding follow ended_in has_none begun no_changes is_done
plain_follows g (format k) o b = refl
plain_follows g (mount k) o b = plain_open b (select is_open (survey g o.image))
plain_follows g (abort k) o b = plain_open b (select is_open (survey g o.image))
plain_follows g (begin rule k) o b = go (eqb (number o.answer) 0)
  where
    go : (d : Bool) → plain (cond d (record { files = b.files; changes = some (λ f. none) }) b) ≡ cond d (begun (plain b)) (plain b)
    go true = refl
    go false = refl
plain_follows g (commit k) o b = go (ltb 0 (given o.answer).steps)
  where
    go : (d : Bool) → plain (cond d (commits b) b) ≡ cond d (committed (plain b) (plain b).changes) (plain b)
    go true = plain_commits b
    go false = refl
plain_follows g (write rule f c k) o b = go (eqb (number o.answer) 0)
  where
    go : (d : Bool) → plain (cond d (changes_to f (some (record { at = (given o.answer).at; content = c })) b) b) ≡ cond d (changed_to (plain b) f (some c) (plain b).changes) (plain b)
    go true = plain_changes b f (some (record { at = (given o.answer).at; content = c }))
    go false = refl
plain_follows g (delete rule f k) o b = go (eqb (number o.answer) 0)
  where
    go : (d : Bool) → plain (cond d (changes_to f none b) b) ≡ cond d (changed_to (plain b) f none (plain b).changes) (plain b)
    go true = plain_changes b f none
    go false = refl
plain_follows g (read f) o b = refl
plain_follows g (read_open f) o b = refl
plain_follows g (read_at L p) o b = refl

-- ---- THE invariant: the image is kept, and means the plain store and its handles
pub record Holds (g : Geometry) (s : Bytes) (m : Plain) : Type 0 where
  pub store : Keeping
  pub inv : Inv g store s
  pub is : plain store ≡ m

abbrev pub holds_called : (g : Geometry) {s t : Bytes} {m : Plain} (c : Call) → is_format c ≡ false → takes_bytes c ≡ true → Holds g s m → MayLeave g c s t → Holds g t (follow g c (outcome g c s) m)
holds_called g {s} {t} {m} c n by h l =
    record {
      store = keep g c (outcome g c s) h.store;
      inv = leave_holds (Inv g (keep g c (outcome g c s) h.store)) g c s (follows g h.store c s n by h.inv) l;
      is = plain_follows g c (outcome g c s) h.store ∙ ap (follow g c (outcome g c s)) h.is;
    }

pub reached_holds : (g : Geometry) {s : Bytes} {m : Plain} → Reached g s m → Holds g s m
unfolding pick filter pairs all no_files
reached_holds g (formatted s k e) =
    record {
      store = record { files = λ f. none; changes = none };
      inv = record { kept = calmly (held_map g (λ l. l ≡ []) OrderlyE (λ l e. subst OrderlyE (sym e) nothing_there) t h); means = subst (Means nothing) (sym lists) nothing_meant };
      is = refl;
    }
  where
    nothing : Keeping
    nothing = record { files = λ f. none; changes = none }

    t : Bytes
    t = (outcome g (format k) s).image

    h : HeldEntries g (λ l. l ≡ []) t
    h = format_held g s k e

    lists : lists_of g t ≡ sorted []
    lists = held_lists g (λ l. l ≡ []) t h ∙ ap sorted h.holds

    nothing_there : OrderlyE []
    nothing_there = unfinished (record { committed = refl; opened = omega arith; current = refl; data' = refl; torn = omega arith; beside = λ e. absurd (let w : ⊥ = omega (arith, e) in w) })

    nothing_meant : Means (record { files = λ f. none; changes = none }) (sorted [])
    nothing_meant = record { weakly = record { files = λ f. refl; matches = tt }; alone = λ e. refl }
reached_holds g (called c n by r l) = holds_called g c n by (reached_holds g r) l

pub reached_kept : (g : Geometry) {s : Bytes} {m : Plain} → Reached g s m → KeptImage g s
reached_kept g r = (reached_holds g r).inv.kept
