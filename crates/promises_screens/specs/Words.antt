-- What the laws for the screens speak of.
use Rattle.std.specs.Prelude.{Bool, cond, not, true, List, [], ◌++◌, ◌∷◌, ◌≡◌, ℕ, eqb, ltb}
use Rattle.std.proofs.Math.Option.{Option, none, some}
use Rattle.rules.specs.Answers.{Outcome, content, given, number}
use Rattle.rules.specs.Calls.{Call, abort, begin, commit, delete, format, mount, outcome, read, read_at, read_open, write}
use Rattle.rules.specs.Flash.{Bytes}
use Rattle.rules.specs.Histories.{Changes, Files, Plain, Reached, takes_bytes}
use Rattle.rules.specs.Settled.{survey}
use Rattle.rules.specs.Sound.{standing}
use Rattle.rules.specs.declared.Geometry.{Geometry}
use Rattle.rules.specs.declared.Rule.{Rule}
use Rattle.rules.specs.declared.Standing.TheVariants.{Settled}

-- A change is a file and a content, or a file and "deleted" (none).
pub record Change : Type 0 where
  pub file : ℕ
  pub to : Option Bytes

-- As a call, by a rule: a write of the content, or a delete.
unfoldable pub call_to : Rule → ℕ → Option Bytes → ℕ → Call
call_to q f (some x) k = write q f x k
call_to q f none k = delete q f k

unfoldable pub call_of : Rule → Change → ℕ → Call
call_of q c k = call_to q c.file c.to k

-- The later of two changes of a file; a body's last change of each file, or none.
unfoldable pub later : Option (Option Bytes) → Option (Option Bytes) → Option (Option Bytes)
later none x = x
later (some y) x = some y

unfoldable pub last : List Change → Changes
last [] f = none
last (c ∷ b) f = later (last b f) (cond (eqb f c.file) (some c.to) none)

-- A read, or a call that is refused: it changes nothing.
unfoldable pub is_idle : Call → Outcome → Bool
is_idle (format k) o = ltb 1 (number o.answer)
is_idle (mount k) o = ltb 1 (number o.answer)
is_idle (begin rule k) o = ltb 1 (number o.answer)
is_idle (commit k) o = ltb 1 (number o.answer)
is_idle (abort k) o = ltb 1 (number o.answer)
is_idle (write rule f c k) o = ltb 1 (number o.answer)
is_idle (delete rule f k) o = ltb 1 (number o.answer)
is_idle (read f) o = true
is_idle (read_open f) o = true
is_idle (read_at L p) o = true

-- A call that is no commit, or a commit that made no step.
unfoldable pub is_no_commit : Call → Outcome → Plain → Bool
is_no_commit (format k) o m = true
is_no_commit (mount k) o m = true
is_no_commit (begin rule k) o m = true
is_no_commit (commit k) o m = not (ltb 0 (given o.answer).steps)
is_no_commit (abort k) o m = true
is_no_commit (write rule f c k) o m = true
is_no_commit (delete rule f k) o m = true
is_no_commit (read f) o m = true
is_no_commit (read_open f) o m = true
is_no_commit (read_at L p) o m = true

module _ (g : Geometry) where
  -- The changes of a body, one after the other, each by any rule and with any allowance, each DONE; what changes nothing may stand between.
  pub data Body : Bytes → List Change → Bytes → Type 0 where
    whole : {s : Bytes} → Body s [] s
    change : {s t : Bytes} {b : List Change} (c : Change) (q : Rule) (k : ℕ) → takes_bytes (call_of q c k) ≡ true → number (outcome g (call_of q c k) s).answer ≡ 0
        → Body (outcome g (call_of q c k) s).image b t → Body s (c ∷ b) t
    idly : {s t : Bytes} {b : List Change} (c : Call) → is_idle c (outcome g c s) ≡ true → Body (outcome g c s).image b t → Body s b t

  -- A body and then the call e, which is DONE and leaves t.
  pub record Ends (s : Bytes) (b : List Change) (e : Call) (t : Bytes) : Type 0 where
    pub before : Bytes
    pub body : Body s b before
    pub done : number (outcome g e before).answer ≡ 0
    pub image : (outcome g e before).image ≡ t

  -- A transaction: a DONE begin, a body, and e.
  pub record Makes (s : Bytes) (b : List Change) (e : Call) (t : Bytes) : Type 0 where
    pub rule : Rule
    pub k : ℕ
    pub begins : number (outcome g (begin rule k) s).answer ≡ 0
    pub ends : Ends (outcome g (begin rule k) s).image b e t

  -- Any number of committed transactions in a row, their bodies one behind the other; what changes nothing may stand between.
  pub data Commits : Bytes → List Change → Bytes → Type 0 where
    nothing : {s : Bytes} → Commits s [] s
    makes : {s t u : Bytes} {b c : List Change} (k : ℕ) → Makes s b (commit k) t → Commits t c u → Commits s (b ++ c) u
    meanwhile : {s t : Bytes} {b : List Change} (c : Call) → is_idle c (outcome g c s) ≡ true → Commits (outcome g c s).image b t → Commits s b t

  -- An image that a history reaches, with the plain store m, is at rest: settled, and no transaction is open.
  pub record Rests (s : Bytes) (m : Plain) : Type 0 where
    pub reached : Reached g s m
    pub settled : standing g (survey g s) ≡ Settled
    pub shut : m.changes ≡ none

  -- It is at rest, and these are its files.
  pub record Shows (s : Bytes) (files : Files) : Type 0 where
    pub store : Plain
    pub rests : Rests s store
    pub same : (f : ℕ) → store.files f ≡ files f

-- Two images at rest, of two geometries even, have the same map.
pub record Same (g : Geometry) (s : Bytes) (h : Geometry) (u : Bytes) : Type 0 where
  pub files : Files
  pub here : Shows g s files
  pub there : Shows h u files

-- As the screens read it: of every file number the same number and the same content.
pub record ReadAlike (g : Geometry) (s : Bytes) (h : Geometry) (u : Bytes) (f : ℕ) : Type 0 where
  pub numbers : number (outcome g (read f) s).answer ≡ number (outcome h (read f) u).answer
  pub contents : content (outcome g (read f) s) ≡ content (outcome h (read f) u)

-- One side's last change p of a file x and the other's q: they are the same, or p is a deletion of a file that was not there, and q is none.
pub data Alike (x : Option Bytes) (p q : Option (Option Bytes)) : Type 0 where
  alike : p ≡ q → Alike x p q
  left_out : x ≡ none → p ≡ some none → q ≡ none → Alike x p q
