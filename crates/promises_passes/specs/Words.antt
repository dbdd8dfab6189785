-- What the promises speak of: the calls that giving makes, what the plain store says of a give, and the histories of the piece.
use Rattle.std.specs.Prelude.{◌≡◌, Bool, true, false, not, cond, ◌&&◌, ◌||◌, List, [], ◌∷◌, ◌++◌, ℕ, zero, suc, ◌+◌, eqb, leb, ltb, length}
use Rattle.std.proofs.Math.Option.{Option, none, some}
use Rattle.rules.specs.Flash.{Bytes, Step}
use Rattle.rules.specs.Answers.{given, number}
use Rattle.rules.specs.Calls.{Call, abort, begin, commit, delete, format, list_of, mount, outcome, read, read_at, read_open, write}
use Rattle.rules.specs.Histories.{Changes, Files, MayLeave, Plain, changed, follow, is_format, laid_down, no_changes, no_files, takes_bytes}
use Rattle.rules.specs.Plain.{Seen, is_shut, plain_after, plain_number, seen}
use Rattle.rules.specs.declared.Geometry.{Geometry}
use Rattle.rules.specs.declared.Rule.TheVariants.{Tightest}
use Rattle.pass_rules.specs.Texts.{StaffList, pass_text, register_in, register_text, staff_in}
use Rattle.pass_rules.specs.Give.{Looked, counted, finds, give, listed, next, not_full, parts, refuses, two_of}

-- ---- calls one behind the other
unfoldable pub is_commit : Call → Bool
is_commit (format k) = false
is_commit (mount k) = false
is_commit (begin rule k) = false
is_commit (commit k) = true
is_commit (abort k) = false
is_commit (write rule f c k) = false
is_commit (delete rule f k) = false
is_commit (read f) = false
is_commit (read_open f) = false
is_commit (read_at L p) = false

module _ (g : Geometry) where
  -- The image that they leave, what they make of the plain store, and what of each image an answer may depend on.
  unfoldable pub image_after : List Call → Bytes → Bytes
  image_after [] s = s
  image_after (c ∷ cs) s = image_after cs (outcome g c s).image

  unfoldable pub follow_all : List Call → Bytes → Plain → Plain
  follow_all [] s m = m
  follow_all (c ∷ cs) s m = let o = outcome g c s in follow_all cs o.image (follow g c o m)

  unfoldable pub seen_all : List Call → Bytes → List Seen
  seen_all [] s = []
  seen_all (c ∷ cs) s = seen g c s ∷ seen_all cs (outcome g c s).image

  -- What they may leave: what the last of them may leave. Nothing follows a stop, so each of the others leaves what its steps leave.
  pub data MayLeaveAll : List Call → Bytes → Bytes → Type 0 where
    nothing : {s : Bytes} → MayLeaveAll [] s s
    by_last : {s u : Bytes} (c : Call) → MayLeave g c s u → MayLeaveAll (c ∷ []) s u
    and_then : {s u : Bytes} (c : Call) {d : Call} {cs : List Call} → MayLeaveAll (d ∷ cs) (outcome g c s).image u → MayLeaveAll (c ∷ d ∷ cs) s u

  -- A commit among them made its commit step, which is its first.
  unfoldable pub is_committed : List Call → Bytes → Bool
  is_committed [] s = false
  is_committed (c ∷ cs) s = let o = outcome g c s in (is_commit c && ltb 0 (given o.answer).steps) || is_committed cs o.image

-- ---- what the plain store says of a give
-- An absent list is 20, an absent register counts 0.
unfoldable pub plain_list : Option Bytes → Looked StaffList
plain_list none = refuses 20
plain_list (some c) = listed (staff_in c)

unfoldable pub plain_count : Option Bytes → Looked ℕ
plain_count none = finds 0
plain_count (some c) = counted (register_in c)

-- 4 where the image is not settled, 8 where a transaction is open; then the list, the two people, the register.
unfoldable pub plain_look : Bool → Plain → ℕ → ℕ → Looked ℕ
plain_look settled m first second =
    elim settled [
      | true ↦ elim (is_shut m.changes) [
        | true ↦ next (plain_list (m.files 0)) λ l. two_of first second l.people (next (plain_count (m.files 1)) not_full)
        | false ↦ refuses 8
      ]
      | false ↦ refuses 4
    ]

-- A number, and the plain store after it.
pub record Ended : Type 0 where
  pub number : ℕ
  pub store : Plain

-- What of an image an answer may depend on, first come first used; none is left only where no call is.
unfoldable pub first_seen : List Seen → Seen
first_seen [] = record { settled = true; room = true; enough = true; file = none; ended = false }
first_seen (x ∷ xs) = x

unfoldable pub later_seen : List Seen → List Seen
later_seen [] = []
later_seen (x ∷ xs) = xs

-- Refused midway: the abort.
unfoldable pub plain_midway : ℕ → List Seen → Plain → Ended
plain_midway r xs m =
    let n = plain_number m (first_seen xs) (abort 0) in
    record { number = cond (eqb n 1) 1 r; store = plain_after m (first_seen xs) (abort 0) }

unfoldable pub plain_parts : List (ℕ → Call) → List Seen → Plain → Ended
plain_parts [] xs m = record { number = 0; store = m }
plain_parts (c ∷ cs) xs m =
    let n = plain_number m (first_seen xs) (c 0) in
    let t = plain_after m (first_seen xs) (c 0) in
    elim (eqb n 0) [
      | true ↦ plain_parts cs (later_seen xs) t
      | false ↦ elim (eqb n 1) [ true ↦ record { number = 1; store = t } | false ↦ plain_midway n (later_seen xs) t ]
    ]

unfoldable pub plain_starts : List (ℕ → Call) → List Seen → Plain → Ended
plain_starts cs xs m =
    let n = plain_number m (first_seen xs) (begin Tightest 0) in
    let t = plain_after m (first_seen xs) (begin Tightest 0) in
    elim (eqb n 0) [ true ↦ plain_parts cs (later_seen xs) t | false ↦ record { number = n; store = t } ]

unfoldable pub plain_gives : ℕ → ℕ → Looked ℕ → List Seen → Plain → Ended
plain_gives first second (refuses r) xs m = record { number = r; store = m }
plain_gives first second (finds n) xs m = plain_starts (parts n first second) xs m

-- ---- the map with a pass
-- The pass of number n and the raised count.
unfoldable pub pass_changes : ℕ → ℕ → ℕ → Changes
pass_changes n first second = changed 1 (some (register_text (n + 1))) (changed (2 + n) (some (pass_text n first second)) no_changes)

unfoldable pub with_pass : ℕ → ℕ → ℕ → Files → Files
with_pass n first second files = laid_down (pass_changes n first second) files

-- ---- the list of steps
module _ (g : Geometry) where
  -- A call's image once all its steps are made.
  unfoldable pub whole : (ℕ → Call) → Bytes → Bytes
  whole c s = (outcome g (c (length (list_of g (c 0) s))) s).image

  unfoldable pub refused : (ℕ → Call) → Bytes → Bool
  refused c s = leb 2 (number (outcome g (c 0) s).answer)

  -- The parts' lists one behind the other; where one is refused, the abort's.
  unfoldable pub steps_from : List (ℕ → Call) → Bytes → List Step
  steps_from [] s = []
  steps_from (c ∷ cs) s = elim (refused c s) [ true ↦ list_of g (abort 0) s | false ↦ list_of g (c 0) s ++ steps_from cs (whole c s) ]

  unfoldable pub steps_of_give : ℕ → ℕ → Looked ℕ → Bytes → List Step
  steps_of_give first second (refuses r) s = []
  steps_of_give first second (finds n) s =
      elim (refused (begin Tightest) s) [ true ↦ [] | false ↦ list_of g (begin Tightest 0) s ++ steps_from (parts n first second) (whole (begin Tightest) s) ]

-- ---- histories of the piece
-- A pass whose commit step was made: its two people, and the content of file 0 before it was given.
pub record Pass : Type 0 where
  pub first : ℕ
  pub second : ℕ
  pub list : Option Bytes

-- An image, its plain store, the passes whose commit step was made, oldest first, and whether a mount is owed.
pub record Held : Type 0 where
  pub image : Bytes
  pub store : Plain
  pub passes : List Pass
  pub owed : Bool

-- Only this piece writes files 1 to 127.
unfoldable pub is_ours : ℕ → Bool
is_ours f = leb 1 f && leb f 127

unfoldable pub is_others : Call → Bool
is_others (format k) = true
is_others (mount k) = true
is_others (begin rule k) = true
is_others (commit k) = true
is_others (abort k) = true
is_others (write rule f c k) = not (is_ours f)
is_others (delete rule f k) = not (is_ours f)
is_others (read f) = true
is_others (read_open f) = true
is_others (read_at L p) = true

unfoldable pub is_mount : Call → Bool
is_mount (format k) = false
is_mount (mount k) = true
is_mount (begin rule k) = false
is_mount (commit k) = false
is_mount (abort k) = false
is_mount (write rule f c k) = false
is_mount (delete rule f k) = false
is_mount (read f) = false
is_mount (read_open f) = false
is_mount (read_at L p) = false

unfoldable pub is_read : Call → Bool
is_read (format k) = false
is_read (mount k) = false
is_read (begin rule k) = false
is_read (commit k) = false
is_read (abort k) = false
is_read (write rule f c k) = false
is_read (delete rule f k) = false
is_read (read f) = true
is_read (read_open f) = true
is_read (read_at L p) = true

-- While a mount is owed only a mount or a read is called; a DONE mount pays it.
unfoldable pub is_allowed : Bool → Call → Bool
is_allowed owed c = not owed || (is_mount c || is_read c)

unfoldable pub still_owed : Bool → Call → ℕ → Bool
still_owed owed c n = owed && not (is_mount c && eqb n 0)

-- A pass more where its commit step was made.
unfoldable pub grown : Bool → List Pass → Pass → List Pass
grown made ps p = cond made (ps ++ (p ∷ [])) ps

-- After a call, or a give, that left the image u.
module _ (g : Geometry) (u : Bytes) where
  unfoldable pub after_call : Call → Held → Held
  after_call c h =
      let o = outcome g c h.image in
      record { image = u; store = follow g c o h.store; passes = h.passes; owed = still_owed h.owed c (number o.answer) }

  -- The plain store follows the calls that giving is made of; a mount is owed where it is STOPPED.
  unfoldable pub after_give : ℕ → ℕ → ℕ → Held → Held
  after_give first second k h =
      let w = give g k first second h.image in
      record {
        image = u;
        store = follow_all g w.calls h.image h.store;
        passes = grown (is_committed g w.calls h.image) h.passes (record { first = first; second = second; list = h.store.files 0 });
        owed = eqb w.number 1;
      }

module _ (g : Geometry) where
  -- Any call of the store but format, that writes and deletes none of files 1 to 127; and any give, unless a mount is owed; each from any
  -- image that the turn before may leave.
  pub data Turn (h : Held) : Held → Type 0 where
    called : {u : Bytes} (c : Call) → is_format c ≡ false → takes_bytes c ≡ true → is_others c ≡ true → is_allowed h.owed c ≡ true → MayLeave g c h.image u → Turn h (after_call g u c h)
    gave : {u : Bytes} (first second k : ℕ) → h.owed ≡ false → MayLeaveAll g (give g k first second h.image).calls h.image u → Turn h (after_give g u first second k h)

  -- From a finished format of any bytes on.
  pub data Kept : Held → Type 0 where
    formatted : (s : Bytes) (k : ℕ) → number (outcome g (format k) s).answer ≡ 0 → Kept (record { image = (outcome g (format k) s).image; store = no_files; passes = []; owed = false })
    turned : {h t : Held} → Kept h → Turn h t → Kept t

  -- Any further turns.
  pub data Later (h : Held) : Held → Type 0 where
    here : Later h h
    later : {t u : Held} → Later h t → Turn t u → Later h u

-- ---- what the files then are
unfoldable pub nth : ℕ → List Pass → Option Pass
nth i [] = none
nth zero (p ∷ ps) = some p
nth (suc i) (p ∷ ps) = nth i ps

-- `pass=` i, `first=`, `second=`; and `count=`, absent meaning 0.
unfoldable pub pass_file : ℕ → Option Pass → Option Bytes
pass_file i none = none
pass_file i (some p) = some (pass_text i p.first p.second)

unfoldable pub register_file : List Pass → Option Bytes
register_file [] = none
register_file (p ∷ ps) = some (register_text (length (p ∷ ps)))
