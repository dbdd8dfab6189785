-- What the conditions over all homes count: none, one or several.
use Rattle.std.specs.Prelude.{Bool, true, false, not, ◌&&◌, ◌||◌, cond, if◌then◌else◌, List, [], ◌∷◌, ℕ, eqb, get_or, map, take, drop, set, replicate}
use Rattle.rules.specs.Unit.{Descriptor, is_torn, is_allocated, is_open, is_committed, is_pending_file, is_current_file, is_data, file_of}
use Rattle.counts.specs.declared.Few.{Few}
use Rattle.counts.specs.declared.Few.TheVariants.{Zero}
use Rattle.counts.specs.Few.{is_none, is_one, is_several, one_more}
use Rattle.counts.specs.declared.Tally.{Tally}
use Rattle.counts.specs.declared.Class.{Class}
use Rattle.counts.specs.declared.Class.TheVariants.{Idle, Unfinished, Open, Committed, Pending, Current, Wrong}

-- what a descriptor counts as: torn or allocated; open; committed; pending data or mark; current data; something else that is current
unfoldable pub class_of : Descriptor → Class
class_of d =
    if is_torn d || is_allocated d then Unfinished
    else if is_open d then Open
    else if is_committed d then Committed
    else if is_pending_file d then Pending
    else if is_current_file d then (if is_data d then Current else Wrong)
    else Idle

-- the tally, with the files that have a pending descriptor and those that have a current one
pub data TallyNotes : Type 0 where
  notes : Tally → List Bool → List Bool → TallyNotes

-- a place is marked
abbrev pub is_marked : ℕ → Bool
is_marked m = not (eqb m 0)

-- a mark for each file with a pending descriptor, and behind these one for each with a current one
abbrev pub noted : Tally → List ℕ → TallyNotes
noted c marks = notes c (take 256 (map is_marked marks)) (drop 256 (map is_marked marks))

-- one more where the file was seen before
abbrev pub again : List Bool → ℕ → Few → Few
again seen f n = cond (get_or seen f false) (one_more n) n

abbrev pub note_as : Class → ℕ → TallyNotes → TallyNotes
note_as Idle f t = t
note_as Unfinished f (notes c ps cs) = notes (record c { unfinished = one_more c.unfinished }) ps cs
note_as Open f (notes c ps cs) = notes (record c { opened = one_more c.opened }) ps cs
note_as Committed f (notes c ps cs) = notes (record c { committed = one_more c.committed }) ps cs
note_as Pending f (notes c ps cs) = notes (record c { pending = one_more c.pending; twice = again ps f c.twice }) (set ps f true) cs
note_as Current f (notes c ps cs) = notes (record c { wrong = again cs f c.wrong }) ps (set cs f true)
note_as Wrong f (notes c ps cs) = notes (record c { wrong = one_more c.wrong }) ps cs

unfoldable pub tallied : List Descriptor → TallyNotes → TallyNotes
tallied [] t = t
tallied (d ∷ ds) t = tallied ds (note_as (class_of d) (file_of d) t)

abbrev pub nothing : TallyNotes
nothing = notes (record { unfinished = Zero; committed = Zero; opened = Zero; pending = Zero; twice = Zero; wrong = Zero }) (replicate 256 false) (replicate 256 false)

abbrev pub tally_of : TallyNotes → Tally
tally_of (notes c ps cs) = c

-- pending ones stand beside an open transaction
abbrev pub beside : Tally → Bool
beside c = is_one c.opened || is_none c.pending

-- a file has at most one pending descriptor, and at most one current, which is data
abbrev pub single : Tally → Bool
single c = is_none c.twice && is_none c.wrong

-- settled, as to the descriptors
abbrev pub quiet : Tally → Bool
quiet c = is_none c.unfinished && is_none c.committed && not (is_several c.opened) && beside c && is_none c.twice && is_none c.wrong

-- the first group: one torn or allocated; or one file with two pending, or pending ones with no transaction, or both
abbrev pub is_first : Tally → Bool
is_first c =
    is_none c.committed && not (is_several c.opened) && is_none c.wrong
    && ((is_one c.unfinished && beside c && is_none c.twice) || (is_none c.unfinished && not (is_several c.twice)))

-- the second: one committed, none open
abbrev pub is_second : Tally → Bool
is_second c = is_none c.unfinished && is_one c.committed && is_none c.opened && is_none c.twice && is_none c.wrong
