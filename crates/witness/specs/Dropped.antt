-- The screens' law of a transaction that is dropped.
use Rattle.std.specs.Prelude.{List, [], ◌++◌, ◌∷◌, ◌≡◌, refl}
use Rattle.rules.specs.Opened.{opened}
use Rattle.rules.specs.Answers.{given}
use Rattle.rules.specs.Calls.{Call, abort, begin, commit, delete, mount, outcome, write}
use Rattle.rules.specs.declared.Rule.TheVariants.{Tightest}
use Rattle.witness.specs.Short.{AllDone, ListsAlike, MountsDone, abc, abd, image, plenty, small}

-- File 7 is committed. Then file 9 is written and file 7 deleted, and all that aborted. Were an abort to leave file 9 current, the
-- listing would have it.
abbrev pub committed_seven : List Call
committed_seven = begin Tightest plenty ∷ write Tightest 7 abc plenty ∷ commit plenty ∷ []

abbrev pub then_aborted : List Call
then_aborted = begin Tightest plenty ∷ write Tightest 9 abd plenty ∷ delete Tightest 7 plenty ∷ abort plenty ∷ []

pub aborted_done : AllDone (committed_seven ++ then_aborted)
unfolding opened
aborted_done = refl

pub aborted_listing : ListsAlike (committed_seven ++ then_aborted) committed_seven
unfolding opened
aborted_listing = refl

-- The same where a mount takes the abort's place.
abbrev pub then_mounted : List Call
then_mounted = begin Tightest plenty ∷ write Tightest 9 abd plenty ∷ mount plenty ∷ []

pub mounted_done : AllDone (committed_seven ++ then_mounted)
unfolding opened
mounted_done = refl

pub mounted_listing : ListsAlike (committed_seven ++ then_mounted) committed_seven
unfolding opened
mounted_listing = refl

-- The same with a write that is stopped and a commit that is refused.
abbrev pub then_stopped : List Call
then_stopped = begin Tightest plenty ∷ write Tightest 9 abd 3 ∷ commit plenty ∷ []

pub stopped_commits_none : (given (outcome small (commit plenty) (image (committed_seven ++ (begin Tightest plenty ∷ write Tightest 9 abd 3 ∷ [])))).answer).steps ≡ 0
unfolding opened
stopped_commits_none = refl

pub stopped_mounts : MountsDone (committed_seven ++ then_stopped)
unfolding opened
stopped_mounts = refl

pub stopped_listing : ListsAlike (committed_seven ++ (then_stopped ++ (mount plenty ∷ []))) committed_seven
unfolding opened
stopped_listing = refl
