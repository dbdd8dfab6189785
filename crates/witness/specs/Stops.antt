-- A mount that was stopped, however often, ends at the image of one that was not.
use Rattle.std.specs.Prelude.{List, [], ◌∷◌, ◌≡◌, refl, ℕ}
use Rattle.rules.specs.Opened.{opened}
use Rattle.rules.specs.Answers.{number}
use Rattle.rules.specs.Calls.{Call, begin, mount, outcome, write}
use Rattle.rules.specs.declared.Rule.TheVariants.{Tightest}
use Rattle.witness.specs.Short.{MountsDone, StopsDoNotMatter, abc, full, image, plenty, small}

-- Unit 0 has an old sector of 256 bytes, unit 1 file 2. File 3 takes a reclaim of unit 0, of whose fourteen steps one is made: the
-- transaction and file 7 are to be copied. Then nine mounts of one step each. Were the copy begun anew, the first would erase it,
-- and the later ones would find nothing to move.
abbrev pub moving_copy : List Call
moving_copy = begin Tightest plenty ∷ write Tightest 1 full 4 ∷ mount plenty ∷ begin Tightest plenty ∷ write Tightest 7 abc plenty ∷ write Tightest 2 full plenty ∷ write Tightest 3 full 1 ∷ []

abbrev pub nine : List ℕ
nine = 1 ∷ 1 ∷ 1 ∷ 1 ∷ 1 ∷ 1 ∷ 1 ∷ 1 ∷ 1 ∷ []

pub moving_mounts : MountsDone moving_copy
unfolding opened
moving_mounts = refl

pub nine_stops : StopsDoNotMatter moving_copy nine
unfolding opened
nine_stops = refl

-- Nine steps do not suffice, so none of the nine is DONE.
pub nine_are_stopped : number (outcome small (mount 9) (image moving_copy)).answer ≡ 1
unfolding opened
nine_are_stopped = refl

-- A write is stopped where its descriptor is allocated, and the mount after one step. Were it made FFF0 by the first mount and 0000
-- by the next, which finds no transaction open, the image would tell how often the power went.
abbrev pub allocated_left : List Call
allocated_left = begin Tightest plenty ∷ write Tightest 7 abc 4 ∷ []

pub allocated_mounts : MountsDone allocated_left
unfolding opened
allocated_mounts = refl

pub allocated_stop : StopsDoNotMatter allocated_left (1 ∷ [])
unfolding opened
allocated_stop = refl
