-- What is known of a settled image: its homes by their table, and its remaining unit.
use Rattle.std.specs.Prelude.{◌≡◌, refl, true, List, ℕ, ◌≤◌, ◌<◌, length}
use Rattle.rules.specs.Flash.{Bytes, is_geometry}
use Rattle.rules.specs.Unit.{is_pending_file}
use Rattle.rules.specs.Settled.{Survey, survey, select}
use Rattle.rules.specs.Sound.{standing}
use Rattle.rules.specs.Answers.{Plan}
use Rattle.rules.specs.Calls.{in_settled}
use Rattle.rules.specs.declared.Geometry.{Geometry}
use Rattle.rules.specs.declared.Standing.TheVariants.{Settled, Neither}
use Rattle.home_table.specs.Places.{places_of}
use Rattle.judge.specs.Judged.{unit_in}
use Rattle.index.specs.Shapes.{Homed}
use Rattle.index.specs.Known.{few_pending, sound_homed}
use Rattle.call_look.specs.Guards.{plan_settled, settled_sound}

-- the image is settled, and the table names its homes
pub record Known (g : Geometry) (s : Bytes) (homes : List ℕ) : Type 0 where
  pub settled : standing g (survey g s) ≡ Settled
  pub homed : Homed g s homes

-- its remaining unit is the one that stands n-th
pub record Remaining (g : Geometry) (s : Bytes) (n : ℕ) : Type 0 where
  pub last : n < g.units
  pub spare : (survey g s).spare ≡ unit_in g s n

pub settled_known : (g : Geometry) (s : Bytes) → is_geometry g (length s) ≡ true → standing g (survey g s) ≡ Settled → Known g s (places_of g.size g.units s)
settled_known g s k t = record { settled = t; homed = sound_homed g s k (settled_sound (standing g (survey g s)) t) (places_of g.size g.units s) refl }

module _ {g : Geometry} {s : Bytes} {homes : List ℕ} (k : Known g s homes) where
  pub known_sound : standing g (survey g s) ≡ Neither → ⊥
  known_sound = settled_sound (standing g (survey g s)) k.settled

  -- it has what an index asks
  pub known_few : length (select is_pending_file (survey g s)) ≤ 257
  known_few = few_pending g s k.homed.right known_sound

  -- a call goes by what is read of it
  pub known_plan : (f : Survey → Plan) → in_settled g s f ≡ f (survey g s)
  known_plan f = plan_settled g s f k.homed.right k.settled
