-- What mount asks of an image: that it is sound, and a table names its homes.
use Rattle.std.specs.Prelude.{◌≡◌, List, ℕ, ◌≤◌, length}
use Rattle.rules.specs.Flash.{Bytes}
use Rattle.rules.specs.Unit.{is_pending_file}
use Rattle.rules.specs.Settled.{survey, select}
use Rattle.rules.specs.Sound.{standing}
use Rattle.rules.specs.declared.Geometry.{Geometry}
use Rattle.rules.specs.declared.Standing.TheVariants.{Neither}
use Rattle.index.specs.Shapes.{Homed}
use Rattle.index.specs.Known.{few_pending}

-- the image is sound, and the table names its homes
pub record Mendable (g : Geometry) (s : Bytes) (home : List ℕ) : Type 0 where
  pub sound : standing g (survey g s) ≡ Neither → ⊥
  pub homed : Homed g s home
  pub few : length (select is_pending_file (survey g s)) ≤ 257

pub mendable : (g : Geometry) (s : Bytes) (home : List ℕ) → (standing g (survey g s) ≡ Neither → ⊥) → Homed g s home → Mendable g s home
mendable g s home sound homed = record { sound = sound; homed = homed; few = few_pending g s homed.right sound }
