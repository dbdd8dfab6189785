-- What holds of every image that a call may leave. No other proof looks into what a stop may leave.
use Rattle.std.specs.Prelude.{◌≢◌, ◌≡◌, refl}
use Rattle.rules.specs.Answers.{number}
use Rattle.rules.specs.Calls.{Call, outcome}
use Rattle.rules.specs.Flash.{Bytes}
use Rattle.rules.specs.Histories.{MayLeave, as_made}
use Rattle.rules.specs.declared.Geometry.{Geometry}

-- what holds of the image that a call's steps leave holds of whatever it may leave
pub leave_holds : (P : Bytes → Type 0) (g : Geometry) (c : Call) (s : Bytes) → P (outcome g c s).image → {t : Bytes} → MayLeave g c s t → P t
leave_holds P g c s p as_made = p

-- a call that is not STOPPED leaves the image that its steps leave, and no other
pub unstopped_leaves : (g : Geometry) (c : Call) (s : Bytes) → number (outcome g c s).answer ≢ 1 → {t : Bytes} → MayLeave g c s t → t ≡ (outcome g c s).image
unstopped_leaves g c s n as_made = refl
