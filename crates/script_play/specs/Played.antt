-- The script: what each line does, and what it answers.
use Rattle.std.specs.Prelude.{Option, Some, None, cond, is_some, unwrap_or}
use Rattle.rules.specs.Flash.{Bytes}
use Rattle.rules.specs.Listing.{listed}
use Rattle.rules.specs.Calls.{outcome}
use Rattle.rules.specs.Calls as calls
use Rattle.rules.specs.declared.Geometry.{Geometry}
use Rattle.script.specs.Commands.{command}
use Rattle.script.specs.declared.command.ImageChange.{ImageChange}
use Rattle.script.specs.declared.command.Command.{Command}
use Rattle.script.specs.declared.command.Command.TheVariants.{Change as changing, Call as calling, Judge, List as listing, Pass as passing}
use Rattle.script_state.specs.State.{changed, with_image}
use Rattle.script_state.specs.declared.Session.{Session}
use Rattle.script_answers.specs.Result.{result_line}
use Rattle.script_calls.specs.Called.{call_of}
use Rattle.script_looks.specs.Looked.{said, verdict, joined}
use Rattle.script_passes.specs.Answered.{image_after, answer_to}

-- The image afterwards, and the result line.
pub record Effect : Type 0 where
  pub image : Bytes
  pub answer : Bytes

-- A call of document 01, or none.
unfoldable pub effect : Geometry → Bytes → Option calls.Call → Effect
effect g s None = record { image = s; answer = said "error" }
effect g s (Some c) = let o = outcome g c s in record { image = o.image; answer = result_line o.answer o.image }

-- The session afterwards, and the line that answers.
pub record Played : Type 0 where
  pub state : Session
  pub answer : Bytes

unfoldable pub geometry : Session → Geometry
geometry σ = record { size = σ.now.size; units = σ.now.units }

-- `ok`, or `error` and no change.
unfoldable pub played_change : Session → ImageChange → Played
played_change σ c = record { state = unwrap_or (changed c σ) σ; answer = cond (is_some (changed c σ)) (said "ok") (said "error") }

-- What a command does; where there is none, nothing, and the answer is `error`.
unfoldable pub played_as : Session → Option Command → Played
played_as σ None = record { state = σ; answer = said "error" }
played_as σ (Some (changing c)) = played_change σ c
played_as σ (Some (calling c)) =
    let e = effect (geometry σ) σ.now.image (call_of c) in
    record { state = with_image σ e.image; answer = e.answer }
played_as σ (Some Judge) = record { state = σ; answer = verdict (geometry σ) σ.now.image }
played_as σ (Some listing) = record { state = σ; answer = joined (listed (geometry σ) σ.now.image) }
played_as σ (Some (passing c)) =
    record { state = with_image σ (image_after (geometry σ) σ.now.image c); answer = answer_to (geometry σ) σ.now.image c }

-- A line, without its line feed, played.
unfoldable pub played : Session → Bytes → Played
played σ line = played_as σ (command line)
