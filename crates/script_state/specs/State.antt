-- The script: the commands that change the image, its geometry numbers and what is remembered of them, and are no calls.
use Rattle.std.specs.Prelude.{Option, Some, None, cond, ltb, replicate, option_map}
use Rattle.rules.specs.Flash.{Bytes}
use Rattle.script.specs.declared.command.ImageChange.{ImageChange}
use Rattle.script.specs.declared.command.ImageChange.TheVariants.{New, Size, Put, Keep, Back}
use Rattle.script_state.specs.Images.{HeldImage, none_held, with_bytes, whole, sized, put_at}
use Rattle.script_state.specs.declared.Session.{Session}

-- At the start: an empty image, 0 and 0.
abbrev pub begun : Session
begun = record { now = none_held; kept = none_held }

-- Another image is there.
abbrev pub with_now : Session → HeldImage → Session
with_now σ h = record { now = h; kept = σ.kept }

-- The image has other bytes.
abbrev pub with_image : Session → Bytes → Session
with_image σ s = with_now σ (with_bytes σ.now s)

-- None where a number is out of its range.
unfoldable pub changed : ImageChange → Session → Option Session
changed (New size units) σ = Some (with_now σ (record { size = size; units = units; image = replicate (whole size units) 255 }))
changed (Size n) σ = cond (ltb 65600 n) None (Some (with_image σ (sized n σ.now.image)))
changed (Put offset byte) σ = option_map (with_image σ) (put_at offset byte σ.now.image)
changed Keep σ = Some (record { now = σ.now; kept = σ.now })
changed Back σ = Some (record { now = σ.kept; kept = σ.kept })
