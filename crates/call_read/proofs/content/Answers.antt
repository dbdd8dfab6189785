use Rattle.std.proofs.Common.{◌≡◌, ◌+◌, [], Err, ap, refl, sym, ◌∙◌, add-zero, ℕ}
use Rattle.rules.specs.Flash.{Bytes}
use Rattle.rules.specs.Answers.{given, nothing}
use Rattle.rules.specs.declared.NotDone.{NotDone}
use Rattle.rules.specs.declared.NotDone.TheVariants.{Stopped, Absent}
use Rattle.call_read.specs.Shapes.{part_of, start_of}
use Rattle.call_read.specs.Parts.{part_none, start_none}
use Rattle.call_read.proofs.content.Goals as goal

-- every answer but DONE gives no content
empty : (e : NotDone) (s : Bytes) → ([] ≡ part_of s (given (Err e)).start (given (Err e)).len) × (0 ≡ start_of s (given (Err e)).start (given (Err e)).len)
unfolding given nothing
empty (Stopped k) s = (part_none s, start_none s)
empty (Absent w) s = (part_none s, start_none s)
empty e s = (part_none s, start_none s)

pub returns-in-Ok : goal.returns-in-Ok
unfolding given
returns-in-Ok c = rw c.in-Ok.is c.part.ensures

pub returns-in-Err : goal.returns-in-Err
returns-in-Err c =
    let e = empty c.in-Err.field-0 c.args.image.now in
    rw c.in-Err.is (e.0, refl, sym (add-zero _) ∙ ap (λ (x : ℕ). c.args.image.ref_ptr.1 + x) e.1)
