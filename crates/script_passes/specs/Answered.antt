-- The script: what the lines about pass lists do, and what they answer.
use Rattle.std.specs.Prelude.{[], ◌∷◌, ◌++◌}
use Rattle.rules.specs.Flash.{Bytes}
use Rattle.rules.specs.Text.{lf}
use Rattle.rules.specs.declared.Geometry.{Geometry}
use Rattle.pass_rules.specs.Give.{give, give_look, staff_look, register_look, pass_report, staff_report, register_report}
use Rattle.pass_rules.specs.declared.PassReport.{PassReport}
use Rattle.pass_rules.specs.declared.StaffReport.{StaffReport}
use Rattle.pass_rules.specs.declared.RegisterReport.{RegisterReport}
use Rattle.script_answers.specs.Result.{pair, hash_of}
use Rattle.script.specs.declared.command.PassLine.{PassLine}
use Rattle.script.specs.declared.command.PassLine.TheVariants.{Give, Staff, Register}

-- `number=N steps=K pass=P image=H`; H is a hash of the image afterwards.
unfoldable pub given_line : PassReport → Bytes → Bytes
given_line r s = pair "number=" r.number ++ pair " steps=" r.steps ++ pair " pass=" r.pass ++ pair " image=" (hash_of s) ++ (lf ∷ [])

-- `number=N night=X zone=Y people=C`
unfoldable pub staff_line : StaffReport → Bytes
staff_line r = pair "number=" r.number ++ pair " night=" r.night ++ pair " zone=" r.zone ++ pair " people=" r.people ++ (lf ∷ [])

-- `number=N count=C`
unfoldable pub register_line : RegisterReport → Bytes
register_line r = pair "number=" r.number ++ pair " count=" r.count ++ (lf ∷ [])

-- `give FIRST SECOND A` gives a pass to two people, with the allowance A; the looks change nothing.
unfoldable pub image_after : Geometry → Bytes → PassLine → Bytes
image_after g s (Give first second k) = (give g k first second s).image
image_after g s Staff = s
image_after g s Register = s

-- `staff` looks at the committed list, `register` at the committed register.
unfoldable pub answer_to : Geometry → Bytes → PassLine → Bytes
answer_to g s (Give first second k) = let w = give g k first second s in given_line (pass_report (give_look g s first second) w) w.image
answer_to g s Staff = staff_line (staff_report (staff_look g s))
answer_to g s Register = register_line (register_report (register_look g s))
