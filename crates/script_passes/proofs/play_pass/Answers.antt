use Rattle.script_passes.specs.Answered.{image_after, answer_to}
use Rattle.script_passes.proofs.play_pass.Goals as goal

pub returns-in-Give-clause-image : goal.returns-in-Give-clause-image
unfolding image_after
returns-in-Give-clause-image g c = rw c.in-Give.is c.us_give-r.ensures.image

pub returns-in-Give-clause-text : goal.returns-in-Give-clause-text
unfolding answer_to
returns-in-Give-clause-text g c = rw (c.in-Give.is, c.put_given.ensures.text, c.us_give-r.ensures.report, c.us_give-r.ensures.image)

pub returns-in-Staff-clause-text : goal.returns-in-Staff-clause-text
unfolding answer_to
returns-in-Staff-clause-text g c = rw (c.in-Staff.is, c.put_staff.ensures.text, c.us_staff.ensures)

pub returns-in-Register-clause-text : goal.returns-in-Register-clause-text
unfolding answer_to
returns-in-Register-clause-text g c = rw (c.in-Register.is, c.put_register.ensures.text, c.us_register.ensures)

pub returns-in-Staff-clause-image : goal.returns-in-Staff-clause-image
unfolding image_after
returns-in-Staff-clause-image g c = rw c.in-Staff.is

pub returns-in-Register-clause-image : goal.returns-in-Register-clause-image
unfolding image_after
returns-in-Register-clause-image g c = rw c.in-Register.is
