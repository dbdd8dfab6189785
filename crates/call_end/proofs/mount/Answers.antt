use native.Mathlib.Omega.{arith}
use Rattle.rules.specs.Settled.{survey}
use Rattle.rules.specs.Jobs.{mount_job}
use Rattle.rules.specs.Answers.{origin}
use Rattle.call_answer.specs.Laws.{run_within}
use Rattle.call_end.specs.Mounting.{mount_bad_geometry, mount_bad_image, sighted, mount_made}
use Rattle.call_end.proofs.mount.Goals as goal

pub returns-in_default : goal.returns-in_default
returns-in_default c = mount_bad_geometry c.args.g c.args.image.now c.args.allowance c.in_default.ensures

pub returns-in-Neither : goal.returns-in-Neither
returns-in-Neither c = mount_bad_image c.args.g c.args.image.now c.in-Some.look c.in-Some.ensures c.args.allowance c.in-Neither.is

pub mend_all-r-requires : goal.mend_all-r-requires
mend_all-r-requires c = sighted c.args.g c.args.image.now c.in-Some.look c.in-Some.ensures c.args.allowance c.in_default-standing.not-Neither (λ i. omega (arith, c.slice_known-1.given i))

pub answer_of-requires : goal.answer_of-requires
answer_of-requires c = run_within (mount_job c.args.g c.args.image.now (survey c.args.g c.args.image.now)) c.args.allowance c.args.image.now c.mend_all-r.new.image c.mend_all-r.result c.mend_all-r.ensures

pub returns : goal.returns
unfolding origin
returns c = mount_made c.args.g c.args.image.now c.in-Some.look c.in-Some.ensures c.args.allowance c.in_default-standing.not-Neither c.mend_all-r.new.image c.mend_all-r.result c.mend_all-r.ensures c.answer_of.result c.answer_of.ensures
