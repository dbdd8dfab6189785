use Rattle.std.proofs.Common.{arith, rules, sym, ap, length, length-append, append_assoc, ◌++◌}
use Rattle.rules.specs.Text.{text, decimal}
use Rattle.script_answers.specs.Result.{pair, third_text, content_text}
use Rattle.script_answers.specs.Laws.{content_long, decimal_long, part_short}
use Rattle.script_answers.proofs.put_third.Goals as goal

pub put_content-requires : goal.put_content-requires
unfolding text
put_content-requires g c = (search rules, omega (arith, ap length c.put.ensures, length-append c.args.out.now (text " content="), part_short c.content.result.now c.args.image.now c.args.a c.content.ensures.0))

pub put_pair-requires : goal.put_pair-requires
unfolding text
put_pair-requires g c = (search rules, omega (arith, ap length c.put.ensures, length-append c.args.out.now (text " content="), ap length c.put_content.ensures, length-append c.put.new.self (content_text c.content.result.now), content_long c.content.result.now, part_short c.content.result.now c.args.image.now c.args.a c.content.ensures.0, length-append (text " image=") (decimal c.hash.result), decimal_long c.hash.result (omega (arith, c.hash.ensures.below))))

pub returns-clause-text : goal.returns-clause-text
unfolding third_text pair text
returns-clause-text g c = rw (sym c.content.ensures.0, sym c.hash.ensures.value) (simp (c.put_pair.ensures, c.put_content.ensures, c.put.ensures, append_assoc))

pub returns-clause-short : goal.returns-clause-short
unfolding text
returns-clause-short g c = omega (arith, ap length c.put_pair.ensures, length-append c.put_content.new.out (text " image=" ++ decimal c.hash.result), ap length c.put.ensures, length-append c.args.out.now (text " content="), ap length c.put_content.ensures, length-append c.put.new.self (content_text c.content.result.now), content_long c.content.result.now, part_short c.content.result.now c.args.image.now c.args.a c.content.ensures.0, length-append (text " image=") (decimal c.hash.result), decimal_long c.hash.result (omega (arith, c.hash.ensures.below)))
