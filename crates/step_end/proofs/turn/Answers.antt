use Prim.Native.Nat.{ℕ, ◌+◌, ◌%◌}
use mathlib.Core.Path.{◌≡◌, ap, ◌∙◌}
use lib.ListN.{get_or}
use Rattle.rules.specs.Flash.{state, run}
use Rattle.rules.specs.Flash.{word}
use Rattle.rules.specs.Unit.{old}
use mathlib.Core.List.{◌++◌}
use Rattle.step_end.specs.Turns.{turn_at, new_flags}
use Rattle.step_new.specs.Places.{become_at, one_at}
use Rattle.step_end.proofs.turn.Goals as goal

pub returns : goal.returns
unfolding turn_at
returns c = let e : c.from-earlier.result ≡ get_or c.args.current.now (word c.args.image.now (c.args.place + 6) % 256) 0 =
    c.from-earlier.ensures ∙ ap (λ (f : ℕ). get_or c.args.current.now f 0) (c.from-file.ensures ∙ ap (λ (t : ℕ). t % 256) c.word-tag.ensures) in
    let f : c.new_flags.result ≡ new_flags (word c.args.image.now (c.args.place + 6)) = c.new_flags.ensures ∙ ap new_flags c.word-tag.ensures in
    c.replace.ensures ∙ ap (λ (p : ℕ). run (become_at old (one_at p) ++ become_at c.new_flags.result (one_at c.args.place)) (state c.args.image.now c.args.was)) e
    ∙ ap (λ (x : ℕ). run (become_at old (one_at (get_or c.args.current.now (word c.args.image.now (c.args.place + 6) % 256) 0)) ++ become_at x (one_at c.args.place)) (state c.args.image.now c.args.was)) f
