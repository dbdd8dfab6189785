use Prim.Native.Nat.{ℕ, ◌+◌}
use mathlib.Core.Path.{ap, ◌∙◌}
use mathlib.Core.List.{List}
use Rattle.rules.specs.Flash.{state, run, programs, words}
use Rattle.rules.specs.Unit.{stands}
use Rattle.unit.specs.Laws.{round_trip}
use Rattle.step_move.specs.Laws.{put_is}
use Rattle.step_move.proofs.put.Goals as goal

pub returns : goal.returns
returns c = c.words_on.ensures ∙ ap (λ (at : ℕ). run (programs (c.args.base + at) (words c.pack.result)) (state c.args.image.now c.args.was)) c.stands-at.ensures ∙ ap (λ (ws : List ℕ). run (programs (c.args.base + stands c.args.position) ws) (state c.args.image.now c.args.was)) (ap words c.pack.ensures ∙ round_trip c.words.result ∙ c.words.ensures ∙ put_is c.args.d c.args.low)
