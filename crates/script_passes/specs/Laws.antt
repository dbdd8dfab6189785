-- A line of four numbers, put one behind the other.
use Rattle.std.specs.Prelude.{◌≡◌, ◌++◌}
use Rattle.std.proofs.Common.{sym, ap, ◌∙◌, append_assoc}
use Rattle.rules.specs.Flash.{Bytes}
use Rattle.script_answers.specs.Laws.{put_four}

pub put_line : (o a b c d e : Bytes) → (((o ++ a) ++ b) ++ c) ++ (d ++ e) ≡ o ++ ((((a ++ b) ++ c) ++ d) ++ e)
put_line o a b c d e = put_four o a b c (d ++ e) ∙ ap (λ (x : Bytes). o ++ x) (sym (append_assoc ((a ++ b) ++ c) d e))
