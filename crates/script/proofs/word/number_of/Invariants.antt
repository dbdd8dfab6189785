use Rattle.std.proofs.Common.{◌≡◌, ◌≤◌, drop}
use Rattle.script.specs.Words.{value_from, bounded, number_of}
use Rattle.script.proofs.word.number_of.Given as goal

abbrev pub invariant-loop-c : goal.invariant-loop-c
invariant-loop-c l = (l.m ≤ 4294967295) × (number_of l.word ≡ bounded (value_from l.m (drop l.c-index l.word)))
