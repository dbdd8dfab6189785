use Rattle.std.proofs.Common.{◌≡◌, ◌+◌, ◌*◌, [], length, take}
use Rattle.std.specs.Slice.Iter.{chunks_rest, chunks_size}
use Rattle.script.specs.Words.{bytes_from}
use Rattle.script.proofs.word.bytes.Given as goal

abbrev pub invariant-loop-pair : goal.invariant-loop-pair
invariant-loop-pair l =
    (chunks_size l.pair-iterator ≡ 2) × (2 * l.n + length (chunks_rest l.pair-iterator) ≡ length l.word)
    × (bytes_from [] l.word ≡ bytes_from (take l.n l.buffer) (chunks_rest l.pair-iterator))
