use Rattle.std.proofs.Common.{◌≡◌, ◌+◌, ◌*◌, ◌≤◌, ◌++◌, length}
use Rattle.rules.specs.Settled.{survey}
use Rattle.listing_text.specs.Lines.{lines_to}
use Rattle.listing_text.proofs.put_files.Given as goal

abbrev pub invariant-loop-file : goal.invariant-loop-file
invariant-loop-file l = (length l.out ≤ length l.initial.out + 39 * l.file) × (l.out ≡ l.initial.out ++ lines_to l.file (survey l.g l.image))
