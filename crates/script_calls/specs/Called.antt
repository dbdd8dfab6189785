-- A script's call as one of document 01, and what the code answers to it.
use Rattle.std.specs.Prelude.{◌≡◌, Option, Some, None, option_map}
use Rattle.rules.specs.Flash.{Bytes}
use Rattle.rules.specs.Calls.{outcome, format, mount, begin, commit, abort, write, delete, read, read_open, read_at}
use Rattle.rules.specs.Calls as calls
use Rattle.rules.specs.declared.Geometry.{Geometry}
use Rattle.rules.specs.Answers.{Answer}
use Rattle.script.specs.Words.{content_of}
use Rattle.script.specs.declared.command.CallLine.{CallLine}
use Rattle.script.specs.declared.command.CallLine.TheVariants.{Format, Mount, Begin, Commit, Abort, Write, Delete, Read, ReadOpen, ReadAt}

-- The call of document 01, unless its content is out of its range.
unfoldable pub call_of : CallLine → Option calls.Call
call_of (Format k) = Some (format k)
call_of (Mount k) = Some (mount k)
call_of (Begin q k) = Some (begin q k)
call_of (Commit k) = Some (commit k)
call_of (Abort k) = Some (abort k)
call_of (Write q f x k) = option_map (λ y. write q f y k) (content_of x)
call_of (Delete q f k) = Some (delete q f k)
call_of (Read f) = Some (read f)
call_of (ReadOpen f) = Some (read_open f)
call_of (ReadAt L p) = Some (read_at L p)

-- What a call, if it is one, answers and leaves of the image.
unfoldable pub CallAnswers : Geometry → Bytes → Option calls.Call → Option Answer → Bytes → Type 0
CallAnswers g s None r t = (r ≡ None) × (t ≡ s)
CallAnswers g s (Some c) r t = (r ≡ Some (outcome g c s).answer) × (t ≡ (outcome g c s).image)
