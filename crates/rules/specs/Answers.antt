-- Document 01, "The numbers a call returns": what an answer gives, and how a call that knows what to do does it.
use Rattle.std.specs.Prelude.{cond, Some, None, Result, Ok, Err, List, [], ℕ, ◌-◌, take, drop, eqb}
use Rattle.rules.specs.Flash.{Bytes, Step, State, state, run}
use Rattle.rules.specs.Settled.{Entry}
use Rattle.rules.specs.declared.Handle.{Handle}
use Rattle.rules.specs.declared.Origin.{Origin}
use Rattle.rules.specs.declared.Origin.TheVariants.{NotSaid, Before, Opened}
use Rattle.rules.specs.declared.Given.{Given}
use Rattle.rules.specs.declared.NotDone.{NotDone}
use Rattle.rules.specs.declared.NotDone.TheVariants.{Stopped, BadGeometry, BadImage, Unsettled, BadFile, TooLong, NoTransaction}
use Rattle.rules.specs.declared.NotDone.TheVariants.{Open, Absent, NoRoom, BadHandle, StaleTable}

-- What a call answers: what it gives where it is DONE, and else why it is not.
abbrev pub Answer : Type 0
Answer = Result Given NotDone

-- What a call answers, and the image afterwards.
pub record Outcome : Type 0 where
  pub answer : Answer
  pub image : Bytes

unfoldable pub number : Answer → ℕ
number (Ok r) = 0
number (Err (Stopped k)) = 1
number (Err BadGeometry) = 2
number (Err BadImage) = 3
number (Err Unsettled) = 4
number (Err BadFile) = 5
number (Err TooLong) = 6
number (Err NoTransaction) = 7
number (Err Open) = 8
number (Err (Absent w)) = 9
number (Err NoRoom) = 10
number (Err BadHandle) = 11
number (Err StaleTable) = 12

-- Where it came from: 0 not said, 1 committed before, 2 this transaction.
unfoldable pub from_number : Origin → ℕ
from_number NotSaid = 0
from_number Before = 1
from_number Opened = 2

-- Handle 0:0.
unfoldable pub origin : Handle
origin = record { unit = 0; position = 0 }

unfoldable pub nothing : ℕ → Origin → Given
nothing k w = record { steps = k; at = origin; file = 0; start = 0; len = 0; from = w }

-- Refusals 2 to 12 report 0 steps and an empty content; a stopped call reports its steps alone. 9 may say where from.
unfoldable pub given : Answer → Given
given (Ok r) = r
given (Err (Stopped k)) = nothing k NotSaid
given (Err (Absent w)) = nothing 0 w
given (Err a) = nothing 0 NotSaid

-- A read returns the content as that part of the caller's image where the sector's bytes stand.
unfoldable pub content : Outcome → Bytes
content o = let r = given o.answer in take r.len (drop r.start o.image)

-- What a call decides before it does anything: to refuse; to make the steps of a job, with the handle to give at its end;
-- or to show an entry, with the handle and the file to give, and where it came from.
pub data Plan : Type 0 where
  refuses : NotDone → Plan
  makes : Handle → List Step → Plan
  shows : Handle → ℕ → Entry → Origin → Plan

-- The job of a plan; a refusal and a read have none.
unfoldable pub job_of : Plan → List Step
job_of (refuses a) = []
job_of (makes h xs) = xs
job_of (shows h f e w) = []

-- DONE: all steps made. STOPPED: the allowance k is shorter than the list.
unfoldable pub ended : Handle → ℕ → State → Outcome
ended h k (state s (Some j)) = record { answer = Ok (record { steps = k - j; at = h; file = 0; start = 0; len = 0; from = NotSaid }); image = s }
ended h k (state s None) = record { answer = Err (Stopped k); image = s }

-- The start of an empty content is 0.
unfoldable pub shown : Handle → ℕ → Entry → Origin → Given
shown h f e w =
    let m = e.descriptor.len in
    record { steps = 0; at = h; file = f; start = cond (eqb m 0) 0 e.start; len = m; from = w }

-- Carried out on the image s under the allowance k. A refusal changes no image byte, nor does a read.
unfoldable pub carry_out : Plan → ℕ → Bytes → Outcome
carry_out (refuses a) k s = record { answer = Err a; image = s }
carry_out (makes h job) k s = ended h k (run job (state s (Some k)))
carry_out (shows h f e w) k s = record { answer = Ok (shown h f e w); image = s }
