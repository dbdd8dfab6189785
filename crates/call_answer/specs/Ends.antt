-- What is answered of a job by where its run stands.
use Rattle.rules.specs.Answers.{Answer}
use Rattle.rules.specs.Flash.{Run}
use Rattle.std.specs.Prelude.{Err, ◌≡◌, ℕ, ◌-◌, ◌≤◌, None, Ok, Some}
use Rattle.rules.specs.declared.Handle.{Handle}
use Rattle.rules.specs.declared.Origin.TheVariants.{NotSaid}
use Rattle.rules.specs.declared.NotDone.TheVariants.{Stopped}

-- not more of the allowance k is left than there was
abbrev pub AllowanceWithin : ℕ → Run → Type 0
AllowanceWithin k r = (j : ℕ) → r ≡ Some j → j ≤ k

-- DONE with the steps made, or STOPPED
unfoldable pub answer_of : Handle → ℕ → Run → Answer
answer_of h k (Some j) = Ok (record { steps = k - j; at = h; file = 0; start = 0; len = 0; from = NotSaid })
answer_of h k None = Err (Stopped k)
