-- A history begins in every geometry of document 01, on any image of its length.
use Rattle.std.specs.Prelude.{Bool, cond, not, true, List, ◌≡◌, ◌≤◌, ℕ, length}
use Rattle.std.proofs.Common.{subst, sym}
use Rattle.laws.specs.Runs.{run_done}
use Rattle.rules.specs.Answers.{carry_out, ended, makes, number, origin, refuses}
use Rattle.rules.specs.Calls.{allowance, format, in_geometry, outcome, plan, refuse}
use Rattle.rules.specs.Flash.{Bytes, Step, is_geometry, steps_of}
use Rattle.rules.specs.Histories.{Reached, formatted, no_files}
use Rattle.rules.specs.Jobs.{format_job}
use Rattle.rules.specs.declared.NotDone.TheVariants.{BadGeometry}
use Rattle.rules.specs.declared.Geometry.{Geometry}

-- a job with as many steps allowed as its list has
done_by : (xs : List Step) (k : ℕ) (s : Bytes) → length (steps_of xs s) ≤ k → number (carry_out (makes origin xs) k s).answer ≡ 0
unfolding number carry_out ended
done_by xs k s l = rw (run_done xs k s l)

format_done : (g : Geometry) (s : Bytes) → is_geometry g (length s) ≡ true → (k : ℕ) → length (steps_of (format_job g s) s) ≤ k → number (outcome g (format k) s).answer ≡ 0
unfolding outcome plan in_geometry refuse allowance
format_done g s right k l =
    subst (λ (b : Bool). number (carry_out (cond (not b) (refuses BadGeometry) (makes origin (format_job g s))) k s).answer ≡ 0) (sym right) (done_by (format_job g s) k s l)

pub begins_somewhere : (g : Geometry) (s : Bytes) → is_geometry g (length s) ≡ true
    → (n : ℕ) × ((k : ℕ) → n ≤ k → (number (outcome g (format k) s).answer ≡ 0) × Reached g (outcome g (format k) s).image no_files)
begins_somewhere g s right =
    (length (steps_of (format_job g s) s), λ k l. let e = format_done g s right k l in (e, formatted s k e))
