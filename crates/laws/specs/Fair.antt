-- Each step of a call's list clears bits in one even-aligned word inside the image, or erases one whole unit.
use Rattle.std.specs.Prelude.{◌≡◌, ◌≢◌, false, List, [], ℕ, ◌+◌, ◌*◌, ◌%◌, ◌≤◌, ◌<◌, length}
use Rattle.std.proofs.Common.{arith}
use Rattle.std.specs.Int.Bits.{bit_and}
use Rattle.rules.specs.Flash.{Bytes, word, Step, program, erase, apply, idle, steps_of}
use Rattle.rules.specs.Unit.{data_tag, mark_tag, transaction_tag}
use Rattle.rules.specs.Jobs.{no_earlier, earlier_of}
use Rattle.rules.specs.Answers.{Plan, job_of}
use Rattle.rules.specs.Calls.{Call, list_of}
use Rattle.laws.specs.Words.{word_programmed, length_apply}
use Rattle.laws.specs.Lists.{Every}
use Rattle.laws.specs.Steps.{EachStep, each_step, busy_inside, busy_differs}
use Rattle.laws.specs.Units.{RightGeometry, right_geometry, right_long, even_size_lem, even_times, base_inside}
use Rattle.laws.specs.Aims.{Aimed, format_aimed, mount_aimed, commit_aimed, abort_aimed}
use Rattle.laws.specs.Stores.{stored_aimed, none_earlier, earlier_even}
use Rattle.laws.specs.Plans.{Job, formats, mounts, begins, writes, deletes, commits, aborts, Planned, refusal, job, entry, planned}
use Rattle.rules.specs.declared.Geometry.{Geometry}

-- A program at an even offset inside the image, whose new word is the old AND v and differs from the old; or an erase of the unit k.
pub data Fair (g : Geometry) (s : Bytes) : Step → Type 0 where
  clears : (a v : ℕ) → a % 2 ≡ 0 → a + 2 ≤ length s → word (apply (program a v) s) a ≡ bit_and (word s a) v → bit_and (word s a) v ≢ word s a
      → Fair g s (program a v)
  wipes : (k : ℕ) → k < g.units → Fair g s (erase (k * g.size) g.size)

-- Each step of a list is fair at the image where it is reached.
abbrev pub AllFair : Geometry → Bytes → List Step → Type 0
AllFair g s xs = EachStep (λ (x : Step) (r : Bytes). Fair g r x) xs s

module _ (g : Geometry) where
  fair : (x : Step) (s : Bytes) → Aimed g x → RightGeometry g s → idle x s ≡ false → Fair g s x
  fair (program a v) s h q e =
      let inside : a + 2 ≤ length s = omega (arith, busy_inside a v s e, h, q.whole, even_times g.units g.size (even_size_lem q)) in
      clears a v h inside (word_programmed a v s inside) (busy_differs a v s e)
  fair (erase a k) s h q e = rw (h.1, h.0.exact) (wipes h.0.index h.0.below)

  still : (x : Step) (s : Bytes) → Aimed g x → RightGeometry g s → idle x s ≡ false → RightGeometry g (apply x s)
  still (program a v) s h q e = right_long (length_apply (program a v) s tt) q
  still (erase a k) s h q e =
      let inside : a + k ≤ length s = omega (arith, base_inside g h.0, h.1, q.whole) in
      right_long (length_apply (erase a k) s inside) q

  -- So is the list of any job that aims at even offsets and whole units.
  pub aimed_fair : (xs : List Step) (s : Bytes) → RightGeometry g s → Every (Aimed g) xs → AllFair g s (steps_of xs s)
  aimed_fair xs s q h = each_step (λ (x : Step) (r : Bytes). Fair g r x) (Aimed g) (λ (r : Bytes). RightGeometry g r) fair still xs s h q

  -- ---- every call
  job_aimed : (s : Bytes) → RightGeometry g s → {xs : List Step} → Job g s xs → Every (Aimed g) xs
  job_aimed s q formats = format_aimed g (even_size_lem q) s
  job_aimed s q mounts = mount_aimed g (even_size_lem q) (omega (arith, q.some)) s
  job_aimed s q (begins t z r e) = stored_aimed g s q z transaction_tag [] no_earlier (none_earlier g) t r e
  job_aimed s q (writes t z f c r e) = stored_aimed g s q z (data_tag f) c (earlier_of f) (earlier_even g (even_size_lem q) (omega (arith, q.some)) f) t r e
  job_aimed s q (deletes t z f r e) = stored_aimed g s q z (mark_tag f) [] (earlier_of f) (earlier_even g (even_size_lem q) (omega (arith, q.some)) f) t r e
  job_aimed s q (commits t) = commit_aimed g (even_size_lem q) (omega (arith, q.some)) s
  job_aimed s q (aborts t) = abort_aimed g (even_size_lem q) (omega (arith, q.some)) s

  plan_fair : (s : Bytes) {p : Plan} → Planned g s p → AllFair g s (steps_of (job_of p) s)
  unfolding job_of steps_of
  plan_fair s (refusal a h) = tt
  plan_fair s (job e h xs j) = let q = right_geometry g s e in aimed_fair xs s q (job_aimed s q j)
  plan_fair s (entry h f e w) = tt

-- Each step of a call's list clears bits in one even-aligned word inside the image or erases one whole unit,
-- for every geometry, image and call.
pub call_fair : (g : Geometry) (c : Call) (s : Bytes) → AllFair g s (list_of g c s)
unfolding list_of
call_fair g c s = plan_fair g s (planned g s c)
