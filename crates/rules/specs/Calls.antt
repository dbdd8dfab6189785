-- Document 01: each call, for every input, its refusals in the order of the table of numbers.
use Rattle.std.specs.Prelude.{Bool, true, false, not, cond, ◌&&◌, List, [], ℕ, length, ltb, eqb}
use Rattle.std.proofs.Math.Option.{Option, none, some}
use Rattle.rules.specs.Lists.{filter, first, is_none}
use Rattle.rules.specs.Flash.{Bytes, Step, is_geometry, steps_of}
use Rattle.rules.specs.Unit.{data_tag, mark_tag, transaction_tag, file_of, is_open, is_current_file}
use Rattle.rules.specs.Settled.{Entry, Survey, survey, select}
use Rattle.rules.specs.Sound.{standing}
use Rattle.rules.specs.Jobs.{Storing, cannot, can, format_job, store_job, no_earlier, earlier_of, commit_job, abort_job, mount_job}
use Rattle.rules.specs.Views.{committed_view, transaction_view}
use Rattle.rules.specs.Answers.{Outcome, Plan, refuses, makes, shows, origin, job_of, carry_out}
use Rattle.rules.specs.declared.Geometry.{Geometry}
use Rattle.rules.specs.declared.Rule.{Rule}
use Rattle.rules.specs.declared.Standing.{Standing}
use Rattle.rules.specs.declared.Standing.TheVariants.{Settled, Sound, Neither}
use Rattle.rules.specs.declared.Origin.{Origin}
use Rattle.rules.specs.declared.Origin.TheVariants.{NotSaid, Before, Opened}
use Rattle.rules.specs.declared.NotDone.{NotDone}
use Rattle.rules.specs.declared.NotDone.TheVariants.{BadGeometry, BadImage, Unsettled, BadFile, TooLong, NoTransaction}
use Rattle.rules.specs.declared.NotDone.TheVariants.{Open, Absent, BadHandle}

-- A call with its inputs; the rule of a call that places a sector stands first, the allowance of a changing call last.
pub data Call : Type 0 where
  format mount commit abort : ℕ → Call
  begin : Rule → ℕ → Call
  write : Rule → ℕ → Bytes → ℕ → Call
  delete : Rule → ℕ → ℕ → Call
  read read_open : ℕ → Call
  read_at : ℕ → ℕ → Call

-- The same call made under the rule q, where it is one that places a sector.
unfoldable pub under : Rule → Call → Call
under q (format k) = format k
under q (mount k) = mount k
under q (begin r k) = begin q k
under q (commit k) = commit k
under q (abort k) = abort k
under q (write r f c k) = write q f c k
under q (delete r f k) = delete q f k
under q (read f) = read f
under q (read_open f) = read_open f
under q (read_at L p) = read_at L p

-- Refused where b holds, and else what follows.
unfoldable pub refuse : Bool → NotDone → Plan → Plan
refuse b a p = cond b (refuses a) p

-- 3 BAD IMAGE: not sound. 4 UNSETTLED: sound, not settled.
unfoldable pub when_sound : Standing → Plan → Plan
when_sound Settled p = p
when_sound Sound p = p
when_sound Neither p = refuses BadImage

unfoldable pub when_settled : Standing → Plan → Plan
when_settled Settled p = p
when_settled Sound p = refuses Unsettled
when_settled Neither p = refuses BadImage

-- 5 BAD FILE: file over 255. 6 TOO LONG: content over 256 bytes.
unfoldable pub is_bad_file : ℕ → Bool
is_bad_file f = ltb 255 f

unfoldable pub is_too_long : Bytes → Bool
is_too_long c = ltb 256 (length c)

-- 7 NO TRANSACTION: with none open.
unfoldable pub has_none : Survey → Bool
has_none v = is_none (select is_open v)

-- 9 ABSENT: the file is not in the view. A read by file gives the handle of the read descriptor.
unfoldable pub is_absent : Option Entry → Bool
is_absent none = true
is_absent (some e) = false

unfoldable pub showing : Origin → Option Entry → Plan
showing w none = refuses (Absent w)
showing w (some e) = shows e.at 0 e w

-- The transaction view of a file is this transaction's where it has a pending descriptor of the file, and else what was committed before.
unfoldable pub origin_of : ℕ → Survey → Origin
origin_of f v = cond (is_none (earlier_of f v)) Before Opened

-- 10 NO ROOM: as a store refuses. Write, delete and begin give the handle of the new descriptor.
unfoldable pub storing : Storing → Plan
storing (cannot a) = refuses a
storing (can r) = makes r.at r.job

-- 11 BAD HANDLE: logical unit over U-2, position not below n, or not current data. A handle read gives file and bytes.
unfoldable pub is_at : ℕ → ℕ → Entry → Bool
is_at L p e = eqb e.at.unit L && eqb e.at.position p

unfoldable pub showing_at : Option Entry → Plan
showing_at none = refuses BadHandle
showing_at (some e) = shows origin (file_of e.descriptor) e NotSaid

module _ (g : Geometry) (s : Bytes) where
  -- 2 BAD GEOMETRY: S, U or image length is not as above.
  unfoldable pub in_geometry : Plan → Plan
  in_geometry p = refuse (not (is_geometry g (length s))) BadGeometry p

  unfoldable pub in_settled : (Survey → Plan) → Plan
  in_settled f = let v = survey g s in in_geometry (when_settled (standing g v) (f v))

  unfoldable pub plan : Call → Plan
  -- Format gives only 0, 1, 2; mount only 0 to 3.
  plan (format k) = in_geometry (makes origin (format_job g s))
  plan (mount k) = let v = survey g s in in_geometry (when_sound (standing g v) (makes origin (mount_job g s v)))
  -- 8 OPEN: begin with one open.
  plan (begin q k) = in_settled λ v. refuse (not (has_none v)) Open (storing (store_job g q transaction_tag [] no_earlier s v))
  plan (commit k) = in_settled λ v. refuse (has_none v) NoTransaction (makes origin (commit_job v))
  plan (abort k) = in_settled λ v. refuse (has_none v) NoTransaction (makes origin (abort_job v))
  plan (write q f c k) =
      in_settled λ v.
      refuse (is_bad_file f) BadFile
      (refuse (is_too_long c) TooLong
      (refuse (has_none v) NoTransaction
      (storing (store_job g q (data_tag f) c (earlier_of f) s v))))
  -- Delete looks in the transaction view. This view says where its answer came from, the committed one and a handle read do not.
  plan (delete q f k) =
      in_settled λ v.
      refuse (is_bad_file f) BadFile
      (refuse (has_none v) NoTransaction
      (refuse (is_absent (transaction_view f v)) (Absent (origin_of f v))
      (storing (store_job g q (mark_tag f) [] (earlier_of f) s v))))
  plan (read f) = in_settled λ v. refuse (is_bad_file f) BadFile (showing NotSaid (committed_view f v))
  plan (read_open f) = in_settled λ v. refuse (is_bad_file f) BadFile (refuse (has_none v) NoTransaction (showing (origin_of f v) (transaction_view f v)))
  plan (read_at L p) = in_settled λ v. showing_at (first (filter (is_at L p) (select is_current_file v)))

-- Every changing call takes an allowance of steps; a read makes none.
unfoldable pub allowance : Call → ℕ
allowance (format k) = k
allowance (mount k) = k
allowance (begin q k) = k
allowance (commit k) = k
allowance (abort k) = k
allowance (write q f c k) = k
allowance (delete q f k) = k
allowance (read f) = 0
allowance (read_open f) = 0
allowance (read_at L p) = 0

-- The list of a call's steps on an image.
unfoldable pub list_of : Geometry → Call → Bytes → List Step
list_of g c s = steps_of (job_of (plan g s c)) s

-- The outcome of a call.
unfoldable pub outcome : Geometry → Call → Bytes → Outcome
outcome g c s = carry_out (plan g s c) (allowance c) s
