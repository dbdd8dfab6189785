-- What is promised of pass lists and manual passes. The list is file 0, the register file 1, pass n file 2 + n. A history of the piece
-- (`Kept`) is a finished format of any bytes, then any gives, and any calls of the store but format that write and delete none of files 1
-- to 127, each with any inputs and any allowance; after a give that was STOPPED nothing but mounts and reads, until a mount is DONE.
use Rattle.std.specs.Prelude.{◌≡◌, ◌⊎◌, ◌↔◌, true, List, [], ◌∷◌, ◌++◌, ◌+◌, ◌<◌, ◌≤◌, min, ℕ, length, take}
use Rattle.std.proofs.Math.Option.{none, some}
use Rattle.rules.specs.Answers.{content, number}
use Rattle.rules.specs.Calls.{mount, outcome, read}
use Rattle.rules.specs.Flash.{Bytes}
use Rattle.rules.specs.Histories.{Plain, Reached}
use Rattle.laws.specs.Runs.{applied}
use Rattle.rules.specs.Settled.{survey}
use Rattle.rules.specs.Sound.{standing}
use Rattle.rules.specs.Views.{committed_view, content_of}
use Rattle.rules.specs.declared.Geometry.{Geometry}
use Rattle.rules.specs.declared.Standing.TheVariants.{Settled}
use Rattle.pass_rules.specs.Texts.{StaffList, is_staff_list, pass_text, register_in, register_text, staff_in, staff_text}
use Rattle.pass_rules.specs.Give.{Went, finds, give, give_look, is_on, refuses, register_look, register_report}
use Rattle.pass_rules.specs.declared.PassReport.{PassReport}
use Rattle.c_passes.specs.Once.{us_give_once}
use Rattle.c_passes.specs.Shapes.{GivesPass}
use Rattle.c_store.specs.Reports.{geometry}
use Rattle.promises_passes.specs.Words.{Held, Kept, Later, Pass, follow_all, image_after, is_committed, nth, pass_file, plain_gives, plain_list, plain_look, register_file, seen_all, steps_of_give, with_pass}
use Rattle.promises_passes.specs.Grammar as grammar
use Rattle.promises_passes.specs.Given.{mounts}
use Rattle.promises_passes.specs.Given as given
use Rattle.promises_passes.specs.Holds.{AllTwo, kept_holds}
use Rattle.promises_passes.specs.Looked.{MayGive, still}
use Rattle.promises_passes.specs.Plainly.{give_plainly}
use Rattle.promises_passes.specs.Steps.{give_by}
use Rattle.promises_passes.specs.Walk.{give_reached}

-- ---- The texts: a content is a list, and a register, exactly where it is the text of one. Dropped: a list that was cut might be taken.
pub list_of_text : (c : Bytes) (l : StaffList) → staff_in c ≡ some l ↔ (is_staff_list l ≡ true) × (c ≡ staff_text l)
list_of_text = grammar.list_of_text

pub register_of_text : (c : Bytes) (n : ℕ) → register_in c ≡ some n ↔ (n ≤ 126) × (c ≡ register_text n)
register_of_text = grammar.register_of_text

-- ---- Along every history of the piece.
module _ (g : Geometry) (h : Held) (k : Kept g h) where
  -- The register counts exactly the passes whose commit step was made; absent where there is none. Dropped: it might count a pass that
  -- was never given.
  pub register_counts : h.store.files 1 ≡ register_file h.passes
  register_counts = (kept_holds g k).register

  -- Pass i stands in file 2 + i, with its number and its two people, exactly for i below that count, which is at most 126. Dropped: a
  -- pass might be lost, or name others.
  pub passes_stand : ((i : ℕ) → i < 126 → h.store.files (2 + i) ≡ pass_file i (nth i h.passes)) × (length h.passes ≤ 126)
  passes_stand = ((kept_holds g k).passes, (kept_holds g k).few)

  -- Every pass has two different people, both on the list that was committed when it was given. Dropped: one person might pass alone.
  pub all_two_people : AllTwo h.passes
  all_two_people = (kept_holds g k).two

  -- Going on, a pass once given is never changed, taken back or numbered anew. Dropped: a pass might vanish.
  pub given_stays : {t : Held} → Later g h t → (later : List Pass) × (t.passes ≡ h.passes ++ later)
  given_stays = given.only_grows g

  -- A history of the piece is one of the store, so that its demands hold of it.
  pub kept_reached : Reached g h.image h.store
  kept_reached = (kept_holds g k).reached

  -- After a finished mount us_register is DONE with the number of passes, and a read of file 2 + i shows pass i. Dropped: the screen might
  -- show another count.
  pub seen_after_mount : (i : ℕ) → number (outcome g (mount i) h.image).answer ≡ 0
      → (register_report (register_look g (outcome g (mount i) h.image).image) ≡ record { number = 0; count = length h.passes })
      × ((j : ℕ) (p : Pass) → j < 126 → nth j h.passes ≡ some p → (number (outcome g (read (2 + j)) (outcome g (mount i) h.image).image).answer ≡ 0) × (content (outcome g (read (2 + j)) (outcome g (mount i) h.image).image) ≡ pass_text j p.first p.second))
  seen_after_mount i e = (given.register_seen g h k i e, given.pass_seen g h k i e)

-- ---- One give, with any people and any allowance, on any image t that a history of the store reaches, with the plain store m.
module _ (g : Geometry) (t : Bytes) (m : Plain) (r : Reached g t m) (a b k : ℕ) where
  abbrev w : Went
  w = give g k a b t

  -- Its number, and the plain store after it, are what the plain store gives, in the order of the refusals, from what is seen of each image on
  -- the way: whether it is settled, whether there is room, whether the allowance suffices. Dropped: any answer would do.
  pub gives_plainly : (w.number ≡ (plain_gives a b (plain_look (still g t m r) m a b) (seen_all g w.calls t) m).number) × (follow_all g w.calls t m ≡ (plain_gives a b (plain_look (still g t m r) m a b) (seen_all g w.calls t) m).store)
  gives_plainly = let p = give_plainly g k a b t m r in (p.number, p.store)

  -- And the history goes on. Dropped: a give might leave what no mount mends.
  pub gives_on : Reached g w.image (follow_all g w.calls t m)
  gives_on = give_reached g k a b r

  -- Its commit step is made only for two different people, both on the list that is committed at that moment. Dropped: a pass might be given
  -- to one.
  pub two_people : is_committed g w.calls t ≡ true → (n : ℕ) × MayGive (still g t m r) m a b n
  two_people c = let p = given.committed_found g t m r a b k c in (p.0, given.may g t m r a b k p.0 p.1)

  -- Without a list, or with one of no people, none is given: 20 where it is absent or has no people, 21 where it is none, save that 4 and 8
  -- come before; no step is made and no byte changes. Dropped: the night without a list might go on as the night before.
  pub no_list_no_pass : (n : ℕ) → plain_list (m.files 0) ≡ refuses n → (is_on w.number (4 ∷ 8 ∷ n ∷ []) ≡ true) × (w.steps ≡ 0) × (w.image ≡ t)
  no_list_no_pass = given.no_list g t m r a b k

  -- Refused midway, which is where a refusal reports steps: the files are as before, none is open, and the image is settled. Dropped: half a
  -- pass might stay open.
  pub refused_midway : 2 ≤ w.number → 0 < w.steps → ((follow_all g w.calls t m).files ≡ m.files) × ((follow_all g w.calls t m).changes ≡ none) × (standing g (survey g w.image) ≡ Settled)
  refused_midway = given.midway_leaves g t m r a b k

  -- Whatever moment the power goes, and however often while mounting: after a finished mount the files are those before, or those with the
  -- pass and the raised count. Dropped: a pass might stand uncounted.
  pub both_or_neither : (ks : List ℕ) (i : ℕ) → number (outcome g (mount i) (image_after g (mounts ks) w.image)).answer ≡ 0
      → ((f : ℕ) → content_of (committed_view f (survey g (outcome g (mount i) (image_after g (mounts ks) w.image)).image)) ≡ m.files f)
      ⊎ ((n : ℕ) × (give_look g t a b ≡ finds n) × ((f : ℕ) → content_of (committed_view f (survey g (outcome g (mount i) (image_after g (mounts ks) w.image)).image)) ≡ with_pass n a b m.files f))
  both_or_neither = given.both g t m r a b k

-- ---- Of any bytes, reached or not.
-- Giving has one list of steps, the parts' lists one behind the other: the image is what the first k of them make, it reports the steps made, and it
-- is STOPPED exactly where the list is longer. Dropped: a stop might leave anything.
pub give_by_its_list : (g : Geometry) (s : Bytes) (k a b : ℕ)
    → ((give g k a b s).image ≡ applied (take k (steps_of_give g a b (give_look g s a b) s)) s)
    × ((give g k a b s).steps ≡ min k (length (steps_of_give g a b (give_look g s a b) s)))
    × ((give g k a b s).number ≡ 1 ↔ k < length (steps_of_give g a b (give_look g s a b) s))
give_by_its_list g s k a b = let h = give_by g s k a b in (h.image, given.plus_none h.steps, h.stopped)

-- Two reports and images that meet us_give's contract are equal. Dropped: the contract might leave a choice.
pub give_once : (size units : ℕ) (s : Bytes) (a b k : ℕ) (r q : PassReport) (t u : Bytes) → GivesPass (geometry size units) a b k s r t → GivesPass (geometry size units) a b k s q u → (r ≡ q) × (t ≡ u)
give_once size units s a b k = us_give_once size units s a b k
