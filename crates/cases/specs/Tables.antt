-- A table of calls. A row is one call on the image that an earlier row left, what it must answer, and facts of the image it leaves.
use Rattle.std.specs.Prelude.{Bool, true, false, ◌&&◌, List, [], ◌∷◌, ◌++◌, ℕ, ◌+◌, ◌*◌, length, get_or, take, drop, eqb}
use Rattle.rules.specs.Lists.{all}
use Rattle.rules.specs.Flash.{Bytes, word, erased}
use Rattle.rules.specs.Unit.{stands, gap, is_open, is_current_file}
use Rattle.rules.specs.Settled.{Home, survey, select}
use Rattle.rules.specs.Sound.{home_at, is_same, standing}
use Rattle.rules.specs.Answers.{Outcome, number, from_number, given, content}
use Rattle.rules.specs.Calls.{Call, read, outcome}
use Rattle.rules.specs.Listing.{keyed, listing}
use Rattle.rules.specs.declared.Geometry.{Geometry}
use Rattle.rules.specs.declared.Handle.{Handle}
use Rattle.rules.specs.declared.Standing.{Standing}
use Rattle.rules.specs.declared.Standing.TheVariants.{Settled, Sound, Neither}

-- What a call must answer: its number, steps, handle, file and content, and where it came from.
pub record Expected : Type 0 where
  pub number : ℕ
  pub steps : ℕ
  pub at : Handle
  pub file : ℕ
  pub content : Bytes
  pub from : ℕ

unfoldable pub handle : ℕ → ℕ → Handle
handle L p = record { unit = L; position = p }

unfoldable pub done_at : ℕ → ℕ → ℕ → Expected
done_at k L p = record { number = 0; steps = k; at = handle L p; file = 0; content = []; from = 0 }

unfoldable pub done : ℕ → Expected
done k = done_at k 0 0

unfoldable pub stopped : ℕ → Expected
stopped k = record { number = 1; steps = k; at = handle 0 0; file = 0; content = []; from = 0 }

unfoldable pub refused : ℕ → Expected
refused m = record { number = m; steps = 0; at = handle 0 0; file = 0; content = []; from = 0 }

-- A read by file, and a read by handle.
unfoldable pub shows : ℕ → ℕ → Bytes → Expected
shows L p c = record { number = 0; steps = 0; at = handle L p; file = 0; content = c; from = 0 }

unfoldable pub shows_file : ℕ → Bytes → Expected
shows_file f c = record { number = 0; steps = 0; at = handle 0 0; file = f; content = c; from = 0 }

-- In the transaction view, and for a delete's 9: committed before (1) or this transaction (2).
unfoldable pub saying : ℕ → Expected → Expected
saying w x = record { number = x.number; steps = x.steps; at = x.at; file = x.file; content = x.content; from = w }

pub data Fact : Type 0 where
  -- the word at an offset of the image
  word_is : ℕ → ℕ → Fact
  -- the offset in its unit of the sector at a logical unit and a position
  offset_is : ℕ → ℕ → ℕ → Fact
  -- a logical unit's gap, and the number of the physical unit where its home lies
  gap_here home_is : ℕ → ℕ → Fact
  -- this physical unit is wholly FF
  erased_is : ℕ → Fact
  -- a committed file's content, and the number of committed files
  file_is : ℕ → Bytes → Fact
  files_are : ℕ → Fact
  -- the number of open transactions
  open_are : ℕ → Fact
  settled_here sound_is bad_is : Fact
  -- the listing program's whole output
  lists_as : Bytes → Fact

unfoldable pub degree : Standing → ℕ
degree Settled = 0
degree Sound = 1
degree Neither = 2

module _ (g : Geometry) (s : Bytes) where
  unfoldable pub home : ℕ → Home
  home L = home_at (survey g s).homes L

  unfoldable pub stand : ℕ
  stand = degree (standing g (survey g s))

  unfoldable pub holds : Fact → Bool
  holds (word_is a w) = eqb (word s a) w
  holds (offset_is L p o) = eqb (word s ((home L).unit.base + stands p + 2)) o
  holds (gap_here L m) = eqb (gap (home L).room) m
  holds (home_is L k) = eqb (home L).unit.base (k * g.size)
  holds (erased_is k) = erased (take g.size (drop (k * g.size) s))
  holds (file_is f c) = let o = outcome g (read f) s in eqb (number o.answer) 0 && is_same (content o) c
  holds (files_are m) = eqb (length (select is_current_file (survey g s))) m
  holds (open_are m) = eqb (length (select is_open (survey g s))) m
  holds settled_here = eqb stand 0
  holds sound_is = eqb stand 1
  holds bad_is = eqb stand 2
  holds (lists_as t) = is_same (listing (keyed "unit=" g.size ++ (keyed "units=" g.units ++ s))) t

unfoldable pub agrees : Expected → Outcome → Bool
agrees x o =
    let r = given o.answer in
    eqb (number o.answer) x.number && eqb r.steps x.steps && eqb r.at.unit x.at.unit
    && eqb r.at.position x.at.position && eqb r.file x.file && is_same (content o) x.content && eqb (from_number r.from) x.from

-- Row `on k call answer facts`: the call is made on image k, and leaves the next image.
pub record Row : Type 0 where
  pub image : ℕ
  pub call : Call
  pub answer : Expected
  pub facts : List Fact

unfoldable pub on : ℕ → Call → Expected → List Fact → Row
on k c x fs = record { image = k; call = c; answer = x; facts = fs }

module _ (g : Geometry) where
  unfoldable pub hold_all : List Row → List Bytes → Bool
  hold_all [] images = true
  hold_all (r ∷ rs) images =
      let o = outcome g r.call (get_or images r.image []) in
      elim (agrees r.answer o && all (holds g o.image) r.facts)
      [ true ↦ hold_all rs (images ++ (o.image ∷ [])) | false ↦ false ]

  -- The table of so many rows holds, from the images given.
  unfoldable pub holds_table : ℕ → List Row → List Bytes → Bool
  holds_table m rows images = eqb (length rows) m && hold_all rows images

-- The definitions of tables, for whoever computes with them.
unfoldable pub tables : Unit {0}
unfolding handle done_at done stopped refused shows shows_file saying degree home stand holds agrees on hold_all holds_table
tables = tt
