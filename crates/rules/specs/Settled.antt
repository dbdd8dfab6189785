-- Document 01, "Settled": an image's units, homes and descriptors, and what a settled image is.
use Rattle.std.specs.Prelude.{Bool, true, false, not, cond, ◌&&◌, ◌||◌, List, [], ◌∷◌, ◌++◌, ℕ, zero, suc, ◌+◌, ◌-◌, length, take, drop, leb, eqb}
use Rattle.rules.specs.Lists.{all, filter}
use Rattle.rules.specs.Flash.{Bytes, word, erased}
use Rattle.rules.specs.Unit.{Descriptor, Room, room_of, stands, live, retired, has_sector, is_torn, is_allocated, is_open, is_committed, is_pending_file, is_current_file, is_data, file_of, is_header, is_home}
use Rattle.rules.specs.declared.Geometry.{Geometry}
use Rattle.rules.specs.declared.Handle.{Handle}

-- A unit where it lies in the image. Bytes 0-1: logical number. Bytes 2-3: state.
pub record Physical : Type 0 where
  pub base : ℕ
  pub bytes : Bytes
  pub logical : ℕ
  pub state : ℕ

unfoldable pub physical : ℕ → Bytes → Physical
physical a u = record { base = a; bytes = u; logical = word u 0; state = word u 2 }

-- A home of logical number `number`, with its room.
pub record Home : Type 0 where
  pub number : ℕ
  pub unit : Physical
  pub room : Room

-- A descriptor of a home: its handle, where in the image it and its sector stand, and its content.
pub record Entry : Type 0 where
  pub at : Handle
  pub place : ℕ
  pub descriptor : Descriptor
  pub start : ℕ
  pub content : Bytes

-- All that the calls read of an image.
pub record Survey : Type 0 where
  pub units : List Physical
  pub homes : List Home
  pub spare : Physical
  pub entries : List Entry

-- ---- the units of an image
unfoldable pub nowhere : Physical
nowhere = record { base = 0; bytes = []; logical = 0; state = 0 }

unfoldable pub the_first : List Physical → Physical
the_first [] = nowhere
the_first (p ∷ ps) = p

module _ (g : Geometry) where
  unfoldable pub units_from : ℕ → ℕ → Bytes → List Physical
  units_from zero a s = []
  units_from (suc k) a s = physical a (take g.size s) ∷ units_from k (a + g.size) (drop g.size s)

  unfoldable pub units_of : Bytes → List Physical
  units_of s = units_from g.units 0 s

-- ---- homes
unfoldable pub is_in : ℕ → ℕ → Physical → Bool
is_in L c p = eqb p.logical L && eqb p.state c

-- The units that may be L's home: the live ones, or where there is none the retired ones.
unfoldable pub homes_for : List Physical → ℕ → List Physical
homes_for ps L = elim (filter (is_in L live) ps) [ [] ↦ filter (is_in L retired) ps | q ∷ qs ↦ q ∷ qs ]

-- Each of the k logical numbers from L on is on exactly one unit, its home.
unfoldable pub one_each : ℕ → ℕ → List Physical → Bool
one_each zero L ps = true
one_each (suc k) L ps = elim (eqb (length (homes_for ps L)) 1) [ true ↦ one_each k (suc L) ps | false ↦ false ]

unfoldable pub homes_from : Geometry → ℕ → ℕ → List Physical → List Home
homes_from g zero L ps = []
homes_from g (suc k) L ps =
    let p = the_first (homes_for ps L) in
    record { number = L; unit = p; room = room_of g p.bytes } ∷ homes_from g k (suc L) ps

-- The remaining unit: nobody's home.
unfoldable pub is_left : List Home → Physical → Bool
is_left hs p = all (λ (h : Home). not (eqb h.unit.base p.base)) hs

-- ---- the descriptors of the homes, by logical unit and position
unfoldable pub content_in : Bytes → Descriptor → Bytes
content_in u d = cond (has_sector d) (take d.len (drop d.offset u)) []

unfoldable pub entries_in : ℕ → Physical → ℕ → List Descriptor → List Entry
entries_in L p i [] = []
entries_in L p i (d ∷ ds) =
    record {
      at = record { unit = L; position = i };
      place = p.base + stands i;
      descriptor = d;
      start = p.base + d.offset;
      content = content_in p.bytes d;
    }
    ∷ entries_in L p (suc i) ds

unfoldable pub entries_of : List Home → List Entry
entries_of [] = []
entries_of (h ∷ hs) = entries_in h.number h.unit 0 h.room.array ++ entries_of hs

unfoldable pub survey : Geometry → Bytes → Survey
survey g s =
    let ps = units_of g s in
    let hs = homes_from g (g.units - 1) 0 ps in
    record { units = ps; homes = hs; spare = the_first (filter (is_left hs) ps); entries = entries_of hs }

unfoldable pub pick : (Descriptor → Bool) → List Entry → List Entry
pick f es = filter (λ (e : Entry). f e.descriptor) es

unfoldable pub select : (Descriptor → Bool) → Survey → List Entry
select f v = pick f v.entries

unfoldable pub of_file : ℕ → Entry → Bool
of_file f e = eqb (file_of e.descriptor) f

-- ---- what is counted over all homes
-- The pairs of entries with one file: 0 where no file has two, 1 where one file has exactly two and no other has.
unfoldable pub pairs : List Entry → ℕ
pairs [] = 0
pairs (e ∷ es) = length (filter (of_file (file_of e.descriptor)) es) + pairs es

pub record Counts : Type 0 where
  pub unfinished : ℕ
  pub committed : ℕ
  pub opened : ℕ
  pub pending : ℕ
  pub pending_pairs : ℕ
  pub current_ok : Bool

-- Of what is current: a file has at most one, and it is data. Delete marks are never current.
unfoldable pub is_current_ok : List Entry → Bool
is_current_ok cs = eqb (pairs cs) 0 && all (λ (e : Entry). is_data e.descriptor) cs

unfoldable pub counts : List Entry → Counts
counts es =
    record {
      unfinished = length (pick is_torn es) + length (pick is_allocated es);
      committed = length (pick is_committed es);
      opened = length (pick is_open es);
      pending = length (pick is_pending_file es);
      pending_pairs = pairs (pick is_pending_file es);
      current_ok = is_current_ok (pick is_current_file es);
    }

-- Pending data and delete marks exist only beside an open transaction.
unfoldable pub is_beside : Counts → Bool
is_beside c = eqb c.opened 1 || eqb c.pending 0

-- No descriptor is torn or allocated. No transaction is committed and at most one is open. Pending data and delete marks
-- exist only beside an open one. A file has at most one current and at most one pending descriptor.
unfoldable pub is_quiet : Counts → Bool
is_quiet c =
    eqb c.unfinished 0 && eqb c.committed 0 && leb c.opened 1 && is_beside c
    && eqb c.pending_pairs 0 && c.current_ok

-- In a home bytes 4-15 are those of a settled one.
unfoldable pub has_header : Home → Bool
has_header h = is_header h.unit.bytes

-- Each logical number 0..U-2 has one home, and each home is as it must be, its header too.
unfoldable pub is_housed : Geometry → Survey → Bool
is_housed g v =
    one_each (g.units - 1) 0 v.units
    && all has_header v.homes
    && all (λ (h : Home). is_home g h.unit.bytes h.room) v.homes

-- What a spare is: wholly FF.
unfoldable pub is_spare : Bytes → Bool
is_spare u = erased u

unfoldable pub is_live : Home → Bool
is_live h = eqb h.unit.state live

-- Every home is live, and the remaining unit is a spare.
unfoldable pub is_still : Survey → Bool
is_still v = all is_live v.homes && is_spare v.spare.bytes
