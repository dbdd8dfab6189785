-- Document 01, "Jobs": each the list of its steps.
use Rattle.std.specs.Prelude.{Bool, true, false, cond, ◌&&◌, ◌||◌, List, [], ◌∷◌, ◌++◌, ℕ, zero, suc, ◌+◌, ◌-◌, ◌%◌, length, leb, ltb, eqb}
use Rattle.std.proofs.Math.Option.{Option, none, some}
use Rattle.rules.specs.Lists.{filter}
use Rattle.rules.specs.Flash.{Bytes, erased, Step, program, erase, finish, programs, words}
use Rattle.rules.specs.Unit.{Descriptor, Room, room_for, n, gap, stands, descriptor_bytes, receiving, live, retired, allocated, pending, current, old, void, is_empty, is_torn, is_allocated, is_data, is_open, is_committed, is_pending_file, is_current_file, file_of}
use Rattle.rules.specs.Copy.{packed, due, fill}
use Rattle.rules.specs.Settled.{Physical, Home, Entry, Survey, units_of, survey, select, of_file, is_spare}
use Rattle.rules.specs.Sound.{home_at}
use Rattle.rules.specs.declared.Geometry.{Geometry}
use Rattle.rules.specs.declared.Handle.{Handle}
use Rattle.rules.specs.declared.Rule.{Rule}
use Rattle.rules.specs.declared.Rule.TheVariants.{Tightest, Lowest}
use Rattle.rules.specs.declared.NotDone.{NotDone}
use Rattle.rules.specs.declared.NotDone.TheVariants.{NoRoom}

-- ---- *Format*: erase, ascending, every unit not wholly FF; then for units 0..U-2 program logical number (the unit's own) and FFFE.
unfoldable pub erases : Geometry → List Physical → List Step
erases g [] = []
erases g (p ∷ ps) = elim (erased p.bytes) [ true ↦ erases g ps | false ↦ erase p.base g.size ∷ erases g ps ]

-- The headers of the k units from L on, the first of them at offset a.
unfoldable pub headers : Geometry → ℕ → ℕ → ℕ → List Step
headers g zero a L = []
headers g (suc k) a L = program a L ∷ (program (a + 2) live ∷ headers g k (a + g.size) (suc L))

unfoldable pub format_job : Geometry → Bytes → List Step
format_job g s = erases g (units_of g s) ++ headers g (g.units - 1) 0 0

-- ---- *Reclaim L*: fill the spare; retire the old home; make the copy live; erase the old home.
-- Before the old home is retired the copy at `to` gets what its header is to hold.
unfoldable pub label : ℕ → List Step
label to = programs (to + 4) due

unfoldable pub seal : Physical → Physical → List Step
seal from to = program (from.base + 2) retired ∷ (program (to.base + 2) live ∷ [])

-- The old home, at `from`, is erased: every move ends so, a mount's too.
unfoldable pub emptied : Geometry → ℕ → List Step
emptied g from = erase from g.size ∷ []

-- What follows the erase: nothing.
unfoldable pub after_erase : Physical → Physical → List Step
after_erase from to = []

unfoldable pub move : Geometry → ℕ → Physical → Physical → List Step
move g L from to = fill g to.base L from.bytes ++ (label to.base ++ (seal from to ++ (emptied g from.base ++ after_erase from to)))

unfoldable pub reclaim : Geometry → Survey → ℕ → List Step
reclaim g v L = move g L (home_at v.homes L).unit v.spare

-- ---- *Place*
-- The lowest empty position is used, else position n.
unfoldable pub vacant : List Descriptor → ℕ
vacant [] = 0
vacant (d ∷ ds) = elim (is_empty d) [ true ↦ 0 | false ↦ suc (vacant ds) ]

-- A unit fits if it has an empty position below n and e <= gap, or if e + 8 <= gap.
unfoldable pub fits : ℕ → Room → Bool
fits e r = (ltb (vacant r.array) (n r) && leb e (gap r)) || leb (e + descriptor_bytes) (gap r)

unfoldable pub fitting : ℕ → List Home → List Home
fitting e hs = filter (λ (h : Home). fits e h.room) hs

-- What a rule goes by. The default takes the fitting unit with the smallest gap; the old rule takes the lowest logical unit that fits.
unfoldable pub key : Rule → Home → ℕ
key Tightest h = gap h.room
key Lowest h = h.number

-- The one with the lesser key, lowest number on a tie.
unfoldable pub lesser : Rule → Home → Option Home → Home
lesser q h none = h
lesser q h (some k) = cond (ltb (key q k) (key q h)) k h

unfoldable pub least : Rule → List Home → Option Home
least q [] = none
least q (h ∷ hs) = some (lesser q h (least q hs))

-- Each unit as it would be after reclaiming.
unfoldable pub reclaimed : Geometry → List Home → List Home
reclaimed g [] = []
reclaimed g (h ∷ hs) =
    record { number = h.number; unit = h.unit; room = room_for g (packed g.size h.room.array) } ∷ reclaimed g hs

-- The one with the greatest gap, the lowest number on a tie.
unfoldable pub greater : Home → Option Home → Home
greater h none = h
greater h (some k) = cond (ltb (gap h.room) (gap k.room)) k h

unfoldable pub greatest : List Home → Option Home
greatest [] = none
greatest (h ∷ hs) = some (greater h (greatest hs))

-- The unit to reclaim: of those that would then fit, the one with the greatest gap.
unfoldable pub to_reclaim : Geometry → ℕ → List Home → Option Home
to_reclaim g e hs = greatest (fitting e (reclaimed g hs))

-- A logical unit that fits as it stands, one that fits once it is reclaimed, or NO ROOM.
pub data Place : Type 0 where
  as_it_stands : ℕ → Place
  once_reclaimed : ℕ → Place
  no_room : Place

unfoldable pub chosen : Option Home → Option Home → Place
chosen (some h) k = as_it_stands h.number
chosen none (some k) = once_reclaimed k.number
chosen none none = no_room

-- Take the unit that fits and has the rule's least key. If none fits, take the unit to reclaim.
unfoldable pub place : Geometry → Rule → ℕ → Survey → Place
place g q e v = chosen (least q (fitting e v.homes)) (to_reclaim g e v.homes)

-- ---- *Store*: place; then tag, length, offset, flags FFFE, data words ascending, flags FFFC; then the file's earlier pending
-- descriptor, if any, becomes FFF0.
unfoldable pub become : ℕ → List Entry → List Step
become f [] = []
become f (e ∷ es) = program e.place f ∷ become f es

-- The new descriptor's steps: it stands at `at` of the image, its sector at `offset` of the unit at `base`.
unfoldable pub fill_in : ℕ → ℕ → ℕ → ℕ → Bytes → List Step
fill_in at base offset tag content =
    program (at + 6) tag ∷ program (at + 4) (length content) ∷ program (at + 2) offset
    ∷ program at allocated ∷ (programs (base + offset) (words content) ++ (program at pending ∷ []))

-- What a store makes: the handle of the new descriptor, and all steps.
pub record Stored : Type 0 where
  pub at : Handle
  pub job : List Step

-- What a store comes to: a refusal before any step, or what it makes.
pub data Storing : Type 0 where
  cannot : NotDone → Storing
  can : Stored → Storing

-- A sector occupies its length rounded up to even.
unfoldable pub size_for : Bytes → ℕ
size_for content = length content + length content % 2

-- In unit L, of the image that v is read from; `before` are the steps that left it, `earlier` the file's earlier pending descriptor.
unfoldable pub store_in : ℕ → Bytes → (Survey → List Entry) → List Step → ℕ → Survey → Stored
store_in tag content earlier before L v =
    let h = home_at v.homes L in
    let p = vacant h.room.array in
    let offset = h.room.low - size_for content in
    record {
      at = record { unit = L; position = p };
      job = before ++ (fill_in (h.unit.base + stands p) h.unit.base offset tag content ++ become old (earlier v));
    }

-- 10 NO ROOM: as under Place. Store's own steps are taken from the image as the reclaim leaves it.
unfoldable pub store_at : Geometry → ℕ → Bytes → (Survey → List Entry) → Bytes → Survey → Place → Storing
store_at g tag content earlier s v no_room = cannot NoRoom
store_at g tag content earlier s v (as_it_stands L) = can (store_in tag content earlier [] L v)
store_at g tag content earlier s v (once_reclaimed L) =
    let moved = reclaim g v L in
    can (store_in tag content earlier moved L (survey g (finish moved s)))

unfoldable pub store_job : Geometry → Rule → ℕ → Bytes → (Survey → List Entry) → Bytes → Survey → Storing
store_job g q tag content earlier s v = store_at g tag content earlier s v (place g q (size_for content) v)

unfoldable pub no_earlier : Survey → List Entry
no_earlier v = []

unfoldable pub earlier_of : ℕ → Survey → List Entry
earlier_of f v = filter (of_file f) (select is_pending_file v)

-- ---- *Commit*: the transaction becomes FFF8: this is the commit step. Then for each pending descriptor, by logical unit and
-- position: the file's current one becomes FFF0, then the pending one FFF8 (a delete mark: FFF0). Last the transaction becomes FFF0.
unfoldable pub turn : List Entry → Entry → List Step
turn cs e =
    become old (filter (of_file (file_of e.descriptor)) cs)
    ++ (program e.place (cond (is_data e.descriptor) current old) ∷ [])

unfoldable pub turns : List Entry → List Entry → List Step
turns cs [] = []
turns cs (e ∷ es) = turn cs e ++ turns cs es

-- What is left once the commit step is made; ts is the transaction.
unfoldable pub clean_up : List Entry → Survey → List Step
clean_up ts v = turns (select is_current_file v) (select is_pending_file v) ++ become old ts

unfoldable pub commit_job : Survey → List Step
commit_job v = let ts = select is_open v in become current ts ++ clean_up ts v

-- *Abort*: the transaction becomes FFF0, then each pending one FFF0, in the same order.
unfoldable pub abort_job : Survey → List Step
abort_job v = become old (select is_open v) ++ become old (select is_pending_file v)

-- ---- *Mount*: finish a moving unit from where it stands; torn becomes 0000, allocated FFF0; then finish a committed
-- transaction, or abort the open one and all that is pending.
unfoldable pub finish_move : Geometry → Survey → List Step
finish_move g v =
    let r = v.spare in
    let h = (home_at v.homes r.logical).unit in
    elim (is_spare r.bytes) [
      | true ↦ []
      | false ↦ cond (eqb r.state receiving) (move g r.logical h r) (emptied g r.base ++ after_erase r h)
    ]

unfoldable pub mend : Survey → List Step
mend v = become void (select is_torn v) ++ become old (select is_allocated v)

unfoldable pub end_transaction : List Entry → Survey → List Step
end_transaction [] v = abort_job v
end_transaction (t ∷ ts) v = clean_up (t ∷ ts) v

unfoldable pub tidy : Survey → List Step
tidy v = mend v ++ end_transaction (select is_committed v) v

unfoldable pub mount_job : Geometry → Bytes → Survey → List Step
mount_job g s v =
    let moved = finish_move g v in
    moved ++ tidy (survey g (finish moved s))
