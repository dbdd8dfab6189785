-- A read through a table in the code's shape is the definition's.
use Rattle.std.specs.Prelude
use Rattle.std.specs.Result.{IsErrAnd}
use Rattle.std.specs.Prelude.{◌≡◌, Some, None, Ok, Err, Bool, not, ◌&&◌, List, [], ◌∷◌, ℕ, ◌+◌, ◌-◌, ◌*◌, ◌<◌, eqb, length, get_or}
use Rattle.std.proofs.Math.Path.{refl, sym, ap}
use Rattle.std.proofs.Common.{◌∙◌, arith}
use Rattle.std.proofs.Math.Bool.{true, false, cond}
use Rattle.std.proofs.Math.Option.{Option, none, some}
use borrow.Author.Tests.{ltb-true, ltb-false}
use Rattle.std.proofs.Math.Dec.{ltb}
use Rattle.rules.specs.Lists.{first}
use Rattle.rules.specs.Flash.{Bytes, is_geometry}
use Rattle.rules.specs.Unit.{Descriptor, n, stands, blank, is_current}
use Rattle.rules.specs.Unit
use Rattle.rules.specs.Settled.{Physical, Home, Entry, Survey, physical, entries_in, survey}
use Rattle.rules.specs.Sound.{home_at}
use Rattle.rules.specs.Answers.{Plan, refuses, shown, carry_out, Answer}
use Rattle.rules.specs.Calls.{is_bad_file, refuse, in_geometry, in_settled}
use Rattle.rules.specs.Table.{Table, mark, says_none, says_file, is_usable, of_length, bears_out, shown_by, said_of, showing_or, judged, plan_read, with_table, read_through}
use Rattle.rules.specs.declared.Geometry.{Geometry}
use Rattle.rules.specs.declared.TableEntry.{TableEntry}
use Rattle.rules.specs.declared.Given.{Given}
use Rattle.rules.specs.declared.Origin.TheVariants.{NotSaid}
use Rattle.rules.specs.declared.NotDone.{NotDone}
use Rattle.rules.specs.declared.NotDone.TheVariants.{BadGeometry, BadFile, Absent, StaleTable}
use Rattle.laws.specs.Units.{RightGeometry, right_geometry, row}
use Rattle.unit.specs.Shapes.{descriptor_at, room_of, array_of}
use Rattle.unit.specs.BridgeRoom.{room_gives, array_is}
use Rattle.home_table.specs.Bridge as homes
use Rattle.home_table.specs.Bridge.{unit_at, unit_long}
use Rattle.c_report.specs.Exported.{exported}
use Rattle.c_report.specs.declared.Report.{Report}
use Rattle.judge.specs.declared.Look.{Look}
use Rattle.call_look.specs.Known.{known_plan}
use Rattle.call_look.specs.Looks.{Settles}
use Rattle.table_entries.specs.Says.{usable_by}
use Rattle.table_borne.specs.Shapes.{bears_by, given_by, shown_in}
use Rattle.table_read.specs.Shapes.{home_for, shown_home, shown_at, said_by, judged_answer, shown_or, read_answer}
use Rattle.table_read.specs.Homes.{HomeIs, stood, nobody, outside, found}
use Rattle.unit.specs.Laws.{array_at, array_past}
use Rattle.table_borne.specs.Reached.{near}

-- ---- what an entry shows
unfoldable as_shown : Option Entry → Prelude.Option Given
as_shown none = None
as_shown (some e) = Some (shown e.at 0 e NotSaid)

module _ (g : Geometry) (x : TableEntry) (f : ℕ) where
  -- what the descriptor d of the home h gives, where it bears the entry out
  unfoldable shows_by : Home → Descriptor → Prelude.Option Given
  shows_by h d =
      cond (bears_out g h x f d)
      (Some (record { steps = 0; at = record { unit = x.unit; position = x.position }; file = 0; start = cond (eqb d.len 0) 0 (h.unit.base + d.offset); len = d.len; from = NotSaid }))
      None

  shows_none : (h : Home) (d : Descriptor) → is_current d ≡ false → shows_by h d ≡ None
  unfolding shows_by bears_out
  shows_none h d e = rw e

  -- in the unit that stands h-th
  in_unit : (s : Bytes) → RightGeometry g s → (h : ℕ) → h < g.units → (k : Home) → k.unit ≡ homes.standing g.size s h → k.room ≡ Unit.room_of g (unit_at g.size s h)
      → shown_in g (h * g.size) (unit_at g.size s h) x f ≡ shows_by k (get_or k.room.array x.position blank)
  unfolding shown_in bears_out shows_by given_by
  in_unit s o h l k p q = ap gives (near u (omega (arith, long, o.large)) x.position g x.len f) ∙ go (ltb x.position m) refl
    where
      u : Bytes
      u = unit_at g.size s h

      m : ℕ
      m = (room_of (length u) u).n

      d : Descriptor
      d = descriptor_at u (stands x.position)

      gives : Bool → Prelude.Option Given
      gives b = cond b (Some (given_by d (h * g.size) (record { unit = x.unit; position = x.position }))) None

      long : length u ≡ g.size
      long = unit_long g.size s h (omega (arith, row h g.units g.size l, o.whole))

      here : m ≡ (room_of g.size u).n
      here = ap (λ (z : ℕ). (room_of z u).n) long

      count : m ≡ n k.room
      count = here ∙ (room_gives g u).n ∙ ap n (sym q)

      array : k.room.array ≡ array_of m u
      array = ap (λ (r : Unit.Room). r.array) q ∙ sym (array_is g u) ∙ ap (λ (z : ℕ). array_of z u) (sym here)

      base : k.unit.base ≡ h * g.size
      base = ap (λ (y : Physical). y.base) p ∙ unfold physical in refl

      bears : bears_by g d (stands m) x.len f ≡ bears_out g k x f d
      bears = ap (λ (z : ℕ). bears_by g d (stands z) x.len f) count ∙ unfold bears_by in refl

      go : (b : Bool) → ltb x.position m ≡ b → gives (b && bears_by g d (stands m) x.len f) ≡ shows_by k (get_or k.room.array x.position blank)
      go true e =
          let at : get_or k.room.array x.position blank ≡ d = ap (λ (ds : List Descriptor). get_or ds x.position blank) array ∙ array_at m x.position u (ltb-true x.position m e) in
          rw (at, base, bears)
      go false e =
          let at : get_or k.room.array x.position blank ≡ blank = ap (λ (ds : List Descriptor). get_or ds x.position blank) array ∙ array_past m x.position u (ltb-false x.position m e) in
          sym (ap (shows_by k) at ∙ shows_none k blank (unfold is_current blank in refl))

  spec_is : (v : Survey) → says_file x ≡ true → as_shown (shown_by g v x f) ≡ shows_by (home_at v.homes x.unit) (get_or (home_at v.homes x.unit).room.array x.position blank)
  unfolding shown_by as_shown first entries_in shown shows_by
  spec_is v e = rw e (go (bears_out g h x f d))
    where
      h : Home
      h = home_at v.homes x.unit

      d : Descriptor
      d = get_or h.room.array x.position blank

      go : (b : Bool) → as_shown (cond b (first (entries_in x.unit h.unit x.position (d ∷ []))) none)
          ≡ cond b (Some (record { steps = 0; at = record { unit = x.unit; position = x.position }; file = 0; start = cond (eqb d.len 0) 0 (h.unit.base + d.offset); len = d.len; from = NotSaid })) None
      go true = refl
      go false = refl

  shown_law : (s : Bytes) → RightGeometry g s → shown_at g s x f ≡ as_shown (shown_by g (survey g s) x f)
  unfolding shown_at shown_home physical
  shown_law s o = go (says_file x) (ltb x.unit (g.units - 1)) refl refl
    where
      k : Home
      k = home_at (survey g s).homes x.unit

      home : Prelude.Option ℕ
      home = home_for g.size g.units s x.unit

      housed : HomeIs g s x.unit k → shown_home g s x f home ≡ shows_by k (get_or k.room.array x.position blank)
      housed (stood i l e p q) = rw e (in_unit s o i l k p q)
      housed (nobody e c) = rw e (sym (shows_none k (get_or k.room.array x.position blank) (c x.position)))

      go : (a b : Bool) → says_file x ≡ a → ltb x.unit (g.units - 1) ≡ b → cond (a && b) (shown_home g s x f home) None ≡ as_shown (shown_by g (survey g s) x f)
      go true true p q = housed (found g s o x.unit (ltb-true x.unit (g.units - 1) q)) ∙ sym (spec_is (survey g s) p)
      go true false p q = sym (spec_is (survey g s) p ∙ shows_none (home_at (survey g s).homes x.unit) _ (outside g s x.unit x.position (ltb-false x.unit (g.units - 1) q)))
      go false b p q = sym (unfold shown_by as_shown in rw p)

-- ---- the answer
-- what a read that is refused in the end answers
refused_answer : (p : Plan) (a : NotDone) (s : Bytes) → p ≡ refuses a → (carry_out p 0 s).answer ≡ Err a
unfolding carry_out
refused_answer p a s e = ap (λ (q : Plan). (carry_out q 0 s).answer) e

module _ (g : Geometry) (s : Bytes) (t : Table) (f : ℕ) where
  abbrev first_entry : TableEntry
  first_entry = get_or t 0 mark

  said_is : said_of t f ≡ said_by first_entry (get_or t f mark) f
  unfolding said_of said_by is_usable usable_by
  said_is = refl

  judged_is : (carry_out (judged g s t f) 0 s).answer ≡ judged_answer g s first_entry f
  unfolding judged judged_answer is_usable usable_by
  judged_is = refl

  pub read_is : (read_through g s t f).answer ≡ read_answer g s (length t) first_entry (get_or t f mark) f
  unfolding read_through with_table plan_read of_length in_geometry refuse read_answer showing_or shown_or as_shown carry_out
  read_is = go (eqb (length t) 256) (is_geometry g (length s)) refl
    where
      x : TableEntry
      x = said_by first_entry (get_or t f mark) f

      shows_or : (y : Option Entry) → (carry_out (showing_or (judged g s t f) y) 0 s).answer ≡ shown_or (judged_answer g s first_entry f) (as_shown y)
      shows_or none = judged_is
      shows_or (some e) = refl

      told : (b : Bool) → is_geometry g (length s) ≡ true
          → (carry_out (cond b (refuses (Absent NotSaid)) (showing_or (judged g s t f) (shown_by g (survey g s) x f))) 0 s).answer
          ≡ cond b (Err (Absent NotSaid)) (shown_or (judged_answer g s first_entry f) (shown_at g s x f))
      told true k = refl
      told false k = shows_or (shown_by g (survey g s) x f) ∙ ap (shown_or (judged_answer g s first_entry f)) (sym (shown_law g x f s (right_geometry g s k)))

      go : (a b : Bool) → is_geometry g (length s) ≡ b
          → (carry_out (cond (not a) (refuses BadGeometry) (cond (not b) (refuses BadGeometry) (cond (says_none (said_of t f)) (refuses (Absent NotSaid)) (showing_or (judged g s t f) (shown_by g (survey g s) (said_of t f) f))))) 0 s).answer
          ≡ cond (a && b) (cond (says_none x) (Err (Absent NotSaid)) (shown_or (judged_answer g s first_entry f) (shown_at g s x f))) (Err BadGeometry)
      go false b k = refl
      go true false k = refl
      go true true k = rw said_is (told (says_none x) k)

-- What a read through the table reports for C, by the table's length, its first entry and the file's.
pub record Reads (g : Geometry) (s : Bytes) (n : ℕ) (first_entry entry : TableEntry) (f : ℕ) (r : Report) : Type 0 where
  pub report : r ≡ exported (read_answer g s n first_entry entry f)

-- It is the definition's, and neither image nor table changes.
pub read_through_lem : (g : Geometry) (s : Bytes) (t : Table) (f : ℕ) (r : Report) → Reads g s (length t) (get_or t 0 mark) (get_or t f mark) f r → r ≡ exported (read_through g s t f).answer
read_through_lem g s t f r h = h.report ∙ ap exported (sym (read_is g s t f))

-- ---- where the table gives no answer
module _ (x : TableEntry) (f : ℕ) where
  abbrev after : Survey → Plan
  after v = refuse (not (usable_by x)) StaleTable (refuse (is_bad_file f) BadFile (refuses StaleTable))

  module _ {g : Geometry} {s : Bytes} where
    pub judged_refused : {e : NotDone} → Settles g s (Err e) → (a : Answer) → IsErrAnd a (λ (y : NotDone). y ≡ e) → a ≡ judged_answer g s x f
    unfolding judged_answer
    judged_refused {e} t (Err y) q = ap Err q ∙ sym (refused_answer (in_settled g s after) e s (t.plans e refl after))
    judged_refused t (Ok z) q = absurd q

    pub judged_passed : {look : Look} → Settles g s (Ok look) → cond (usable_by x && is_bad_file f) (Err BadFile) (Err StaleTable) ≡ judged_answer g s x f
    unfolding judged_answer refuse carry_out
    judged_passed t = go (usable_by x) (is_bad_file f) ∙ sym (ap (λ (p : Plan). (carry_out p 0 s).answer) (known_plan (t.passed _ refl).known after))
      where
        go : (a b : Bool) → cond (a && b) (Err BadFile) (Err StaleTable) ≡ (carry_out (refuse (not a) StaleTable (refuse b BadFile (refuses StaleTable))) 0 s).answer
        go false b = refl
        go true true = refl
        go true false = refl
