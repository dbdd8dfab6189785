-- What an entry of the table shows of an image: a descriptor of its homes; and of a settled image the one that the committed view shows.
use Rattle.std.specs.Prelude.{◌≡◌, Bool, true, false, ◌&&◌, ◌||◌, ℕ, ◌+◌, ◌-◌, ◌/◌, ◌%◌, ◌≤◌, ◌<◌, eqb, length}
use Rattle.std.proofs.Math.Path.{refl, ap}
use Rattle.std.proofs.Common.{sym, ap₂, ◌∙◌, subst, inl, inr, zero-add, arith}
use Rattle.std.proofs.Math.Bool.{not, cond}
use mathlib.Core.List.{List, [], ◌∷◌}
use Rattle.std.proofs.Math.Option.{Option, none, some}
use Rattle.std.proofs.Math.Decide.{dec_lt}
use Rattle.std.proofs.Math.Dec.{leb}
use Rattle.std.proofs.Math.ListN.{get_or, get_or-eq_default}
use Rattle.rules.specs.Flash.{Bytes, is_geometry}
use Rattle.rules.specs.Lists.{all, filter, first}
use Rattle.rules.specs.Unit.{Descriptor, Room, blank, has_sector, is_current, is_current_file, is_data, is_home, is_mark, is_placed, is_tagged, is_transaction, file_of, lies, n, size, stands, is_allocated, is_pending, is_old, transaction_tag}
use Rattle.rules.specs.Settled.{Entry, Home, entries_in, of_file, pick, select, survey, units_of}
use Rattle.rules.specs.Sound.{home_at, no_home, standing}
use Rattle.rules.specs.Views.{committed_view}
use Rattle.rules.specs.Table.{a_file, bears_out, says_file, shown_by}
use Rattle.laws.specs.Homes.{SettledParts, home_at_lem, home_of, settled_parts, pairs_few}
use Rattle.laws.specs.Lists.{Every, Has, every_all, every_filter, every_get, filter_has, filter_passes}
use Rattle.laws.specs.Rooms.{home_parts}
use Rattle.laws.specs.Tests.{five, and_inv}
use Rattle.laws.specs.Units.{right_geometry, base_inside, home_stands}
use Rattle.laws.specs.Spare.{length_homes}
use Rattle.rules.specs.declared.Geometry.{Geometry}
use Rattle.rules.specs.declared.Standing.TheVariants.{Settled}
use Rattle.rules.specs.declared.TableEntry.{TableEntry}
use Rattle.theory.specs.Base.Facts.{all_get, and_l, eq_of, eqb_same, le_of, true_false}
use Rattle.theory.specs.Meaning.Handles.{none_some}
use Rattle.theory.specs.Images.Entries.{current_sector}
use Rattle.theory.specs.Promised.Reads.{first_is}
use Rattle.theory.specs.Tidying.Sorted.{Quiet, quiet_of, sorted}
use Rattle.promises_table.specs.Stood.{StoodHome, each_of, entry_at, has_in, has_of}

-- ---- what an entry of the table shows, of any image
abbrev descriptor_in : Option Entry → Descriptor
descriptor_in none = blank
descriptor_in (some e) = e.descriptor

abbrev start_in : Option Entry → ℕ
start_in none = 0
start_in (some e) = e.start

-- data is no transaction, and has at most 256 bytes
data_file : (d : Descriptor) → is_current d ≡ true → is_data d ≡ true → is_current_file d ≡ true
unfolding is_current_file is_current is_transaction is_data transaction_tag
data_file d c h = go (eqb d.tag 0x3000) refl
  where
    go : (b : Bool) → eqb d.tag 0x3000 ≡ b → eqb d.flags 0xFFF8 && not b ≡ true
    go true q = absurd (let w : ⊥ = omega (arith, eq_of d.tag 0x3000 q, eq_of (d.tag / 256) 16 h) in w)
    go false q = ap (λ (x : Bool). x && true) c

data_short : (d : Descriptor) → is_data d ≡ true → is_tagged d ≡ true → d.len ≤ 256
unfolding is_tagged
data_short d h t = go (leb d.len 256) refl (is_mark d || is_transaction d) (eqb d.len 0) refl (ap (λ (x : Bool). (x && leb d.len 256) || ((is_mark d || is_transaction d) && eqb d.len 0)) (sym h) ∙ t)
  where
    go : (a : Bool) → leb d.len 256 ≡ a → (m z : Bool) → eqb d.len 0 ≡ z → (true && a) || (m && z) ≡ true → d.len ≤ 256
    go true p m z q e = le_of d.len 256 p
    go false p true true q e = omega (arith, eq_of d.len 0 q)
    go false p true false q e = true_false false e refl
    go false p false z q e = true_false false e refl

module _ (g : Geometry) (s : Bytes) where
  pub record EntryShows (x : TableEntry) (f : ℕ) (e : Entry) : Type 0 where
    pub says : says_file x ≡ true
    pub here : get_or (home_at (survey g s).homes x.unit).room.array x.position blank ≡ e.descriptor
    pub is : entry_at x.unit (home_at (survey g s).homes x.unit).unit x.position e.descriptor ≡ some e
    pub current : is_current e.descriptor ≡ true
    pub data' : is_data e.descriptor ≡ true
    pub file : eqb (file_of e.descriptor) f ≡ true
    pub lying : lies g (stands (n (home_at (survey g s).homes x.unit).room)) e.descriptor ≡ true

  pub shows : (x : TableEntry) (f : ℕ) (e : Entry) → shown_by g (survey g s) x f ≡ some e → EntryShows x f e
  unfolding shown_by bears_out entries_in first
  shows x f e q = go (says_file x) (bears_out g h x f d) refl refl q
    where
      h : Home
      h = home_at (survey g s).homes x.unit

      d : Descriptor
      d = get_or h.room.array x.position blank

      go : (a b : Bool) → says_file x ≡ a → bears_out g h x f d ≡ b → cond (a && b) (entry_at x.unit h.unit x.position d) none ≡ some e → EntryShows x f e
      go true true p r q =
          let same : d ≡ e.descriptor = ap descriptor_in q in
          let k = five (is_current d) (is_data d) (eqb (file_of d) f) (eqb d.len x.len) (lies g (stands (n h.room)) d) r in
          record {
            says = p;
            here = same;
            is = ap (entry_at x.unit h.unit x.position) (sym same) ∙ q;
            current = ap is_current (sym same) ∙ k.0;
            data' = ap is_data (sym same) ∙ k.1;
            file = ap (λ (y : Descriptor). eqb (file_of y) f) (sym same) ∙ k.2;
            lying = ap (lies g (stands (n h.room))) (sym same) ∙ k.4;
          }
      go true false p r q = none_some e q
      go false b p r q = none_some e q

  -- its content lies in the image, and has at most 256 bytes
  pub inside : is_geometry g (length s) ≡ true → (x : TableEntry) (f : ℕ) (e : Entry) → EntryShows x f e → (e.start + e.descriptor.len ≤ length s) × (e.descriptor.len ≤ 256)
  unfolding lies size entries_in first
  inside legal x f e k =
      let a = right_geometry g s legal in
      let L = x.unit in
      let t = and_inv (eqb (e.descriptor.offset % 2) 0 && leb (stands (n (home_at (survey g s).homes L).room)) e.descriptor.offset && leb (e.descriptor.offset + size e.descriptor) g.size) (is_tagged e.descriptor) k.lying in
      let w = and_inv (eqb (e.descriptor.offset % 2) 0 && leb (stands (n (home_at (survey g s).homes L).room)) e.descriptor.offset) (leb (e.descriptor.offset + size e.descriptor) g.size) t.0 in
      let from : (home_at (survey g s).homes L).unit.base + e.descriptor.offset ≡ e.start = ap start_in k.is in
      (omega (arith, from, le_of (e.descriptor.offset + size e.descriptor) g.size w.1, base_inside g (home_stands g (omega (arith, a.some)) s L), a.whole), data_short e.descriptor k.data' t.1)

  -- it is an entry of the image
  pub shown_has : (x : TableEntry) (f : ℕ) (e : Entry) → EntryShows x f e → Has e (survey g s).entries
  unfolding survey home_at no_home is_current blank
  shown_has x f e k = go (dec_lt x.unit (g.units - 1))
    where
      -- where there is no descriptor it is blank, and not current
      not_blank : get_or (home_at (survey g s).homes x.unit).room.array x.position blank ≡ blank → ⊥
      not_blank z = true_false (is_current e.descriptor) k.current (ap is_current (sym k.here ∙ z))

      go : Dec (x.unit < g.units - 1) → Has e (survey g s).entries
      go (no l) =
          absurd (not_blank (ap (λ (h : Home). get_or h.room.array x.position blank) (get_or-eq_default (survey g s).homes no_home (omega (arith, length_homes g (g.units - 1) 0 (units_of g s))))))
      go (yes l) =
          let same = home_at_lem g s x.unit l in
          has_of g (units_of g s) (g.units - 1) 0 x.unit (omega arith) (omega arith) e (subst (λ (h : Home). Has e (entries_in x.unit h.unit 0 h.room.array)) same (here (dec_lt x.position (length (home_at (survey g s).homes x.unit).room.array))))
        where
          here : Dec (x.position < length (home_at (survey g s).homes x.unit).room.array) → Has e (entries_in x.unit (home_at (survey g s).homes x.unit).unit 0 (home_at (survey g s).homes x.unit).room.array)
          here (no m) = absurd (not_blank (get_or-eq_default (home_at (survey g s).homes x.unit).room.array blank (omega arith)))
          here (yes m) =
              has_in x.unit (home_at (survey g s).homes x.unit).unit 0 (home_at (survey g s).homes x.unit).room.array x.position m e
              (ap₂ (λ (i : ℕ) (d : Descriptor). entry_at x.unit (home_at (survey g s).homes x.unit).unit i d) (zero-add x.position) k.here ∙ k.is)

-- ---- of a settled image
first_one : (e : Entry) (l : List Entry) → Has e l → length l ≤ 1 → first l ≡ some e
unfolding first
first_one e [] h n = absurd h
first_one e (x ∷ []) (inl p) n = ap {B = Option Entry} some (sym p)
first_one e (x ∷ []) (inr h) n = absurd h
first_one e (x ∷ (y ∷ l)) h n = absurd (let w : ⊥ = omega arith in w)

all_five : {a b c d e : Bool} → a ≡ true → b ≡ true → c ≡ true → d ≡ true → e ≡ true → a && b && c && d && e ≡ true
all_five p q r s t = λ i. p i && q i && r i && s i && t i

current_now : (d : Descriptor) → is_current_file d ≡ true → is_current d ≡ true
unfolding is_current_file
current_now d h = and_l (is_current d) (not (is_transaction d)) h

all_placed : (g : Geometry) (u : Bytes) (r : Room) → is_home g u r ≡ true → all (is_placed g (stands (n r))) r.array ≡ true
all_placed g u r h = (home_parts g u r h).placed

placed_lies : (g : Geometry) (floor : ℕ) (d : Descriptor) → has_sector d ≡ true → is_placed g floor d ≡ true → lies g floor d ≡ true
unfolding is_placed
placed_lies g floor d k e = ap (λ (b : Bool). not b || lies g floor d) (sym k) ∙ e

module _ (g : Geometry) (s : Bytes) (st : standing g (survey g s) ≡ Settled) where
  abbrev parts : SettledParts g (survey g s)
  parts = settled_parts g (survey g s) st

  abbrev q : Quiet (sorted (survey g s).entries)
  q = quiet_of (survey g s).entries (settled_parts g (survey g s) st).quiet

  -- what an entry shows is what the committed view shows
  pub shown_committed : (x : TableEntry) (f : ℕ) (e : Entry) → shown_by g (survey g s) x f ≡ some e → committed_view f (survey g s) ≡ some e
  unfolding committed_view select pick of_file
  shown_committed x f e z =
      let k = shows g s x f e z in
      first_one e (filter (of_file f) (pick is_current_file (survey g s).entries))
      (filter_has (of_file f) e (pick is_current_file (survey g s).entries) k.file
      (filter_has (λ (y : Entry). is_current_file y.descriptor) e (survey g s).entries (data_file e.descriptor k.current k.data') (shown_has g s x f e k)))
      (pairs_few f (pick is_current_file (survey g s).entries) q.current)

  -- and what the committed view shows is what its own entry shows
  pub committed_shown : (f : ℕ) (e : Entry) → committed_view f (survey g s) ≡ some e → shown_by g (survey g s) (a_file e) f ≡ some e
  unfolding committed_view select pick shown_by bears_out says_file a_file home_at
  committed_shown f e z =
      ap (λ (d : Descriptor). cond (bears_out g h (a_file e) f d) (entry_at e.at.unit h.unit e.at.position d) none) here
      ∙ ap (λ (b : Bool). cond b (entry_at e.at.unit h.unit e.at.position e.descriptor) none) borne
      ∙ (ap (λ (x : Home). entry_at e.at.unit x.unit e.at.position e.descriptor) home ∙ stood.1.at.is)
    where
      cs : List Entry
      cs = pick is_current_file (survey g s).entries

      l : (r : List Entry) × (filter (of_file f) cs ≡ e ∷ r)
      l = first_is (filter (of_file f) cs) e z

      -- what holds of every current entry holds of it
      of : (P : Entry → Type 0) → Every P cs → P e
      of P k = (subst (Every P) l.1 (every_filter P (of_file f) cs k)).0

      stood : (e.at.unit < 0 + (g.units - 1)) × StoodHome g (units_of g s) e
      stood = of (λ (x : Entry). (x.at.unit < 0 + (g.units - 1)) × StoodHome g (units_of g s) x) (every_filter _ (λ (x : Entry). is_current_file x.descriptor) (survey g s).entries (unfold survey in each_of g (units_of g s) (g.units - 1) 0))

      low : e.at.unit < g.units - 1
      low = omega (arith, stood.0)

      h : Home
      h = home_at (survey g s).homes e.at.unit

      home : h ≡ home_of g (units_of g s) e.at.unit
      home = home_at_lem g s e.at.unit low

      here : get_or h.room.array e.at.position blank ≡ e.descriptor
      here = ap (λ (x : Home). get_or x.room.array e.at.position blank) home ∙ stood.1.at.here

      current : is_current_file e.descriptor ≡ true
      current = of (λ (x : Entry). is_current_file x.descriptor ≡ true) (filter_passes (λ (x : Entry). is_current_file x.descriptor) (survey g s).entries)

      now : is_current e.descriptor ≡ true
      now = current_now e.descriptor current

      isdata : is_data e.descriptor ≡ true
      isdata = of (λ (x : Entry). is_data x.descriptor ≡ true) (every_all (λ (x : Entry). is_data x.descriptor) cs q.data')

      mine : eqb (file_of e.descriptor) f ≡ true
      mine = unfold of_file in (subst (Every (λ (x : Entry). of_file f x ≡ true)) l.1 (filter_passes (of_file f) cs)).0

      good : is_home g h.unit.bytes h.room ≡ true
      good = all_get (λ (x : Home). is_home g x.unit.bytes x.room) (survey g s).homes e.at.unit no_home (unfold survey in omega (arith, length_homes g (g.units - 1) 0 (units_of g s), low)) parts.homes

      placed : is_placed g (stands (n h.room)) e.descriptor ≡ true
      placed = ap (is_placed g (stands (n h.room))) (sym here) ∙ every_get (λ (d : Descriptor). is_placed g (stands (n h.room)) d ≡ true) blank (unfold is_placed has_sector is_allocated is_pending is_current is_old blank in refl) h.room.array (every_all (is_placed g (stands (n h.room))) h.room.array (all_placed g h.unit.bytes h.room good)) e.at.position

      lying : lies g (stands (n h.room)) e.descriptor ≡ true
      lying = placed_lies g (stands (n h.room)) e.descriptor (current_sector e current) placed

      borne : bears_out g h (a_file e) f e.descriptor ≡ true
      borne = all_five now isdata mine (eqb_same e.descriptor.len) lying
