-- An image's homes, each by its parts, and the survey that is read from them.
use Rattle.std.specs.Prelude.{Bool, ◌&&◌, not, ◌≢◌, ◌≡◌, get_or, length}
use Rattle.std.proofs.Math.Bool.{false, true}
use mathlib.Core.List.{List, [], ◌++◌, ◌∷◌}
use Rattle.std.proofs.Common.{◌∙◌, subst, sym, add-zero, le_of_suc-le-suc, mul-div_cancel, not-suc-le-zero, zero-add, arith}
use Rattle.std.proofs.Math.Path.{ap, ap₂, refl}
use Prim.Native.Nat.{◌*◌, ◌+◌, ◌-◌, ◌/◌, ◌<◌, suc, zero, ℕ}
use Rattle.std.proofs.Math.Decide.{ℕ_discrete}
use Rattle.std.proofs.Math.Dec.{eqb}
use Rattle.rules.specs.Flash.{Bytes, is_geometry, word}
use Rattle.rules.specs.Lists.{all, filter}
use Rattle.rules.specs.Settled.{Entry, Home, Physical, Survey, content_in, entries_in, entries_of, has_header, homes_for, homes_from, is_housed, is_in, is_left, one_each, units_of}
use Rattle.rules.specs.Settled.{physical, survey, the_first, units_from}
use Rattle.rules.specs.Unit.{Descriptor, Room, is_home, live, retired, room_of, stands}
use Rattle.rules.specs.declared.Geometry.{Geometry}
use Rattle.laws.specs.Words.{two_bytes}
use Rattle.theory.specs.Base.Facts.{all_cons, and_false, both, differ, eqb_same}
use Rattle.theory.specs.Base.Along.{le}
use Rattle.theory.specs.Images.Units.{Sized, join, length_join, none_pass, one_pass, units_join, units_at}
use Rattle.theory.specs.Images.Head.{Head, has_header_lem, headed, plain_head}
use Rattle.theory.specs.Images.Layout.{Good, header_ok, home_ok_lem, layout, room_layout}
use Rattle.theory.specs.Images.Sectors.{AllAbove, LegalGeometry, all_above, content_laid, content_over}

-- A home, by its parts: the unit where it lies, whether it is live or else retired, its header behind that, its descriptors, its gap, the bytes from low up.
pub record LaidHome : Type 0 where
  pub phys : ℕ
  pub up : Bool
  pub head : Head
  pub array : List Descriptor
  pub gap : ℕ
  pub rest : Bytes

abbrev pub state_word : Bool → ℕ
state_word true = live
state_word false = retired

abbrev pub laid : ℕ → LaidHome → Bytes
laid L p = layout L (state_word p.up) p.head p.array p.gap p.rest

abbrev pub home_of : Geometry → ℕ → LaidHome → Home
home_of g L p = record { number = L; unit = physical (p.phys * g.size) (laid L p); room = record { array = p.array; low = stands (length p.array) + p.gap } }

abbrev pub homes_of : Geometry → ℕ → List LaidHome → List Home
homes_of g L [] = []
homes_of g L (p ∷ ps) = home_of g L p ∷ homes_of g (suc L) ps

abbrev pub is_up : LaidHome → Bool
is_up p = p.up

abbrev pub state_at : List Bytes → ℕ → ℕ
state_at us j = word (get_or us j []) 2

abbrev pub name_of : List Bytes → ℕ → ℕ
name_of us j = word (get_or us j []) 0

-- p is L's home among the units us, of which sp is left over
pub record Is (g : Geometry) (us : List Bytes) (sp L : ℕ) (p : LaidHome) : Type 0 where
  pub there : p.phys < length us
  pub bytes : get_or us p.phys [] ≡ laid L p
  pub good : Good g p.array p.gap p.rest
  pub headed : headed p.head ≡ true
  pub away : p.phys ≢ sp
  -- beside a retired home the unit left over is not retired
  pub mark : p.up ≡ false → eqb (state_at us sp) retired ≡ false

abbrev pub HomesStand : Geometry → List Bytes → ℕ → ℕ → List LaidHome → Type 0
HomesStand g us sp L [] = Unit {0}
HomesStand g us sp L (p ∷ ps) = Is g us sp L p × HomesStand g us sp (suc L) ps

abbrev pub no_laid_home : LaidHome
no_laid_home = record { phys = 0; up = true; head = plain_head; array = []; gap = 0; rest = [] }

-- home i, by its number
pub homes_at_lem : (g : Geometry) (us : List Bytes) (sp L : ℕ) (qs : List LaidHome) → HomesStand g us sp L qs → (i : ℕ) → i < length qs → Is g us sp (L + i) (get_or qs i no_laid_home)
homes_at_lem g us sp L [] h i l = absurd (not-suc-le-zero l)
homes_at_lem g us sp L (q ∷ qs) h zero l = subst (λ (n : ℕ). Is g us sp n q) (sym (add-zero L)) h.0
homes_at_lem g us sp L (q ∷ qs) h (suc i) l = subst (λ (n : ℕ). Is g us sp n (get_or qs i no_laid_home)) more (homes_at_lem g us sp (suc L) qs h.1 i (le_of_suc-le-suc l))
  where
    more : suc L + i ≡ L + suc i
    more = omega arith

-- the homes of numbers 0, 1, .. are ps, and unit sp is left over
pub record Stands (g : Geometry) (us : List Bytes) (ps : List LaidHome) (sp : ℕ) : Type 0 where
  pub shape : LegalGeometry g
  pub units : length us ≡ g.units
  pub sized : Sized g.size us
  pub many : length us ≡ suc (length ps)
  pub homes : HomesStand g us sp 0 ps
  pub spare : sp < length us
  pub not_live : eqb (state_at us sp) live ≡ false
  -- each other unit is the home that its logical number names
  pub named : (j : ℕ) → j < length us → j ≢ sp → (name_of us j < length ps) × ((get_or ps (name_of us j) no_laid_home).phys ≡ j)

-- ---- the homes' descriptors
module _ (g : Geometry) where
  abbrev pub entry_at : ℕ → ℕ → Bytes → ℕ → Descriptor → Entry
  entry_at L k rest i d =
      record {
        at = record { unit = L; position = i };
        place = k * g.size + stands i;
        descriptor = d;
        start = k * g.size + d.offset;
        content = content_over g rest d;
      }

  -- of home L, which is unit k
  abbrev pub home_entries : ℕ → ℕ → Bytes → ℕ → List Descriptor → List Entry
  home_entries L k rest i [] = []
  home_entries L k rest i (d ∷ ds) = entry_at L k rest i d ∷ home_entries L k rest (suc i) ds

  -- of the homes from L on
  abbrev pub all_entries : ℕ → List LaidHome → List Entry
  all_entries L [] = []
  all_entries L (p ∷ ps) = home_entries L p.phys p.rest 0 p.array ++ all_entries (suc L) ps

pub name_is : (g : Geometry) (us : List Bytes) (sp L : ℕ) (p : LaidHome) → Is g us sp L p → name_of us p.phys ≡ L
unfolding word
name_is g us sp L p h = ap (λ (u : Bytes). word u 0) h.bytes ∙ two_bytes L

either : (b : Bool) → (elim b as (λ j. Bool) [ true ↦ false | false ↦ false ]) ≡ false
either true = refl
either false = refl

module _ (g : Geometry) (us : List Bytes) (ps : List LaidHome) (sp : ℕ) (st : Stands g us ps sp) where
  -- ---- the units that pass for L's home
  module _ (L : ℕ) (p : LaidHome) (h : Is g us sp L p) (here : (get_or ps L no_laid_home).phys ≡ p.phys) where
    fails : (c j : ℕ) → (j ≡ sp → eqb (state_at us sp) c ≡ false) → j < length us → j ≢ p.phys → is_in L c (physical (0 + j * g.size) (get_or us j [])) ≡ false
    unfolding is_in physical
    fails c j spare l n = go (ℕ_discrete j sp)
      where
        go : Dec (j ≡ sp) → is_in L c (physical (0 + j * g.size) (get_or us j [])) ≡ false
        go (yes e) = ap (λ (b : Bool). eqb (name_of us j) L && b) (ap (λ (x : ℕ). eqb (state_at us x) c) e ∙ spare e) ∙ and_false (eqb (name_of us j) L)
        go (no m) =
            ap (λ (b : Bool). b && eqb (state_at us j) c)
            (differ (λ (e : name_of us j ≡ L). n (sym (st.named j l m).1 ∙ ap (λ (x : ℕ). (get_or ps x no_laid_home).phys) e ∙ here)))

    passes : (c : ℕ) → state_word p.up ≡ c → is_in L c (physical (0 + p.phys * g.size) (get_or us p.phys [])) ≡ true
    unfolding word is_in physical
    passes c e =
        both (ap (λ (x : ℕ). eqb x L) (name_is g us sp L p h) ∙ eqb_same L)
        (ap (λ (x : ℕ). eqb x c) (ap (λ (u : Bytes). word u 2) h.bytes ∙ two_bytes (state_word p.up) ∙ e) ∙ eqb_same c)

    home_for_lem : homes_for (units_at g 0 us) L ≡ physical (p.phys * g.size) (laid L p) ∷ []
    unfolding word is_in physical homes_for
    home_for_lem =
        go p.up refl
        ∙ ap₂ (λ (a : ℕ) (u : Bytes). physical a u ∷ []) (zero-add (p.phys * g.size)) h.bytes
      where
        it : Physical
        it = physical (0 + p.phys * g.size) (get_or us p.phys [])

        go : (b : Bool) → p.up ≡ b → homes_for (units_at g 0 us) L ≡ physical (0 + p.phys * g.size) (get_or us p.phys []) ∷ []
        go true e =
            ap (λ (l : List Physical). elim l as (λ j. List Physical) [ [] ↦ filter (is_in L retired) (units_at g 0 us) | q ∷ qs ↦ q ∷ qs ])
            (one_pass g (is_in L live) us 0 p.phys h.there (passes live (ap state_word e)) (λ j l n. fails live j (λ x. st.not_live) l n))
        go false e =
            ap (λ (l : List Physical). elim l as (λ j. List Physical) [ [] ↦ filter (is_in L retired) (units_at g 0 us) | q ∷ qs ↦ q ∷ qs ])
            (none_pass g (is_in L live) us 0 (λ j l. each j l (ℕ_discrete j p.phys)))
            ∙ one_pass g (is_in L retired) us 0 p.phys h.there (passes retired (ap state_word e)) (λ j l n. fails retired j (λ x. h.mark e) l n)
          where
            each : (j : ℕ) → j < length us → Dec (j ≡ p.phys) → is_in L live (physical (0 + j * g.size) (get_or us j [])) ≡ false
            each j l (yes q) =
                ap (λ (b : Bool). eqb (name_of us j) L && b)
                (ap (λ (x : ℕ). eqb (state_at us x) live) q ∙ ap (λ (u : Bytes). eqb (word u 2) live) h.bytes ∙ ap (λ (b : Bool). eqb (word (le L (le (state_word b) [])) 2) live) e)
                ∙ and_false (eqb (name_of us j) L)
            each j l (no n) = fails live j (λ x. st.not_live) l n

  -- the rest of the homes, from L on
  abbrev pub RestOfHomes : ℕ → List LaidHome → Type 0
  RestOfHomes L qs = (i : ℕ) → i < length qs → get_or ps (L + i) no_laid_home ≡ get_or qs i no_laid_home

  next_rest : (L : ℕ) (q : LaidHome) (qs : List LaidHome) → RestOfHomes L (q ∷ qs) → RestOfHomes (suc L) qs
  next_rest L q qs r i l = ap (λ (x : ℕ). get_or ps x no_laid_home) more ∙ r (suc i) (omega arith)
    where
      more : suc L + i ≡ L + suc i
      more = omega arith

  here_rest : (L : ℕ) (q : LaidHome) (qs : List LaidHome) → RestOfHomes L (q ∷ qs) → (get_or ps L no_laid_home).phys ≡ q.phys
  here_rest L q qs r = ap (λ (x : ℕ). (get_or ps x no_laid_home).phys) (sym (add-zero L)) ∙ ap (λ (x : LaidHome). x.phys) (r 0 (omega arith))

  pub all_rest : RestOfHomes 0 ps
  all_rest i l = ap (λ (x : ℕ). get_or ps x no_laid_home) (zero-add i)

  homes_read : (L : ℕ) (qs : List LaidHome) → HomesStand g us sp L qs → RestOfHomes L qs → homes_from g (length qs) L (units_at g 0 us) ≡ homes_of g L qs
  unfolding homes_from the_first physical
  homes_read L [] h r = refl
  homes_read L (q ∷ qs) h r =
      ap₂ {C = List Home} (λ (x : Home) (y : List Home). x ∷ y)
      (ap (λ (l : List Physical). record { number = L; unit = the_first l; room = room_of g (the_first l).bytes }) (home_for_lem L q h.0 (here_rest L q qs r))
      ∙ ap (λ (m : Room). record { number = L; unit = physical (q.phys * g.size) (laid L q); room = m }) (room_layout g L (state_word q.up) q.head q.array q.gap q.rest h.0.good))
      (homes_read (suc L) qs h.1 (next_rest L q qs r))

  one_each_lem : (L : ℕ) (qs : List LaidHome) → HomesStand g us sp L qs → RestOfHomes L qs → one_each (length qs) L (units_at g 0 us) ≡ true
  unfolding one_each
  one_each_lem L [] h r = refl
  one_each_lem L (q ∷ qs) h r =
      ap (λ (l : List Physical). elim (eqb (length l) 1) as (λ j. Bool) [ true ↦ one_each (length qs) (suc L) (units_at g 0 us) | false ↦ false ])
      (home_for_lem L q h.0 (here_rest L q qs r))
      ∙ one_each_lem (suc L) qs h.1 (next_rest L q qs r)

  all_homes : (L : ℕ) (qs : List LaidHome) → HomesStand g us sp L qs → all (λ (x : Home). is_home g x.unit.bytes x.room) (homes_of g L qs) ≡ true
  unfolding all physical
  all_homes L [] h = refl
  all_homes L (q ∷ qs) h =
      all_cons (λ (x : Home). is_home g x.unit.bytes x.room) (home_of g L q) (homes_of g (suc L) qs)
      (home_ok_lem g L (state_word q.up) q.head q.array q.gap q.rest h.0.good) (all_homes (suc L) qs h.1)

  all_headers : (L : ℕ) (qs : List LaidHome) → HomesStand g us sp L qs → all has_header (homes_of g L qs) ≡ true
  unfolding all physical
  all_headers L [] h = refl
  all_headers L (q ∷ qs) h =
      all_cons has_header (home_of g L q) (homes_of g (suc L) qs)
      (has_header_lem (home_of g L q) ∙ header_ok L (state_word q.up) q.head q.array q.gap q.rest h.0.headed) (all_headers (suc L) qs h.1)

  -- ---- the unit left over
  base_differs : (a b : ℕ) → a ≢ b → eqb (a * g.size) (b * g.size) ≡ false
  base_differs a b n = differ (λ (e : a * g.size ≡ b * g.size). n (sym (mul-div_cancel a pos) ∙ ap (λ (x : ℕ). x / g.size) e ∙ mul-div_cancel b pos))
    where
      pos : 0 < g.size
      pos = omega (arith, st.shape.right.large)

  spare_passes : (L : ℕ) (qs : List LaidHome) → HomesStand g us sp L qs → is_left (homes_of g L qs) (physical (0 + sp * g.size) (get_or us sp [])) ≡ true
  unfolding is_left all physical
  spare_passes L [] h = refl
  spare_passes L (q ∷ qs) h =
      ap (λ (b : Bool). elim (not b) as (λ j. Bool) [ true ↦ is_left (homes_of g (suc L) qs) (physical (0 + sp * g.size) (get_or us sp [])) | false ↦ false ])
      (ap (λ (x : ℕ). eqb (q.phys * g.size) x) (zero-add (sp * g.size)) ∙ base_differs q.phys sp h.0.away)
      ∙ spare_passes (suc L) qs h.1

  home_fails : (L : ℕ) (qs : List LaidHome) (i : ℕ) → i < length qs → (u : Bytes) → is_left (homes_of g L qs) (physical (0 + (get_or qs i no_laid_home).phys * g.size) u) ≡ false
  unfolding is_left all physical
  home_fails L [] i l u = absurd (not-suc-le-zero l)
  home_fails L (q ∷ qs) zero l u =
      ap (λ (b : Bool). elim (not b) as (λ j. Bool) [ true ↦ is_left (homes_of g (suc L) qs) (physical (0 + q.phys * g.size) u) | false ↦ false ])
      (ap (λ (x : ℕ). eqb (q.phys * g.size) x) (zero-add (q.phys * g.size)) ∙ eqb_same (q.phys * g.size))
  home_fails L (q ∷ qs) (suc i) l u =
      ap (λ (b : Bool). elim (not (eqb (q.phys * g.size) (0 + (get_or qs i no_laid_home).phys * g.size))) as (λ j. Bool) [ true ↦ b | false ↦ false ])
      (home_fails (suc L) qs i (le_of_suc-le-suc l) u)
      ∙ either (not (eqb (q.phys * g.size) (0 + (get_or qs i no_laid_home).phys * g.size)))

  -- exactly one unit is nobody's home
  pub spare_read : filter (is_left (homes_of g 0 ps)) (units_at g 0 us) ≡ physical (sp * g.size) (get_or us sp []) ∷ []
  spare_read =
      one_pass g (is_left (homes_of g 0 ps)) us 0 sp st.spare (spare_passes 0 ps st.homes)
      (λ j l n. ap (λ (x : ℕ). is_left (homes_of g 0 ps) (physical (0 + x * g.size) (get_or us j []))) (sym (st.named j l n).1)
      ∙ home_fails 0 ps (name_of us j) (st.named j l n).0 (get_or us j []))
      ∙ ap (λ (a : ℕ). physical a (get_or us sp []) ∷ []) (zero-add (sp * g.size))

  -- ---- the descriptors
  entries_in_lem : (L : ℕ) (q : LaidHome) → Good g q.array q.gap q.rest → (i : ℕ) (ds : List Descriptor) → AllAbove (stands (length q.array) + q.gap) ds
      → entries_in L (physical (q.phys * g.size) (laid L q)) i ds ≡ home_entries g L q.phys q.rest i ds
  unfolding entries_in physical
  entries_in_lem L q h i [] a = refl
  entries_in_lem L q h i (d ∷ ds) a = λ j. here j ∷ entries_in_lem L q h (suc i) ds a.1 j
    where
      here : record {
        at = record { unit = L; position = i };
        place = q.phys * g.size + stands i;
        descriptor = d;
        start = q.phys * g.size + d.offset;
        content = content_in (laid L q) d;
      }
          ≡ entry_at g L q.phys q.rest i d
      here = λ j. record {
        at = record { unit = L; position = i };
        place = q.phys * g.size + stands i;
        descriptor = d;
        start = q.phys * g.size + d.offset;
        content = content_laid g L (state_word q.up) q.head q.array q.gap q.rest h d a.0 j;
      }

  entries_read : (L : ℕ) (qs : List LaidHome) → HomesStand g us sp L qs → entries_of (homes_of g L qs) ≡ all_entries g L qs
  unfolding entries_of
  entries_read L [] h = refl
  entries_read L (q ∷ qs) h =
      ap₂ (λ (a b : List Entry). a ++ b)
      (entries_in_lem L q h.0.good 0 q.array (all_above (stands (length q.array) + q.gap) g.size q.array (omega (arith, h.0.good.low))))
      (entries_read (suc L) qs h.1)

  -- ---- THE law of reading
  abbrev pub the_survey : Survey
  the_survey = record { units = units_at g 0 us; homes = homes_of g 0 ps; spare = physical (sp * g.size) (get_or us sp []); entries = all_entries g 0 ps }

  less : g.units - 1 ≡ length ps
  less = omega (arith, st.units, st.many)

  pub survey_read : survey g (join us) ≡ the_survey
  unfolding survey units_of the_first
  survey_read =
      ap (λ (l : List Physical). whole l (homes_from g (g.units - 1) 0 l)) (ap (λ (n : ℕ). units_from g n 0 (join us)) (sym st.units) ∙ units_join g us 0 st.sized)
      ∙ ap (λ (l : List Home). whole (units_at g 0 us) l)
      (ap (λ (n : ℕ). homes_from g n 0 (units_at g 0 us)) less ∙ homes_read 0 ps st.homes all_rest)
      ∙ ap₂ (λ (l : List Physical) (es : List Entry). record { units = units_at g 0 us; homes = homes_of g 0 ps; spare = the_first l; entries = es }) spare_read (entries_read 0 ps st.homes)
    where
      whole : List Physical → List Home → Survey
      whole l hs = record { units = l; homes = hs; spare = the_first (filter (is_left hs) l); entries = entries_of hs }

  pub housed_read : is_housed g the_survey ≡ true
  unfolding is_housed
  housed_read = both (both (ap (λ (n : ℕ). one_each n 0 (units_at g 0 us)) less ∙ one_each_lem 0 ps st.homes all_rest) (all_headers 0 ps st.homes)) (all_homes 0 ps st.homes)

pub stands_legal : (g : Geometry) (us : List Bytes) (ps : List LaidHome) (sp : ℕ) → Stands g us ps sp → is_geometry g (length (join us)) ≡ true
stands_legal g us ps sp st = ap (is_geometry g) (length_join g us st.sized ∙ ap (λ (n : ℕ). n * g.size) st.units) ∙ st.shape.legal
