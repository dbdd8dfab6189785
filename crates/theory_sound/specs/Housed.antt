-- Any image whose logical numbers have their homes, and whose homes are as they must be, by its parts.
use Rattle.std.specs.Prelude.{◌||◌, false, true, List, [], ◌∷◌, ◌≢◌, ◌≡◌, ◌*◌, ◌+◌, ◌-◌, ◌/◌, ◌<◌, ◌≤◌, suc, zero, ℕ, drop, length}
use Rattle.std.proofs.Math.Bool.{not}
use Rattle.std.proofs.Common.{inl, inr, ◌∙◌, ap₂, add-zero, zero-add, arith}
use Rattle.std.proofs.Math.Path.{ap, refl, subst, sym}
use Rattle.std.proofs.Math.Nat.{mul-div_cancel}
use Rattle.std.proofs.Math.Dec.{eqb}
use Rattle.std.proofs.Math.ListN.{get_or}
use Rattle.rules.specs.Flash.{Bytes, is_geometry, word}
use Rattle.rules.specs.Settled.{Home, Physical, has_header, homes_for, is_housed, is_in, is_left, one_each, physical, survey, the_first, units_of}
use Rattle.rules.specs.Unit.{gap, is_header, is_home, live, retired, room_of}
use Rattle.rules.specs.declared.Geometry.{Geometry}
use Rattle.laws.specs.Homes.{home_every, housed_parts, one_home, home_of as home_in}
use Rattle.laws.specs.Lists.{Every, Has, every_all, every_has}
use Rattle.laws.specs.Spare.{UnitOf, every_unit, first_has, spare_unit, unit_at}
use Rattle.laws.specs.Units.{homes_for_lem}
use Rattle.theory.specs.Base.Facts.{eqb_same, not-true, true_false}
use Rattle.theory.specs.Images.Units.{join, sized_get}
use Rattle.theory.specs.Images.Head.{head_of, headed}
use Rattle.theory.specs.Images.Layout.{are_bytes, layout}
use Rattle.theory.specs.Images.Sectors.{LegalGeometry, shape_of}
use Rattle.theory.specs.Images.Model.{HomesStand, LaidHome, Stands, laid, name_of, no_laid_home, state_at, state_word}
use Rattle.theory.specs.Mounting.Formatted.{chunks, join_chunks, many_chunks, sized_chunks}
use Rattle.theory_sound.specs.Reading.{bytes_drop, bytes_take, header_headed, is_good, laid_out}
use Rattle.theory_sound.specs.Number.{chunks_get, homes_pass, in_state}
use Rattle.theory_sound.specs.Distinct.{Distinct, all_among}

module _ (g : Geometry) (s : Bytes) where
  -- the unit that is L's home, and its parts
  abbrev pub home_unit : ℕ → Physical
  home_unit L = the_first (homes_for (units_of g s) L)

  abbrev pub laid_at : ℕ → LaidHome
  laid_at L =
      record {
        phys = (home_unit L).base / g.size;
        up = eqb (home_unit L).state live;
        head = head_of (home_unit L).bytes;
        array = (room_of g (home_unit L).bytes).array;
        gap = gap (room_of g (home_unit L).bytes);
        rest = drop (room_of g (home_unit L).bytes).low (home_unit L).bytes;
      }

  abbrev pub laid_from : ℕ → ℕ → List LaidHome
  laid_from zero L = []
  laid_from (suc k) L = laid_at L ∷ laid_from k (suc L)

  abbrev pub phys_from : ℕ → ℕ → List ℕ
  phys_from zero L = []
  phys_from (suc k) L = (home_unit L).base / g.size ∷ phys_from k (suc L)

  -- the units, the homes, and the one that is left over
  abbrev pub the_units : List Bytes
  the_units = chunks g.size g.units s

  abbrev pub the_laid_homes : List LaidHome
  the_laid_homes = laid_from (g.units - 1) 0

  abbrev pub the_spare : ℕ
  the_spare = (survey g s).spare.base / g.size

  pub laid_length : (k L : ℕ) → length (laid_from k L) ≡ k
  laid_length zero L = refl
  laid_length (suc k) L = ap suc (laid_length k (suc L))

  phys_length : (k L : ℕ) → length (phys_from k L) ≡ k
  phys_length zero L = refl
  phys_length (suc k) L = ap suc (phys_length k (suc L))

  pub laid_get : (k L i : ℕ) → i < k → get_or (laid_from k L) i no_laid_home ≡ laid_at (L + i)
  laid_get zero L i l = absurd (let z : ⊥ = omega arith in z)
  laid_get (suc k) L zero l = ap laid_at (sym (add-zero L))
  laid_get (suc k) L (suc i) l = laid_get k (suc L) i (omega arith) ∙ ap laid_at more
    where
      more : suc L + i ≡ L + suc i
      more = omega arith

  record Somewhere (k L j : ℕ) : Type 0 where
    index : ℕ
    least : L ≤ index
    below : index < L + k
    there : (home_unit index).base / g.size ≡ j

  phys_has : (k L j : ℕ) → Has j (phys_from k L) → Somewhere k L j
  phys_has zero L j h = absurd h
  phys_has (suc k) L j (inl e) = record { index = L; least = omega arith; below = omega arith; there = sym e }
  phys_has (suc k) L j (inr h) =
      let w = phys_has k (suc L) j h in
      record { index = w.index; least = omega (arith, w.least); below = omega (arith, w.below); there = w.there }

  module _ (legal : is_geometry g (length s) ≡ true) (bytes : are_bytes s ≡ true) where
    pub sh : LegalGeometry g
    sh = (shape_of g s legal).0

    long : length s ≡ g.units * g.size
    long = (shape_of g s legal).1

    pub image_is : s ≡ join (chunks g.size g.units s)
    image_is = sym (join_chunks g.size g.units s long)

    -- ---- any unit of the image
    module _ (p : Physical) (is : UnitOf g s p) where
      phys_is : p.base / g.size ≡ is.index
      unfolding unit_at physical
      phys_is = ap (λ (q : Physical). q.base / g.size) is.exact ∙ mul-div_cancel is.index (omega (arith, sh.right.large))

      pub phys_below : p.base / g.size < length (chunks g.size g.units s)
      phys_below = omega (arith, phys_is, is.below, many_chunks g.size g.units s)

      pub base_is : p.base ≡ p.base / g.size * g.size
      unfolding unit_at physical
      base_is = ap (λ (q : Physical). q.base) is.exact ∙ ap (λ (n : ℕ). n * g.size) (sym phys_is)

      pub bytes_are : get_or (chunks g.size g.units s) (p.base / g.size) [] ≡ p.bytes
      unfolding unit_at physical
      bytes_are =
          ap (λ (n : ℕ). get_or (chunks g.size g.units s) n []) phys_is
          ∙ chunks_get g.size g.units s is.index is.below
          ∙ sym (ap (λ (q : Physical). q.bytes) is.exact)

      pub name_word : p.logical ≡ word p.bytes 0
      unfolding unit_at physical
      name_word = subst (λ (q : Physical). q.logical ≡ word q.bytes 0) (sym is.exact) refl

      pub state_word_lem : p.state ≡ word p.bytes 2
      unfolding unit_at physical
      state_word_lem = subst (λ (q : Physical). q.state ≡ word q.bytes 2) (sym is.exact) refl

      pub unit_long : length p.bytes ≡ g.size
      unit_long = sym (ap length bytes_are) ∙ sized_get g (chunks g.size g.units s) (p.base / g.size) (sized_chunks g.size g.units s long) phys_below

      pub unit_bytes : are_bytes p.bytes ≡ true
      unfolding unit_at physical
      unit_bytes = ap (λ (q : Physical). are_bytes q.bytes) is.exact ∙ bytes_take g.size (drop (is.index * g.size) s) (bytes_drop (is.index * g.size) s bytes)

    pub spare_is : UnitOf g s (survey g s).spare
    spare_is = (spare_unit g s (omega (arith, sh.right.large)) (omega (arith, sh.right.some))).0

    -- ---- the homes
    module _ (housed : is_housed g (survey g s) ≡ true) where
      one_each_lem : one_each (g.units - 1) 0 (units_of g s) ≡ true
      unfolding survey
      one_each_lem = (housed_parts g (survey g s) housed).one

      module _ (L : ℕ) (l : L < g.units - 1) where
        has_home : Has (home_unit L) (homes_for (units_of g s) L)
        has_home = first_has (homes_for (units_of g s) L) (omega (arith, ap (λ (n : ℕ). length (homes_for (units_of g s) n)) (sym (zero-add L)) ∙ one_home g (units_of g s) (g.units - 1) 0 L one_each_lem l))

        pub home_unit_lem : UnitOf g s (home_unit L)
        home_unit_lem = every_has (UnitOf g s) (home_unit L) (homes_for (units_of g s) L) (homes_for_lem (UnitOf g s) (units_of g s) L (every_unit g s)) has_home

        pub home_state : ((home_unit L).logical ≡ L) × ((home_unit L).state ≡ state_word (eqb (home_unit L).state live))
        home_state = in_state L (home_unit L) (every_has (λ (p : Physical). is_in L live p || is_in L retired p ≡ true) (home_unit L) (homes_for (units_of g s) L) (homes_pass (units_of g s) L) has_home)

        home_ok_lem : is_home g (home_unit L).bytes (room_of g (home_unit L).bytes) ≡ true
        unfolding home_in survey
        home_ok_lem =
            subst (λ (n : ℕ). is_home g (home_unit n).bytes (room_of g (home_unit n).bytes) ≡ true) (zero-add L)
            (home_every g (units_of g s) (λ (h : Home). is_home g h.unit.bytes h.room ≡ true) (g.units - 1) 0 L
            (every_all (λ (h : Home). is_home g h.unit.bytes h.room) (survey g s).homes (housed_parts g (survey g s) housed).homes) l)

        head_ok : headed (head_of (home_unit L).bytes) ≡ true
        unfolding home_in survey has_header
        head_ok =
            header_headed (home_unit L).bytes (omega (arith, sh.right.large, unit_long (home_unit L) home_unit_lem)) (unit_bytes (home_unit L) home_unit_lem)
            (subst (λ (n : ℕ). is_header (home_unit n).bytes ≡ true) (zero-add L)
            (home_every g (units_of g s) (λ (h : Home). has_header h ≡ true) (g.units - 1) 0 L (every_all has_header (survey g s).homes (housed_parts g (survey g s) housed).headers) l))

        not_spare : (home_unit L).base / g.size ≢ (survey g s).spare.base / g.size
        unfolding home_in is_left survey
        not_spare e =
            true_false (eqb (home_unit L).base (survey g s).spare.base)
            (ap (λ (x : ℕ). eqb x (survey g s).spare.base) same ∙ eqb_same (survey g s).spare.base)
            (not-true (eqb (home_unit L).base (survey g s).spare.base)
            (subst (λ (n : ℕ). not (eqb (home_unit n).base (survey g s).spare.base) ≡ true) (zero-add L)
            (home_every g (units_of g s) (λ (h : Home). not (eqb h.unit.base (survey g s).spare.base) ≡ true) (g.units - 1) 0 L
            (every_all (λ (h : Home). not (eqb h.unit.base (survey g s).spare.base)) (survey g s).homes (spare_unit g s (omega (arith, sh.right.large)) (omega (arith, sh.right.some))).1) l)))
          where
            same : (home_unit L).base ≡ (survey g s).spare.base
            same = base_is (home_unit L) home_unit_lem ∙ ap (λ (n : ℕ). n * g.size) e ∙ sym (base_is (survey g s).spare spare_is)

        home_laid : get_or (chunks g.size g.units s) ((home_unit L).base / g.size) [] ≡ laid L (laid_at L)
        home_laid =
            bytes_are (home_unit L) home_unit_lem
            ∙ laid_out g (home_unit L).bytes (omega (arith, sh.right.large)) (unit_long (home_unit L) home_unit_lem) (unit_bytes (home_unit L) home_unit_lem) home_ok_lem
            ∙ ap₂ (λ (a b : ℕ). layout a b (laid_at L).head (laid_at L).array (laid_at L).gap (laid_at L).rest) (sym (name_word (home_unit L) home_unit_lem) ∙ home_state.0) (sym (state_word_lem (home_unit L) home_unit_lem) ∙ home_state.1)

        home_named : name_of (chunks g.size g.units s) ((home_unit L).base / g.size) ≡ L
        home_named = ap (λ (u : Bytes). word u 0) (bytes_are (home_unit L) home_unit_lem) ∙ sym (name_word (home_unit L) home_unit_lem) ∙ home_state.0

      -- ---- no two homes are one unit
      apart_from : (k M L : ℕ) → L < M → M + k ≤ g.units - 1 → Every (λ (y : ℕ). y ≢ (home_unit L).base / g.size) (phys_from k M)
      apart_from zero M L l h = tt
      apart_from (suc k) M L l h = (
        (λ e. absurd (let z : ⊥ = omega (arith, sym (home_named M (omega arith)) ∙ ap (name_of (chunks g.size g.units s)) e ∙ home_named L (omega arith)) in z)),
        apart_from k (suc M) L (omega arith) (omega arith),
      )

      homes_distinct : (k L : ℕ) → L + k ≤ g.units - 1 → Distinct (phys_from k L)
      homes_distinct zero L h = tt
      homes_distinct (suc k) L h = (apart_from k (suc L) L (omega arith) (omega arith), homes_distinct k (suc L) (omega arith))

      each_phys : (P : ℕ → Type 0) → ((L : ℕ) → L < g.units - 1 → P ((home_unit L).base / g.size)) → (k L : ℕ) → L + k ≤ g.units - 1 → Every P (phys_from k L)
      each_phys P f zero L h = tt
      each_phys P f (suc k) L h = (f L (omega arith), each_phys P f k (suc L) (omega arith))

      module _ (off : eqb (survey g s).spare.state live ≡ false) (mark : (L : ℕ) → L < g.units - 1 → eqb (home_unit L).state live ≡ false → eqb (survey g s).spare.state retired ≡ false) where
        spare_state : state_at (chunks g.size g.units s) ((survey g s).spare.base / g.size) ≡ (survey g s).spare.state
        spare_state = ap (λ (u : Bytes). word u 2) (bytes_are (survey g s).spare spare_is) ∙ sym (state_word_lem (survey g s).spare spare_is)

        homes_are : (k L : ℕ) → L + k ≤ g.units - 1 → HomesStand g (chunks g.size g.units s) ((survey g s).spare.base / g.size) L (laid_from k L)
        homes_are zero L h = tt
        homes_are (suc k) L h = (
          record {
            there = phys_below (home_unit L) (home_unit_lem L (omega arith));
            bytes = home_laid L (omega arith);
            good = is_good g (home_unit L).bytes (omega (arith, sh.right.large)) (unit_long (home_unit L) (home_unit_lem L (omega arith))) (unit_bytes (home_unit L) (home_unit_lem L (omega arith))) (home_ok_lem L (omega arith));
            headed = head_ok L (omega arith);
            away = not_spare L (omega arith);
            mark = λ e. ap (λ (x : ℕ). eqb x retired) spare_state ∙ mark L (omega arith) e;
          },
          homes_are k (suc L) (omega arith),
        )

        pub stands_so : Stands g (chunks g.size g.units s) (laid_from (g.units - 1) 0) ((survey g s).spare.base / g.size)
        stands_so =
            record {
              shape = sh;
              units = many;
              sized = sized_chunks g.size g.units s long;
              many = omega (arith, many, count, sh.right.some);
              homes = homes_are (g.units - 1) 0 (omega arith);
              spare = phys_below (survey g s).spare spare_is;
              not_live = ap (λ (x : ℕ). eqb x live) spare_state ∙ off;
              named = named;
            }
          where
            many : length (chunks g.size g.units s) ≡ g.units
            many = many_chunks g.size g.units s

            count : length (laid_from (g.units - 1) 0) ≡ g.units - 1
            count = laid_length (g.units - 1) 0

            sp : ℕ
            sp = (survey g s).spare.base / g.size

            below : (p : Physical) → UnitOf g s p → p.base / g.size < g.units
            below p is = omega (arith, phys_below p is, many)

            found : (j : ℕ) → j < g.units → Has j (sp ∷ phys_from (g.units - 1) 0)
            found j l =
                all_among g.units (sp ∷ phys_from (g.units - 1) 0)
                (each_phys (λ (y : ℕ). y ≢ sp) (λ L h. not_spare L h) (g.units - 1) 0 (omega arith), homes_distinct (g.units - 1) 0 (omega arith))
                (below (survey g s).spare spare_is, each_phys (λ (y : ℕ). y < g.units) (λ L h. below (home_unit L) (home_unit_lem L h)) (g.units - 1) 0 (omega arith))
                (omega (arith, phys_length (g.units - 1) 0, sh.right.some)) j l

            named : (j : ℕ) → j < length (chunks g.size g.units s) → j ≢ sp
                → (name_of (chunks g.size g.units s) j < length (laid_from (g.units - 1) 0)) × ((get_or (laid_from (g.units - 1) 0) (name_of (chunks g.size g.units s) j) no_laid_home).phys ≡ j)
            named j l n = go (found j (omega (arith, many)))
              where
                go : Has j (sp ∷ phys_from (g.units - 1) 0)
                    → (name_of (chunks g.size g.units s) j < length (laid_from (g.units - 1) 0)) × ((get_or (laid_from (g.units - 1) 0) (name_of (chunks g.size g.units s) j) no_laid_home).phys ≡ j)
                go (inl e) = absurd (n e)
                go (inr h) = (
                  omega (arith, name, inside, count),
                  ap (λ (x : ℕ). (get_or (laid_from (g.units - 1) 0) x no_laid_home).phys) name ∙ ap (λ (x : LaidHome). x.phys) (laid_get (g.units - 1) 0 w.index inside) ∙ ap (λ (x : ℕ). (home_unit x).base / g.size) (zero-add w.index) ∙ w.there,
                )
                  where
                    w : Somewhere (g.units - 1) 0 j
                    w = phys_has (g.units - 1) 0 j h

                    inside : w.index < g.units - 1
                    inside = omega (arith, w.below)

                    name : name_of (chunks g.size g.units s) j ≡ w.index
                    name = ap (name_of (chunks g.size g.units s)) (sym w.there) ∙ home_named w.index inside
