-- From the homes by their table to the reader's place and store; from a run to a call's two equations.
use Rattle.std.specs.Prelude.{◌≡◌, refl, List, ◌∷◌, ◌++◌, ℕ, zero, suc, ◌+◌, ◌-◌, ◌*◌, ◌%◌, ◌≤◌, ◌<◌, length, get_or, take, drop, Option, Some}
use Rattle.std.proofs.Math.Path.{sym, ap}
use Rattle.std.proofs.Common.{ap₂, ◌∙◌, arith, add-one}
use Rattle.rules.specs.Flash.{Bytes, Step, state, run, Run}
use Rattle.rules.specs.Unit
use Rattle.rules.specs.Unit.{old, stands}
use Rattle.rules.specs.Settled.{Entry, Home, Survey, physical, survey}
use Rattle.rules.specs.Sound.{home_at}
use Rattle.rules.specs.Jobs
use Rattle.rules.specs.Jobs.{as_it_stands, become, fill_in, size_for, store_at, store_in, store_job, vacant}
use Rattle.rules.specs.Answers.{Plan, makes, Answer}
use Rattle.rules.specs.Calls
use Rattle.rules.specs.Calls.{Call, plan, storing}
use Rattle.laws.specs.Units.{RightGeometry, row}
use Rattle.rules.specs.declared.Geometry.{Geometry}
use Rattle.rules.specs.declared.Rule.{Rule}
use Rattle.rules.specs.declared.Handle.{Handle}
use Rattle.unit.specs.Laws.{room_in_lem}
use Rattle.unit.specs.BridgeRoom.{room_gives}
use Rattle.home_table.specs.Bridge.{houses}
use Rattle.step_new.specs.Places.{become_at, one_at}
use Rattle.index.specs.Shapes.{Homed}
use Rattle.place.specs.declared.Place.{Place}
use Rattle.place.specs.Homes.{HomesTable, unit_in, home_in, homes_at}
use Rattle.place.specs.Search.{as_place, place_in, place_is}
use Rattle.place.specs.Laws.{lent_is}
use Rattle.place.specs.Found.{Vacant, home_at_lem}
use Rattle.call_answer.specs.Ends.{answer_of}
use Rattle.call_answer.specs.Laws.{made}
use Rattle.call_store.specs.Stores.{MeetsCall, new_at, base_of, here_job}
use Rattle.call_store.specs.Rooms.{SectorRoom, fits_inside}

-- ---- the homes, by their table
houses_are : (g : Geometry) (s : Bytes) (home : List ℕ) (k L : ℕ) → houses g s home k L ≡ homes_at g s home k L
unfolding houses homes_at home_in unit_in physical
houses_are g s home zero L = refl
houses_are g s home (suc k) L = ap₂ {C = List Home} (λ (x : Home) (l : List Home). x ∷ l) refl (ap (houses g s home k) (add-one L) ∙ houses_are g s home k (suc L))

module _ (g : Geometry) (s : Bytes) (home : List ℕ) (known : Homed g s home) where
  pub homes_are : (survey g s).homes ≡ homes_at g s home (g.units - 1) 0
  homes_are = known.homes ∙ houses_are g s home (g.units - 1) 0

  pub home_is_lem : (L : ℕ) → L < g.units - 1 → home_at (survey g s).homes L ≡ home_in g s home L
  home_is_lem L l = ap (λ (hs : List Home). home_at hs L) homes_are ∙ home_at_lem g s home (g.units - 1) L l

  pub place_found : (rule : Rule) (e : ℕ) (p : Option Place) → p ≡ place_in g rule e (homes_at g s home (g.units - 1) 0) → Jobs.place g rule e (survey g s) ≡ as_place p
  place_found rule e p q = sym (place_is g rule e (survey g s)) ∙ ap (λ (hs : List Home). as_place (place_in g rule e hs)) homes_are ∙ ap as_place (sym q)

-- ---- a store in a unit as it stands
made_by : ℕ → Bytes → ℕ → ℕ → ℕ → ℕ → List Step → Plan
made_by tag content L p base low end = makes (record { unit = L; position = p }) (fill_in (base + stands p) base (low - size_for content) tag content ++ end)

pub stored_here : (g : Geometry) (s : Bytes) (home : List ℕ) → Homed g s home → (rule : Rule) (tag : ℕ) (content : Bytes) (earlier : Survey → List Entry) (a : ℕ)
    → become old (earlier (survey g s)) ≡ become_at old (one_at a) → (h : Handle) → h.unit < g.units - 1 → h.position ≡ vacant (home_in g s home h.unit).room.array
    → Jobs.place g rule (size_for content) (survey g s) ≡ as_it_stands h.unit
    → storing (store_job g rule tag content earlier s (survey g s)) ≡ makes h (here_job g s home tag content a h)
unfolding storing store_job store_at store_in made_by here_job new_at
stored_here g s home known rule tag content earlier a e h l v q =
    let x = home_at (survey g s).homes h.unit in
    let i : x ≡ home_in g s home h.unit = home_is_lem g s home known h.unit l in
    let b : x.unit.base ≡ base_of g home h.unit = ap (λ (y : Home). y.unit.base) i ∙ (unfold home_in physical in refl) in
    let p : vacant x.room.array ≡ h.position = ap (λ (y : Home). vacant y.room.array) i ∙ sym v in
    let o : x.room.low ≡ (home_in g s home h.unit).room.low = ap (λ (y : Home). y.room.low) i in
    ap (λ (x : Jobs.Place). storing (store_at g tag content earlier s (survey g s) x)) q
    ∙ (λ j. made_by tag content h.unit (p j) (b j) (o j) (e j))

-- ---- what fits lies inside
module _ (g : Geometry) (s : Bytes) (home : List ℕ) (ok : RightGeometry g s) (table : HomesTable g home) where
  pub vacant_inside : (e : ℕ) (h : Handle) → Vacant g s home e (g.units - 1) h → SectorRoom g.size e h.position (home_in g s home h.unit).room.low
  unfolding home_in
  vacant_inside e h v =
      let u = unit_in g s (get_or home h.unit 0) in
      let i = room_in_lem g.size u (omega (arith, ok.large)) in
      let r = room_gives g u in
      rw v.position (fits_inside g.size e (Unit.room_of g u) (rw (← r.n) i.n) (rw (← r.low) i.low) v.room)

  pub base_in_lem : (L : ℕ) → L < g.units - 1 → base_of g home L + g.size ≤ length s
  base_in_lem L l = omega (arith, row (get_or home L 0) g.units g.size (table L l), ok.whole)

-- ---- from a run to the two equations
module _ (g : Geometry) (s : Bytes) (c : Call) (at : Handle) (k : ℕ) (limit : Calls.allowance c ≡ k) (t : Bytes) (r : Run) (a : Answer) (is : a ≡ answer_of at k r) where
  pub meets_run : (job : List Step) → plan g s c ≡ makes at job → state t r ≡ run job (state s (Some k)) → MeetsCall g c s a t
  meets_run job p e = made g s c at job p t r (e ∙ ap (λ (m : ℕ). run job (state s (Some m))) (sym limit)) a (is ∙ ap (λ (m : ℕ). answer_of at m r) (sym limit))

pub here_run : (g : Geometry) (s : Bytes) (home : List ℕ) (tag : ℕ) (content : Bytes) (a : ℕ) (at : Handle) (base offset : ℕ) → base ≡ base_of g home at.unit
    → offset ≡ (home_in g s home at.unit).room.low - (length content + length content % 2)
    → fill_in (base + stands at.position) base offset tag content ++ become_at old (one_at a) ≡ here_job g s home tag content a at
unfolding here_job new_at size_for
here_run g s home tag content a at base offset b o = ap₂ (λ (x y : ℕ). fill_in (x + stands at.position) x y tag content ++ become_at old (one_at a)) b o

-- ---- in the code's terms
module _ (g : Geometry) (s : Bytes) (home : List ℕ) (L n base : ℕ) (is : n ≡ get_or home L 0) (at : base ≡ n * g.size) where
  pub base_is : base ≡ base_of g home L
  base_is = at ∙ ap (λ (m : ℕ). m * g.size) is

  pub lent_home : take (base + g.size - base) (drop base s) ≡ unit_in g s (get_or home L 0)
  lent_home = lent_is g s (get_or home L 0) base base_is

  pub low_is : (e offset : ℕ) → offset ≡ (Unit.room_of g (take (base + g.size - base) (drop base s))).low - e → offset ≡ (home_in g s home L).room.low - e
  unfolding home_in
  low_is e offset o = o ∙ ap (λ (u : Bytes). (Unit.room_of g u).low - e) lent_home
