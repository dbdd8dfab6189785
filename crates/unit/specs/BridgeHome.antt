-- The check of a home in one walk, each sector held against those before it, is the reader's: each descriptor by itself, and each two.
use Rattle.std.specs.Prelude.{◌≡◌, Bool, ◌&&◌, ℕ, ◌-◌, take, drop}
use Rattle.std.proofs.Math.Path.{refl}
use Rattle.std.proofs.Common.{◌∙◌}
use Rattle.std.proofs.Math.Bool.{true, false}
use mathlib.Core.List.{List, [], ◌∷◌}
use Rattle.rules.specs.Lists.{all}
use Rattle.rules.specs.Flash.{Bytes, erased}
use Rattle.rules.specs.Unit
use Rattle.rules.specs.Unit.{Descriptor, stands, is_listed, is_placed, apart, all_apart, is_home}
use Rattle.rules.specs.declared.Geometry.{Geometry}
use Rattle.laws.specs.Tests.{and_inv, all_uncons, all_cons}
use Rattle.unit.specs.declared.Room.{Room}
use Rattle.unit.specs.Shapes.{all_ok, array_of, Read}
use Rattle.unit.specs.BridgeFits.{read_gives, read_array}
use Rattle.unit.specs.Tests.{elim_inv, same}
use Rattle.unit.specs.Apart.{apart_turn}

-- ---- all of them

abbrev is_clear : List Descriptor → Descriptor → Bool
is_clear es d = all (apart d) es

record DescriptorsGood (g : Geometry) (floor : ℕ) (es ds : List Descriptor) : Type 0 where
  pub listed : all is_listed ds ≡ true
  pub placed : all (is_placed g floor) ds ≡ true
  pub apart : all_apart ds ≡ true
  pub clear : all (is_clear es) ds ≡ true

-- what is apart from d and those before it: d is apart from the later ones
module _ (d : Descriptor) (es : List Descriptor) where
  spread : (ds : List Descriptor) → all (is_clear (d ∷ es)) ds ≡ true → (all (is_clear es) ds ≡ true) × (all (apart d) ds ≡ true)
  unfolding all
  spread [] h = (refl, refl)
  spread (e ∷ ds) h =
      let i = all_uncons (is_clear (d ∷ es)) e ds h in
      let j : (apart e d ≡ true) × (all (apart e) es ≡ true) = all_uncons (apart e) d es i.0 in
      let rest = spread ds i.1 in
      (all_cons (is_clear es) e ds j.1 rest.0, all_cons (apart d) e ds (apart_turn d e ∙ j.0) rest.1)

  gather : (ds : List Descriptor) → all (is_clear es) ds ≡ true → all (apart d) ds ≡ true → all (is_clear (d ∷ es)) ds ≡ true
  unfolding all
  gather [] f a = refl
  gather (e ∷ ds) f a =
      let i = all_uncons (is_clear es) e ds f in
      let j = all_uncons (apart d) e ds a in
      let one : is_clear (d ∷ es) e ≡ true = all_cons (apart e) d es (apart_turn e d ∙ j.0) i.0 in
      all_cons (is_clear (d ∷ es)) e ds one (gather ds i.1 j.1)

module _ (g : Geometry) (floor : ℕ) where
  good : (ds es : List Descriptor) → all_ok g floor es ds ≡ true → DescriptorsGood g floor es ds
  unfolding all_ok all all_apart
  good [] es e = record { listed = refl; placed = refl; apart = refl; clear = refl }
  good (d ∷ ds) es e =
      let i = elim_inv (is_listed d && is_placed g floor d) (elim (all (apart d) es) as (λ (b : Bool). Bool) [ false ↦ false | true ↦ all_ok g floor (d ∷ es) ds ]) e in
      let j = elim_inv (all (apart d) es) (all_ok g floor (d ∷ es) ds) i.1 in
      let rec = good ds (d ∷ es) j.1 in
      let s = spread d es ds rec.clear in
      let b = and_inv (is_listed d) (is_placed g floor d) i.0 in
      record {
        listed = all_cons is_listed d ds b.0 rec.listed;
        placed = all_cons (is_placed g floor) d ds b.1 rec.placed;
        apart = apart_cons (all (Unit.apart d) ds) (all_apart ds) s.1 rec.apart;
        clear = all_cons (is_clear es) d ds j.0 s.0;
      }
    where
      apart_cons : (x y : Bool) → x ≡ true → y ≡ true → (elim x as (λ (b : Bool). Bool) [ true ↦ y | false ↦ false ]) ≡ true
      apart_cons true y h k = k
      apart_cons false y h k = h

  good_back : (ds es : List Descriptor) → DescriptorsGood g floor es ds → all_ok g floor es ds ≡ true
  unfolding all_ok all_apart
  good_back [] es t = refl
  good_back (d ∷ ds) es t =
      let i = all_uncons is_listed d ds t.listed in
      let j = all_uncons (is_placed g floor) d ds t.placed in
      let a = elim_inv (all (Unit.apart d) ds) (all_apart ds) t.apart in
      let f = all_uncons (is_clear es) d ds t.clear in
      rw (i.0, j.0, f.0, all_ok) (good_back ds (d ∷ es) (record { listed = i.1; placed = j.1; apart = a.1; clear = gather d es ds f.1 a.0 }))

-- ---- a home

none_before : (ds : List Descriptor) → all (is_clear []) ds ≡ true
unfolding all
none_before [] = refl
none_before (d ∷ ds) = none_before ds

all_is : (g : Geometry) (floor : ℕ) (ds : List Descriptor)
    → all_ok g floor [] ds ≡ (all is_listed ds && all (is_placed g floor) ds && all_apart ds)
all_is g floor ds = same (all_ok g floor [] ds) (all is_listed ds && all (is_placed g floor) ds && all_apart ds) there back
  where
    there : all_ok g floor [] ds ≡ true → (all is_listed ds && all (is_placed g floor) ds && all_apart ds) ≡ true
    there e =
        let t = good g floor ds [] e in
        rw (t.listed, t.placed) t.apart

    back : (all is_listed ds && all (is_placed g floor) ds && all_apart ds) ≡ true → all_ok g floor [] ds ≡ true
    back e =
        let i = and_inv (all is_listed ds && all (is_placed g floor) ds) (all_apart ds) e in
        let j = and_inv (all is_listed ds) (all (is_placed g floor) ds) i.0 in
        good_back g floor ds [] (record { listed = j.0; placed = j.1; apart = i.1; clear = none_before ds })

module _ (g : Geometry) (u : Bytes) (r : Room) (read : Read g u r) where
  home_by : is_home g u (Unit.room_of g u) ≡ (erased (take (r.low - stands r.n) (drop (stands r.n) u)) && all_ok g (stands r.n) [] (array_of r.n u))
  unfolding is_home Unit.gap
  home_by =
      rw (← (read_gives g u r read).n, ← (read_gives g u r read).low, ← read_array g u r read, all_is g (stands r.n) (array_of r.n u))
      (go (erased (take (r.low - stands r.n) (drop (stands r.n) u))) (all is_listed (array_of r.n u)) (all (is_placed g (stands r.n)) (array_of r.n u)) (all_apart (array_of r.n u)))
    where
      go : (e l p a : Bool) → (e && l && p && a) ≡ (e && (l && p && a))
      go true l p a = refl
      go false l p a = refl

  -- the check's refusals, in its order
  pub home_gap : erased (take (r.low - stands r.n) (drop (stands r.n) u)) ≡ false → is_home g u (Unit.room_of g u) ≡ false
  home_gap f = home_by ∙ rw f

  pub home_all : erased (take (r.low - stands r.n) (drop (stands r.n) u)) ≡ true → is_home g u (Unit.room_of g u) ≡ all_ok g (stands r.n) [] (array_of r.n u)
  home_all f = home_by ∙ rw f
