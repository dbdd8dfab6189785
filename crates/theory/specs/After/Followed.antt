-- The entries of the homes after a move follow those before it: each stands where its place is moved along.
use Rattle.std.specs.Prelude.{Bool, cond, false, not, true, ◌≢◌, ◌≡◌, refl, ltb, length}
use mathlib.Core.List.{List, [], ◌++◌, ◌∷◌}
use Rattle.std.proofs.Common.{◌∙◌, subst, sym, add-zero, mul-le-mul_right, zero-add, nltb→le}
use Rattle.std.proofs.Math.Path.{ap}
use Prim.Native.Nat.{◌*◌, ◌+◌, ◌-◌, ◌<◌, ◌≤◌, suc, zero, ℕ}
use Rattle.std.proofs.Math.Decide.{ℕ_discrete}
use native.Mathlib.Omega.{arith}
use Rattle.std.proofs.Math.ListN.{get_or}
use Rattle.rules.specs.Lists.{filter}
use Rattle.rules.specs.Flash.{Bytes}
use Rattle.rules.specs.Settled.{Entry, pick}
use Rattle.rules.specs.Unit.{Descriptor, stands}
use Rattle.rules.specs.declared.Geometry.{Geometry}
use Rattle.rules.specs.declared.Handle.{Handle}
use Rattle.theory.specs.Base.Facts.{length_mid, lt_of, of_true}
use Rattle.theory.specs.Images.Model.{all_entries, home_entries, HomesStand, LaidHome, Stands, homes_at_lem, no_laid_home}
use Rattle.theory.specs.Images.Located.{from_append}
use Rattle.theory.specs.Moves.Moving.{get_mid}
use Rattle.theory.specs.Moves.Alike.{AllAlike, MetByKept, neither, pair}
use Rattle.theory.specs.Moves.Moved.{lists_alike}
use Rattle.theory.specs.Moves.Move.{OldErased, Setting, copy_home, homes_before}
use Rattle.theory.specs.After.Rebased.{AllFollow, next_follow, none_follow, rebased, rebased_above, rebased_below, rebased_in}
use Rattle.theory.specs.Images.Entries.{Each, each_append}

each_pick : (P : Entry → Type 0) (t : Descriptor → Bool) (es : List Entry) → Each P es → Each P (pick t es)
unfolding filter pick
each_pick P t [] h = tt
each_pick P t (e ∷ es) h = go (t e.descriptor) (each_pick P t es h.1)
  where
    go : (b : Bool) → Each P (pick t es) → Each P (cond b (e ∷ pick t es) (pick t es))
    go true r = (h.0, r)
    go false r = r

-- ---- where an entry stands, by its handle
abbrev phys_of : List LaidHome → ℕ → ℕ
phys_of ps u = (get_or ps u no_laid_home).phys

record In (g : Geometry) (ps : List LaidHome) (e : Entry) : Type 0 where
  place : e.place ≡ phys_of ps e.at.unit * g.size + stands e.at.position
  fits' : stands e.at.position < g.size
  inside : e.at.unit < length ps

module _ (g : Geometry) (ps : List LaidHome) where
  each_in : (L k : ℕ) (rest : Bytes) (i : ℕ) (ds : List Descriptor) → phys_of ps L ≡ k → L < length ps → stands (i + length ds) ≤ g.size → Each (In g ps) (home_entries g L k rest i ds)
  unfolding stands
  each_in L k rest i [] e l m = tt
  each_in L k rest i (d ∷ ds) e l m = (
    record { place = ap (λ (x : ℕ). x * g.size + stands i) (sym e); fits' = omega arith; inside = l },
    each_in L k rest (suc i) ds e l (omega arith),
  )

  each_of : (us : List Bytes) (sp L : ℕ) (qs : List LaidHome) → HomesStand g us sp L qs → ((i : ℕ) → i < length qs → (L + i < length ps) × (get_or ps (L + i) no_laid_home ≡ get_or qs i no_laid_home)) → Each (In g ps) (all_entries g L qs)
  unfolding stands
  each_of us sp L [] h f = tt
  each_of us sp L (q ∷ qs) h f =
      each_append (In g ps) (home_entries g L q.phys q.rest 0 q.array) (all_entries g (suc L) qs)
      (each_in L q.phys q.rest 0 q.array (ap (λ (x : ℕ). phys_of ps x) (sym (add-zero L)) ∙ ap (λ (x : LaidHome). x.phys) (f 0 (omega arith)).1) (omega (arith, (f 0 (omega arith)).0)) (omega (arith, h.0.good.fills)))
      (each_of us sp (suc L) qs h.1 (λ i l. let r = f (suc i) (omega arith) in (omega (arith, r.0), ap (λ (x : ℕ). get_or ps x no_laid_home) (more i) ∙ r.1)))
    where
      more : (i : ℕ) → suc L + i ≡ L + suc i
      more i = omega arith

  all_in : (us : List Bytes) (sp : ℕ) → HomesStand g us sp 0 ps → Each (In g ps) (all_entries g 0 ps)
  all_in us sp h = each_of us sp 0 ps h (λ i l. (omega arith, ap (λ (x : ℕ). get_or ps x no_laid_home) (zero-add i)))

-- the others stay
pub get_other : {A : Type 0} (hs bs : List A) (p q d : A) (n : ℕ) → n ≢ length hs → get_or (hs ++ q ∷ bs) n d ≡ get_or (hs ++ p ∷ bs) n d
get_other [] bs p q d zero m = absurd (m refl)
get_other [] bs p q d (suc n) m = refl
get_other (x ∷ hs) bs p q d zero m = refl
get_other (x ∷ hs) bs p q d (suc n) m = get_other hs bs p q d n (λ e. m (ap suc e))

-- a place of another unit stays
rebased_other : (from to size k i : ℕ) → k ≢ from → i < size → rebased (from * size) to size (k * size + i) ≡ k * size + i
rebased_other from to size k i n l = go (ltb k from) refl
  where
    go : (b : Bool) → ltb k from ≡ b → rebased (from * size) to size (k * size + i) ≡ k * size + i
    go true e = rebased_below (from * size) to size (k * size + i) (omega (arith, mul-le-mul_right size (lt_of k from e)))
    go false e = rebased_above (from * size) to size (k * size + i) (omega (arith, mul-le-mul_right size above))
      where
        above : from < k
        above = omega (arith, nltb→le k from (of_true (ap not e)), n)

-- one of the moved unit moves along
rebased_own : (from to size i : ℕ) → i < size → rebased (from * size) to size (from * size + i) ≡ to + i
rebased_own from to size i l = rebased_in (from * size) to size (from * size + i) (omega arith) (omega arith) ∙ ap (λ (x : ℕ). to + x) off
  where
    off : from * size + i - from * size ≡ i
    off = omega arith

module _ (g : Geometry) (m : Setting g) where
  -- the homes before, the moved one live or retired
  abbrev pub home_up : Bool → LaidHome
  home_up b = record { phys = m.p.phys; up = b; head = m.p.head; array = m.p.array; gap = m.p.gap; rest = m.p.rest }

  abbrev pub laid_before : Bool → List LaidHome
  laid_before b = m.hs ++ home_up b ∷ m.bs

  abbrev pub laid_after : List LaidHome
  laid_after = m.hs ++ copy_home g m ∷ m.bs

  -- where a place of the image comes to lie
  abbrev pub along : ℕ → ℕ
  along = rebased (m.p.phys * g.size) (m.sp * g.size) g.size

  pub entries_up : (b : Bool) → all_entries g 0 (laid_before b) ≡ all_entries g 0 (homes_before g m)
  entries_up b = from_append g 0 m.hs (home_up b ∷ m.bs) ∙ sym (from_append g 0 m.hs (m.p ∷ m.bs))

  module _ (b : Bool) (us : List Bytes) (st : Stands g us (laid_before b) m.sp) (s : Bytes) (d : OldErased g m s) where
    -- by its handle, a place comes to lie where the new homes have it
    place_along : (u i : ℕ) → u < length (laid_before b) → i < g.size → phys_of laid_after u * g.size + i ≡ along (phys_of (laid_before b) u * g.size + i)
    place_along u i l f = go (ℕ_discrete u (length m.hs))
      where
        go : Dec (u ≡ length m.hs) → phys_of laid_after u * g.size + i ≡ along (phys_of (laid_before b) u * g.size + i)
        go (yes e) =
            ap (λ (x : LaidHome). x.phys * g.size + i) (ap (λ (n : ℕ). get_or laid_after n no_laid_home) e ∙ get_mid m.hs m.bs (copy_home g m) no_laid_home)
            ∙ sym (rebased_own m.p.phys (m.sp * g.size) g.size i f)
            ∙ ap (λ (x : LaidHome). along (x.phys * g.size + i)) (sym (ap (λ (n : ℕ). get_or (laid_before b) n no_laid_home) e ∙ get_mid m.hs m.bs (home_up b) no_laid_home))
        go (no n) =
            sym (rebased_other m.p.phys (m.sp * g.size) g.size (phys_of laid_after u) i (homes_at_lem g d.us m.p.phys 0 laid_after d.stands.homes u inside).away f)
            ∙ ap (λ (x : LaidHome). along (x.phys * g.size + i)) (get_other m.hs m.bs (home_up b) (copy_home g m) no_laid_home u n)
          where
            inside : u < length laid_after
            inside = omega (arith, l, length_mid m.hs (home_up b) (copy_home g m) m.bs)

    all_follow : {x y : List Entry} → AllAlike x y → Each (In g laid_after) x → Each (In g (laid_before b)) y → AllFollow along x y
    all_follow neither k n = none_follow
    all_follow (pair {e = e} {f = f} h t) k n =
        next_follow (record {
          alike = h;
          place =
              k.0.place
              ∙ ap (λ (z : Handle). phys_of laid_after z.unit * g.size + stands z.position) h.handle
              ∙ place_along f.at.unit (stands f.at.position) n.0.inside n.0.fits'
              ∙ ap along (sym n.0.place);
        }) (all_follow t k.1 n.1)

    -- the entries that a test of kept ones picks
    pub lists_follow : (t : Descriptor → Bool) → MetByKept t → AllFollow along (pick t (all_entries g 0 laid_after)) (pick t (all_entries g 0 (laid_before b)))
    lists_follow t o =
        all_follow
        (subst (λ (l : List Entry). AllAlike (pick t (all_entries g 0 laid_after)) (pick t l)) (sym (entries_up b)) (lists_alike g m.shape m.p m.good m.sp m.hs m.bs t o))
        (each_pick (In g laid_after) t (all_entries g 0 laid_after) (all_in g laid_after d.us m.p.phys d.stands.homes))
        (each_pick (In g (laid_before b)) t (all_entries g 0 (laid_before b)) (all_in g (laid_before b) us m.sp st.homes))
