-- One turn of each loop, and the steps of each chain, in the code's terms.
use Rattle.std.specs.Prelude.{◌≡◌, Bool, get_or, take, drop, eqb}
use Rattle.std.proofs.Math.Path.{refl, ap}
use Rattle.std.proofs.Common.{sym, ◌∙◌, eq-eqb, ne_eqb, drop_of_length-le}
use Rattle.std.proofs.Math.Bool.{true, false}
use mathlib.Core.List.{List, [], ◌∷◌, ◌++◌}
use Prim.Native.Nat.{ℕ, suc, ◌+◌, ◌-◌, ◌*◌, ◌%◌, ◌≤◌, ◌<◌}
use native.Mathlib.Omega.{arith}
use Rattle.std.proofs.Math.Nat.{suc-mul}
use Rattle.std.proofs.Math.Numerals.{add-one}
use Rattle.std.proofs.Math.ListN.{length}
use Rattle.std.proofs.Math.Seq.{drop-cons, drop-drop}
use Rattle.rules.specs.Flash.{Bytes, word, erased, Step, program, erase, State, state, step, run, programs, words, Run}
use Rattle.rules.specs.Unit.{stands, allocated, pending}
use Rattle.rules.specs.Settled.{Physical, physical, units_from}
use Rattle.rules.specs.Jobs.{fill_in, erases, headers}
use Rattle.laws.specs.Lists.{Every}
use Rattle.rules.specs.declared.Geometry.{Geometry}
use Rattle.step_new.specs.Places.{SpotIf, become_at, one_at}
use Rattle.laws.specs.Tests.{either}
use Rattle.laws.specs.Runs.{run_append}
use Rattle.unit.specs.Tests.{no}
use Rattle.step_new.specs.Leaves.{LeavesRead, step_leaves, tag_leaves, erase_behind}

-- the steps of a new descriptor, at offsets of its unit
pub fill_in_is : (base p d offset tag : ℕ) (content : Bytes) → d ≡ stands p
    → program (base + (d + 6)) tag ∷ (program (base + (d + 4)) (length content) ∷ (program (base + (d + 2)) offset ∷ (program (base + d) allocated ∷
    (programs (base + offset) (words content) ++ (program (base + d) pending ∷ [])))))
    ≡ fill_in (base + stands p) base offset tag content
unfolding fill_in
fill_in_is base p d offset tag content e =
    let e₆ : base + (d + 6) ≡ base + d + 6 = omega arith in
    let e₄ : base + (d + 4) ≡ base + d + 4 = omega arith in
    let e₂ : base + (d + 2) ≡ base + d + 2 = omega arith in
    rw (e₆, e₄, e₂, e)

-- ---- runs of flag changes
pub become_turn : (f : ℕ) (ps : List ℕ) (i : ℕ) → i < length ps → (x y : State) → y ≡ step (program (get_or ps i 0) f) x
    → run (become_at f (drop (i + 1) ps)) y ≡ run (become_at f (drop i ps)) x
unfolding run become_at
become_turn f ps i h x y e = rw (add-one, drop-cons ps i 0 h, e)

pub become_end : (f : ℕ) (ps : List ℕ) (i : ℕ) → length ps ≤ i → (x : State) → run (become_at f (drop i ps)) x ≡ x
unfolding run become_at
become_end f ps i h x = rw (drop_of_length-le ps {i = i} h)

pub if_none : (f p : ℕ) (x : State) → p ≡ 0 → run (become_at f (one_at p)) x ≡ x
unfolding run become_at one_at
if_none f p x h = rw h

pub if_some : (f p : ℕ) (x : State) → (p ≡ 0 → ⊥) → run (become_at f (one_at p)) x ≡ step (program p f) x
unfolding run become_at one_at
if_some f p x h = rw (ne_eqb p 0 h)

-- flags are programmed, so each tag stays
pub one_tags : (bytes f p : ℕ) → SpotIf bytes p → (a : ℕ) → a % 8 ≡ 0 → Every (LeavesRead (λ (s : Bytes). word s (a + 6))) (become_at f (one_at p))
unfolding become_at one_at
one_tags bytes f p h a e = either (eqb p 0) (λ q. rw q tt) (λ q. rw q (tag_leaves p f a (h (λ z. no (sym q ∙ eq-eqb p 0 z))).whole e, tt))

-- ---- format
module _ (g : Geometry) where
  wipe_cons : (p : Physical) (ps : List Physical) → erases g (p ∷ ps) ≡ erases g (p ∷ []) ++ erases g ps
  unfolding erases
  wipe_cons p ps = go (erased p.bytes)
    where
      go : (b : Bool)
          → (elim b as (λ (c : Bool). List Step) [ true ↦ erases g ps | false ↦ erase p.base g.size ∷ erases g ps ])
          ≡ (elim b as (λ (c : Bool). List Step) [ true ↦ [] | false ↦ erase p.base g.size ∷ [] ]) ++ erases g ps
      go true = refl
      go false = refl

  pub wipe_none : (a : ℕ) (u : Bytes) (x : State) → erased u ≡ true → run (erases g (physical a u ∷ [])) x ≡ x
  unfolding run erases physical
  wipe_none a u x h = rw (h, erases)

  pub wipe_one : (a : ℕ) (u : Bytes) (x : State) → erased u ≡ false → run (erases g (physical a u ∷ [])) x ≡ step (erase a g.size) x
  unfolding run erases physical
  wipe_one a u x h = rw (h, erases)

  module _ (s₀ s t : Bytes) (r q : Run) (u : ℕ) (k : drop (u * g.size) s ≡ drop (u * g.size) s₀)
      (e : state t q ≡ run (erases g (physical (u * g.size) (take g.size (drop (u * g.size) s)) ∷ [])) (state s r)) where
    next : (u + 1) * g.size ≡ u * g.size + g.size
    next = ap (λ (n : ℕ). n * g.size) (add-one u) ∙ suc-mul u g.size

    -- one unit more is wiped
    pub wipe_turn : u < g.units
        → run (erases g (units_from g (g.units - (u + 1)) ((u + 1) * g.size) (drop ((u + 1) * g.size) s₀))) (state t q)
        ≡ run (erases g (units_from g (g.units - u) (u * g.size) (drop (u * g.size) s₀))) (state s r)
    unfolding units_from
    wipe_turn h =
        let n : g.units - u ≡ suc (g.units - (u + 1)) = omega arith in
        let p = physical (u * g.size) (take g.size (drop (u * g.size) s₀)) in
        let ps = units_from g (g.units - (u + 1)) (u * g.size + g.size) (drop (u * g.size + g.size) s₀) in
        rw (n, next, drop-drop g.size (u * g.size) s₀, wipe_cons p ps, run_append (erases g (p ∷ [])) (erases g ps) (state s r), e, k)

    -- the units behind it are as they were
    pub wipe_behind : u * g.size + g.size ≤ length s → drop ((u + 1) * g.size) t ≡ drop ((u + 1) * g.size) s₀
    wipe_behind h =
        let d : drop (u * g.size + g.size) s ≡ drop (u * g.size + g.size) s₀ = sym (drop-drop g.size (u * g.size) s) ∙ ap (drop g.size) k ∙ drop-drop g.size (u * g.size) s₀ in
        rw next (either (erased (take g.size (drop (u * g.size) s)))
        (λ b. ap (λ (l : Bytes). drop (u * g.size + g.size) l) (same (e ∙ wipe_none (u * g.size) (take g.size (drop (u * g.size) s)) (state s r) b)) ∙ d)
        (λ b. step_leaves (drop (u * g.size + g.size)) (erase (u * g.size) g.size) s t r q (erase_behind (u * g.size) g.size s h)
        (e ∙ wipe_one (u * g.size) (take g.size (drop (u * g.size) s)) (state s r) b) ∙ d))
      where
        same : state t q ≡ state s r → t ≡ s
        same p = cc

  pub wipe_end : (s : Bytes) (u : ℕ) (x : State) → g.units ≤ u → run (erases g (units_from g (g.units - u) (u * g.size) (drop (u * g.size) s))) x ≡ x
  unfolding run erases units_from
  wipe_end s u x h =
      let n : g.units - u ≡ 0 = omega arith in
      rw n

  -- one header more
  pub label_turn : (n u : ℕ) (x y : State) → u < n → y ≡ run (headers g 1 (u * g.size) u) x
      → run (headers g (n - (u + 1)) ((u + 1) * g.size) (u + 1)) y ≡ run (headers g (n - u) (u * g.size) u) x
  unfolding headers run
  label_turn n u x y h e =
      let m : n - u ≡ suc (n - (u + 1)) = omega arith in
      let a : (u + 1) * g.size ≡ u * g.size + g.size = ap (λ (n : ℕ). n * g.size) (add-one u) ∙ suc-mul u g.size in
      rw (m, a, add-one u, e)

  pub label_end : (n u : ℕ) (x : State) → n ≤ u → run (headers g (n - u) (u * g.size) u) x ≡ x
  unfolding headers run
  label_end n u x h =
      let m : n - u ≡ 0 = omega arith in
      rw m
