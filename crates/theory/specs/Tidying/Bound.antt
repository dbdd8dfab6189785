-- The tidying has no more steps than there are descriptors, and those no more than (U - 1)(S - 16)/8.
use Rattle.std.specs.Prelude.{Bool, ◌&&◌, cond, false, not, true, List, [], ◌++◌, ◌∷◌, ◌≢◌, ◌≡◌, refl, ◌*◌, ◌+◌, ◌-◌, ◌≤◌, suc, ℕ, eqb, length}
use Rattle.std.proofs.Common.{◌∙◌, ap, subst, sym, arith, length-append}
use Rattle.std.proofs.Math.Decide.{ℕ_discrete}
use Rattle.rules.specs.Flash.{Bytes, Step, program}
use Rattle.rules.specs.Histories.{mount_bound, move_bound, tidy_bound}
use Rattle.rules.specs.Jobs.{become, turn, turns}
use Rattle.rules.specs.Lists.{filter}
use Rattle.rules.specs.Settled.{Entry, of_file, pairs, pick}
use Rattle.rules.specs.Unit.{Descriptor, header_bytes, is_allocated, is_committed, is_current, is_current_file, is_data, is_open, is_pending, is_pending_file, is_torn, is_transaction, stands}
use Rattle.rules.specs.declared.Geometry.{Geometry}
use Rattle.theory.specs.Base.Facts.{differ, eq_of, filter_filter, filter_halves, is_nil, true_false}
use Rattle.theory.specs.Images.Layout.{with_flags}
use Rattle.theory.specs.Images.Model.{all_entries, home_entries, HomesStand, LaidHome, Stands}
use Rattle.theory.specs.Images.Located.{length_in}
use Rattle.theory.specs.Tidying.Sorted.{Orderly, Sorted, committing, end_of, num, sorted, tidy_of, tidying, unfinished}
use Rattle.theory.specs.Tidying.CleanStep.{turns_same}
use Rattle.theory.specs.Storing.Stores.{p}
use Rattle.theory.specs.Tidying.Tidy.{become_nil}

turns_length : (cs qs : List Entry) → pairs qs ≡ 0 → length (turns cs qs) ≤ length cs + length qs
unfolding turn of_file pairs turns
turns_length cs [] h = omega arith
turns_length cs (q ∷ qs) h =
    let rest' : pairs qs ≡ 0 = omega (arith, h) in
    omega (
      arith,
      length-append (become 0xFFF0 (filter (of_file (num q)) cs) ++ (program q.place (cond (is_data q.descriptor) 0xFFF8 0xFFF0) ∷ [])) (turns cs qs),
      length-append (become 0xFFF0 (filter (of_file (num q)) cs)) (program q.place (cond (is_data q.descriptor) 0xFFF8 0xFFF0) ∷ []),
      become_nil 0xFFF0 (filter (of_file (num q)) cs),
      filter_halves (of_file (num q)) cs,
      turns_length (filter (λ (x : Entry). not (of_file (num q) x)) cs) qs rest',
      ap length same_turns,
    )
  where
    rest : pairs qs ≡ 0
    rest = omega (arith, h)

    alone : filter (of_file (num q)) qs ≡ []
    alone = is_nil (filter (of_file (num q)) qs) (omega (arith, h))

    drops : (free : ℕ) → free ≢ num q → (b : Bool) (x : Entry) → eqb (num x) (num q) ≡ b → not b && of_file free x ≡ of_file free x
    drops free n true x e = sym (differ (λ (z : num x ≡ free). n (sym z ∙ eq_of (num x) (num q) e)))
    drops free n false x e = refl

    same_turns : turns (filter (λ (x : Entry). not (of_file (num q) x)) cs) qs ≡ turns cs qs
    same_turns = turns_same (num q) cs (filter (λ (x : Entry). not (of_file (num q) x)) cs) qs alone
        (λ free n. filter_filter (λ (x : Entry). not (of_file (num q) x)) (of_file free) cs ∙ ap (λ (p : Entry → Bool). filter p cs) (λ i x. drops free n (eqb (num x) (num q)) x refl i))

abbrev one : Bool → ℕ
one true = 1
one false = 0

pick_cons : (p : Descriptor → Bool) (e : Entry) (es : List Entry) → length (pick p (e ∷ es)) ≡ one (p e.descriptor) + length (pick p es)
unfolding pick filter
pick_cons p e es = go (p e.descriptor)
  where
    go : (b : Bool) → length (cond b (e ∷ pick p es) (pick p es)) ≡ one b + length (pick p es)
    go true = omega arith
    go false = omega arith

abbrev six : Descriptor → ℕ
six d = one (is_torn d) + one (is_allocated d) + one (is_committed d) + one (is_open d) + one (is_pending_file d) + one (is_current_file d)

-- a descriptor is in one list by-flags most
six_few : (d : Descriptor) → six d ≤ 1
unfolding is_torn is_allocated is_committed is_open is_pending_file is_current_file is_pending is_current is_transaction
six_few d = go (ℕ_discrete d.flags 0xFFFF) (ℕ_discrete d.flags 0xFFFE) (ℕ_discrete d.flags 0xFFFC) (ℕ_discrete d.flags 0xFFF8)
  where
    few : (b : Bool) → one b ≤ 1
    few true = omega arith
    few false = omega arith

    halves' : (b : Bool) → one b + one (not b) ≡ 1
    halves' true = refl
    halves' false = refl

    into : {a : ℕ} → d.flags ≡ a → six (with_flags a d) ≤ 1 → six d ≤ 1
    into e h = subst (λ (x : ℕ). six (with_flags x d) ≤ 1) (sym e) h

    go : Dec (d.flags ≡ 0xFFFF) → Dec (d.flags ≡ 0xFFFE) → Dec (d.flags ≡ 0xFFFC) → Dec (d.flags ≡ 0xFFF8) → six d ≤ 1
    go (yes e) b c f = into e (omega (arith, few (not (eqb d.tag 0xFFFF))))
    go (no a) (yes e) c f = into e (omega arith)
    go (no a) (no b) (yes e) f = into e (omega (arith, halves' (is_transaction d)))
    go (no a) (no b) (no c) (yes e) = into e (omega (arith, halves' (is_transaction d)))
    go (no a) (no b) (no c) (no f) = ends (eqb d.flags 0xFFFF) (eqb d.flags 0xFFFE) (eqb d.flags 0xFFFC) (eqb d.flags 0xFFF8) (differ a) (differ b) (differ c) (differ f)
      where
        ends : (w x y z : Bool) → w ≡ false → x ≡ false → y ≡ false → z ≡ false
            → one (w && not (eqb d.tag 0xFFFF)) + one x + one (z && is_transaction d) + one (y && is_transaction d) + one (y && not (is_transaction d)) + one (z && not (is_transaction d)) ≤ 1
        ends false false false false p q r t = omega arith
        ends true x y z p q r t = true_false true refl p
        ends false true y z p q r t = true_false true refl q
        ends false false true z p q r t = true_false true refl r
        ends false false false true p q r t = true_false true refl t

abbrev sizes : Sorted → ℕ
sizes l = length l.torn + length l.allocated + length l.committed + length l.opened + length l.pending + length l.current

sizes_few : (es : List Entry) → sizes (sorted es) ≤ length es
unfolding filter pick
sizes_few [] = omega arith
sizes_few (e ∷ es) =
    omega (arith, sizes_few es, six_few e.descriptor, pick_cons is_torn e es, pick_cons is_allocated e es, pick_cons is_committed e es, pick_cons is_open e es, pick_cons is_pending_file e es, pick_cons is_current_file e es)

tidy_sizes : (l : Sorted) → Orderly l → length (tidy_of l) ≤ sizes l
unfolding become
tidy_sizes l (unfinished u) =
    omega (
      arith,
      ap length shape,
      length-append (become 0 l.torn ++ become 0xFFF0 l.allocated) rest,
      length-append (become 0 l.torn) (become 0xFFF0 l.allocated),
      length-append (become 0xFFF0 l.opened) (become 0xFFF0 l.pending),
      become_nil 0 l.torn,
      become_nil 0xFFF0 l.allocated,
      become_nil 0xFFF0 l.opened,
      become_nil 0xFFF0 l.pending,
    )
  where
    rest : List Step
    rest = become 0xFFF0 l.opened ++ become 0xFFF0 l.pending

    shape : tidy_of l ≡ (become 0 l.torn ++ become 0xFFF0 l.allocated) ++ (become 0xFFF0 l.opened ++ become 0xFFF0 l.pending)
    shape = ap (λ (d : List Entry). (become 0 l.torn ++ become 0xFFF0 l.allocated) ++ end_of d l.opened l.pending l.current) u.committed
tidy_sizes l (committing c) = go l.committed refl
  where
    go : (d : List Entry) → l.committed ≡ d → length (tidy_of l) ≤ sizes l
    go [] q = absurd (let w : ⊥ = omega (arith, ap length q, c.committed) in w)
    go (t ∷ ts) q =
        omega (arith, ap length shape, length-append (turns l.current l.pending) (become 0xFFF0 (t ∷ ts)), become_nil 0xFFF0 (t ∷ ts), turns_length l.current l.pending c.pending, ap length q)
      where
        shape : tidy_of l ≡ turns l.current l.pending ++ become 0xFFF0 (t ∷ ts)
        shape = λ i. tidy_of (record { torn = c.torn i; allocated = c.allocated i; committed = q i; opened = l.opened; pending = l.pending; current = l.current })

entries_few : (g : Geometry) (us : List Bytes) (sp L : ℕ) (ps : List LaidHome) → HomesStand g us sp L ps → 8 * length (all_entries g L ps) ≤ length ps * (g.size - header_bytes)
unfolding stands
entries_few g us sp L [] h = omega arith
entries_few g us sp L (p ∷ ps) h =
    omega (arith, entries_few g us sp (suc L) ps h.1, length-append (home_entries g L p.phys p.rest 0 p.array) (all_entries g (suc L) ps), length_in g L p.phys p.rest 0 p.array, h.0.good.fills)

-- THE bound of the tidying
pub tidy_few : (g : Geometry) (us : List Bytes) (ps : List LaidHome) (sp : ℕ) → Stands g us ps sp → Orderly (sorted (all_entries g 0 ps)) → length (tidying (all_entries g 0 ps)) ≤ tidy_bound g
unfolding tidy_bound
tidy_few g us ps sp st o =
    omega (arith, tidy_sizes (sorted (all_entries g 0 ps)) o, sizes_few (all_entries g 0 ps), entries_few g us sp 0 ps st.homes, count)
  where
    count : length ps * (g.size - header_bytes) ≡ (g.units - 1) * (g.size - header_bytes)
    count = ap (λ (n : ℕ). n * (g.size - header_bytes)) less
      where
        less : length ps ≡ g.units - 1
        less = omega (arith, st.units, st.many)

-- a move and the tidying, each within its bound, are within a mount's
pub both_few : (g : Geometry) (m t : ℕ) → m ≤ move_bound g → t ≤ tidy_bound g → m + t ≤ mount_bound g
unfolding mount_bound
both_few g m t a b = omega (arith, a, b)
