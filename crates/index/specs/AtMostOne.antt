-- What a sound image has few of: at most one torn or allocated, one open, one committed, one current of each file, and not more
-- pending ones than there are files, and one.
use Rattle.std.specs.Prelude.{ℕ, zero, suc, ◌+◌, ◌-◌, ◌≤◌, ◌<◌, ◌≡◌, Bool, true, false, not, cond, ◌&&◌, ◌||◌, List, [], ◌∷◌, length}
use Rattle.std.proofs.Common.{arith, mod-lt}
use Rattle.std.proofs.Math.Path.{refl}
use borrow.Author.Tests.{eqb-true, eqb-false, leb-true}
use Rattle.std.proofs.Math.Dec.{leb, eqb}
use Rattle.rules.specs.Lists.{filter}
use Rattle.rules.specs.Unit.{file_of}
use Rattle.rules.specs.Settled.{Entry, Survey, Counts, of_file, pairs, counts, is_beside, is_quiet, is_housed, is_still}
use Rattle.rules.specs.Sound.{is_unfinished, is_committing, is_moving, standing}
use Rattle.rules.specs.declared.Geometry.{Geometry}
use Rattle.rules.specs.declared.Standing.TheVariants.{Settled, Neither}
use Rattle.laws.specs.Tests.{and_inv, one}
use Rattle.laws.specs.Homes.{sound_housed, unsettled}

-- ---- of entries with as many pairs there are at most so many more than files

-- all files below k
data Below (k : ℕ) : List Entry → Type 0 where
  end : Below k []
  and : {e : Entry} {es : List Entry} → file_of e.descriptor < k → Below k es → Below k (e ∷ es)

-- not of file f
unfoldable others : ℕ → List Entry → List Entry
others f es = filter (λ (e : Entry). not (of_file f e)) es

fewer : (f j : ℕ) (es : List Entry) → length (filter (of_file j) (others f es)) ≤ length (filter (of_file j) es)
unfolding filter others
fewer f j [] = omega arith
fewer f j (e ∷ es) = go (of_file f e) (of_file j e) refl (fewer f j es)
  where
    go : (x y : Bool) → of_file j e ≡ y → length (filter (of_file j) (others f es)) ≤ length (filter (of_file j) es)
        → length (filter (of_file j) (cond (not x) (e ∷ others f es) (others f es))) ≤ length (cond y (e ∷ filter (of_file j) es) (filter (of_file j) es))
    go true true q h = omega arith
    go true false q h = h
    go false true q h = rw q (omega arith)
    go false false q h = rw q h

-- those of file f, and the others
parted : (f : ℕ) (es : List Entry) → length es ≡ length (filter (of_file f) es) + length (others f es)
unfolding filter others
parted f [] = refl
parted f (e ∷ es) = go (of_file f e) (parted f es)
  where
    go : (x : Bool) → length es ≡ length (filter (of_file f) es) + length (others f es)
        → suc (length es) ≡ length (cond x (e ∷ filter (of_file f) es) (filter (of_file f) es)) + length (cond (not x) (e ∷ others f es) (others f es))
    go true h = omega arith
    go false h = omega arith

paired : (f : ℕ) (es : List Entry) → pairs (others f es) + (length (filter (of_file f) es) - 1) ≤ pairs es
unfolding pairs filter others of_file
paired f [] = omega arith
paired f (e ∷ es) = go (eqb (file_of e.descriptor) f) refl (paired f es)
  where
    go : (x : Bool) → eqb (file_of e.descriptor) f ≡ x → pairs (others f es) + (length (filter (of_file f) es) - 1) ≤ pairs es
        → pairs (cond (not x) (e ∷ others f es) (others f es)) + (length (cond x (e ∷ filter (of_file f) es) (filter (of_file f) es)) - 1)
        ≤ length (filter (of_file (file_of e.descriptor)) es) + pairs es
    go true q h = rw (eqb-true (file_of e.descriptor) f q) (omega arith)
    go false q h = omega (arith, fewer f (file_of e.descriptor) es)

others_below : (k : ℕ) {es : List Entry} → Below (suc k) es → Below k (others k es)
unfolding others filter of_file
others_below k end = end
others_below k (and {e} {es} p r) = go (eqb (file_of e.descriptor) k) refl (others_below k r)
  where
    go : (x : Bool) → eqb (file_of e.descriptor) k ≡ x → Below k (others k es) → Below k (cond (not x) (e ∷ others k es) (others k es))
    go true q h = h
    go false q h =
        let n : file_of e.descriptor ≡ k → ⊥ = eqb-false (file_of e.descriptor) k q in
        let l : file_of e.descriptor < k = omega arith in
        and l h

least : (k : ℕ) {es : List Entry} → Below k es → length es ≤ k + pairs es
least zero end = omega arith
least zero (and p r) = absurd (omega arith)
least (suc k) {es} b = omega (arith, parted k es, least k (others_below k b), paired k es)

all_below : (es : List Entry) → Below 256 es
unfolding file_of
all_below [] = end
all_below (e ∷ es) = and (mod-lt e.descriptor.tag (omega arith)) (all_below es)

pub few_more : (es : List Entry) → length es ≤ 256 + pairs es
few_more es = least 256 (all_below es)

-- ---- what is counted in a sound image
pub record AtMostOne (c : Counts) : Type 0 where
  pub unfinished : c.unfinished ≤ 1
  pub committed : c.committed ≤ 1
  pub opened : c.opened ≤ 1
  pub current : c.current_ok ≡ true
  pub pairs : c.pending_pairs ≤ 1

module _ (c : Counts) where
  quiet_few : is_quiet c ≡ true → AtMostOne c
  unfolding is_quiet
  quiet_few h =
      let u = eqb c.unfinished 0 in
      let m = eqb c.committed 0 in
      let o = leb c.opened 1 in
      let b = is_beside c in
      let p = eqb c.pending_pairs 0 in
      let h5 = and_inv (u && m && o && b && p) c.current_ok h in
      let h4 = and_inv (u && m && o && b) p h5.0 in
      let h3 = and_inv (u && m && o) b h4.0 in
      let h2 = and_inv (u && m) o h3.0 in
      let h1 = and_inv u m h2.0 in
      record {
        unfinished = omega (arith, eqb-true c.unfinished 0 h1.0);
        committed = omega (arith, eqb-true c.committed 0 h1.1);
        opened = leb-true c.opened 1 h2.1;
        current = h5.1;
        pairs = omega (arith, eqb-true c.pending_pairs 0 h4.1);
      }

  unfinished_few : is_unfinished c ≡ true → AtMostOne c
  unfolding is_unfinished
  unfinished_few h =
      let m = eqb c.committed 0 in
      let o = leb c.opened 1 in
      let a = (eqb c.unfinished 1 && is_beside c) in
      let p = eqb c.pending_pairs 0 in
      let u = eqb c.unfinished 0 in
      let q = leb c.pending_pairs 1 in
      let h3 = and_inv (m && o && c.current_ok) ((a && p) || (u && q)) h in
      let h2 = and_inv (m && o) c.current_ok h3.0 in
      let h1 = and_inv m o h2.0 in
      record {
        unfinished =
            one (a && p) (u && q) h3.1
            (λ x. omega (arith, eqb-true c.unfinished 1 (and_inv (eqb c.unfinished 1) (is_beside c) (and_inv a p x).0).0))
            (λ x. omega (arith, eqb-true c.unfinished 0 (and_inv u q x).0));
        committed = omega (arith, eqb-true c.committed 0 h1.0);
        opened = leb-true c.opened 1 h1.1;
        current = h2.1;
        pairs =
            one (a && p) (u && q) h3.1
            (λ x. omega (arith, eqb-true c.pending_pairs 0 (and_inv a p x).1))
            (λ x. leb-true c.pending_pairs 1 (and_inv u q x).1);
      }

  committing_few : is_committing c ≡ true → AtMostOne c
  unfolding is_committing
  committing_few h =
      let u = eqb c.unfinished 0 in
      let m = eqb c.committed 1 in
      let o = eqb c.opened 0 in
      let p = eqb c.pending_pairs 0 in
      let h4 = and_inv (u && m && o && p) c.current_ok h in
      let h3 = and_inv (u && m && o) p h4.0 in
      let h2 = and_inv (u && m) o h3.0 in
      let h1 = and_inv u m h2.0 in
      record {
        unfinished = omega (arith, eqb-true c.unfinished 0 h1.0);
        committed = omega (arith, eqb-true c.committed 1 h1.1);
        opened = omega (arith, eqb-true c.opened 0 h2.1);
        current = h4.1;
        pairs = omega (arith, eqb-true c.pending_pairs 0 h3.1);
      }

module _ (g : Geometry) (v : Survey) (sound : standing g v ≡ Neither → ⊥) where
  pub sound_few : AtMostOne (counts v.entries)
  unfolding standing
  sound_few = go (is_still v) (is_quiet c) (is_unfinished c) (is_committing c) refl refl refl refl
    where
      c : Counts
      c = counts v.entries

      go : (x y u w : Bool) → is_still v ≡ x → is_quiet c ≡ y → is_unfinished c ≡ u → is_committing c ≡ w → AtMostOne c
      go x true u w p q a b = quiet_few c q
      go x false true w p q a b = unfinished_few c a
      go x false false true p q a b = committing_few c b
      go true false false false p q a b = absurd (sound (rw (sound_housed g v sound, p, q, standing) (rw (p, a, b, q))))
      go false false false false p q a b = absurd (sound (rw (sound_housed g v sound, p, q, standing) (rw p)))

pub settled_pairs : (g : Geometry) (v : Survey) → standing g v ≡ Settled → (counts v.entries).pending_pairs ≡ 0
unfolding standing is_quiet
settled_pairs g v h = go (is_housed g v) (is_still v && is_quiet c) refl refl
  where
    c : Counts
    c = counts v.entries

    none : Bool
    none = eqb c.pending_pairs 0

    before : Bool
    before = eqb c.unfinished 0 && eqb c.committed 0 && leb c.opened 1 && is_beside c

    other : Bool
    other = (is_still v && (is_unfinished c || is_committing c)) || (is_quiet c && is_moving g v.homes v.spare)

    go : (a b : Bool) → is_housed g v ≡ a → (is_still v && is_quiet c) ≡ b → c.pending_pairs ≡ 0
    go false b p q = unsettled false (rw (p, standing) at h)
    go true true p q = eqb-true c.pending_pairs 0 (and_inv before none (and_inv (before && none) c.current_ok (and_inv (is_still v) (is_quiet c) q).1).0).1
    go true false p q = unsettled other (rw (p, q, standing) at h)
