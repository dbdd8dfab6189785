-- The entries of an image: each sector's bytes stand where its entry says, and it is tagged.
use Rattle.std.specs.Prelude.{Bool, ◌&&◌, ◌||◌, cond, false, not, true, ◌≡◌, refl, ◌*◌, ◌+◌, ◌/◌, ◌<◌, ◌≤◌, suc, zero, ℕ, eqb, leb, drop, take}
use mathlib.Core.List.{List, [], ◌++◌, ◌∷◌}
use Rattle.std.proofs.Common.{◌∙◌, ap, subst, le_of_suc-le-suc, not-suc-le-zero, arith, length-drop, length-take, drop_at, drop-drop}
use Rattle.std.proofs.Math.Path.{sym}
use Rattle.std.proofs.Math.ListN.{get_or, length}
use Rattle.std.proofs.lemmas.List.{drop-append-le, take-append-le}
use Rattle.rules.specs.Flash.{Bytes}
use Rattle.rules.specs.Lists.{all, filter}
use Rattle.rules.specs.Settled.{Entry, content_in}
use Rattle.rules.specs.Unit.{Descriptor, has_sector, is_allocated, is_current, is_current_file, is_data, is_mark, is_old, is_pending, is_pending_file, is_placed, is_tagged, is_transaction, size, stands}
use Rattle.rules.specs.declared.Geometry.{Geometry}
use Rattle.theory.specs.Base.Facts.{FirstThat, all_uncons, and_l, and_r, eq_of, filter_filter, filter_head, true_false}
use Rattle.theory.specs.Images.Units.{Sized, join, sized_get}
use Rattle.theory.specs.Images.Sectors.{AllAbove, all_above, content_laid, content_over}
use Rattle.theory.specs.Images.Model.{all_entries, home_entries, HomesStand, Is, LaidHome, Stands, entry_at, state_word}
use Rattle.theory.specs.Images.Packing.{Lying, lying}

abbrev pub Each : (Entry → Type 0) → List Entry → Type 0
Each P [] = Unit {0}
Each P (e ∷ es) = P e × Each P es

pub each_append : (P : Entry → Type 0) (a b : List Entry) → Each P a → Each P b → Each P (a ++ b)
each_append P [] b h k = k
each_append P (e ∷ a) b h k = (h.0, each_append P a b h.1 k)

pub each_mid : (P : Entry → Type 0) (a : List Entry) (e : Entry) (b : List Entry) → Each P (a ++ e ∷ b) → P e
each_mid P [] e b h = h.0
each_mid P (x ∷ a) e b h = each_mid P a e b h.1

-- an entry that passes two tests
pub record PassesBoth (P : Entry → Type 0) (p q : Entry → Bool) (e : Entry) : Type 0 where
  pub has : P e
  pub one : p e ≡ true
  pub two : q e ≡ true

pub passed : (P : Entry → Type 0) (p q : Entry → Bool) (es : List Entry) → Each P es → (e : Entry) (l : List Entry) → filter q (filter p es) ≡ e ∷ l → PassesBoth P p q e
passed P p q es k e l h =
    record { has = each_mid P d.front e d.back (subst (Each P) d.whole k); one = and_l (p e) (q e) d.pass; two = and_r (p e) (q e) d.pass }
  where
    d : FirstThat (λ (x : Entry). p x && q x) es e l
    d = filter_head (λ (x : Entry). p x && q x) es e l (sym (filter_filter p q es) ∙ h)

-- ---- where its bytes stand in the image s
pub record Sits (s : Bytes) (e : Entry) : Type 0 where
  pub reads : take e.descriptor.len (drop e.start s) ≡ e.content
  pub sized : length e.content ≡ e.descriptor.len
  pub tagged : is_tagged e.descriptor ≡ true

abbrev pub SitsIn : Bytes → Entry → Type 0
SitsIn s e = has_sector e.descriptor ≡ true → Sits s e

module _ (g : Geometry) where
  unit_drop : (us : List Bytes) (k : ℕ) → Sized g.size us → k < length us → drop (k * g.size) (join us) ≡ get_or us k [] ++ join (drop (suc k) us)
  unit_drop [] k h l = absurd (not-suc-le-zero l)
  unit_drop (u ∷ us) zero h l = ap (λ (n : ℕ). drop n (u ++ join us)) none
    where
      none : zero * g.size ≡ 0
      none = omega arith
  unit_drop (u ∷ us) (suc k) h l =
      ap (λ (n : ℕ). drop n (u ++ join us)) more ∙ sym (drop-drop (k * g.size) g.size (u ++ join us)) ∙ ap (drop (k * g.size)) (drop_at u (join us) g.size h.0) ∙ unit_drop us k h.1 (le_of_suc-le-suc l)
    where
      more : suc k * g.size ≡ g.size + k * g.size
      more = omega arith

  module _ (us : List Bytes) (sp : ℕ) (sz : Sized g.size us) where
    sits_one : (L : ℕ) (p : LaidHome) → Is g us sp L p → (i : ℕ) (d : Descriptor) → is_placed g (stands (length p.array)) d ≡ true → (has_sector d ≡ true → stands (length p.array) + p.gap ≤ d.offset)
        → SitsIn (join us) (entry_at g L p.phys p.rest i d)
    unfolding size content_in
    sits_one L p h i d ok above s =
        record {
          reads = at_image ∙ content';
          sized = sym (ap length content') ∙ short;
          tagged = ly.tagged;
        }
      where
        u : Bytes
        u = get_or us p.phys []

        ly : Lying g (stands (length p.array)) d
        ly = lying g (stands (length p.array)) d ok s

        long : length u ≡ g.size
        long = sized_get g us p.phys sz h.there

        at_image : take d.len (drop (p.phys * g.size + d.offset) (join us)) ≡ take d.len (drop d.offset u)
        at_image =
            ap (take d.len) (sym (drop-drop d.offset (p.phys * g.size) (join us)) ∙ ap (drop d.offset) (unit_drop us p.phys sz h.there) ∙ drop-append-le d.offset u (join (drop (suc p.phys) us)) (omega (arith, long, ly.inside)))
            ∙ take-append-le d.len (drop d.offset u) (join (drop (suc p.phys) us)) (omega (arith, length-drop d.offset u, long, ly.inside))

        content' : take d.len (drop d.offset u) ≡ content_over g p.rest d
        content' =
            sym (ap (λ (b : Bool). cond b (take d.len (drop d.offset u)) []) s)
            ∙ ap (λ (x : Bytes). content_in x d) h.bytes
            ∙ content_laid g L (state_word p.up) p.head p.array p.gap p.rest h.good d above

        short : length (take d.len (drop d.offset u)) ≡ d.len
        short = omega (arith, length-take d.len (drop d.offset u), length-drop d.offset u, long, ly.inside)

    sits_in : (L : ℕ) (p : LaidHome) → Is g us sp L p → (i : ℕ) (ds : List Descriptor) → all (is_placed g (stands (length p.array))) ds ≡ true → AllAbove (stands (length p.array) + p.gap) ds
        → Each (SitsIn (join us)) (home_entries g L p.phys p.rest i ds)
    sits_in L p h i [] ok above = tt
    sits_in L p h i (d ∷ ds) ok above =
        let k = all_uncons (is_placed g (stands (length p.array))) d ds ok in
        (sits_one L p h i d k.0 above.0, sits_in L p h (suc i) ds k.1 above.1)

    sits_homes : (L : ℕ) (ps : List LaidHome) → HomesStand g us sp L ps → Each (SitsIn (join us)) (all_entries g L ps)
    sits_homes L [] h = tt
    sits_homes L (p ∷ ps) h =
        each_append (SitsIn (join us)) (home_entries g L p.phys p.rest 0 p.array) (all_entries g (suc L) ps)
        (sits_in L p h.0 0 p.array h.0.good.sectors (all_above (stands (length p.array) + p.gap) g.size p.array (omega (arith, h.0.good.low)))) (sits_homes (suc L) ps h.1)

  pub sits : (us : List Bytes) (ps : List LaidHome) (sp : ℕ) → Stands g us ps sp → Each (SitsIn (join us)) (all_entries g 0 ps)
  sits us ps sp st = sits_homes us sp st.sized 0 ps st.homes

-- ---- what has a sector
pub pending_sector : (e : Entry) → is_pending_file e.descriptor ≡ true → has_sector e.descriptor ≡ true
unfolding is_pending_file is_pending has_sector is_allocated is_current is_old
pending_sector e h = ap (λ (n : ℕ). eqb n 0xFFFE || eqb n 0xFFFC || eqb n 0xFFF8 || eqb n 0xFFF0) (eq_of e.descriptor.flags 0xFFFC (and_l (eqb e.descriptor.flags 0xFFFC) (not (is_transaction e.descriptor)) h))

pub current_sector : (e : Entry) → is_current_file e.descriptor ≡ true → has_sector e.descriptor ≡ true
unfolding is_current_file is_current has_sector is_allocated is_pending is_old
current_sector e h = ap (λ (n : ℕ). eqb n 0xFFFE || eqb n 0xFFFC || eqb n 0xFFF8 || eqb n 0xFFF0) (eq_of e.descriptor.flags 0xFFF8 (and_l (eqb e.descriptor.flags 0xFFF8) (not (is_transaction e.descriptor)) h))

-- what is pending is data or a delete mark
pub pending_data : (e : Entry) → is_tagged e.descriptor ≡ true → is_pending_file e.descriptor ≡ true → is_data e.descriptor ≡ not (is_mark e.descriptor)
unfolding is_data is_mark is_pending_file is_pending is_tagged
pending_data e k p = go (is_data d) (is_mark d) (is_transaction d) refl refl (and_r (eqb d.flags 0xFFFC) (not (is_transaction d)) p) k
  where
    d : Descriptor
    d = e.descriptor

    go : (a m t : Bool) → is_data d ≡ a → is_mark d ≡ m → not t ≡ true → (a && leb d.len 256) || ((m || t) && eqb d.len 0) ≡ true → a ≡ not m
    go true true t qa qm n h = true_false true refl (sym qm ∙ ap (λ (x : ℕ). eqb x 32) (eq_of (d.tag / 256) 16 qa))
    go true false t qa qm n h = refl
    go false true t qa qm n h = refl
    go false false true qa qm n h = n
    go false false false qa qm n h = h
