-- One descriptor's flags are programmed: the list of entries changes at that entry, and nothing else.
use Rattle.std.specs.Prelude.{cond, false, true, ◌≢◌, ◌≡◌, drop, take}
use mathlib.Core.List.{List, [], ◌++◌, ◌∷◌}
use Rattle.std.proofs.Common.{◌∙◌, sym, add-zero, arith, length-append, get_or-set_other}
use Rattle.std.proofs.Math.Path.{ap, refl, subst}
use Prim.Native.Nat.{◌*◌, ◌+◌, ◌-◌, ◌<◌, suc, zero, ℕ}
use Rattle.std.proofs.Math.Decide.{ℕ_discrete}
use Rattle.std.specs.Int.Bits.{bit_and}
use Rattle.std.proofs.Math.Dec.{eqb}
use Rattle.std.proofs.Math.ListN.{get_or, length, length-set, set}
use Rattle.std.proofs.Math.Seq.{get_or-set_same}
use Rattle.rules.specs.Flash.{Bytes, made, program, word}
use Rattle.rules.specs.Lists.{all}
use Rattle.rules.specs.Settled.{Entry}
use Rattle.rules.specs.Unit.{Descriptor, has_sector, is_empty, is_listed, live, retired, stands}
use Rattle.rules.specs.declared.Geometry.{Geometry}
use Rattle.laws.specs.Words.{two_bytes}
use Rattle.theory.specs.Base.Facts.{Splits, all_change, length_mid, splits}
use Rattle.theory.specs.Base.Along.{le}
use Rattle.theory.specs.Images.Units.{join, program_unit, sized_set}
use Rattle.theory.specs.Images.Head.{headed}
use Rattle.theory.specs.Images.Layout.{Good, before, behind, flags_good, layout_split, length_before, length_layout, with_flags}
use Rattle.theory.specs.Images.Model.{all_entries, home_entries, HomesStand, Is, LaidHome, Stands, entry_at, is_up, laid, name_is, name_of, no_laid_home, state_at, state_word}
use Rattle.theory.specs.Images.Located.{Located, entries_split, length_in, locate, spot}

-- ---- the homes after unit k is set
pub homes_frame : (g : Geometry) (us : List Bytes) (sp k : ℕ) (u : Bytes) → k ≢ sp → (L : ℕ) (qs : List LaidHome) → HomesStand g us sp L qs → ((i : ℕ) → i < length qs → name_of us k ≢ L + i)
    → HomesStand g (set us k u) sp L qs
homes_frame g us sp k u other L [] h n = tt
homes_frame g us sp k u other L (q ∷ qs) h n = (
  record {
    there = subst (λ (m : ℕ). q.phys < m) (sym (length-set us k u)) h.0.there;
    bytes = get_or-set_other us k q.phys u [] differs ∙ h.0.bytes;
    good = h.0.good;
    headed = h.0.headed;
    away = h.0.away;
    mark = λ e. ap (λ (x : Bytes). eqb (word x 2) retired) (get_or-set_other us k sp u [] (λ (e : sp ≡ k). other (sym e))) ∙ h.0.mark e;
  },
  homes_frame g us sp k u other (suc L) qs h.1 (λ i l e. n (suc i) (omega arith) (e ∙ more i)),
)
  where
    differs : q.phys ≢ k
    differs e = n 0 (omega arith) (ap (name_of us) (sym e) ∙ name_is g us sp L q h.0 ∙ sym (add-zero L))

    more : (i : ℕ) → suc L + i ≡ L + suc i
    more i = omega arith

module _ (g : Geometry) (us : List Bytes) (sp : ℕ) where
  pub homes_front : (L : ℕ) (hs bs : List LaidHome) (p : LaidHome) → HomesStand g us sp L (hs ++ p ∷ bs) → HomesStand g us sp L hs
  homes_front L [] bs p h = tt
  homes_front L (x ∷ hs) bs p h = (h.0, homes_front (suc L) hs bs p h.1)

  pub homes_mid : (L : ℕ) (hs bs : List LaidHome) (p : LaidHome) → HomesStand g us sp L (hs ++ p ∷ bs) → Is g us sp (L + length hs) p × HomesStand g us sp (suc (L + length hs)) bs
  homes_mid L [] bs p h = subst (λ (n : ℕ). Is g us sp n p × HomesStand g us sp (suc n) bs) (sym (add-zero L)) h
  homes_mid L (x ∷ hs) bs p h = subst (λ (n : ℕ). Is g us sp n p × HomesStand g us sp (suc n) bs) more (homes_mid (suc L) hs bs p h.1)
    where
      more : suc L + length hs ≡ L + suc (length hs)
      more = omega arith

  pub homes_join : (L : ℕ) (hs bs : List LaidHome) (p : LaidHome) → HomesStand g us sp L hs → Is g us sp (L + length hs) p → HomesStand g us sp (suc (L + length hs)) bs → HomesStand g us sp L (hs ++ p ∷ bs)
  homes_join L [] bs p h i b = subst (λ (n : ℕ). Is g us sp n p × HomesStand g us sp (suc n) bs) (add-zero L) (i, b)
  homes_join L (x ∷ hs) bs p h i b =
      (h.0, homes_join (suc L) hs bs p h.1 (subst (λ (n : ℕ). Is g us sp n p) (sym more) i) (subst (λ (n : ℕ). HomesStand g us sp (suc n) bs) (sym more) b))
    where
      more : suc L + length hs ≡ L + suc (length hs)
      more = omega arith

pub phys_change : (hs bs : List LaidHome) (p q : LaidHome) → q.phys ≡ p.phys → (n : ℕ) → (get_or (hs ++ q ∷ bs) n no_laid_home).phys ≡ (get_or (hs ++ p ∷ bs) n no_laid_home).phys
phys_change [] bs p q e zero = e
phys_change [] bs p q e (suc n) = refl
phys_change (x ∷ hs) bs p q e zero = refl
phys_change (x ∷ hs) bs p q e (suc n) = phys_change hs bs p q e n

-- ---- home L = length hs is laid anew, at the same unit
module _ (g : Geometry) (us : List Bytes) (hs bs : List LaidHome) (p q : LaidHome) (sp : ℕ) (st : Stands g us (hs ++ p ∷ bs) sp) (here : q.phys ≡ p.phys)
    (good : Good g q.array q.gap q.rest) (head : headed q.head ≡ true) (mark : q.up ≡ false → eqb (state_at us sp) retired ≡ false) where
  mid : Is g us sp (0 + length hs) p × HomesStand g us sp (suc (0 + length hs)) bs
  mid = homes_mid g us sp 0 hs bs p st.homes

  pub relaid : Stands g (set us p.phys (laid (0 + length hs) q)) (hs ++ q ∷ bs) sp
  unfolding word
  relaid =
      record {
        shape = st.shape;
        units = length-set us p.phys new ∙ st.units;
        sized = sized_set g us p.phys new st.sized (length_layout g (0 + length hs) (state_word q.up) q.head q.array q.gap q.rest good);
        many = length-set us p.phys new ∙ st.many ∙ ap suc (sym (length_mid hs p q bs));
        homes =
            homes_join g vs sp 0 hs bs q
            (homes_frame g us sp p.phys new mid.0.away 0 hs (homes_front g us sp 0 hs bs p st.homes) (λ i l e. clash i (sym named ∙ e) l))
            (record {
              there = subst (λ (m : ℕ). q.phys < m) (sym (length-set us p.phys new)) (subst (λ (x : ℕ). x < length us) (sym here) mid.0.there);
              bytes = ap (λ (x : ℕ). get_or vs x []) here ∙ get_or-set_same us p.phys new [] mid.0.there;
              good = good;
              headed = head;
              away = λ (e : q.phys ≡ sp). mid.0.away (sym here ∙ e);
              mark = λ e. ap (λ (x : Bytes). eqb (word x 2) retired) left ∙ mark e;
            })
            (homes_frame g us sp p.phys new mid.0.away (suc (0 + length hs)) bs mid.1 (λ i l e. clash' i (sym named ∙ e)));
        spare = subst (λ (m : ℕ). sp < m) (sym (length-set us p.phys new)) st.spare;
        not_live = ap (λ (x : Bytes). eqb (word x 2) live) left ∙ st.not_live;
        named = λ j l n. let o = st.named j (subst (λ (m : ℕ). j < m) (length-set us p.phys new) l) n in (
          subst (λ (m : ℕ). m < length (hs ++ q ∷ bs)) (sym (names j)) (subst (λ (m : ℕ). name_of us j < m) (sym (length_mid hs p q bs)) o.0),
          phys_change hs bs p q here (name_of vs j) ∙ ap (λ (x : ℕ). (get_or (hs ++ p ∷ bs) x no_laid_home).phys) (names j) ∙ o.1,
        );
      }
    where
      new : Bytes
      new = laid (0 + length hs) q

      vs : List Bytes
      vs = set us p.phys new

      named : name_of us p.phys ≡ 0 + length hs
      named = name_is g us sp (0 + length hs) p mid.0

      clash : (i : ℕ) → 0 + length hs ≡ 0 + i → i < length hs → ⊥
      clash i e l = omega arith

      clash' : (i : ℕ) → 0 + length hs ≡ suc (0 + length hs) + i → ⊥
      clash' i e = omega arith

      left : get_or vs sp [] ≡ get_or us sp []
      left = get_or-set_other us p.phys sp new [] (λ (e : sp ≡ p.phys). mid.0.away (sym e))

      names : (j : ℕ) → name_of vs j ≡ name_of us j
      names j = go (ℕ_discrete j p.phys)
        where
          go : Dec (j ≡ p.phys) → name_of vs j ≡ name_of us j
          go (yes e) = ap (λ (x : ℕ). name_of vs x) e ∙ ap (λ (x : Bytes). word x 0) (get_or-set_same us p.phys new [] mid.0.there) ∙ two_bytes (0 + length hs) ∙ sym named ∙ ap (name_of us) (sym e)
          go (no n) = ap (λ (x : Bytes). word x 0) (get_or-set_other us p.phys j new [] n)

  -- what stands at the unit left over is as it was
  pub relaid_spare : get_or (set us p.phys (laid (0 + length hs) q)) sp [] ≡ get_or us sp []
  relaid_spare = get_or-set_other us p.phys sp (laid (0 + length hs) q) [] (λ (e : sp ≡ p.phys). mid.0.away (sym e))

-- an entry with other flags; its content is as before where it keeps its sector
abbrev pub set_e : ℕ → Entry → Entry
set_e f e = record { at = e.at; place = e.place; descriptor = with_flags f e.descriptor; start = e.start; content = e.content }

set_entry : (g : Geometry) (L k : ℕ) (rest : Bytes) (i f : ℕ) (d : Descriptor) → has_sector (with_flags f d) ≡ has_sector d → entry_at g L k rest i (with_flags f d) ≡ set_e f (entry_at g L k rest i d)
set_entry g L k rest i f d like = λ j. record {
  at = record { unit = L; position = i };
  place = k * g.size + stands i;
  descriptor = with_flags f d;
  start = k * g.size + d.offset;
  content = cond (like j) (take d.len (drop (length rest + d.offset - g.size) rest)) [];
}

-- what a turned entry leaves: the image is again of this kind, and its entries are as before but there
pub record Turned (g : Geometry) (us : List Bytes) (ps : List LaidHome) (sp : ℕ) (es : List Entry) (s : Bytes) : Type 0 where
  pub us' : List Bytes
  pub ps' : List LaidHome
  pub image : s ≡ join us'
  pub stands : Stands g us' ps' sp
  pub entries : all_entries g 0 ps' ≡ es
  pub spare : get_or us' sp [] ≡ get_or us sp []
  pub ups : all is_up ps' ≡ all is_up ps

module _ (g : Geometry) (us : List Bytes) (sp : ℕ) (front : List Entry) (e : Entry) (back : List Entry) (v f : ℕ) (to : bit_and e.descriptor.flags v ≡ f)
    (like : has_sector (with_flags f e.descriptor) ≡ has_sector e.descriptor) (is : is_listed (with_flags f e.descriptor) ≡ true) (full : is_empty (with_flags f e.descriptor) ≡ false) where
  turn_at_lem : (hs bs : List LaidHome) (p : LaidHome) (xs ys : List Descriptor) (d : Descriptor) → length (all_entries g 0 hs) + length xs ≡ length front
      → Stands g us (hs ++ spot g p (xs ++ d ∷ ys) ∷ bs) sp → all_entries g 0 (hs ++ spot g p (xs ++ d ∷ ys) ∷ bs) ≡ front ++ e ∷ back
      → Turned g us (hs ++ spot g p (xs ++ d ∷ ys) ∷ bs) sp (front ++ set_e f e ∷ back) (made (program e.place v) (join us))
  unfolding stands
  turn_at_lem hs bs p xs ys d n st q =
      record {
        us' = set us p.phys (laid (0 + length hs) new);
        ps' = hs ++ new ∷ bs;
        image =
            ap (λ (a : ℕ). made (program a v) (join us)) (ap (λ (x : Entry). x.place) (sym same.mid) ∙ where')
            ∙ program_unit g us p.phys (before L W p.head xs) d.flags v (behind d ys p.gap p.rest) st.sized mid'.0.there (mid'.0.bytes ∙ layout_split L W p.head xs d ys p.gap p.rest)
            ∙ ap (λ (w : ℕ). join (set us p.phys (before L W p.head xs ++ le w (behind d ys p.gap p.rest)))) (ap (λ (x : Descriptor). bit_and x.flags v) mid_desc ∙ to)
            ∙ ap (λ (u : Bytes). join (set us p.phys u)) (sym (layout_split L W p.head xs (with_flags f d) ys p.gap p.rest));
        stands = relaid g us hs bs old new sp st refl
            (flags_good g xs d ys p.gap p.rest f (like_d) (ap (λ (x : Descriptor). is_listed (with_flags f x)) mid_desc ∙ is) (ap (λ (x : Descriptor). is_empty (with_flags f x)) mid_desc ∙ full) mid'.0.good)
            mid'.0.headed mid'.0.mark;
        entries = entries_split g hs bs p xs ys (with_flags f d)
            ∙ ap (λ (x : Entry). (all_entries g 0 hs ++ home_entries g L p.phys p.rest 0 xs) ++ x ∷ (home_entries g L p.phys p.rest (suc (0 + length xs)) ys ++ all_entries g (suc L) bs)) (set_entry g L p.phys p.rest (0 + length xs) f d like_d)
            ∙ (λ i. same.front i ++ set_e f (same.mid i) ∷ same.back i);
        spare = relaid_spare g us hs bs old new sp st refl
            (flags_good g xs d ys p.gap p.rest f (like_d) (ap (λ (x : Descriptor). is_listed (with_flags f x)) mid_desc ∙ is) (ap (λ (x : Descriptor). is_empty (with_flags f x)) mid_desc ∙ full) mid'.0.good)
            mid'.0.headed mid'.0.mark;
        ups = all_change is_up hs old new bs refl;
      }
    where
      L : ℕ
      L = 0 + length hs

      W : ℕ
      W = state_word p.up

      old : LaidHome
      old = spot g p (xs ++ d ∷ ys)

      new : LaidHome
      new = spot g p (xs ++ with_flags f d ∷ ys)

      mid' : Is g us sp (0 + length hs) old × HomesStand g us sp (suc (0 + length hs)) bs
      mid' = homes_mid g us sp 0 hs bs old st.homes

      lengths : length (all_entries g 0 hs ++ home_entries g L p.phys p.rest 0 xs) ≡ length front
      lengths = length-append (all_entries g 0 hs) (home_entries g L p.phys p.rest 0 xs) ∙ ap (λ (x : ℕ). length (all_entries g 0 hs) + x) (length_in g L p.phys p.rest 0 xs) ∙ n

      same : Splits (all_entries g 0 hs ++ home_entries g L p.phys p.rest 0 xs) (entry_at g L p.phys p.rest (0 + length xs) d) (home_entries g L p.phys p.rest (suc (0 + length xs)) ys ++ all_entries g (suc L) bs) front e back
      same = splits (all_entries g 0 hs ++ home_entries g L p.phys p.rest 0 xs) (entry_at g L p.phys p.rest (0 + length xs) d) (home_entries g L p.phys p.rest (suc (0 + length xs)) ys ++ all_entries g (suc L) bs) front e back
          (sym (entries_split g hs bs p xs ys d) ∙ q) lengths

      mid_desc : d ≡ e.descriptor
      mid_desc = ap (λ (x : Entry). x.descriptor) same.mid

      like_d : has_sector (with_flags f d) ≡ has_sector d
      like_d = ap (λ (x : Descriptor). has_sector (with_flags f x)) mid_desc ∙ like ∙ sym (ap has_sector mid_desc)

      where' : p.phys * g.size + stands (0 + length xs) ≡ p.phys * g.size + length (before L W p.head xs)
      where' = omega (arith, length_before L W p.head xs)

  pub turned : (ps : List LaidHome) → Stands g us ps sp → all_entries g 0 ps ≡ front ++ e ∷ back
      → Turned g us ps sp (front ++ set_e f e ∷ back) (made (program e.place v) (join us))
  turned ps st q =
      subst (λ (x : List LaidHome). Turned g us x sp (front ++ set_e f e ∷ back) (made (program e.place v) (join us))) (sym shape)
      (turn_at_lem at.hs at.bs at.p at.xs at.ys at.d at.index
      (subst (λ (x : List LaidHome). Stands g us x sp) shape st)
      (ap (all_entries g 0) (sym shape) ∙ q))
    where
      inside : length front < length (all_entries g 0 ps)
      inside = omega (arith, ap length q, length-append front (e ∷ back))

      at : Located g 0 ps (length front)
      at = locate g 0 ps (length front) inside

      shape : ps ≡ at.hs ++ spot g at.p (at.xs ++ at.d ∷ at.ys) ∷ at.bs
      shape = at.whole ∙ (λ i. at.hs ++ record { phys = at.p.phys; up = at.p.up; head = at.p.head; array = at.split i; gap = at.p.gap; rest = at.p.rest } ∷ at.bs)
