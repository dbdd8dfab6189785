-- Where an entry stands among those of the homes.
use Rattle.std.specs.Prelude.{List, [], ◌++◌, ◌∷◌, ◌≡◌, refl, ◌+◌, ◌-◌, ◌<◌, suc, ℕ, drop, get_or, length, take}
use Rattle.std.proofs.Common.{append_assoc, ◌∙◌, ap, sym, add-zero, not-suc-le-zero, zero-add, arith, length-append, length-take-le}
use Rattle.std.proofs.Math.Decide.{dec_lt}
use Rattle.std.proofs.Math.Seq.{split_at}
use Rattle.rules.specs.Flash.{Bytes}
use Rattle.rules.specs.Settled.{Entry}
use Rattle.rules.specs.Unit.{Descriptor, blank}
use Rattle.rules.specs.declared.Geometry.{Geometry}
use Rattle.theory.specs.Images.Model.{all_entries, home_entries, LaidHome, entry_at}

module _ (g : Geometry) where
  pub record Located (L : ℕ) (ps : List LaidHome) (i : ℕ) : Type 0 where
    pub hs : List LaidHome
    pub bs : List LaidHome
    pub p : LaidHome
    pub xs : List Descriptor
    pub ys : List Descriptor
    pub d : Descriptor
    pub whole : ps ≡ hs ++ p ∷ bs
    pub split : p.array ≡ xs ++ d ∷ ys
    pub index : length (all_entries g L hs) + length xs ≡ i

  pub length_in : (L k : ℕ) (rest : Bytes) (i : ℕ) (ds : List Descriptor) → length (home_entries g L k rest i ds) ≡ length ds
  length_in L k rest i [] = refl
  length_in L k rest i (d ∷ ds) = ap suc (length_in L k rest (suc i) ds)

  pub locate : (L : ℕ) (ps : List LaidHome) (i : ℕ) → i < length (all_entries g L ps) → Located L ps i
  locate L [] i l = absurd (not-suc-le-zero l)
  locate L (p ∷ ps) i l = go (dec_lt i (length p.array)) (λ m. locate (suc L) ps (i - length p.array) (omega (arith, length-append (home_entries g L p.phys p.rest 0 p.array) (all_entries g (suc L) ps), length_in L p.phys p.rest 0 p.array)))
    where
      go : Dec (i < length p.array) → (¬ (i < length p.array) → Located (suc L) ps (i - length p.array)) → Located L (p ∷ ps) i
      go (yes m) f =
          record {
            hs = [];
            bs = ps;
            p = p;
            xs = take i p.array;
            ys = drop (suc i) p.array;
            d = get_or p.array i blank;
            whole = refl;
            split = split_at p.array i blank m;
            index = zero-add (length (take i p.array)) ∙ length-take-le i p.array (omega arith);
          }
      go (no m) f =
          let r = f m in
          record {
            hs = p ∷ r.hs;
            bs = r.bs;
            p = r.p;
            xs = r.xs;
            ys = r.ys;
            d = r.d;
            whole = ap {B = List LaidHome} (λ (l : List LaidHome). p ∷ l) r.whole;
            split = r.split;
            index = omega (arith, r.index, length-append (home_entries g L p.phys p.rest 0 p.array) (all_entries g (suc L) r.hs), length_in L p.phys p.rest 0 p.array);
          }

  pub in_append : (L k : ℕ) (rest : Bytes) (i : ℕ) (xs ys : List Descriptor) → home_entries g L k rest i (xs ++ ys) ≡ home_entries g L k rest i xs ++ home_entries g L k rest (i + length xs) ys
  in_append L k rest i [] ys = ap (λ (n : ℕ). home_entries g L k rest n ys) (sym (add-zero i))
  in_append L k rest i (x ∷ xs) ys =
      ap {B = List Entry} (λ (l : List Entry). entry_at g L k rest i x ∷ l)
      (in_append L k rest (suc i) xs ys ∙ ap (λ (n : ℕ). home_entries g L k rest (suc i) xs ++ home_entries g L k rest n ys) more)
    where
      more : suc i + length xs ≡ i + suc (length xs)
      more = omega arith

  pub from_append : (L : ℕ) (hs bs : List LaidHome) → all_entries g L (hs ++ bs) ≡ all_entries g L hs ++ all_entries g (L + length hs) bs
  from_append L [] bs = ap (λ (n : ℕ). all_entries g n bs) (sym (add-zero L))
  from_append L (a ∷ hs) bs =
      ap (λ (l : List Entry). home_entries g L a.phys a.rest 0 a.array ++ l) (from_append (suc L) hs bs ∙ ap (λ (n : ℕ). all_entries g (suc L) hs ++ all_entries g n bs) more)
      ∙ sym (append_assoc (home_entries g L a.phys a.rest 0 a.array) (all_entries g (suc L) hs) (all_entries g (L + suc (length hs)) bs))
    where
      more : suc L + length hs ≡ L + suc (length hs)
      more = omega arith

  -- a home with other descriptors
  abbrev pub spot : LaidHome → List Descriptor → LaidHome
  spot p ds = record { phys = p.phys; up = p.up; head = p.head; array = ds; gap = p.gap; rest = p.rest }

  pub entries_split : (hs bs : List LaidHome) (p : LaidHome) (xs ys : List Descriptor) (d : Descriptor)
      → all_entries g 0 (hs ++ spot p (xs ++ d ∷ ys) ∷ bs)
      ≡ (all_entries g 0 hs ++ home_entries g (0 + length hs) p.phys p.rest 0 xs) ++ entry_at g (0 + length hs) p.phys p.rest (0 + length xs) d ∷ (home_entries g (0 + length hs) p.phys p.rest (suc (0 + length xs)) ys ++ all_entries g (suc (0 + length hs)) bs)
  entries_split hs bs p xs ys d =
      from_append 0 hs (spot p (xs ++ d ∷ ys) ∷ bs)
      ∙ ap (λ (l : List Entry). all_entries g 0 hs ++ (l ++ all_entries g (suc (0 + length hs)) bs)) (in_append (0 + length hs) p.phys p.rest 0 xs (d ∷ ys))
      ∙ ap (λ (l : List Entry). all_entries g 0 hs ++ l) (append_assoc (home_entries g (0 + length hs) p.phys p.rest 0 xs) _ (all_entries g (suc (0 + length hs)) bs))
      ∙ sym (append_assoc (all_entries g 0 hs) (home_entries g (0 + length hs) p.phys p.rest 0 xs) _)
