-- The packed copy of a home is a good home: its array, its gap and its bytes from low up.
use Rattle.std.specs.Prelude.{Bool, ◌||◌, not, ◌≡◌, ◌%◌, ◌*◌, ◌+◌, ◌-◌, ◌≤◌, min, suc, zero, ℕ, eqb, leb}
use Rattle.std.proofs.Math.Bool.{cond, false, true}
use mathlib.Core.List.{List, [], ◌++◌, ◌∷◌, append_assoc}
use Rattle.std.proofs.Common.{◌∙◌}
use Rattle.std.proofs.Math.Path.{ap, refl, subst, sym}
use native.Mathlib.Omega.{arith}
use Rattle.std.proofs.Math.ListN.{length, length-append, replicate}
use Rattle.std.proofs.lemmas.List.{replicate-append-replicate}
use Rattle.rules.specs.Copy.{is_kept, kept_size, packed}
use Rattle.rules.specs.Flash.{Bytes}
use Rattle.rules.specs.Lists.{all}
use Rattle.rules.specs.Unit.{Descriptor, all_apart, apart, blank, disjoint, has_sector, is_allocated, is_current, is_data, is_empty, is_listed, is_mark, is_old, is_pending, is_tagged, is_transaction, lies, lower}
use Rattle.rules.specs.Unit.{is_placed, lowest, size, stands, trim}
use Rattle.rules.specs.declared.Geometry.{Geometry}
use Rattle.laws.specs.Copied.{kept_sector}
use Rattle.laws.specs.Units.{even_size_lem}
use Rattle.theory.specs.Base.Facts.{all_cons, all_front, all_uncons, all_yes, both, leb_of, or_last, or_left, or_right, true_false}
use Rattle.theory.specs.Base.Along.{le}
use Rattle.theory.specs.Images.Head.{Head, head_bytes}
use Rattle.theory.specs.Images.Layout.{Good, are_bytes, array_split, array_bytes, layout, tight}
use Rattle.theory.specs.Images.Sectors.{LegalGeometry}
use Rattle.theory.specs.Storing.Grow.{lowest_append}
use Rattle.theory.specs.Storing.Fill.{array_over}
use Rattle.theory.specs.Moves.Copied.{empties, moved}
use Rattle.theory.specs.Storing.Ready.{empty_blank}
use Rattle.theory.specs.Images.Packing.{Lying, lying, sectors_fit, taken_by, takes}

-- ---- a packed descriptor
pub lowest_packed : (low : ℕ) (ds : List Descriptor) → lowest low (packed low ds) ≡ low - kept_size ds
unfolding blank kept_size lowest packed lower has_sector is_allocated is_pending is_current is_old
lowest_packed low [] = omega arith
lowest_packed low (d ∷ ds) = go (is_kept d) refl (lowest_packed (low - size d) ds) (lowest_packed low ds)
  where
    go : (k : Bool) → is_kept d ≡ k → lowest (low - size d) (packed (low - size d) ds) ≡ low - size d - kept_size ds → lowest low (packed low ds) ≡ low - kept_size ds
        → lowest low (elim k as (λ j. List Descriptor) [ true ↦ moved (low - size d) d ∷ packed (low - size d) ds | false ↦ blank ∷ packed low ds ]) ≡ low - (cond k (size d) 0 + kept_size ds)
    go true k h i = ap (λ (b : Bool). lowest (cond b (min low (low - size d)) low) (packed (low - size d) ds)) (kept_sector d k) ∙ ap (λ (n : ℕ). lowest n (packed (low - size d) ds)) least ∙ h ∙ sub
      where
        least : min low (low - size d) ≡ low - size d
        least = omega arith

        sub : low - size d - kept_size ds ≡ low - (size d + kept_size ds)
        sub = omega arith
    go false k h i = i ∙ sub
      where
        sub : low - kept_size ds ≡ low - (0 + kept_size ds)
        sub = omega arith

pub length_packed : (low : ℕ) (ds : List Descriptor) → length (packed low ds) ≡ length ds
unfolding packed
length_packed low [] = refl
length_packed low (d ∷ ds) = go (is_kept d) (length_packed (low - size d) ds) (length_packed low ds)
  where
    go : (k : Bool) → length (packed (low - size d) ds) ≡ length ds → length (packed low ds) ≡ length ds
        → length {A = Descriptor} (elim k as (λ j. List Descriptor) [ true ↦ moved (low - size d) d ∷ packed (low - size d) ds | false ↦ blank ∷ packed low ds ]) ≡ suc (length ds)
    go true h i = ap suc h
    go false h i = ap suc i

listed_packed : (low : ℕ) (ds : List Descriptor) → all is_listed (packed low ds) ≡ true
unfolding all packed is_listed has_sector is_allocated blank is_pending is_current is_old is_empty
listed_packed low [] = refl
listed_packed low (d ∷ ds) = go (is_kept d) refl (listed_packed (low - size d) ds) (listed_packed low ds)
  where
    go : (k : Bool) → is_kept d ≡ k → all is_listed (packed (low - size d) ds) ≡ true → all is_listed (packed low ds) ≡ true
        → all is_listed (elim k as (λ j. List Descriptor) [ true ↦ moved (low - size d) d ∷ packed (low - size d) ds | false ↦ blank ∷ packed low ds ]) ≡ true
    go true k h i = all_cons is_listed (moved (low - size d) d) (packed (low - size d) ds) (or_left _ (or_left _ (or_left _ (kept_sector d k)))) h
    go false k h i = i

placed_packed : (g : Geometry) (floor from low : ℕ) (ds : List Descriptor) → floor + kept_size ds ≤ low → low ≤ g.size → low % 2 ≡ 0 → all (is_placed g from) ds ≡ true
    → all (is_placed g floor) (packed low ds) ≡ true
unfolding all packed is_placed has_sector is_allocated blank is_pending is_current is_old size lies is_tagged is_data is_mark is_transaction kept_size
placed_packed g floor from low [] l m e h = refl
placed_packed g floor from low (d ∷ ds) l m e h =
    go (is_kept d) refl l
    (λ a. placed_packed g floor from (low - size d) ds a.0 (omega arith) a.1 (all_uncons (is_placed g from) d ds h).1)
    (λ a. placed_packed g floor from low ds a m e (all_uncons (is_placed g from) d ds h).1)
  where
    go : (k : Bool) → is_kept d ≡ k → floor + (cond k (size d) 0 + kept_size ds) ≤ low
        → ((floor + kept_size ds ≤ low - size d) × ((low - size d) % 2 ≡ 0) → all (is_placed g floor) (packed (low - size d) ds) ≡ true)
        → (floor + kept_size ds ≤ low → all (is_placed g floor) (packed low ds) ≡ true)
        → all (is_placed g floor) (elim k as (λ j. List Descriptor) [ true ↦ moved (low - size d) d ∷ packed (low - size d) ds | false ↦ blank ∷ packed low ds ]) ≡ true
    go true k q f i =
        all_cons (is_placed g floor) (moved (low - size d) d) (packed (low - size d) ds)
        (or_right (not (has_sector d)) (both (both (both (ap (λ (n : ℕ). eqb n 0) even') (leb_of floor (low - size d) (omega arith))) (leb_of (low - size d + size d) g.size (omega arith))) L.tagged))
        (f (omega arith, even'))
      where
        L : Lying g from d
        L = lying g from d (all_uncons (is_placed g from) d ds h).0 (kept_sector d k)

        evens : (a b : ℕ) → a % 2 ≡ 0 → (a - (b + b % 2)) % 2 ≡ 0
        evens a b z = omega arith

        even' : (low - size d) % 2 ≡ 0
        even' = evens low d.len e
    go false k q f i = i (omega arith)

-- all later ones end at or below the place of the earlier
abbrev EndsBelow : ℕ → List Descriptor → Type 0
EndsBelow m [] = Unit {0}
EndsBelow m (x ∷ xs) = (has_sector x ≡ true → x.offset + size x ≤ m) × EndsBelow m xs

ends_less : (m n : ℕ) (ds : List Descriptor) → m ≤ n → EndsBelow m ds → EndsBelow n ds
ends_less m n [] l e = tt
ends_less m n (d ∷ ds) l e = ((λ s. omega (arith, e.0 s)), ends_less m n ds l e.1)

ends_packed : (low : ℕ) (ds : List Descriptor) → kept_size ds ≤ low → EndsBelow low (packed low ds)
unfolding packed has_sector is_allocated blank is_pending is_current is_old size kept_size
ends_packed low [] l = tt
ends_packed low (d ∷ ds) l = go (is_kept d) l (λ m. ends_packed (low - size d) ds m) (λ m. ends_packed low ds m)
  where
    go : (k : Bool) → cond k (size d) 0 + kept_size ds ≤ low → (kept_size ds ≤ low - size d → EndsBelow (low - size d) (packed (low - size d) ds)) → (kept_size ds ≤ low → EndsBelow low (packed low ds))
        → EndsBelow low (elim k as (λ j. List Descriptor) [ true ↦ moved (low - size d) d ∷ packed (low - size d) ds | false ↦ blank ∷ packed low ds ])
    go true q f i = ((λ s. omega arith), ends_less (low - size d) low (packed (low - size d) ds) (omega arith) (f (omega arith)))
    go false q f i = ((λ s. true_false false s refl), i (omega arith))

apart_ends : (d : Descriptor) (ds : List Descriptor) → EndsBelow d.offset ds → all (apart d) ds ≡ true
unfolding all disjoint apart
apart_ends d [] e = refl
apart_ends d (x ∷ xs) e = all_cons (apart d) x xs (go (has_sector d) (has_sector x) e.0) (apart_ends d xs e.1)
  where
    go : (s t : Bool) → (t ≡ true → x.offset + size x ≤ d.offset) → not s || not t || disjoint d x ≡ true
    go false t h = refl
    go true false h = refl
    go true true h = or_last (eqb (size d) 0) (eqb (size x) 0) (leb (d.offset + size d) x.offset) (leb_of (x.offset + size x) d.offset (h refl))

apart_packed : (low : ℕ) (ds : List Descriptor) → kept_size ds ≤ low → all_apart (packed low ds) ≡ true
unfolding all_apart packed apart has_sector is_allocated blank is_pending is_current is_old kept_size
apart_packed low [] l = refl
apart_packed low (d ∷ ds) l = go (is_kept d) l (λ m. apart_packed (low - size d) ds m) (λ m. apart_packed low ds m)
  where
    blanks' : (xs : List Descriptor) → all (apart blank) xs ≡ true
    blanks' xs = all_yes (apart blank) (λ x. refl) xs

    go : (k : Bool) → cond k (size d) 0 + kept_size ds ≤ low → (kept_size ds ≤ low - size d → all_apart (packed (low - size d) ds) ≡ true) → (kept_size ds ≤ low → all_apart (packed low ds) ≡ true)
        → all_apart (elim k as (λ j. List Descriptor) [ true ↦ moved (low - size d) d ∷ packed (low - size d) ds | false ↦ blank ∷ packed low ds ]) ≡ true
    go true q f i =
        ap (λ (b : Bool). elim b as (λ j. Bool) [ true ↦ all_apart (packed (low - size d) ds) | false ↦ false ]) (apart_ends (moved (low - size d) d) (packed (low - size d) ds) (ends_packed (low - size d) ds (omega arith)))
        ∙ f (omega arith)
    go false q f i = ap (λ (b : Bool). elim b as (λ j. Bool) [ true ↦ all_apart (packed low ds) | false ↦ false ]) (blanks' (packed low ds)) ∙ i (omega arith)

-- ---- up to the last that is not empty
pub record Trimmed (es : List Descriptor) : Type 0 where
  pub rest : List Descriptor
  pub whole : es ≡ trim es ++ rest
  pub blanks : rest ≡ replicate (length rest) blank

pub trimmed : (es : List Descriptor) → Trimmed es
unfolding trim
trimmed [] = record { rest = []; whole = refl; blanks = refl }
trimmed (d ∷ es) = go (trim es) refl (trimmed es)
  where
    go : (t : List Descriptor) → trim es ≡ t → Trimmed es → Trimmed (d ∷ es)
    go (c ∷ cs) q r =
        record {
          rest = r.rest;
          whole = ap {B = List Descriptor} (λ (l : List Descriptor). d ∷ l) r.whole ∙ ap (λ (l : List Descriptor). d ∷ (l ++ r.rest)) q ∙ sym (ap (λ (l : List Descriptor). (elim l as (λ j. List Descriptor) [ [] ↦ cond (is_empty d) [] (d ∷ []) | e ∷ es ↦ d ∷ (e ∷ es) ]) ++ r.rest) q);
          blanks = r.blanks;
        }
    go [] q r = last (is_empty d) refl
      where
        all_rest : es ≡ r.rest
        all_rest = r.whole ∙ ap (λ (l : List Descriptor). l ++ r.rest) q

        shape : (l : List Descriptor) → trim es ≡ l → List Descriptor
        shape l e = l

        last : (b : Bool) → is_empty d ≡ b → Trimmed (d ∷ es)
        last true e =
            record {
              rest = d ∷ r.rest;
              whole = ap {B = List Descriptor} (λ (l : List Descriptor). d ∷ l) all_rest ∙ sym (λ i. (elim (q i) as (λ j. List Descriptor) [ [] ↦ cond (e i) [] (d ∷ []) | e ∷ es ↦ d ∷ (e ∷ es) ]) ++ d ∷ r.rest);
              blanks = λ i. empty_blank d e i ∷ r.blanks i;
            }
        last false e =
            record {
              rest = r.rest;
              whole = ap {B = List Descriptor} (λ (l : List Descriptor). d ∷ l) all_rest ∙ sym (λ i. (elim (q i) as (λ j. List Descriptor) [ [] ↦ cond (e i) [] (d ∷ []) | e ∷ es ↦ d ∷ (e ∷ es) ]) ++ r.rest);
              blanks = r.blanks;
            }

pub tight_trim : (es : List Descriptor) → tight (trim es) ≡ true
unfolding trim
tight_trim [] = refl
tight_trim (d ∷ es) = go (trim es) refl (tight_trim es)
  where
    shape : List Descriptor → List Descriptor
    shape l = elim l as (λ j. List Descriptor) [ [] ↦ cond (is_empty d) [] (d ∷ []) | e ∷ es ↦ d ∷ (e ∷ es) ]

    go : (t : List Descriptor) → trim es ≡ t → tight (trim es) ≡ true → tight (trim (d ∷ es)) ≡ true
    go (c ∷ cs) q h = ap (λ (l : List Descriptor). tight (shape l)) q ∙ sym (ap tight q) ∙ h
    go [] q h = ap (λ (l : List Descriptor). tight (shape l)) q ∙ last (is_empty d) refl
      where
        last : (b : Bool) → is_empty d ≡ b → tight (cond b [] (d ∷ [])) ≡ true
        last true e = refl
        last false e = ap not e

apart_front : (xs ys : List Descriptor) → all_apart (xs ++ ys) ≡ true → all_apart xs ≡ true
unfolding all_apart
apart_front [] ys h = refl
apart_front (x ∷ xs) ys h = let r = parts (all (apart x) (xs ++ ys)) h in ap (λ (b : Bool). elim b as (λ j. Bool) [ true ↦ all_apart xs | false ↦ false ]) (all_front (apart x) xs ys r.0) ∙ apart_front xs ys r.1
  where
    parts : (b : Bool) → (elim b as (λ j. Bool) [ true ↦ all_apart (xs ++ ys) | false ↦ false ]) ≡ true → (b ≡ true) × (all_apart (xs ++ ys) ≡ true)
    parts true q = (refl, q)
    parts false q = true_false false q refl

lowest_blanks : (low k : ℕ) → lowest low (replicate k blank) ≡ low
unfolding lowest lower has_sector is_allocated blank is_pending is_current is_old
lowest_blanks low zero = refl
lowest_blanks low (suc k) = lowest_blanks low k

-- ---- the copy's parts are good
module _ (g : Geometry) (sh : LegalGeometry g) (ds : List Descriptor) (free : ℕ) (rest : Bytes) (h : Good g ds free rest) where
  kept_taken : (xs : List Descriptor) → kept_size xs ≤ taken_by xs
  unfolding kept_size
  kept_taken [] = omega arith
  kept_taken (x ∷ xs) = go (is_kept x) refl (kept_taken xs)
    where
      go : (k : Bool) → is_kept x ≡ k → kept_size xs ≤ taken_by xs → cond k (size x) 0 + kept_size xs ≤ takes x + taken_by xs
      go false e l = omega (arith, l)
      go true e l = subst (λ (b : Bool). size x + kept_size xs ≤ cond b (size x) 0 + taken_by xs) (sym (kept_sector x e)) (omega (arith, l))

  -- all that is kept fits above the array
  pub kept_fits : stands (length ds) + kept_size ds ≤ g.size
  kept_fits = omega (arith, kept_taken ds, sectors_fit g (stands (length ds)) ds (omega (arith, h.fills)) h.sectors h.clear)

  abbrev pub packed_array : List Descriptor
  packed_array = trim (packed g.size ds)

  T : Trimmed (packed g.size ds)
  T = trimmed (packed g.size ds)

  pub packed_shorter : length packed_array ≤ length ds
  packed_shorter = omega (arith, ap length T.whole, length-append packed_array T.rest, length_packed g.size ds)

  abbrev pub packed_gap : ℕ
  packed_gap = g.size - kept_size ds - stands (length packed_array)

  pub packed_good : (r : Bytes) → length r ≡ kept_size ds → are_bytes r ≡ true → Good g packed_array packed_gap r
  unfolding stands
  packed_good r len b =
      record {
        low = sym (lowest_blanks (lowest g.size packed_array) (length T.rest)) ∙ ap (lowest (lowest g.size packed_array)) (sym T.blanks) ∙ sym (lowest_append g.size packed_array T.rest) ∙ ap (lowest g.size) (sym T.whole) ∙ lowest_packed g.size ds ∙ down;
        fills = omega (arith, len, kept_fits, packed_shorter);
        ends = tight_trim (packed g.size ds);
        listed = all_front is_listed packed_array T.rest (subst (λ (l : List Descriptor). all is_listed l ≡ true) T.whole (listed_packed g.size ds));
        sectors = all_front (is_placed g (stands (length packed_array))) packed_array T.rest
            (subst (λ (l : List Descriptor). all (is_placed g (stands (length packed_array))) l ≡ true) T.whole
            (placed_packed g (stands (length packed_array)) (stands (length ds)) g.size ds (omega (arith, kept_fits, packed_shorter)) (omega arith) (even_size_lem sh.right) h.sectors));
        clear = apart_front packed_array T.rest (subst (λ (l : List Descriptor). all_apart l ≡ true) T.whole (apart_packed g.size ds (omega (arith, kept_fits))));
        bytes = b;
      }
    where
      down : g.size - kept_size ds ≡ stands (length packed_array) + packed_gap
      down = omega (arith, kept_fits, packed_shorter)

  -- the trailing blanks are part of the gap
  pub trim_layout : (L st : ℕ) (head : Head) (r : Bytes) → layout L st head (packed g.size ds) (g.size - stands (length ds) - kept_size ds) r ≡ layout L st head packed_array packed_gap r
  unfolding blank stands
  trim_layout L st head r =
      ap (λ (l : List Descriptor). layout L st head l (g.size - stands (length ds) - kept_size ds) r) (T.whole ∙ ap (λ (l : List Descriptor). packed_array ++ l) T.blanks)
      ∙ ap (λ (x : Bytes). le L (le st (head_bytes head x))) (array_split packed_array (replicate (length T.rest) blank) (replicate (g.size - stands (length ds) - kept_size ds) 255 ++ r)
      ∙ ap (λ (x : Bytes). array_bytes packed_array [] ++ x) (empties (length T.rest) (replicate (g.size - stands (length ds) - kept_size ds) 255 ++ r)
      ∙ sym (append_assoc (replicate (8 * length T.rest) 255) (replicate (g.size - stands (length ds) - kept_size ds) 255) r)
      ∙ ap (λ (x : Bytes). x ++ r) (replicate-append-replicate (8 * length T.rest) (g.size - stands (length ds) - kept_size ds) 255)
      ∙ ap (λ (n : ℕ). replicate n 255 ++ r) sum)
      ∙ sym (array_over packed_array (replicate packed_gap 255 ++ r)))
    where
      sum : 8 * length T.rest + (g.size - stands (length ds) - kept_size ds) ≡ packed_gap
      sum = omega (arith, kept_fits, ap length T.whole, length-append packed_array T.rest, length_packed g.size ds)
