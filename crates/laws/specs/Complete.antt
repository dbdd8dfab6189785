-- A copy's header stays erased: then it is complete if every byte from 4 on is the finished copy's.
use Rattle.std.specs.Prelude.{◌≡◌, refl, Bool, true, false, ◌&&◌, ◌||◌, [], ◌∷◌, ◌++◌, ℕ, zero, suc, ◌≤◌, eqb, length, take, drop, replicate}
use Rattle.std.proofs.Common.{sym, ap, ap₂, ◌∙◌, arith, eqb-true, length-drop, take-append-drop, drop-drop, length-take-le}
use Rattle.rules.specs.Flash.{Bytes, erased}
use Rattle.rules.specs.Unit.{header_bytes}
use Rattle.rules.specs.Copy.{copy_of, is_copyable}
use Rattle.rules.specs.Sound.{is_within, is_same, is_complete}
use Rattle.rules.specs.declared.Geometry.{Geometry}
use Rattle.laws.specs.Lists.{Every, every_all}

-- So many words of FF before r.
blanks : ℕ → Bytes → Bytes
blanks zero r = r
blanks (suc k) r = 255 ∷ (255 ∷ blanks k r)

double : ℕ → ℕ
double zero = zero
double (suc k) = suc (suc (double k))

-- Where the copy has k erased words, each of a unit's is FFFF or the copy's just if it is the same.
within_same : (k : ℕ) (a r : Bytes) → double k ≤ length a → is_same a (blanks k r) ≡ (is_within (take (double k) a) (blanks k r) && is_same (drop (double k) a) r)
unfolding blanks double is_same is_within
within_same zero a r h = refl
within_same (suc k) [] r h = absurd (omega arith)
within_same (suc k) (x ∷ []) r h = absurd (omega arith)
within_same (suc k) (x ∷ (y ∷ a)) r h = go (eqb x 255) (eqb y 255) (within_same k a r (omega arith))
  where
    go : (p q : Bool) → is_same a (blanks k r) ≡ (is_within (take (double k) a) (blanks k r) && is_same (drop (double k) a) r)
        → (elim p as (λ j. Bool) [ true ↦ elim q as (λ j. Bool) [ true ↦ is_same a (blanks k r) | false ↦ false ] | false ↦ false ])
        ≡ ((elim ((p && q) || (p && q)) as (λ j. Bool) [ true ↦ is_within (take (double k) a) (blanks k r) | false ↦ false ]) && is_same (drop (double k) a) r)
    go true true e = e
    go true false e = refl
    go false q e = refl

-- Erased bytes are all 255.
pub erased_is_lem : (s : Bytes) → erased s ≡ true → s ≡ replicate (length s) 255
unfolding erased
erased_is_lem s h = go s (every_all (eqb 255) s h)
  where
    go : (s : Bytes) → Every (λ (x : ℕ). eqb 255 x ≡ true) s → s ≡ replicate (length s) 255
    go [] k = refl
    go (x ∷ s) k = ap₂ {C = Bytes} (λ (a : ℕ) (b : Bytes). a ∷ b) (sym (eqb-true 255 x k.0)) (go s k.1)

-- Nothing is written behind the state: bytes 4-15 are erased. A finished copy's are, for nothing is due in its header.
abbrev pub is_plain : Bytes → Bool
is_plain u = erased (take 12 (drop 4 u))

-- The law, where the copy's header is plain.
pub complete_same : (g : Geometry) (L : ℕ) (from u : Bytes) → header_bytes ≤ length u → header_bytes ≤ length (copy_of g L from) → is_plain (copy_of g L from) ≡ true
    → is_complete g L from u ≡ (is_copyable g from && is_same (drop 4 u) (drop 4 (copy_of g L from)))
unfolding is_complete blanks double
complete_same g L from u l m h =
    ands (is_copyable g from) (is_within (take 12 (drop 4 u)) (drop 4 c)) (is_same (drop header_bytes u) (drop header_bytes c))
    ∙ ap (λ (b : Bool). is_copyable g from && b) (sym (ap (is_same (drop 4 u)) whole ∙ within_same 6 (drop 4 u) (drop header_bytes c) (omega (arith, length-drop 4 u))
    ∙ ap₂ (λ (x : Bytes) (y : Bytes). is_within (take 12 (drop 4 u)) x && is_same y (drop header_bytes c)) (sym whole) (drop-drop 12 4 u)))
  where
    c : Bytes
    c = copy_of g L from

    ands : (x y z : Bool) → (x && y && z) ≡ (x && (y && z))
    ands true y z = refl
    ands false y z = refl

    whole : drop 4 (copy_of g L from) ≡ blanks 6 (drop header_bytes (copy_of g L from))
    whole =
        sym (take-append-drop 12 (drop 4 (copy_of g L from)))
        ∙ ap₂ (λ (a b : Bytes). a ++ b) (erased_is_lem (take 12 (drop 4 (copy_of g L from))) h ∙ ap (λ (k : ℕ). replicate k 255) (length-take-le 12 (drop 4 (copy_of g L from)) (omega (arith, length-drop 4 (copy_of g L from)))))
        (drop-drop 12 4 (copy_of g L from))
