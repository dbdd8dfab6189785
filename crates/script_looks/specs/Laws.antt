-- The parts of these answers, one by one.
use Rattle.std.specs.Prelude.{◌≡◌, refl, true, false, cond, [], ◌∷◌, ◌++◌, Bool, ℕ, suc, ◌+◌, ◌≤◌, ◌<◌, eqb, length, get_or, drop}
use Rattle.std.proofs.Common.{sym, ◌∙◌, append_assoc, append-nil, add-one, arith, drop_of_length-le, drop-cons, length-append, ne_eqb}
use Rattle.rules.specs.Flash.{Bytes, is_geometry}
use Rattle.rules.specs.Text.{text, lf}
use Rattle.rules.specs.declared.Geometry.{Geometry}
use Rattle.judge.specs.declared.Look.{Look}
use Rattle.judge.specs.Judged.{LookTells}
use Rattle.script_looks.specs.Looked.{said, verdict_when, verdict, piece, joined}

-- ---- a verdict
module _ (g : Geometry) (s : Bytes) where
  pub verdict_none : is_geometry g (length s) ≡ false → said "bad-geometry" ≡ verdict g s
  unfolding verdict
  verdict_none e = rw e

  pub verdict_some : (look : Look) → LookTells g s look → verdict_when look.standing ≡ verdict g s
  unfolding verdict
  verdict_some look j = rw (j.geometry, j.standing)

-- ---- lines joined
-- A byte behind which others follow; and such bytes.
unfoldable pub between : ℕ → Bytes
between c = cond (eqb c lf) (text " | ") (c ∷ [])

unfoldable pub front_of : Bytes → Bytes
front_of [] = []
front_of (c ∷ s) = between c ++ front_of s

pub between_short : (c : ℕ) → length (between c) ≤ 3
unfolding between text
between_short c = go (eqb c lf)
  where
    go : (b : Bool) → length (cond b (text " | ") (c ∷ [])) ≤ 3
    go true = omega arith
    go false = omega arith

pub joined_none : (s : Bytes) → length s ≡ 0 → [] ≡ joined s
unfolding joined
joined_none [] e = refl
joined_none (c ∷ s) e = absurd (omega arith)

joined_last : (s : Bytes) (b : ℕ) → joined (s ++ (b ∷ [])) ≡ front_of s ++ (b ∷ [])
unfolding joined piece front_of between
joined_last [] b = refl
joined_last (c ∷ s) b =
    let n : eqb (length (s ++ (b ∷ []))) 0 ≡ false = ne_eqb (length (s ++ (b ∷ []))) 0 (λ z. omega (arith, length-append s (b ∷ []))) in
    rw (n, joined_last s b) (sym (append_assoc (cond (eqb c lf) (text " | ") (c ∷ [])) (front_of s) (b ∷ [])))

-- One byte more.
pub front_turn : (out s : Bytes) (i : ℕ) → i < length s → (out ++ between (get_or s i 0)) ++ front_of (drop (i + 1) s) ≡ out ++ front_of (drop i s)
unfolding front_of between
front_turn out s i l =
    let e : front_of (drop i s) ≡ between (get_or s i 0) ++ front_of (drop (suc i) s) = rw (drop-cons s i 0 l, front_of) refl in
    rw (add-one i, e) (append_assoc out (between (get_or s i 0)) (front_of (drop (suc i) s)))

pub front_end : (init out s : Bytes) (i b : ℕ) → length s ≤ i → out ++ front_of (drop i s) ≡ init ++ front_of s → out ++ (b ∷ []) ≡ init ++ joined (s ++ (b ∷ []))
unfolding front_of
front_end init out s i b l h =
    let e : out ≡ init ++ front_of s = sym (append-nil out) ∙ rw (drop_of_length-le s l, front_of) at h in
    rw (joined_last s b, e) (append_assoc init (front_of s) (b ∷ []))
