-- None, one or several: what a count tells as far as a rule asks.
use Rattle.std.specs.Prelude.{ℕ, zero, suc, ◌≡◌, refl, Bool, true, false, not, leb, eqb}
use Rattle.std.proofs.Common.{arith, sym, ne_eqb}
use Rattle.std.proofs.lemmas.Bool.{lt-leb}
use Rattle.counts.specs.declared.Few.{Few}
use Rattle.counts.specs.declared.Few.TheVariants.{Zero, One, Several}

abbrev pub is_none : Few → Bool
is_none Zero = true
is_none One = false
is_none Several = false

abbrev pub is_one : Few → Bool
is_one Zero = false
is_one One = true
is_one Several = false

abbrev pub is_several : Few → Bool
is_several Zero = false
is_several One = false
is_several Several = true

abbrev pub one_more : Few → Few
one_more Zero = One
one_more One = Several
one_more Several = Several

-- of a count
abbrev pub few : ℕ → Few
few zero = Zero
few (suc zero) = One
few (suc (suc n)) = Several

pub more_few : (n : ℕ) → one_more (few n) ≡ few (suc n)
more_few zero = refl
more_few (suc zero) = refl
more_few (suc (suc n)) = refl

pub few_none : (n : ℕ) → is_none (few n) ≡ eqb n 0
few_none zero = refl
few_none (suc zero) = refl
few_none (suc (suc n)) = sym (ne_eqb (suc (suc n)) 0 (λ e. omega arith))

pub few_one : (n : ℕ) → is_one (few n) ≡ eqb n 1
few_one zero = refl
few_one (suc zero) = refl
few_one (suc (suc n)) = sym (ne_eqb (suc (suc n)) 1 (λ e. omega arith))

pub few_most : (n : ℕ) → not (is_several (few n)) ≡ leb n 1
few_most zero = refl
few_most (suc zero) = refl
few_most (suc (suc n)) = sym (lt-leb (suc (suc n)) 1 (omega arith))
