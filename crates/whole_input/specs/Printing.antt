-- What a program adds to its output, which prints a text of the first bytes of its input, where those print as the whole does.
use Rattle.std.specs.Prelude.{◌≡◌, List, ℕ, take, None, Some, Ok, Err, IfSome, OnOk}
use Rattle.std.specs.Io.KnownBytes.{Appends}
use Rattle.std.proofs.Common.{ap, ◌∙◌, subst}
use Rattle.std.specs.declared.option.Option.{Option}
use Rattle.std.specs.declared.result.Result.{Result}

module _ (text : List ℕ → List ℕ) (most : ℕ) (cut : (s : List ℕ) → text (take most s) ≡ text s) where
  pub prints : {A E : Type 0} (r : Result A E) (known old new : Option (List ℕ)) {read written : List ℕ}
      → IfSome known (λ s. read ≡ take most s) → written ≡ text read → OnOk r (Appends old new written) → OnOk r (IfSome known (λ s. Appends old new (text s)))
  prints (Err e) known old new h w a = a
  prints (Ok x) None old new h w a = h
  prints (Ok x) (Some s) old new h w a = subst (Appends old new) (w ∙ ap text h ∙ cut s) a
