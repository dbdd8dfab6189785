-- Runs of flag changes on the places of descriptors, and that they are the reader's, on entries.
use Rattle.std.specs.Prelude.{◌≡◌, refl, List, [], ◌∷◌, ℕ, ◌<◌, length, get_or}
use Rattle.std.proofs.Common.{ap}
use Rattle.rules.specs.Flash.{Step, program}
use Rattle.rules.specs.Settled.{Entry}
use Rattle.rules.specs.Jobs.{become}
use Rattle.unit.specs.Spots.{places}
pub use Rattle.unit.specs.Spots.{Spot, SpotIf}
unfoldable pub use Rattle.unit.specs.Spots.{one_at}

-- so at each of some places
abbrev pub AllSpots : ℕ → List ℕ → Type 0
AllSpots bytes ps = (i : ℕ) → i < length ps → Spot bytes (get_or ps i 0)

unfoldable pub become_at : ℕ → List ℕ → List Step
become_at f [] = []
become_at f (p ∷ ps) = program p f ∷ become_at f ps

pub become_is : (f : ℕ) (es : List Entry) → become f es ≡ become_at f (places es)
unfolding become become_at places
become_is f [] = refl
become_is f (e ∷ es) = ap {B = List Step} (λ l. program e.place f ∷ l) (become_is f es)
