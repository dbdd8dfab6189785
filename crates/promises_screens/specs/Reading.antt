-- What is read of an image at rest is its map's.
use Rattle.std.proofs.Math.Bool.{cond}
use Rattle.std.specs.Prelude.{false, [], ◌≡◌, ℕ, eqb}
use Rattle.std.proofs.Math.Option.{Option, some}
use Rattle.std.proofs.Common.{◌∙◌, sym}
use Rattle.std.proofs.Math.Path.{ap}
use Rattle.rules.specs.Answers.{content, number}
use Rattle.rules.specs.Calls.{is_bad_file, outcome, read}
use Rattle.rules.specs.Flash.{Bytes}
use Rattle.rules.specs.Histories.{Plain}
use Rattle.rules.specs.Plain.{bytes_in, content_by, is_absent_in, is_settled, plain_content, plain_number, seen, when_settled}
use Rattle.rules.specs.declared.Geometry.{Geometry}
use Rattle.promises.specs.Demands.{answers_plainly}
use Rattle.promises_screens.specs.Words.{ReadAlike, Rests, Same}

number_for : ℕ → Option Bytes → ℕ
number_for f x = cond (is_bad_file f) 5 (cond (is_absent_in x) 9 0)

content_for : ℕ → Option Bytes → Bytes
content_for f x = cond (eqb (number_for f x) 0) (bytes_in x) []

module _ (g : Geometry) {s : Bytes} {m : Plain} (r : Rests g s m) (f : ℕ) where
  in_number : plain_number m (seen g (read f) s) (read f) ≡ number_for f (m.files f)
  unfolding plain_number when_settled seen is_settled number_for
  in_number = λ i. cond (is_settled (r.settled i)) (cond (is_bad_file f) 5 (cond (is_absent_in (m.files f)) 9 0)) 4

  read_number : number (outcome g (read f) s).answer ≡ number_for f (m.files f)
  read_number = (answers_plainly g s m r.reached (read f)).0 ∙ in_number

  read_content : content (outcome g (read f) s) ≡ content_for f (m.files f)
  unfolding plain_content content_by content_for
  read_content = (answers_plainly g s m r.reached (read f)).1 ∙ ap (λ (n : ℕ). cond (eqb n 0) (bytes_in (m.files f)) []) in_number

pub read_alike : (g : Geometry) (s : Bytes) (h : Geometry) (u : Bytes) → Same g s h u → (f : ℕ) → ReadAlike g s h u f
read_alike g s h u w f =
    record {
      numbers = read_number g w.here.rests f ∙ ap (number_for f) same ∙ sym (read_number h w.there.rests f);
      contents = read_content g w.here.rests f ∙ ap (content_for f) same ∙ sym (read_content h w.there.rests f);
    }
  where
    same : w.here.store.files f ≡ w.there.store.files f
    same = w.here.same f ∙ sym (w.there.same f)

-- a file that is there is read with its content
pub read_there : (g : Geometry) {s : Bytes} {m : Plain} → Rests g s m → (f : ℕ) (x : Bytes) → is_bad_file f ≡ false → m.files f ≡ some x → (number (outcome g (read f) s).answer ≡ 0) × (content (outcome g (read f) s) ≡ x)
unfolding number_for content_for is_absent_in bytes_in
read_there g r f x b e =
    (read_number g r f ∙ (λ i. cond (b i) 5 (cond (is_absent_in (e i)) 9 0)), read_content g r f ∙ (λ i. cond (eqb (cond (b i) 5 (cond (is_absent_in (e i)) 9 0)) 0) (bytes_in (e i)) []))
