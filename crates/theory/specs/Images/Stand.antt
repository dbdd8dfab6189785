-- What the standing of an image is, by its entries; turns of entries, and what holds along them.
use Rattle.std.specs.Prelude.{Bool, ◌&&◌, ◌||◌, cond, List, [], ◌++◌, ◌∷◌, ◌≡◌, refl, suc, ℕ, eqb, get_or}
use Rattle.std.proofs.Math.Bool.{false, true}
use Rattle.std.proofs.Common.{◌∙◌, sym, arith}
use Rattle.std.proofs.Math.Path.{ap}
use Rattle.std.specs.Int.Bits.{bit_and}
use Rattle.rules.specs.Flash.{Bytes, Step, program, word}
use Rattle.rules.specs.Lists.{all}
use Rattle.rules.specs.Settled.{Counts, Entry, counts, is_live, is_quiet, is_spare, is_still, physical, survey}
use Rattle.rules.specs.Sound.{is_committing, is_moving, is_unfinished, standing}
use Rattle.rules.specs.Unit.{has_sector, is_empty, is_listed, live}
use Rattle.rules.specs.declared.Geometry.{Geometry}
use Rattle.rules.specs.declared.Standing.{Standing}
use Rattle.rules.specs.declared.Standing.TheVariants.{Neither, Settled, Sound}
use Rattle.theory.specs.Base.Facts.{both}
use Rattle.theory.specs.Images.Units.{join}
use Rattle.theory.specs.Images.Layout.{layout, with_flags}
use Rattle.theory.specs.Images.Model.{all_entries, LaidHome, Stands, homes_of, housed_read, is_up, state_word, survey_read, the_survey}
use Rattle.theory.specs.Images.Turn.{set_e}

-- quiet, unfinished or committing: what an image's descriptors may be where no unit is moving
abbrev pub fine : Counts → Bool
fine c = is_quiet c || (is_unfinished c || is_committing c)

abbrev pub not_neither : Standing → Bool
not_neither Settled = true
not_neither Sound = true
not_neither Neither = false

-- sound, settled or not: mounting does not refuse it
abbrev pub Mountable : Geometry → Bytes → Type 0
Mountable g s = not_neither (standing g (survey g s)) ≡ true

-- the standing of what is housed
abbrev pub judge : Counts → Bool → Bool → Standing
judge c still m = elim (still && is_quiet c) as (λ j. Standing) [ true ↦ Settled | false ↦ cond ((still && (is_unfinished c || is_committing c)) || (is_quiet c && m)) Sound Neither ]

pub judge_fine : (c : Counts) (m : Bool) → fine c ≡ true → not_neither (judge c true m) ≡ true
judge_fine c m = go (is_quiet c) (is_unfinished c || is_committing c)
  where
    go : (q u : Bool) → q || u ≡ true → not_neither (elim (true && q) as (λ j. Standing) [ true ↦ Settled | false ↦ cond ((true && u) || (q && m)) Sound Neither ]) ≡ true
    go true u e = refl
    go false true e = refl
    go false false e = e

pub judge_moving : (c : Counts) (still m : Bool) → is_quiet c ≡ true → m ≡ true → not_neither (judge c still m) ≡ true
judge_moving c still m = go still (is_quiet c) (is_unfinished c || is_committing c) m
  where
    go : (e k u m : Bool) → k ≡ true → m ≡ true → not_neither (elim (e && k) as (λ j. Standing) [ true ↦ Settled | false ↦ cond ((e && u) || (k && m)) Sound Neither ]) ≡ true
    go true true u m a b = refl
    go true false true m a b = refl
    go true false false m a b = a
    go false true u true a b = refl
    go false true u false a b = b
    go false false u m a b = a

-- settled: quiet, all homes live and the spare wholly FF
pub judge_settled : (c : Counts) (still m : Bool) → judge c still m ≡ Settled → (still ≡ true) × (is_quiet c ≡ true)
judge_settled c still m = go still (is_quiet c) (is_unfinished c || is_committing c) m
  where
    mark : Standing → ℕ
    mark Settled = 0
    mark Sound = 1
    mark Neither = 1

    never : (u : Bool) → cond u Sound Neither ≡ Settled → ⊥
    never true e = omega (arith, ap mark e)
    never false e = omega (arith, ap mark e)

    go : (e k u m : Bool) → (elim (e && k) as (λ j. Standing) [ true ↦ Settled | false ↦ cond ((e && u) || (k && m)) Sound Neither ]) ≡ Settled → (e ≡ true) × (k ≡ true)
    go true true u m h = (refl, refl)
    go true false u m h = absurd (never (u || false) h)
    go false k u m h = absurd (never (k && m) h)

pub live_all : (g : Geometry) (L : ℕ) (ps : List LaidHome) → all is_live (homes_of g L ps) ≡ all is_up ps
unfolding is_live all word physical
live_all g L [] = refl
live_all g L (p ∷ ps) = go p.up refl (live_all g (suc L) ps)
  where
    go : (b : Bool) → p.up ≡ b → all is_live (homes_of g (suc L) ps) ≡ all is_up ps → all is_live (homes_of g L (p ∷ ps)) ≡ all is_up (p ∷ ps)
    go true e ih =
        (λ i. elim (eqb (word (layout L (state_word (e i)) p.head p.array p.gap p.rest) 2) live) as (λ j. Bool) [ true ↦ all is_live (homes_of g (suc L) ps) | false ↦ false ])
        ∙ ih
        ∙ sym (λ i. elim (e i) as (λ j. Bool) [ true ↦ all is_up ps | false ↦ false ])
    go false e ih =
        (λ i. elim (eqb (word (layout L (state_word (e i)) p.head p.array p.gap p.rest) 2) live) as (λ j. Bool) [ true ↦ all is_live (homes_of g (suc L) ps) | false ↦ false ])
        ∙ sym (λ i. elim (e i) as (λ j. Bool) [ true ↦ all is_up ps | false ↦ false ])

module _ (g : Geometry) (us : List Bytes) (ps : List LaidHome) (sp : ℕ) (st : Stands g us ps sp) where
  -- THE standing, by the parts
  pub stands_as : standing g (survey g (join us)) ≡ judge (counts (all_entries g 0 ps)) (all is_up ps && is_spare (get_or us sp [])) (is_moving g (homes_of g 0 ps) (the_survey g us ps sp st).spare)
  unfolding standing is_still physical
  stands_as =
      ap (standing g) (survey_read g us ps sp st)
      ∙ ap (λ (b : Bool). elim b as (λ j. Standing) [ false ↦ Neither | true ↦ judge c (all is_live (homes_of g 0 ps) && is_spare (get_or us sp [])) m ]) (housed_read g us ps sp st)
      ∙ ap (λ (b : Bool). judge c (b && is_spare (get_or us sp [])) m) (live_all g 0 ps)
    where
      c : Counts
      c = counts (all_entries g 0 ps)

      m : Bool
      m = is_moving g (homes_of g 0 ps) (the_survey g us ps sp st).spare

  pub is_settled_lem : standing g (survey g (join us)) ≡ Settled → (all is_up ps && is_spare (get_or us sp []) ≡ true) × (is_quiet (counts (all_entries g 0 ps)) ≡ true)
  is_settled_lem h = judge_settled (counts (all_entries g 0 ps)) _ _ (sym stands_as ∙ h)

  pub mountable : all is_up ps ≡ true → is_spare (get_or us sp []) ≡ true → fine (counts (all_entries g 0 ps)) ≡ true → Mountable g (join us)
  mountable up er h = ap not_neither (stands_as ∙ ap (λ (b : Bool). judge (counts (all_entries g 0 ps)) b m) (both up er)) ∙ judge_fine (counts (all_entries g 0 ps)) m h
    where
      m : Bool
      m = is_moving g (homes_of g 0 ps) (the_survey g us ps sp st).spare

-- ---- turns of entries
pub record Turnable (e : Entry) (v f : ℕ) : Type 0 where
  pub to : bit_and e.descriptor.flags v ≡ f
  pub like : has_sector (with_flags f e.descriptor) ≡ has_sector e.descriptor
  pub is : is_listed (with_flags f e.descriptor) ≡ true
  pub full : is_empty (with_flags f e.descriptor) ≡ false

-- a job that turns one entry after the other: P holds of the entries at each moment
pub data Turns (P : List Entry → Type 0) : List Entry → List Step → List Entry → Type 0 where
  stay : {es : List Entry} → P es → Turns P es [] es
  turning : {es fs : List Entry} {xs : List Step} (front : List Entry) (e : Entry) (back : List Entry) (v f : ℕ)
      → P es → es ≡ front ++ e ∷ back → Turnable e v f → Turns P (front ++ set_e f e ∷ back) xs fs → Turns P es (program e.place v ∷ xs) fs
