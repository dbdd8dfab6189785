-- One history, and of each of its calls what it answers: its number, and where it came from.
use Rattle.std.specs.Prelude.{Bool, true, false, List, [], ◌∷◌, ◌≡◌, refl, ℕ, T, eqb, replicate}
use Rattle.std.proofs.Common.{eqb→eq}
use Rattle.rules.specs.Opened.{opened}
use Rattle.rules.specs.Flash.{Bytes}
use Rattle.rules.specs.Answers.{from_number, given, number}
use Rattle.rules.specs.Calls.{Call, begin, commit, delete, format, outcome, read, read_open, write}
use Rattle.rules.specs.Histories.{Plain, follow, no_files}
use Rattle.rules.specs.Plain.{plain_from, plain_number, seen}
use Rattle.rules.specs.declared.Geometry.{Geometry}
use Rattle.rules.specs.declared.Rule.TheVariants.{Tightest}

abbrev pub small : Geometry
small = record { size = 512; units = 3 }

-- an allowance that is never used up
abbrev pub plenty : ℕ
plenty = 100000

abbrev pub abc : Bytes
abc = 0x61 ∷ 0x62 ∷ 0x63 ∷ []

-- a finished format of an erased image
abbrev pub start : Bytes
start = (outcome small (format plenty) (replicate 1536 255)).image

-- each call's number and where its answer came from, the calls made one after the other; and what the plain store gives
pub record Answered : Type 0 where
  pub number : ℕ
  pub from : ℕ

abbrev pub says : ℕ → ℕ → Answered
says n w = record { number = n; from = w }

abbrev pub said : Bytes → List Call → List Answered
said s [] = []
said s (c ∷ cs) = let o = outcome small c s in says (number o.answer) (from_number (given o.answer).from) ∷ said o.image cs

abbrev pub said_plainly : Bytes → Plain → List Call → List Answered
said_plainly s m [] = []
said_plainly s m (c ∷ cs) =
    let o = outcome small c s in
    says (plain_number m (seen small c s) c) (from_number (plain_from m (seen small c s) c)) ∷ said_plainly o.image (follow small c o m) cs

-- File 7 is written, deleted and written again in one transaction; in the next one it is deleted. File 8 was never there.
abbrev pub calls : List Call
calls =
    begin Tightest plenty ∷ write Tightest 7 abc plenty ∷ read_open 7 ∷ delete Tightest 7 plenty ∷ read_open 7 ∷ delete Tightest 7 plenty
    ∷ write Tightest 7 abc plenty ∷ commit plenty
    ∷ begin Tightest plenty ∷ read_open 7 ∷ read 7 ∷ read_open 8 ∷ delete Tightest 8 plenty ∷ delete Tightest 7 plenty ∷ read_open 7 ∷ read 7 ∷ []

abbrev pub answers : List Answered
answers =
    -- case C's file 7 read in its transaction: 2; deleted in the same: 9 with 2, of a read and of a delete
    says 0 0 ∷ says 0 0 ∷ says 0 2 ∷ says 0 0 ∷ says 9 2 ∷ says 9 2
    ∷ says 0 0 ∷ says 0 0
    -- committed, and a new transaction open: 1, and in the committed view 0; file 8: 9 with 1, of a read and of a delete
    ∷ says 0 0 ∷ says 0 1 ∷ says 0 0 ∷ says 9 1 ∷ says 9 1
    -- deleted in this transaction: 9 with 2; committed still
    ∷ says 0 0 ∷ says 9 2 ∷ says 0 0 ∷ []

-- Two lists of answers are the same: a row that does not hold is refused by this test in a fraction of the time that its two sides take.
abbrev are_same : List Answered → List Answered → Bool
are_same [] [] = true
are_same [] (y ∷ ys) = false
are_same (x ∷ xs) [] = false
are_same (x ∷ xs) (y ∷ ys) = elim (eqb x.number y.number) as (λ j. Bool) [ true ↦ elim (eqb x.from y.from) as (λ j. Bool) [ true ↦ are_same xs ys | false ↦ false ] | false ↦ false ]

pair : (x y : Answered) (xs ys : List Answered) (a b : Bool) → (T a → x.number ≡ y.number) → (T b → x.from ≡ y.from) → (T (are_same xs ys) → xs ≡ ys)
    → T (elim a as (λ j. Bool) [ true ↦ elim b as (λ j. Bool) [ true ↦ are_same xs ys | false ↦ false ] | false ↦ false ]) → (x ∷ xs) ≡ (y ∷ ys)
pair x y xs ys true true n w f h = λ i. says (n tt i) (w tt i) ∷ f h i
pair x y xs ys true false n w f h = absurd h
pair x y xs ys false b n w f h = absurd h

same : (xs ys : List Answered) → T (are_same xs ys) → xs ≡ ys
same [] [] h = refl
same [] (y ∷ ys) h = absurd h
same (x ∷ xs) [] h = absurd h
same (x ∷ xs) (y ∷ ys) h =
    pair x y xs ys (eqb x.number y.number) (eqb x.from y.from) (eqb→eq x.number y.number) (eqb→eq x.from y.from) (same xs ys) h

pub says_where : said start calls ≡ answers
unfolding opened
says_where = same (said start calls) answers tt

pub says_plainly : said_plainly start no_files calls ≡ answers
unfolding opened
says_plainly = same (said_plainly start no_files calls) answers tt
