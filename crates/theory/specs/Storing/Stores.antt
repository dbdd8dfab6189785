-- A store into a unit that fits as it stands, up to its last step.
use Rattle.std.specs.Prelude.{◌&&◌, ◌||◌, true, ◌≡◌, refl, eqb, leb, drop, get_or, length, take}
use mathlib.Core.List.{List, [], ◌++◌, ◌∷◌}
use Rattle.std.proofs.Common.{◌∙◌, ap, sym, arith}
use Rattle.std.proofs.Math.Path.{subst}
use Prim.Native.Nat.{◌*◌, ◌+◌, ◌-◌, ◌/◌, ◌<◌, ◌≤◌, suc, ℕ}
use Rattle.std.proofs.Math.Seq.{split_at}
use Rattle.rules.specs.Flash.{Bytes, Step, finish, made, program, programs, words}
use Rattle.rules.specs.Jobs.{fits, size_for, vacant}
use Rattle.rules.specs.Lists.{all}
use Rattle.rules.specs.Settled.{Entry}
use Rattle.rules.specs.Unit.{data_tag, is_data, is_mark, is_tagged, is_torn, is_transaction, mark_tag, stands, transaction_tag}
use Rattle.rules.specs.declared.Geometry.{Geometry}
use Rattle.laws.specs.Runs.{finish_append}
use Rattle.theory.specs.Base.Facts.{both, leb_of, or_left}
use Rattle.theory.specs.Base.Along.{Along}
use Rattle.theory.specs.Images.Layout.{Good, are_bytes}
use Rattle.theory.specs.Images.Model.{all_entries, home_entries, LaidHome, Stands, entry_at, home_of, is_up, no_laid_home}
use Rattle.theory.specs.Images.Turn.{homes_mid}
use Rattle.theory.specs.Tidying.Sorted.{Quiet, sorted}
use Rattle.theory.specs.Tidying.Held.{HeldEntries}
use Rattle.theory.specs.Storing.Fill.{words_even, words_small, words_bytes}
use Rattle.theory.specs.Storing.Placed.{sum}
use Rattle.theory.specs.Storing.Focus.{Foc}
use Rattle.theory.specs.Storing.Store.{stored}
use Rattle.theory.specs.Storing.Ready.{ReadyAt, Writing, found}

-- what a write, a delete and a begin store
pub writing_data : (f : ℕ) (c : Bytes) → f < 256 → length c ≤ 256 → are_bytes c ≡ true → Writing (data_tag f) (length c) (words c)
unfolding data_tag is_tagged is_data
writing_data f c l m b =
    record {
      small_tag = omega arith;
      small_len = omega arith;
      tags = λ x o. or_left _ (both (ap (λ (n : ℕ). eqb n 16) tenth) (leb_of (length c) 256 m));
      words_are = words_even c;
      small_words = words_small c b;
    }
  where
    tenth : (4096 + f) / 256 ≡ 16
    tenth = omega arith

pub writing_mark : (f : ℕ) → f < 256 → Writing (mark_tag f) 0 []
unfolding mark_tag is_tagged is_data is_mark is_transaction transaction_tag
writing_mark f l =
    record {
      small_tag = omega arith;
      small_len = omega arith;
      tags = λ x o. ap (λ (n : ℕ). (eqb n 16 && leb 0 256) || ((eqb n 32 || eqb (8192 + f) 12288) && eqb 0 0)) twentieth;
      words_are = refl;
      small_words = tt;
    }
  where
    twentieth : (8192 + f) / 256 ≡ 32
    twentieth = omega arith

pub writing_transaction : Writing transaction_tag 0 []
unfolding transaction_tag is_tagged is_data is_mark is_transaction
writing_transaction = record { small_tag = omega arith; small_len = omega arith; tags = λ f o. refl; words_are = refl; small_words = tt }

-- ---- the place: home i
module _ (g : Geometry) (s : Bytes) (R : List Entry → Type 0) (h : HeldEntries g R s) (quiet : Quiet (sorted (all_entries g 0 h.ps))) (tag : ℕ) (c : Bytes) (w : Writing tag (length c) (words c)) (i : ℕ) (l : i < length h.ps)
    (fit : fits (size_for c) (home_of g i (get_or h.ps i no_laid_home)).room ≡ true) where
  abbrev pub p : LaidHome
  p = get_or h.ps i no_laid_home

  abbrev hs : List LaidHome
  hs = take i h.ps

  abbrev bs : List LaidHome
  bs = drop (suc i) h.ps

  pub whole : h.ps ≡ hs ++ p ∷ bs
  whole = split_at h.ps i no_laid_home l

  abbrev pub foc : Foc g hs bs h.sp p s
  foc = record {
    us = h.us;
    image = h.image;
    stands = subst (λ (x : List LaidHome). Stands g h.us x h.sp) whole h.stands;
    ups = ap (all is_up) (sym whole) ∙ h.ups;
    bare = h.bare;
  }

  pub good : Good g p.array p.gap p.rest
  good = (homes_mid g h.us h.sp 0 hs bs p foc.stands.homes).0.good

  pub found_here : ReadyAt g hs bs h.sp p tag (length c) (words c) w s foc good
  unfolding size_for
  found_here = found g hs bs h.sp p tag (length c) (words c) w s foc good fit

  abbrev pub front : List Entry
  front = all_entries g 0 hs ++ home_entries g (0 + length hs) p.phys p.rest 0 found_here.xs

  abbrev pub back : List Entry
  back = home_entries g (0 + length hs) p.phys p.rest (suc (0 + length found_here.xs)) found_here.ys ++ all_entries g (suc (0 + length hs)) bs

  abbrev pub where' : ℕ
  where' = stands (length p.array) + p.gap - size_for c

  -- the new entry
  abbrev pub new : Entry
  new = entry_at g (0 + length hs) p.phys (words_bytes (words c) p.rest) (0 + length found_here.xs) (record { flags = 0xFFFC; offset = where'; len = length c; tag = tag })

  -- the steps that fill it in, but for the last
  abbrev pub at' : ℕ
  at' = p.phys * g.size + stands (vacant p.array)

  abbrev pub most_filling : List Step
  most_filling = program (at' + 6) tag ∷ (program (at' + 4) (length c) ∷ (program (at' + 2) where' ∷ (program at' 0xFFFE ∷ programs (p.phys * g.size + where') (words c))))

  abbrev pub last_step : Step
  last_step = program at' 0xFFFC

  abbrev pub filling : List Step
  filling = most_filling ++ last_step ∷ []

  -- the entries before, by those on either side of the new one
  pub before_lists : sorted (all_entries g 0 h.ps) ≡ sum front back
  before_lists = ap (λ (x : List LaidHome). sorted (all_entries g 0 x)) whole ∙ found_here.lists

  pub quiet_sum : Quiet (sum front back)
  quiet_sum = subst Quiet before_lists quiet

  pub along_most : (P : List Entry → Type 0) → ((x : Entry) → x.descriptor.flags ≡ 0xFFFF → is_torn x.descriptor ≡ true → P (front ++ x ∷ back)) → ((x : Entry) → x.descriptor.flags ≡ 0xFFFE → P (front ++ x ∷ back))
      → HeldEntries g P s → Along (HeldEntries g P) s most_filling × HeldEntries g (λ x. x ≡ front ++ new ∷ back) (finish filling s)
  unfolding size_for finish
  along_most P pt pa now =
      let r = subst (λ (n : ℕ). Along (HeldEntries g P) s (most n) × HeldEntries g (λ x. x ≡ front ++ new ∷ back) (made (program (p.phys * g.size + stands n) 0xFFFC) (finish (most n) s))) found_here.pos
      (stored g hs bs h.sp p found_here.xs found_here.ys found_here.free tag (length c) where' (words c) P pt pa s now found_here.ready) in
      (r.0, subst (HeldEntries g (λ x. x ≡ front ++ new ∷ back)) (sym (finish_append most_filling (last_step ∷ []) s)) r.1)
    where
      most : ℕ → List Step
      most n = let a = p.phys * g.size + stands n in program (a + 6) tag ∷ (program (a + 4) (length c) ∷ (program (a + 2) where' ∷ (program a 0xFFFE ∷ programs (p.phys * g.size + where') (words c))))
