-- An image with one home in hand: one word of it programmed, and a sector's words written one after the other.
use Rattle.std.specs.Prelude.{false, true, ◌≡◌, refl, ◌*◌, ◌+◌, ◌-◌, suc, ℕ, eqb, get_or, replicate, set}
use mathlib.Core.List.{List, [], ◌++◌, ◌∷◌, append_assoc}
use Rattle.std.proofs.Common.{◌∙◌, ap₂, arith}
use Rattle.std.proofs.Math.Path.{ap, subst, sym}
use Rattle.std.specs.Int.Bits.{bit_and}
use Rattle.std.proofs.Math.ListN.{length, length-append, length-replicate}
use Rattle.rules.specs.Flash.{Bytes, finish, made, program, programs}
use Rattle.rules.specs.Lists.{all}
use Rattle.rules.specs.Settled.{Entry, is_spare}
use Rattle.rules.specs.Unit.{Descriptor, stands}
use Rattle.rules.specs.declared.Geometry.{Geometry}
use Rattle.laws.specs.Frames.{and_erased}
use Rattle.theory.specs.Base.Facts.{all_append, all_back, all_change, all_front}
use Rattle.theory.specs.Base.Along.{Along, le}
use Rattle.theory.specs.Images.Units.{join, program_unit}
use Rattle.theory.specs.Images.Head.{head_bytes, headed}
use Rattle.theory.specs.Images.Layout.{Good, array_bytes, is_byte, length_before}
use Rattle.theory.specs.Images.Sectors.{AllAbove, content_more}
use Rattle.theory.specs.Images.Model.{all_entries, home_entries, HomesStand, Is, LaidHome, Stands, is_up, laid, state_at, state_word}
use Rattle.theory.specs.Images.Turn.{homes_mid, relaid, relaid_spare}
use Rattle.theory.specs.Tidying.Held.{HeldEntries}
use Rattle.theory.specs.Storing.Grow.{rest_good}
use Rattle.theory.specs.Storing.Fill.{SmallWords, array_over, blanks, blanks_over, byte_word, snoc, words_bytes}

-- an image with home number length hs in hand
pub record Foc (g : Geometry) (hs bs : List LaidHome) (sp : ℕ) (q : LaidHome) (s : Bytes) : Type 0 where
  pub us : List Bytes
  pub image : s ≡ join us
  pub stands : Stands g us (hs ++ q ∷ bs) sp
  pub ups : all is_up (hs ++ q ∷ bs) ≡ true
  pub bare : is_spare (get_or us sp []) ≡ true

module _ (g : Geometry) (hs bs : List LaidHome) (sp : ℕ) where
  pub foc_held : (P : List Entry → Type 0) (q : LaidHome) (s : Bytes) → Foc g hs bs sp q s → P (all_entries g 0 (hs ++ q ∷ bs)) → HeldEntries g P s
  foc_held P q s f o = record { us = f.us; ps = hs ++ q ∷ bs; sp = sp; image = f.image; stands = f.stands; ups = f.ups; bare = f.bare; holds = o }

  -- one word of that home
  pub foc_step : (p q : LaidHome) (s : Bytes) → Foc g hs bs sp p s → q.phys ≡ p.phys → q.up ≡ p.up → q.head ≡ p.head → Good g q.array q.gap q.rest
      → (pre : Bytes) (w v : ℕ) (post : Bytes) → laid (0 + length hs) p ≡ pre ++ le w post → laid (0 + length hs) q ≡ pre ++ le (bit_and w v) post
      → (a : ℕ) → a ≡ p.phys * g.size + length pre → Foc g hs bs sp q (made (program a v) s)
  foc_step p q s f here same_up same_head good pre w v post old new a e =
      record {
        us = set f.us p.phys (laid (0 + length hs) q);
        image =
            ap₂ (λ (x : ℕ) (y : Bytes). made (program x v) y) e f.image
            ∙ program_unit g f.us p.phys pre w v post f.stands.sized mid.0.there (mid.0.bytes ∙ old)
            ∙ ap (λ (x : Bytes). join (set f.us p.phys x)) (sym new);
        stands = relaid g f.us hs bs p q sp f.stands here good head' mark';
        ups = all_change is_up hs p q bs same_up ∙ f.ups;
        bare = ap is_spare (relaid_spare g f.us hs bs p q sp f.stands here good head' mark') ∙ f.bare;
      }
    where
      mid : Is g f.us sp (0 + length hs) p × HomesStand g f.us sp (suc (0 + length hs)) bs
      mid = homes_mid g f.us sp 0 hs bs p f.stands.homes

      head' : headed q.head ≡ true
      head' = ap headed same_head ∙ mid.0.headed

      mark' : q.up ≡ false → eqb (state_at f.us sp) 0xFFFC ≡ false
      mark' e = mid.0.mark (sym same_up ∙ e)

  -- ---- the data words, at the upper end of what was the gap
  abbrev with_rest : LaidHome → Bytes → LaidHome
  with_rest p r = record { phys = p.phys; up = p.up; head = p.head; array = p.array; gap = p.gap; rest = r }

  head_of_lem : LaidHome → Bytes → Bytes
  head_of_lem p r = le (0 + length hs) (le (state_word p.up) (head_bytes p.head (array_bytes p.array [] ++ (replicate p.gap 255 ++ r))))

  laid_head : (p : LaidHome) (a b : Bytes) → laid (0 + length hs) (with_rest p (a ++ b)) ≡ head_of_lem p a ++ b
  unfolding head_of_lem
  laid_head p a b = ap (λ (x : Bytes). le (0 + length hs) (le (state_word p.up) (head_bytes p.head x)))
      (array_over p.array (replicate p.gap 255 ++ (a ++ b))
      ∙ ap (λ (x : Bytes). array_bytes p.array [] ++ x) (sym (append_assoc (replicate p.gap 255) a b))
      ∙ sym (append_assoc (array_bytes p.array []) (replicate p.gap 255 ++ a) b))

  head_length : (p : LaidHome) (r : Bytes) → length (head_of_lem p r) ≡ stands (length p.array) + p.gap + length r
  unfolding head_of_lem
  head_length p r = omega (arith, length-append (array_bytes p.array []) (replicate p.gap 255 ++ r), length-append (replicate p.gap 255) r, length-replicate {A = ℕ} p.gap 255, length_before 0 0 p.head p.array)

  pub data_walk : (P : List Entry → Type 0) (p : LaidHome) (ws r t : Bytes) (s : Bytes) (a : ℕ) → Foc g hs bs sp (with_rest p (r ++ blanks (length ws) t)) s → Good g p.array p.gap (r ++ blanks (length ws) t)
      → ((x : Bytes) → P (all_entries g 0 (hs ++ with_rest p (x ++ t) ∷ bs))) → SmallWords ws → a ≡ p.phys * g.size + (stands (length p.array) + p.gap + length r)
      → Along (HeldEntries g P) s (programs a ws) × Foc g hs bs sp (with_rest p (r ++ words_bytes ws t)) (finish (programs a ws) s)
  unfolding programs finish
  data_walk P p [] r t s a f free o sm e = (foc_held P (with_rest p (r ++ t)) s f (o r), f)
  data_walk P p (w ∷ ws) r t s a f free o sm e =
      let rest = data_walk P p ws (r ++ le w []) t (made (program a w) s) (a + 2) next' good' o sm.1 (omega (arith, e, length-append r (le w []))) in (
        (foc_held P (with_rest p (r ++ le 0xFFFF (blanks (length ws) t))) s f (subst (λ (x : Bytes). P (all_entries g 0 (hs ++ with_rest p x ∷ bs))) (append_assoc r (le 0xFFFF (blanks (length ws) [])) t ∙ ap (λ (x : Bytes). r ++ le 0xFFFF x) (sym (blanks_over (length ws) t))) (o (r ++ le 0xFFFF (blanks (length ws) [])))), rest.0),
        subst (λ (x : Bytes). Foc g hs bs sp (with_rest p x) (finish (programs (a + 2) ws) (made (program a w) s))) (sym (snoc r w (words_bytes ws t))) rest.1,
      )
    where
      B : Bytes
      B = blanks (length ws) t

      good0 : Good g p.array p.gap (r ++ le w (blanks (length ws) t))
      good0 = rest_good g p.array p.gap (r ++ le 0xFFFF (blanks (length ws) t)) (r ++ le w (blanks (length ws) t)) (length-append r (le w B) ∙ sym (length-append r (le 0xFFFF B)))
          (all_append is_byte r (le w B) (all_front is_byte r (le 0xFFFF B) free.bytes) (byte_word w B sm.0 (all_back is_byte (255 ∷ 255 ∷ []) B (all_back is_byte r (le 0xFFFF B) free.bytes)))) free

      good' : Good g p.array p.gap ((r ++ le w []) ++ blanks (length ws) t)
      good' = subst (λ (x : Bytes). Good g p.array p.gap x) (snoc r w (blanks (length ws) t)) good0

      next' : Foc g hs bs sp (with_rest p ((r ++ le w []) ++ blanks (length ws) t)) (made (program a w) s)
      next' = subst (λ (x : Bytes). Foc g hs bs sp (with_rest p x) (made (program a w) s)) (snoc r w (blanks (length ws) t))
          (foc_step (with_rest p (r ++ le 0xFFFF (blanks (length ws) t))) (with_rest p (r ++ le w (blanks (length ws) t))) s f refl refl refl good0
          (head_of_lem p r) 0xFFFF w (blanks (length ws) t) (laid_head p r (le 0xFFFF B)) (laid_head p r (le w B) ∙ ap (λ (x : ℕ). head_of_lem p r ++ le x (blanks (length ws) t)) (sym (and_erased w sm.0)))
          a (e ∙ ap (λ (x : ℕ). p.phys * g.size + x) (sym (head_length p r))))

-- more bytes below change no entry above them
pub entries_more : (g : Geometry) (L k : ℕ) (r t : Bytes) (i : ℕ) (ds : List Descriptor) → AllAbove (g.size - length t) ds → home_entries g L k (r ++ t) i ds ≡ home_entries g L k t i ds
entries_more g L k r t i [] a = refl
entries_more g L k r t i (d ∷ ds) a = λ j.
    record {
      at = record { unit = L; position = i };
      place = k * g.size + stands i;
      descriptor = d;
      start = k * g.size + d.offset;
      content = content_more g r t d a.0 j;
    }
    ∷ entries_more g L k r t (suc i) ds a.1 j
