-- All steps of the copying made, from whatever words of the copy stand: the unit is the copy.
use Rattle.std.specs.Prelude.{Bool, ◌&&◌, ◌||◌, false, true, List, [], ◌++◌, ◌∷◌, ◌≡◌, refl, ◌%◌, ◌/◌, ◌<◌, suc, ℕ, eqb, drop, get_or, length, replicate}
use Rattle.std.proofs.Common.{◌∙◌, ap, ap₂, subst, subst₂, sym, arith}
use Rattle.rules.specs.Flash.{Bytes, Step, erase, finish, made, program}
use Rattle.rules.specs.Sound.{is_within}
use Rattle.theory.specs.Base.Facts.{and_l, and_r, eq_of, true_false}
use Rattle.theory.specs.Base.Along.{le, programmed}
use Rattle.theory.specs.Moves.Within.{Either, Even, Receiving, WritesCopy, either_and, still, there, writing, written}
use Rattle.theory.specs.Storing.Stores.{whole}

-- y is ahead of x on the way to the copy c: each word is erased in both, or c's in y alone, or c's in both
pub data Nearer : Bytes → Bytes → Bytes → Type 0 where
  at_end_lem : Nearer [] [] []
  none_there : {c x y : Bytes} (a b : ℕ) → Nearer c x y → Nearer (a ∷ (b ∷ c)) (255 ∷ (255 ∷ x)) (255 ∷ (255 ∷ y))
  one_there : {c x y : Bytes} (a b : ℕ) → Nearer c x y → Nearer (a ∷ (b ∷ c)) (255 ∷ (255 ∷ x)) (a ∷ (b ∷ y))
  both_there : {c x y : Bytes} (a b : ℕ) → Nearer c x y → Nearer (a ∷ (b ∷ c)) (a ∷ (b ∷ x)) (a ∷ (b ∷ y))

-- where x is the copy, y is
pub nearer_end : {c x y : Bytes} → Nearer c x y → x ≡ c → y ≡ c
nearer_end at_end_lem q = refl
nearer_end (none_there {c = c} {x = x} {y = y} a b n) q = λ i. ap (λ (l : Bytes). get_or l 0 0) q i ∷ (ap (λ (l : Bytes). get_or l 1 0) q i ∷ nearer_end n (ap (λ (l : Bytes). drop 2 l) q) i)
nearer_end (one_there a b n) q = ap (λ (l : Bytes). a ∷ (b ∷ l)) (nearer_end n (ap (λ (l : Bytes). drop 2 l) q))
nearer_end (both_there a b n) q = ap (λ (l : Bytes). a ∷ (b ∷ l)) (nearer_end n (ap (λ (l : Bytes). drop 2 l) q))

-- at the start x is erased
pub nearer_start : (c r : Bytes) → Even c → length r ≡ length c → is_within r c ≡ true → Nearer c (replicate (length c) 255) r
unfolding is_within
nearer_start [] [] e l h = at_end_lem
nearer_start [] (x ∷ r) e l h = absurd (let z : ⊥ = omega arith in z)
nearer_start (a ∷ []) r e l h = absurd e
nearer_start (a ∷ (b ∷ c)) [] e l h = absurd (let z : ⊥ = omega arith in z)
nearer_start (a ∷ (b ∷ c)) (x ∷ []) e l h = absurd (let z : ⊥ = omega arith in z)
nearer_start (a ∷ (b ∷ c)) (x ∷ (y ∷ r)) e l h = go (eqb x 255 && eqb y 255) (eqb x a && eqb y b) refl refl h (λ k. nearer_start c r e (omega arith) k)
  where
    R : Bytes
    R = replicate (length c) 255

    go : (s t : Bool) → eqb x 255 && eqb y 255 ≡ s → eqb x a && eqb y b ≡ t → (elim (s || t) as (λ j. Bool) [ true ↦ is_within r c | false ↦ false ]) ≡ true
        → (is_within r c ≡ true → Nearer c (replicate (length c) 255) r) → Nearer (a ∷ (b ∷ c)) (255 ∷ (255 ∷ replicate (length c) 255)) (x ∷ (y ∷ r))
    go true t p q k f =
        subst₂ (λ (u v : ℕ). Nearer (a ∷ (b ∷ c)) (255 ∷ (255 ∷ R)) (u ∷ (v ∷ r))) (sym (eq_of x 255 (and_l (eqb x 255) (eqb y 255) p))) (sym (eq_of y 255 (and_r (eqb x 255) (eqb y 255) p))) (none_there a b (f k))
    go false true p q k f =
        subst₂ (λ (u v : ℕ). Nearer (a ∷ (b ∷ c)) (255 ∷ (255 ∷ R)) (u ∷ (v ∷ r))) (sym (eq_of x a (and_l (eqb x a) (eqb y b) q))) (sym (eq_of y b (and_r (eqb x a) (eqb y b) q))) (one_there a b (f k))
    go false false p q k f = true_false false k refl

-- the first word of each
data FirstWords (x0 x1 a b : ℕ) : Type 0 where
  erased' : x0 ≡ 255 → x1 ≡ 255 → FirstWords x0 x1 a b
  copied' : x0 ≡ a → x1 ≡ b → FirstWords x0 x1 a b

record Split (a b : ℕ) (c x y : Bytes) : Type 0 where
  x0 : ℕ
  x1 : ℕ
  y0 : ℕ
  y1 : ℕ
  x' : Bytes
  y' : Bytes
  x_is : x ≡ x0 ∷ (x1 ∷ x')
  y_is : y ≡ y0 ∷ (y1 ∷ y')
  tail : Nearer c x' y'
  again : (X Y : Bytes) → Nearer c X Y → Nearer (a ∷ (b ∷ c)) (x0 ∷ (x1 ∷ X)) (y0 ∷ (y1 ∷ Y))
  x_first : FirstWords x0 x1 a b
  y_first : FirstWords y0 y1 a b

split : {a b : ℕ} {c x y : Bytes} → Nearer (a ∷ (b ∷ c)) x y → Split a b c x y
split (none_there {x = x} {y = y} a b n) =
    record { x0 = 255; x1 = 255; y0 = 255; y1 = 255; x' = x; y' = y; x_is = refl; y_is = refl; tail = n; again = λ X Y m. none_there a b m; x_first = erased' refl refl; y_first = erased' refl refl }
split (one_there {x = x} {y = y} a b n) =
    record { x0 = 255; x1 = 255; y0 = a; y1 = b; x' = x; y' = y; x_is = refl; y_is = refl; tail = n; again = λ X Y m. one_there a b m; x_first = erased' refl refl; y_first = copied' refl refl }
split (both_there {x = x} {y = y} a b n) =
    record { x0 = a; x1 = b; y0 = a; y1 = b; x' = x; y' = y; x_is = refl; y_is = refl; tail = n; again = λ X Y m. both_there a b m; x_first = copied' refl refl; y_first = copied' refl refl }

-- as a word
first_word : (x0 x1 v : ℕ) (r : Bytes) → FirstWords x0 x1 (v % 256) (v / 256) → (w : ℕ) × (x0 ∷ (x1 ∷ r) ≡ le w r) × Either w v
first_word x0 x1 v r (erased' p q) = (0xFFFF, (λ i. p i ∷ (q i ∷ r)), still refl)
first_word x0 x1 v r (copied' p q) = (v, (λ i. p i ∷ (q i ∷ r)), there refl)

-- one word of the copy, programmed in both
record WordInBoth (C1 : Bytes) (v : ℕ) (C2 x y : Bytes) : Type 0 where
  X1 : Bytes
  X2 : Bytes
  Y1 : Bytes
  Y2 : Bytes
  xw : ℕ
  yw : ℕ
  x_is : x ≡ X1 ++ le xw X2
  y_is : y ≡ Y1 ++ le yw Y2
  x_len : length X1 ≡ length C1
  y_len : length Y1 ≡ length C1
  x_which : Either xw v
  y_which : Either yw v
  after : Nearer (C1 ++ le v C2) (X1 ++ le v X2) (Y1 ++ le v Y2)

nearer_at : (C1 : Bytes) (v : ℕ) (C2 x y : Bytes) → Even C1 → Nearer (C1 ++ le v C2) x y → WordInBoth C1 v C2 x y
nearer_at [] v C2 x y ev n =
    record {
      X1 = [];
      X2 = s.x';
      Y1 = [];
      Y2 = s.y';
      xw = xs.0;
      yw = ys.0;
      x_is = s.x_is ∙ xs.1;
      y_is = s.y_is ∙ ys.1;
      x_len = refl;
      y_len = refl;
      x_which = xs.2;
      y_which = ys.2;
      after = both_there (v % 256) (v / 256) s.tail;
    }
  where
    s : Split (v % 256) (v / 256) C2 x y
    s = split n

    xs : (w : ℕ) × (s.x0 ∷ (s.x1 ∷ s.x') ≡ le w s.x') × Either w v
    xs = first_word s.x0 s.x1 v s.x' s.x_first

    ys : (w : ℕ) × (s.y0 ∷ (s.y1 ∷ s.y') ≡ le w s.y') × Either w v
    ys = first_word s.y0 s.y1 v s.y' s.y_first
nearer_at (a ∷ []) v C2 x y ev n = absurd ev
nearer_at (a ∷ (b ∷ C1)) v C2 x y ev n = go (split n) (λ X Y m. nearer_at C1 v C2 X Y ev m)
  where
    go : Split a b (C1 ++ le v C2) x y → ((X Y : Bytes) → Nearer (C1 ++ le v C2) X Y → WordInBoth C1 v C2 X Y) → WordInBoth (a ∷ (b ∷ C1)) v C2 x y
    go s f =
        let r = f s.x' s.y' s.tail in
        record {
          X1 = s.x0 ∷ (s.x1 ∷ r.X1);
          X2 = r.X2;
          Y1 = s.y0 ∷ (s.y1 ∷ r.Y1);
          Y2 = r.Y2;
          xw = r.xw;
          yw = r.yw;
          x_is = s.x_is ∙ ap (λ (l : Bytes). s.x0 ∷ (s.x1 ∷ l)) r.x_is;
          y_is = s.y_is ∙ ap (λ (l : Bytes). s.y0 ∷ (s.y1 ∷ l)) r.y_is;
          x_len = ap (λ (n : ℕ). suc (suc n)) r.x_len;
          y_len = ap (λ (n : ℕ). suc (suc n)) r.y_len;
          x_which = r.x_which;
          y_which = r.y_which;
          after = s.again (r.X1 ++ le v r.X2) (r.Y1 ++ le v r.Y2) r.after;
        }

nearer_step : (c C1 : Bytes) (v : ℕ) (C2 x y : Bytes) → c ≡ C1 ++ le v C2 → Even C1 → v < 65536 → Nearer c x y → Nearer c (made (program (length C1) v) x) (made (program (length C1) v) y)
nearer_step c C1 v C2 x y q ev l n =
    subst (λ (z : Bytes). Nearer z (made (program (length C1) v) x) (made (program (length C1) v) y)) (sym q) (subst₂ (Nearer (C1 ++ le v C2)) (sym x_made) (sym y_made) b.after)
  where
    b : WordInBoth C1 v C2 x y
    b = nearer_at C1 v C2 x y ev (subst (λ (z : Bytes). Nearer z x y) q n)

    one : (X1 : Bytes) (w : ℕ) (X2 z : Bytes) → z ≡ X1 ++ le w X2 → length X1 ≡ length C1 → Either w v → made (program (length C1) v) z ≡ X1 ++ le v X2
    one X1 w X2 z is len which =
        ap₂ (λ (k : ℕ) (r : Bytes). made (program k v) r) (sym len) is ∙ programmed X1 w v X2 ∙ ap (λ (k : ℕ). X1 ++ le k X2) (either_and w v l which)

    x_made : made (program (length C1) v) x ≡ b.X1 ++ le v b.X2
    x_made = one b.X1 b.xw b.X2 x b.x_is b.x_len b.x_which

    y_made : made (program (length C1) v) y ≡ b.Y1 ++ le v b.Y2
    y_made = one b.Y1 b.yw b.Y2 y b.y_is b.y_len b.y_which

nearer_steps : (c : Bytes) (xs : List Step) → WritesCopy c xs → (x y : Bytes) → Nearer c x y → Nearer c (finish xs x) (finish xs y)
unfolding finish
nearer_steps c [] written x y n = n
nearer_steps c (program a v ∷ xs) (writing C1 v' C2 a' q ev e h rest) x y n =
    nearer_steps c xs rest (made (program a v) x) (made (program a v) y)
    (subst (λ (k : ℕ). Nearer c (made (program k v) x) (made (program k v) y)) e (nearer_step c C1 v C2 x y q ev h n))
nearer_steps c (erase _ _ ∷ xs) w x y n = elim w [ ]

-- THE law: whatever words of the copy stood
pub covered : (c : Bytes) (xs : List Step) → Even c → WritesCopy c xs → finish xs (replicate (length c) 255) ≡ c → (r : Bytes) → Receiving c r → finish xs r ≡ c
covered c xs ev w whole r k = nearer_end (nearer_steps c xs w (replicate (length c) 255) r (nearer_start c r ev k.len k.part)) whole
