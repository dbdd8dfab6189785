-- What a record names, address by address.
use Rattle.std.specs.Prelude.{◌≡◌, refl, Bool, true, false, ◌||◌, [], ◌∷◌, map, ℕ, zero, suc, ◌+◌, ◌≤◌, ◌<◌, length, get_or, set, replicate}
use Rattle.std.proofs.Common.{sym, ap, ◌∙◌, arith, length-set, get_or-set_same, get_or-set_other}
use Rattle.std.proofs.Math.Option.{Option, none, some}
use Rattle.std.proofs.Math.Decide.{ℕ_discrete}
use Rattle.std.proofs.lemmas.List.{length-map}
use Rattle.std.proofs.lemmas.List.Edits.{sets}
use Rattle.std.proofs.Math.Seq.{length-sets}
use Rattle.rules.specs.Flash.{Bytes}
use Rattle.hex_lines.specs.Reads.{Cells, is_named, is_taken, name, or_erased}

-- The mark of an address: 1 where it is named.
abbrev pub mark_of : Option ℕ → ℕ
mark_of none = 0
mark_of (some x) = 1

-- The marks m are of the addresses that are named.
abbrev pub Marks : Bytes → Cells → Type 0
Marks m cs = (j : ℕ) → j < length cs → get_or m j 0 ≡ mark_of (get_or cs j none)

unmarked : (o : Option ℕ) → mark_of o ≡ 0 → is_named o ≡ false
unfolding is_named
unmarked none e = refl
unmarked (some x) e = absurd (omega arith)

marked : (o : Option ℕ) → (mark_of o ≡ 0 → ⊥) → is_named o ≡ true
unfolding is_named
marked none e = absurd (e refl)
marked (some x) e = refl

or_true : (b : Bool) → (b || true) ≡ true
or_true true = refl
or_true false = refl

module _ (m : Bytes) (cs : Cells) (h : Marks m cs) where
  pub none_taken : (n a : ℕ) → (0 < n → a + n ≤ length cs) → ((k : ℕ) → a ≤ k → k < a + n → get_or m k 0 ≡ 0) → is_taken a n cs ≡ false
  unfolding is_taken
  none_taken zero a l f = refl
  none_taken (suc n) a l f =
      let i : a + suc n ≤ length cs = l (omega arith) in
      rw (unmarked (get_or cs a none) (sym (h a (omega arith)) ∙ f a (omega arith) (omega arith))) (none_taken n (suc a) (λ z. omega arith) (λ k u v. f k (omega arith) (omega arith)))

  pub some_taken : (n a k : ℕ) → a + n ≤ length cs → a ≤ k → k < a + n → (get_or m k 0 ≡ 0 → ⊥) → is_taken a n cs ≡ true
  unfolding is_taken
  some_taken zero a k l u v f = absurd (omega arith)
  some_taken (suc n) a k l u v f = go (ℕ_discrete k a) (λ x y z. some_taken n (suc a) k x y z f)
    where
      go : Dec (k ≡ a) → (suc a + n ≤ length cs → suc a ≤ k → k < suc a + n → is_taken (suc a) n cs ≡ true) → (is_named (get_or cs a none) || is_taken (suc a) n cs) ≡ true
      go (yes e) g = rw (marked (get_or cs a none) (λ q. f (ap (λ (i : ℕ). get_or m i 0) e ∙ h a (omega arith) ∙ q)))
      go (no e) g = rw (g (omega arith) (omega arith) (omega arith), or_true (is_named (get_or cs a none)))

-- One address more.
mark_one : (m : Bytes) (cs : Cells) (a x : ℕ) → a < length cs → length cs ≤ length m → Marks m cs → Marks (set m a 1) (set cs a (some x))
mark_one m cs a x h l f j k = go (ℕ_discrete j a)
  where
    go : Dec (j ≡ a) → get_or (set m a 1) j 0 ≡ mark_of (get_or (set cs a (some x)) j none)
    go (yes e) = rw (e, get_or-set_same m a 1 0 (omega arith), get_or-set_same cs a (some x) none h)
    go (no e) = rw (get_or-set_other m a j 1 0 e, get_or-set_other cs a j (some x) none e) (f j (omega (arith, length-set cs a (some x))))

pub name_marks : (xs m : Bytes) (cs : Cells) (a : ℕ) → (0 < length xs → a + length xs ≤ length cs) → length cs ≤ length m → Marks m cs → Marks (sets m a (replicate (length xs) 1)) (name a xs cs)
unfolding name
name_marks [] m cs a h l f = f
name_marks (x ∷ xs) m cs a h l f =
    let i : a + suc (length xs) ≤ length cs = h (omega arith) in
    name_marks xs (set m a 1) (set cs a (some x)) (suc a) (λ z. omega (arith, length-set cs a (some x))) (omega (arith, length-set cs a (some x), length-set m a 1))
    (mark_one m cs a x (omega arith) l f)

pub name_length : (a : ℕ) (xs : Bytes) (cs : Cells) → length (name a xs cs) ≡ length cs
unfolding name
name_length a xs cs = length-sets cs a (map some xs)

-- ---- the image of what is named
map_set : (cs : Cells) (a : ℕ) (o : Option ℕ) → map or_erased (set cs a o) ≡ set (map or_erased cs) a (or_erased o)
map_set [] a o = refl
map_set (c ∷ cs) zero o = refl
map_set (c ∷ cs) (suc a) o = ap (λ (r : Bytes). or_erased c ∷ r) (map_set cs a o)

pub name_image : (xs : Bytes) (cs : Cells) (a : ℕ) → map or_erased (name a xs cs) ≡ sets (map or_erased cs) a xs
unfolding name or_erased
name_image [] cs a = refl
name_image (x ∷ xs) cs a = name_image xs (set cs a (some x)) (suc a) ∙ ap (λ (r : Bytes). sets r (suc a) xs) (map_set cs a (some x))

pub image_blank : (n : ℕ) → map or_erased (replicate n none) ≡ replicate n 255
unfolding or_erased
image_blank zero = refl
image_blank (suc n) = ap (λ (r : Bytes). 255 ∷ r) (image_blank n)

pub image_length : (cs : Cells) → length (map or_erased cs) ≡ length cs
image_length cs = length-map cs or_erased
