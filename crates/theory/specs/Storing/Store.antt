-- The steps of a store at a place that fits: what stands after each of them is safe.
use Rattle.std.specs.Prelude.{Bool, ◌&&◌, ◌||◌, false, true, List, [], ◌++◌, ◌∷◌, ◌≡◌}
use Rattle.std.proofs.Math.Bool.{not}
use Rattle.std.proofs.Common.{append_assoc, ◌∙◌, ap₂, arith, length-append}
use Rattle.std.proofs.Math.Path.{ap, refl, subst, sym}
use Prim.Native.Nat.{◌%◌, ◌*◌, ◌+◌, ◌-◌, ◌<◌, ◌≤◌, suc, ℕ}
use Rattle.std.proofs.Math.Dec.{eqb}
use Rattle.std.proofs.Math.ListN.{length, replicate}
use Rattle.std.proofs.lemmas.List.{length-replicate, replicate-append-replicate}
use Rattle.rules.specs.Flash.{Bytes, Step, finish, made, program, programs}
use Rattle.rules.specs.Settled.{Entry}
use Rattle.rules.specs.Unit.{Descriptor, blank, has_sector, is_allocated, is_current, is_empty, is_listed, is_old, is_pending, is_tagged, is_torn, is_void, size, stands}
use Rattle.rules.specs.declared.Geometry.{Geometry}
use Rattle.laws.specs.Frames.{and_erased}
use Rattle.laws.specs.Units.{even_size_lem}
use Rattle.theory.specs.Base.Facts.{all_replicate, differ, length_mid}
use Rattle.theory.specs.Base.Along.{Along, le}
use Rattle.theory.specs.Images.Head.{head_bytes}
use Rattle.theory.specs.Images.Layout.{Good, array_bytes, before, flags_good, is_byte, layout, layout_split, length_before}
use Rattle.theory.specs.Images.Sectors.{AllAbove, above_back, above_front, all_above}
use Rattle.theory.specs.Images.Model.{all_entries, home_entries, LaidHome, entry_at, laid, state_word}
use Rattle.theory.specs.Images.Located.{entries_split}
use Rattle.theory.specs.Tidying.Held.{HeldEntries}
use Rattle.theory.specs.Storing.Grow.{carve_good, rest_good}
use Rattle.theory.specs.Storing.Fill.{SmallWords, blanks, blanks_replicate, byte_words, words_over, words_bytes}
use Rattle.theory.specs.Storing.Focus.{Foc, data_walk, entries_more, foc_held, foc_step}

-- ---- the four words of the descriptor, from a blank one; then its data; then pending
module _ (g : Geometry) (hs bs : List LaidHome) (sp : ℕ) (p : LaidHome) (xs ys : List Descriptor) (free : ℕ) (tag len off : ℕ) (ws : Bytes) where
  abbrev De : ℕ → ℕ → ℕ → Descriptor
  De f o n = record { flags = f; offset = o; len = n; tag = tag }

  abbrev At : Descriptor → ℕ → Bytes → LaidHome
  At d h r = record { phys = p.phys; up = p.up; head = p.head; array = xs ++ d ∷ ys; gap = h; rest = r }

  abbrev front : List Entry
  front = all_entries g 0 hs ++ home_entries g (0 + length hs) p.phys p.rest 0 xs

  abbrev back : List Entry
  back = home_entries g (0 + length hs) p.phys p.rest (suc (0 + length xs)) ys ++ all_entries g (suc (0 + length hs)) bs

  abbrev place : ℕ
  place = p.phys * g.size + (stands (length xs))

  entries_at : (d : Descriptor) (h : ℕ) (x : Bytes) → AllAbove (g.size - length p.rest) xs → AllAbove (g.size - length p.rest) ys
      → all_entries g 0 (hs ++ At d h (x ++ p.rest) ∷ bs) ≡ front ++ entry_at g (0 + length hs) p.phys (x ++ p.rest) (0 + length xs) d ∷ back
  entries_at d h x a b =
      entries_split g hs bs (At d h (x ++ p.rest)) xs ys d
      ∙ ap₂ (λ (l m : List Entry). (all_entries g 0 hs ++ l) ++ entry_at g (0 + length hs) p.phys (x ++ p.rest) (0 + length xs) d ∷ (m ++ all_entries g (suc (0 + length hs)) bs))
      (entries_more g (0 + length hs) p.phys x p.rest 0 xs a) (entries_more g (0 + length hs) p.phys x p.rest (suc (0 + length xs)) ys b)

  pub record Ready (s : Bytes) : Type 0 where
    -- the home's bytes show a blank descriptor there, perhaps the first of the gap
    pub foc : Foc g hs bs sp p s
    pub blank_there : laid (0 + length hs) p ≡ layout (0 + length hs) (state_word p.up) p.head (xs ++ blank ∷ ys) free p.rest
    pub good : (e : Descriptor) → has_sector e ≡ false → is_listed e ≡ true → is_empty e ≡ false → Good g (xs ++ e ∷ ys) free p.rest
    pub small_tag : tag < 65535
    pub small_len : len < 65536
    pub small_off : off < 65536
    pub tags : is_tagged (De 0xFFFE off len) ≡ true
    pub fit : len + len % 2 ≤ free
    pub off_is : off ≡ stands (length (xs ++ De 0xFFFF off len ∷ ys)) + free - (len + len % 2)
    pub words_are : length ws * 2 ≡ len + len % 2
    pub small_words : SmallWords ws

  -- P holds of the entries with a torn or an allocated one between them
  module _ (P : List Entry → Type 0) (torn_fine : (x : Entry) → x.descriptor.flags ≡ 0xFFFF → is_torn x.descriptor ≡ true → P (front ++ x ∷ back))
      (alloc_fine : (x : Entry) → x.descriptor.flags ≡ 0xFFFE → P (front ++ x ∷ back)) (s : Bytes) (now : HeldEntries g P s) (y : Ready s) where
    not_erased : eqb tag 0xFFFF ≡ false
    not_erased = differ (λ (e : tag ≡ 0xFFFF). let z : ⊥ = omega (arith, e, y.small_tag) in z)

    torn' : (o n : ℕ) → is_torn (De 0xFFFF o n) ≡ true
    unfolding is_torn
    torn' o n = ap not not_erased

    is_listed_lem : (o n : ℕ) → is_listed (De 0xFFFF o n) ≡ true
    unfolding is_listed has_sector is_allocated is_pending is_current is_old is_empty is_torn is_void
    is_listed_lem o n = ap (λ (b : Bool). (false || (b && eqb o 0xFFFF && eqb n 0xFFFF)) || not b || false) not_erased

    not_empty : (o n : ℕ) → is_empty (De 0xFFFF o n) ≡ false
    unfolding is_empty
    not_empty o n = ap (λ (b : Bool). b && eqb o 0xFFFF && eqb n 0xFFFF) not_erased

    good_torn : (o n : ℕ) → Good g (xs ++ De 0xFFFF o n ∷ ys) free p.rest
    unfolding has_sector is_allocated is_pending is_current is_old
    good_torn o n = y.good (De 0xFFFF o n) refl (is_listed_lem o n) (not_empty o n)

    above : AllAbove (g.size - length p.rest) (xs ++ De 0xFFFF 0 0 ∷ ys)
    above = all_above (g.size - length p.rest) g.size (xs ++ De 0xFFFF 0 0 ∷ ys) (omega (arith, (good_torn 0 0).low, (good_torn 0 0).fills))

    entries_here : (d : Descriptor) (h : ℕ) (x : Bytes) → all_entries g 0 (hs ++ At d h (x ++ p.rest) ∷ bs) ≡ front ++ entry_at g (0 + length hs) p.phys (x ++ p.rest) (0 + length xs) d ∷ back
    entries_here d h x = entries_at d h x (above_front (g.size - length p.rest) xs (De 0xFFFF 0 0 ∷ ys) above) (above_back (g.size - length p.rest) xs (De 0xFFFF 0 0 ∷ ys) above).1

    held_torn : (o n : ℕ) (t : Bytes) → Foc g hs bs sp (At (De 0xFFFF o n) free p.rest) t → HeldEntries g P t
    held_torn o n t f = foc_held g hs bs sp P (At (De 0xFFFF o n) free p.rest) t f
        (subst P (sym (entries_here (De 0xFFFF o n) free [])) (torn_fine (entry_at g (0 + length hs) p.phys p.rest (0 + length xs) (De 0xFFFF o n)) refl (torn' o n)))

    B : Bytes
    B = before (0 + length hs) (state_word p.up) p.head xs

    post : ℕ → Bytes → Bytes
    post h r = array_bytes ys (replicate h 255 ++ r)

    split : (d : Descriptor) (h : ℕ) (r : Bytes) → layout (0 + length hs) (state_word p.up) p.head (xs ++ d ∷ ys) h r ≡ B ++ le d.flags (le d.offset (le d.len (le d.tag (post h r))))
    unfolding B post
    split d h r = layout_split (0 + length hs) (state_word p.up) p.head xs d ys h r

    len_b : length B ≡ stands (length xs)
    unfolding B
    len_b = length_before (0 + length hs) (state_word p.up) p.head xs

    ext : (c : Bytes) → length (B ++ c) ≡ stands (length xs) + length c
    ext c = length-append B c ∙ ap (λ (n : ℕ). n + length c) len_b

    s4 : Bytes
    s4 = made (program place 0xFFFE) (made (program (place + 2) off) (made (program (place + 4) len) (made (program (place + 6) tag) s)))

    f1 : Foc g hs bs sp (At (De 0xFFFF 0xFFFF 0xFFFF) free p.rest) (made (program (place + 6) tag) s)
    unfolding blank
    f1 = foc_step g hs bs sp p (At (De 0xFFFF 0xFFFF 0xFFFF) free p.rest) s y.foc refl refl refl (good_torn 0xFFFF 0xFFFF)
        (B ++ le 0xFFFF (le 0xFFFF (le 0xFFFF []))) 0xFFFF tag (post free p.rest)
        (y.blank_there ∙ split blank free p.rest ∙ sym (append_assoc B (le 0xFFFF (le 0xFFFF (le 0xFFFF []))) (le 0xFFFF (post free p.rest))))
        (split (De 0xFFFF 0xFFFF 0xFFFF) free p.rest ∙ sym (append_assoc B (le 0xFFFF (le 0xFFFF (le 0xFFFF []))) (le tag (post free p.rest)))
        ∙ ap (λ (w : ℕ). (B ++ le 0xFFFF (le 0xFFFF (le 0xFFFF []))) ++ le w (post free p.rest)) (sym (and_erased tag (omega (arith, y.small_tag)))))
        (place + 6) (omega (arith, ext (le 0xFFFF (le 0xFFFF (le 0xFFFF [])))))

    f2 : Foc g hs bs sp (At (De 0xFFFF 0xFFFF len) free p.rest) (made (program (place + 4) len) (made (program (place + 6) tag) s))
    f2 = foc_step g hs bs sp (At (De 0xFFFF 0xFFFF 0xFFFF) free p.rest) (At (De 0xFFFF 0xFFFF len) free p.rest) (made (program (place + 6) tag) s) f1 refl refl refl (good_torn 0xFFFF len)
        (B ++ le 0xFFFF (le 0xFFFF [])) 0xFFFF len (le tag (post free p.rest))
        (split (De 0xFFFF 0xFFFF 0xFFFF) free p.rest ∙ sym (append_assoc B (le 0xFFFF (le 0xFFFF [])) (le 0xFFFF (le tag (post free p.rest)))))
        (split (De 0xFFFF 0xFFFF len) free p.rest ∙ sym (append_assoc B (le 0xFFFF (le 0xFFFF [])) (le len (le tag (post free p.rest))))
        ∙ ap (λ (w : ℕ). (B ++ le 0xFFFF (le 0xFFFF [])) ++ le w (le tag (post free p.rest))) (sym (and_erased len y.small_len)))
        (place + 4) (omega (arith, ext (le 0xFFFF (le 0xFFFF []))))

    f3 : Foc g hs bs sp (At (De 0xFFFF off len) free p.rest) (made (program (place + 2) off) (made (program (place + 4) len) (made (program (place + 6) tag) s)))
    f3 = foc_step g hs bs sp (At (De 0xFFFF 0xFFFF len) free p.rest) (At (De 0xFFFF off len) free p.rest) (made (program (place + 4) len) (made (program (place + 6) tag) s)) f2 refl refl refl (good_torn off len)
        (B ++ le 0xFFFF []) 0xFFFF off (le len (le tag (post free p.rest)))
        (split (De 0xFFFF 0xFFFF len) free p.rest ∙ sym (append_assoc B (le 0xFFFF []) (le 0xFFFF (le len (le tag (post free p.rest))))))
        (split (De 0xFFFF off len) free p.rest ∙ sym (append_assoc B (le 0xFFFF []) (le off (le len (le tag (post free p.rest)))))
        ∙ ap (λ (w : ℕ). (B ++ le 0xFFFF []) ++ le w (le len (le tag (post free p.rest)))) (sym (and_erased off y.small_off)))
        (place + 2) (omega (arith, ext (le 0xFFFF [])))

    good4 : Good g (xs ++ De 0xFFFE off len ∷ ys) (free - (len + len % 2)) (blanks (length ws) p.rest)
    unfolding has_sector is_allocated is_pending is_current is_old is_listed is_empty size
    good4 = subst (λ (x : Bytes). Good g (xs ++ De 0xFFFE off len ∷ ys) (free - (len + len % 2)) x) same_rest
        (carve_good g xs (De 0xFFFF off len) (De 0xFFFE off len) ys free p.rest (replicate (length ws * 2) 255) refl refl refl refl y.tags (even_size_lem y.foc.stands.shape.right) y.fit (length-replicate (length ws * 2) 255 ∙ y.words_are) y.off_is (all_replicate is_byte (length ws * 2) 255 refl) (good_torn off len))
      where
        same_rest : replicate (length ws * 2) 255 ++ p.rest ≡ blanks (length ws) p.rest
        same_rest = sym (blanks_replicate (length ws) p.rest)

    bytes4 : layout (0 + length hs) (state_word p.up) p.head (xs ++ De 0xFFFE off len ∷ ys) free p.rest ≡ layout (0 + length hs) (state_word p.up) p.head (xs ++ De 0xFFFE off len ∷ ys) (free - (len + len % 2)) (blanks (length ws) p.rest)
    bytes4 = ap (λ (x : Bytes). le (0 + length hs) (le (state_word p.up) (head_bytes p.head (array_bytes (xs ++ De 0xFFFE off len ∷ ys) x))))
        (ap (λ (n : ℕ). replicate n 255 ++ p.rest) sum' ∙ ap (λ (x : Bytes). x ++ p.rest) (sym (replicate-append-replicate (free - (len + len % 2)) (length ws * 2) 255))
        ∙ append_assoc (replicate (free - (len + len % 2)) 255) (replicate (length ws * 2) 255) p.rest ∙ ap (λ (x : Bytes). replicate (free - (len + len % 2)) 255 ++ x) (sym (blanks_replicate (length ws) p.rest)))
      where
        sum' : free ≡ free - (len + len % 2) + length ws * 2
        sum' = omega (arith, y.words_are, y.fit)

    f4 : Foc g hs bs sp (At (De 0xFFFE off len) (free - (len + len % 2)) (blanks (length ws) p.rest)) s4
    unfolding s4
    f4 = foc_step g hs bs sp (At (De 0xFFFF off len) free p.rest) (At (De 0xFFFE off len) (free - (len + len % 2)) (blanks (length ws) p.rest)) (made (program (place + 2) off) (made (program (place + 4) len) (made (program (place + 6) tag) s))) f3 refl refl refl good4
        B 0xFFFF 0xFFFE (le off (le len (le tag (post free p.rest))))
        (split (De 0xFFFF off len) free p.rest) (sym bytes4 ∙ split (De 0xFFFE off len) free p.rest) place (ap (λ (n : ℕ). p.phys * g.size + n) (sym len_b))

    ok_alloc : (h : ℕ) (x : Bytes) → P (all_entries g 0 (hs ++ At (De 0xFFFE off len) h (x ++ p.rest) ∷ bs))
    ok_alloc h x = subst P (sym (entries_here (De 0xFFFE off len) h x)) (alloc_fine (entry_at g (0 + length hs) p.phys (x ++ p.rest) (0 + length xs) (De 0xFFFE off len)) refl)

    place_off : p.phys * g.size + off ≡ p.phys * g.size + (stands (length (xs ++ De 0xFFFE off len ∷ ys)) + (free - (len + len % 2)) + 0)
    unfolding stands
    place_off = omega (arith, y.off_is, y.fit, length_mid xs (De 0xFFFF off len) (De 0xFFFE off len) ys)

    walked : Along (HeldEntries g P) s4 (programs (p.phys * g.size + off) ws) × Foc g hs bs sp (At (De 0xFFFE off len) (free - (len + len % 2)) (words_bytes ws p.rest)) (finish (programs (p.phys * g.size + off) ws) s4)
    walked = data_walk g hs bs sp P (At (De 0xFFFE off len) (free - (len + len % 2)) []) ws [] p.rest s4 (p.phys * g.size + off) f4 good4 (λ x. ok_alloc (free - (len + len % 2)) x) y.small_words place_off

    good5 : Good g (xs ++ De 0xFFFE off len ∷ ys) (free - (len + len % 2)) (words_bytes ws p.rest)
    good5 = rest_good g (xs ++ De 0xFFFE off len ∷ ys) (free - (len + len % 2)) (blanks (length ws) p.rest) (words_bytes ws p.rest) (lengths ws) (byte_words ws p.rest y.small_words (good_torn off len).bytes) good4
      where
        lengths : (vs : Bytes) → length (words_bytes vs p.rest) ≡ length (blanks (length vs) p.rest)
        lengths [] = refl
        lengths (v ∷ vs) = ap (λ (n : ℕ). suc (suc n)) (lengths vs)

    f6 : Foc g hs bs sp (At (De 0xFFFC off len) (free - (len + len % 2)) (words_bytes ws p.rest)) (made (program place 0xFFFC) (finish (programs (p.phys * g.size + off) ws) s4))
    unfolding has_sector is_allocated is_pending is_listed is_empty
    f6 = foc_step g hs bs sp (At (De 0xFFFE off len) (free - (len + len % 2)) (words_bytes ws p.rest)) (At (De 0xFFFC off len) (free - (len + len % 2)) (words_bytes ws p.rest)) (finish (programs (p.phys * g.size + off) ws) s4) walked.1 refl refl refl
        (flags_good g xs (De 0xFFFE off len) ys (free - (len + len % 2)) (words_bytes ws p.rest) 0xFFFC refl refl refl good5)
        B 0xFFFE 0xFFFC (le off (le len (le tag (post (free - (len + len % 2)) (words_bytes ws p.rest)))))
        (split (De 0xFFFE off len) (free - (len + len % 2)) (words_bytes ws p.rest)) (split (De 0xFFFC off len) (free - (len + len % 2)) (words_bytes ws p.rest)) place (ap (λ (n : ℕ). p.phys * g.size + n) (sym len_b))

    -- the new entry, with the words that were written
    abbrev pub new_entry : Entry
    new_entry = entry_at g (0 + length hs) p.phys (words_bytes ws p.rest) (0 + length xs) (De 0xFFFC off len)

    -- all steps but the last
    abbrev pub most_steps : List Step
    most_steps = program (place + 6) tag ∷ (program (place + 4) len ∷ (program (place + 2) off ∷ (program place 0xFFFE ∷ programs (p.phys * g.size + off) ws)))

    entries_last : (d : Descriptor) → all_entries g 0 (hs ++ At d (free - (len + len % 2)) (words_bytes ws p.rest) ∷ bs) ≡ front ++ entry_at g (0 + length hs) p.phys (words_bytes ws p.rest) (0 + length xs) d ∷ back
    entries_last d =
        subst (λ (r : Bytes). all_entries g 0 (hs ++ At d (free - (len + len % 2)) r ∷ bs) ≡ front ++ entry_at g (0 + length hs) p.phys r (0 + length xs) d ∷ back) (sym (words_over ws p.rest))
        (entries_here d (free - (len + len % 2)) (words_bytes ws []))

    -- THE law of storing: what stands before the last step is as P says, and the last leaves a pending descriptor
    pub stored : Along (HeldEntries g P) s most_steps × HeldEntries g (λ l. l ≡ front ++ new_entry ∷ back) (made (program place 0xFFFC) (finish most_steps s))
    unfolding s4 finish
    stored = (
      (now, (held_torn 0xFFFF 0xFFFF _ f1, (held_torn 0xFFFF len _ f2, (held_torn off len _ f3, walked.0)))),
      record { us = f6.us; ps = hs ++ At (De 0xFFFC off len) h (words_bytes ws p.rest) ∷ bs; sp = sp; image = f6.image; stands = f6.stands; ups = f6.ups; bare = f6.bare; holds = entries_last (De 0xFFFC off len) },
    )
      where
        h : ℕ
        h = free - (len + len % 2)
