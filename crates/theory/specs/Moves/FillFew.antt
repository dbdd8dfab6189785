-- How many steps a move has: half a unit's bytes at the most.
use Rattle.std.specs.Prelude.{Bool, cond, false, true, List, [], ◌++◌, ◌∷◌, ◌≡◌, refl, ◌%◌, ◌*◌, ◌+◌, ◌≤◌, suc, ℕ, drop, length, take}
use Rattle.std.proofs.Common.{ap, arith, length-append, length-take}
use Rattle.rules.specs.Copy.{copies, fill, is_kept, kept_size, packed}
use Rattle.rules.specs.Flash.{Bytes, Step, apply, idle, programs, steps_of, words}
use Rattle.rules.specs.Histories.{move_bound}
use Rattle.rules.specs.Unit.{Descriptor, Room, header_bytes, size, stands}
use Rattle.rules.specs.declared.Geometry.{Geometry}
use Rattle.theory.specs.Images.Head.{Head}
use Rattle.theory.specs.Images.Layout.{Good, layout, room_layout}
use Rattle.theory.specs.Images.Sectors.{LegalGeometry}
use Rattle.theory.specs.Storing.Fill.{words_even}
use Rattle.theory.specs.Moves.Packed.{kept_fits}

pub programs_length : (a : ℕ) (ws : Bytes) → length (programs a ws) ≡ length ws
unfolding programs
programs_length a [] = refl
programs_length a (w ∷ ws) = ap suc (programs_length (a + 2) ws)

take_short : (k : ℕ) (c : Bytes) → length (take k c) ≤ k
take_short k c = omega (arith, length-take k c)

even_up : (n k : ℕ) → n ≤ k + k % 2 → n + n % 2 ≤ k + k % 2
even_up n k l = omega arith

copies_few : (b : ℕ) (u : Bytes) (at : ℕ) (ds es : List Descriptor) → 2 * length (copies b u at ds es) ≤ 8 * length ds + kept_size ds
unfolding copies kept_size programs size
copies_few b u at [] es = omega arith
copies_few b u at (d ∷ ds) [] = omega arith
copies_few b u at (d ∷ ds) (e ∷ es) = go (is_kept d) (copies_few b u (at + 8) ds es)
  where
    here : List Step
    here = programs (b + at) (e.flags ∷ e.offset ∷ e.len ∷ e.tag ∷ [])

    c : Bytes
    c = take (size d) (drop d.offset u)

    contents : List Step
    contents = programs (b + e.offset) (words c)

    rest : List Step
    rest = copies b u (at + 8) ds es

    half : length contents * 2 ≤ size d
    half = omega (arith, programs_length (b + e.offset) (words c), words_even c, even_up (length c) d.len (take_short (size d) (drop d.offset u)))

    go : (k : Bool) → 2 * length (copies b u (at + 8) ds es) ≤ 8 * length ds + kept_size ds → 2 * length (cond k (here ++ (contents ++ rest)) rest) ≤ 8 * suc (length ds) + (cond k (size d) 0 + kept_size ds)
    go true h = omega (arith, h, length-append here (contents ++ rest), length-append contents rest, half)
    go false h = omega (arith, h)

-- the filling
pub fill_few : (g : Geometry) (sh : LegalGeometry g) (b L st : ℕ) (head : Head) (ds : List Descriptor) (free : ℕ) (rest : Bytes) → Good g ds free rest → length (fill g b L (layout L st head ds free rest)) + 3 ≤ move_bound g
unfolding stands fill move_bound
fill_few g sh b L st head ds free rest h =
    omega (
      arith,
      ap (λ (r : Room). length (copies b (layout L st head ds free rest) header_bytes r.array (packed g.size r.array))) (room_layout g L st head ds free rest h),
      copies_few b (layout L st head ds free rest) header_bytes ds (packed g.size ds),
      kept_fits g sh ds free rest h,
    )

-- making the copy live, and the erase
pub seal_few : (g : Geometry) → LegalGeometry g → 2 ≤ move_bound g
unfolding move_bound
seal_few g sh = omega (arith, sh.right.large)

-- the steps of a job are no more than the job is long
pub steps_few : (xs : List Step) (s : Bytes) → length (steps_of xs s) ≤ length xs
unfolding steps_of
steps_few [] s = omega arith
steps_few (x ∷ xs) s = go (idle x s) (steps_few xs s) (steps_few xs (apply x s))
  where
    go : (i : Bool) → length (steps_of xs s) ≤ length xs → length (steps_of xs (apply x s)) ≤ length xs → length {A = Step} (elim i as (λ j. List Step) [ true ↦ steps_of xs s | false ↦ x ∷ steps_of xs (apply x s) ]) ≤ suc (length xs)
    go true h k = omega (arith, h)
    go false h k = omega (arith, k)
