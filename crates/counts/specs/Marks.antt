-- What a mark set for a file says of the files that have a pending descriptor, and of those that have a current one.
use Rattle.std.specs.Prelude.{◌≡◌, refl, Bool, false, true, cond, List, [], ◌∷◌, ℕ, zero, suc, ◌+◌, ◌≤◌, ◌<◌, get_or, map, set, replicate}
use Rattle.std.proofs.Common.{sym, ap, ◌∙◌}
use native.Mathlib.Omega.{arith}
use Rattle.std.proofs.Math.Seq.{take-set-lt, take-set-le, drop-set-lt, drop-set-add, get_or-take, get_or-drop}
use Rattle.std.proofs.lemmas.List.{map-set}
use Rattle.counts.specs.declared.Tally.{Tally}
use Rattle.counts.specs.Few.{one_more}
use Rattle.counts.specs.Tally.{is_marked, noted, note_as, nothing, tally_of}
use Rattle.counts.specs.declared.Class.TheVariants.{Pending, Current}

pub noted_none : (c : Tally) → c ≡ tally_of nothing → noted c (replicate 512 0) ≡ nothing
noted_none c e = rw e

marked_at : (ms : List ℕ) (a : ℕ) → get_or (map is_marked ms) a false ≡ is_marked (get_or ms a 0)
marked_at [] a = refl
marked_at (m ∷ ms) zero = refl
marked_at (m ∷ ms) (suc a) = marked_at ms a

module _ (c : Tally) (old new : List ℕ) (f : ℕ) (h : f < 256) (seen : Bool) where
  -- the mark of place a, and all of them once it is set
  module _ (a : ℕ) (s : seen ≡ is_marked (get_or old a 0)) (e : new ≡ set old a 1) where
    was : seen ≡ get_or (map is_marked old) a false
    was = s ∙ sym (marked_at old a)

    now : map is_marked new ≡ set (map is_marked old) a true
    now = ap (map is_marked) e ∙ map-set is_marked old a 1

  -- one more pending
  pub noted_pending : seen ≡ is_marked (get_or old f 0) → new ≡ set old f 1
      → note_as Pending f (noted c old)
      ≡ noted (record c { pending = one_more c.pending; twice = cond seen (one_more c.twice) c.twice }) new
  noted_pending s e =
      let ms = map is_marked old in
      rw (was f s e, now f s e, take-set-lt 256 ms f true h, drop-set-lt 256 ms f true h, get_or-take 256 ms f false h)

  -- one more current
  pub noted_current : seen ≡ is_marked (get_or old (256 + f) 0) → new ≡ set old (256 + f) 1
      → note_as Current f (noted c old)
      ≡ noted (record c { wrong = cond seen (one_more c.wrong) c.wrong }) new
  noted_current s e =
      let ms = map is_marked old in
      let behind : 256 ≤ 256 + f = omega arith in
      rw (was (256 + f) s e, now (256 + f) s e, take-set-le 256 ms (256 + f) true behind, drop-set-add 256 ms f true, get_or-drop 256 ms f false)
