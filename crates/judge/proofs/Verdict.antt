-- What the look shows of a settled or sound image is what stands there.
use Rattle.std.specs.Prelude.{ℕ, suc, ◌-◌, ◌≡◌, cond, Some, None, unwrap_or, List, [], ◌∷◌, eqb, length}
use Rattle.std.proofs.Common.{arith, ◌∙◌, ne_eqb}
use Rattle.std.proofs.Math.Path.{refl, sym, ap}
use Rattle.std.proofs.Math.Bool.{true}
use Rattle.rules.specs.Lists.{all}
use Rattle.rules.specs.Flash.{Bytes, is_geometry}
use Rattle.rules.specs.Unit.{is_open, is_committed}
use Rattle.rules.specs.Settled.{Home, Entry, physical, pick, select, counts, survey, is_housed}
use Rattle.laws.specs.Words.{AreBytes}
use Rattle.rules.specs.declared.Geometry.{Geometry}
use Rattle.rules.specs.declared.Standing.TheVariants as Standings
use Rattle.laws.specs.Units.{RightGeometry, right_geometry}
use Rattle.laws.specs.Tests.{and_inv}
use Rattle.laws.specs.Homes.{sound_housed}
use Rattle.counts.specs.declared.Few.{Few}
use Rattle.counts.specs.Few.{is_none, few, few_none}
use Rattle.counts.specs.Bridge.{Agrees}
use Rattle.home_table.specs.Places.{places_of}
use Rattle.home_table.specs.Bridge.{housed, houses}
use Rattle.judge.specs.declared.HomesTally.{HomesTally}
use Rattle.judge.specs.declared.Transaction.TheVariants.{Open, Committed}
use Rattle.judge.specs.declared.Look.{Look}
use Rattle.judge.specs.Judged.{remainder_of, transaction_for, transaction_of, Whereabouts, LookTells, Judged}
use Rattle.judge.specs.Round.{transaction_by, blind, look_of}
use Rattle.judge.specs.Rounds.{is_right, seen}
use Rattle.judge.proofs.Bridge

-- the transaction found is the one that there is
by_counts : (os cs : List Entry) → cond (eqb (length os) 0) (cond (eqb (length cs) 0) None (Some Committed)) (Some Open) ≡ transaction_for os cs
unfolding transaction_for
by_counts [] [] = refl
by_counts [] (e ∷ cs) = rw (ne_eqb (suc (length cs)) 0 (λ k. omega arith))
by_counts (e ∷ os) cs = rw (ne_eqb (suc (length os)) 0 (λ k. omega arith))

transaction_law : (es : List Entry) (x : HomesTally) → Agrees x.tally (counts es) → transaction_by x ≡ transaction_for (pick is_open es) (pick is_committed es)
unfolding counts
transaction_law es x a =
    rw (tests x.tally.opened (length (pick is_open es)) a.opened, tests x.tally.committed (length (pick is_committed es)) a.committed)
    (by_counts (pick is_open es) (pick is_committed es))
  where
    tests : (m : Few) (k : ℕ) → m ≡ few k → is_none m ≡ eqb k 0
    tests m k e = ap is_none e ∙ few_none k

-- ---- the look
module _ (g : Geometry) (s : Bytes) (o : RightGeometry g s) (small : AreBytes s) where
  abbrev spots : List ℕ
  spots = places_of g.size g.units s

  abbrev look : Look
  look = Bridge.look g s o small

  sound : (look.standing ≡ Standings.Neither → ⊥) → is_housed g (survey g s) ≡ true
  sound n = sound_housed g (survey g s) (λ e. n (Bridge.standing_is g s o small ∙ e))

  whereabouts : (look.standing ≡ Standings.Neither → ⊥) → Whereabouts g s look
  unfolding physical remainder_of transaction_of select seen
  whereabouts n =
      let t = sound n in
      let i = and_inv (housed g.units spots (g.units - 1) 0) (all (is_right g) (houses g s spots (g.units - 1) 0)) (sym (Bridge.housed_law g s o small) ∙ t) in
      rw (Bridge.look_right g s o small t) (record {
        inside = Bridge.home_in_lem g s o small i.0;
        homes = λ L l. ap (λ (x : Home). x.unit) (Bridge.home_is_lem g s o small i.0 L l);
        last = Bridge.left_in g s o small i.0;
        remaining = Bridge.spare_is g s o small i.0;
        state = sym (ap remainder_of (Bridge.spare_is g s o small i.0));
        transaction = transaction_law (survey g s).entries (Bridge.x g s o small i.0 i.1) (Bridge.tally_is g s o small i.0 i.1);
      })

-- THE LAW: the code's look at any image of a right geometry is the reader's verdict
pub judged_right : (g : Geometry) (s : Bytes) (h : is_geometry g (length s) ≡ true) (small : AreBytes s) → Judged g s (Some (Bridge.look g s (right_geometry g s h) small))
judged_right g s h small =
    record {
      geometry = h;
      standing = Bridge.standing_is g s (right_geometry g s h) small;
      whereabouts = λ n. whereabouts g s (right_geometry g s h) small n;
    }

-- the same of what the code gives, which is that look
pub seen_if : (g : Geometry) (s : Bytes) → is_geometry g (length s) ≡ true → AreBytes s → (r : Look) → unwrap_or (look_of g s) blind ≡ r → LookTells g s r
seen_if g s h small r e = rw (← e) (judged_right g s h small)
