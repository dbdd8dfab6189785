-- The reads of a settled image, by the places of what they show.
use Rattle.std.specs.Prelude.{◌≡◌, Bool, cond, List, ℕ, ◌≤◌, ◌<◌, Err}
use Rattle.std.proofs.Math.Path.{refl, sym, ap}
use Rattle.std.proofs.Common.{◌∙◌, arith}
use Rattle.std.proofs.Math.Option.{Option, none, some}
use borrow.Author.Tests.{lt-ltb, le-ltb, eq-eqb, ne_eqb}
use Rattle.rules.specs.Lists.{first, filter}
use Rattle.rules.specs.Flash.{Bytes}
use Rattle.rules.specs.Unit.{stands, is_open, is_current_file}
use Rattle.rules.specs.Settled.{Entry, Survey, survey, select}
use Rattle.rules.specs.Views.{committed_view, transaction_view}
use Rattle.rules.specs.Jobs.{earlier_of}
use Rattle.rules.specs.Answers.{Plan, refuses, shown, carry_out}
use Rattle.rules.specs.Calls.{Call, read, read_open, read_at, refuse, is_bad_file, has_none, is_at, showing, origin_of, showing_at, plan, allowance, outcome}
use Rattle.rules.specs.declared.Geometry.{Geometry}
use Rattle.rules.specs.declared.Origin.{Origin}
use Rattle.rules.specs.declared.Origin.TheVariants.{NotSaid, Before, Opened}
use Rattle.rules.specs.declared.NotDone.TheVariants.{BadFile, NoTransaction}
use Rattle.laws.specs.Units.{RightGeometry, right_geometry}
use Rattle.index.specs.Shapes.{place_of, EachEntry, Stood}
use Rattle.index.specs.Entries.{stood, handle_is, start_is, spot_is, place_high, MayStand}
use Rattle.index.specs.Views.{committed_stands, transaction_stands, earlier_stands, named_stands, none_by, no_opened}
use Rattle.call_look.specs.Guards.{refuse_true, refuse_false}
use Rattle.call_look.specs.Known.{Known, known_plan}
use Rattle.call_read.specs.Shapes.{CanStand, given_at, origin_at, by_file, by_handle}

-- ---- an entry shown, or its refusal
module _ (g : Geometry) (s : Bytes) (o : RightGeometry g s) (e : Option Entry) (h : MayStand g s e) (a : ℕ) (q : a ≡ place_of e) where
  pub placed : CanStand g s a
  unfolding place_of
  placed = rw q (go e h)
    where
      go : (e : Option Entry) → MayStand g s e → CanStand g s (place_of e)
      go none h = record { large = omega (arith, o.large); inside = λ n. absurd (n refl); high = λ n. absurd (n refl) }
      go (some e) h =
          record { large = omega (arith, o.large); inside = λ n. (spot_is g s e o (h e refl)).inside; high = λ n. place_high g s e o (h e refl) }

  pub by_file_lem : (w : Origin) → by_file g s a w ≡ (carry_out (showing w e) 0 s).answer
  unfolding place_of by_file given_at showing shown carry_out stands
  by_file_lem w = rw q (go e h)
    where
      go : (e : Option Entry) → MayStand g s e → by_file g s (place_of e) w ≡ (carry_out (showing w e) 0 s).answer
      go none h = refl
      go (some e) h =
          let p = h e refl in
          rw (ne_eqb e.place 0 (λ z. omega (arith, p.place)), handle_is g s e o p, start_is g s e o p, p.descriptor)

  pub by_handle_lem : by_handle g s a ≡ (carry_out (showing_at e) 0 s).answer
  unfolding place_of by_handle given_at showing_at shown carry_out stands
  by_handle_lem = rw q (go e h)
    where
      go : (e : Option Entry) → MayStand g s e → by_handle g s (place_of e) ≡ (carry_out (showing_at e) 0 s).answer
      go none h = refl
      go (some e) h =
          let p = h e refl in
          rw (ne_eqb e.place 0 (λ z. omega (arith, p.place)), start_is g s e o p, p.descriptor)

-- ---- where an answer in the transaction view came from
pub origin_at_lem : (g : Geometry) (s : Bytes) → EachEntry (Stood g s) (survey g s).entries → (f a : ℕ) → a ≡ place_of (first (earlier_of f (survey g s))) → origin_at a ≡ origin_of f (survey g s)
unfolding origin_at origin_of
origin_at_lem g s all f a q = ap (λ (b : Bool). cond b Before Opened) (sym (none_by g s (earlier_of f (survey g s)) (earlier_stands g s all f) a q))

-- ---- the three calls
module _ {g : Geometry} {s : Bytes} {home : List ℕ} (k : Known g s home) where
  abbrev v : Survey
  v = survey g s

  o : RightGeometry g s
  o = right_geometry g s k.homed.right

  all : EachEntry (Stood g s) v.entries
  all = stood g s home k.homed

  answered : (c : Call) (p : Plan) → plan g s c ≡ p → allowance c ≡ 0 → (carry_out p 0 s).answer ≡ (outcome g c s).answer
  unfolding outcome
  answered c p e z = ap (λ (n : ℕ). (carry_out p n s).answer) (sym z) ∙ sym (ap (λ (x : Plan). (carry_out x (allowance c) s).answer) e)

  module _ (f : ℕ) where
    read_plan : plan g s (read f) ≡ refuse (is_bad_file f) BadFile (showing NotSaid (committed_view f v))
    unfolding plan
    read_plan = known_plan k _

    open_plan : plan g s (read_open f) ≡ refuse (is_bad_file f) BadFile (refuse (has_none v) NoTransaction (showing (origin_of f v) (transaction_view f v)))
    unfolding plan
    open_plan = known_plan k _

    pub read_bad_file : 255 < f → Err BadFile ≡ (outcome g (read f) s).answer
    unfolding is_bad_file allowance carry_out
    read_bad_file l = answered (read f) (refuses BadFile) (read_plan ∙ refuse_true (is_bad_file f) BadFile _ (lt-ltb 255 f l)) refl

    pub open_bad_file : 255 < f → Err BadFile ≡ (outcome g (read_open f) s).answer
    unfolding is_bad_file allowance carry_out
    open_bad_file l = answered (read_open f) (refuses BadFile) (open_plan ∙ refuse_true (is_bad_file f) BadFile _ (lt-ltb 255 f l)) refl

    module _ (l : f ≤ 255) where
      pub read_placed : (a : ℕ) → a ≡ place_of (committed_view f v) → CanStand g s a
      read_placed a q = placed g s o (committed_view f v) (committed_stands g s all f) a q

      pub read_shows : (a : ℕ) → a ≡ place_of (committed_view f v) → by_file g s a NotSaid ≡ (outcome g (read f) s).answer
      unfolding is_bad_file allowance
      read_shows a q =
          by_file_lem g s o (committed_view f v) (committed_stands g s all f) a q NotSaid
          ∙ answered (read f) (showing NotSaid (committed_view f v)) (read_plan ∙ refuse_false (is_bad_file f) BadFile _ (le-ltb 255 f l)) refl

      pub open_placed : (a : ℕ) → a ≡ place_of (transaction_view f v) → CanStand g s a
      open_placed a q = placed g s o (transaction_view f v) (transaction_stands g s all f) a q

      module _ (b : ℕ) (i : b ≡ place_of (first (select is_open v))) where
        pub open_none : b ≡ 0 → Err NoTransaction ≡ (outcome g (read_open f) s).answer
        unfolding is_bad_file allowance carry_out
        open_none z =
            answered (read_open f) (refuses NoTransaction)
            (open_plan ∙ refuse_false (is_bad_file f) BadFile _ (le-ltb 255 f l) ∙ refuse_true (has_none v) NoTransaction _ (no_opened g s all b i ∙ eq-eqb b 0 z)) refl

        pub open_shows : (b ≡ 0 → ⊥) → (a : ℕ) → a ≡ place_of (transaction_view f v) → (p : ℕ) → p ≡ place_of (first (earlier_of f v)) → (w : Origin) → w ≡ origin_at p
            → by_file g s a w ≡ (outcome g (read_open f) s).answer
        unfolding is_bad_file allowance
        open_shows n a q p j w r =
            ap (by_file g s a) (r ∙ origin_at_lem g s all f p j)
            ∙ by_file_lem g s o (transaction_view f v) (transaction_stands g s all f) a q (origin_of f v)
            ∙ answered (read_open f) (showing (origin_of f v) (transaction_view f v))
            (open_plan ∙ refuse_false (is_bad_file f) BadFile _ (le-ltb 255 f l) ∙ refuse_false (has_none v) NoTransaction _ (no_opened g s all b i ∙ ne_eqb b 0 n)) refl

  module _ (L p a : ℕ) (q : a ≡ place_of (first (filter (is_at L p) (select is_current_file v)))) where
    pub at_placed : CanStand g s a
    at_placed = placed g s o (first (filter (is_at L p) (select is_current_file v))) (named_stands g s all L p) a q

    pub at_shows : by_handle g s a ≡ (outcome g (read_at L p) s).answer
    unfolding plan allowance
    at_shows =
        by_handle_lem g s o (first (filter (is_at L p) (select is_current_file v))) (named_stands g s all L p) a q
        ∙ answered (read_at L p) (showing_at (first (filter (is_at L p) (select is_current_file v)))) (known_plan k _) refl
