-- What each call decides on a settled image, refusal by refusal, and that it else stores.
use Rattle.std.specs.Prelude.{true, false, not, ◌≡◌, refl, ℕ, ◌≤◌, ◌<◌, eqb, length, Err}
use mathlib.Core.List.{List, []}
use Rattle.std.proofs.Common.{◌∙◌, sym}
use Rattle.std.proofs.Math.Path.{ap}
use borrow.Author.Tests.{eq-eqb, ne_eqb, lt-ltb, le-ltb}
use Rattle.rules.specs.Flash.{Bytes}
use Rattle.rules.specs.Lists.{first}
use Rattle.rules.specs.Unit.{data_tag, mark_tag, transaction_tag}
use Rattle.rules.specs.Settled.{Entry, Survey, survey}
use Rattle.rules.specs.Jobs
use Rattle.rules.specs.Jobs.{earlier_of, no_earlier, no_room, size_for, store_at, store_job}
use Rattle.rules.specs.Views.{transaction_view}
use Rattle.rules.specs.Answers.{refuses}
use Rattle.rules.specs.Calls
use Rattle.rules.specs.Calls.{Call, begin, delete, has_none, is_absent, is_bad_file, is_too_long, origin_of, plan, refuse, storing, write}
use Rattle.rules.specs.declared.NotDone.TheVariants.{Absent, BadFile, NoRoom, NoTransaction, Open, TooLong}
use Rattle.rules.specs.declared.Geometry.{Geometry}
use Rattle.rules.specs.declared.Rule.{Rule}
use Rattle.rules.specs.declared.Origin.{Origin}
use Rattle.laws.specs.Units.{right_geometry}
use Rattle.step_new.specs.Places.{one_at}
use Rattle.index.specs.Shapes.{EachEntry, Stood, place_of, places}
use Rattle.index.specs.Entries.{at_place, stood}
use Rattle.index.specs.Views.{absent_is_lem, earlier_stands, transaction_stands}
use Rattle.index.specs.Only.{whole_earlier}
use Rattle.theory.specs.Images.Layout.{are_bytes}
use Rattle.call_answer.specs.Laws.{refused}
use Rattle.call_look.specs.Guards.{refuse_false, refuse_true}
use Rattle.call_look.specs.Known.{Known, known_plan}
use Rattle.call_read.proofs.ReadLaws.{origin_at_lem}
use Rattle.call_read.specs.Shapes.{origin_at}
use Rattle.call_store.specs.Stores.{MeetsCall, BehindIf, Stores}
use Rattle.call_store.specs.Laws.{stored_here}
use Rattle.call_write.specs.After.{become_one, begin_after, change_after}

-- ---- the calls
module _ {g : Geometry} {s : Bytes} {home : List ℕ} (known : Known g s home) where
  nowhere_stored : (rule : Rule) (tag : ℕ) (content : Bytes) (earlier : Survey → List Entry) → Jobs.place g rule (size_for content) (survey g s) ≡ no_room → storing (store_job g rule tag content earlier s (survey g s)) ≡ refuses NoRoom
  unfolding storing store_job store_at
  nowhere_stored rule tag content earlier q = ap (λ (x : Jobs.Place). storing (store_at g tag content earlier s (survey g s) x)) q

  -- a store that begins a transaction, and one that changes a file
  begin_by : (rule : Rule) (bytes : are_bytes s ≡ true) (c : Call) (k : ℕ) → plan g s c ≡ storing (store_job g rule transaction_tag [] no_earlier s (survey g s)) → Calls.allowance c ≡ k → Stores g s c rule transaction_tag [] 0 k
  unfolding no_earlier
  begin_by rule bytes c k p l = record {
    allowance = l;
    nowhere = λ q. p ∙ nowhere_stored rule transaction_tag [] no_earlier q;
    here = λ home h homed b w q. p ∙ stored_here g s home homed rule transaction_tag [] no_earlier 0 (become_one [] 0 (unfold places one_at in refl)) h b w q;
    after = λ home left L known remaining q. p ∙ begin_after g s home left known remaining bytes rule transaction_tag [] 0 L q refl;
  }

  change_by_lem : (rule : Rule) (bytes : are_bytes s ≡ true) (c : Call) (tag : ℕ) (content : Bytes) (f a k : ℕ) → plan g s c ≡ storing (store_job g rule tag content (earlier_of f) s (survey g s)) → Calls.allowance c ≡ k
      → places (earlier_of f (survey g s)) ≡ one_at a → BehindIf g (length s) a → Stores g s c rule tag content a k
  change_by_lem rule bytes c tag content f a k p l e b = record {
    allowance = l;
    nowhere = λ q. p ∙ nowhere_stored rule tag content (earlier_of f) q;
    here = λ home h homed i w q. p ∙ stored_here g s home homed rule tag content (earlier_of f) a (become_one (earlier_of f (survey g s)) a e) h i w q;
    after = λ home left L known remaining q. p ∙ change_after g s home left known remaining bytes rule tag content a L q f e b;
  }

  all : EachEntry (Stood g s) (survey g s).entries
  all = stood g s home known.homed

  -- the file's earlier pending descriptor, by its place
  module _ (f a : ℕ) (is : a ≡ place_of (first (earlier_of f (survey g s)))) where
    pub earlier_one : places (earlier_of f (survey g s)) ≡ one_at a
    earlier_one = whole_earlier g s all known.settled f ∙ ap one_at (sym is)

    pub earlier_behind : BehindIf g (length s) a
    earlier_behind n =
        let t = at_place g s (right_geometry g s known.homed.right) (first (earlier_of f (survey g s))) (earlier_stands g s all f) (λ z. n (is ∙ z)) in
        rw is (record { spot = record { whole = t.spot.whole; inside = t.spot.inside }; high = t.high })

  -- begin
  module _ (rule : Rule) (k : ℕ) where
    begin_plan : plan g s (begin rule k) ≡ refuse (not (has_none (survey g s))) Open (storing (store_job g rule transaction_tag [] no_earlier s (survey g s)))
    unfolding plan
    begin_plan = known_plan known _

    pub begin_open : not (has_none (survey g s)) ≡ true → MeetsCall g (begin rule k) s (Err Open) s
    begin_open h = refused g s (begin rule k) Open (begin_plan ∙ refuse_true (not (has_none (survey g s))) Open _ h)

    pub begin_stores : are_bytes s ≡ true → not (has_none (survey g s)) ≡ false → Stores g s (begin rule k) rule transaction_tag [] 0 k
    begin_stores bytes h = begin_by rule bytes (begin rule k) k (begin_plan ∙ refuse_false (not (has_none (survey g s))) Open _ h) (unfold Calls.allowance in refl)

  -- write
  module _ (rule : Rule) (f : ℕ) (c : Bytes) (k : ℕ) where
    write_plan : plan g s (write rule f c k) ≡ refuse (is_bad_file f) BadFile (refuse (is_too_long c) TooLong (refuse (has_none (survey g s)) NoTransaction (storing (store_job g rule (data_tag f) c (earlier_of f) s (survey g s)))))
    unfolding plan
    write_plan = known_plan known _

    pub write_bad_file : 255 < f → MeetsCall g (write rule f c k) s (Err BadFile) s
    write_bad_file h = refused g s (write rule f c k) BadFile (write_plan ∙ refuse_true (is_bad_file f) BadFile _ (unfold is_bad_file in lt-ltb 255 f h))

    module _ (small : f ≤ 255) where
      write_small : plan g s (write rule f c k) ≡ refuse (is_too_long c) TooLong (refuse (has_none (survey g s)) NoTransaction (storing (store_job g rule (data_tag f) c (earlier_of f) s (survey g s))))
      write_small = write_plan ∙ refuse_false (is_bad_file f) BadFile _ (unfold is_bad_file in le-ltb 255 f small)

      pub write_too_long : 256 < length c → MeetsCall g (write rule f c k) s (Err TooLong) s
      write_too_long h = refused g s (write rule f c k) TooLong (write_small ∙ refuse_true (is_too_long c) TooLong _ (unfold is_too_long in lt-ltb 256 (length c) h))

      module _ (short : length c ≤ 256) where
        write_short : plan g s (write rule f c k) ≡ refuse (has_none (survey g s)) NoTransaction (storing (store_job g rule (data_tag f) c (earlier_of f) s (survey g s)))
        write_short = write_small ∙ refuse_false (is_too_long c) TooLong _ (unfold is_too_long in le-ltb 256 (length c) short)

        pub write_none : has_none (survey g s) ≡ true → MeetsCall g (write rule f c k) s (Err NoTransaction) s
        write_none h = refused g s (write rule f c k) NoTransaction (write_short ∙ refuse_true (has_none (survey g s)) NoTransaction _ h)

        pub write_stores : are_bytes s ≡ true → has_none (survey g s) ≡ false → (a : ℕ) → a ≡ place_of (first (earlier_of f (survey g s))) → (tag : ℕ) → tag ≡ data_tag f → Stores g s (write rule f c k) rule tag c a k
        write_stores bytes h a is tag t =
            rw t (change_by_lem rule bytes (write rule f c k) (data_tag f) c f a k (write_short ∙ refuse_false (has_none (survey g s)) NoTransaction _ h) (unfold Calls.allowance in refl)
            (earlier_one f a is) (earlier_behind f a is))

  -- delete
  module _ (rule : Rule) (f k : ℕ) where
    delete_plan : plan g s (delete rule f k) ≡ refuse (is_bad_file f) BadFile (refuse (has_none (survey g s)) NoTransaction (refuse (is_absent (transaction_view f (survey g s))) (Absent (origin_of f (survey g s))) (storing (store_job g rule (mark_tag f) [] (earlier_of f) s (survey g s)))))
    unfolding plan
    delete_plan = known_plan known _

    pub delete_bad_file : 255 < f → MeetsCall g (delete rule f k) s (Err BadFile) s
    delete_bad_file h = refused g s (delete rule f k) BadFile (delete_plan ∙ refuse_true (is_bad_file f) BadFile _ (unfold is_bad_file in lt-ltb 255 f h))

    module _ (small : f ≤ 255) where
      delete_small : plan g s (delete rule f k) ≡ refuse (has_none (survey g s)) NoTransaction (refuse (is_absent (transaction_view f (survey g s))) (Absent (origin_of f (survey g s))) (storing (store_job g rule (mark_tag f) [] (earlier_of f) s (survey g s))))
      delete_small = delete_plan ∙ refuse_false (is_bad_file f) BadFile _ (unfold is_bad_file in le-ltb 255 f small)

      pub delete_none : has_none (survey g s) ≡ true → MeetsCall g (delete rule f k) s (Err NoTransaction) s
      delete_none h = refused g s (delete rule f k) NoTransaction (delete_small ∙ refuse_true (has_none (survey g s)) NoTransaction _ h)

      module _ (h : has_none (survey g s) ≡ false) where
        delete_open : plan g s (delete rule f k) ≡ refuse (is_absent (transaction_view f (survey g s))) (Absent (origin_of f (survey g s))) (storing (store_job g rule (mark_tag f) [] (earlier_of f) s (survey g s)))
        delete_open = delete_small ∙ refuse_false (has_none (survey g s)) NoTransaction _ h

        absent_by : is_absent (transaction_view f (survey g s)) ≡ eqb (place_of (transaction_view f (survey g s))) 0
        absent_by = absent_is_lem g s (transaction_view f (survey g s)) (transaction_stands g s all f)

        pub delete_absent : (b : ℕ) → b ≡ place_of (transaction_view f (survey g s)) → b ≡ 0 → (a : ℕ) → a ≡ place_of (first (earlier_of f (survey g s))) → (w : Origin) → w ≡ origin_at a → MeetsCall g (delete rule f k) s (Err (Absent w)) s
        delete_absent b i z a is w e =
            refused g s (delete rule f k) (Absent w) (delete_open ∙ refuse_true (is_absent (transaction_view f (survey g s))) _ _ (absent_by ∙ eq-eqb _ 0 (sym i ∙ z)) ∙ ap (λ (x : Origin). refuses (Absent x)) (sym (e ∙ origin_at_lem g s all f a is)))

        pub delete_stores : are_bytes s ≡ true → (b : ℕ) → b ≡ place_of (transaction_view f (survey g s)) → (b ≡ 0 → ⊥) → (a : ℕ) → a ≡ place_of (first (earlier_of f (survey g s))) → (tag : ℕ) → tag ≡ mark_tag f → Stores g s (delete rule f k) rule tag [] a k
        delete_stores bytes b i z a is tag t =
            rw t (change_by_lem rule bytes (delete rule f k) (mark_tag f) [] f a k (delete_open ∙ refuse_false (is_absent (transaction_view f (survey g s))) _ _ (absent_by ∙ ne_eqb _ 0 (λ y. z (i ∙ y)))) (unfold Calls.allowance in refl)
            (earlier_one f a is) (earlier_behind f a is))
