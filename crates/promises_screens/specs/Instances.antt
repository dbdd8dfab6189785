-- What `witness` computes of the laws are these theorems, each for one history: what makes a row false makes its law false.
use Rattle.std.specs.Prelude.{Bool, ◌&&◌, cond, false, not, true, List, [], ◌++◌, ◌∷◌, ◌≡◌, refl, ℕ, eqb, ltb}
use Rattle.std.proofs.Math.Option.{Option, none, some}
use Rattle.std.proofs.Common.{◌∙◌, ap, sym, arith}
use Rattle.rules.specs.Opened.{opened}
use Rattle.rules.specs.Answers.{content, number}
use Rattle.rules.specs.Calls.{Call, abort, begin, commit, delete, has_none, is_bad_file, mount, outcome, read, write}
use Rattle.rules.specs.Flash.{Bytes}
use Rattle.rules.specs.Histories.{Plain, as_made, begun, dropped, ended_in, follow, is_content, is_format, laid_down, no_changes, no_files, takes_bytes, unless}
use Rattle.rules.specs.Listing.{listed}
use Rattle.rules.specs.Lists.{all, is_none}
use Rattle.rules.specs.Plain.{Onward, here, onward}
use Rattle.rules.specs.Settled.{Entry, select, survey}
use Rattle.rules.specs.Sound.{is_same, standing}
use Rattle.rules.specs.Unit.{is_open}
use Rattle.rules.specs.declared.Standing.TheVariants.{Settled}
use Rattle.rules.specs.declared.Rule.TheVariants.{Tightest}
use Rattle.laws.specs.Words.{same_self}
use Rattle.theory.specs.Base.Facts.{and_l, and_r, both, eq_of, eqb_same}
use Rattle.witness.specs.Short.{ListsAlike, ReadsAlike, ReadsAs, abc, abd, are_done, erased_image, image, image_from, plenty, small, start}
use Rattle.witness.specs.Orders.{in_one_done, in_two_done, in_one, in_two, never_written_done, never_written, nine_seven_done, nine_seven, seven_nine_done, seven_nine, then_deleted_done, then_deleted, two_writes_done, two_writes}
use Rattle.witness.specs.Dropped.{aborted_done, committed_seven, mounted_done, stopped_commits_none, stopped_mounts, then_aborted, then_mounted, then_stopped}
use Rattle.promises.specs.Demands.{mount_settles}
use Rattle.promises_screens.specs.Words.{Alike, Change, Ends, Makes, Rests, Same, Shows, alike, call_of, call_to, change, is_no_commit, last, later, left_out, whole}
use Rattle.promises_screens.specs.Trips.{trip_reached}
use Rattle.promises_screens.specs.Made.{begun_reached}
use Rattle.promises_screens.specs.Reading.{read_there}
use Rattle.promises_screens.specs.Screens as laws

-- the changes of a body as calls
abbrev calls : List Change → List Call
calls [] = []
calls (c ∷ b) = call_of Tightest c plenty ∷ calls b

abbrev are_fair : List Change → Bool
are_fair [] = true
are_fair (c ∷ b) = takes_bytes (call_of Tightest c plenty) && are_fair b

ends_from : (b : List Change) (e : Call) (s : Bytes) → are_fair b ≡ true → are_done s (calls b ++ (e ∷ [])) ≡ true → Ends small s b e (image_from s (calls b ++ (e ∷ [])))
ends_from [] e s fair d = record { before = s; body = whole; done = eq_of (number (outcome small e s).answer) 0 (and_l (eqb (number (outcome small e s).answer) 0) true d); image = refl }
ends_from (c ∷ b) e s fair d =
    let o = outcome small (call_of Tightest c plenty) s in
    let rest = are_done o.image (calls b ++ (e ∷ [])) in
    let r = ends_from b e o.image (and_r (takes_bytes (call_of Tightest c plenty)) (are_fair b) fair) (and_r (eqb (number o.answer) 0) rest d) in
    record {
      before = r.before;
      body = change c Tightest plenty (and_l (takes_bytes (call_of Tightest c plenty)) (are_fair b) fair) (eq_of (number o.answer) 0 (and_l (eqb (number o.answer) 0) rest d)) r.body;
      done = r.done;
      image = r.image;
    }

makes_from : (b : List Change) (e : Call) (s : Bytes) → are_fair b ≡ true → are_done s (begin Tightest plenty ∷ (calls b ++ (e ∷ []))) ≡ true → Makes small s b e (image_from s (begin Tightest plenty ∷ (calls b ++ (e ∷ []))))
makes_from b e s fair d =
    let o = outcome small (begin Tightest plenty) s in
    let rest = are_done o.image (calls b ++ (e ∷ [])) in
    record { rule = Tightest; k = plenty; begins = eq_of (number o.answer) 0 (and_l (eqb (number o.answer) 0) rest d); ends = ends_from b e o.image fair (and_r (eqb (number o.answer) 0) rest d) }

done_split : (a b : List Call) (s : Bytes) → are_done s (a ++ b) ≡ true → (are_done s a ≡ true) × (are_done (image_from s a) b ≡ true)
done_split [] b s d = (refl, d)
done_split (c ∷ a) b s d =
    let o = outcome small c s in
    let r = done_split a b o.image (and_r (eqb (number o.answer) 0) (are_done o.image (a ++ b)) d) in
    (both (and_l (eqb (number o.answer) 0) (are_done o.image (a ++ b)) d) r.0, r.1)

-- ---- the start
at_start : Rests small start no_files
unfolding opened
at_start = laws.begins_at_rest small erased_image plenty refl

same_start : Same small start small start
same_start =
    let shows : Shows small start no_files.files = record { store = no_files; rests = at_start; same = λ f. refl } in
    record { files = no_files.files; here = shows; there = shows }

-- ---- a row from its law
reads_alike : (cs ds : List Call) → Same small (image cs) small (image ds) → (f : ℕ) → ReadsAlike cs ds f
reads_alike cs ds w f =
    let r = laws.same_reads small (image cs) small (image ds) w f in
    let o = outcome small (read f) (image ds) in
    both (ap (λ (n : ℕ). eqb n (number o.answer)) r.numbers ∙ eqb_same (number o.answer)) (ap (λ (x : Bytes). is_same x (content o)) r.contents ∙ same_self (content o))

-- ---- the bodies of the rows
abbrev to7 : Option Bytes → Change
to7 x = record { file = 7; to = x }

abbrev to9 : Option Bytes → Change
to9 x = record { file = 9; to = x }

fair : (x y : Change) → takes_bytes (call_of Tightest x plenty) ≡ true → takes_bytes (call_of Tightest y plenty) ≡ true → are_fair (x ∷ y ∷ []) ≡ true
fair x y p q = both p (both q refl)

fair_abc : takes_bytes (call_of Tightest (to7 (some abc)) plenty) ≡ true
unfolding opened call_of call_to
fair_abc = refl

fair_abd : takes_bytes (call_of Tightest (to7 (some abd)) plenty) ≡ true
unfolding opened call_of call_to
fair_abd = refl

fair_nine : takes_bytes (call_of Tightest (to9 (some abd)) plenty) ≡ true
unfolding opened call_of call_to
fair_nine = refl

fair_gone : takes_bytes (call_of Tightest (to7 none) plenty) ≡ true
unfolding opened call_of call_to
fair_gone = refl

-- ---- the statements of witness, from the laws alone
pub later_write : ReadsAs two_writes 7 abd
unfolding call_of call_to laid_down unless last later no_files is_bad_file
later_write =
    let w = laws.what_it_makes small start no_files at_start (to7 (some abc) ∷ to7 (some abd) ∷ []) plenty (image two_writes)
    (makes_from (to7 (some abc) ∷ to7 (some abd) ∷ []) (commit plenty) start (fair (to7 (some abc)) (to7 (some abd)) fair_abc fair_abd) two_writes_done) in
    let r = read_there small w.rests 7 abd refl (w.same 7) in
    let o = outcome small (read 7) (image two_writes) in
    both (ap (λ (n : ℕ). eqb n 0) r.0) (ap (λ (x : Bytes). is_same x abd) r.1 ∙ same_self abd)

pub either_order : ReadsAlike seven_nine nine_seven 7
unfolding call_of call_to
either_order =
    reads_alike seven_nine nine_seven
    (laws.two_exchanged small start small start same_start [] (to7 (some abc)) (to9 (some abd)) [] (λ e. omega arith) plenty plenty (image seven_nine) (image nine_seven)
    (makes_from (to7 (some abc) ∷ to9 (some abd) ∷ []) (commit plenty) start (fair (to7 (some abc)) (to9 (some abd)) fair_abc fair_nine) seven_nine_done)
    (makes_from (to9 (some abd) ∷ to7 (some abc) ∷ []) (commit plenty) start (fair (to9 (some abd)) (to7 (some abc)) fair_nine fair_abc) nine_seven_done)) 7

-- the same row: the transaction is open before the two writes
pub either_order_within : ReadsAlike seven_nine nine_seven 7
unfolding call_of call_to begun
either_order_within =
    let a = done_split (begin Tightest plenty ∷ []) (write Tightest 7 abc plenty ∷ write Tightest 9 abd plenty ∷ commit plenty ∷ []) start seven_nine_done in
    let b = done_split (begin Tightest plenty ∷ []) (write Tightest 9 abd plenty ∷ write Tightest 7 abc plenty ∷ commit plenty ∷ []) start nine_seven_done in
    let n = number (outcome small (begin Tightest plenty) start).answer in
    reads_alike seven_nine nine_seven
    (laws.exchanged_within small (image (begin Tightest plenty ∷ [])) (begun no_files) (begun_reached small at_start.reached Tightest plenty (eq_of n 0 (and_l (eqb n 0) true a.0))) no_changes refl
    (to7 (some abc)) (to9 (some abd)) [] (λ e. omega arith) plenty plenty (image seven_nine) (image nine_seven)
    (ends_from (to7 (some abc) ∷ to9 (some abd) ∷ []) (commit plenty) (image (begin Tightest plenty ∷ [])) (fair (to7 (some abc)) (to9 (some abd)) fair_abc fair_nine) a.1)
    (ends_from (to9 (some abd) ∷ to7 (some abc) ∷ []) (commit plenty) (image (begin Tightest plenty ∷ [])) (fair (to9 (some abd)) (to7 (some abc)) fair_nine fair_abc) b.1)) 7

pub two_commits : ReadsAlike in_two in_one 7
unfolding call_of call_to last later
two_commits =
    let d = done_split in_first in_second start in_two_done in
    reads_alike in_two in_one
    (laws.two_commits small start small start same_start (to7 (some abc) ∷ []) (to7 (some abd) ∷ []) (to7 (some abd) ∷ []) plenty plenty plenty (image in_first) (image in_two) (image in_one)
    (makes_from (to7 (some abc) ∷ []) (commit plenty) start (both fair_abc refl) d.0)
    (makes_from (to7 (some abd) ∷ []) (commit plenty) (image in_first) (both fair_abd refl) d.1)
    (makes_from (to7 (some abd) ∷ []) (commit plenty) start (both fair_abd refl) in_one_done)
    (λ f. alike (go (eqb f 7)))) 7
  where
    in_first : List Call
    in_first = begin Tightest plenty ∷ write Tightest 7 abc plenty ∷ commit plenty ∷ []

    in_second : List Call
    in_second = begin Tightest plenty ∷ write Tightest 7 abd plenty ∷ commit plenty ∷ []

    go : (b : Bool) → later (cond b (some (some abd)) none) (cond b (some (some abc)) none) ≡ cond b (some (some abd)) none
    go true = refl
    go false = refl

pub deleted_left_out : ReadsAlike then_deleted never_written 7
unfolding call_of call_to last later no_files same_start
deleted_left_out =
    let d = done_split first second start then_deleted_done in
    reads_alike then_deleted never_written
    (laws.two_commits small start small start same_start (to7 (some abc) ∷ []) (to7 none ∷ []) [] plenty plenty plenty (image first) (image then_deleted) (image never_written)
    (makes_from (to7 (some abc) ∷ []) (commit plenty) start (both fair_abc refl) d.0)
    (makes_from (to7 none ∷ []) (commit plenty) (image first) (both fair_gone refl) d.1)
    (makes_from [] (commit plenty) start refl never_written_done)
    (λ f. go (eqb f 7))) 7
  where
    first : List Call
    first = begin Tightest plenty ∷ write Tightest 7 abc plenty ∷ commit plenty ∷ []

    second : List Call
    second = begin Tightest plenty ∷ delete Tightest 7 plenty ∷ commit plenty ∷ []

    go : (b : Bool) → Alike none (later (cond b (some none) none) (cond b (some (some abc)) none)) none
    go true = left_out refl refl refl
    go false = alike refl

-- file 7 committed, at rest
seven : Shows small (image committed_seven) (laid_down (last (to7 (some abc) ∷ [])) no_files.files)
unfolding call_of call_to
seven =
    laws.what_it_makes small start no_files at_start (to7 (some abc) ∷ []) plenty (image committed_seven)
    (makes_from (to7 (some abc) ∷ []) (commit plenty) start (both fair_abc refl) (done_split committed_seven then_aborted start aborted_done).0)

lists_alike : (cs ds : List Call) → listed small (image cs) ≡ listed small (image ds) → ListsAlike cs ds
lists_alike cs ds e = ap (λ (x : Bytes). is_same x (listed small (image ds))) e ∙ same_self (listed small (image ds))

pub aborted_listing : ListsAlike (committed_seven ++ then_aborted) committed_seven
unfolding call_of call_to
aborted_listing =
    lists_alike (committed_seven ++ then_aborted) committed_seven
    (laws.aborted small (image committed_seven) seven.store seven.rests (to9 (some abd) ∷ to7 none ∷ []) plenty (image (committed_seven ++ then_aborted))
    (makes_from (to9 (some abd) ∷ to7 none ∷ []) (abort plenty) (image committed_seven) (fair (to9 (some abd)) (to7 none) fair_nine fair_gone) (done_split committed_seven then_aborted start aborted_done).1)).1

pub mounted_listing : ListsAlike (committed_seven ++ then_mounted) committed_seven
unfolding call_of call_to
mounted_listing =
    lists_alike (committed_seven ++ then_mounted) committed_seven
    (laws.mounted small (image committed_seven) seven.store seven.rests (to9 (some abd) ∷ []) plenty (image (committed_seven ++ then_mounted))
    (makes_from (to9 (some abd) ∷ []) (mount plenty) (image committed_seven) (both fair_nine refl) (done_split committed_seven then_mounted start mounted_done).1)).1

pub stopped_listing : ListsAlike (committed_seven ++ (then_stopped ++ (mount plenty ∷ []))) committed_seven
unfolding is_format takes_bytes is_content all is_no_commit follow ended_in has_none is_none dropped
stopped_listing =
    lists_alike (committed_seven ++ (then_stopped ++ (mount plenty ∷ []))) committed_seven
    ((laws.handles_stay small (image committed_seven) seven.store (image (committed_seven ++ (then_stopped ++ (mount plenty ∷ [])))) (follow small (mount plenty) (outcome small (mount plenty) (image (committed_seven ++ then_stopped))) n) seven.rests.reached (onward (mount plenty) refl refl refl before as_made) seven.rests.settled after.0).1
    (ap (λ (l : List Entry). (cond (is_none l) (dropped n) n).changes) after.1 ∙ sym seven.rests.shut))
  where
    begun' : Plain
    begun' = follow small (begin Tightest plenty) (outcome small (begin Tightest plenty) (image committed_seven)) seven.store

    written : Plain
    written = follow small (write Tightest 9 abd 3) (outcome small (write Tightest 9 abd 3) (image (committed_seven ++ (begin Tightest plenty ∷ [])))) begun'

    n : Plain
    n = follow small (commit plenty) (outcome small (commit plenty) (image (committed_seven ++ (begin Tightest plenty ∷ write Tightest 9 abd 3 ∷ [])))) written

    before : Onward small is_no_commit (image committed_seven) seven.store (image (committed_seven ++ then_stopped)) n
    before = onward (commit plenty) refl refl (ap (λ (k : ℕ). not (ltb 0 k)) stopped_commits_none) (onward (write Tightest 9 abd 3) refl refl refl (onward (begin Tightest plenty) refl refl refl here as_made) as_made) as_made

    after : (standing small (survey small (image (committed_seven ++ (then_stopped ++ (mount plenty ∷ []))))) ≡ Settled) × (select is_open (survey small (image (committed_seven ++ (then_stopped ++ (mount plenty ∷ []))))) ≡ [])
    after = mount_settles small (image (committed_seven ++ then_stopped)) n (trip_reached small seven.rests.reached before) plenty stopped_mounts
