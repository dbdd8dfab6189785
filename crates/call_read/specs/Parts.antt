-- The part of the image that a read gives lies in the image, so the content is that part.
use Rattle.std.proofs.Math.Path.{◌≡◌, refl, ap, subst}
use Rattle.std.proofs.Common.{sym, ◌∙◌, le-ltb, leb-true}
use Rattle.std.specs.Prelude.{Bool, not, ◌&&◌, ◌||◌, List, [], ◌∷◌, ℕ, suc, ◌+◌, ◌-◌, ◌%◌, ◌≤◌, eqb, leb, drop, Err}
use Rattle.std.proofs.Math.Bool.{true, false, cond}
use Rattle.std.proofs.Math.Option.{Option, none, some}
use native.Mathlib.Omega.{arith}
use Rattle.std.proofs.Math.ListN.{length, take}
use Rattle.std.proofs.Math.Seq.{take-nil}
use Rattle.rules.specs.Lists.{all, first, filter}
use Rattle.rules.specs.Flash.{Bytes, is_geometry}
use Rattle.rules.specs.Unit.{Descriptor, size, has_sector, is_allocated, is_pending, is_current, is_old, is_transaction, is_mark, is_tagged, file_of, is_pending_file, is_current_file, lies, is_placed, is_home, stands, n}
use Rattle.rules.specs.Settled.{Physical, Home, Entry, Survey, entries_in, entries_of, survey, pick, select, of_file}
use Rattle.rules.specs.Sound.{standing}
use Rattle.rules.specs.Views.{committed_view, transaction_view, laid_over, unless_mark}
use Rattle.rules.specs.Answers.{Plan, refuses, shows, given, nothing, number, origin, content, shown, carry_out, Answer}
use Rattle.rules.specs.Calls.{Call, is_at, showing, origin_of, showing_at, plan, allowance, outcome}
use Rattle.laws.specs.Tests.{all_uncons, and_inv}
use Rattle.laws.specs.Homes.{settled_parts}
use Rattle.laws.specs.Rooms.{home_parts}
use Rattle.laws.specs.Plans.{in_settled_lem, or_refused}
use Rattle.laws.specs.Runs.{applied}
use Rattle.laws.specs.Calls.{ReadingCall, reads, reads_open, reads_at, refused_given, call_image, read_list}
use Rattle.rules.specs.declared.Geometry.{Geometry}
use Rattle.rules.specs.declared.Handle.{Handle}
use Rattle.rules.specs.declared.Origin.{Origin}
use Rattle.rules.specs.declared.Origin.TheVariants.{NotSaid}
use Rattle.rules.specs.declared.Given.{Given}
use Rattle.rules.specs.declared.Standing.TheVariants.{Settled}
use Rattle.rules.specs.declared.NotDone.{NotDone}
use Rattle.rules.specs.declared.NotDone.TheVariants.{BadFile, NoTransaction, Absent, BadHandle}
use Rattle.laws.specs.Units.{RightGeometry, right_geometry, row}
use Rattle.home_table.specs.Places.{places_of}
use Rattle.index.specs.Shapes.{EachEntry, end, and, Stood}
use Rattle.index.specs.Entries.{stood, each_append, each_filter, each_first}
use Rattle.call_look.specs.Known.{Known, settled_known}
use Rattle.call_read.specs.Shapes.{part_of, start_of}

-- ---- the part
pub part_whole : (s : Bytes) (a m : ℕ) → a + m ≤ length s → part_of s a m ≡ take m (drop a s)
unfolding part_of
part_whole s a m h = rw (le-ltb (length s) a (omega arith), le-ltb (length s - a) m (omega arith))

pub part_none : (s : Bytes) → [] ≡ part_of s 0 0
part_none s = sym (part_whole s 0 0 (omega arith))

pub start_whole : (s : Bytes) (a m : ℕ) → a + m ≤ length s → start_of s a m ≡ a
unfolding start_of
start_whole s a m h = rw (le-ltb (length s) a (omega arith), le-ltb (length s - a) m (omega arith))

pub start_none : (s : Bytes) → 0 ≡ start_of s 0 0
start_none s = sym (start_whole s 0 0 (omega arith))

-- ---- the sectors of the homes lie in their units
-- A sector lies in its unit.
Fits : Geometry → Entry → Type 0
Fits g e = has_sector e.descriptor ≡ true → e.descriptor.offset + e.descriptor.len ≤ g.size

placed_fits : (g : Geometry) (floor : ℕ) (d : Descriptor) → is_placed g floor d ≡ true → has_sector d ≡ true → d.offset + d.len ≤ g.size
unfolding is_placed lies size
placed_fits g floor d e k =
    let l : lies g floor d ≡ true = rw k at e in
    let a = and_inv (eqb (d.offset % 2) 0 && leb floor d.offset && leb (d.offset + size d) g.size) (is_tagged d) l in
    let b = and_inv (eqb (d.offset % 2) 0 && leb floor d.offset) (leb (d.offset + size d) g.size) a.0 in
    omega (arith, leb-true (d.offset + size d) g.size b.1)

fits_in : (g : Geometry) (floor L : ℕ) (p : Physical) (i : ℕ) (ds : List Descriptor) → all (is_placed g floor) ds ≡ true → EachEntry (Fits g) (entries_in L p i ds)
unfolding entries_in Fits
fits_in g floor L p i [] h = end
fits_in g floor L p i (d ∷ ds) h =
    let a = all_uncons (is_placed g floor) d ds h in
    and (placed_fits g floor d a.0) (fits_in g floor L p (suc i) ds a.1)

home_placed : (g : Geometry) (h : Home) → is_home g h.unit.bytes h.room ≡ true → all (is_placed g (stands (n h.room))) h.room.array ≡ true
home_placed g h e = (home_parts g h.unit.bytes h.room e).placed

fits_of : (g : Geometry) (hs : List Home) → all (λ (h : Home). is_home g h.unit.bytes h.room) hs ≡ true → EachEntry (Fits g) (entries_of hs)
unfolding entries_of
fits_of g [] e = end
fits_of g (h ∷ hs) e =
    let a = all_uncons (λ (h : Home). is_home g h.unit.bytes h.room) h hs e in
    each_append (fits_in g (stands (n h.room)) h.number h.unit 0 h.room.array (home_placed g h a.0)) (fits_of g hs a.1)

current_sector : (d : Descriptor) → is_current_file d ≡ true → has_sector d ≡ true
unfolding is_current_file has_sector
current_sector d e = rw (and_inv (is_current d) (not (is_transaction d)) e).0 (go (is_allocated d) (is_pending d))
  where
    go : (a b : Bool) → a || b || true || is_old d ≡ true
    go true b = refl
    go false true = refl
    go false false = refl

pending_sector : (d : Descriptor) → is_pending_file d ≡ true → has_sector d ≡ true
unfolding is_pending_file has_sector
pending_sector d e = rw (and_inv (is_pending d) (not (is_transaction d)) e).0 (go (is_allocated d))
  where
    go : (a : Bool) → a || true || is_current d || is_old d ≡ true
    go true = refl
    go false = refl

-- ---- what the views show
module _ (g : Geometry) (s : Bytes) (home : List ℕ) (k : Known g s home) where
  abbrev v : Survey
  v = survey g s

  -- The sector's bytes stand in the image.
  Inside : Entry → Type 0
  Inside e = e.start + e.descriptor.len ≤ length s

  o : RightGeometry g s
  o = right_geometry g s k.homed.right

  inside : (t : Descriptor → Bool) → ((d : Descriptor) → t d ≡ true → has_sector d ≡ true) → {es : List Entry} → EachEntry (Stood g s) es → EachEntry (Fits g) es → EachEntry Inside (pick t es)
  unfolding pick filter Inside Fits
  inside t f end end = end
  inside t f (and {e} {es} p r) (and q u) = go (t e.descriptor) refl (inside t f r u)
    where
      go : (b : Bool) → t e.descriptor ≡ b → EachEntry Inside (pick t es) → EachEntry Inside (cond b (e ∷ pick t es) (pick t es))
      go true h w =
          let i : Inside e = omega (arith, p.start, q (f e.descriptor h), row p.unit g.units g.size p.below, o.whole) in
          and i w
      go false h w = w

  selected : (t : Descriptor → Bool) → ((d : Descriptor) → t d ≡ true → has_sector d ≡ true) → EachEntry Inside (select t v)
  unfolding select survey
  selected t f = inside t f (stood g s home k.homed) (fits_of g v.homes (settled_parts g v k.settled).homes)

  -- An entry that may be there stands in the image.
  Shows : Option Entry → Type 0
  Shows o = (e : Entry) → o ≡ some e → Inside e

  committed_inside : (f : ℕ) → Shows (committed_view f v)
  unfolding committed_view Shows
  committed_inside f e q = each_first (each_filter (of_file f) (selected is_current_file current_sector)) q

  transaction_inside : (f : ℕ) → Shows (transaction_view f v)
  unfolding transaction_view laid_over unless_mark Shows
  transaction_inside f e q = go (first (filter (of_file f) (select is_pending_file v))) refl q
    where
      go : (o : Option Entry) → first (filter (of_file f) (select is_pending_file v)) ≡ o → laid_over o (committed_view f v) ≡ some e → Inside e
      go none h q = committed_inside f e q
      go (some x) h q = unmarked (is_mark x.descriptor) q
        where
          unmarked : (b : Bool) → cond b none (some x) ≡ some e → Inside e
          unmarked true r = let z : ◌≡◌ {A = ℕ} 0 1 = cc in absurd (omega arith)
          unmarked false r = subst Inside (cc) (each_first (each_filter (of_file f) (selected is_pending_file pending_sector)) h)

  named_inside : (L p : ℕ) → Shows (first (filter (is_at L p) (select is_current_file v)))
  unfolding Shows
  named_inside L p e q = each_first (each_filter (is_at L p) (selected is_current_file current_sector)) q

-- ---- every read
-- The part that an answer gives lies in the image.
abbrev pub Given-in : Bytes → Answer → Type 0
Given-in s a = (given a).start + (given a).len ≤ length s

module _ (g : Geometry) (s : Bytes) where
  Plan-in : Plan → Type 0
  Plan-in p = Given-in s (carry_out p 0 s).answer

  refused_in : (a : NotDone) → 2 ≤ number (Err a) → Plan-in (refuses a)
  unfolding Plan-in carry_out nothing
  refused_in a h = subst (λ (r : Given). r.start + r.len ≤ length s) (sym (refused_given (Err a) h)) (omega arith)

  shown_in_lem : (h : Handle) (f : ℕ) (e : Entry) (w : Origin) → e.start + e.descriptor.len ≤ length s → Plan-in (shows h f e w)
  unfolding Plan-in carry_out given shown
  shown_in_lem h f e w l = go (eqb e.descriptor.len 0)
    where
      go : (b : Bool) → cond b 0 e.start + e.descriptor.len ≤ length s
      go true = omega arith
      go false = l

  module _ (right : is_geometry g (length s) ≡ true) (settled : standing g (survey g s) ≡ Settled) where
    abbrev home : List ℕ
    home = places_of g.size g.units s

    known : Known g s home
    known = settled_known g s right settled

    showing_in : (w : Origin) (o : Option Entry) → Shows g s home known o → Plan-in (showing w o)
    unfolding showing Shows Inside number
    showing_in w none h = refused_in (Absent w) (omega arith)
    showing_in w (some e) h = shown_in_lem e.at 0 e w (h e refl)

    showing_at_in : (o : Option Entry) → Shows g s home known o → Plan-in (showing_at o)
    unfolding showing_at Shows Inside number
    showing_at_in none h = refused_in BadHandle (omega arith)
    showing_at_in (some e) h = shown_in_lem origin (file_of e.descriptor) e NotSaid (h e refl)

  plan_in : {c : Call} → ReadingCall c → Plan-in (plan g s c)
  unfolding plan number
  plan_in (reads f) =
      in_settled_lem Plan-in refused_in g s _ λ e t.
      or_refused Plan-in refused_in g s _ BadFile _ (omega arith)
      (showing_in e t NotSaid (committed_view f (survey g s)) (committed_inside g s (home e t) (known e t) f))
  plan_in (reads_open f) =
      in_settled_lem Plan-in refused_in g s _ λ e t.
      or_refused Plan-in refused_in g s _ BadFile _ (omega arith)
      (or_refused Plan-in refused_in g s _ NoTransaction _ (omega arith)
      (showing_in e t (origin_of f (survey g s)) (transaction_view f (survey g s)) (transaction_inside g s (home e t) (known e t) f)))
  plan_in (reads_at L p) =
      in_settled_lem Plan-in refused_in g s _ λ e t.
      showing_at_in e t (first (filter (is_at L p) (select is_current_file (survey g s)))) (named_inside g s (home e t) (known e t) L p)

  none_left : {c : Call} → ReadingCall c → allowance c ≡ 0
  unfolding allowance
  none_left (reads f) = refl
  none_left (reads_open f) = refl
  none_left (reads_at L p) = refl

  -- What a read gives lies in the image.
  pub read_inside : {c : Call} → ReadingCall c → Given-in s (outcome g c s).answer
  unfolding outcome Plan-in
  read_inside {c} r = subst (λ (k : ℕ). Given-in s (carry_out (plan g s c) k s).answer) (sym (none_left r)) (plan_in r)

  -- A read leaves the image as it is.
  pub read_image : {c : Call} → ReadingCall c → (outcome g c s).image ≡ s
  unfolding applied
  read_image {c} r = call_image g c s ∙ ap (λ xs. applied (take (allowance c) xs) s) (read_list g s r) ∙ ap (λ xs. applied xs s) (take-nil (allowance c))

  -- The content of a read is the part that its answer gives.
  pub read_content : {c : Call} → ReadingCall c → part_of s (given (outcome g c s).answer).start (given (outcome g c s).answer).len ≡ content (outcome g c s)
  unfolding content
  read_content {c} r =
      let a = given (outcome g c s).answer in
      part_whole s a.start a.len (read_inside r) ∙ ap (λ (x : Bytes). take a.len (drop a.start x)) (sym (read_image r))

  -- It stands where the answer says.
  pub read_start : {c : Call} → ReadingCall c → start_of s (given (outcome g c s).answer).start (given (outcome g c s).answer).len ≡ (given (outcome g c s).answer).start
  read_start {c} r = let a = given (outcome g c s).answer in start_whole s a.start a.len (read_inside r)
