-- Laws for those who design screens. Each is of any image at rest (`Rests`: a history reaches it, it is settled, no transaction is open),
-- whatever calls, stops and mounts led to it. They follow from demand 2 (demands: Demands.antt); their words are in Words.antt.
-- Not in them are images, handles and room: the other order puts files elsewhere, and may be refused for want of room.
use Rattle.std.specs.Prelude.{List, [], ◌++◌, ◌∷◌, ◌≢◌, ◌≡◌, refl, ◌<◌, ℕ}
use Rattle.std.proofs.Math.Option.{some}
use Rattle.rules.specs.Answers.{given, number}
use Rattle.rules.specs.Calls.{abort, commit, format, mount, outcome, read}
use Rattle.rules.specs.Flash.{Bytes}
use Rattle.rules.specs.Histories.{Changes, Files, Plain, Reached, formatted, laid_down, no_files}
use Rattle.rules.specs.Listing.{listed}
use Rattle.rules.specs.Plain.{Onward}
use Rattle.rules.specs.Settled.{survey}
use Rattle.rules.specs.Sound.{standing}
use Rattle.rules.specs.declared.Geometry.{Geometry}
use Rattle.rules.specs.declared.Standing.TheVariants.{Settled}
use Rattle.promises.specs.Demands.{format_settles}
use Rattle.promises_screens.specs.Words.{Alike, Change, Commits, Ends, Makes, ReadAlike, Rests, Same, Shows, alike, is_no_commit, last}
use Rattle.promises_screens.specs.Maps.{laid_twice, last_exchanged}
use Rattle.promises_screens.specs.Trips.{trip_files}
use Rattle.promises_screens.specs.Made.{commits_shows, makes_committed}
use Rattle.promises_screens.specs.Both.{both_end, both_show, twice_shows}
use Rattle.promises_screens.specs.Kept.{aborted_keeps, handle_kept, listing_kept, mounted_keeps}
use Rattle.promises_screens.specs.Reading.{read_alike}

-- A finished format leaves an image at rest, with no file. Dropped: the laws might speak of nothing.
pub begins_at_rest : (g : Geometry) (s : Bytes) (k : ℕ) → number (outcome g (format k) s).answer ≡ 0 → Rests g (outcome g (format k) s).image no_files
unfolding no_files
begins_at_rest g s k z = record { reached = formatted s k z; settled = format_settles g s k z; shut = refl }

-- As the screens read them: two images with the same map give, for every file number, the same number and the same content. Dropped:
-- a screen might show one map in two ways.
pub same_reads : (g : Geometry) (s : Bytes) (h : Geometry) (u : Bytes) → Same g s h u → (f : ℕ) → ReadAlike g s h u f
same_reads = read_alike

-- 0. What a transaction makes: every file is what its last change made it, absent where that was a deletion, and what it was where there
-- is none; the image is at rest. Dropped: an earlier write of a file might come through, or a deleted file stay.
pub what_it_makes : (g : Geometry) (s : Bytes) (m : Plain) → Rests g s m → (b : List Change) (k : ℕ) (t : Bytes) → Makes g s b (commit k) t → Shows g t (laid_down (last b) m.files)
what_it_makes g s m r b k t w = makes_committed g r.reached w

-- ---- 1 and 2: two stores with the same map, of two geometries even.
module _ (g : Geometry) (s : Bytes) (h : Geometry) (u : Bytes) (same : Same g s h u) where
  -- 1. Either order: two bodies whose last change of each file is the same leave the same map. Dropped: a screen would have to keep
  -- to one order.
  pub either_order : (b c : List Change) (j k : ℕ) (s' u' : Bytes) → Makes g s b (commit j) s' → Makes h u c (commit k) u' → ((f : ℕ) → last b f ≡ last c f) → Same g s' h u'
  either_order b c j k s' u' v w e = both_show g s h u same b c (makes_committed g same.here.rests.reached v) (makes_committed h same.there.rests.reached w) (λ f. alike (e f))

  -- Its least case: two neighbours of different files are exchanged. By it any order that keeps the order within each file.
  pub two_exchanged : (a : List Change) (c d : Change) (b : List Change) → c.file ≢ d.file → (j k : ℕ) (s' u' : Bytes)
      → Makes g s (a ++ c ∷ d ∷ b) (commit j) s' → Makes h u (a ++ d ∷ c ∷ b) (commit k) u' → Same g s' h u'
  two_exchanged a c d b n j k s' u' v w = either_order (a ++ c ∷ d ∷ b) (a ++ d ∷ c ∷ b) j k s' u' v w (last_exchanged a c d n b)

  -- 2. Commits in a row, any number on either side: the same map where the last change of each file of all the bodies is the same, or
  -- where it is a deletion of a file that was not there, which the other side may leave out. Dropped: saving in two parts might
  -- differ from saving at once.
  pub in_a_row : (b d : List Change) (s' u' : Bytes) → Commits g s b s' → Commits h u d u' → ((f : ℕ) → Alike (same.files f) (last b f) (last d f)) → Same g s' h u'
  in_a_row b d s' u' v w e = both_show g s h u same b d (commits_shows g same.here.rests v) (commits_shows h same.there.rests w) e

  -- Two commits in a row, and one with each file's later entry.
  pub two_commits : (a b d : List Change) (i j k : ℕ) (x s' u' : Bytes) → Makes g s a (commit i) x → Makes g x b (commit j) s' → Makes h u d (commit k) u'
      → ((f : ℕ) → Alike (same.files f) (last (a ++ b) f) (last d f)) → Same g s' h u'
  two_commits a b d i j k x s' u' v w z e = both_show g s h u same (a ++ b) d (twice_shows g same.here.rests v w) (makes_committed h same.there.rests.reached z) e

-- On plain maps: one transaction laid down over another is one with the later entries.
pub laid_down_twice : (a b : List Change) (m : Files) (f : ℕ) → laid_down (last b) (laid_down (last a) m) f ≡ laid_down (last (a ++ b)) m f
laid_down_twice = laid_twice

-- 1 inside an open transaction: of two images with the same files and the same changes so far. Dropped: the order might matter there.
pub either_order_within : (g : Geometry) (s : Bytes) (m : Plain) (h : Geometry) (u : Bytes) (n : Plain) → Reached g s m → Reached h u n
    → (o p : Changes) → m.changes ≡ some o → n.changes ≡ some p → ((f : ℕ) → m.files f ≡ n.files f) → ((f : ℕ) → o f ≡ p f)
    → (b c : List Change) (j k : ℕ) (s' u' : Bytes) → Ends g s b (commit j) s' → Ends h u c (commit k) u' → ((f : ℕ) → last b f ≡ last c f) → Same g s' h u'
either_order_within g s m h u n r q o p has has' files changes b c j k s' u' v w e = both_end g h r q o p has has' files changes v w e

-- Two changes of different files exchanged, with any rest behind them.
pub exchanged_within : (g : Geometry) (s : Bytes) (m : Plain) → Reached g s m → (o : Changes) → m.changes ≡ some o → (c d : Change) (b : List Change) → c.file ≢ d.file
    → (j k : ℕ) (s' u' : Bytes) → Ends g s (c ∷ d ∷ b) (commit j) s' → Ends g s (d ∷ c ∷ b) (commit k) u' → Same g s' g u'
exchanged_within g s m r o has c d b n j k s' u' v w = both_end g g r r o o has has (λ f. refl) (λ f. refl) v w (last_exchanged [] c d n b)

-- ---- 3: nothing committed.
module _ (g : Geometry) (s : Bytes) (m : Plain) (r : Rests g s m) where
  -- An aborted transaction: the store is what it was, and the listing the same to the byte. Dropped: a screen that was left might
  -- have changed something.
  pub aborted : (b : List Change) (k : ℕ) (t : Bytes) → Makes g s b (abort k) t → Rests g t m × (listed g t ≡ listed g s)
  aborted b k t w = aborted_keeps g r w

  -- The same where a finished mount takes the abort's place.
  pub mounted : (b : List Change) (k : ℕ) (t : Bytes) → Makes g s b (mount k) t → Rests g t m × (listed g t ≡ listed g s)
  mounted b k t w = mounted_keeps g r w

-- Over any calls but format of which none is a commit that made a step, stopped, refused or not: the map stays what it was. Dropped: a
-- stopped write might show.
pub nothing_committed : (g : Geometry) (s : Bytes) (m : Plain) (t : Bytes) (n : Plain) → Onward g is_no_commit s m t n → n.files ≡ m.files
nothing_committed g s m t n w = trip_files g w

-- And where both images are settled, each file keeps its handle; the listing is the same to the byte where both have no transaction
-- open, or the same one. Dropped: an abort might move a file for those who look.
pub handles_stay : (g : Geometry) (s : Bytes) (m : Plain) (t : Bytes) (n : Plain) → Reached g s m → Onward g is_no_commit s m t n → standing g (survey g s) ≡ Settled → standing g (survey g t) ≡ Settled
    → ((f : ℕ) → f < 256 → (given (outcome g (read f) t).answer).at ≡ (given (outcome g (read f) s).answer).at) × (n.changes ≡ m.changes → listed g t ≡ listed g s)
handles_stay g s m t n r w a b = (handle_kept g r w a b, listing_kept g r w a b)
