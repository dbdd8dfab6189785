-- What `witness` computes are theorems of Demands.antt, each for one history: what makes one of them false makes its theorem false.
use Rattle.std.specs.Prelude.{Bool, true, false, List, [], ◌++◌, ◌∷◌, ◌≡◌, ◌<◌, ℕ, T, length}
use Rattle.std.proofs.Common.{◌∙◌, ap, arith}
use Rattle.std.proofs.Math.Path.{refl}
use Rattle.rules.specs.Opened.{opened}
use Rattle.rules.specs.Answers.{from_number}
use Rattle.rules.specs.Calls.{Call, begin, mount, outcome, read, read_open, write}
use Rattle.rules.specs.Histories.{Plain, Reached, as_made, called, follow, is_format, takes_bytes}
use Rattle.rules.specs.Plain.{here, onward}
use Rattle.rules.specs.Flash.{Bytes}
use Rattle.rules.specs.Settled.{homes_from, survey}
use Rattle.rules.specs.Sound.{is_same, standing}
use Rattle.rules.specs.declared.Rule.TheVariants.{Tightest}
use Rattle.rules.specs.declared.Standing.{Standing}
use Rattle.rules.specs.declared.Standing.TheVariants.{Neither, Settled, Sound}
use Rattle.laws.specs.Words.{same_self}
use Rattle.theory.specs.Images.Stand.{not_neither}
use Rattle.witness.specs.Short.{AnswersPlainly, DoneSettles, HasFile, HasOneHome, IsApart, IsSound, MountSettles, MountsDone, StillReads, StopsDoNotMatter, abd, full, image, is_fair, is_store, plenty, reached, small, store}
use Rattle.witness.specs.Homes.{half_written, moving_home, over_old, twice}
use Rattle.witness.specs.Settles.{half_aborted_mounts, half_aborted, torn, torn_mounts, written_once}
use Rattle.witness.specs.Stops.{allocated_mounts, allocated_left, moving_mounts, moving_copy, nine}
use Rattle.witness.specs.Files.{aborted_mounts, aborted_then_committed, committed, committed_mounts, half_committed_mounts, half_committed}
use Rattle.witness.specs.Reads.{deleted, empty, filled, filled_reads, reclaims, reclaims_settled}
use Rattle.witness_origins.specs.Said.{calls, said, said_plainly, says}
use Rattle.promises.specs.Demands as demands

module _ (cs : List Call) (fair : T (is_fair cs)) where
  has_one_home : (L : ℕ) → L < 2 → HasOneHome cs L
  has_one_home L l = demands.one_home small (image cs) (store cs) (reached cs fair) L l

  homes_are : length (survey small (image cs)).homes ≡ 2
  unfolding survey homes_from
  homes_are = refl

  is_apart : (L : ℕ) → L < 2 → IsApart cs L
  is_apart L l = (demands.in_order small (image cs) (store cs) (reached cs fair) L (omega (arith, l, homes_are))).apart'

  is_store_lem : (x : Standing) → is_store x ≡ not_neither x
  is_store_lem Settled = refl
  is_store_lem Sound = refl
  is_store_lem Neither = refl

  is_sound : IsSound cs
  is_sound = is_store_lem (standing small (survey small (image cs))) ∙ demands.sound small (image cs) (store cs) (reached cs fair)

  mount_settles : MountsDone cs → MountSettles cs
  mount_settles z = demands.mount_settles small (image cs) (store cs) (reached cs fair) plenty z

  stops : MountsDone cs → (ks : List ℕ) → StopsDoNotMatter cs ks
  stops z ks =
      let d = demands.stops_do_not_matter small (image cs) (store cs) (reached cs fair) ks plenty z in
      let ended : Bytes = (outcome small (mount plenty) (image cs)).image in
      ap (λ (x : Bytes). is_same x ended) (d.1 plenty d.0) ∙ same_self ended

  has_file : MountsDone cs → (f : ℕ) → HasFile cs f
  has_file z f = demands.files_after small (image cs) (store cs) (reached cs fair) plenty z f

  answers_plainly : (c : Call) → AnswersPlainly cs c
  answers_plainly c = (demands.answers_plainly small (image cs) (store cs) (reached cs fair) c).0

-- ---- the statements of witness, from the theorems alone
pub moving_home_lem : HasOneHome moving_home 1
unfolding opened
moving_home_lem = has_one_home moving_home tt 1 (omega arith)

pub over_old_lem : IsApart over_old 0
unfolding opened
over_old_lem = is_apart over_old tt 0 (omega arith)

pub committed_twice : IsSound twice
unfolding opened
committed_twice = is_sound twice tt

pub half_written_lem : IsSound half_written
unfolding opened
half_written_lem = is_sound half_written tt

pub torn_settles : MountSettles torn
unfolding opened
torn_settles = mount_settles torn tt torn_mounts

pub half_aborted_settles : MountSettles half_aborted
unfolding opened
half_aborted_settles = mount_settles half_aborted tt half_aborted_mounts

pub written_again_settles : DoneSettles written_once (write Tightest 7 abd plenty)
unfolding opened
written_again_settles = demands.done_settles small (image written_once) (store written_once) (reached written_once tt) (write Tightest 7 abd plenty) refl

pub nine_stops : StopsDoNotMatter moving_copy nine
unfolding opened
nine_stops = stops moving_copy tt moving_mounts nine

pub allocated_stop : StopsDoNotMatter allocated_left (1 ∷ [])
unfolding opened
allocated_stop = stops allocated_left tt allocated_mounts (1 ∷ [])

pub committed_file : HasFile committed 7
unfolding opened
committed_file = has_file committed tt committed_mounts 7

pub half_committed_file : HasFile half_committed 7
unfolding opened
half_committed_file = has_file half_committed tt half_committed_mounts 7

pub aborted_file : HasFile aborted_then_committed 7
unfolding opened
aborted_file = has_file aborted_then_committed tt aborted_mounts 7

pub deleted_is_absent : AnswersPlainly deleted (read_open 7)
unfolding opened
deleted_is_absent = answers_plainly deleted tt (read_open 7)

-- origins' history answers, call by call, as the plain store does
said_as : {s : Bytes} {m : Plain} → Reached small s m → (cs : List Call) → T (is_fair cs) → said s cs ≡ said_plainly s m cs
said_as r [] h = refl
said_as {s = s} {m = m} r (c ∷ cs) h = go (is_format c) (takes_bytes c) refl refl h (λ q. said_as {s = (outcome small c s).image} {m = follow small c (outcome small c s) m} q cs)
  where
    go : (x y : Bool) → is_format c ≡ x → takes_bytes c ≡ y → T (elim x as (λ j. Bool) [ true ↦ false | false ↦ elim y as (λ j. Bool) [ true ↦ is_fair cs | false ↦ false ] ])
        → (Reached small (outcome small c s).image (follow small c (outcome small c s) m) → T (is_fair cs) → said (outcome small c s).image cs ≡ said_plainly (outcome small c s).image (follow small c (outcome small c s) m) cs)
        → said s (c ∷ cs) ≡ said_plainly s m (c ∷ cs)
    go true y p q h f = absurd h
    go false false p q h f = absurd h
    go false true p q h f =
        let a = demands.answers_plainly small s m r c in
        λ i. says (a.0 i) (from_number (a.3 i)) ∷ f (called c p q r as_made) h i

pub says_where : said (image []) calls ≡ said_plainly (image []) (store []) calls
unfolding opened
says_where = said_as (reached [] tt) calls tt

pub empty_is_there : AnswersPlainly empty (read 9)
unfolding opened
empty_is_there = answers_plainly empty tt (read 9)

pub moved_handle : StillReads (filled ++ reclaims) 0 1
unfolding opened
moved_handle =
    (demands.handle_holds small (image filled) (store filled) (reached filled tt) 0 1 filled_reads
    (onward (write Tightest 3 full 14) refl refl refl (onward (begin Tightest plenty) refl refl refl here as_made) as_made) reclaims_settled).done
