-- Short histories of the smallest geometry, and what the demands say of them: each statement here is that of the theorem named
-- beside it (demands: Demands.antt) for one history, and it computes.
use Rattle.std.specs.Prelude.{Bool, true, false, ◌&&◌, List, [], ◌∷◌, ◌≡◌, refl, ℕ, length, replicate, T, eqb}
use Rattle.rules.specs.Flash.{Bytes}
use Rattle.rules.specs.Unit.{all_apart, is_open}
use Rattle.rules.specs.Settled.{homes_for, select, survey}
use Rattle.rules.specs.Sound.{home_at, is_same, standing}
use Rattle.rules.specs.Views.{committed_view, content_of}
use Rattle.rules.specs.Answers.{content, number}
use Rattle.rules.specs.Calls.{Call, format, mount, outcome, read, read_at}
use Rattle.rules.specs.Histories.{Plain, Reached, after_mounts, as_made, called, follow, formatted, is_format, no_files, takes_bytes}
use Rattle.rules.specs.Listing.{listed}
use Rattle.rules.specs.Plain.{plain_number, seen}
use Rattle.rules.specs.Opened.{opened}
use Rattle.rules.specs.declared.Geometry.{Geometry}
use Rattle.rules.specs.declared.Standing.{Standing}
use Rattle.rules.specs.declared.Standing.TheVariants.{Settled, Sound, Neither}

abbrev pub small : Geometry
small = record { size = 512; units = 3 }

abbrev pub erased_image : Bytes
erased_image = replicate 1536 255

-- an allowance that is never used up
abbrev pub plenty : ℕ
plenty = 100000

abbrev pub abc : Bytes
abc = 0x61 ∷ 0x62 ∷ 0x63 ∷ []

abbrev pub full : Bytes
full = replicate 256 0x55

abbrev pub abd : Bytes
abd = 0x61 ∷ 0x62 ∷ 0x64 ∷ []

-- ---- a history: a finished format of an erased image, then these calls
abbrev pub start : Bytes
start = (outcome small (format plenty) erased_image).image

abbrev pub image_from : Bytes → List Call → Bytes
image_from s [] = s
image_from s (c ∷ cs) = image_from (outcome small c s).image cs

abbrev pub store_from : Bytes → Plain → List Call → Plain
store_from s m [] = m
store_from s m (c ∷ cs) = let o = outcome small c s in store_from o.image (follow small c o m) cs

abbrev pub image : List Call → Bytes
image cs = image_from start cs

abbrev pub store : List Call → Plain
store cs = store_from start no_files cs

-- none of them is a format, and each content is bytes
abbrev pub is_fair : List Call → Bool
is_fair [] = true
is_fair (c ∷ cs) = elim (is_format c) as (λ j. Bool) [ true ↦ false | false ↦ elim (takes_bytes c) as (λ j. Bool) [ true ↦ is_fair cs | false ↦ false ] ]

reached_from : {s : Bytes} {m : Plain} → Reached small s m → (cs : List Call) → T (is_fair cs) → Reached small (image_from s cs) (store_from s m cs)
reached_from r [] h = r
reached_from {s = s} {m = m} r (c ∷ cs) h = go (is_format c) (takes_bytes c) refl refl h (λ q. reached_from {s = (outcome small c s).image} {m = follow small c (outcome small c s) m} q cs)
  where
    go : (x y : Bool) → is_format c ≡ x → takes_bytes c ≡ y → T (elim x as (λ j. Bool) [ true ↦ false | false ↦ elim y as (λ j. Bool) [ true ↦ is_fair cs | false ↦ false ] ])
        → (Reached small (outcome small c s).image (follow small c (outcome small c s) m) → T (is_fair cs) → Reached small (image_from s (c ∷ cs)) (store_from s m (c ∷ cs)))
        → Reached small (image_from s (c ∷ cs)) (store_from s m (c ∷ cs))
    go true y p q h f = absurd h
    go false false p q h f = absurd h
    go false true p q h f = f (called c p q r as_made) h

formats : Reached small start no_files
unfolding opened
formats = formatted erased_image plenty refl

-- each of them is DONE
abbrev pub are_done : Bytes → List Call → Bool
are_done s [] = true
are_done s (c ∷ cs) = let o = outcome small c s in eqb (number o.answer) 0 && are_done o.image cs

-- It is a history of the definitions.
pub reached : (cs : List Call) → T (is_fair cs) → Reached small (image cs) (store cs)
reached cs h = reached_from formats cs h

-- ---- what is said of the image that it leaves
abbrev pub is_store : Standing → Bool
is_store Settled = true
is_store Sound = true
is_store Neither = false

module _ (cs : List Call) where
  -- `sound`
  abbrev pub IsSound : Type 0
  IsSound = is_store (standing small (survey small (image cs))) ≡ true

  -- `one_home`, of logical number L
  abbrev pub HasOneHome : ℕ → Type 0
  HasOneHome L = length (homes_for (survey small (image cs)).units L) ≡ 1

  -- `in_order`, of the home at L: no two sectors share a byte
  abbrev pub IsApart : ℕ → Type 0
  IsApart L = all_apart (home_at (survey small (image cs)).homes L).room.array ≡ true

  -- a mount of it is DONE
  abbrev pub MountsDone : Type 0
  MountsDone = number (outcome small (mount plenty) (image cs)).answer ≡ 0

  -- `mount_settles`
  abbrev pub MountSettles : Type 0
  MountSettles = (standing small (survey small (outcome small (mount plenty) (image cs)).image) ≡ Settled) × (select is_open (survey small (outcome small (mount plenty) (image cs)).image) ≡ [])

  -- `stops_do_not_matter`, of mounts with these allowances: byte for byte the image of one mount
  abbrev pub StopsDoNotMatter : List ℕ → Type 0
  StopsDoNotMatter ks = let s = image cs in is_same (outcome small (mount plenty) (after_mounts small ks s)).image (outcome small (mount plenty) s).image ≡ true

  -- `done_settles`
  abbrev pub DoneSettles : Call → Type 0
  DoneSettles c = number (outcome small c (image cs)).answer ≡ 0 → standing small (survey small (outcome small c (image cs)).image) ≡ Settled

  -- `files_after`, of file f
  abbrev pub HasFile : ℕ → Type 0
  HasFile f = content_of (committed_view f (survey small (outcome small (mount plenty) (image cs)).image)) ≡ (store cs).files f

  -- `answers_plainly`, of the number that a call answers
  abbrev pub AnswersPlainly : Call → Type 0
  AnswersPlainly c = number (outcome small c (image cs)).answer ≡ plain_number (store cs) (seen small c (image cs)) c

  -- `handle_holds`, of a handle whose file is unchanged: a read by it is DONE
  abbrev pub StillReads : ℕ → ℕ → Type 0
  StillReads L p = number (outcome small (read_at L p) (image cs)).answer ≡ 0

  -- all its calls are DONE
  abbrev pub AllDone : Type 0
  AllDone = are_done start cs ≡ true

  -- `what_it_makes` of the screens' laws, of a file: it is read with this content
  abbrev pub ReadsAs : ℕ → Bytes → Type 0
  ReadsAs f x = let o = outcome small (read f) (image cs) in eqb (number o.answer) 0 && is_same (content o) x ≡ true

  -- `either_order` and `two_commits` of the screens' laws, of a file: after other calls it is read with the same number and content
  abbrev pub ReadsAlike : List Call → ℕ → Type 0
  ReadsAlike ds f =
      let o = outcome small (read f) (image cs) in
      let p = outcome small (read f) (image ds) in
      eqb (number o.answer) (number p.answer) && is_same (content o) (content p) ≡ true

  -- `aborted` of the screens' laws: the listing is the same to the byte after other calls
  abbrev pub ListsAlike : List Call → Type 0
  ListsAlike ds = is_same (listed small (image cs)) (listed small (image ds)) ≡ true
