-- A finished format leaves a safe image.
use Rattle.std.specs.Prelude.{Bool, false, not, true, List, [], ◌++◌, ◌∷◌, ◌≡◌, refl, ◌*◌, ◌+◌, ◌-◌, ◌<◌, ◌≤◌, min, suc, zero, ℕ, eqb, drop, get_or, length, replicate, take, None, Some}
use Rattle.std.proofs.Common.{append_assoc, ◌∙◌, ap, ap₂, subst, sym, add-zero, le_of_suc-le-suc, not-suc-le-zero, zero-add, arith, length-append, length-drop, length-take, take-append-drop, drop_at, drop-drop, take_at}
use Rattle.std.proofs.lemmas.List.{length-replicate}
use Rattle.rules.specs.Answers.{Outcome, carry_out, ended, makes, number, origin}
use Rattle.rules.specs.Calls.{allowance, format, in_geometry, outcome, plan, refuse}
use Rattle.rules.specs.Flash.{Bytes, State, Step, apply, erase, erased, finish, idle, is_geometry, made, program, run, state, word}
use Rattle.rules.specs.Jobs.{erases, format_job, headers}
use Rattle.rules.specs.Lists.{all}
use Rattle.rules.specs.Settled.{Physical, is_spare, physical, units_from, units_of}
use Rattle.rules.specs.Unit.{all_apart, header_bytes, lowest, stands}
use Rattle.rules.specs.declared.NotDone.TheVariants.{BadGeometry}
use Rattle.rules.specs.declared.Geometry.{Geometry}
use Rattle.laws.specs.Complete.{erased_is_lem}
use Rattle.laws.specs.Runs.{finish_append}
use Rattle.laws.specs.Words.{two_bytes}
use Rattle.theory.specs.Base.Facts.{true_false}
use Rattle.theory.specs.Base.Along.{le, run_whole}
use Rattle.theory.specs.Images.Units.{Sized, join, units_join, units_at}
use Rattle.theory.specs.Images.Head.{plain_headed, plain_head}
use Rattle.theory.specs.Images.Layout.{Good, layout}
use Rattle.theory.specs.Images.Blank.{blank_spare, blank_unit_lem, blank_body}
use Rattle.theory.specs.Images.Sectors.{LegalGeometry, shape_of}
use Rattle.theory.specs.Images.Model.{all_entries, HomesStand, LaidHome, is_up, name_of, no_laid_home}
use Rattle.theory.specs.Tidying.Held.{HeldEntries}
use Rattle.theory.specs.Storing.Fill.{write_word}

-- the units of any image
abbrev pub chunks : ℕ → ℕ → Bytes → List Bytes
chunks S zero s = []
chunks S (suc k) s = take S s ∷ chunks S k (drop S s)

pub join_chunks : (S k : ℕ) (s : Bytes) → length s ≡ k * S → join (chunks S k s) ≡ s
join_chunks S zero [] h = refl
join_chunks S zero (x ∷ s) h = absurd (let w : ⊥ = omega (arith, h) in w)
join_chunks S (suc k) s h = ap (λ (x : Bytes). take S s ++ x) (join_chunks S k (drop S s) (length-drop S s ∙ less)) ∙ take-append-drop S s
  where
    less : length s - S ≡ k * S
    less = omega (arith, h)

pub sized_chunks : (S k : ℕ) (s : Bytes) → length s ≡ k * S → Sized S (chunks S k s)
sized_chunks S zero s h = tt
sized_chunks S (suc k) s h = (length-take S s ∙ least, sized_chunks S k (drop S s) (length-drop S s ∙ less))
  where
    least : min S (length s) ≡ S
    least = omega (arith, h)

    less : length s - S ≡ k * S
    less = omega (arith, h)

pub many_chunks : (S k : ℕ) (s : Bytes) → length (chunks S k s) ≡ k
many_chunks S zero s = refl
many_chunks S (suc k) s = ap suc (many_chunks S k (drop S s))

-- all of them erased
abbrev bare : ℕ → List Bytes → List Bytes
bare S [] = []
bare S (u ∷ us) = replicate S 255 ∷ bare S us

erases_all : (g : Geometry) (z : Bytes) (us : List Bytes) (a : ℕ) → Sized g.size us → length z ≡ a → finish (erases g (units_at g a us)) (z ++ join us) ≡ z ++ join (bare g.size us)
unfolding finish erases made idle apply physical
erases_all g z [] a h e = refl
erases_all g z (u ∷ us) a h e = go (erased u) refl (λ x l. erases_all g (z ++ x) us (a + g.size) h.1 (length-append z x ∙ ap₂ (λ (m n : ℕ). m + n) e l))
  where
    rest : List Step
    rest = erases g (units_at g (a + g.size) us)

    off : drop (length z + g.size) (z ++ (u ++ join us)) ≡ join us
    off = sym (drop-drop g.size (length z) (z ++ (u ++ join us))) ∙ ap (drop g.size) (drop_at z (u ++ join us) (length z) refl) ∙ drop_at u (join us) g.size h.0

    made_is : made (erase a g.size) (z ++ (u ++ join us)) ≡ z ++ (replicate g.size 255 ++ join us)
    made_is =
        ap (λ (n : ℕ). made (erase n g.size) (z ++ (u ++ join us))) (sym e)
        ∙ ap₂ (λ (x y : Bytes). x ++ (replicate g.size 255 ++ y)) (take_at z (u ++ join us) (length z) refl) off

    go : (b : Bool) → erased u ≡ b → ((x : Bytes) → length x ≡ g.size → finish rest ((z ++ x) ++ join us) ≡ (z ++ x) ++ join (bare g.size us))
        → finish (elim b as (λ j. List Step) [ true ↦ rest | false ↦ erase a g.size ∷ rest ]) (z ++ (u ++ join us)) ≡ z ++ (replicate g.size 255 ++ join (bare g.size us))
    go true q f =
        ap (finish rest) (sym (append_assoc z u (join us)))
        ∙ f u h.0
        ∙ append_assoc z u (join (bare g.size us))
        ∙ ap (λ (x : Bytes). z ++ (x ++ join (bare g.size us))) (erased_is_lem u q ∙ ap (λ (n : ℕ). replicate n 255) h.0)
    go false q f =
        ap (finish rest) (made_is ∙ sym (append_assoc z (replicate g.size 255) (join us)))
        ∙ f (replicate g.size 255) (length-replicate g.size 255)
        ∙ append_assoc z (replicate g.size 255) (join (bare g.size us))

-- homes with nothing in them, from logical number L on, and the spare last
abbrev fresh : Geometry → ℕ → ℕ → List Bytes
fresh g zero L = replicate g.size 255 ∷ []
fresh g (suc n) L = layout L 0xFFFE plain_head [] (g.size - header_bytes) [] ∷ fresh g n (suc L)

abbrev erased_units : Geometry → ℕ → List Bytes
erased_units g zero = replicate g.size 255 ∷ []
erased_units g (suc n) = replicate g.size 255 ∷ erased_units g n

headers_all : (g : Geometry) → header_bytes ≤ g.size → (z : Bytes) (n L a : ℕ) → L + n < 65536 → length z ≡ a → finish (headers g n a L) (z ++ join (erased_units g n)) ≡ z ++ join (fresh g n L)
unfolding finish headers
headers_all g h z zero L a b e = refl
headers_all g h z (suc n) L a b e =
    ap (λ (s : Bytes). finish (headers g n (a + g.size) (suc L)) s)
    (ap (λ (x : Bytes). made (program (a + 2) 0xFFFE) (made (program a L) (z ++ (x ++ R)))) (blank_unit_lem g h)
    ∙ ap (made (program (a + 2) 0xFFFE)) (write_word z a L (le 0xFFFF (blank_body g ++ R)) e (omega arith) ∙ sym (append_assoc z (le L []) (le 0xFFFF (blank_body g ++ R))))
    ∙ write_word (z ++ le L []) (a + 2) 0xFFFE (blank_body g ++ R) (length-append z (le L []) ∙ ap (λ (x : ℕ). x + 2) e) (omega arith)
    ∙ append_assoc z (le L []) (le 0xFFFE (blank_body g ++ R))
    ∙ sym (append_assoc z (layout L 0xFFFE plain_head [] (g.size - header_bytes) []) R))
    ∙ headers_all g h (z ++ layout L 0xFFFE plain_head [] (g.size - header_bytes) []) n (suc L) (a + g.size) (omega arith) (length-append z (layout L 0xFFFE plain_head [] (g.size - header_bytes) []) ∙ ap₂ (λ (x y : ℕ). x + y) e long)
    ∙ append_assoc z (layout L 0xFFFE plain_head [] (g.size - header_bytes) []) (join (fresh g n (suc L)))
  where
    R : Bytes
    R = join (erased_units g n)

    long : length (layout L 0xFFFE plain_head [] (g.size - header_bytes) []) ≡ g.size
    long = omega (arith, length-append {A = ℕ} (replicate (g.size - header_bytes) 255) [], length-replicate {A = ℕ} (g.size - header_bytes) 255)

-- ---- what stands then
abbrev laid_from : Geometry → ℕ → ℕ → List LaidHome
laid_from g zero k = []
laid_from g (suc n) k = record { phys = k; up = true; head = plain_head; array = []; gap = g.size - header_bytes; rest = [] } ∷ laid_from g n (suc k)

fresh_length : (g : Geometry) (n L : ℕ) → length (fresh g n L) ≡ suc n
fresh_length g zero L = refl
fresh_length g (suc n) L = ap suc (fresh_length g n (suc L))

laid_length : (g : Geometry) (n k : ℕ) → length (laid_from g n k) ≡ n
laid_length g zero k = refl
laid_length g (suc n) k = ap suc (laid_length g n (suc k))

fresh_get : (g : Geometry) (n L i : ℕ) → i < n → get_or (fresh g n L) i [] ≡ layout (L + i) 0xFFFE plain_head [] (g.size - header_bytes) []
fresh_get g zero L i h = absurd (not-suc-le-zero h)
fresh_get g (suc n) L zero h = ap (λ (x : ℕ). layout x 0xFFFE plain_head [] (g.size - header_bytes) []) (sym (add-zero L))
fresh_get g (suc n) L (suc i) h = fresh_get g n (suc L) i (le_of_suc-le-suc h) ∙ ap (λ (x : ℕ). layout x 0xFFFE plain_head [] (g.size - header_bytes) []) more
  where
    more : suc L + i ≡ L + suc i
    more = omega arith

fresh_last : (g : Geometry) (n L : ℕ) → get_or (fresh g n L) n [] ≡ replicate g.size 255
fresh_last g zero L = refl
fresh_last g (suc n) L = fresh_last g n (suc L)

laid_get : (g : Geometry) (n k i : ℕ) → i < n → (get_or (laid_from g n k) i no_laid_home).phys ≡ k + i
laid_get g zero k i h = absurd (not-suc-le-zero h)
laid_get g (suc n) k zero h = sym (add-zero k)
laid_get g (suc n) k (suc i) h = laid_get g n (suc k) i (le_of_suc-le-suc h) ∙ more
  where
    more : suc k + i ≡ k + suc i
    more = omega arith

empty_good : (g : Geometry) → header_bytes ≤ g.size → Good g [] (g.size - header_bytes) []
unfolding all_apart lowest all stands
empty_good g h = record { low = omega arith; fills = omega arith; ends = refl; listed = refl; sectors = refl; clear = refl; bytes = refl }

fresh_sized : (g : Geometry) → header_bytes ≤ g.size → (n L : ℕ) → Sized g.size (fresh g n L)
fresh_sized g h zero L = (length-replicate g.size 255, tt)
fresh_sized g h (suc n) L = (long, fresh_sized g h n (suc L))
  where
    long : length (layout L 0xFFFE plain_head [] (g.size - header_bytes) []) ≡ g.size
    long = omega (arith, length-append {A = ℕ} (replicate (g.size - header_bytes) 255) [], length-replicate {A = ℕ} (g.size - header_bytes) 255)

homes_fresh : (g : Geometry) → header_bytes ≤ g.size → (us : List Bytes) (sp m k : ℕ) → ((i : ℕ) → i < m → get_or us (k + i) [] ≡ layout (k + i) 0xFFFE plain_head [] (g.size - header_bytes) []) → k + m ≤ length us → k + m ≡ sp
    → HomesStand g us sp k (laid_from g m k)
homes_fresh g h us sp zero k f l e = tt
homes_fresh g h us sp (suc m) k f l e = (
  record {
    there = omega arith;
    bytes = subst (λ (x : ℕ). get_or us x [] ≡ layout x 0xFFFE plain_head [] (g.size - header_bytes) []) (add-zero k) (f 0 (omega arith));
    good = empty_good g h;
    headed = plain_headed;
    away = λ (z : k ≡ sp). let w : ⊥ = omega arith in w;
    mark = λ q. true_false true refl q;
  },
  homes_fresh g h us sp m (suc k) (λ i b. subst (λ (x : ℕ). get_or us x [] ≡ layout x 0xFFFE plain_head [] (g.size - header_bytes) []) (more i) (f (suc i) (omega arith))) (omega arith) (omega arith),
)
  where
    more : (i : ℕ) → k + suc i ≡ suc k + i
    more i = omega arith

no_entries : (g : Geometry) (n k : ℕ) → all_entries g k (laid_from g n k) ≡ []
no_entries g zero k = refl
no_entries g (suc n) k = no_entries g n (suc k)

all_up : (g : Geometry) (n k : ℕ) → all is_up (laid_from g n k) ≡ true
unfolding all
all_up g zero k = refl
all_up g (suc n) k = all_up g n (suc k)

pub fresh_held : (g : Geometry) (n : ℕ) → LegalGeometry g → g.units ≡ suc n → HeldEntries g (λ l. l ≡ []) (join (fresh g n 0))
unfolding word
fresh_held g n sh un =
    record {
      us = fresh g n 0;
      ps = laid_from g n 0;
      sp = n;
      image = refl;
      stands = record {
        shape = sh;
        units = fresh_length g n 0 ∙ sym un;
        sized = fresh_sized g h n 0;
        many = fresh_length g n 0 ∙ ap suc (sym (laid_length g n 0));
        homes = homes_fresh g h (fresh g n 0) n n 0 (λ i b. ap (λ (x : ℕ). get_or (fresh g n 0) x []) (zero-add i) ∙ fresh_get g n 0 i b) (omega (arith, fresh_length g n 0)) (zero-add n);
        spare = omega (arith, fresh_length g n 0);
        not_live = ap (λ (u : Bytes). eqb (word u 2) 0xFFFE) (fresh_last g n 0 ∙ blank_unit_lem g h);
        named = λ j l m.
            let b : j < n = omega (arith, fresh_length g n 0) in
            let e : name_of (fresh g n 0) j ≡ j = ap (λ (u : Bytes). word u 0) (fresh_get g n 0 j b) ∙ two_bytes (0 + j) ∙ zero-add j in
            (omega (arith, e, laid_length g n 0), ap (λ (x : ℕ). (get_or (laid_from g n 0) x no_laid_home).phys) e ∙ laid_get g n 0 j b ∙ zero-add j);
      };
      ups = all_up g n 0;
      bare = ap is_spare (fresh_last g n 0) ∙ blank_spare g;
      holds = no_entries g n 0;
    }
  where
    h : header_bytes ≤ g.size
    h = omega (arith, sh.right.large)

-- a whole format
pub formatted : (g : Geometry) (s : Bytes) → is_geometry g (length s) ≡ true → HeldEntries g (λ l. l ≡ []) (finish (format_job g s) s)
unfolding units_of format_job
formatted g s ok = subst (HeldEntries g (λ l. l ≡ [])) (sym image) (fresh_held g n sh un)
  where
    sh : LegalGeometry g
    sh = (shape_of g s ok).0

    n : ℕ
    n = g.units - 1

    un : g.units ≡ suc n
    un = omega (arith, sh.right.some)

    us : List Bytes
    us = chunks g.size g.units s

    len : length s ≡ g.units * g.size
    len = (shape_of g s ok).1

    bared : (k : ℕ) (t : Bytes) → bare g.size (chunks g.size (suc k) t) ≡ erased_units g k
    bared zero t = refl
    bared (suc k) t = ap {B = List Bytes} (λ (x : List Bytes). replicate g.size 255 ∷ x) (bared k (drop g.size t))

    units_are : units_of g s ≡ units_at g 0 us
    units_are =
        ap₂ (λ (k : ℕ) (x : Bytes). units_from g k 0 x) (sym (many_chunks g.size g.units s)) (sym (join_chunks g.size g.units s len))
        ∙ units_join g us 0 (sized_chunks g.size g.units s len)

    image : finish (format_job g s) s ≡ join (fresh g n 0)
    image =
        finish_append (erases g (units_of g s)) (headers g n 0 0) s
        ∙ ap₂ (λ (ps : List Physical) (x : Bytes). finish (headers g n 0 0) (finish (erases g ps) x)) units_are (sym (join_chunks g.size g.units s len))
        ∙ ap (finish (headers g n 0 0)) (erases_all g [] us 0 (sized_chunks g.size g.units s len) refl)
        ∙ ap (λ (k : ℕ). finish (headers g n 0 0) (join (bare g.size (chunks g.size k s)))) un
        ∙ ap (λ (x : List Bytes). finish (headers g n 0 0) (join x)) (bared n s)
        ∙ headers_all g (omega (arith, sh.right.large)) [] n 0 0 (omega (arith, sh.right.few)) refl

-- as a call: DONE leaves it
pub format_held : (g : Geometry) (s : Bytes) (k : ℕ) → number (outcome g (format k) s).answer ≡ 0 → HeldEntries g (λ l. l ≡ []) (outcome g (format k) s).image
unfolding carry_out ended number outcome refuse plan in_geometry allowance
format_held g s k h = go (is_geometry g (length s)) refl h
  where
    Out : Bool → Outcome
    Out b = carry_out (refuse (not b) BadGeometry (makes origin (format_job g s))) k s

    go : (b : Bool) → is_geometry g (length s) ≡ b → number (Out b).answer ≡ 0 → HeldEntries g (λ l. l ≡ []) (Out b).image
    go false e z = absurd (let w : ⊥ = omega arith in w)
    go true e z = ran (run (format_job g s) (state s (Some k))) refl z
      where
        ran : (r : State) → run (format_job g s) (state s (Some k)) ≡ r → number (ended origin k r).answer ≡ 0 → HeldEntries g (λ l. l ≡ []) (ended origin k r).image
        ran (state t (Some j)) q z = subst (HeldEntries g (λ l. l ≡ [])) (sym (run_whole (format_job g s) k j s t q)) (formatted g s e)
        ran (state t None) q z = absurd (let w : ⊥ = omega arith in w)
