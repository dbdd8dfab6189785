-- Along any calls through one table: it is unusable, or the fresh one of a settled image.
use Rattle.std.specs.Prelude.{◌≡◌, not, cond, ◌||◌, [], ◌≢◌, ℕ, ◌≤◌, ◌<◌, eqb, length}
use Rattle.std.proofs.Math.Path.{refl, ap, subst}
use Rattle.std.proofs.Common.{sym, ◌∙◌}
use Rattle.std.proofs.Math.Bool.{Bool, true, false}
use Rattle.std.proofs.Math.Decide.{dec_lt, ℕ_discrete}
use native.Mathlib.Omega.{arith}
use Rattle.rules.specs.Flash.{Bytes, is_geometry, run}
use Rattle.rules.specs.Unit.{is_pending_file}
use Rattle.rules.specs.Settled.{Survey, select, survey}
use Rattle.rules.specs.Sound.{standing}
use Rattle.rules.specs.Answers.{Outcome, Plan, carry_out, content, ended, given, makes, nothing, number, origin}
use Rattle.rules.specs.Calls.{Call, allowance, commit, in_geometry, in_settled, mount, outcome, plan, refuse, when_settled, when_sound}
use Rattle.rules.specs.Histories.{MayLeave, Plain, Reached, as_made, called as called', follow, is_format, takes_bytes}
use Rattle.rules.specs.Jobs.{mount_job}
use Rattle.rules.specs.Table.{Table, TableOutcome, fills, fill_through, fresh, is_usable, mended, mends, of_length, table_after, table_done, through, with_table, without_table}
use Rattle.laws.specs.Calls.{Untouched, call_bytes}
use Rattle.laws.specs.Lists.{every_all, every_get, every_map}
use Rattle.laws.specs.Words.{AreBytes}
use Rattle.rules.specs.declared.NotDone.TheVariants.{BadGeometry}
use Rattle.rules.specs.declared.Geometry.{Geometry}
use Rattle.rules.specs.declared.Standing.{Standing}
use Rattle.rules.specs.declared.Standing.TheVariants.{Settled, Sound, Neither}
use Rattle.theory.specs.Base.Facts.{eq_of, lt_of, true_false}
use Rattle.theory.specs.Base.Stops.{leave_holds, unstopped_leaves}
use Rattle.theory.specs.Promised.Finished.{done_settles, format_settles}
use Rattle.theory.specs.Mounting.Kept.{KeptImage, calmly}
use Rattle.theory.specs.Images.Layout.{are_bytes, is_byte}
use Rattle.theory.specs.Images.Stand.{not_neither}
use Rattle.theory_sound.specs.AnySound.{mount_settles_sound, settled_safe}
use Rattle.theory_sound.specs.Reading.{from_bytes}
use Rattle.promises_table.specs.Words.{Beside, MayLeaveThrough, as_before, as_plain, called, ended as ended_by, filled, looked, refilled, unusable}
use Rattle.promises_table.specs.Through.{after_done, after_refused, as_plain_lem, marked_unusable, refused_untouched, stopped_table, taken}
use Rattle.promises_table.specs.Fresh.{own, own_inv}
use Rattle.promises_table.specs.After.{CallKind, committing, formatting, kind, mended_fresh, mounting, staying, stays_fresh}
use Rattle.promises_table.specs.Reading.{read_keeps}

-- ---- bytes stay bytes
all_bytes : (s : Bytes) → are_bytes s ≡ true → AreBytes s
all_bytes s h i = every_get (λ (b : ℕ). b < 256) 0 (omega arith) s (every_map (λ (b : ℕ). is_byte b ≡ true) (λ (b : ℕ). b < 256) (λ b e. lt_of b 256 e) s (every_all is_byte s h)) i

bytes_after : (g : Geometry) (c : Call) (s : Bytes) → are_bytes s ≡ true → are_bytes (outcome g c s).image ≡ true
bytes_after g c s h = from_bytes (outcome g c s).image (call_bytes g c s (all_bytes s h))

-- ---- a DONE call, by its kind
module _ (g : Geometry) (s : Bytes) where
  asked : (f : Survey → Plan) (k : ℕ) → number (carry_out (in_settled g s f) k s).answer ≡ 0 → (is_geometry g (length s) ≡ true) × (standing g (survey g s) ≡ Settled)
  unfolding in_settled in_geometry when_settled refuse carry_out number
  asked f k z = go (is_geometry g (length s)) (standing g (survey g s)) refl refl z
    where
      go : (x : Bool) (d : Standing) → is_geometry g (length s) ≡ x → standing g (survey g s) ≡ d → number (carry_out (refuse (not x) BadGeometry (when_settled d (f (survey g s)))) k s).answer ≡ 0
          → (is_geometry g (length s) ≡ true) × (standing g (survey g s) ≡ Settled)
      go true Settled p q z = (p, q)
      go true Sound p q z = absurd (let w : ⊥ = omega arith in w)
      go true Neither p q z = absurd (let w : ⊥ = omega arith in w)
      go false d p q z = absurd (let w : ⊥ = omega arith in w)

  mount_asked : (k : ℕ) → number (outcome g (mount k) s).answer ≡ 0 → (is_geometry g (length s) ≡ true) × (not_neither (standing g (survey g s)) ≡ true)
  unfolding outcome plan in_geometry when_sound refuse carry_out number allowance
  mount_asked k z = go (is_geometry g (length s)) (standing g (survey g s)) refl refl z
    where
      go : (x : Bool) (d : Standing) → is_geometry g (length s) ≡ x → standing g (survey g s) ≡ d → number (carry_out (refuse (not x) BadGeometry (when_sound d (makes origin (mount_job g s (survey g s))))) k s).answer ≡ 0
          → (is_geometry g (length s) ≡ true) × (not_neither (standing g (survey g s)) ≡ true)
      go true Settled p q z = (p, ap not_neither q)
      go true Sound p q z = (p, ap not_neither q)
      go true Neither p q z = absurd (let w : ⊥ = omega arith in w)
      go false d p q z = absurd (let w : ⊥ = omega arith in w)

  -- a DONE call of any image of bytes leaves it settled; and the fresh table of the image before becomes that of the image after
  pub record DoneEnds (c : Call) : Type 0 where
    pub settled : standing g (survey g (outcome g c s).image) ≡ Settled
    pub fresh' : (t : Table) → (fills c ≡ false → t ≡ fresh g s) → table_done g c s (outcome g c s).image t ≡ fresh g (outcome g c s).image

  pub ends : (c : Call) → are_bytes s ≡ true → takes_bytes c ≡ true → number (outcome g c s).answer ≡ 0 → DoneEnds c
  unfolding table_done fills mends outcome allowance
  ends c bytes by z = go (kind c) by z
    where
      here : (f : Survey → Plan) (k : ℕ) → number (carry_out (in_settled g s f) k s).answer ≡ 0 → KeptImage g s × (standing g (survey g s) ≡ Settled)
      here f k z = let a = asked f k z in (calmly (settled_safe g s a.0 bytes a.1), a.1)

      go : {c : Call} → CallKind c → takes_bytes c ≡ true → number (outcome g c s).answer ≡ 0 → DoneEnds c
      go (formatting k) by z = record { settled = format_settles g s k z; fresh' = λ t e. refl }
      go (mounting k) by z = let a = mount_asked k z in record { settled = (mount_settles_sound g s a.0 bytes a.1 k z).0; fresh' = λ t e. refl }
      go (committing k f p) by z =
          let a = here (f g s) k (subst (λ (x : Plan). number (carry_out x k s).answer ≡ 0) (p g s) z) in
          record {
            settled = done_settles g (own g s) s (own_inv g s a.0) (commit k) by z;
            fresh' = λ t e. ap (mended (select is_pending_file (survey g s))) (e refl) ∙ mended_fresh g s a.0 a.1 k z;
          }
      go (staying {c} n i m keeps f p) by z =
          let a = here (f g s) (allowance c) (subst (λ (x : Plan). number (carry_out x (allowance c) s).answer ≡ 0) (p g s) z) in
          record {
            settled = done_settles g (own g s) s (own_inv g s a.0) c by z;
            fresh' = λ t e. (λ j. cond (i j) (fresh g (outcome g c s).image) (cond (m j) (mended (select is_pending_file (survey g s)) t) t)) ∙ e i ∙ stays_fresh g s a.0 a.1 c n keeps by z;
          }

-- format and mount take no content
fills_bytes : (c : Call) → fills c ≡ true → takes_bytes c ≡ true
unfolding fills takes_bytes
fills_bytes c f = go (kind c) f
  where
    go : {c : Call} → CallKind c → fills c ≡ true → takes_bytes c ≡ true
    go (formatting k) f = refl
    go (mounting k) f = refl
    go (committing k p e) f = true_false false f refl
    go (staying {c} n i m keeps p e) f = true_false (fills c) f i

-- ---- through the table
module _ (g : Geometry) (s : Bytes) (t : Table) where
  -- a DONE call through the table
  pub through_done : (c : Call) → are_bytes s ≡ true → takes_bytes c ≡ true → (fills c ≡ false → t ≡ fresh g s) → number (through g s t c).answer ≡ 0
      → (standing g (survey g (through g s t c).image) ≡ Settled) × ((through g s t c).table ≡ fresh g (through g s t c).image)
  unfolding through with_table without_table carry_out
  through_done c bytes by e z = (
    ap (λ (u : Bytes). standing g (survey g u)) image ∙ k.settled,
    after_done (through g s t c).answer (table_done g c s (through g s t c).image t) t z
        ∙ ap (λ (u : Bytes). table_done g c s u t) image ∙ k.fresh' t e ∙ ap (fresh g) (sym image),
  )
    where
      took : (length t ≡ 256) × (is_usable t || fills c ≡ true)
      took = taken g s t c (omega (arith, z))

      plainly : without_table (through g s t c) ≡ outcome g c s
      plainly = as_plain_lem g s t c took.0 took.1

      image : (through g s t c).image ≡ (outcome g c s).image
      image = ap (λ (o : Outcome). o.image) plainly

      k : DoneEnds g s c
      k = ends g s c bytes by (ap (λ (o : Outcome). number o.answer) (sym plainly) ∙ z)

  -- it was usable, or the call fills
  pub done_usable : (c : Call) → number (through g s t c).answer ≡ 0 → fills c ≡ false → is_usable t ≡ true
  done_usable c z n = go (is_usable t) (fills c) (taken g s t c (omega (arith, z))).1 n
    where
      go : (u f : Bool) → u || f ≡ true → f ≡ false → u ≡ true
      go true f e n = refl
      go false f e n = true_false f e n

  -- a refused one changes nothing
  pub through_refused : (c : Call) → 2 ≤ number (through g s t c).answer → ((through g s t c).image ≡ s) × ((through g s t c).table ≡ t) × ((given (through g s t c).answer).steps ≡ 0) × (content (without_table (through g s t c)) ≡ [])
  unfolding through without_table
  through_refused c l = let u = untouched in (u.image, after_refused', u.steps, u.empty)
    where
      after_refused' : (through g s t c).table ≡ t
      after_refused' = unfold through with_table in after_refused (through g s t c).answer (table_done g c s (through g s t c).image t) t l

      untouched : Untouched s (without_table (through g s t c))
      untouched = refused_untouched g s t c l

  -- and the image is bytes
  pub through_bytes : (c : Call) → are_bytes s ≡ true → are_bytes (through g s t c).image ≡ true
  unfolding through without_table
  through_bytes c h = go (ℕ_discrete (number (through g s t c).answer) 0) (ℕ_discrete (number (through g s t c).answer) 1)
    where
      low : number (through g s t c).answer ≤ 1 → are_bytes (through g s t c).image ≡ true
      low l = let k = taken g s t c l in ap (λ (o : Outcome). are_bytes o.image) (as_plain_lem g s t c k.0 k.1) ∙ bytes_after g c s h

      go : Dec (number (through g s t c).answer ≡ 0) → Dec (number (through g s t c).answer ≡ 1) → are_bytes (through g s t c).image ≡ true
      go (yes z) d = low (omega (arith, z))
      go (no n) (yes z) = low (omega (arith, z))
      go (no n) (no m) = ap are_bytes (through_refused c (omega arith)).0 ∙ h

  -- what its steps leave is what it may leave ...
  pub as_made_lem : (c : Call) → MayLeaveThrough g s t c (through g s t c).image
  unfolding without_table
  as_made_lem c = go (dec_lt (number (through g s t c).answer) 2)
    where
      go : Dec (number (through g s t c).answer < 2) → MayLeaveThrough g s t c (through g s t c).image
      go (yes l) = let k = taken g s t c (omega (arith, l)) in as_plain (omega (arith, l)) (subst (MayLeave g c s) (sym (ap (λ (o : Outcome). o.image) (as_plain_lem g s t c k.0 k.1))) as_made)
      go (no l) = subst (MayLeaveThrough g s t c) (sym (through_refused c (omega arith)).0) (as_before (omega arith))

  -- ... and a DONE one leaves nothing else
  done_leaves : (c : Call) {u : Bytes} → number (through g s t c).answer ≡ 0 → MayLeave g c s u → u ≡ (through g s t c).image
  unfolding without_table
  done_leaves c z l =
      let k = taken g s t c (omega (arith, z)) in
      let e = as_plain_lem g s t c k.0 k.1 in
      unstopped_leaves g c s (λ o. let w : ⊥ = omega (arith, z, o, ap (λ (x : Outcome). number x.answer) e) in w) l ∙ ap (λ (x : Outcome). x.image) (sym e)

  -- fill: no step, and DONE only on a settled image
  pub record FillsAs (o : TableOutcome) : Type 0 where
    pub image : o.image ≡ s
    pub done : number o.answer ≡ 0 → (standing g (survey g s) ≡ Settled) × (o.table ≡ fresh g s)
    pub refused : number o.answer ≢ 0 → (o.table ≡ t) × (content (without_table o) ≡ [])
    pub steps : (given o.answer).steps ≡ 0
    pub few : number o.answer ≤ 4
    pub takes : length t ≡ 256 → is_geometry g (length s) ≡ true → standing g (survey g s) ≡ Settled → number o.answer ≡ 0
    pub long : number o.answer ≡ 0 → (length t ≡ 256) × (is_geometry g (length s) ≡ true)

  pub filling : FillsAs (fill_through g s t)
  unfolding fill_through with_table without_table of_length in_settled in_geometry when_settled refuse carry_out ended run number given nothing content table_after
  filling = all (eqb (length t) 256) (is_geometry g (length s)) (standing g (survey g s)) refl refl refl
    where
      Out : Bool → Bool → Standing → TableOutcome
      Out n x d = with_table (carry_out (refuse (not n) BadGeometry (refuse (not x) BadGeometry (when_settled d (makes origin [])))) 0 s) (fresh g s) t

      -- refused by a number that is not 0
      none : (o : TableOutcome) → o.image ≡ s → number o.answer ≢ 0 → o.table ≡ t → content (without_table o) ≡ [] → (given o.answer).steps ≡ 0 → number o.answer ≤ 4
          → ((length t ≡ 256 → is_geometry g (length s) ≡ true → standing g (survey g s) ≡ Settled → ⊥)) → FillsAs o
      none o i n k c e f never = record { image = i; done = λ z. absurd (n z); refused = λ z. (k, c); steps = e; few = f; takes = λ a b d. absurd (never a b d); long = λ z. absurd (n z) }

      all : (n x : Bool) (d : Standing) → eqb (length t) 256 ≡ n → is_geometry g (length s) ≡ x → standing g (survey g s) ≡ d → FillsAs (Out n x d)
      all false x d p q e = none (Out false x d) refl (λ z. let w : ⊥ = omega arith in w) refl refl refl (omega arith) (λ a b c. true_false (eqb (length t) 256) (ap (λ (m : ℕ). eqb m 256) a) p)
      all true false d p q e = none (Out true false d) refl (λ z. let w : ⊥ = omega arith in w) refl refl refl (omega arith) (λ a b c. true_false (is_geometry g (length s)) b q)
      all true true Settled p q e = record { image = refl; done = λ z. (e, refl); refused = λ z. absurd (z refl); steps = refl; few = omega arith; takes = λ a b c. refl; long = λ z. (eq_of (length t) 256 p, q) }
      all true true Sound p q e = none (Out true true Sound) refl (λ z. let w : ⊥ = omega arith in w) refl refl refl (omega arith) (λ a b c. let z : Settled ≡ Sound = sym c ∙ e in let y : ◌≡◌ {A = ℕ} 0 1 = cc in let w : ⊥ = omega arith in w)
      all true true Neither p q e = none (Out true true Neither) refl (λ z. let w : ⊥ = omega arith in w) refl refl refl (omega arith) (λ a b c. let z : Settled ≡ Neither = sym c ∙ e in let y : ◌≡◌ {A = ℕ} 0 1 = cc in let w : ⊥ = omega arith in w)

-- ---- a history goes on by calls through a table, from whatever they may leave
pub leaves_on : (g : Geometry) (s : Bytes) (m : Plain) (t : Table) (c : Call) → Reached g s m → is_format c ≡ false → takes_bytes c ≡ true → {u : Bytes} → MayLeaveThrough g s t c u
    → (n : Plain) × Reached g u n × (number (through g s t c).answer ≤ 1 → n ≡ follow g c (outcome g c s) m) × (2 ≤ number (through g s t c).answer → n ≡ m)
leaves_on g s m t c r n by (as_plain l h) = (follow g c (outcome g c s) m, called' c n by r h, (λ z. refl), λ z. absurd (let w : ⊥ = omega (arith, l, z) in w))
leaves_on g s m t c r n by (as_before l) = (m, r, (λ z. absurd (let w : ⊥ = omega (arith, l, z) in w)), λ z. refl)

pub goes_on_lem : (g : Geometry) (s : Bytes) (m : Plain) (t : Table) (c : Call) → Reached g s m → is_format c ≡ false → takes_bytes c ≡ true
    → (n : Plain) × Reached g (through g s t c).image n × (number (through g s t c).answer ≤ 1 → n ≡ follow g c (outcome g c s) m) × (2 ≤ number (through g s t c).answer → n ≡ m)
goes_on_lem g s m t c r n by = leaves_on g s m t c r n by (as_made_lem g s t c)

-- ---- along any calls through one table
pub record TableHolds (g : Geometry) (s : Bytes) (t : Table) : Type 0 where
  pub bytes : are_bytes s ≡ true
  pub usable : is_usable t ≡ true → (standing g (survey g s) ≡ Settled) × (t ≡ fresh g s)

moved : (g : Geometry) {s u : Bytes} {t v : Table} → u ≡ s → v ≡ t → TableHolds g s t → TableHolds g u v
moved g {s} {u} {t} {v} p q h = subst (λ (x : Bytes). TableHolds g x v) (sym p) (subst (λ (y : Table). TableHolds g s y) (sym q) h)

pub beside_holds : (g : Geometry) {s : Bytes} {t : Table} → Beside g s t → TableHolds g s t
beside_holds g (unusable s t b u) = record { bytes = b; usable = λ z. true_false (is_usable t) z u }
beside_holds g (ended_by c s t b f z) =
    record { bytes = through_bytes g s t c b; usable = λ u. through_done g s t c b (fills_bytes c f) (λ n. true_false (fills c) f n) z }
beside_holds g (filled s t b z) = let k = filling g s t in moved g k.image refl (record { bytes = b; usable = λ u. k.done z })
beside_holds g (called {s} {u} {t} c by r (as_plain l m)) = go (beside_holds g r) (ℕ_discrete (number (through g s t c).answer) 1)
  where
    go : TableHolds g s t → Dec (number (through g s t c).answer ≡ 1) → TableHolds g u (through g s t c).table
    -- stopped: the table is marked, whatever the image
    go h (yes z) =
        record {
          bytes = leave_holds (λ (x : Bytes). are_bytes x ≡ true) g c s (bytes_after g c s h.bytes) m;
          usable = λ e. true_false (is_usable (through g s t c).table) e (ap is_usable (stopped_table g s t c z) ∙ marked_unusable t);
        }
    -- finished: the image is the one that its steps leave
    go h (no n) =
        let z : number (through g s t c).answer ≡ 0 = omega (arith, l, n) in
        moved g (done_leaves g s t c z m) refl (record { bytes = through_bytes g s t c h.bytes; usable = λ e. through_done g s t c h.bytes by (λ f. (h.usable (done_usable g s t c z f)).1) z })
beside_holds g (called {s} {u} {t} c by r (as_before l)) = moved g refl (through_refused g s t c l).1 (beside_holds g r)
beside_holds g (refilled {s} {t} r) = go (beside_holds g r) (ℕ_discrete (number (fill_through g s t).answer) 0)
  where
    go : TableHolds g s t → Dec (number (fill_through g s t).answer ≡ 0) → TableHolds g (fill_through g s t).image (fill_through g s t).table
    go h (yes z) = let k = filling g s t in moved g k.image refl (record { bytes = h.bytes; usable = λ u. k.done z })
    go h (no n) = let k = filling g s t in moved g k.image (k.refused n).0 h
beside_holds g (looked {s} {t} f r) = let k = read_keeps g s t f in moved g k.0 k.1 (beside_holds g r)
