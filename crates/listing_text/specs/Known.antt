-- What a settled image lists: by the places of its files, and whole.
use Rattle.std.specs.Prelude.{◌≡◌, ℕ, zero, suc, ◌+◌, ◌-◌, ◌≤◌, ◌<◌, get_or, length, eqb, not, cond, Bool, true, false, count_by}
use Rattle.std.specs.Int.{from_bool}
use Rattle.std.proofs.Math.Path.{refl, subst}
use Rattle.std.proofs.Common.{sym, ap, arith, ne_eqb}
use mathlib.Core.List.{List, [], ◌∷◌, ◌++◌, append_assoc}
use Rattle.std.proofs.Math.Option.{Option, none, some}
use Rattle.rules.specs.Flash.{Bytes}
use Rattle.rules.specs.Unit.{Descriptor, stands, is_current_file}
use Rattle.rules.specs.Settled.{Home, Entry, Survey, Physical, entries_in, entries_of, survey, pick, select, of_file}
use Rattle.rules.specs.Sound.{standing}
use Rattle.rules.specs.Views.{committed_view}
use Rattle.rules.specs.Listing.{keyed, file_line, file_lines, settled_lines}
use Rattle.rules.specs.declared.Geometry.{Geometry}
use Rattle.rules.specs.declared.Standing.TheVariants.{Settled, Neither}
use Rattle.home_table.specs.Bridge.{houses}
use Rattle.index.specs.declared.Index.{Index}
use Rattle.index.specs.Shapes.{place_of, EachEntry, end, and, Indexed}
use Rattle.laws.specs.Units.{RightGeometry, right_geometry}
use Rattle.index.specs.Entries.{each_append, each_filter, each_first, handle_is, spot_is, place_high, MayStand}
use Rattle.index.specs.Views.{committed_stands, none_open}
use Rattle.call_look.specs.Known.{Known}
use Rattle.listing_text.specs.Files.{is_place, files_are_lem}
use Rattle.listing_text.specs.Lines.{Lined, line_of, line_at, head}

-- Each file's place is one whose line is short, and its line is the file's.
pub record Listable (g : Geometry) (s : Bytes) (r : Index) : Type 0 where
  pub lined : (f : ℕ) → f < 256 → Lined g s (get_or r.current f 0)
  pub line : (f : ℕ) → f < 256 → line_at g s f (get_or r.current f 0) ≡ file_line f (committed_view f (survey g s))

-- ---- the logical unit of every entry is below U-1
abbrev UnitBelow : ℕ → Entry → Type 0
UnitBelow n e = e.at.unit < n

below_in : (n L : ℕ) (p : Physical) (i : ℕ) (ds : List Descriptor) → L < n → EachEntry (UnitBelow n) (entries_in L p i ds)
unfolding entries_in
below_in n L p i [] l = end
below_in n L p i (d ∷ ds) l = and l (below_in n L p (suc i) ds l)

below_homes : (g : Geometry) (s : Bytes) (home : List ℕ) (n k L : ℕ) → L + k ≤ n → EachEntry (UnitBelow n) (entries_of (houses g s home k L))
unfolding entries_of houses
below_homes g s home n zero L l = end
below_homes g s home n (suc k) L l = each_append (below_in n L _ 0 _ (omega arith)) (below_homes g s home n k (L + 1) (omega arith))

module _ (g : Geometry) (s : Bytes) (home : List ℕ) (k : Known g s home) where
  abbrev v : Survey
  v = survey g s

  o : RightGeometry g s
  o = right_geometry g s k.homed.right

  below : EachEntry (UnitBelow (g.units - 1)) v.entries
  unfolding survey
  below = subst (λ (hs : List Home). EachEntry (UnitBelow (g.units - 1)) (entries_of hs)) (sym k.homed.homes) (below_homes g s home (g.units - 1) (g.units - 1) 0 (omega arith))

  committed_below : (f : ℕ) (e : Entry) → committed_view f v ≡ some e → UnitBelow (g.units - 1) e
  unfolding committed_view select pick
  committed_below f e q = each_first (each_filter (of_file f) (each_filter (λ (e : Entry). is_current_file e.descriptor) below)) q

  module _ (r : Index) (x : Indexed g s r) where
    lined_at : (e : Option Entry) → MayStand g s e → ((d : Entry) → e ≡ some d → UnitBelow (g.units - 1) d) → Lined g s (place_of e)
    unfolding place_of stands
    lined_at none h b = record { large = omega (arith, o.large); inside = λ n. absurd (n refl); high = λ n. absurd (n refl); near = λ n. absurd (n refl) }
    lined_at (some e) h b =
        let p = h e refl in
        record {
          large = omega (arith, o.large);
          inside = λ n. (spot_is g s e o p).inside;
          high = λ n. place_high g s e o p;
          near = λ n. rw (handle_is g s e o p) (record { unit = omega (arith, b e refl, o.few); position = omega (arith, p.within, o.small) });
        }

    line_at_lem : (f : ℕ) (e : Option Entry) → MayStand g s e → line_at g s f (place_of e) ≡ file_line f e
    unfolding place_of line_at line_of file_line stands
    line_at_lem f none h = refl
    line_at_lem f (some e) h =
        let p = h e refl in
        rw (ne_eqb e.place 0 (λ z. omega (arith, p.place)), handle_is g s e o p, p.descriptor)

    pub listable : Listable g s r
    listable =
        record {
          lined = λ f l. rw (x.says.current f l) (lined_at (committed_view f v) (committed_stands g s x.stood f) (committed_below f));
          line = λ f l. rw (x.says.current f l) (line_at_lem f (committed_view f v) (committed_stands g s x.stood f));
        }

    sound : standing g v ≡ Neither → ⊥
    sound n = let z : ◌≡◌ {A = ℕ} 0 1 = go (standing g v) k.settled n in omega arith
      where
        go : (t : _) → t ≡ Settled → t ≡ Neither → ◌≡◌ {A = ℕ} 0 1
        go t a b = cc

    -- The whole text.
    pub settled_is : length r.current ≡ 256 → head g (not (eqb r.opened 0)) (count_by is_place r.current) ++ file_lines 256 0 v ≡ settled_lines g v
    unfolding head settled_lines
    settled_is l = rw (files_are_lem g s r x sound l, none_open g s r x, append_assoc, append_assoc, append_assoc) (ap (λ (n : ℕ). keyed "unit=" g.size ++ (keyed "units=" g.units ++ (keyed "open=" n ++ (keyed "files=" (length (select is_current_file v)) ++ file_lines 256 0 v)))) (turned (eqb r.opened 0)))
      where
        turned : (b : Bool) → ◌≡◌ {A = ℕ} (from_bool (not b)) (cond b 0 1)
        turned true = refl
        turned false = refl
