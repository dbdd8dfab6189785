-- The listing of a whole input, by what its two header lines say.
use Rattle.std.specs.Prelude.{◌≡◌, refl, Bool, true, false, ◌≤◌, ◌<◌, length}
use Rattle.std.proofs.Math.Path.{sym, ap}
use Rattle.std.proofs.Common.{◌∙◌, arith}
use Rattle.std.proofs.Math.Option.{Option, none, some}
use Rattle.rules.specs.Flash.{Bytes, is_geometry}
use Rattle.rules.specs.Text.{Parsed, line}
use Rattle.rules.specs.Listing.{refused_line, listed, listed_as, listed_with, listing}
use Rattle.rules.specs.declared.NotDone.TheVariants.{BadGeometry}
use Rattle.rules.specs.declared.Geometry.{Geometry}
use Rattle.laws.specs.Units.{right_geometry}
use Rattle.text.specs.Says.{HasLines}
use Rattle.listing_text.specs.Looks.{listed_outside}

-- No such geometry.
too_large : (g : Geometry) (s : Bytes) → (g.size ≤ 65536 → 65536 < g.units) → is_geometry g (length s) ≡ false
too_large g s h = go (is_geometry g (length s)) refl
  where
    go : (b : Bool) → is_geometry g (length s) ≡ b → b ≡ false
    go true e =
        let o = right_geometry g s e in
        absurd (omega (arith, o.small, o.few, h (omega (arith, o.small))))
    go false e = refl

pub listing_bad : (s : Bytes) → ((p q : Parsed) → line "unit=" s ≡ some p → line "units=" p.rest ≡ some q → p.value ≤ 65536 → 65536 < q.value) → refused_line BadGeometry ≡ listing s
unfolding listing listed_with listed_as
listing_bad s h = go (line "unit=" s) refl
  where
    second : (p : Parsed) → line "unit=" s ≡ some p → (o : Option Parsed) → line "units=" p.rest ≡ o → refused_line BadGeometry ≡ listed_as p.value o
    second p a none b = refl
    second p a (some q) b = listed_outside (record { size = p.value; units = q.value }) q.rest (too_large _ q.rest (h p q a b))

    go : (o : Option Parsed) → line "unit=" s ≡ o → refused_line BadGeometry ≡ listed_with o
    go none a = refl
    go (some p) a = second p a (line "units=" p.rest) refl

pub listing_image : (s rest : Bytes) (g : Geometry) → HasLines s rest g → listed g rest ≡ listing s
unfolding listing listed_with listed_as
listing_image s rest g l = sym (ap listed_with l.size ∙ ap (listed_as g.size) l.units)
