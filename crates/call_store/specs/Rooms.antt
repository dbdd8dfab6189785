-- A sector that fits lies inside its unit, and so does its descriptor.
use Rattle.std.specs.Prelude.{◌≡◌, true, ◌&&◌, ℕ, ◌+◌, ◌-◌, ◌*◌, ◌≤◌, ◌<◌, leb, ltb, length}
use Rattle.std.proofs.Common.{arith, leb-true, ltb-true}
use Rattle.rules.specs.Unit.{Room, n, gap, stands, header_bytes, descriptor_bytes}
use Rattle.rules.specs.Jobs.{vacant, fits}
use Rattle.laws.specs.Tests.{one, and_inv}
use Rattle.theory.specs.Storing.Ready.{vacant_le}

-- a sector of size e, from low down, with its descriptor at p, in a unit of S bytes
pub record SectorRoom (S e p low : ℕ) : Type 0 where
  pub position : stands p + 8 ≤ S
  pub sector : e ≤ low
  pub top : low ≤ S

pub fits_inside : (S e : ℕ) (r : Room) → stands (n r) ≤ S → r.low ≤ S → fits e r ≡ true → SectorRoom S e (vacant r.array) r.low
unfolding fits gap stands n
fits_inside S e r a b h =
    let v = vacant_le r.array in
    one (ltb (vacant r.array) (length r.array) && leb e (r.low - (header_bytes + descriptor_bytes * length r.array))) (leb (e + descriptor_bytes) (r.low - (header_bytes + descriptor_bytes * length r.array))) h
    (λ k.
    let q = and_inv (ltb (vacant r.array) (length r.array)) (leb e (r.low - (header_bytes + descriptor_bytes * length r.array))) k in
    let x : vacant r.array < length r.array = ltb-true (vacant r.array) (length r.array) q.0 in
    let y : e ≤ r.low - (header_bytes + descriptor_bytes * length r.array) = leb-true e (r.low - (header_bytes + descriptor_bytes * length r.array)) q.1 in
    record { position = omega arith; sector = omega arith; top = b })
    (λ k.
    let y : e + descriptor_bytes ≤ r.low - (header_bytes + descriptor_bytes * length r.array) = leb-true (e + descriptor_bytes) (r.low - (header_bytes + descriptor_bytes * length r.array)) k in
    record { position = omega arith; sector = omega arith; top = b })
