-- The class of a descriptor says which of the reader's kinds it is of.
use Rattle.std.specs.Prelude.{◌≡◌, refl, Bool, true, false, not, ◌&&◌, ◌||◌, if◌then◌else◌}
use Rattle.std.proofs.Common.{eqb-true}
use Rattle.rules.specs.Unit.{Descriptor, is_torn, is_allocated, is_pending, is_current, is_data, is_transaction, is_open, is_committed, is_pending_file, is_current_file}
use Rattle.laws.specs.Tests.{and_inv}
use Rattle.counts.specs.declared.Class.{Class}
use Rattle.counts.specs.declared.Class.TheVariants.{Idle, Unfinished, Open, Committed, Pending, Current, Wrong}
use Rattle.counts.specs.Tally.{class_of}
use Rattle.counts.specs.Sums as counted

pub record Kinds (d : Descriptor) (k : Class) : Type 0 where
  pub unfinished : counted.is_unfinished k ≡ (is_torn d || is_allocated d)
  pub apart : (is_torn d && is_allocated d) ≡ false
  pub committed : counted.is_committed k ≡ is_committed d
  pub opened : counted.is_open k ≡ is_open d
  pub pending : counted.is_pending k ≡ is_pending_file d
  pub current : counted.is_current k ≡ (is_current_file d && is_data d)
  pub wrong : counted.is_wrong k ≡ (is_current_file d && not (is_data d))

-- ---- by the tests: torn, allocated, pending, current; of a transaction, of data
abbrev class_by : (t a p c x y : Bool) → Class
class_by t a p c x y =
    if t || a then Unfinished
    else if p && x then Open
    else if c && x then Committed
    else if p && not x then Pending
    else if c && not x then (if y then Current else Wrong)
    else Idle

record Tested (t a p c x y : Bool) : Type 0 where
  unfinished : counted.is_unfinished (class_by t a p c x y) ≡ (t || a)
  apart : (t && a) ≡ false
  committed : counted.is_committed (class_by t a p c x y) ≡ (c && x)
  opened : counted.is_open (class_by t a p c x y) ≡ (p && x)
  pending : counted.is_pending (class_by t a p c x y) ≡ (p && not x)
  current : counted.is_current (class_by t a p c x y) ≡ (c && not x && y)
  wrong : counted.is_wrong (class_by t a p c x y) ≡ (c && not x && not y)

torn : (x y : Bool) → Tested true false false false x y
torn x y = record { unfinished = refl; apart = refl; committed = refl; opened = refl; pending = refl; current = refl; wrong = refl }

allocated : (x y : Bool) → Tested false true false false x y
allocated x y = record { unfinished = refl; apart = refl; committed = refl; opened = refl; pending = refl; current = refl; wrong = refl }

pending : (x y : Bool) → Tested false false true false x y
pending true y = record { unfinished = refl; apart = refl; committed = refl; opened = refl; pending = refl; current = refl; wrong = refl }
pending false y = record { unfinished = refl; apart = refl; committed = refl; opened = refl; pending = refl; current = refl; wrong = refl }

current : (x y : Bool) → Tested false false false true x y
current true y = record { unfinished = refl; apart = refl; committed = refl; opened = refl; pending = refl; current = refl; wrong = refl }
current false true = record { unfinished = refl; apart = refl; committed = refl; opened = refl; pending = refl; current = refl; wrong = refl }
current false false = record { unfinished = refl; apart = refl; committed = refl; opened = refl; pending = refl; current = refl; wrong = refl }

none : (x y : Bool) → Tested false false false false x y
none x y = record { unfinished = refl; apart = refl; committed = refl; opened = refl; pending = refl; current = refl; wrong = refl }

-- ---- its flags are one word
module _ (d : Descriptor) where
  abbrev Its : Type 0
  Its = Tested (is_torn d) (is_allocated d) (is_pending d) (is_current d) (is_transaction d) (is_data d)

  is_torn_its : is_torn d ≡ true → Its
  unfolding is_torn is_allocated is_pending is_current is_transaction is_data
  is_torn_its h =
      let t = and_inv _ _ h in
      let f = eqb-true d.flags 0xFFFF t.0 in
      rw (f, t.1) (torn (is_transaction d) (is_data d))

  is_allocated_its : is_allocated d ≡ true → Its
  unfolding is_torn is_allocated is_pending is_current is_transaction is_data
  is_allocated_its h = let f = eqb-true d.flags 0xFFFE h in
      rw f (allocated (is_transaction d) (is_data d))

  is_pending_its : is_pending d ≡ true → Its
  unfolding is_torn is_allocated is_pending is_current is_transaction is_data
  is_pending_its h = let f = eqb-true d.flags 0xFFFC h in
      rw f (pending (is_transaction d) (is_data d))

  is_current_its : is_current d ≡ true → Its
  unfolding is_torn is_allocated is_pending is_current is_transaction is_data
  is_current_its h = let f = eqb-true d.flags 0xFFF8 h in
      rw f (current (is_transaction d) (is_data d))

  its : Its
  its = go (is_torn d) (is_allocated d) (is_pending d) (is_current d) refl refl refl refl
    where
      go : (t a p c : Bool) → is_torn d ≡ t → is_allocated d ≡ a → is_pending d ≡ p → is_current d ≡ c → Its
      go true a p c ht ha hp hc = is_torn_its ht
      go false true p c ht ha hp hc = is_allocated_its ha
      go false false true c ht ha hp hc = is_pending_its hp
      go false false false true ht ha hp hc = is_current_its hc
      go false false false false ht ha hp hc = rw (ht, ha, hp, hc) (none (is_transaction d) (is_data d))

  pub kinds : Kinds d (class_of d)
  unfolding class_of is_open is_committed is_pending_file is_current_file
  kinds = record {
    unfinished = its.unfinished;
    apart = its.apart;
    committed = its.committed;
    opened = its.opened;
    pending = its.pending;
    current = its.current;
    wrong = its.wrong;
  }
