-- A unit's header behind its state: bytes 4-15, as six words.
use Rattle.std.specs.Prelude.{Bool, true, ℕ, [], ◌≡◌, refl}
use Rattle.rules.specs.Flash.{Bytes, erased, word}
use Rattle.rules.specs.Lists.{all}
use Rattle.rules.specs.Settled.{Home, has_header}
use Rattle.rules.specs.Unit.{is_header}
use Rattle.theory.specs.Base.Along.{le}

-- the words at bytes 4, 6, 8, 10, 12 and 14
pub record Head : Type 0 where
  pub at4 : ℕ
  pub at6 : ℕ
  pub at8 : ℕ
  pub at10 : ℕ
  pub at12 : ℕ
  pub at14 : ℕ

-- its bytes before r
abbrev pub head_bytes : Head → Bytes → Bytes
head_bytes h r = le h.at4 (le h.at6 (le h.at8 (le h.at10 (le h.at12 (le h.at14 r)))))

-- the header of a unit that nothing was written to
abbrev pub plain_head : Head
plain_head = record { at4 = 0xFFFF; at6 = 0xFFFF; at8 = 0xFFFF; at10 = 0xFFFF; at12 = 0xFFFF; at14 = 0xFFFF }

-- that of a finished copy: nothing is due in it
abbrev pub copy_head : Head
copy_head = plain_head

-- the one that stands in a unit
abbrev pub head_of : Bytes → Head
head_of u = record { at4 = word u 4; at6 = word u 6; at8 = word u 8; at10 = word u 10; at12 = word u 12; at14 = word u 14 }

-- it is what a settled home's may be, whatever stands before it
abbrev pub headed : Head → Bool
headed h = is_header (le 0 (le 0 (head_bytes h [])))

pub header_of : (L st : ℕ) (h : Head) (r : Bytes) → is_header (le L (le st (head_bytes h r))) ≡ headed h
unfolding is_header
header_of L st h r = refl

-- a home's is the one that stands in its unit
pub has_header_lem : (x : Home) → has_header x ≡ is_header x.unit.bytes
unfolding has_header
has_header_lem x = refl

pub plain_headed : headed plain_head ≡ true
unfolding is_header erased all
plain_headed = refl

pub copy_headed : headed copy_head ≡ true
copy_headed = plain_headed

-- nothing is due in it: behind its state it is erased
pub copy_erased : erased (head_bytes copy_head []) ≡ true
unfolding erased all
copy_erased = refl
