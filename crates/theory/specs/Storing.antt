-- A store of one sector, step by step. Serves demands 2 and 3: what a begin, write or delete that is stopped leaves.

-- A home whose descriptor is filled is still good. A sector is carved from the gap's upper end.
pub mod Grow
-- Words programmed in a unit's bytes: a blank descriptor filled, and the upper end of the gap.
pub mod Fill
-- One more entry, torn, allocated, pending or open, between those of a settled image.
pub mod Placed
-- A pending descriptor made old: the last step of a store over an earlier one.
pub mod Earlier
-- An image with one home in hand: one word of it programmed, and a sector's words written one after the other.
pub mod Focus
-- The steps of a store at a place that fits: what stands after each of them is safe.
pub mod Store
-- A unit that fits is ready for a store.
pub mod Ready
-- A store into a unit that fits as it stands, up to its last step.
pub mod Stores
-- Where a store is placed: a home that fits as it stands, or one that fits once it is reclaimed.
pub mod Place
