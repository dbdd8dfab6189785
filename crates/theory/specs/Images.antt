-- An image by its parts: units, homes, descriptors, sectors, and how it is read back from them.

-- An image as its list of units, and what a step does to it.
pub mod Units
-- A unit's header behind its state: bytes 4-15, as six words.
pub mod Head
-- A unit's bytes from its parts, and that reading them gives the parts.
pub mod Layout
-- An erased unit: every byte is FF, and so are its header and all behind it. A spare is one.
pub mod Blank
-- A geometry in numbers; sectors lie at low or above; a sector's content, by the bytes from low up.
pub mod Sectors
-- An image's homes, each by its parts, and the survey that is read from them.
pub mod Model
-- Where an entry stands among those of the homes.
pub mod Located
-- One descriptor's flags are programmed: the list of entries changes at that entry, and nothing else.
pub mod Turn
-- What the standing of an image is, by its entries; turns of entries, and what holds along them.
pub mod Stand
-- Sectors that lie between two bounds and do not overlap are together no larger than what is between.
pub mod Packing
-- The entries of an image: each sector's bytes stand where its entry says, and it is tagged.
pub mod Entries
