-- Laws for those who design screens (Screens.antt): they follow from demand 2.

-- What the laws for the screens speak of.
pub mod Words
-- Bodies as changes of a plain map: one behind the other, and neighbours exchanged.
pub mod Maps
-- Calls that commit nothing: the plain store's files stay, whatever is stopped or refused.
pub mod Trips
-- What bodies and transactions make of the plain store.
pub mod Made
-- Nothing committed: the map, each file's handle and the listing stay.
pub mod Kept
-- What is read of an image at rest is its map's.
pub mod Reading
-- Two stores with the same map, and what each makes of it.
pub mod Both
-- The page: each law is of any image at rest.
pub mod Screens
-- What `witness` computes of the laws are these theorems, each for one history: what makes a row false makes its law false.
pub mod Instances
