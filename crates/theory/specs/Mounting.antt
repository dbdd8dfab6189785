-- What every call keeps, and mounts one after the other until one ends. Serves demand 3: the bound over all restarts.

-- A finished format leaves a safe image.
pub mod Formatted
-- What a mount has left to do, where it ends, and the number that falls however often mounting is begun again.
pub mod Measure
-- One mount, step by step: at every moment a mount begun again ends at the same image, and has as many steps left of those that are made only once.
pub mod Mounts
-- Mounts one after the other, each of what the one before may leave: they end at the same image, and in all make no more steps than the measure.
pub mod Remounts
-- A mount where no unit is moving: step by step, to a settled image with no transaction open.
pub mod TidyMounts
-- A mount of a moving unit, step by step, to a settled image that shows what was shown.
pub mod MoveMounts
-- What every call but format keeps: the image is safe, or a home is being moved.
pub mod Kept
-- A moving image is not settled; what is kept is mounted to a settled image.
pub mod KeptMounts
