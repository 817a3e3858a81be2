pub mod Writes
pub mod Fills
pub mod Told
pub mod Kept
