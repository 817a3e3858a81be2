pub mod Lowest
pub mod Kept
