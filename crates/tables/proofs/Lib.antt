pub mod Table
pub mod Kept
