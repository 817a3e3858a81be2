pub mod Ranges
pub mod Exits
pub mod Clauses
pub mod Kept
