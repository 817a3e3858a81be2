pub mod Weave
pub mod Claims
