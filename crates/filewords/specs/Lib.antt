pub mod Files
pub mod Weave
