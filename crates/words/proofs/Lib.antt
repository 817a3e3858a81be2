pub mod Carried
pub mod Calls
