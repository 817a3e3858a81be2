pub mod Word
pub mod Carried
pub mod Kept
