pub mod Word
pub mod Held
