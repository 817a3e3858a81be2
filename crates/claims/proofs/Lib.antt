pub mod Ask
pub mod Build
pub mod Alike
pub mod Judge
pub mod Across
pub mod Patterns
pub mod Listed
