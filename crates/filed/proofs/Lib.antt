pub mod Read
pub mod Write
pub mod Longest
pub mod Listed
