pub mod Places
pub mod Formats
pub mod Flash
