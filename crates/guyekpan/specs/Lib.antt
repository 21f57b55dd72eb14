pub mod Bytes
pub mod Host
