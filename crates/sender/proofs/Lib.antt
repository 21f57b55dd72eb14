pub mod Places
pub mod Parts
pub mod Fits
pub mod Order
