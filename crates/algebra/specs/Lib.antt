pub mod Code
pub mod Fits
pub mod Laws
pub mod Loops
pub mod Packets
pub mod Grids
