pub mod Calls
pub mod Grids
pub mod Layout
pub mod Memory
pub mod Nor
pub mod Stores
