pub mod Rules
pub mod Sizes
pub mod Made
pub mod Checks
pub mod Blocks
