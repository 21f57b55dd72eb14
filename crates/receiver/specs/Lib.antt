pub mod Sound
pub mod Meaning
pub mod Calls
pub mod Blocks
pub mod Repairs
pub mod Steps
pub mod Stored
