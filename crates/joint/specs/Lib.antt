pub mod Image
pub mod Sends
pub mod Asked
pub mod Held
