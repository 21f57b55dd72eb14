pub mod Numbering
pub mod Prepared
pub mod Sending
pub mod Sent
pub mod Broadcast
