pub mod Turns
pub mod Ledger
pub mod Boards
pub mod Law
pub mod Steps
