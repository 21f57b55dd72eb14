pub mod Linear
pub mod Laws
pub mod Every
pub mod Tables
pub mod Lookups
pub mod Turns
pub mod Powers
