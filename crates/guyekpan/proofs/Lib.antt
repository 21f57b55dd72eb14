pub mod Numbers
pub mod Lists
pub mod Repairs
