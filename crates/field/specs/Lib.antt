pub mod Fields
pub mod Equal
