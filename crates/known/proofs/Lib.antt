mod Forced
mod Given
mod Block
