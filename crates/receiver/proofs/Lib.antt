pub mod Slots
mod Counts
mod Missing
mod Reading
mod Putting
mod Completing
mod Judging
