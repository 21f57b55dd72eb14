mod Asking
mod Holding
mod Words
