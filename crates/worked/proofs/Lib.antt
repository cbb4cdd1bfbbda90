-- Promises states the one theorem; Computing proves it.
pub mod Promises
pub mod Computing
