-- Promises has what this crate promises; the others prove it and the code, in this order.
pub mod Promises
pub mod Words
pub mod Outputs
pub mod Lines
pub mod Printing
pub mod Texts
pub mod SwapText
