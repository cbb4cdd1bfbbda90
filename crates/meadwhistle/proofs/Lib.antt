-- Promises has what this crate promises; Parts proves what it says of the part that is shown.
pub mod Promises
pub mod Parts
