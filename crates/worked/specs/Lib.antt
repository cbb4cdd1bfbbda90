-- The worked examples of document 01: a table, and what it says of the functions.
pub mod Examples
pub mod Holds
