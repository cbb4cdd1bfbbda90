-- What crosses to other languages.
pub mod Flat
pub mod Part
