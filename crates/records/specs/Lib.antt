-- One record of a file (document 01, "Expression file", "Pair file", "Refusal numbers"), and the walk over all of them.
pub mod Refusals
pub mod Fields
pub mod Kinds
pub mod Constructs
pub mod Next
pub mod Walk
pub mod Says
