-- When a proposal is accepted, and what the judge computes.
pub mod Closing
pub mod Proposal
pub mod Verdict
pub mod Told
pub mod Tables
pub mod OneProof
pub mod Lookup
pub mod Plans
pub mod List
pub mod Settled
pub mod Outcome
pub mod Ready
