-- Running a rule. What a reader must believe: Feed (the answers as bytes, and what running means), Reply (what a step's reply says), History (what a
-- desk answers to any openings and steps) and Cost (how many lines a step may report). Mirror has what the code computes; the theorems of
-- proofs/Promises.antt tie the two.
pub mod Feed
pub mod Reply
pub mod History
pub mod Cost
pub mod Mirror
