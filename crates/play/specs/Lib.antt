-- One event on a rule's nodes. What a reader must believe: Said, which expression two words stand for. Mirror has what the code computes, on any nodes
-- whatever; proofs/Promises.antt ties the two.
pub mod Said
pub mod Mirror
