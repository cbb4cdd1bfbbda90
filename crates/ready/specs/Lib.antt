-- A rule's file made ready to run. All of it is the mirror of the machine; proofs/Promises.antt says what it means.
pub mod Mirror
