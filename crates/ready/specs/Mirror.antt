-- The mirror of the machine: an expression written out, what its nodes have afresh and gain, and the rule of a file.
pub mod WrittenOut
pub mod Fresh
pub mod Ready
