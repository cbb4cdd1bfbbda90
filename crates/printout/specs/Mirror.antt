-- The mirror of the machine: the lines, from the answers as they were recorded.
pub mod Lines
