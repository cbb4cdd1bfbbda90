-- The mirror of the machine: sets of nodes as words, the nodes, one event downwards, one event on a whole rule.
pub mod Masks
pub mod Nodes
pub mod Down
pub mod Step
