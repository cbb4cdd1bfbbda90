-- The PAR language: read in this order, with the paper beside it.
pub mod Status
pub mod Expr
pub mod Figures
pub mod Step
pub mod Feed
pub mod Like
pub mod Moving
pub mod Throughout
pub mod Exchange
pub mod Growth
pub mod Records
pub mod Nodes
