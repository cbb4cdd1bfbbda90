-- Promises restates the main theorems. Feeds, Runs: the whole feed. Desks, Sitting, Histories, Costs, DeskRuns, Calls: the desk. The others prove these and
-- the code.
pub mod Promises
pub mod Feeds
pub mod Runs
pub mod Desks
pub mod Sitting
pub mod Histories
pub mod Costs
pub mod DeskRuns
pub mod Calls
pub mod Widths
pub mod Bytes
pub mod Filling
pub mod Feeding
pub mod Buffers
