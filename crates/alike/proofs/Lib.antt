-- Promises restates the main theorems; the others prove them, in this order.
pub mod Promises
pub mod Looking
pub mod Growing
pub mod Placing
pub mod Answering
pub mod Filling
pub mod Faults
pub mod Settling
pub mod Naming
pub mod Quiet
pub mod Pointwise
pub mod Scanning
pub mod Judging
pub mod Tails
pub mod Readying
pub mod AcceptedAlike
