-- Promises restates the main theorems. RuleNodes: the rule of a file. Written: an expression written out. Afresh: nodes that are prepared play their
-- expression. Rooms, Readying: what the code asks and gives. The others prove these.
pub mod Promises
pub mod RuleNodes
pub mod Written
pub mod Afresh
pub mod Lays
pub mod Prepared
pub mod Beside
pub mod Keeps
pub mod Numbers
pub mod Rooms
pub mod Readying
