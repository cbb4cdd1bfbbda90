-- Promises restates the main theorems. Plays: which expression the two words stand for. Whole: one event on a whole rule. Right: one event downwards,
-- over Held (which part holds the event) and Did, DidOne, DidTwo (from what was done to the parts to what was done to the node). Exact: the two words fix
-- the expression. Comes: the events that came. Few: the lines. The others prove these and the code.
pub mod Promises
pub mod Plays
pub mod Whole
pub mod Right
pub mod Held
pub mod Did
pub mod DidOne
pub mod DidTwo
pub mod Exact
pub mod Few
pub mod Rests
pub mod Frame
pub mod Ranges
pub mod Compared
pub mod Comes
pub mod Lowest
pub mod Counts
pub mod Spans
pub mod Digits
pub mod Routes
pub mod Shifts
pub mod Tests
pub mod KindNumbers
