-- What a file's bytes say: the reading of each kind of file, the rule, the index, what the functions leave in the tables, and one example.
pub mod Reading
pub mod Says
pub mod Rule
pub mod Index
pub mod Post
pub mod Swap
