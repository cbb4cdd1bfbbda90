-- The mirror of the machine: the desk, and a whole feed.
pub mod Desk
pub mod Feed
