-- when a step comes of one with the node's own tags
pub mod Tagged
-- what entries say of purges
pub mod Entries
