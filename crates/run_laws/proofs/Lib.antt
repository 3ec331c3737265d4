-- The law of tags.
mod Backward
-- The law that joins a node's edge to the world.
mod Written
-- The law of entries, in reading order: each file uses only those above it; Rows stands alone.
mod Placing
mod Reporting
mod Serving
mod Reading
mod Siblings
mod Rows
