-- `Apart`: no two steps that are owed have the same serial. `Ascending`: rounds stay in the order of their deadlines.
mod Apart
mod Ascending
