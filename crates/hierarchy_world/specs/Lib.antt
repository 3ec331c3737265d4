-- In order of dependence: each file uses only those above it. View and Runs are what callers need.
pub mod View
pub mod Parts
pub mod Posted
pub mod Outcomes
pub mod Runs
