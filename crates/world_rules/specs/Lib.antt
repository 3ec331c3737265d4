-- In order of dependence: each file uses only those above it. To read, begin with Safety and Run.
pub mod Names
pub mod World
pub mod Consequence
pub mod Run
pub mod Noise
pub mod Safety
pub mod Lineage
pub mod Asked
pub mod Provenance
pub mod Sources
pub mod Apply
