-- `NewsLemmas`: what an acknowledgement changes, case by case.
pub mod NewsLemmas
