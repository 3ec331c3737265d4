-- `FieldLemmas`: what loops over fields keep.
pub mod FieldLemmas
