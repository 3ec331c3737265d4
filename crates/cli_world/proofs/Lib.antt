-- `Long`: a line of more than five words is bad.
pub mod Long
