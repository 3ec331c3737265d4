-- `Laws`: texts that are written one after another.
pub mod Laws
