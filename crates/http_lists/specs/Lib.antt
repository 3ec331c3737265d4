pub mod Members
pub mod Cut
pub mod Blanks
pub mod Left
