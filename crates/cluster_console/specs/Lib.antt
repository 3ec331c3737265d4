pub mod Command
pub mod Checked
pub mod Shown
pub mod Taking
pub mod Played
pub mod Answering
