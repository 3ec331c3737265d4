pub mod Command
pub mod Event
pub mod Shown
pub mod Played
