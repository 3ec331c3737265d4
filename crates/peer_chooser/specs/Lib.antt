pub mod Round
pub mod Choice
pub mod Room
pub mod Laws
