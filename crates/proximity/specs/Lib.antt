pub mod Proximity
pub mod Sentences
pub mod Internal
