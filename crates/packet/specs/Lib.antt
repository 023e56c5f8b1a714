pub mod Walk
pub mod Fields
pub mod Steps
pub mod Internal
pub mod Refusals
