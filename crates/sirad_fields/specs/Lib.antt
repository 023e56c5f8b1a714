pub mod Values
pub mod Frames
pub mod Fields
pub mod Internal
pub mod Answers
