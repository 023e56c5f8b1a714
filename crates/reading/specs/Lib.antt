pub mod Reading
pub mod Answers
pub mod Resuming
pub mod Internal
pub mod Leftmost
pub mod Course
pub mod Begins
