pub mod Rules
pub mod Image
pub mod Reading
pub mod Refusals
