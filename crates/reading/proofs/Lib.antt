pub mod Equations
pub mod Prefix
pub mod Resuming
pub mod Rows
pub mod LeftmostLaws
pub mod CourseLaws
pub mod Going
pub mod Open
