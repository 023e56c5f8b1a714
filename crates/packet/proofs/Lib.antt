pub mod WalkLaws
pub mod Opened
pub mod FieldLaws
pub mod Theorems
pub mod Refusals
