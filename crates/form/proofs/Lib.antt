pub mod PieceLaws
pub mod ParsedLaws
pub mod Theorems
pub mod Bounds
pub mod Lives
pub mod Refusals
pub mod Insides
pub mod FieldLaws
