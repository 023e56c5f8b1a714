pub mod PointLaws
pub mod SearchLaws
pub mod Theorems
