pub mod InOrder
pub mod Demand1
pub mod Fields
