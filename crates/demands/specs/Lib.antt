pub mod Words
pub mod Points
pub mod Demand1
pub mod Writing
