pub mod Dialects
pub mod Entries
pub mod Lines
pub mod Feeding
pub mod Internal
pub mod Runs
pub mod Edges
pub mod Demands
