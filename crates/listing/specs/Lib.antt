pub mod Decimal
pub mod Lines
pub mod Gather
pub mod Listing
pub mod Example
pub mod Internal
