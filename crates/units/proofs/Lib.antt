pub mod Rounding
pub mod Theorems
pub mod Bits
pub mod Rising
pub mod Machine
