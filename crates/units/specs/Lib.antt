pub mod Rounding
pub mod Float
pub mod Units
pub mod Internal
