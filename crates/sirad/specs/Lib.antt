pub mod Classes
pub mod Rows
pub mod Sirad
pub mod Table
