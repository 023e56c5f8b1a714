pub mod Form
pub mod Numbers
pub mod Pieces
pub mod Judging
