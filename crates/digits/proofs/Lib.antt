pub mod Choices
pub mod Lists
pub mod LittleEndianLaws
pub mod HexLaws
pub mod StoreLaws
pub mod HexSteps
pub mod RefusalLaws
