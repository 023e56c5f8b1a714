pub mod Profile
pub mod Packet
pub mod Internal
pub mod MmWave
pub mod VitalSigns
pub mod Document
pub mod Paper
pub mod Dialects
