pub mod Probes
pub mod Texts
