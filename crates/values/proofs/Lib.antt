pub mod Readiness
pub mod Valuing
