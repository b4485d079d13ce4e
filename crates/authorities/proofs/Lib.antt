pub mod Authority
