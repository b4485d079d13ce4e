pub mod HostReading
pub mod HostRecords
