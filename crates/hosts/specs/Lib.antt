pub mod HostLines
