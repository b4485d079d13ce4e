pub mod ZoneLines
