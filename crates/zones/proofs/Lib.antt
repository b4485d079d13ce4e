pub mod ZoneRecords
