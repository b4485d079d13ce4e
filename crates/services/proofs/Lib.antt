pub mod ServiceRecords
