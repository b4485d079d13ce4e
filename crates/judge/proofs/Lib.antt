pub mod SeenRecords
pub mod Los
pub mod Meanings
pub mod ByKeys
pub mod KnownRecords
pub mod Shapes
