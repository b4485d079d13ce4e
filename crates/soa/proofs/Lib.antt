pub mod SoaData
