pub mod ServiceLines
