pub mod Contact
