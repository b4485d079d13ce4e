pub mod Exchanger
pub mod MailRecords
