pub mod AddressLines
