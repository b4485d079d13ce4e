pub mod SrvData
