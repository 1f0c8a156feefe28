pub mod AddedBytes
