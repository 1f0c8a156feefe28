pub mod WordOptions
pub mod NoteRooms
pub mod PairCounts
pub mod Writes
pub mod FoundDrawings
pub mod CertificateChecks
pub mod Readings
