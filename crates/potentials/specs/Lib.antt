pub mod Standing
pub mod TightPlaces
pub mod inner
