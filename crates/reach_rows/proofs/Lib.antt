pub mod VectorLemmas
pub mod WordLemmas
pub mod RowLemmas
pub mod BucketLemmas
