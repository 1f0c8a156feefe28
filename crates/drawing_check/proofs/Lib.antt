pub mod SpanLemmas
pub mod MeetingLemmas
pub mod SeatLemmas
pub mod WayLemmas
pub mod GroupLemmas
pub mod ShapeLemmas
pub mod AnswerLemmas
pub mod Laws
