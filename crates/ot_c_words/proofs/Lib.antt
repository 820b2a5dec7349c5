pub mod SpanLemmas
pub mod ValueLemmas
pub mod MarkLemmas
pub mod WordLemmas
pub mod ReadLemmas
pub mod StepLemmas
