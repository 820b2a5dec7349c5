pub mod SizeLemmas
pub mod CopyLemmas
pub mod SeekLemmas
pub mod BodyLemmas
pub mod PlaceLemmas
