pub mod Spots
pub mod Texts
pub mod Seeking
