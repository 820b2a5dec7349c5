pub mod Streams
pub mod Asking
pub mod Exchanges
