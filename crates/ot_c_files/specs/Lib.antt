pub mod Program
pub mod Declarations
pub mod Regions
pub mod Main
pub mod Fixed
pub mod Known
pub mod Files
