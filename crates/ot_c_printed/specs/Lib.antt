pub mod Apart
pub mod Printed
