pub mod TwoGroups
