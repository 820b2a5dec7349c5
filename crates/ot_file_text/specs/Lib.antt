pub mod Places
pub mod Comments
pub mod Cuts
pub mod OneLine
pub mod Positions
pub mod Spots
pub mod Items
pub mod Laws
