pub mod Cuts
pub mod Grants
pub mod Kept
pub mod Offers
pub mod Pieces
