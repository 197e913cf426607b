pub mod InPieces
pub mod Laws
pub mod LineKinds
pub mod LongLines
pub mod Pieces
pub mod Whole
