pub mod AtClose
pub mod AtWork
pub mod Carried
pub mod ClosedLists
pub mod Counted
pub mod LooseCells
pub mod PathLists
pub mod Ports
