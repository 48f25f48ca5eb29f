pub mod AtClose
pub mod Calls
pub mod ClosedLists
pub mod Counted
pub mod Plays
pub mod Ports
pub mod Rule
