pub mod CarriedPackets
pub mod Keeps
pub mod Polls
pub mod Sends
