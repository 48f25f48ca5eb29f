pub mod Cutting
pub mod Joining
pub mod Senders
pub mod Streams
