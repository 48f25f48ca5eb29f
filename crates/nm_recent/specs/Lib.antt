pub mod Recents
