pub mod Calling
pub mod Refusing
