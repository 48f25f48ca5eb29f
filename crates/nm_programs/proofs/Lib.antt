-- what a program counts
pub mod CountLemmas
-- lists that are gone through
pub mod SoFar
-- errors that are passed on
pub mod StopLemmas
-- sources as programs
mod TurnLemmas
