pub mod EndLemmas
pub mod Written
mod ToldLemmas
mod TotalsLemmas
mod GotLemmas
mod FitLemmas
mod DigitLemmas
