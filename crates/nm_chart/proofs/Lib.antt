mod EndLemmas
mod FindingLemmas
mod KeptLemmas
mod PartLemmas
mod WidenedLemmas
mod WordLemmas
