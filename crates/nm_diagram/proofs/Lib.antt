mod ArrowLemmas
mod LegendLemmas
mod ReturnLemmas
mod RunLemmas
mod ShapeLemmas
mod StampLemmas
pub mod AlikeLemmas
pub mod FrameLemmas
mod RowLemmas
