mod Answering
mod Arriving
mod Beginning
mod BlockLemmas
mod CameLemmas
mod Cancelling
mod Changing
pub mod ClaimLemmas
mod Coming
mod ContinueLemmas
mod Drawing
pub mod DueLemmas
mod Dues
mod Events
pub mod Facts
mod Finishing
mod Goings
pub mod GrantLemmas
mod Grants
pub mod Grow
mod Heres
mod Joinings
mod Keeping
pub mod Lists
mod Lives
mod Marking
mod NumberLemmas
mod Overs
mod Owing
mod Packets
pub mod PieceLemmas
mod Results
mod RowLemmas
mod Showing
mod Starting
mod Stood
mod Tables
mod TablesCarry
mod TablesCome
mod TablesMark
mod TablesPiece
mod TablesRest
mod Taking
mod Told
mod Wholes
