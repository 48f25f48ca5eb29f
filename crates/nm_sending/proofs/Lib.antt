mod AnswerLemmas
mod ClearLemmas
mod EndLemmas
mod EventLemmas
mod FrontLemmas
mod GoneLemmas
mod LeavingLemmas
pub mod LetterLemmas
mod MessageLemmas
mod MostLemmas
mod NoteLemmas
mod NothingLemmas
mod OfferLemmas
mod OtherLemmas
mod OutboxLemmas
mod PieceLemmas
mod PlaceLemmas
mod PopLemmas
pub mod PutLemmas
mod RecallLemmas
mod RecalledLemmas
mod RestLemmas
mod RowLemmas
mod SendLemmas
pub mod SentLemmas
mod TableLemmas
pub mod TurnLemmas
mod UndoLemmas
mod WaitingLemmas
