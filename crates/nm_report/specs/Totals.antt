-- What the answers of ranks add up to.
use Rattle.std.specs.Prelude.{◌≡◌, ◌+◌, ◌^◌, ◌<◌, List, count_by, sum_by}
use Rattle.nm_types.specs.declared.answers.Answer.{Answer}
use Rattle.nm_history.specs.Totals.{answers_given, got_len, is_got, is_sent}
use Rattle.nm_history.specs.declared.totals.Totals.{Totals}
use Rattle.nm_report.specs.declared.accounts.RankAccount.{RankAccount}

-- the answers of a rank
abbrev pub answers_in : RankAccount → List Answer
answers_in account = answers_given account.history.events

-- the new totals are the old ones with these answers added
pub record Added (answers : List Answer) (old new : Totals) : Type 0 where
  pub sent : new.sent ≡ old.sent + count_by is_sent answers
  pub got : new.got ≡ old.got + count_by is_got answers
  pub bytes : new.bytes ≡ old.bytes + sum_by got_len answers

-- these answers can be added
pub record CanAdd (answers : List Answer) (old : Totals) : Type 0 where
  pub sent : old.sent + count_by is_sent answers < 2 ^ 64
  pub got : old.got + count_by is_got answers < 2 ^ 64
  pub bytes : old.bytes + sum_by got_len answers < 2 ^ 64
