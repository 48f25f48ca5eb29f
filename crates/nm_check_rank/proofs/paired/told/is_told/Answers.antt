use Rattle.nm_history.specs.Answers.{without_bytes}
use Rattle.nm_check_rank.proofs.ToldLemmas.{told_decided}
use Rattle.nm_check_rank.proofs.paired.told.is_told.Goals as goal

pub returns : goal.returns
returns c =
    told_decided c.is_same_told.result c.args.told c.told_of.result (without_bytes c.args.answer.now) c.told_of.ensures
    c.is_same_told.ensures
