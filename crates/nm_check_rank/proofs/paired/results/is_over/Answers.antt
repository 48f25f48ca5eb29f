use Rattle.std.proofs.Common.{Option, sym, ◌∙◌, ap, take}
use Rattle.std.specs.Prelude.{is_some}
use Rattle.nm_types.specs.declared.answers.Answer.{Answer}
use Rattle.nm_types.proofs.OptionLemmas.{some_mapped}
use Rattle.nm_lookups.specs.AskedFor.{meant_by}
use Rattle.nm_check_rank.specs.Told.{untold}
use Rattle.nm_check_rank.proofs.paired.results.is_over.Goals as goal

pub returns-in-Some : goal.returns-in-Some
returns-in-Some c = λ rank lines h told. rw c.in-Some.is
    (c.is_some.ensures ∙ sym (some_mapped untold c.request_result.result)
    ∙ ap (λ (o : Option Answer). is_some o) (c.request_result.ensures rank lines h told)
    ∙ c.complete_has_result.ensures (take c.args.k h) (meant_by c.in-Some.request))
