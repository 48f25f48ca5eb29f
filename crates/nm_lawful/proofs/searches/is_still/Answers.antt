-- No state is there, and each rank rests.
use Rattle.std.proofs.Common.{sym, ◌∙◌}
use Rattle.std.proofs.lemmas.Bool.{false≢true}
use Rattle.nm_search.proofs.ListLemmas.{empty_test, test_empty}
use Rattle.nm_lawful.proofs.searches.is_still.Goals as goal

pub returns-then-is_empty-clause-yes : goal.returns-then-is_empty-clause-yes
returns-then-is_empty-clause-yes c so =
    record {
      none = test_empty c.args.states.now (sym c.is_empty.ensures ∙ c.if-is_empty.true);
      held = c.all_rest.ensures.yes so;
    }

pub returns-then-is_empty-clause-no : goal.returns-then-is_empty-clause-no
returns-then-is_empty-clause-no c still = c.all_rest.ensures.no still.held

pub returns-else-is_empty-clause-no : goal.returns-else-is_empty-clause-no
returns-else-is_empty-clause-no c still =
    absurd (false≢true (sym c.if-is_empty.false ∙ c.is_empty.ensures ∙ empty_test c.args.states.now still.none))
