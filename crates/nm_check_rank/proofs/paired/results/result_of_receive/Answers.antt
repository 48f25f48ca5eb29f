use Rattle.std.proofs.Common.{Some, None, ◌∙◌, sym, take, refl}
use Rattle.std.specs.Prelude.{option_map}
use Rattle.nm_check_rank.specs.Told.{untold}
use Rattle.nm_check_rank.proofs.ResultLemmas.{receive_result}
use Rattle.nm_check_rank.proofs.paired.results.result_of_receive.Goals as goal

pub returns-in-Some : goal.returns-in-Some
returns-in-Some c = λ rank lines h told.
    receive_result (take c.args.k h) c.args.number (Some c.in-Some.pair) (option_map untold c.result_of_pair.result)
    (sym c.if-is_number_before.false ∙ c.is_number_before.ensures h told.places.by_number.cancels)
    (c.in-Some.ensures rank lines h told.tells) (c.result_of_pair.ensures h told.places)

pub returns-in-None : goal.returns-in-None
returns-in-None c = λ rank lines h told.
    receive_result (take c.args.k h) c.args.number None None
    (sym c.if-is_number_before.false ∙ c.is_number_before.ensures h told.places.by_number.cancels)
    (c.in-None.ensures rank lines h told.tells) refl
