use Rattle.std.proofs.Common.{◌≡◌, ◌∙◌, false, ap}
use Rattle.std.specs.List.{slice_get}
use Rattle.nm_types.specs.declared.messages.Arrival.{Arrival}
use Rattle.nm_types.specs.declared.messages.How.{How}
use Rattle.nm_history.specs.Sends.{is_ask}
use Rattle.nm_receiving.specs.declared.receipts.Receipt.{Receipt}
use Rattle.nm_receiving.specs.Steps.{rows_from}
use Rattle.nm_receiving.proofs.Lists.{some_from}
use Rattle.nm_types.proofs.OptionLemmas.{some_and}
use Rattle.nm_receiving.proofs.bytes.is_here.Goals as goal

pub eager_is_whole-requires : goal.eager_is_whole-requires
eager_is_whole-requires c =
    let a = c.args.a.now in
    let row = slice_get (rows_from c.args.receipts.now.rows a.env.from) a.n in
    let r = some_and (λ (r : Receipt). r.arrival ≡ a) row c.requires.came in
    some_from (λ (r : Receipt). is_ask r.arrival.env.how ≡ false) row r.0 r.1
    (ap (λ (x : Arrival). is_ask x.env.how) r.2 ∙ ap (λ (h : How). is_ask h) c.in-Eager.is)

pub returns-in-Ask : goal.returns-in-Ask
returns-in-Ask c = c.is_whole.ensures ∙ c.requires.asked (ap (λ (h : How). is_ask h) c.in-Ask.is)
