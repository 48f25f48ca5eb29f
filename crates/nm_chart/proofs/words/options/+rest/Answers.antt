-- Words are none, a name alone, or an option and others.
use Rattle.std.proofs.Common.{◌∙◌, None, Some, string_bytes, sym}
use Rattle.std.proofs.lemmas.Result.{IfOk-weaker}
use Rattle.nm_chart.proofs.WordLemmas.{ended, given, lonely}
use Rattle.nm_chart.proofs.words.options.+rest.Goals as goal

pub returns-in_default : goal.returns-in_default
returns-in_default t c = ended string_bytes c.args.words.now c.args.options c.in_default.ensures.cases

pub returns-in_default-split_first : goal.returns-in_default-split_first
returns-in_default-split_first t c =
    lonely string_bytes c.args.words.now c.in-Some.behind.now c.in-Some.name.now c.args.options
    c.in-Some.ensures.cases.0 c.in_default-split_first.ensures.cases

pub returns-in-None : goal.returns-in-None
returns-in-None t c =
    given string_bytes c.args.words.now c.in-Some.behind.now c.in-Some-split_first.others.now c.in-Some.name.now
    c.in-Some-split_first.value.now c.as_bytes.result.now c.as_bytes-2.result.now c.args.options None
    c.in-Some.ensures.cases.0 c.in-Some-split_first.ensures.cases.0 c.as_bytes.ensures.value
    c.as_bytes-2.ensures.value (sym c.in-None.is ∙ c.in_ok-added.ensures)

pub returns-in-Some-added : goal.returns-in-Some-added
returns-in-Some-added t c =
    IfOk-weaker c.rest.result _ _
    (λ found h. h ∙ given string_bytes c.args.words.now c.in-Some.behind.now c.in-Some-split_first.others.now
    c.in-Some.name.now c.in-Some-split_first.value.now c.as_bytes.result.now c.as_bytes-2.result.now c.args.options
    (Some c.in-Some-added.next) c.in-Some.ensures.cases.0 c.in-Some-split_first.ensures.cases.0
    c.as_bytes.ensures.value c.as_bytes-2.ensures.value (sym c.in-Some-added.is ∙ c.in_ok-added.ensures)) c.rest.ensures
