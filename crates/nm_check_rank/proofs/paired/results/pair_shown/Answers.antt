use Rattle.std.proofs.Common.{◌≡◌, Option, None, List, ◌∙◌, ap, take, refl}
use Rattle.std.specs.Prelude.{ℕ, option_and_then}
use Rattle.nm_types.specs.Commands.{Numbered}
use Rattle.nm_types.specs.declared.scripts.Command.{Command}
use Rattle.nm_types.specs.declared.scripts.Command.TheVariants as command
use Rattle.nm_history.specs.declared.events.Event.{Event}
use Rattle.nm_history.specs.Completion.{Request}
use Rattle.nm_history.specs.Delivery.{asked_pair, pair_of_request}
use Rattle.nm_lookups.specs.AskedFor.{name_of}
use Rattle.nm_check_rank.proofs.paired.results.pair_shown.Goals as goal

pub returns-in-Wait : goal.returns-in-Wait
returns-in-Wait c = λ rank lines h commands told named.
    let asked = named c.in-Wait.q (ap name_of c.in-Wait.is) in
    rw c.in-Wait.is
    (c.pair_of_name.ensures rank lines h told
    ∙ ap (λ (o : Option Request). option_and_then (pair_of_request (take c.args.k h)) o) asked)

pub returns-in-Test : goal.returns-in-Test
returns-in-Test c = λ rank lines h commands told named.
    let asked = named c.in-Test.q (ap name_of c.in-Test.is) in
    rw c.in-Test.is
    (c.pair_of_name-in-Test.ensures rank lines h told
    ∙ ap (λ (o : Option Request). option_and_then (pair_of_request (take c.args.k h)) o) asked)

no_pair : (commands : List Numbered) (before : List Event) (c : Command) → ((q : ℕ) → c ≡ command.Wait q → ⊥) →
    ((q : ℕ) → c ≡ command.Test q → ⊥) → None ≡ asked_pair commands before c
no_pair commands before (command.Wait q) wait test = absurd (wait q refl)
no_pair commands before (command.Test q) wait test = absurd (test q refl)
no_pair commands before c wait test = refl

pub returns-in_default : goal.returns-in_default
returns-in_default c = λ rank lines h commands told named.
    no_pair commands (take c.args.k h) c.args.command.now c.in_default.not-Wait c.in_default.not-Test
