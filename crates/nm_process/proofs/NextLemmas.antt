-- Whether the next command of a process can go on.
use Rattle.std.proofs.Common.{◌≡◌, ℕ, true, false, Option, Some, None, List, ◌∙◌, ap, refl}
use Rattle.std.specs.Prelude.{option_map}
use Rattle.std.specs.List.{slice_get}
use Rattle.std.specs.Option.{option_map_or}
use Rattle.nm_types.specs.declared.scripts.Command.{Command}
use Rattle.nm_types.specs.declared.scripts.Command.TheVariants as command
use Rattle.nm_types.specs.Commands.{Numbered}
use Rattle.nm_types.specs.Sizes.{Sizes}
use Rattle.nm_history.specs.Answers.{can_go_on}
use Rattle.nm_history.specs.Completion.{Request, is_complete}
use Rattle.nm_process.specs.Processes.{ProcessView}
use Rattle.nm_process.specs.Steps.{can_go_on_by, goes_on}
use Rattle.nm_process.specs.Work.{IsWorking}

-- whether a command can go on, by the names and by the history
by_names : (shape : Sizes) (commands : List Numbered) (bound : ℕ) (a : ProcessView) (c : Command) →
    IsWorking shape commands bound a → can_go_on_by a c ≡ can_go_on commands a.rank.events c
by_names shape commands bound a (command.Wait q) work =
    ap (λ (o : Option Request). option_map_or (is_complete a.rank.events) o true) (work.requests q)
by_names shape commands bound a (command.Await from tag ctx) work = refl
by_names shape commands bound a (command.Send to q tag ctx sync body) work = refl
by_names shape commands bound a (command.Recv q from tag ctx room) work = refl
by_names shape commands bound a (command.Test q) work = refl
by_names shape commands bound a (command.Probe from tag ctx) work = refl
by_names shape commands bound a (command.Cancel q) work = refl
by_names shape commands bound a (command.Mprobe m from tag ctx) work = refl
by_names shape commands bound a (command.Mrecv q m room) work = refl

-- so it is with the next command, if there is one
pub next_goes_on : (shape : Sizes) (commands : List Numbered) (bound : ℕ) (a : ProcessView) (o : Option Command) →
    IsWorking shape commands bound a → o ≡ option_map (λ c. c.command) (slice_get commands a.at) →
    option_map_or (can_go_on_by a) o false ≡ goes_on commands a
next_goes_on shape commands bound a o work is =
    ap (λ (o : Option Command). option_map_or (can_go_on_by a) o false) is
    ∙ by_next (slice_get commands a.at) where
      by_next : (n : Option Numbered) → option_map_or (can_go_on_by a) (option_map (λ c. c.command) n) false
          ≡ option_map_or (λ c. can_go_on commands a.rank.events c.command) n false
      by_next None = refl
      by_next (Some n) = by_names shape commands bound a n.command work
