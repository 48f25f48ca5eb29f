-- What an event says of a message, and what the events of a log have said.
use Rattle.std.specs.Prelude.{◌≡◌, ℕ, ◌==◌, ◌&&◌, Bool, List, Option, Some, None, option_map}
use Rattle.std.specs.List.{list_any}
use Rattle.indexmap.specs.IndexSet.{IndexSet, contains}
use Rattle.nm_history.specs.declared.events.Happened.{Happened}
use Rattle.nm_history.specs.declared.events.Happened.TheVariants as event
use Rattle.nm_history.specs.Happens.{is_out, is_recall, is_undone, is_whole, is_withdraw}
use Rattle.nm_outcomes.specs.Logs.{Step}
use Rattle.nm_listed.specs.declared.retold.marks.Mark.{Mark}
use Rattle.nm_listed.specs.declared.retold.marks.Mark.TheVariants.{Out, Recalled, Undone, Whole, Withdrawn}
use Rattle.nm_listed.specs.declared.retold.marks.Said.{Said}
use Rattle.nm_listed.specs.contracts.retold.marks.SaidPartialEq.TheImpl.{ghosts as said_eq}

-- an event says this
abbrev pub is_marked : Mark → Happened → Bool
is_marked (Whole from n) what = is_whole from n what
is_marked (Out to n) what = is_out to n what
is_marked (Recalled to n) what = is_recall to n what
is_marked (Withdrawn from n done) what = is_withdraw from n done what
is_marked (Undone to n done) what = is_undone to n done what

-- an event of a rank says this
abbrev pub is_marked_at : ℕ → Mark → Step → Bool
is_marked_at i mark step = step.rank == i && is_marked mark step.event.what

-- what an event says, if it says such a thing
abbrev pub mark_of : Happened → Option Mark
mark_of (event.Whole from n) = Some (Whole from n)
mark_of (event.Out to n) = Some (Out to n)
mark_of (event.Recall to n) = Some (Recalled to n)
mark_of (event.Withdraw from n done) = Some (Withdrawn from n done)
mark_of (event.Undone to n done) = Some (Undone to n done)
mark_of _ = None

-- .. and an event of a rank
abbrev pub said_by : ℕ → Happened → Option Said
said_by rank what = option_map (λ mark. record { rank = rank; mark = mark }) (mark_of what)

-- the set has what the events of a log said, and nothing else
abbrev pub AreSaid : {S : Type 0} → IndexSet Said S → List Step → Type 0
AreSaid set log = (a : Said) → contains said_eq.eq set a ≡ list_any (is_marked_at a.rank a.mark) log
