use Rattle.std.proofs.Common.{◌∙◌, ℕ, ap}
use Rattle.std.specs.Option.{option_map_or}
use Rattle.nm_rndv.specs.Grants.{Granted, due_of}
use Rattle.nm_rndv.proofs.senders.Sender.due.Goals as goal

pub due-requires : goal.due-requires
due-requires c = c.in-Some.ensures.unfinished

pub returns-in-Some : goal.returns-in-Some
returns-in-Some c =
    c.due.ensures ∙ ap (λ o. option_map_or (λ (e : ℕ × Granted). due_of e.1) o 0) c.in-Some.ensures.first

pub returns-in-None : goal.returns-in-None
returns-in-None c = ap (λ o. option_map_or (λ (e : ℕ × Granted). due_of e.1) o 0) c.in-None.ensures.first
