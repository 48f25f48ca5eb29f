-- Pending events and the last ones are of the history.
use Rattle.std.proofs.Common.{List, ◌-◌, length, subst, sym}
use Rattle.std.specs.List.{Contains}
use Rattle.std.proofs.lemmas.List.Elements.{All-append, All-contains_itself, All-drop}
use Rattle.nm_history.specs.declared.events.Event.{Event}
use Rattle.nm_recent.specs.Recents.{AreOf}
use Rattle.nm_noted.proofs.accounts.events_of.Goals as goal

pub returns : goal.returns
returns c =
    let history = c.args.history.events in
    let pending : AreOf history c.into_vec-events.result.items =
    subst (λ (xs : List Event). AreOf history xs) (sym c.into_vec-events.ensures.items) c.into_parts-pending.ensures.pending in
    let own = All-drop (Contains history) (length history - 64) history (All-contains_itself history) in
    let last : AreOf history c.into_vec-last.result.items =
    subst (λ (xs : List Event). AreOf history xs) (sym c.into_vec-last.ensures.items)
    (subst (λ (xs : List Event). AreOf history xs) (sym c.into_parts-pending.ensures.last) own) in
    subst (λ (xs : List Event). AreOf history xs) (sym c.in_ok-append.ensures.items)
    (All-append (Contains history) c.into_vec-events.result.items c.into_vec-last.result.items pending last)
