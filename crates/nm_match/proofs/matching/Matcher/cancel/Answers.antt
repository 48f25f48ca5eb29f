-- A receive of the queue is open; a known one that is not there is paired or was cancelled.
use Rattle.std.proofs.Common.{◌∙◌, ◌++◌, ◌∷◌, [], ◌==◌, Bool, sym, refl}
use Rattle.std.proofs.Math.Bool.{and-not_self}
use Rattle.std.specs.List.{find}
use Rattle.nm_types.specs.declared.messages.Post.{Post}
use Rattle.nm_match.specs.Queues.{without_first}
use Rattle.nm_match.proofs.DeedLemmas.{cancel-some, number_late, number_open}
use Rattle.nm_match.proofs.HeldLemmas.{none_found, receives_apart, some_found}
use Rattle.nm_match.proofs.SeenLemmas.{names_cancel}
use Rattle.nm_match.proofs.matching.Matcher.cancel.Goals as goal

pub invariant_of-self : goal.invariant_of-self
invariant_of-self c =
    let h = c.self.invariant in
    let deeds = c.self.inside.done.items in
    let order = c.self.inside.order in
    let test : Post → Bool = λ p. p.number == c.args.post in
    let first = some_found (find test h.posted)
    (sym (c.cancel.ensures.found h.posted h.cancelled order h.receives) ∙ c.if-cancel.true) in
    rw c.then-self-inside.ensures (record {
      posted = without_first test h.posted;
      unexpected = h.unexpected;
      claimed = h.claimed;
      cancelled = h.cancelled ++ c.args.post ∷ [];
      receives = c.cancel.ensures.others c.if-cancel.true h.posted h.cancelled order (receives_apart deeds h.queues)
          h.receives;
      messages = h.messages;
      queues = cancel-some deeds h.queues c.args.post first.0 first.1;
      names = names_cancel deeds h.names c.args.post;
    })

pub returns-then-cancel-clause-late : goal.returns-then-cancel-clause-late
returns-then-cancel-clause-late c =
    let h = c.self.invariant in
    let first = some_found (find (λ (p : Post). p.number == c.args.post) h.posted)
    (sym (c.cancel.ensures.found h.posted h.cancelled c.self.inside.order h.receives) ∙ c.if-cancel.true) in
    rw (← c.self.view_is, (number_open h.queues c.args.post first.0 first.1).0) refl

pub returns-then-cancel-clause-deeds : goal.returns-then-cancel-clause-deeds
returns-then-cancel-clause-deeds c =
    let h = c.self.invariant in
    let first = some_found (find (λ (p : Post). p.number == c.args.post) h.posted)
    (sym (c.cancel.ensures.found h.posted h.cancelled c.self.inside.order h.receives) ∙ c.if-cancel.true) in
    rw (← c.self.view_is, (number_open h.queues c.args.post first.0 first.1).1) c.then-self-inside.ensures

pub invariant_of-self-else-cancel : goal.invariant_of-self-else-cancel
invariant_of-self-else-cancel c = rw (c.cancel.ensures.same c.if-cancel.false) c.self.invariant

pub returns-else-cancel-clause-late : goal.returns-else-cancel-clause-late
returns-else-cancel-clause-late c =
    let h = c.self.invariant in
    let order = c.self.inside.order in
    let none = none_found (find (λ (p : Post). p.number == c.args.post) h.posted)
    (sym (c.cancel.ensures.found h.posted h.cancelled order h.receives) ∙ c.if-cancel.false) in
    let known = rw (← c.self.view_is) at c.requires.known in
    let says = rw (c.cancel.ensures.same c.if-cancel.false) at c.is_cancelled.ensures in
    rw (← c.self.view_is) (says h.posted h.cancelled order h.receives none
    ∙ number_late h.queues c.args.post known none)

pub returns-else-cancel-clause-deeds : goal.returns-else-cancel-clause-deeds
returns-else-cancel-clause-deeds c =
    let h = c.self.invariant in
    let order = c.self.inside.order in
    let none = none_found (find (λ (p : Post). p.number == c.args.post) h.posted)
    (sym (c.cancel.ensures.found h.posted h.cancelled order h.receives) ∙ c.if-cancel.false) in
    let says = rw (c.cancel.ensures.same c.if-cancel.false) at c.is_cancelled.ensures in
    let same = says h.posted h.cancelled order h.receives none ∙ h.queues.cancelled_receives c.args.post in
    rw (← c.self.view_is, same, and-not_self) refl
