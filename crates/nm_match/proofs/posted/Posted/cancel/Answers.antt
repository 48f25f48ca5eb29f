-- The one of this number leaves its ring, and stands aside.
use Rattle.std.proofs.Common.{◌∙◌, ap, sym, is_some}
use Rattle.nm_match.specs.Picks.{picks_of_post}
use Rattle.nm_match.specs.Standings.{receive_at}
use Rattle.nm_match.proofs.NameLemmas.{no_place, place_found}
use Rattle.nm_match.proofs.PostedLemmas.{left_aside, none_waiting, posted_cancelled, waits_at}
use Rattle.nm_match.proofs.posted.Posted.cancel.Goals as goal

pub returns-in-Some-clause-found : goal.returns-in-Some-clause-found
returns-in-Some-clause-found c = λ posts cancelled next is.
    let there = waits_at c.args.number (receive_at c.args.self.now.standings c.args.number)
    (c.in-Some.field-0-0, c.in-Some.p) (sym c.in-Some.ensures) in
    sym (ap is_some (place_found is.is c.args.number (picks_of_post c.in-Some.p) c.in-Some.field-0-0 there.0).1)

pub returns-in-Some-clause-others : goal.returns-in-Some-clause-others
returns-in-Some-clause-others c = λ yes posts cancelled next two is.
    let left = rw c.of_post.ensures at c.leave.ensures in
    posted_cancelled is (record {
      named = c.leave.new.self.named;
      wild = c.leave.new.self.wild;
      standings = c.cancel.new.self;
    }) two c.args.number (c.in-Some.field-0-0, c.in-Some.p) (sym c.in-Some.ensures)
    left.0 (λ n other. c.cancel.ensures.others n other ∙ left.1 n)
    (left_aside (receive_at c.args.self.now.standings) c.args.number (c.in-Some.field-0-0, c.in-Some.p)
    (sym c.in-Some.ensures) (receive_at c.leave.new.self.standings) left.1 (receive_at c.cancel.new.self c.args.number)
    c.cancel.ensures.own)

pub returns-in-None-clause-found : goal.returns-in-None-clause-found
returns-in-None-clause-found c = λ posts cancelled next is.
    sym (ap is_some (no_place is.is c.args.number
    (none_waiting c.args.number (receive_at c.args.self.now.standings c.args.number) (sym c.in-None.ensures))))
