-- The oldest under the four keys leaves its ring.
use Rattle.std.proofs.Common.{◌∙◌, refl}
use Rattle.nm_types.specs.declared.messages.Post.{Post}
use Rattle.nm_history.specs.Selection.{matches}
use Rattle.nm_match.specs.Buckets.{oldest_of}
use Rattle.nm_match.proofs.OldestLemmas.{oldest_found, posted_found}
use Rattle.nm_match.proofs.PostedLemmas.{posted_taken}
use Rattle.nm_match.proofs.posted.Posted.take_oldest.Goals as goal

pub returns-in_err-p-clause-oldest : goal.returns-in_err-p-clause-oldest
returns-in_err-p-clause-oldest c = λ posts cancelled next is.
    c.from_residual.ensures ∙ c.in_err-p.ensures.oldest is.under is.rings
    ∙ posted_found is.is.is c.args.env.now (oldest_of is.under c.args.env.now) refl

pub returns-clause-oldest : goal.returns-clause-oldest
returns-clause-oldest c = λ posts cancelled next is.
    c.in_ok-p.ensures.oldest is.under is.rings
    ∙ posted_found is.is.is c.args.env.now (oldest_of is.under c.args.env.now) refl

pub returns-clause-others : goal.returns-clause-others
returns-clause-others c = λ posts cancelled next two is stays.
    let left = c.in_ok-p.ensures.left is.under is.is.is.queue next is.is.is.are is.rings in
    posted_taken is (record {
      named = c.take_waiting.new.self.named;
      wild = c.take_waiting.new.self.wild;
      standings = c.remove.new.self;
    }) two (λ (p : Post). matches p.from p.tag p.ctx c.args.env.now)
    (oldest_of is.under c.args.env.now) (oldest_found is.is.is.are c.args.env.now) c.in_ok-p.p
    (c.in_ok-p.ensures.oldest is.under is.rings) left.0
    (λ n other. c.remove.ensures.others n other ∙ left.1 n) c.remove.ensures.own stays
