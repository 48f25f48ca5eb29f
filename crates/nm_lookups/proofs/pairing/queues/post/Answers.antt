use Rattle.std.proofs.Common.{None, Some, sym, ◌∙◌}
use Rattle.nm_lookups.proofs.MatcherLemmas.{post_cancelled, post_keeps, post_known, post_open}
use Rattle.nm_lookups.proofs.pairing.queues.post.Goals as goal

pub cancel-requires : goal.cancel-requires
cancel-requires c = record { known = post_known _ _ c.args.p c.in_ok-a.ensures.ok }

pub returns-in-Some : goal.returns-in-Some
returns-in-Some c = λ posted unexpected knows came keeps.
    post_keeps keeps c.args.p (Some c.in-Some.a) c.post.new.self c.requires.is_new
    (sym c.in-Some.is ∙ c.in_ok-a.ensures.oldest) c.in_ok-a.ensures.ok

pub returns-in-None : goal.returns-in-None
returns-in-None c = λ posted unexpected knows came keeps.
    let kept = post_keeps keeps c.args.p None c.post.new.self c.requires.is_new
    (sym c.in-None.is ∙ c.in_ok-a.ensures.oldest) c.in_ok-a.ensures.ok in (
      kept.0,
      post_cancelled keeps c.args.p c.args.cancelled c.cancel.new.matcher c.requires.is_new c.if-cancelled.true
          (c.cancel.ensures _ _ _ _ kept.1),
    )

pub returns-in-None-2 : goal.returns-in-None-2
returns-in-None-2 c = λ posted unexpected knows came keeps.
    let kept = post_keeps keeps c.args.p None c.post.new.self c.requires.is_new
    (sym c.in-None.is ∙ c.in_ok-a.ensures.oldest) c.in_ok-a.ensures.ok in
    (kept.0, post_open keeps c.args.p c.args.cancelled c.post.new.self c.if-cancelled.false kept.1)
