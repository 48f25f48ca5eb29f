use Rattle.std.proofs.Common.{None, Some, sym, ◌∙◌}
use Rattle.nm_lookups.proofs.MatcherLemmas.{arrival_known, arrive_free, arrive_gone, arrive_keeps}
use Rattle.nm_lookups.proofs.pairing.queues.arrive.Goals as goal

pub take-requires : goal.take-requires
take-requires c = record { known = arrival_known _ _ c.args.a c.in_ok-number.ensures.ok }

pub returns-in-Some : goal.returns-in-Some
returns-in-Some c = λ posted unexpected knows came keeps.
    arrive_keeps keeps c.args.a (Some c.in-Some.number) c.arrive.new.self c.requires.is_new
    (sym c.in-Some.is ∙ c.in_ok-number.ensures.oldest) c.in_ok-number.ensures.ok

pub returns-in-None : goal.returns-in-None
returns-in-None c = λ posted unexpected knows came keeps.
    let kept = arrive_keeps keeps c.args.a None c.arrive.new.self c.requires.is_new
    (sym c.in-None.is ∙ c.in_ok-number.ensures.oldest) c.in_ok-number.ensures.ok in (
      kept.0,
      arrive_gone keeps c.args.a c.args.gone c.take.new.matcher c.requires.is_new c.if-gone.true
          (c.take.ensures _ _ _ _ kept.1),
    )

pub returns-in-None-2 : goal.returns-in-None-2
returns-in-None-2 c = λ posted unexpected knows came keeps.
    let kept = arrive_keeps keeps c.args.a None c.arrive.new.self c.requires.is_new
    (sym c.in-None.is ∙ c.in_ok-number.ensures.oldest) c.in_ok-number.ensures.ok in
    (kept.0, arrive_free keeps c.args.a c.args.gone c.arrive.new.self c.if-gone.false kept.1)
