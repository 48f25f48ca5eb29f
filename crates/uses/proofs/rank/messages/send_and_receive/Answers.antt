-- A start and an end move no packet.
use Rattle.std.proofs.Common.{refl, sym, subst, []}
use Rattle.nm_types.specs.Bodies.{bytes_of}
use Rattle.nm_types.specs.declared.scripts.Body.TheVariants.{Gen}
use Rattle.nm_rank.specs.Ranks.{RankView}
use Rattle.uses.specs.Steps.{AreInStep}
use Rattle.uses.proofs.StepLemmas.{finished_stays, first_stays, second_stays, started_stays}
use Rattle.uses.proofs.rank.messages.send_and_receive.Goals as goal

pub exchange-requires : goal.exchange-requires
exchange-requires c =
    let a = first_stays _ _ _ (started_stays _ _ _
    (c.in_ok-sent.ensures.starts.started (λ s. bytes_of (Gen c.args.len)) refl)) c.requires.step in record {
      step = second_stays _ _ _ (started_stays _ _ _ (c.in_ok-received.ensures.starts.started (λ s. []))) a;
    }

pub returns : goal.returns
returns c =
    let a = first_stays _ _ _ (finished_stays _ _ _ _ c.finish.ensures.finishes c.finish.ensures.err)
    c.exchange.ensures.step in record {
      step = second_stays _ _ _ (finished_stays _ _ _ _ c.finish-2.ensures.finishes c.finish-2.ensures.err) a;
    }

pub returns-in_err-received : goal.returns-in_err-received
returns-in_err-received c =
    let a = first_stays _ _ _ (started_stays _ _ _
    (c.in_ok-sent.ensures.starts.started (λ s. bytes_of (Gen c.args.len)) refl)) c.requires.step in record {
      step = subst (λ (v : RankView). AreInStep 0 1 c.isend.new.self v) (sym c.in_err-received.ensures.err) a;
    }
