-- Stamps in a rank's run.
use Rattle.std.proofs.Common.{◌<◌, suc, List, [], ◌∷◌, ◌++◌, subst, arith, map}
use Rattle.nm_history.specs.declared.events.Event.{Event}
use Rattle.nm_history.specs.AtEach.{AtEach, AtEachAfter}
use Rattle.nm_history.specs.RankRun.{StampAt, last_stamp}
use Rattle.nm_history.proofs.EarlierLemmas.{last_stamp-push}
use Rattle.nm_diagram.specs.Joined.{Rise}
use Rattle.nm_diagram.proofs.ShapeLemmas.{Rise-weaken}

rise_after : (before events : List Event) → AtEachAfter (λ b e. StampAt b e.stamp) before events →
    Rise (suc (last_stamp before)) (map (λ e. e.stamp) events)
rise_after before [] rising = tt
rise_after before (e ∷ events) rising =
    let next : last_stamp before < e.stamp = rising.0 in (
      omega (arith, next),
      subst (λ n. Rise (suc n) (map (λ (x : Event). x.stamp) events)) (last_stamp-push before e)
          (rise_after (before ++ e ∷ []) events rising.1),
    )

pub stamps-rise : (h : List Event) → AtEach (λ before e. StampAt before e.stamp) h → Rise 0 (map (λ e. e.stamp) h)
unfolding AtEach
stamps-rise h rising = Rise-weaken 0 1 (map (λ e. e.stamp) h) (omega arith) (rise_after [] h rising)
