-- By the kind of call.
use Rattle.std.proofs.Common.{◌≡◌, ℕ, zero, suc, ◌⊎◌, inl, inr, Option, None, List, [], ◌++◌, sym, subst, append-nil}
use Rattle.std.specs.List.{cons_option}
use Rattle.nm_types.specs.declared.scripts.Body.{Body}
use Rattle.nm_history.specs.Rules.{AreRight}
use Rattle.nm_rank.specs.Ranks.{IsFresh, RankView}
use Rattle.nm_multi.specs.declared.calls.Call.{Call}
use Rattle.nm_multi.specs.declared.calls.Call.TheVariants as call
use Rattle.nm_multi.specs.declared.calls.Reply.{Reply}
use Rattle.nm_multi.specs.declared.calls.Reply.TheVariants as reply
use Rattle.nm_multi.specs.Acts.{GoesOn, body_sent}
use Rattle.nm_multi.specs.Calls.{IsInRange}
use Rattle.nm_multi.specs.Moves.{IsAlone, MovesMany}
use Rattle.nm_multi.specs.Standing.{DeskInvariant}
use Rattle.nm_multi.proofs.Bodies.{are_by, bodies_by, shows_body}
use Rattle.nm_multi.proofs.Going.{Cases, by_worn, moved_many, of_each}
use Rattle.nm_multi.proofs.GoingOn.{KeepsPlace, cancel_goes_on, packet_goes_on, receive_goes_on, result_goes_on, send_goes_on}
use Rattle.nm_multi.proofs.laws.calls_go_on.Goals as goal

-- the rank stands to the sends of one call more
abbrev GoOn : List Body → Call → Reply → RankView → RankView → Type 0
GoOn sent c r old new =
    IsInRange c → AreRight old.sizes.ranks [] old.events → IsFresh old → IsAlone old → DeskInvariant sent old →
    DeskInvariant (sent ++ cons_option (body_sent c r) []) new

same_sent : (sent : List Body) (v : RankView) → DeskInvariant sent v → DeskInvariant (sent ++ []) v
same_sent sent v st = subst (λ (bs : List Body). DeskInvariant bs v) (sym (append-nil sent)) st

moves_on : KeepsPlace → (sent : List Body) (k : ℕ) (old new : RankView) → MovesMany k old new → IsAlone old →
    DeskInvariant sent old → DeskInvariant sent new
moves_on keeps sent zero old new is alone st = subst (λ (v : RankView). DeskInvariant sent v) (sym is) st
moves_on keeps sent (suc k) old new is alone st =
    packet_goes_on keeps sent is.0 new (moved_many k old is.0 alone is.1).0 is.2
    (moves_on keeps sent k old is.0 is.1 alone st)

pub returns-clause-kept : goal.returns-clause-kept
returns-clause-kept c sent v v' does has range right alone acts st = by (by_worn does has v v' acts) where
  cases : Cases (GoOn sent)
  cases =
      record {
        sends = λ tag body r old new is range right fresh alone st.
            send_goes_on c.a_step_keeps_its_place.ensures sent old new tag body r range right fresh is st;
        receives = λ tag cap r old new is range right fresh alone st.
            same_sent sent new (receive_goes_on c.a_step_keeps_its_place.ensures sent old new tag cap r fresh is st);
        moves = λ k old new is range right fresh alone st.
            same_sent sent new (moves_on c.a_step_keeps_its_place.ensures sent k old new is.0 alone st);
        moves_some = λ k old new is range right fresh alone st.
            same_sent sent new (moves_on c.a_step_keeps_its_place.ensures sent k old new is.0 alone st);
        ends = λ r a old new is range right fresh alone st.
            same_sent sent new (result_goes_on c.a_step_keeps_its_place.ensures sent old new r a fresh is st);
        cancels = λ r a old new is range right fresh alone st.
            same_sent sent new (cancel_goes_on c.a_step_keeps_its_place.ensures sent old new r a fresh is st);
        stays = λ d r old new is none range right fresh alone st.
            subst (λ (o : Option Body). DeskInvariant (sent ++ cons_option o []) new) (sym none)
            (same_sent sent new (subst (λ (u : RankView). DeskInvariant sent u) (sym is) st));
      }

  by : ((v' ≡ v) × (body_sent does has ≡ None)) ⊎ (IsFresh v × GoesOn does has v v') →
      DeskInvariant (sent ++ cons_option (body_sent does has) []) v'
  by (inl same) =
      subst (λ (o : Option Body). DeskInvariant (sent ++ cons_option o []) v') (sym same.1)
      (same_sent sent v' (subst (λ (u : RankView). DeskInvariant sent u) (sym same.0) st))
  by (inr goes) = of_each (GoOn sent) cases does has v v' goes.1 range right goes.0 alone st

pub returns-clause-shows : goal.returns-clause-shows
returns-clause-shows c sent v v' (call.Finish q) (reply.Ended a) right alone acts st =
    shows_body sent v v' q a st acts.0 alone right acts.1
    (λ k at. c.a_result_is_given.ensures st.eager (bodies_by sent) [] v v' st.past.log st.past.given q k a
    (st.placed (bodies_by sent) (are_by sent)).logged right at acts.1)
returns-clause-shows c sent v v' does has right alone acts st = tt
