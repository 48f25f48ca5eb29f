-- The withdrawal of one message more is among the moves where it may be withdrawn, and nothing else.
use Rattle.std.proofs.Common.{◌≡◌, ℕ, ◌<◌, Some, None, true, List, length, get_or, sym, ◌∙◌, ap, subst, arith}
use Rattle.std.specs.Prelude.{if◌then◌else◌}
use Rattle.std.specs.List.{slice_get}
use Rattle.std.proofs.lemmas.Option.{slice_get-get_or}
use Rattle.nm_types.specs.declared.messages.Arrival.{Arrival}
use Rattle.nm_types.proofs.ListLemmas.{place_below}
use Rattle.nm_match.specs.declared.names.Message.{Message}
use Rattle.nm_explored.specs.declared.choices.moves.Move.TheVariants.{Withdraw}
use Rattle.nm_explored.specs.declared.choices.moves.Turn.{Turn}
use Rattle.nm_explored.specs.Successors.{is_withdrawn_next, spot_in}
use Rattle.nm_search.specs.Lists.{Has}
use Rattle.nm_explored.specs.Moves.{IsRecalled}
use Rattle.nm_search.proofs.ListLemmas.{each_next, has_kept, keeps_then, only_then}
use Rattle.nm_explored.proofs.KeptLemmas.{only_option, withdrawal}
use Rattle.nm_explored.proofs.KeptLemmas.{withdrawal_added, withdrawal_only}
use Rattle.nm_explored.proofs.choices.moves.push_withdrawals.Goals as goal

pub loop-a-preserved : goal.loop-a-preserved
loop-a-preserved c =
    let v = spot_in c.args.view.table.now c.args.view.ids.now in
    let items = c.came-a-items.result.now in
    let here = ap (λ (xs : List Arrival). slice_get xs c.loop-a.a-index) (sym c.came-a-items.ensures)
    ∙ slice_get-get_or items c.loop-a.a-index _ c.loop-a-test.true in
    record {
      kept = keeps_then c.args.turns.now.items c.loop-a.turns.items c.push_withdrawal.new.turns.items
          c.loop-a.invariant.kept c.in_ok-push_withdrawal.ensures.kept;
      added = λ k low a at so.
          each_next
          (λ (k : ℕ). (a : Arrival) → slice_get c.args.rank.now.came k ≡ Some a →
          is_withdrawn_next v c.args.i a.env.from a.n ≡ true →
          Has c.push_withdrawal.new.turns.items (withdrawal c.args.i a)) c.loop-a.a-index
          (λ m less a at so.
          has_kept c.loop-a.turns.items c.push_withdrawal.new.turns.items _ c.in_ok-push_withdrawal.ensures.kept
          (c.loop-a.invariant.added m less a at so))
          (λ a at so.
          withdrawal_added v c.args.i c.args.rank.now.came c.loop-a.a-index (get_or items c.loop-a.a-index _) a
          c.may_withdraw-may.result c.push_withdrawal.new.turns.items here c.may_withdraw-may.ensures
          c.in_ok-push_withdrawal.ensures.added at so) k low a at so;
      only =
          only_then
          (λ (t : Turn). (m : Message) × (record { rank = c.args.i; by = Withdraw m } ≡ t)
          × IsRecalled v c.args.i c.args.rank.now m)
          c.args.turns.now.items c.loop-a.turns.items c.push_withdrawal.new.turns.items c.loop-a.invariant.only
          (only_option
          (λ (t : Turn). (m : Message) × (record { rank = c.args.i; by = Withdraw m } ≡ t)
          × IsRecalled v c.args.i c.args.rank.now m)
          c.loop-a.turns.items c.push_withdrawal.new.turns.items
          (if c.may_withdraw-may.result then Some (withdrawal c.args.i (get_or items c.loop-a.a-index _)) else None)
          c.in_ok-push_withdrawal.ensures.only
          (λ t is.
          withdrawal_only v c.args.i c.args.rank.now c.loop-a.a-index (get_or items c.loop-a.a-index _)
          c.may_withdraw-may.result t here c.may_withdraw-may.ensures is));
    }

pub returns-clause-added : goal.returns-clause-added
returns-clause-added c m recalled =
    let past = c.loop-a-test.false in
    let long = ap (λ (xs : List Arrival). length xs) c.came-a-items.ensures in
    let inside = place_below c.args.rank.now.came recalled.place recalled.arrival recalled.came in
    let low : recalled.place < c.loop-a.a-index = omega (arith, inside, long, past) in
    subst (λ (x : Message). Has c.loop-a.turns.items (record { rank = c.args.i; by = Withdraw x })) recalled.message
    (c.loop-a.invariant.added recalled.place low recalled.arrival recalled.came recalled.free)
