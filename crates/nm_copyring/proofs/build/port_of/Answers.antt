use Rattle.std.proofs.Common.{◌≡◌, suc, ◌-◌, ◌<◌, [], length, sym, refl, ap, ◌∙◌, subst, arith}
use Rattle.std.proofs.lemmas.List.{length-replicate}
use Rattle.nm_chain.specs.Spoken.{first_of}
use Rattle.nm_copyring.specs.declared.table.Entry.{Entry}
use Rattle.nm_copyring.specs.Counted.{Counts, tally}
use Rattle.nm_copyring.specs.Plays.{Rests, knowing, mine}
use Rattle.nm_copyring.specs.Rule.{new_lane, newcomer, newcomers}
use Rattle.nm_copyring.proofs.ListLemmas.{place_low}
use Rattle.nm_copyring.proofs.OpeningLemmas.{map_replicate, parted}
use Rattle.nm_copyring.proofs.build.port_of.Goals as goal

pub split_seat-seat-requires : goal.split_seat-seat-requires
split_seat-seat-requires c = let r = c.args.r.now in let n = r.ranks in let z = r.sizes.0 in
    let low = place_low n 0 0 0 r.small.0 r.small.0 (omega arith) in
    let some : 0 < r.board.shared.table_id.words = omega arith in (
      c.requires.table.0,
      some,
      parted r.board.shared.key c.args.rest.now.id c.args.rest.now.me.0 (newcomer n c.args.rank)
          (newcomers n (suc c.args.rank) (n - suc c.args.rank)) (ap (λ u. u.0) c.requires.lowest),
    )

pub invariant_of-result : goal.invariant_of-result
invariant_of-result c = let n = c.args.r.now.ranks in let seat = c.split_seat-seat.result in
    let is : seat.me ≡ knowing (newcomer n c.args.rank) = c.split_seat-seat.ensures.4
    ∙ ap (λ u. (first_of u.0, [])) c.requires.lowest in
    let knows : mine seat.me ≡ newcomer n c.args.rank = ap mine is in record {
      rests = subst Rests (sym is) (refl, refl);
      wide = ap (λ (e : Entry). length e.lanes) knows ∙ length-replicate n new_lane
          ∙ sym (ap (λ (e : Entry). e.ranks) knows);
      named = ap (λ (e : Entry). e.rank) knows;
      counts = subst (λ e. Counts e c.in_ok-tallies.tallies.items) (sym knows)
          (c.in_ok-tallies.ensures ∙ sym (map_replicate tally n new_lane));
    }
