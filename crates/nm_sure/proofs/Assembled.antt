-- A record of a run of a plain script is a lawful run of plain commands, which gets just as far as the
-- plain run.
use Rattle.std.proofs.Common.{◌≡◌, ℕ, ◌+◌, ◌<◌, ◌==◌, Bool, true, false, ◌&&◌, cond, ltb, zero, suc, Option, Some, None}
use Rattle.std.proofs.Common.{List, [], ◌∷◌, length, refl, sym, ◌∙◌, ap, subst, arith}
use Rattle.std.specs.Prelude.{IfSome, MatchOption, nat_lt, replicate}
use Rattle.std.specs.List.{list_all, slice_get}
use Rattle.std.specs.Option.{option_map_or}
use Rattle.std.proofs.lemmas.Bool.Decides.{nat_tests}
use Rattle.nm_types.specs.declared.messages.Peer.TheVariants as peer
use Rattle.nm_types.specs.declared.scripts.Command.{Command}
use Rattle.nm_types.specs.declared.scripts.Command.TheVariants as command
use Rattle.nm_types.specs.declared.scripts.Line.{Line}
use Rattle.nm_types.specs.Commands.{Numbered, StandAtLines, command_at, commands_from, commands_of}
use Rattle.nm_types.specs.Limits.{IsScript, is_in_range}
use Rattle.nm_types.specs.Sizes.{Sizes}
use Rattle.nm_history.specs.declared.events.Event.{Event}
use Rattle.nm_history.specs.Answers.{can_go_on}
use Rattle.nm_history.specs.Quiescence.{EachPair, EachRank, Ended, Packets, IsStopped, history_of}
use Rattle.nm_history.specs.RankRun.{IsRankRun}
use Rattle.nm_history.specs.Run.{IsRunOf}
use Rattle.nm_sure.specs.Agree.{ArePlain}
use Rattle.nm_sure.specs.Plain.{at_of, can_run, goes_on, next_of, plain_end}
use Rattle.nm_sure.proofs.Ceiling.{ceiling}
use Rattle.nm_sure.proofs.Floor.{floor}
use Rattle.nm_sure.proofs.Fuel.{at_start, ended}
use Rattle.nm_sure.proofs.Reached.{plain_from}
use Rattle.nm_sure.proofs.Worlds.{IsWithin, PlainRun, line_place}
use Rattle.nm_types.proofs.ListLemmas.{get_some}
use Rattle.nm_types.proofs.NumberLemmas.{same_number}
use Rattle.nm_types.proofs.OptionLemmas.{if_some, no_some, same_some}
use Rattle.nm_types.proofs.TruthLemmas.{second_of_five as second, and_left, and_right}

-- the law of a run without events
abbrev pub Begins : Type 0
Begins = (shape : Sizes) (commands : List Numbered) → IsRankRun shape commands 0 []

low_of : (a b : ℕ) → ltb a b ≡ true → a < b
low_of a b is = grind (arith, nat_tests)

-- each command of a rank comes of a line whose numbers are in range
pub from_line : (ranks rank number : ℕ) (lines : List Line) (k : ℕ) (c : Numbered) →
    list_all (λ (l : Line). nat_lt l.rank ranks && is_in_range ranks l.command) lines ≡ true →
    slice_get (commands_from rank number lines) k ≡ Some c → (rank < ranks) × (is_in_range ranks c.command ≡ true)
from_line ranks rank number [] k c fine here = absurd (no_some c here)
from_line ranks rank number (l ∷ lines) k c fine here =
    by_rank (l.rank == rank) refl k here
    (and_left (nat_lt l.rank ranks && is_in_range ranks l.command) _ fine)
    (λ j there. from_line ranks rank (number + 1) lines j c
    (and_right (nat_lt l.rank ranks && is_in_range ranks l.command) _ fine) there)
  where
    by_rank : (b : Bool) → (l.rank == rank) ≡ b → (k : ℕ) →
        slice_get (cond b (record { line = number; command = l.command } ∷ commands_from rank (number + 1) lines)
        (commands_from rank (number + 1) lines)) k ≡ Some c →
        (nat_lt l.rank ranks && is_in_range ranks l.command) ≡ true →
        ((j : ℕ) → slice_get (commands_from rank (number + 1) lines) j ≡ Some c →
        (rank < ranks) × (is_in_range ranks c.command ≡ true)) →
        (rank < ranks) × (is_in_range ranks c.command ≡ true)
    by_rank true is zero here own later = (
      subst (λ (r : ℕ). r < ranks) (same_number l.rank rank is)
          (low_of l.rank ranks (and_left (nat_lt l.rank ranks) (is_in_range ranks l.command) own)),
      subst (λ (d : Numbered). is_in_range ranks d.command ≡ true)
          (same_some (record { line = number; command = l.command }) c here)
          (and_right (nat_lt l.rank ranks) (is_in_range ranks l.command) own),
    )
    by_rank true is (suc k) here own later = later k here
    by_rank false is k here own later = later k here

pub within_range : (ranks : ℕ) (c : Command) → is_in_range ranks c ≡ true → IsWithin ranks c
within_range ranks (command.Send to q tag ctx sync body) fine = low_of to ranks (second _ (nat_lt to ranks) _ _ _ fine)
within_range ranks (command.Recv q (peer.One from) tag ctx cap) fine = low_of from ranks
    (second _ (nat_lt from ranks) _ _ _ fine)
within_range ranks (command.Recv q peer.Any tag ctx cap) fine = tt
within_range ranks (command.Wait q) fine = tt
within_range ranks (command.Test q) fine = tt
within_range ranks (command.Probe from tag ctx) fine = tt
within_range ranks (command.Await from tag ctx) fine = tt
within_range ranks (command.Cancel q) fine = tt
within_range ranks (command.Mprobe m from tag ctx) fine = tt
within_range ranks (command.Mrecv q m cap) fine = tt

-- how far a rank got, and its history
abbrev pub at_in : List Ended → ℕ → ℕ
at_in ranks i = option_map_or (λ r. r.at) (slice_get ranks i) 0

module _ (shape : Sizes) (lines : List Line) (ranks : List Ended) (packets : List Packets) (stand : StandAtLines)
    (begins : Begins)
    (script : IsScript shape.ranks lines) (plain : ArePlain lines) (lawful : IsRunOf shape lines ranks packets) where
  pair_of_ranks : (R : ℕ → ℕ → List Event → List Event → Type 0) → EachPair R ranks → (i j : ℕ) → i < shape.ranks →
      j < shape.ranks →
      R i j (history_of ranks i) (history_of ranks j)
  pair_of_ranks R each i j inside within =
      let low : i < length ranks = (let n = lawful.one_each in omega (arith, inside, n)) in
      let near : j < length ranks = (let n = lawful.one_each in omega (arith, within, n)) in
      let a = get_some ranks i low in
      let b = get_some ranks j near in
      let both : R i j a.0.events b.0.events =
      if_some (λ (b : Ended). R i j a.0.events b.events) (slice_get ranks j) b.0 b.1
      (if_some (λ (a : Ended). EachRank (λ j b. R i j a.events b.events) ranks) (slice_get ranks i) a.0 a.1
      (each i) j) in
      subst (λ (h : List Event). R i j h (history_of ranks j))
      (sym (ap (λ (o : Option Ended). option_map_or (λ r. r.events) o []) a.1))
      (subst (λ (h : List Event). R i j a.0.events h)
      (sym (ap (λ (o : Option Ended). option_map_or (λ r. r.events) o []) b.1)) both)

  own_run : (i : ℕ) → IsRankRun shape (commands_of i lines) (at_in ranks i) (history_of ranks i)
  own_run i = by_rank (slice_get ranks i) (lawful.rank_runs i)
    where
      by_rank : (o : Option Ended) → IfSome o (λ r. IsRankRun shape (commands_of i lines) r.at r.events) →
          IsRankRun shape (commands_of i lines) (option_map_or (λ r. r.at) o 0) (option_map_or (λ r. r.events) o [])
      by_rank None holds = begins shape (commands_of i lines)
      by_rank (Some r) holds = holds

  peers_in : (i l : ℕ) (c : Command) → command_at (commands_of i lines) l ≡ Some c →
      (i < shape.ranks) × IsWithin shape.ranks c
  peers_in i l c here =
      let place = line_place (commands_of i lines) l c here in
      let fine = from_line shape.ranks i 2 lines place.0 place.1 script.lines_in_range place.2 in (
        fine.0,
        subst (λ (c : Command). IsWithin shape.ranks c) place.4
            (within_range shape.ranks place.1.command fine.1),
      )

  waits_in : (i : ℕ) (c : Numbered) → slice_get (commands_of i lines) (at_in ranks i) ≡ Some c →
      can_go_on (commands_of i lines) (history_of ranks i) c.command ≡ false
  waits_in i c here =
      let inside = (peers_in i c.line c.command (stand i lines (at_in ranks i) c here)).0 in
      by_rank (slice_get ranks i) refl (lawful.quiescent.waits i) here
    where
      stops : (r : Ended) (o : Option Numbered) → o ≡ Some c →
          MatchOption o (r.waits ≡ None)
          (λ c. (r.waits ≡ Some c.line) × (can_go_on (commands_of i lines) r.events c.command ≡ false)) →
          can_go_on (commands_of i lines) r.events c.command ≡ false
      stops r None same holds = absurd (no_some c same)
      stops r (Some d) same holds = subst (λ (c : Numbered). can_go_on (commands_of i lines) r.events c.command
          ≡ false) (same_some d c same) holds.1

      by_rank : (o : Option Ended) → slice_get ranks i ≡ o → IfSome o (λ r. IsStopped (commands_of i lines) r) →
          slice_get (commands_of i lines) (option_map_or (λ r. r.at) o 0) ≡ Some c →
          can_go_on (commands_of i lines) (option_map_or (λ r. r.events) o []) c.command ≡ false
      by_rank None none holds here =
          let inside = (peers_in i c.line c.command (stand i lines 0 c here)).0 in
          let low : i < length ranks = (let n = lawful.one_each in omega (arith, inside, n)) in
          let some = get_some ranks i low in
          absurd (no_some some.0 (sym none ∙ some.1))
      by_rank (Some r) some holds here = stops r (slice_get (commands_of i lines) r.at) here holds

  pub assembled : PlainRun shape lines (at_in ranks) (history_of ranks)
  assembled = record {
    own = own_run;
    carried = λ i j inside within. pair_of_ranks _ lawful.delivered i j inside within;
    plain = λ i. plain_from i 2 lines plain;
    stand = λ i k c here. stand i lines k c here;
    peers = peers_in;
    arrived = λ i j inside within. pair_of_ranks _ lawful.quiescent.arrived i j inside within;
    eager = λ i j inside within. pair_of_ranks _ lawful.quiescent.eager i j inside within;
    asked = λ i j inside within. pair_of_ranks _ lawful.quiescent.asked i j inside within;
    waits = waits_in;
  }

  all_ended : (i : ℕ) → can_run shape.eager lines (plain_end shape.eager shape.ranks lines) i ≡ false
  all_ended i = by_next (next_of lines (plain_end shape.eager shape.ranks lines) i) refl
    where
      by_next : (o : Option Numbered) → next_of lines (plain_end shape.eager shape.ranks lines) i ≡ o →
          can_run shape.eager lines (plain_end shape.eager shape.ranks lines) i ≡ false
      by_next None none =
          ap (λ (o : Option Numbered). option_map_or
          (λ c. goes_on shape.eager lines (plain_end shape.eager shape.ranks lines) i c.command) o false) none
      by_next (Some c) here =
          ended shape.eager lines shape.ranks i
          (peers_in i c.line c.command (stand i lines (at_of (plain_end shape.eager shape.ranks lines) i) c here)).0

  -- each rank gets just as far as in the plain run
  pub as_far : (i : ℕ) → at_in ranks i ≡ at_of (plain_end shape.eager shape.ranks lines) i
  as_far i =
      let high = ceiling shape lines (at_in ranks) (history_of ranks) assembled
      (plain_end shape.eager shape.ranks lines) all_ended i in
      let low = floor shape lines (at_in ranks) (history_of ranks) assembled (length lines) (replicate shape.ranks 0)
      (λ j. let zero_at = at_start shape.eager lines shape.ranks j in omega (arith, zero_at)) i in
      omega (arith, high, low)
