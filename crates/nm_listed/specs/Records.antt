-- The record of a log.
use Rattle.std.specs.Prelude.{◌≡◌, ℕ, ◌+◌, ◌*◌, ◌<◌, ◌≤◌, if◌then◌else◌, nat_lt, List, [], ◌∷◌, Some, count_by}
use Rattle.std.specs.Prelude.{filter_map, length, option_map}
use Rattle.std.specs.List.{range_with_len, slice_get}
use Rattle.nm_types.specs.declared.scripts.Line.{Line}
use Rattle.nm_types.specs.Sizes.{Sizes}
use Rattle.nm_history.specs.Quiescence.{Ended, Packets, packets_of as packets_due}
use Rattle.nm_history.specs.Outgoing.{packets_to}
use Rattle.nm_history.specs.RankRun.{Always, NumberAt}
use Rattle.nm_report.specs.declared.records.RunRecord.{RunRecord}
use Rattle.nm_report.specs.Ends.{are_done, ends_of, packets_of}
use Rattle.nm_outcomes.specs.Logs.{Step, history_in}
use Rattle.nm_outcomes.specs.Looks.{is_answer_by}
use Rattle.nm_outcomes.specs.RankStates.{Spot}
use Rattle.nm_explored.specs.Lines.{line_in}
use Rattle.nm_listed.specs.Tellings.{Telling}

-- what became of a rank in this state
abbrev pub ended_as : List Line → List Step → ℕ → Spot → Ended
ended_as lines log i spot = record {
  at = count_by is_answer_by spot.deeds;
  waits = line_in lines i (count_by is_answer_by spot.deeds);
  events = history_in log i;
}

-- what became of the first ranks
abbrev pub all_ended : List Line → Telling → ℕ → List Ended
all_ended lines t ranks =
    filter_map (λ i. option_map (ended_as lines t.log i) (slice_get t.states i)) (range_with_len 0 ranks)

-- The record has what became of the ranks, and the packets that their histories call for; all cells are home, and it is
-- done where no rank waits.
pub record IsRecordOf (shape : Sizes) (lines : List Line) (t : Telling) (run : RunRecord) : Type 0 where
  pub shaped : run.shape ≡ shape
  pub ranks : ends_of run.ranks ≡ all_ended lines t shape.ranks
  pub pairs : packets_of run.pairs ≡ packets_due lines (ends_of run.ranks)
  pub cells : run.cells ≡ record { total = shape.ranks * shape.cells; home = shape.ranks * shape.cells }
  pub done : run.done ≡ are_done (ends_of run.ranks)

-- the history of each rank can be counted
pub record AreCountable (ends : List Ended) : Type 0 where
  pub numbered : (i : ℕ) (e : Ended) → slice_get ends i ≡ Some e → (ranks : ℕ) × Always (NumberAt ranks) e.events
  pub packets : (i to : ℕ) (e : Ended) → slice_get ends i ≡ Some e →
      packets_to e.events to ≤ length e.events + 281474976710656

-- What becomes of the ranks can be counted: receives, sends and arrivals are numbered, and few commands ran. Each event
-- calls for one packet at most, but for sends.
pub record IsCountable (shape : Sizes) (t : Telling) : Type 0 where
  pub some : shape.ranks < 256
  pub there : (i : ℕ) → i < shape.ranks → (spot : Spot) × (slice_get t.states i ≡ Some spot)
  pub numbered : (i : ℕ) → i < shape.ranks → Always (NumberAt shape.ranks) (history_in t.log i)
  pub few : (i : ℕ) (spot : Spot) → i < shape.ranks → slice_get t.states i ≡ Some spot →
      count_by is_answer_by spot.deeds < 4294967296
  pub packets : (i to : ℕ) → i < shape.ranks →
      packets_to (history_in t.log i) to ≤ length (history_in t.log i) + 281474976710656

-- a count, unless it is 0
abbrev pub some_packets : Packets → List Packets
some_packets p = if nat_lt 0 p.count then p ∷ [] else []
