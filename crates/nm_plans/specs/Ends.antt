-- The two ends of requests: a request of one rank belongs to the one of the other rank that goes the
-- other way, is in parts where it is, and has the same tag and context.
use Rattle.std.specs.Prelude.{ℕ, ◌==◌, Bool, true, false, ◌&&◌, not, Option, Some, None}
use Rattle.std.specs.Prelude.{if◌then◌else◌, List, fold}
use Rattle.std.specs.Bool.{beq}
use Rattle.std.specs.Cmp.{IsEquivalence, IsPartialEquivalence, and_equiv, bool_eq_equiv, nat_eq_equiv, on_equiv}
use Rattle.std.specs.Cmp.{partial_equiv_from_equiv}
use Rattle.std.specs.Option.{option_map_or}
use Rattle.nm_plans.specs.declared.requests.ends.Channel.{Channel}
use Rattle.nm_plans.specs.declared.requests.ends.End.{End}
use Rattle.nm_plans.specs.declared.requests.ends.Sort.{Sort}
use Rattle.nm_plans.specs.declared.lines.PlanCommand.{PlanCommand}
use Rattle.nm_plans.specs.declared.lines.PlanCommand.TheVariants.{SendInit, RecvInit, PsendInit}
use Rattle.nm_plans.specs.declared.lines.PlanCommand.TheVariants.{PrecvInit}
use Rattle.nm_plans.specs.declared.lines.PlanLine.{PlanLine}

-- an end of a rank, by whether it sends and is partitioned
abbrev pub end : ℕ → ℕ → ℕ → ℕ → Bool → Bool → End
end rank peer tag ctx sends split = record {
  rank = rank;
  peer = peer;
  channel = record { tag = tag; ctx = ctx; sort = record { sends = sends; split = split } };
}

-- the end of the request that a command makes
abbrev pub end_in : ℕ → PlanCommand → Option End
end_in rank (SendInit p to tag ctx body) = Some (end rank to tag ctx true false)
end_in rank (RecvInit p from tag ctx cap) = Some (end rank from tag ctx false false)
end_in rank (PsendInit p to tag ctx parts body) = Some (end rank to tag ctx true true)
end_in rank (PrecvInit p from tag ctx parts cap) = Some (end rank from tag ctx false true)
end_in rank _ = None

-- the number of parts that it has, 1 where it isn't partitioned
abbrev pub parts_in : PlanCommand → ℕ
parts_in (PsendInit p to tag ctx parts body) = parts
parts_in (PrecvInit p from tag ctx parts cap) = parts
parts_in _ = 1

-- the same way, and both in parts or neither
abbrev pub same_sort : Sort → Sort → Bool
same_sort a b = beq a.sends b.sends && beq a.split b.split

-- the same tag, context and sort
abbrev pub same_channel : Channel → Channel → Bool
same_channel a b = a.tag == b.tag && a.ctx == b.ctx && same_sort a.sort b.sort

-- two ends are the same
abbrev pub same_end : End → End → Bool
same_end a b = a.rank == b.rank && a.peer == b.peer && same_channel a.channel b.channel

-- sameness of channels is an equivalence
pub channel_laws : IsEquivalence same_channel
channel_laws =
    and_equiv
    (and_equiv (on_equiv (λ (c : Channel). c.tag) nat_eq_equiv) (on_equiv (λ (c : Channel). c.ctx) nat_eq_equiv))
    (on_equiv (λ (c : Channel). c.sort) (and_equiv (on_equiv (λ (s : Sort). s.sends) bool_eq_equiv)
    (on_equiv (λ (s : Sort). s.split) bool_eq_equiv)))

-- sameness of channels is symmetric and transitive
pub channel_partial_laws : IsPartialEquivalence same_channel
channel_partial_laws = partial_equiv_from_equiv channel_laws

-- sameness of ends is an equivalence
pub end_laws : IsEquivalence same_end
end_laws =
    and_equiv (and_equiv (on_equiv (λ (e : End). e.rank) nat_eq_equiv) (on_equiv (λ (e : End). e.peer) nat_eq_equiv))
    (on_equiv (λ (e : End). e.channel) channel_laws)

-- sameness of ends is symmetric and transitive
pub end_partial_laws : IsPartialEquivalence same_end
end_partial_laws = partial_equiv_from_equiv end_laws

-- the other end
abbrev pub other_end : End → End
other_end e =
    end e.peer e.rank e.channel.tag e.channel.ctx (not e.channel.sort.sends) e.channel.sort.split

-- the line makes the request with this end
abbrev pub makes_end : End → PlanLine → Bool
makes_end e line = option_map_or (same_end e) (end_in line.rank line.command) false

-- the number of parts of the request with this end, behind a line
abbrev pub parts_behind : End → Option ℕ → PlanLine → Option ℕ
parts_behind e parts line = if makes_end e line then Some (parts_in line.command) else parts

-- the number of parts of the request with this end that these lines make, if they make one
unfoldable pub parts_at : List PlanLine → End → Option ℕ
parts_at lines e = fold (parts_behind e) None lines
