-- Numbers that tell parts of states apart, mostly.
use Rattle.std.specs.Prelude.{ℕ}
use Rattle.nm_types.specs.declared.messages.Arrival.{Arrival}
use Rattle.nm_history.specs.declared.plain.Pair.{Pair}
use Rattle.nm_search.specs.Numbers.{mixed_lem}
use Rattle.nm_outcomes.specs.declared.spots.deeds.Deed.{Deed}
use Rattle.nm_outcomes.specs.declared.spots.deeds.Deed.TheVariants as deed
use Rattle.nm_outcomes.specs.declared.spots.deeds.Part.{Part}
use Rattle.nm_outcomes.specs.declared.spots.deeds.Part.TheVariants as part
use Rattle.nm_outcomes.specs.declared.spots.deeds.Reply.{Reply}
use Rattle.nm_outcomes.specs.declared.spots.deeds.Reply.TheVariants as reply

-- a number of an answer
abbrev pub reply_number : Reply → ℕ
reply_number reply.Started = 1
reply_number reply.Busy = 2
reply_number reply.Null = 3
reply_number reply.No = 4
reply_number reply.Nothing = 5
reply_number reply.Sent = 6
reply_number (reply.Got from tag line) = mixed_lem (mixed_lem 7 from) line
reply_number (reply.Cut from tag len) = mixed_lem 8 from
reply_number reply.Cancelled = 9
reply_number (reply.Seen seen) = mixed_lem (mixed_lem 10 seen.from) seen.tag
reply_number reply.Done = 11
reply_number reply.Late = 12
reply_number reply.Asked = 13

-- a number of a deed
abbrev pub deed_number : Deed → ℕ
deed_number (deed.Send to n tag ctx len how line) = mixed_lem 1 line
deed_number (deed.Post receive line) = mixed_lem 2 line
deed_number (deed.Match number from n cap line) = mixed_lem (mixed_lem 3 from) n
deed_number (deed.Cancel number done) = mixed_lem 4 number
deed_number (deed.Recall to n) = mixed_lem (mixed_lem 5 to) n
deed_number (deed.Claim from n line) = mixed_lem (mixed_lem 6 from) n
deed_number (deed.Ran line r) = mixed_lem (mixed_lem 7 line) (reply_number r)

-- a number of a message
abbrev pub arrival_number : Arrival → ℕ
arrival_number a = mixed_lem a.env.from a.n

-- a number of a receive with its message
abbrev pub pair_number : Pair → ℕ
pair_number p = mixed_lem p.number (arrival_number p.arrival)

-- a number of a part of a rank's state
abbrev pub part_number : Part → ℕ
part_number (part.Did d) = mixed_lem 1 (deed_number d)
part_number (part.Open r) = mixed_lem 2 r.number
part_number (part.Free a) = mixed_lem 3 (arrival_number a)
part_number (part.Paired p) = mixed_lem 4 (pair_number p)
part_number (part.Came a) = mixed_lem 5 (arrival_number a)
part_number (part.Gone m) = mixed_lem 6 (mixed_lem m.rank m.n)
