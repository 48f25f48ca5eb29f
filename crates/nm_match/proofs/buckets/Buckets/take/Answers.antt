-- It leaves the bucket at the key's place.
use Rattle.std.proofs.Common.{sym}
use Rattle.nm_match.proofs.buckets.Buckets.take.Goals as goal

pub returns-in-Some : goal.returns-in-Some
returns-in-Some g c = c.take_at.ensures c.args.key (sym c.in-Some.ensures.index)
