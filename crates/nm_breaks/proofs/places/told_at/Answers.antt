use Rattle.nm_breaks.proofs.OtherLemmas.{early_in, known_in}
use Rattle.nm_breaks.proofs.places.told_at.Goals as goal

pub line_of-requires : goal.line_of-requires
line_of-requires c =
    let spot = c.args.spot in
    record {
      known = known_in c.args.ranks.now spot.rank spot.at c.requires.inside;
      short = c.requires.short;
      early = early_in c.args.ranks.now spot.rank spot.at c.requires.inside c.requires.short;
    }
