use Rattle.nm_breaks.proofs.places.told_of.Goals as goal

pub told_at-requires : goal.told_at-requires
told_at-requires c = record { short = c.requires.short; inside = c.requires.inside c.in-At.at c.in-At.is }
