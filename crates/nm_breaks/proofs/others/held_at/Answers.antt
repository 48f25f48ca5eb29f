use Rattle.nm_breaks.proofs.others.held_at.Goals as goal

pub told_at-requires : goal.told_at-requires
told_at-requires c = record { short = c.requires.short; inside = c.requires.inside c.in-Some.at c.in-Some.is }
