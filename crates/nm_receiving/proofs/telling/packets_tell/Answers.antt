use Rattle.nm_receiving.proofs.Told.{tells-more}
use Rattle.nm_receiving.proofs.telling.packets_tell.Goals as goal

pub returns : goal.returns
returns c = λ eager known kept goes told. tells-more _ eager c.args.p.now.what c.args.p.now.payload known
    c.missing_bytes_follow.ensures.begins c.missing_bytes_follow.ensures.goes_on c.missing.ensures.stream
    kept goes told
