use Rattle.std.proofs.Common.{sym, ◌∙◌, ap}
use Rattle.nm_eager.specs.Joining.{stream_from}
use Rattle.nm_eager.specs.Streams.{Stream, missing}
use Rattle.nm_eager.proofs.MissingLemmas.{missing-without}
use Rattle.nm_receiving.proofs.Wholes.{taken_whole, whole_in}
use Rattle.nm_receiving.proofs.bytes.take_joined.Goals as goal

pub take-bytes-requires-clause-whole : goal.take-bytes-requires-clause-whole
take-bytes-requires-clause-whole c =
    whole_in (stream_from c.args.joiner.now c.args.from) c.args.n c.missing-missing.ensures.stream c.requires.here

pub prove-unreachable-requires : goal.prove-unreachable-requires
prove-unreachable-requires c =
    let s = stream_from c.args.joiner.now c.args.from in
    let whole = whole_in s c.args.n c.missing-missing.ensures.stream c.requires.here in
    c.if-prove.true
    (c.missing.ensures.value ∙ ap (λ (s : Stream). missing s) c.take-bytes.ensures.others.changed
    ∙ missing-without s c.args.n c.missing-missing.ensures.stream whole ∙ sym c.missing-missing.ensures.value)

pub returns-clause-bytes : goal.returns-clause-bytes
returns-clause-bytes c =
    let s = stream_from c.args.joiner.now c.args.from in
    taken_whole s c.args.n c.take-bytes.result c.take-bytes.ensures.bytes
    (whole_in s c.args.n c.missing-missing.ensures.stream c.requires.here)
