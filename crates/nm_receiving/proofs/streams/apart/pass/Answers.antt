use Rattle.std.proofs.Common.{◌%◌, ◌∙◌, sym}
use Rattle.nm_types.proofs.NumberLemmas.{same_number}
use Rattle.nm_receiving.proofs.BlockLemmas.{forget-stands}
use Rattle.nm_receiving.proofs.streams.apart.pass.Goals as goal

pub returns-then-is_last : goal.returns-then-is_last
returns-then-is_last c = λ m above.
    forget-stands c.args.blocks.now.entries c.forget.new.blocks.entries c.args.n c.forget.ensures
    (same_number (c.args.n % 64) 63 (sym c.is_last.ensures ∙ c.if-is_last.true)) m above
