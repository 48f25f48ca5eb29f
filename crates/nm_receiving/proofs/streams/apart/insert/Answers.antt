use Rattle.std.proofs.Common.{ℕ, ◌==◌, ◌%◌, ◌||◌, ◌∙◌, ap}
use Rattle.std.specs.Int.{bit_at}
use Rattle.nm_receiving.proofs.BlockLemmas.{insert-stands}
use Rattle.nm_receiving.proofs.streams.apart.insert.Goals as goal

pub returns : goal.returns
returns c = λ m.
    insert-stands c.args.blocks.now.entries c.put.new.blocks.entries c.args.n c.with_bit-bits.result c.put.ensures
    (λ k. c.with_bit-bits.ensures k
    ∙ ap (λ (x : ℕ). bit_at x k == 1 || c.args.n % 64 == k) c.bits_of.ensures) m
