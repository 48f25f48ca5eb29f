use Rattle.std.proofs.Common.{inl, refl, arith}
use Rattle.nm_diagram.proofs.FrameLemmas.{none_shown_at_all}
use Rattle.nm_diagram.proofs.frames.find_end.Goals as goal

pub loop-beyond-init : goal.loop-beyond-init
loop-beyond-init c = record {
  apart = omega arith;
  within = omega arith;
  few = omega (arith, none_shown_at_all c.args.asked.first c.args.ranks.now);
  most = inl refl;
}
