use Rattle.std.proofs.Common.{◌≡◌, ◌+◌, ◌-◌, ap, ◌∙◌, arith}
use Rattle.nm_script.specs.FloodScripts.{way}
use Rattle.nm_script.proofs.PushLemmas.{one_less}
use Rattle.nm_script.proofs.flood.scripts.push_receives.Goals as goal

pub loop-k-preserved : goal.loop-k-preserved
loop-k-preserved c =
    let one : c.loop-k.k ≡ c.loop-k.k - 1 + 1 = omega arith in
    let is = c.before-way.ensures c.args.key (c.loop-k.k - 1)
    (c.loop-k.invariant.way ∙ ap (λ k. way c.args.key c.args.ranks k) one) in
    record {
      put = one_less _ _ _ _ (c.loop-k.k - 1) c.loop-k.k _ (omega arith)
          (c.receive_line.ensures c.args.key c.args.ranks is) c.loop-k.invariant.put c.in_ok-push.ensures.items;
      way = is;
    }
