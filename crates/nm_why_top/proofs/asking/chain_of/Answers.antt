-- From the first that waits on.
use Rattle.std.proofs.lemmas.Result.{IfOk-weaker}
use Rattle.nm_waits.specs.Chains.{IsChain}
use Rattle.nm_why_top.specs.Answers.{IsChainOf}
use Rattle.nm_why_top.proofs.AskedLemmas.{chain_first, chain_none}
use Rattle.nm_why_top.proofs.asking.chain_of.Goals as goal

pub returns-in-Some : goal.returns-in-Some
returns-in-Some c =
    IfOk-weaker c.chain.result (λ ranks. IsChain c.args.waits.now c.in-Some.wait.now.rank ranks.items)
    (λ ranks. IsChainOf c.args.waits.now ranks.items)
    (λ ranks is. chain_first c.args.waits.now c.in-Some.wait.now ranks.items c.in-Some.ensures.value is)
    c.chain.ensures

pub returns-in-None : goal.returns-in-None
returns-in-None c = chain_none c.args.waits.now _ c.in-None.ensures.value c.new.ensures.items
