-- One move more.
use Rattle.std.proofs.Common.{◌∙◌, List, subst, sym}
use Rattle.nm_explored.specs.declared.choices.moves.Turn.{Turn}
use Rattle.nm_explored.proofs.BackLemmas.{LeadsOn, leads_first, leads_last, leads_more, leads_zero}
use Rattle.nm_explored.proofs.ends.way_back.Goals as goal

pub loop-turn-init : goal.loop-turn-init
loop-turn-init c eager ranks lines back ids here =
    subst (λ (turns : List Turn). LeadsOn eager ranks lines c.args.search.now c.args.end 0 c.args.end ids turns)
    (sym c.new-turns.ensures.items) (leads_zero eager ranks lines c.args.search.now c.args.end ids here)

pub loop-turn-preserved : goal.loop-turn-preserved
loop-turn-preserved c eager ranks lines back ids here =
    leads_more eager ranks lines c.args.search.now back c.args.end c.loop-turn._turn c.loop-turn.k ids
    c.loop-turn.turns.items c.push.new.self.items c.in-Some.way
    (c.loop-turn.invariant eager ranks lines back ids here) (sym c.way.ensures ∙ c.in-Some.is)
    c.in_ok-push.ensures.items

pub returns-in-None : goal.returns-in-None
returns-in-None c eager ranks lines back ids here =
    leads_last eager ranks lines c.args.search.now back c.args.end c.loop-turn._turn c.loop-turn.k ids
    c.loop-turn.turns.items (c.loop-turn.invariant eager ranks lines back ids here) (sym c.way.ensures ∙ c.in-None.is)

pub returns : goal.returns
returns c eager ranks lines back ids here =
    leads_first eager ranks lines c.args.search.now back c.args.end c.loop-turn._turn c.loop-turn.k ids
    c.loop-turn.turns.items (c.loop-turn.invariant eager ranks lines back ids here) c.loop-turn-test.false
