use Rattle.std.proofs.Common.{rules, ◌≡◌, ◌<◌, refl, sym, ◌∙◌, subst, arith}
use Rattle.nm_chain.specs.declared.table.table.Heads.{Heads}
use Rattle.nm_cells.specs.Ports.{own_of, knows}
use Rattle.nm_queue.specs.Moves.{shadow_of}
use Rattle.nm_queue.proofs.MoveLemmas.{finding_none, finding_some, heads_anew, heads_changed, heads_kept}
use Rattle.nm_queue.proofs.moves.find_first.Goals as goal

pub returns-then-has_shadow-clause-found : goal.returns-then-has_shadow-clause-found
returns-then-has_shadow-clause-found g c = λ _. let p = c.args.port.now in let q = c.args.q in
    let some = c.if-has_shadow.ensures.0 refl in (
      record {
        some = some;
        same = λ was. refl;
        knows = heads_kept (own_of q) (knows p);
        leaves = record { hands = refl; holding = refl; taken = (refl, refl, refl); loose = refl };
      },
      let none = finding_some (shadow_of q p) some in omega (arith, none),
    )

pub returns-clause-found : goal.returns-clause-found
returns-clause-found g c = λ _. let p = c.args.port.now in let q = c.args.q in let b = own_of q in
    let loaded = c.load_head.new.port in let new = c.clear_head.new.port in
    let a = c.load_head.ensures in let d = c.clear_head.ensures in
    let found = a.found c.if-not-load_head.false in
    let is = heads_changed b _ (knows loaded) (knows new) d.hidden in
    let none : shadow_of q p ≡ 0 = search rules in
    let first = a.cost in let then = d.cost in (
      record {
        some = subst (λ (x : Heads). 0 < x.shadow) (sym is) found.1;
        same = λ was. absurd (omega (arith, was, none));
        knows = heads_anew b _ _ (knows p) (knows loaded) (knows new) found.0 d.hidden;
        leaves = record {
          hands = d.hands.0 ∙ a.hands.0;
          holding = d.hands.1 ∙ a.hands.1;
          taken = (d.stays.2.0 ∙ a.stays.2.0, d.stays.2.1 ∙ a.stays.2.1, d.stays.2.2 ∙ a.stays.2.2);
          loose = d.stays.3 ∙ a.stays.3;
        };
      },
      let two = finding_none (shadow_of q p) none in omega (arith, two, first, then),
    )

pub returns-then-not-load_head-clause-missed : goal.returns-then-not-load_head-clause-missed
returns-then-not-load_head-clause-missed g c = λ _. let a = c.load_head.ensures in
    let none : shadow_of c.args.q c.args.port.now ≡ 0 = search rules in (
      record {
        no_shadow = none;
        knows = a.empty c.if-not-load_head.true;
        leaves = record {
          hands = a.hands.0;
          holding = a.hands.1;
          taken = a.stays.2;
          loose = a.stays.3;
        };
      },
      a.cost,
    )
