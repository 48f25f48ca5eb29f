use Rattle.std.proofs.Common.{◌≡◌, sym, subst}
use Rattle.std.proofs.lemmas.List.{take_all}
use Rattle.std.specs.Prelude.{List, nat_eq, position}
use Rattle.indexmap.specs.IndexMap.{get}
use Rattle.nm_history.specs.declared.events.Event.{Event}
use Rattle.nm_lookups.proofs.FirstLemmas.{number_noted, number_unnoted}
use Rattle.nm_lookups.proofs.firsts.numbered_firsts.Goals as goal
use Rattle.nm_lookups.proofs.firsts.numbered_firsts.Goals.{in-Some+in_ok-note, in_default}

pub loop-k-preserved : goal.loop-k-preserved
loop-k-preserved g c =
    elim c.match-number.branch [
      | in-Some+in_ok-note w ↦ rw w.places-is
          (number_noted g.T.Numbering.is_at c.args.events.now c.loop-k.k c.index-events-k.result c.loop-k-test.true
          c.index-events-k.is
          c.loop-k.places w.note.new.places w.in-Some.number w.in-Some.ensures w.in_ok-note.ensures c.loop-k.invariant)
      | in_default w ↦ rw w.places-is
          (number_unnoted g.T.Numbering.is_at c.args.events.now c.loop-k.k c.index-events-k.result c.loop-k-test.true
          c.index-events-k.is
          c.loop-k.places w.in_default.ensures c.loop-k.invariant)
    ]

pub returns : goal.returns
returns g c = λ n.
    subst (λ (h : List Event). get nat_eq c.loop-k.places n ≡ position (λ e. g.T.Numbering.is_at n e.what) h)
    (take_all c.loop-k.k c.args.events.now c.loop-k-test.false) (c.loop-k.invariant n)
