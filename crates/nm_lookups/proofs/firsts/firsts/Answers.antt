use Rattle.std.proofs.Common.{◌≡◌, subst}
use Rattle.std.proofs.lemmas.List.{take_all}
use Rattle.std.specs.Prelude.{List, position}
use Rattle.indexmap.specs.IndexMap.{get}
use Rattle.nm_history.specs.declared.events.Event.{Event}
use Rattle.nm_match.specs.Names.{same_message}
use Rattle.nm_lookups.proofs.FirstLemmas.{message_noted, message_unnoted}
use Rattle.nm_lookups.proofs.firsts.firsts.Goals as goal
use Rattle.nm_lookups.proofs.firsts.firsts.Goals.{in-Some+in_ok-note, in_default}

pub loop-k-preserved : goal.loop-k-preserved
loop-k-preserved g c =
    elim c.match-message.branch [
      | in-Some+in_ok-note w ↦ rw w.places-is
          (message_noted g.T.Kind.is_of c.args.events.now c.loop-k.k c.index-events-k.result c.loop-k-test.true
          c.index-events-k.is
          c.loop-k.places w.note.new.places w.in-Some.message w.in-Some.ensures w.in_ok-note.ensures c.loop-k.invariant)
      | in_default w ↦ rw w.places-is
          (message_unnoted g.T.Kind.is_of c.args.events.now c.loop-k.k c.index-events-k.result c.loop-k-test.true
          c.index-events-k.is
          c.loop-k.places w.in_default.ensures c.loop-k.invariant)
    ]

pub returns : goal.returns
returns g c = λ m.
    subst (λ (h : List Event). get same_message c.loop-k.places m ≡ position (λ e. g.T.Kind.is_of m.rank m.n e.what) h)
    (take_all c.loop-k.k c.args.events.now c.loop-k-test.false) (c.loop-k.invariant m)
