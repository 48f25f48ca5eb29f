use Rattle.std.proofs.Common.{◌≤◌, sym, ap, ◌∙◌, subst, arith}
use Rattle.std.specs.Prelude.{List, ℕ, slice_index}
use Rattle.nm_chain.specs.Plays.{heads_of}
use Rattle.nm_chain.specs.Rule.{emptying_of}
use Rattle.nm_chain.specs.declared.table.table.Entry.{Entry}
use Rattle.nm_cells.specs.Ports.{knows}
use Rattle.nm_chain.specs.OwnQueues.{receive_queue}
use Rattle.nm_port.specs.Polls.{EmptiesNone}
use Rattle.nm_port.proofs.PollLemmas.{still_next, way_of, polled_of, got_of, way_misses, rest_none}
use Rattle.nm_port.proofs.SendLemmas.{keeps_if, keeps_on}
use Rattle.nm_port.proofs.polls.receive_next.Goals as goal

pub returns-in-Ok-clause-polls : goal.returns-in-Ok-clause-polls
returns-in-Ok-clause-polls g c = let f = c.args.f.now in let old = c.args.port.now in
    let now = c.receive.new.port in let new = c.pass_or_hold.new.port in
    let x = c.in-Ok.parcel.value in let y = c.pass_or_hold.result.value in
    let came = c.in-Ok.ensures.came.got in
    let end = heads_of receive_queue (knows now) in let none = c.requires.nothing.1 in
    let n = c.pass_or_hold.ensures.next in let w = c.pass_or_hold.ensures.way in
    let misses = way_misses y x now new w ∙ ap (λ (e : Entry _). e.box_miss) came in record {
      next = still_next f old now new y c.receive.ensures.held.1 n;
      got = got_of old now new x y end none came w;
      way = way_of old now new x y end none came w;
      same = polled_of old now new x y end none came w;
      later = λ i. subst (λ (xs : List ℕ). slice_index (knows old).box_miss i ≤ slice_index xs i) (sym misses)
          (omega arith);
    }

pub returns-in-Ok-clause-keeps : goal.returns-in-Ok-clause-keeps
returns-in-Ok-clause-keeps g c = let f = c.args.f.now in let old = c.args.port.now in
    let now = c.receive.new.port in let new = c.pass_or_hold.new.port in let came = c.in-Ok.ensures.came.got in
    keeps_on f (EmptiesNone old) (EmptiesNone now) old now new (ap (λ (e : Entry _). e.hands) came)
    (λ none i. ap (λ e. emptying_of e i) came ∙ none i)
    (keeps_if f (EmptiesNone old) old now c.receive.ensures.keeps) c.pass_or_hold.ensures.keeps

pub pass_or_hold-requires-clause-alone : goal.pass_or_hold-requires-clause-alone
pass_or_hold-requires-clause-alone g c = let one = c.in-Ok.ensures.came.one_more in let none = c.requires.nothing.0 in
    (omega (arith, one, none), c.receive.ensures.held.0 ∙ c.requires.nothing.1)

pub returns-in-Err-clause-keeps : goal.returns-in-Err-clause-keeps
returns-in-Err-clause-keeps g c =
    keeps_if c.args.f.now (EmptiesNone c.args.port.now) c.args.port.now c.receive.new.port c.receive.ensures.keeps

pub returns-in-Err-clause-rest : goal.returns-in-Err-clause-rest
returns-in-Err-clause-rest g c = let none = c.requires.nothing in
    rest_none c.receive.new.port (c.in-Err.ensures.none.1.unpassed ∙ none.0) (c.receive.ensures.held.0 ∙ none.1)
