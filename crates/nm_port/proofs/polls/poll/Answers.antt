use Rattle.std.proofs.Common.{◌<◌, sym, ap, ◌∙◌, subst, arith}
use Rattle.std.specs.Coded.{coded_option}
use base.Stored.{Coded-set}
use denote.Struct.Declared.{row}
use Rattle.nm_chain.specs.contracts.table.parcels.Parcel.{the_type}
use Rattle.nm_chain.specs.Rule.{emptying_of}
use Rattle.nm_cells.specs.declared.port.Port.{Port}
use Rattle.nm_chain.specs.declared.table.table.Entry.{Entry}
use Rattle.nm_cells.specs.Ports.{knows, taken_by, unpassed_by}
use Rattle.nm_chain.specs.OwnQueues.{receive_queue}
use Rattle.nm_port.specs.Keeps.{KeepsPort}
use Rattle.nm_port.specs.Sends.{HadMiss}
use Rattle.nm_port.specs.Polls.{count_held, EmptiesNone, Polls, with_all_missed}
use Rattle.nm_port.proofs.SendLemmas.{if_err, if_ok, keeps_if, keeps_on}
use Rattle.nm_port.proofs.HeldLemmas.{Once, none_waits}
use Rattle.nm_port.proofs.PollLemmas.{keeps_cells, polls_since}
use Rattle.nm_port.proofs.polls.poll.Goals as goal

-- it was held
pub returns-in-Ok-clause-keeps : goal.returns-in-Ok-clause-keeps
returns-in-Ok-clause-keeps g c =
    keeps_if c.args.f.now _ c.args.port.now c.pass_held.new.port c.pass_held.ensures.keeps

-- it was in the next box of a rank
pub returns-in-Ok-take_first-clause-polls : goal.returns-in-Ok-take_first-clause-polls
returns-in-Ok-take_first-clause-polls g c = let new = c.take_first.new.port in
    subst (λ (q : Port _). Polls c.args.f.now q new c.in-Ok-take_first.parcel.value) c.in-Err.ensures.kept.1
    c.in-Ok-take_first.ensures.polls

pub returns-in-Ok-take_first-clause-keeps : goal.returns-in-Ok-take_first-clause-keeps
returns-in-Ok-take_first-clause-keeps g c = let f = c.args.f.now in let new = c.take_first.new.port in
    subst (λ (q : Port _). KeepsPort f (EmptiesNone q) q new) c.in-Err.ensures.kept.1
    (keeps_cells f c.pass_held.new.port new c.take_first.ensures.keeps c.take_first.ensures.hands)

pub returns-in-Ok-take_first-clause-rest : goal.returns-in-Ok-take_first-clause-rest
returns-in-Ok-take_first-clause-rest g c = let k = c.take_first.ensures.keeps in let same = c.in-Err.ensures.kept.1 in
    k.unpassed ∙ ap unpassed_by same ∙ c.requires.rest
    ∙ ap count_held (sym (k.held ∙ ap (λ (q : Port _). q.held) same))

-- the receive queue is tried
pub receive_next-requires-clause-nothing : goal.receive_next-requires-clause-nothing
receive_next-requires-clause-nothing g c = let f = c.args.f.now in let p = c.args.port.now in
    let once : Once _ = λ y z. Coded-set (coded_option (row (the_type g.row.I)).coded) y z in
    let kept = c.in-Err.ensures.kept in let missed = c.in-Err-take_first.ensures.missed.1 in
    let none = none_waits once p c.pass_held.new.port kept.1 c.requires.rest kept.2
    (λ i low. missed.not i (subst (λ n. i < n) c.requires.owns.2 low)) in
    let k = c.take_first.ensures.keeps in (
      k.unpassed ∙ ap unpassed_by kept.1 ∙ c.requires.rest ∙ ap count_held none,
      k.held ∙ ap (λ (q : Port _). q.held) kept.1 ∙ none,
    )

pub returns-in-Err-take_first-clause-polls : goal.returns-in-Err-take_first-clause-polls
returns-in-Err-take_first-clause-polls g c = let f = c.args.f.now in let p = c.args.port.now in
    let now = c.take_first.new.port in let new = c.receive_next.new.port in let same = c.in-Err.ensures.kept.1 in
    let missed = c.in-Err-take_first.ensures.missed.1 in
    if_ok c.receive_next.result (λ x polls. polls_since f p now new x.value
    (c.take_first.ensures.keeps.held ∙ ap (λ (q : Port _). q.held) same) (missed.taken ∙ ap taken_by same)
    (missed.seen ∙ ap (λ (q : Port _). with_all_missed (knows q)) same) polls) c.receive_next.ensures.polls

pub returns-in-Err-take_first-clause-keeps : goal.returns-in-Err-take_first-clause-keeps
returns-in-Err-take_first-clause-keeps g c = let f = c.args.f.now in let p = c.args.port.now in
    let q = c.pass_held.new.port in let now = c.take_first.new.port in let new = c.receive_next.new.port in
    let missed = c.in-Err-take_first.ensures.missed.1 in
    subst (λ (r : Port _). KeepsPort f (EmptiesNone r) r new) c.in-Err.ensures.kept.1
    (keeps_on f (EmptiesNone q) (EmptiesNone now) q now new (ap (λ (e : Entry _). e.hands) missed.seen)
    (λ none i. ap (λ e. emptying_of e i) missed.seen ∙ none i)
    (keeps_cells f q now c.take_first.ensures.keeps c.take_first.ensures.hands) c.receive_next.ensures.keeps)

pub returns-in-Err-take_first-clause-none : goal.returns-in-Err-take_first-clause-none
returns-in-Err-take_first-clause-none g c = let p = c.args.port.now in let new = c.receive_next.new.port in
    let once : Once _ = λ y z. Coded-set (coded_option (row (the_type g.row.I)).coded) y z in
    let kept = c.in-Err.ensures.kept in let back = c.in-Err-take_first.ensures.missed.0 in
    let missed = c.in-Err-take_first.ensures.missed.1 in
    let none = none_waits once p c.pass_held.new.port kept.1 c.requires.rest kept.2
    (λ i low. missed.not i (subst (λ n. i < n) c.requires.owns.2 low)) in
    let seen = missed.seen ∙ ap (λ (q : Port _). with_all_missed (knows q)) kept.1 in
    if_err c.receive_next.result (λ _ h. (
      h.0 ∙ back ∙ kept.0,
      record {
        nothing = none;
        held = h.2;
        miss = subst (λ e. HadMiss receive_queue e (knows new)) seen h.1.miss;
        taken = h.3 ∙ missed.taken ∙ ap taken_by kept.1;
      },
    )) c.receive_next.ensures.none

pub returns-in-Err-take_first-clause-bound : goal.returns-in-Err-take_first-clause-bound
returns-in-Err-take_first-clause-bound g c = let first = c.in-Err-take_first.ensures.missed.2 in
    let then = c.receive_next.ensures.bound in omega (arith, first, then)
