use Rattle.std.proofs.Common.{◌≡◌, Some, refl, sym, ◌∙◌, ap, subst, rules}
use Rattle.nm_request.specs.declared.Kind.TheVariants as kind
use Rattle.nm_request.specs.Requests.{kind_of, FreesRequest}
use Rattle.std.specs.Prelude.{map}
use Rattle.nm_rank.specs.Ranks.{RankView, seen}
use Rattle.nm_receiving.specs.Receipts.{ReceivingView}
use Rattle.nm_rank.specs.Requests.{Finishes}
use Rattle.nm_rank.proofs.FinishLemmas.{fields-finish_send, fields-finish_receive, found, freed, not-ended}
use Rattle.nm_rank.proofs.FinishLemmas.{was-started, frees-ok}
use Rattle.nm_rank.proofs.ranks.Rank.finish.Goals as goal

pub invariant_of-self : goal.invariant_of-self
invariant_of-self g c = let a = c.self.inside in
    let live = found (kind_of a.requests c.args.r) c.in-Ok.kind _ (sym c.in-Ok.is ∙ c.get.ensures.kind) in
    fields-finish_send a.me a.shape a.journal a.sending a.receiving _ a.requests c.free.new.self a.took.items
    a.pulled.items c.args.r c.self.invariant
    (frees-ok (kind_of a.requests c.args.r) c.in-Ok.kind _ c.free.result
    (FreesRequest a.requests c.free.new.self c.args.r) live c.free.ensures.kind c.free.ensures.ok)

pub finish-requires-clause-known : goal.finish-requires-clause-known
finish-requires-clause-known g c = let a = c.self.inside in
    let live : kind_of a.requests c.args.r ≡ Some (kind.Receive c.in-Receive.number) =
    found (kind_of a.requests c.args.r) c.in-Ok.kind _ (sym c.in-Ok.is ∙ c.get.ensures.kind)
    ∙ ap Some c.in-Receive.is in
    was-started a.receiving.receives c.in-Receive.number
    (c.self.invariant.requests.receives c.args.r c.in-Receive.number live)

pub finish-requires-clause-live : goal.finish-requires-clause-live
finish-requires-clause-live g c = let a = c.self.inside in
    let live : kind_of a.requests c.args.r ≡ Some (kind.Receive c.in-Receive.number) =
    found (kind_of a.requests c.args.r) c.in-Ok.kind _ (sym c.in-Ok.is ∙ c.get.ensures.kind)
    ∙ ap Some c.in-Receive.is in
    not-ended a.receiving.receives c.in-Receive.number
    (c.self.invariant.requests.receives c.args.r c.in-Receive.number live)

pub invariant_of-self-in-Receive : goal.invariant_of-self-in-Receive
invariant_of-self-in-Receive g c = let a = c.self.inside in
    let live = found (kind_of a.requests c.args.r) c.in-Ok.kind _ (sym c.in-Ok.is ∙ c.get.ensures.kind) in
    fields-finish_receive a.me a.shape a.journal a.sending a.receiving c.finish.new.self _ a.requests
    c.free-in-Receive.new.self a.took.items a.pulled.items c.args.r c.in-Receive.number c.self.invariant
    (live ∙ ap Some c.in-Receive.is)
    (frees-ok (kind_of a.requests c.args.r) c.in-Ok.kind _ c.free-in-Receive.result
    (FreesRequest a.requests c.free-in-Receive.new.self c.args.r) live c.free-in-Receive.ensures.kind
    c.free-in-Receive.ensures.ok)
    c.finish.ensures.kept (c.finish.ensures.ended (rw c.in-Some-finish.is refl)) c.finish.ensures.same
    c.finish.ensures.streams

pub returns-in-Some-clause-finishes : goal.returns-in-Some-clause-finishes
returns-in-Some-clause-finishes g c = let a = c.self.inside in
    let live = found (kind_of a.requests c.args.r) c.in-Ok.kind _ (sym c.in-Ok.is ∙ c.get.ensures.kind) in
    subst (λ (v : RankView). Finishes c.args.r c.in-Some.answer v
    (seen a.me a.shape a.journal a.sending a.receiving (map (λ s. s.known) a.streams.items) c.free.new.self
    a.took.items a.pulled.items a.strays)) c.self.view_is
    (record {
      gives = search rules;
      freed = freed a.requests c.free.new.self c.args.r
          (frees-ok (kind_of a.requests c.args.r) c.in-Ok.kind _ c.free.result
          (FreesRequest a.requests c.free.new.self c.args.r) live c.free.ensures.kind c.free.ensures.ok);
      bytes = λ m other. refl;
      drawn = refl;
      same = refl;
    })

pub returns-in-Some-finish-clause-finishes : goal.returns-in-Some-finish-clause-finishes
returns-in-Some-finish-clause-finishes g c = let a = c.self.inside in
    let live = found (kind_of a.requests c.args.r) c.in-Ok.kind _ (sym c.in-Ok.is ∙ c.get.ensures.kind) in
    subst (λ (v : RankView). Finishes c.args.r c.in-Some-finish.answer v
    (seen a.me a.shape a.journal a.sending c.finish.new.self (map (λ s. s.known) a.streams.items)
    c.free-in-Receive.new.self a.took.items a.pulled.items a.strays)) c.self.view_is
    (record {
      gives = search rules;
      freed = freed a.requests c.free-in-Receive.new.self c.args.r
          (frees-ok (kind_of a.requests c.args.r) c.in-Ok.kind _ c.free-in-Receive.result
          (FreesRequest a.requests c.free-in-Receive.new.self c.args.r) live
          c.free-in-Receive.ensures.kind c.free-in-Receive.ensures.ok);
      bytes = search rules;
      drawn = ap (λ (r : ReceivingView). r.drawn) c.finish.ensures.same;
      same = refl;
    })
