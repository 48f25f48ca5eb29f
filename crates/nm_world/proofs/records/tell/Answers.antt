-- One player.
use Rattle.std.proofs.Common.{◌∷◌, ◌++◌, [], List, length, length-append, ap, ◌∙◌, sym, subst}
use Rattle.std.specs.List.{AllZip}
use Rattle.std.proofs.lemmas.List.{map-append}
use Rattle.nm_history.specs.Quiescence.{Ended}
use Rattle.indexmap.proofs.SetLemmas.{AllZip-push}
use Rattle.nm_world.specs.declared.records.RankEnd.{RankEnd}
use Rattle.nm_world.specs.Records.{HasStopped, end_by, ends_by}
use Rattle.nm_world.proofs.Accounts.{done_next}
use Rattle.nm_world.proofs.records.tell.Goals as goal

pub returns-clause-ends : goal.returns-clause-ends
returns-clause-ends g c commands work =
    ap (λ (rs : List (RankEnd _)). ends_by g.H.Recorder.events rs) c.in_ok-add-5.ensures
    ∙ map-append _ c.args.parts.now.ranks.items (c.account-account.result.0 ∷ [])
    ∙ ap (λ (es : List Ended). ends_by g.H.Recorder.events c.args.parts.now.ranks.items ++ es)
    (c.account-account.ensures.ended commands work.last work.given work.at)

pub returns-clause-stopped : goal.returns-clause-stopped
returns-clause-stopped g c before =
    let shows = g.S.Source.shows in
    let gives = g.S.Source.gives in
    let x = c.args.player in
    let a = c.account-account.result.0 in
    let old = c.args.parts.now in
    let now = c.account-account.ensures.stopped c.requires.heard.at c.requires.heard.told in
    subst (λ ss. AllZip (HasStopped shows gives) ss (ends_by g.H.Recorder.events c.add-5.new.list.items))
    (sym c.in_ok-add-4.ensures)
    (subst (λ es. AllZip (HasStopped shows gives) (old.sources.items ++ x.source ∷ []) es)
    (sym (ap (λ (rs : List (RankEnd _)). ends_by g.H.Recorder.events rs) c.in_ok-add-5.ensures ∙ map-append _
    old.ranks.items (a ∷ [])))
    (AllZip-push (HasStopped shows gives) old.sources.items (ends_by g.H.Recorder.events old.ranks.items) x.source
    (end_by g.H.Recorder.events a) before now))

pub returns-clause-done : goal.returns-clause-done
returns-clause-done g c before =
    done_next g.H.Recorder.events c.args.parts.now.ranks.items c.add-5.new.list.items c.account-account.result.0
    c.args.parts.now.done
    c.is_none.result before c.in_ok-add-5.ensures c.is_none.ensures

pub returns-clause-ports : goal.returns-clause-ports
returns-clause-ports g c = c.in_ok-add-2.ensures

pub returns-clause-rings : goal.returns-clause-rings
returns-clause-rings g c = c.in_ok-add-3.ensures

pub returns-clause-sources : goal.returns-clause-sources
returns-clause-sources g c = c.in_ok-add-4.ensures

pub returns-clause-many : goal.returns-clause-many
returns-clause-many g c =
    ap length c.in_ok-add-5.ensures ∙ length-append c.args.parts.now.ranks.items (c.account-account.result.0 ∷ [])

pub returns-clause-packets : goal.returns-clause-packets
returns-clause-packets g c = c.in_ok-push_counts.ensures
