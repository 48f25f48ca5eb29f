-- All kinds of edits, one after another.
use Rattle.nm_why.proofs.CandidateLemmas.{edits_all}
use Rattle.nm_why.proofs.ListLemmas.{has_push, keeps_push}
use Rattle.nm_why.proofs.candidates.all_edits.Goals as goal

pub returns : goal.returns
returns c =
    edits_all c.args.ranks c.args.lines.now _ _ _ _ _ (has_push _ _ _ c.in_ok-push.ensures.items)
    c.in_ok-push_sources.ensures.kept c.in_ok-push_sources.ensures.sources c.in_ok-push_new.ensures.kept
    c.in_ok-push_new.ensures.there c.in_ok-push_all_named.ensures.kept c.in_ok-push_all_named.ensures.tags
    c.in_ok-push_all_named.ensures.contexts (keeps_push _ _ _ c.in_ok-push-2.ensures.items)
    (has_push _ _ _ c.in_ok-push-2.ensures.items)
