-- One answer more.
use Rattle.std.proofs.Common.{[], ◌∷◌, ◌++◌, List, ◌∙◌, ap}
use Rattle.std.specs.List.{cons_option, filter_map}
use Rattle.std.proofs.lemmas.List.Elements.{filter_map-append}
use Rattle.nm_history.specs.declared.events.Event.{Event}
use Rattle.nm_history.specs.declared.events.Happened.{Happened}
use Rattle.nm_report.specs.Told.{told_by}
use Rattle.nm_explored.proofs.ends.push_answer.Goals as goal

pub returns-in_ok-push : goal.returns-in_ok-push
returns-in_ok-push c =
    ap (λ (es : List Event). filter_map (λ e. told_by e.what) es) c.in_ok-push.ensures.items
    ∙ filter_map-append (λ (e : Event). told_by e.what) c.args.events.now.items
    (record { stamp = 0; what = c.in_ok-what.what } ∷ [])
    ∙ ap (λ (w : Happened). filter_map (λ (e : Event). told_by e.what) c.args.events.now.items
    ++ cons_option (told_by w) []) c.in_ok-what.ensures
