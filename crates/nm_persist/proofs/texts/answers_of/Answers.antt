-- One event more, which is an answer or not.
use Rattle.std.proofs.Common.{Bor, ◌++◌, ◌∷◌, [], ap, sym, ◌∙◌, map, option_copied}
use Rattle.std.specs.Prelude.{option_to_list}
use Rattle.std.proofs.lemmas.List.{append-nil, map-append}
use Rattle.nm_types.specs.declared.answers.Answer.{Answer}
use Rattle.nm_persist.proofs.ResultLemmas.{told_more}
use Rattle.nm_persist.proofs.texts.answers_of.Goals as goal
use Rattle.nm_persist.proofs.texts.answers_of.Goals.{in-Some+in_ok-push, in_default}

pub loop-event-preserved : goal.loop-event-preserved
loop-event-preserved c =
    let same = c.as_slice-event-items.ensures in
    let now : Bor Answer → Answer = λ a. a.now in
    let old = c.loop-event.answers.items in
    told_more c.args.history.now.events c.loop-event.event-index c.event-item.result (map now old) _
    (rw same at c.loop-event-test.true) (rw same at c.event-item.is)
    (elim c.match-answer_in.branch [
      | in-Some+in_ok-push w ↦
          ap (λ v. map now v.items) w.answers-is ∙ ap (map now) w.in_ok-push.ensures.items
          ∙ map-append now old (w.in-Some.answer ∷ [])
          ∙ ap (λ o. map now old ++ option_to_list o) (sym (ap option_copied w.in-Some.is) ∙ c.answer_in.ensures)
      | in_default w ↦
          ap (λ v. map now v.items) w.answers-is ∙ sym (append-nil (map now old))
          ∙ ap (λ o. map now old ++ option_to_list o) (sym (ap option_copied w.in_default.is) ∙ c.answer_in.ensures)
    ])
    c.loop-event.invariant
