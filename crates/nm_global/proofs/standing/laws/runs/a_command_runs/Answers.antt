-- Each command adds the moments of its calls, of which the last one records its answer.
use Rattle.std.proofs.Common.{◌≡◌, ℕ, ◌+◌, ◌≤◌, Bool, true, Option, Some, None, List, []}
use Rattle.std.proofs.Common.{append-nil, ◌∷◌, length, refl, sym, subst, ap, ◌∙◌, ⊎_elim, arith}
use Rattle.std.specs.Prelude.{◌⊎◌, nat_le, nat_lt, ◌&&◌}
use Rattle.std.specs.Option.{option_map_or}
use Rattle.std.proofs.lemmas.Bool.Decides.{nat_tests}
use Rattle.nm_types.specs.declared.answers.Answer.{Answer}
use Rattle.nm_types.specs.declared.answers.Answer.TheVariants as answer
use Rattle.nm_types.specs.declared.limits.TheConstants.{MAX_BODY, MAX_CONTEXT, MAX_NAME, MAX_TAG}
use Rattle.nm_types.specs.declared.messages.Arrival.{Arrival}
use Rattle.nm_types.specs.declared.messages.Peer.{Peer}
use Rattle.nm_types.specs.declared.messages.TagPick.{TagPick}
use Rattle.nm_types.specs.declared.scripts.Body.{Body}
use Rattle.nm_types.specs.declared.scripts.Command.{Command}
use Rattle.nm_types.specs.declared.scripts.Command.TheVariants as command
use Rattle.nm_types.specs.Bodies.{body_len, bytes_of}
use Rattle.nm_types.specs.Commands.{Numbered, command_at}
use Rattle.nm_types.specs.Limits.{is_in_range}
use Rattle.nm_history.specs.declared.events.Event.{Event}
use Rattle.nm_history.specs.declared.events.Happened.{Happened}
use Rattle.nm_history.specs.declared.events.Happened.TheVariants as event
use Rattle.nm_history.specs.Answers.{live, seen}
use Rattle.nm_history.specs.Sends.{Sent, receives as of_receives, sent_body, sent_bytes}
use Rattle.nm_history.specs.Sends.{sends as of_sends}
use Rattle.nm_history.specs.Clock.{stamped}
use Rattle.nm_request.specs.declared.Kind.{Kind}
use Rattle.nm_request.specs.declared.Kind.TheVariants as kind
use Rattle.nm_request.specs.declared.Req.{Req}
use Rattle.nm_rank.specs.declared.answers.Cancelled.{Cancelled}
use Rattle.nm_rank.specs.declared.answers.Cancelled.TheVariants as cancelled
use Rattle.nm_rank.specs.Ranks.{RankView, request_of}
use Rattle.nm_rank.specs.Requests.{cancel_events}
use Rattle.nm_sending.specs.Calls.{event_of}
use Rattle.nm_rank.specs.Sends.{next_send}
use Rattle.nm_rank.specs.Steps.{StartsMatched, StartsReceive, StartsSend, Step, match_events, post_events}
use Rattle.nm_rank.specs.Steps.Step.{isend, irecv, imrecv, improbe, cancel, finish, ran as ran_step}
use Rattle.nm_global.specs.Calls.{AnswersLogged, ShowsLogged, given_after}
use Rattle.nm_global.specs.Moments.{acted}
use Rattle.nm_process.specs.declared.steps.Step.TheVariants.{Ran as Took}
use Rattle.nm_process.specs.Processes.{ProcessView}
use Rattle.nm_process.specs.Starts.{HasAnswered, HasCancelled, HasClaimed, HasEnded}
use Rattle.nm_process.specs.Starts.{HasFoundNone, HasMatched, HasNoResult, HasStarted, HasTried}
use Rattle.nm_process.specs.Starts.{HasTriedMprobe, HasTriedMrecv, HasTriedReceive, HasTriedSend}
use Rattle.nm_process.specs.Starts.{HasTriedTest, IsBusy, IsHandleBusy, KeepsHandles}
use Rattle.nm_process.specs.Starts.{IsHandleNull, IsNull, answer_for, message_probed}
use Rattle.nm_global.specs.ProcessInvariant.{GoesOn, IsOf, GhostHistory, with_moment}
use Rattle.nm_global.specs.Steps.{MayBeMade, after, setting_of}
use Rattle.nm_global.proofs.Still.{history_longer, own_same, then_on}
use Rattle.nm_global.proofs.standing.laws.runs.a_command_runs.Goals as goal

-- an answer that shows no message
shows_cancel : (commands : List Numbered) (past : GhostHistory) (h : List Event) (line : ℕ) (x : Cancelled) →
    AnswersLogged commands past.log h line (answer_for x)
shows_cancel commands past h line cancelled.Done = tt
shows_cancel commands past h line cancelled.Late = tt
shows_cancel commands past h line cancelled.Asked = tt

shows_probe : (commands : List Numbered) (past : GhostHistory) (h : List Event) (line : ℕ) (o : Option Arrival) →
    AnswersLogged commands past.log h line (option_map_or seen o answer.Nothing)
shows_probe commands past h line None = tt
shows_probe commands past h line (Some a) = tt

tag_below : (a b c d e : Bool) (tag : ℕ) → c ≡ nat_le tag MAX_TAG → (a && b && c && d && e) ≡ true →
    tag ≤ MAX_TAG
tag_below a b c d e tag is all = grind (arith, nat_tests)

body_below : (a b c d e : Bool) (len : ℕ) → e ≡ nat_le len MAX_BODY → (a && b && c && d && e) ≡ true →
    len ≤ MAX_BODY
body_below a b c d e len is all = grind (arith, nat_tests)

pub returns : goal.returns
returns c shape commands bound line i x a b past in_range right standing next ran =
    subst (λ (k : ℕ). GoesOn shape commands k b.rank past) standing.rank.me
    (by_command x refl ran.tried) where
      me : ℕ
      me = a.rank.me

      is : IsOf shape commands me a.rank past
      is = subst (λ (k : ℕ). IsOf shape commands k a.rank past) (sym standing.rank.me) standing.rank

      bodies : Sent → List ℕ
      bodies = sent_body commands

      b' : ProcessView
      b' = record b { at = a.at }

      found : command_at commands line ≡ Some x
      found = next.found

      -- a step keeps the place of the rank
      steps : (v w : RankView) (now : GhostHistory) (step : Step v w) → w.me ≡ v.me →
          MayBeMade (setting_of shape commands) now v w step → IsOf shape commands me v now →
          IsOf shape commands me w (after v w step now)
      steps v w now step own may at =
          let placed = c.a_step_keeps_its_place.ensures (setting_of shape commands) v w now step may
          (record { logged = at.logged; left = at.left }) in
          record { me = own ∙ at.me; logged = placed.logged; left = placed.left }

      answers : (v : ProcessView) (now : GhostHistory) (x : Answer) → IsOf shape commands me v.rank now →
          AnswersLogged commands now.log v.rank.events line x → HasAnswered v b' line x →
          GoesOn shape commands me b.rank now
      answers v now x at shows answered =
          record {
            after = with_moment now (acted v.rank (event.Ran line x ∷ []));
            is = steps v.rank b.rank now (ran_step line x answered.records) answered.records.takes.me shows at;
            same = own_same now (stamped v.rank.clock (event.Ran line x ∷ []));
            grew = let sum = history_longer now.log (acted v.rank (event.Ran line x ∷ [])) in omega (arith, sum);
          }

      ends : (q : ℕ) →
          ((k : Kind) (x : Answer) → live commands a.rank.events q ≡ Some (request_of k) →
          ShowsLogged past.log a.rank.events k x → AnswersLogged commands past.log a.rank.events line x) →
          HasEnded a b' q line → GoesOn shape commands me b.rank past
      ends q may p =
          let e = p.ends in
          let mid = p.mid.rank in
          let same = e.finished.same in
          let events : mid.events ≡ a.rank.events = ap (λ (v : RankView). v.events) same in
          let now : GhostHistory = record past { given = given_after e.kind past.given } in
          let at : IsOf shape commands me mid now =
          steps a.rank mid past (finish e.request e.kind p.answer e.is e.finished)
          (ap (λ (v : RankView). v.me) same) tt is in
          let shows : ShowsLogged past.log a.rank.events e.kind p.answer =
          c.a_result_is_given.ensures shape.eager bodies commands a.rank mid past.log past.given
          e.request e.kind p.answer is.logged right e.is e.finished in
          let recorded : AnswersLogged commands past.log a.rank.events line p.answer =
          may e.kind p.answer (sym (standing.work.requests q) ∙ e.live) shows in
          then_on shape commands me b.rank past now
          (record { taken = λ from. refl; pulled = λ from. refl; left = λ to. refl; front = ([], sym (append-nil _)) })
          (answers p.mid now p.answer at
          (subst (λ (h : List Event). AnswersLogged commands past.log h line p.answer) (sym events)
          recorded) p.answered)

      is_null : (q : ℕ) → IsNull a b' q line → GoesOn shape commands me b.rank past
      is_null q p = answers a past answer.Null is tt p.answered

      is_busy : (q : ℕ) → IsBusy a b' q line → GoesOn shape commands me b.rank past
      is_busy q p = answers a past answer.Busy is tt p.answered

      -- a start, and its answer
      begins : (Call : Req → RankView → RankView → Type 0) (ws : List Happened) (k : Kind) (q : ℕ) →
          ((mid : RankView) (r : Req) → Call r a.rank mid →
          IsOf shape commands me mid (with_moment past (acted a.rank ws))) →
          HasStarted Call k a b' q line → GoesOn shape commands me b.rank past
      begins Call ws k q starts s =
          then_on shape commands me b.rank past (with_moment past (acted a.rank ws))
          (own_same past (stamped a.rank.clock ws))
          (answers s.mid (with_moment past (acted a.rank ws)) answer.Started
          (starts s.mid.rank s.begun.request s.begun.starts) tt s.answered)

      sends : (q to tag ctx : ℕ) (body : Body) (sync : Bool) →
          x ≡ command.Send to q tag ctx sync body →
          HasTriedSend a b' q to tag ctx body sync line → GoesOn shape commands me b.rank past
      sends q to tag ctx body sync same tried = ⊎_elim (is_busy q) started tried where
        all : is_in_range a.rank.sizes.ranks (command.Send to q tag ctx sync body) ≡ true
        all = ap (is_in_range a.rank.sizes.ranks) (sym same) ∙ in_range

        own : bodies (next_send a.rank to tag ctx body sync line) ≡ bytes_of body
        own = ap (λ (o : Option Command). option_map_or sent_bytes o []) (found ∙ ap Some same)

        started : HasStarted (StartsSend (next_send a.rank to tag ctx body sync line) body)
            (kind.Send to (length (of_sends a.rank.events to))) a b' q line × KeepsHandles a b' →
            GoesOn shape commands me b.rank past
        started p = begins (StartsSend (next_send a.rank to tag ctx body sync line) body)
            (event_of (next_send a.rank to tag ctx body sync line) ∷ [])
            (kind.Send to (length (of_sends a.rank.events to))) q
            (λ mid r did. steps a.rank mid past (isend to tag ctx line body sync r did)
            (did.started bodies own).takes.me (
              right,
              tag_below (nat_le q MAX_NAME) (nat_lt to a.rank.sizes.ranks) (nat_le tag MAX_TAG)
                  (nat_le ctx MAX_CONTEXT) (nat_le (body_len body) MAX_BODY) tag refl all,
              body_below (nat_le q MAX_NAME) (nat_lt to a.rank.sizes.ranks) (nat_le tag MAX_TAG)
                  (nat_le ctx MAX_CONTEXT) (nat_le (body_len body) MAX_BODY) (body_len body) refl all,
              own,
            ) is)
            p.0

      receives : (q : ℕ) (from : Peer) (tag : TagPick) (ctx room : ℕ) →
          HasTriedReceive a b' q from tag ctx room line → GoesOn shape commands me b.rank past
      receives q from tag ctx room tried = ⊎_elim (is_busy q) started tried where
        started : HasStarted (StartsReceive from tag ctx room line)
            (kind.Receive (length (of_receives a.rank.events))) a b' q line × KeepsHandles a b' →
            GoesOn shape commands me b.rank past
        started p = begins (StartsReceive from tag ctx room line) (post_events a.rank.events from tag ctx room line)
            (kind.Receive (length (of_receives a.rank.events))) q
            (λ mid r did. steps a.rank mid past (irecv from tag ctx room line r did)
            (did.started bodies).takes.me tt is)
            p.0

      tests : (q : ℕ) → x ≡ command.Test q → HasTriedTest a b' q line →
          GoesOn shape commands me b.rank past
      tests q same tried = ⊎_elim (is_null q) (λ rest. ⊎_elim (ends q (λ k x is shows.
          c.a_result_may_be_recorded.ensures.test commands past.log a.rank.events line q k x
          (found ∙ ap Some same) is shows)) none rest) tried where
            none : HasNoResult a b' q line → GoesOn shape commands me b.rank past
            none p = answers a past answer.No is tt p.answered

      cancels : (q : ℕ) → (IsNull a b' q line ⊎ HasCancelled a b' q line) →
          GoesOn shape commands me b.rank past
      cancels q tried = ⊎_elim (is_null q) some tried where
        some : HasCancelled a b' q line → GoesOn shape commands me b.rank past
        some p =
            let mid = p.mid in
            let did = p.cancels in
            let ws = cancel_events a.rank.events did.kind in
            let now : GhostHistory = with_moment past (acted a.rank ws) in
            let at : IsOf shape commands me mid.rank now =
            steps a.rank mid.rank past (cancel p.request p.answer did) did.takes.me tt is in
            then_on shape commands me b.rank past now (own_same past (stamped a.rank.clock ws))
            (answers mid now (answer_for p.answer) at (shows_cancel commands now mid.rank.events line p.answer)
            p.answered)

      claims : (m : ℕ) (from : Peer) (tag : TagPick) (ctx : ℕ) →
          HasTriedMprobe a b' m from tag ctx line → GoesOn shape commands me b.rank past
      claims m from tag ctx tried = ⊎_elim busy (λ rest. ⊎_elim nothing some rest) tried where
        busy : IsHandleBusy a b' m line → GoesOn shape commands me b.rank past
        busy p = answers a past answer.Busy is tt p.answered

        nothing : HasFoundNone a b' m from tag ctx line → GoesOn shape commands me b.rank past
        nothing p = answers a past answer.Nothing is tt p.answered

        some : HasClaimed a b' m from tag ctx line → GoesOn shape commands me b.rank past
        some p =
            let mid = p.mid in
            let x = p.message in
            let did = p.claims in
            let ws : List Happened = event.Claim x.env.from x.n line ∷ [] in
            let now : GhostHistory = with_moment past (acted a.rank ws) in
            let at : IsOf shape commands me mid.rank now =
            steps a.rank mid.rank past (improbe x line did) did.takes.me tt is in
            then_on shape commands me b.rank past now (own_same past (stamped a.rank.clock ws))
            (answers mid now (seen x) at tt p.answered)

      matches : (q m room : ℕ) → HasTriedMrecv a b' q m room line → GoesOn shape commands me b.rank past
      matches q m room tried = ⊎_elim (is_busy q) (λ rest. ⊎_elim nothing some rest) tried where
        nothing : IsHandleNull a b' q m line → GoesOn shape commands me b.rank past
        nothing p = answers a past answer.Null is tt p.answered

        some : HasMatched a b' q m room line → GoesOn shape commands me b.rank past
        some p =
            let x = p.message in
            begins (StartsMatched x.from x.n room line) (match_events a.rank.events x.from x.n room line)
            (kind.Receive (length (of_receives a.rank.events))) q
            (λ mid r did. steps a.rank mid past (imrecv x.from x.n room line r did)
            (did.started bodies).takes.me tt is)
            p.started

      by_command : (y : Command) → x ≡ y → HasTried a b' y line Took →
          GoesOn shape commands me b.rank past
      by_command (command.Send to q tag ctx sync body) same t = sends q to tag ctx body sync same t.1
      by_command (command.Recv q from tag ctx room) same t = receives q from tag ctx room t.1
      by_command (command.Wait q) same t = ⊎_elim (is_null q) (ends q (λ k x is shows.
          c.a_result_may_be_recorded.ensures.wait commands past.log a.rank.events line q k x
          (found ∙ ap Some same) is shows)) t
      by_command (command.Test q) same t = tests q same t.1
      by_command (command.Probe from tag ctx) same t =
          answers a past (option_map_or seen (message_probed a from tag ctx) answer.Nothing) is
          (shows_probe commands past a.rank.events line (message_probed a from tag ctx)) t.1
      by_command (command.Await from tag ctx) same t = answers a past (seen t.message) is tt t.answered
      by_command (command.Cancel q) same t = cancels q t.1
      by_command (command.Mprobe m from tag ctx) same t = claims m from tag ctx t.1
      by_command (command.Mrecv q m room) same t = matches q m room t.1
