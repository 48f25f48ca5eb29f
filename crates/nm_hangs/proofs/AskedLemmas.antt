-- What a receive may still be asked for after a move, it could be asked for before.
use Rattle.std.proofs.Common.{◌≡◌, ◌⊎◌, inl, inr, ℕ, ◌+◌, ◌≤◌, ◌==◌, ◌&&◌, Bool, true, false, cond, Option, Some, None}
use Rattle.std.proofs.Common.{List, [], ◌∷◌, ◌++◌, refl, sym, ◌∙◌, ap, subst, arith}
use Rattle.std.specs.Prelude.{if◌then◌else◌, count_by, option_and_then}
use Rattle.std.specs.List.{find, list_any}
use Rattle.std.specs.Option.{option_map_or}
use Rattle.std.proofs.lemmas.List.Sums.{fold-append}
use Rattle.nm_types.specs.declared.messages.Arrival.{Arrival}
use Rattle.nm_types.specs.declared.scripts.Command.{Command}
use Rattle.nm_types.specs.declared.scripts.Command.TheVariants as command
use Rattle.nm_types.specs.declared.scripts.Line.{Line}
use Rattle.nm_types.specs.Commands.{command_at, commands_of}
use Rattle.nm_history.specs.Answers.{Message as Claimed, is_question_of, is_result, is_start_of, is_started, line_after}
use Rattle.nm_history.specs.Answers.{request_of}
use Rattle.nm_history.specs.Completion.{Request}
use Rattle.nm_history.specs.Completion.Request.{Receiving, Sending}
use Rattle.nm_history.specs.Matching.{is_of_message}
use Rattle.nm_types.proofs.OptionLemmas.{mapped_some, no_some, same_some}
use Rattle.nm_outcomes.specs.Places.{or_else}
use Rattle.nm_outcomes.proofs.PlaceLemmas.{find-append}
use Rattle.nm_outcomes.specs.declared.spots.deeds.Deed.{Deed}
use Rattle.nm_outcomes.specs.declared.spots.deeds.Deed.TheVariants as deed
use Rattle.nm_outcomes.specs.declared.spots.deeds.Reply.{Reply}
use Rattle.nm_outcomes.specs.Deeds.{answer_meant, happening}
use Rattle.nm_outcomes.specs.Looks.{found_at, is_answer_by, is_recall_by, is_receive_by, is_start_by, live_in, message_in}
use Rattle.nm_outcomes.specs.Looks.{name_in, request_in}
use Rattle.nm_outcomes.specs.RankStates.{Spot}
use Rattle.nm_search.proofs.ListLemmas.{then_some}
use Rattle.nm_explored.specs.Successors.{cancel_at, match_at, start_in}
use Rattle.nm_explored.specs.Lines.{line_in}
use Rattle.nm_explored.specs.Moves.{IsAct}
use Rattle.nm_explored.proofs.OrderlyLemmas.{count_push}
use Rattle.nm_explored.proofs.StartedLemmas.{of_deed}
use Rattle.nm_hangs.specs.Alike.{IsAsked}

-- a receive that a deed starts has the next number, and an answer is that of this line
abbrev pub IsNext : Spot → ℕ → Deed → Type 0
IsNext x line (deed.Post r own) = count_by is_receive_by x.deeds ≡ r.number
IsNext x line (deed.Match number from n cap own) = count_by is_receive_by x.deeds ≡ number
IsNext x line (deed.Ran own r) = own ≡ line
IsNext x line _ = Unit {0}

-- so it is with what a command does
module _ (eager : ℕ) (lines : List Line) (i : ℕ) (x : Spot) (line : ℕ) (d : Deed) where
  next_as : (e : Deed) → Some e ≡ Some d → IsNext x line e → IsNext x line d
  next_as e same next = subst (λ (z : Deed). IsNext x line z) (same_some e d same) next

  next_start : (c : Command) → start_in eager lines i x line c ≡ Some d → IsNext x line d
  next_start (command.Send to q tag ctx sync body) starts = next_as _ starts tt
  next_start (command.Recv q from tag ctx cap) starts = next_as _ starts refl
  next_start (command.Mrecv q m cap) starts =
      let held = then_some (match_at x cap line) (message_in lines i x.deeds m) d starts in
      by_taken held.0 (list_any (is_of_message held.0.from held.0.n) x.pairs) held.2
    where
      by_taken : (m : Claimed) (b : Bool) →
          (if b then None else Some (deed.Match (count_by is_receive_by x.deeds) m.from m.n cap line))
          ≡ Some d → IsNext x line d
      by_taken m true starts = absurd (no_some d starts)
      by_taken m false starts = next_as _ starts refl
  next_start (command.Cancel q) starts =
      let r = then_some (cancel_at x) (live_in lines i x.deeds q) d starts in by_request r.0 r.2
    where
      by_recall : (to n : ℕ) (b : Bool) → (if b then None else Some (deed.Recall to n)) ≡ Some d → IsNext x line d
      by_recall to n true is = absurd (no_some d is)
      by_recall to n false is = next_as _ is tt

      by_request : (r : Request) → cancel_at x r ≡ Some d → IsNext x line d
      by_request (Receiving number) is = next_as _ is tt
      by_request (Sending to n) is = by_recall to n (list_any (is_recall_by to n) x.deeds) is
  next_start (command.Mprobe m from tag ctx) starts =
      let a = mapped_some (λ (a : Arrival). deed.Claim a.env.from a.n line) (found_at x from tag ctx) d starts in
      next_as _ (ap (λ (e : Deed). Some e) a.2) tt
  next_start (command.Wait q) starts = absurd (no_some d starts)
  next_start (command.Test q) starts = absurd (no_some d starts)
  next_start (command.Probe from tag ctx) starts = absurd (no_some d starts)
  next_start (command.Await from tag ctx) starts = absurd (no_some d starts)

pub next_deed : (eager : ℕ) (lines : List Line) (v : ℕ → Option Spot) (i : ℕ) (x : Spot) (d : Deed) →
    (act : IsAct eager lines v i x d) → IsNext x act.line d
next_deed eager lines v i x d act =
    of_deed (λ (e : Deed). IsNext x act.line e) eager lines v i x act.line act.command d
    (λ e starts. next_start eager lines i x act.line e act.command starts) (λ r. refl) act.deed_of

module _ (lines : List Line) (i : ℕ) (x : Spot) (line : ℕ) (d : Deed) (next : IsNext x line d)
    (place : line_in lines i (count_by is_answer_by x.deeds) ≡ Some line)
  where
    -- the request of a line was made before, or is a new one
    made_by : (own number : ℕ) (e : Deed) → IsNext x line e →
        option_and_then (λ (e : Deed). request_of own (happening [] e)) (cond (is_start_by own e) (Some e) None)
        ≡ Some (Receiving number) → count_by is_receive_by x.deeds ≤ number
    made_by own number (deed.Send to n tag ctx len how l) is made = by_test (l == own) made
      where
        by_inner : (b : Bool) → (if b then Some (Sending to n) else None) ≡ Some (Receiving number) → ⊥
        by_inner true same = let e : Sending to n ≡ Receiving number = same_some _ _ same in cc
        by_inner false same = no_some _ same

        by_test : (b : Bool) →
            option_and_then (λ (e : Deed). request_of own (happening [] e))
            (cond b (Some (deed.Send to n tag ctx len how l)) None) ≡ Some (Receiving number) →
            count_by is_receive_by x.deeds ≤ number
        by_test true made = absurd (by_inner (l == own) made)
        by_test false made = absurd (no_some _ made)
    made_by own number (deed.Post r l) is made = by_test (l == own) made
      where
        by_inner : (b : Bool) → (if b then Some (Receiving r.number) else None) ≡ Some (Receiving number) →
            count_by is_receive_by x.deeds ≤ number
        by_inner true same =
            let e : Receiving r.number ≡ Receiving number = same_some _ _ same in
            let e' : r.number ≡ number = cc in
            omega (arith, is, e')
        by_inner false same = absurd (no_some _ same)

        by_test : (b : Bool) →
            option_and_then (λ (e : Deed). request_of own (happening [] e)) (cond b (Some (deed.Post r l)) None)
            ≡ Some (Receiving number) → count_by is_receive_by x.deeds ≤ number
        by_test true made = by_inner (l == own) made
        by_test false made = absurd (no_some _ made)
    made_by own number (deed.Match k from n cap l) is made = by_test (l == own) made
      where
        by_inner : (b : Bool) → (if b then Some (Receiving k) else None) ≡ Some (Receiving number) →
            count_by is_receive_by x.deeds ≤ number
        by_inner true same =
            let e : Receiving k ≡ Receiving number = same_some _ _ same in
            let e' : k ≡ number = cc in
            omega (arith, is, e')
        by_inner false same = absurd (no_some _ same)

        by_test : (b : Bool) →
            option_and_then (λ (e : Deed). request_of own (happening [] e))
            (cond b (Some (deed.Match k from n cap l)) None) ≡ Some (Receiving number) →
            count_by is_receive_by x.deeds ≤ number
        by_test true made = by_inner (l == own) made
        by_test false made = absurd (no_some _ made)
    made_by own number (deed.Cancel k done) is made = absurd (no_some _ made)
    made_by own number (deed.Recall to n) is made = absurd (no_some _ made)
    made_by own number (deed.Claim from n l) is made = absurd (no_some _ made)
    made_by own number (deed.Ran l r) is made = absurd (no_some _ made)

    request_before : (own number : ℕ) → request_in (x.deeds ++ d ∷ []) own ≡ Some (Receiving number) →
        (request_in x.deeds own ≡ Some (Receiving number)) ⊎ (count_by is_receive_by x.deeds ≤ number)
    request_before own number made =
        by_found (find (is_start_by own) x.deeds) refl
        (ap (λ (o : Option Deed). option_and_then (λ (e : Deed). request_of own (happening [] e)) o)
        (sym (find-append (is_start_by own) x.deeds (d ∷ []))) ∙ made)
      where
        by_found : (o : Option Deed) → find (is_start_by own) x.deeds ≡ o →
            option_and_then (λ (e : Deed). request_of own (happening [] e))
            (or_else o (find (is_start_by own) (d ∷ [])))
            ≡ Some (Receiving number) →
            (request_in x.deeds own ≡ Some (Receiving number)) ⊎ (count_by is_receive_by x.deeds ≤ number)
        by_found None found made = inr (made_by own number d next made)
        by_found (Some e) found made =
            inl (ap (λ (o : Option Deed). option_and_then (λ (e : Deed). request_of own (happening [] e)) o) found
            ∙ made)

    -- a name that stands for a line now stood for it before, or the line is the one that was answered
    abbrev name_then : ℕ → Deed → Option ℕ → Option ℕ
    name_then q e o = line_after (commands_of i lines) q o (happening lines e)

    abbrev asks : ℕ → ℕ → Reply → Bool
    asks q l r =
        option_map_or (is_question_of q) (command_at (commands_of i lines) l) false && is_result (answer_meant lines r)

    name_before : (q own : ℕ) (e : Deed) → IsNext x line e → name_then q e (name_in lines i x.deeds q) ≡ Some own →
        (name_in lines i x.deeds q ≡ Some own) ⊎ (line ≡ own)
    name_before q own (deed.Ran l r) is stands =
        by_start (option_map_or (is_start_of q) (command_at (commands_of i lines) l) false
        && is_started (answer_meant lines r)) stands
      where
        by_end : (b : Bool) → (if b then None else name_in lines i x.deeds q) ≡ Some own →
            (name_in lines i x.deeds q ≡ Some own) ⊎ (line ≡ own)
        by_end true stands = absurd (no_some own stands)
        by_end false stands = inl stands

        by_start : (b : Bool) → (if b then Some l else if asks q l r then None else name_in lines i x.deeds q)
            ≡ Some own →
            (name_in lines i x.deeds q ≡ Some own) ⊎ (line ≡ own)
        by_start true stands = inr (sym is ∙ same_some l own stands)
        by_start false stands = by_end (asks q l r) stands
    name_before q own (deed.Send to n tag ctx len how l) is stands = inl stands
    name_before q own (deed.Post r l) is stands = inl stands
    name_before q own (deed.Match k from n cap l) is stands = inl stands
    name_before q own (deed.Cancel k done) is stands = inl stands
    name_before q own (deed.Recall to n) is stands = inl stands
    name_before q own (deed.Claim from n l) is stands = inl stands

    pub asked_before : (number : ℕ) → IsAsked lines i (x.deeds ++ d ∷ []) number → IsAsked lines i x.deeds number
    asked_before number (inl named) =
        let name = then_some (request_in (x.deeds ++ d ∷ [])) (name_in lines i (x.deeds ++ d ∷ []) named.0)
        (Receiving number) named.1 in
        by_name name.0
        (name_before named.0 name.0 d next
        (sym (fold-append (λ (o : Option ℕ) (e : Deed). name_then named.0 e o) None x.deeds (d ∷ [])) ∙ name.1))
        (request_before name.0 number name.2)
      where
        by_name : (own : ℕ) → (name_in lines i x.deeds named.0 ≡ Some own) ⊎ (line ≡ own) →
            (request_in x.deeds own ≡ Some (Receiving number)) ⊎ (count_by is_receive_by x.deeds ≤ number) →
            IsAsked lines i x.deeds number
        by_name own stands (inr new) = inr (inr new)
        by_name own (inl stands) (inl made) =
            inl (named.0, ap (λ (o : Option ℕ). option_and_then (request_in x.deeds) o) stands ∙ made)
        by_name own (inr same) (inl made) =
            inr (inl (
              own,
              count_by is_answer_by x.deeds,
              made,
              omega arith,
              place ∙ ap (λ (k : ℕ). Some k) same,
            ))
    asked_before number (inr (inl started)) = by_request (request_before started.0 number started.2)
      where
        more : count_by is_answer_by x.deeds ≤ started.1
        more =
            let many = count_push is_answer_by x.deeds d in
            let low = started.3 in
            omega (arith, many, low)

        by_request : (request_in x.deeds started.0 ≡ Some (Receiving number)) ⊎
            (count_by is_receive_by x.deeds ≤ number) →
            IsAsked lines i x.deeds number
        by_request (inl made) = inr (inl (started.0, started.1, made, more, started.4))
        by_request (inr new) = inr (inr new)
    asked_before number (inr (inr new)) =
        let many = count_push is_receive_by x.deeds d in inr (inr (omega (arith, many, new)))
