-- A receive that was cancelled has no message, and one that is new has neither. MPI 3.1, 3.8.4.
use Rattle.std.proofs.Common.{◌≡◌, ◌⊎◌, inl, inr, ℕ, ◌==◌, ◌&&◌, ◌||◌, Bool, true, false, cond, not, Option, Some, None}
use Rattle.std.proofs.Common.{List, [], ◌∷◌, ◌++◌, length, refl, sym, ◌∙◌, ap, subst, arith}
use Rattle.std.specs.Prelude.{option_and_then, option_map, option_to_list}
use Rattle.std.specs.List.{cons_option, filter_map, list_any, slice_get}
use Rattle.std.proofs.Math.Dec.{ltb}
use Rattle.std.proofs.lemmas.Bool.{false≢true}
use Rattle.std.proofs.lemmas.Bool.Decides.{nat_tests}
use Rattle.std.proofs.lemmas.List.Elements.{All-contains}
use Rattle.std.proofs.lemmas.List.Folds.{list_any-append}
use Rattle.nm_types.specs.declared.messages.Arrival.{Arrival}
use Rattle.nm_types.specs.declared.messages.Post as post
use Rattle.nm_types.specs.declared.scripts.Line.{Line}
use Rattle.nm_types.specs.Commands.{Numbered, commands_of}
use Rattle.nm_types.specs.Sizes.{Sizes}
use Rattle.nm_types.proofs.ListLemmas.{find_nothing, find_passes}
use Rattle.nm_types.proofs.NumberLemmas.{eq_true, same_number}
use Rattle.nm_types.proofs.OptionLemmas.{no_some}
use Rattle.nm_types.proofs.TruthLemmas.{and_left, and_right, not_true, or_left, or_right}
use Rattle.nm_history.specs.declared.events.Event.{Event}
use Rattle.nm_history.specs.declared.events.Happened.{Happened}
use Rattle.nm_history.specs.declared.events.Happened.TheVariants as event
use Rattle.nm_history.specs.declared.plain.Pair.{Pair}
use Rattle.nm_history.specs.Answers.{line_of_name, live, request_at, request_of}
use Rattle.nm_history.specs.AtEach.{AtEach}
use Rattle.nm_history.specs.Completion.{Request as asked}
use Rattle.nm_history.specs.Completion.Request.{Receiving, Sending}
use Rattle.nm_history.specs.Happens.{happened, is_cancel, is_match}
use Rattle.nm_history.specs.Matching.{first_message, first_receive, is_of_receive, is_open, matched_pairs, new_pair}
use Rattle.nm_history.specs.Matching.{pair_of}
use Rattle.nm_history.specs.Matching.{pair_of_claimed}
use Rattle.nm_history.specs.Once.{IsOfReceive}
use Rattle.nm_history.specs.Quiescence.{Ended, Packets}
use Rattle.nm_history.specs.RankRun.{CancelAt, NumberAt}
use Rattle.nm_history.specs.Selection.{matches}
use Rattle.nm_history.specs.Sends.{message_of, posts, receive_of, receives}
use Rattle.nm_history.proofs.AtEachLemmas.{AtEach-from_splits, AtEach-split}
use Rattle.nm_history.proofs.Basic.{or_false}
use Rattle.nm_history.proofs.EachLemmas.{AtEach-prefix}
use Rattle.nm_history.proofs.MatchingLemmas.{matched_pairs-push}
use Rattle.nm_history.proofs.SelectionLemmas.{find_contains, matched_pairs_of_receives}
use Rattle.nm_match.specs.Deeds.{is_known_receive}
use Rattle.nm_match.proofs.NumberLemmas.{receives_numbered}
use Rattle.nm_match.proofs.PushLemmas.{posts_known}
use Rattle.nm_match.proofs.TurnLemmas.{known_later}
use Rattle.nm_outcomes.specs.Due.{IsCancelOf, IsDue}
use Rattle.nm_outcomes.specs.Logs.{Step, history_in}
use Rattle.nm_outcomes.specs.Places.{RankPoint}
use Rattle.nm_outcomes.proofs.HappenedLemmas.{history_induction, last_or_before}
use Rattle.nm_outcomes.proofs.LogLemmas.{own_run}
use Rattle.nm_lawful.specs.Moves.{Report}
use Rattle.nm_runs_lawful.specs.Stands.{IsSoFar, IsRunTold}
use Rattle.nm_runs_lawful.proofs.OnceLemmas.{due_at, number_at, numbers_now, whole_splits}

-- the number is there
abbrev HasNumber : ℕ → List ℕ → Type 0
HasNumber number ks = list_any (λ m. m == number) ks ≡ true

-- the receive of a request is known
request_known : (h : List Event) (line number : ℕ) → request_at h line ≡ Some (Receiving number) →
    is_known_receive h number ≡ true
unfolding is_known_receive
request_known [] line number asked = absurd (no_some (Receiving number) asked)
request_known (e ∷ h) line number asked = by_event e.what asked (request_known h line number)
  where
    by_number : (k : ℕ) (b : Bool) →
        slice_get (cons_option (cond b (Some (Receiving k)) None) (filter_map (λ (e : Event). request_of line e.what)
        h)) 0 ≡ Some (Receiving number) →
        (request_at h line ≡ Some (Receiving number) → HasNumber number (receives h)) →
        HasNumber number (k ∷ receives h)
    by_number k true asked rest =
        let same : k ≡ number = cc in or_left (k == number) (list_any (λ m. m == number) (receives h))
        (eq_true k number same)
    by_number k false asked rest = or_right (k == number) (list_any (λ m. m == number) (receives h)) (rest asked)

    by_event : (what : Happened) →
        slice_get (cons_option (request_of line what) (filter_map (λ (e : Event). request_of line e.what) h)) 0
        ≡ Some (Receiving number) → (request_at h line ≡ Some (Receiving number) → HasNumber number (receives h)) →
        HasNumber number (cons_option (receive_of what) (receives h))
    by_event (event.Post p own) asked rest = by_number p.number (own == line) asked rest
    by_event (event.Match k from n cap own) asked rest = by_number k (own == line) asked rest
    by_event (event.Send to n tag ctx len how own) asked rest = by_line (own == line) asked
      where
        by_line : (b : Bool) →
            slice_get (cons_option (cond b (Some (Sending to n)) None) (filter_map (λ (e : Event). request_of line
            e.what) h)) 0 ≡ Some (Receiving number) → HasNumber number (receives h)
        by_line true asked = absurd (grind arith)
        by_line false asked = rest asked
    by_event what asked rest = rest asked

live_known : (commands : List Numbered) (h : List Event) (q number : ℕ) →
    live commands h q ≡ Some (Receiving number) → is_known_receive h number ≡ true
live_known commands h q number lives = by_line (line_of_name commands h q) lives
  where
    by_line : (o : Option ℕ) → option_and_then (request_at h) o ≡ Some (Receiving number) →
        is_known_receive h number ≡ true
    by_line None lives = absurd (no_some (Receiving number) lives)
    by_line (Some line) lives = request_known h line number lives

-- a matched receive is known
match_known : (h : List Event) (number from n cap : ℕ) → happened (is_match number from n cap) h ≡ true →
    is_known_receive h number ≡ true
unfolding is_known_receive
match_known [] number from n cap some = absurd (false≢true some)
match_known (e ∷ h) number from n cap some = by_event e.what some (match_known h number from n cap)
  where
    either : (a b x y : Bool) → (a || b) ≡ true → (a ≡ true → x ≡ true) → (b ≡ true → y ≡ true) → (x || y) ≡ true
    either true b x y some first second = or_left x y (first refl)
    either false b x y some first second = or_right x y (second some)

    first_part : (p q r s : Bool) → (p && q && r && s) ≡ true → p ≡ true
    first_part true q r s all = refl
    first_part false q r s all = all

    by_event : (what : Happened) → (is_match number from n cap what || happened (is_match number from n cap) h) ≡ true →
        (happened (is_match number from n cap) h ≡ true → HasNumber number (receives h)) →
        HasNumber number (cons_option (receive_of what) (receives h))
    by_event (event.Match k f m room own) some rest =
        either (is_match number from n cap (event.Match k f m room own)) (happened (is_match number from n cap) h)
        (k == number) (list_any (λ m. m == number) (receives h)) some
        (λ this. first_part (k == number) (f == from) (m == n) (room == cap) this) rest
    by_event (event.Post p own) some rest =
        or_right (p.number == number) (list_any (λ m. m == number) (receives h)) (rest some)
    by_event what some rest = rest some

-- each receive that has a message is known
pair_known : (h : List Event) (pair : Pair) → IsOfReceive h pair → is_known_receive h pair.number ≡ true
pair_known h pair (inl posted) =
    subst (λ (k : ℕ). is_known_receive h k ≡ true) (sym posted.number)
    (All-contains (λ (p : post.Post). is_known_receive h p.number ≡ true) (posts h) posted.receive (posts_known h)
    posted.posted)
pair_known h pair (inr matched) =
    match_known h pair.number pair.arrival.env.from pair.arrival.n pair.cap matched.received

not_itself : (n : ℕ) → ltb n n ≡ false
not_itself n = grind (arith, nat_tests)

-- what is so at each event of a rank
record IsOrderly (ranks eager : ℕ) (commands : List Numbered) (b : List Event) (what : Happened) : Type 0 where
  due : IsDue eager commands b what
  number : NumberAt ranks b what
  cancel : CancelAt commands b what
  receives : (k : ℕ) → is_known_receive b k ≡ ltb k (length (receives b))

abbrev AreOff : List Event → Type 0
AreOff h =
    (number : ℕ) → happened (is_cancel number) h ≡ true →
    (is_known_receive h number ≡ true) × (list_any (is_of_receive number) (matched_pairs h) ≡ false)

-- a new pair is of no receive that was cancelled before
new_other : (ranks eager : ℕ) (commands : List Numbered) (b : List Event) (what : Happened) (number : ℕ) →
    IsOrderly ranks eager commands b what → is_known_receive b number ≡ true →
    happened (is_cancel number) b ≡ true →
    list_any (is_of_receive number) (option_to_list (new_pair b (matched_pairs b) what)) ≡ false
new_other ranks eager commands b (event.Post p line) number orderly known off =
    by_message (first_message b (matched_pairs b) p.from p.tag p.ctx)
  where
    by_message : (o : Option Arrival) →
        list_any (is_of_receive number) (option_to_list (option_map (λ a. pair_of p a) o)) ≡ false
    by_message None = refl
    by_message (Some a) =
        not_true ((p.number == number) || false) (λ same. false≢true (sym (orderly.receives number
        ∙ ap (λ (k : ℕ). ltb k (length (receives b)))
        (sym (same_number p.number number (sym (or_false (p.number == number)) ∙ same)) ∙ orderly.number)
        ∙ not_itself (length (receives b))) ∙ known))
new_other ranks eager commands b (event.Match k from n cap line) number orderly known off =
    by_message (message_of b from n)
  where
    by_message : (o : Option Arrival) →
        list_any (is_of_receive number) (option_to_list (option_map (λ a. pair_of_claimed k cap a) o)) ≡ false
    by_message None = refl
    by_message (Some a) =
        not_true ((k == number) || false) (λ same. false≢true (sym (orderly.receives number
        ∙ ap (λ (m : ℕ). ltb m (length (receives b)))
        (sym (same_number k number (sym (or_false (k == number)) ∙ same)) ∙ orderly.number)
        ∙ not_itself (length (receives b))) ∙ known))
new_other ranks eager commands b (event.Arrive a) number orderly known off =
    by_receive (first_receive b (matched_pairs b) a.env) refl
  where
    by_receive : (o : Option post.Post) → first_receive b (matched_pairs b) a.env ≡ o →
        list_any (is_of_receive number) (option_to_list (option_map (λ p. pair_of p a) o)) ≡ false
    by_receive None found = refl
    by_receive (Some p) found =
        not_true ((p.number == number) || false) (λ same.
        let passes = find_passes (λ (p : post.Post). matches p.from p.tag p.ctx a.env && is_open b (matched_pairs b) p)
        (posts b) p found in
        let opens = and_right (matches p.from p.tag p.ctx a.env) (is_open b (matched_pairs b) p) passes in
        false≢true (ap not (sym off ∙ ap (λ (k : ℕ). happened (is_cancel k) b)
        (sym (same_number p.number number (sym (or_false (p.number == number)) ∙ same))))
        ∙ and_right (not (list_any (is_of_receive p.number) (matched_pairs b)))
        (not (happened (is_cancel p.number) b)) opens))
new_other ranks eager commands b what number orderly known off = refl

cancelled_off : (ranks eager : ℕ) (commands : List Numbered) (h : List Event) →
    AtEach (λ b e. IsOrderly ranks eager commands b e.what) h → AreOff h
cancelled_off ranks eager commands h =
    history_induction (λ b e. IsOrderly ranks eager commands b e.what) AreOff grow (λ number none. absurd
    (false≢true none)) h
  where
    grow : (b : List Event) (e : Event) → AreOff b → IsOrderly ranks eager commands b e.what → AreOff (b ++ e ∷ [])
    grow b e was orderly number off = by_place (last_or_before (is_cancel number) b e off)
      where
        pairs : matched_pairs (b ++ e ∷ []) ≡ matched_pairs b ++ option_to_list (new_pair b (matched_pairs b) e.what)
        pairs = matched_pairs-push b e

        none_of : list_any (is_of_receive number) (matched_pairs b) ≡ false →
            list_any (is_of_receive number) (option_to_list (new_pair b (matched_pairs b) e.what)) ≡ false →
            list_any (is_of_receive number) (matched_pairs (b ++ e ∷ [])) ≡ false
        none_of first second =
            ap (λ (ps : List Pair). list_any (is_of_receive number) ps) pairs
            ∙ list_any-append (is_of_receive number) (matched_pairs b)
            (option_to_list (new_pair b (matched_pairs b) e.what)) ∙ rw (first, second) refl

        now : (what : Happened) → e.what ≡ what → is_cancel number what ≡ true →
            (is_known_receive b number ≡ true) × (list_any (is_of_receive number) (matched_pairs b) ≡ false)
            × (list_any (is_of_receive number) (option_to_list (new_pair b (matched_pairs b) what)) ≡ false)
        now (event.Cancel k done) at same =
            let one : k ≡ number = same_number k number (and_left (k == number) done same) in
            let due : IsCancelOf commands b (Receiving k) =
            (subst (λ (what : Happened). IsDue eager commands b what) at orderly.due).0 in
            let cancel : done ≡ not (list_any (is_of_receive k) (matched_pairs b)) =
            subst (λ (what : Happened). CancelAt commands b what) at orderly.cancel in (
              subst (λ (m : ℕ). is_known_receive b m ≡ true) one (live_known commands b due.name k due.live_is),
              not_true (list_any (is_of_receive number) (matched_pairs b)) (λ paired. false≢true
                  (ap not (sym paired ∙ ap (λ (m : ℕ). list_any (is_of_receive m) (matched_pairs b)) (sym one))
                  ∙ sym cancel ∙ and_right (k == number) done same)),
              refl,
            )
        now what at same = absurd (false≢true same)

        by_place : (happened (is_cancel number) b ≡ true) ⊎ (is_cancel number e.what ≡ true) →
            (is_known_receive (b ++ e ∷ []) number ≡ true)
            × (list_any (is_of_receive number) (matched_pairs (b ++ e ∷ [])) ≡ false)
        by_place (inl before) =
            let old = was number before in (
              known_later b e number old.0,
              none_of old.1 (new_other ranks eager commands b e.what number orderly old.0 before),
            )
        by_place (inr is) =
            let new = now e.what refl is in (known_later b e number new.0, none_of new.1 new.2)

module _ (shape : Sizes) (lines : List Line) (ranks : List Ended) (packets : List Packets) (told : Report)
    (is : IsRunTold shape lines ranks packets told) (before : List Step) (later : List Step)
    (w : ℕ → RankPoint) (next : IsSoFar shape lines ranks before later w) (i : ℕ)
  where
    abbrev h : List Event
    h = history_in before i

    offs : AreOff h
    offs =
        cancelled_off shape.ranks shape.eager (commands_of i lines) h
        (AtEach-from_splits (λ b e. IsOrderly shape.ranks shape.eager (commands_of i lines) b e.what) h
        (λ b e t split. record {
          due = due_at shape lines ranks packets told is before later w next i b e t split;
          number = number_at shape lines ranks packets told is before later w next i b e t split;
          cancel = AtEach-split (λ b e. CancelAt (commands_of i lines) b e.what) b e (t ++ history_in later i)
              (subst (λ (h : List Event). AtEach (λ b e. CancelAt (commands_of i lines) b e.what) h)
              (whole_splits shape lines ranks packets told is before later w next i b e t split)
              (own_run shape lines ranks packets is.run i).cancels.made);
          receives = receives_numbered shape.ranks b
              (AtEach-prefix (λ b e. NumberAt shape.ranks b e.what) b (e ∷ t)
              (subst (λ (h : List Event). AtEach (λ b e. NumberAt shape.ranks b e.what) h) split
              (numbers_now shape lines ranks packets told is before later w next i)));
        }))

    -- a receive that was cancelled has no message
    pub off_unpaired : (number : ℕ) → (w i).off number ≡ true → (w i).pairs number ≡ None
    off_unpaired number off =
        (next.places i).pairs number
        ∙ find_nothing (is_of_receive number) (matched_pairs h) (offs number (sym ((next.places i).off number) ∙ off)).1

    -- a receive that is new was not cancelled and has no message
    pub new_receive : (number : ℕ) → number ≡ length (receives h) →
        ((w i).off number ≡ false) × ((w i).pairs number ≡ None)
    new_receive number new = (
      not_true ((w i).off number) (λ off. false≢true (sym unknown
          ∙ (offs number (sym ((next.places i).off number) ∙ off)).0)),
      by_pair ((w i).pairs number) refl,
    )
      where
        unknown : is_known_receive h number ≡ false
        unknown =
            receives_numbered shape.ranks h
            (numbers_now shape lines ranks packets told is before later w next i) number
            ∙ ap (λ (k : ℕ). ltb k (length (receives h))) new ∙ not_itself (length (receives h))

        by_pair : (o : Option Pair) → (w i).pairs number ≡ o → o ≡ None
        by_pair None paired = refl
        by_pair (Some pair) paired =
            let found = sym ((next.places i).pairs number) ∙ paired in
            absurd (false≢true (sym unknown
            ∙ subst (λ (k : ℕ). is_known_receive h k ≡ true)
            (same_number pair.number number (find_passes (is_of_receive number) (matched_pairs h) pair found))
            (pair_known h pair (All-contains (IsOfReceive h) (matched_pairs h) pair (matched_pairs_of_receives h)
            (find_contains (is_of_receive number) (matched_pairs h) pair found)))))
