-- Each handle has its own message: a line claims once, and so is a message claimed. MPI 3.1, 3.8.2.
use Rattle.std.proofs.Common.{◌≡◌, ◌⊎◌, inl, inr, ℕ, ◌==◌, ◌&&◌, ◌||◌, Bool, true, false, not, Option, Some, None}
use Rattle.std.proofs.Common.{List, [], ◌∷◌, ◌++◌, length, refl, sym, ◌∙◌, ap, subst, arith, append-nil, append_assoc}
use Rattle.std.specs.Prelude.{IsSomeAnd, option_and_then}
use Rattle.std.specs.List.{cons_option, filter_map, list_any, slice_get}
use Rattle.std.specs.Option.{option_map_or}
use Rattle.std.proofs.lemmas.Bool.{false≢true}
use Rattle.std.proofs.lemmas.List.Elements.{filter_map-append}
use Rattle.std.proofs.lemmas.List.Folds.{list_any-append}
use Rattle.nm_types.specs.declared.messages.Arrival.{Arrival}
use Rattle.nm_types.specs.declared.scripts.Command.{Command}
use Rattle.nm_types.specs.declared.scripts.Command.TheVariants as command
use Rattle.nm_types.specs.declared.scripts.Line.{Line}
use Rattle.nm_types.specs.Commands.{Numbered, command_at, commands_of}
use Rattle.nm_types.specs.Sizes.{Sizes}
use Rattle.nm_types.proofs.ListLemmas.{find_passes}
use Rattle.nm_types.proofs.NumberLemmas.{eq_true, same_number}
use Rattle.nm_types.proofs.OptionLemmas.{same_some}
use Rattle.nm_types.proofs.TruthLemmas.{and_left, and_right, both, or_left, or_right, same_test}
use Rattle.nm_history.specs.declared.events.Event.{Event}
use Rattle.nm_history.specs.declared.events.Happened.{Happened}
use Rattle.nm_history.specs.declared.events.Happened.TheVariants as event
use Rattle.nm_history.specs.declared.plain.Pair.{Pair}
use Rattle.nm_history.specs.Answers.{Message as claimed}
use Rattle.nm_history.specs.Happens.{happened, is_claim, is_withdraw}
use Rattle.nm_history.specs.Matching.{first_message, is_free, is_free_message, is_of_message, matched_pairs}
use Rattle.nm_history.specs.Quiescence.{Ended, Packets, history_of}
use Rattle.nm_history.specs.RankRun.{ClaimAt, claim_of as claims_of, claims_since, line_of_claim, ran_lines, ran_of}
use Rattle.nm_history.specs.RankRun.{since_command}
use Rattle.nm_history.specs.Selection.{matches}
use Rattle.nm_history.specs.Sends.{messages}
use Rattle.nm_history.specs.Underway.{is_answer}
use Rattle.nm_history.proofs.AppendLemmas.{since_grows}
use Rattle.nm_history.proofs.RankRunLemmas.{ran_lines-push, since-push}
use Rattle.nm_history.proofs.Sent.{happened-append}
use Rattle.nm_outcomes.specs.Due.{IsAnswerOf, IsDue}
use Rattle.nm_outcomes.specs.Logs.{Step, history_in}
use Rattle.nm_outcomes.specs.Places.{RankPoint}
use Rattle.nm_outcomes.proofs.LogLemmas.{at_of, own_run}
use Rattle.nm_lawful.specs.Moves.{Report}
use Rattle.nm_runs_lawful.specs.Stands.{IsSoFar, IsRunTold, handle_of}
use Rattle.nm_runs_lawful.proofs.ClaimedLemmas.{IsHeld, claim_split, claims_at}
use Rattle.nm_runs_lawful.proofs.EffectLemmas.{HasRan, ran_behind}
use Rattle.nm_runs_lawful.proofs.HandleLemmas.{not_yet}
use Rattle.nm_runs_lawful.proofs.OnceLemmas.{due_at, whole_splits}
use Rattle.nm_runs_lawful.proofs.UniqueLemmas.{two_splits}

-- a message that is free was not claimed
free_unclaimed : (h : List Event) (found : List Pair) (a : Arrival) → is_free h found a ≡ true →
    happened (is_claim a.env.from a.n) h ≡ false
unfolding is_free_message
free_unclaimed h found a free =
    by_parts (list_any (is_of_message a.env.from a.n) found) (happened (is_claim a.env.from a.n) h)
    (happened (is_withdraw a.env.from a.n true) h) free
  where
    by_parts : (x y z : Bool) → (not x && not y && not z) ≡ true → y ≡ false
    by_parts x false z free = refl
    by_parts true true z free = absurd (false≢true free)
    by_parts false true z free = absurd (false≢true free)

-- no claim of a line is among those of none
pub none_claims : (l : ℕ) (ws : List Happened) → filter_map line_of_claim ws ≡ [] →
    list_any (λ (what : Happened). option_map_or (λ k. k == l) (line_of_claim what) false) ws ≡ false
none_claims l [] none = refl
none_claims l (x ∷ ws) none = by_line (line_of_claim x) none (none_claims l ws)
  where
    by_line : (o : Option ℕ) → cons_option o (filter_map line_of_claim ws) ≡ [] →
        (filter_map line_of_claim ws ≡ [] →
        list_any (λ (what : Happened). option_map_or (λ k. k == l) (line_of_claim what) false) ws ≡ false) →
        (option_map_or (λ k. k == l) o false
        || list_any (λ (what : Happened). option_map_or (λ k. k == l) (line_of_claim what) false) ws) ≡ false
    by_line None none rest = rest none
    by_line (Some k) none rest = absurd (grind arith)

module _ (shape : Sizes) (lines : List Line) (ranks : List Ended) (packets : List Packets) (told : Report)
    (is : IsRunTold shape lines ranks packets told) (before : List Step) (later : List Step)
    (w : ℕ → RankPoint) (next : IsSoFar shape lines ranks before later w) (i : ℕ)
  where
    abbrev commands : List Numbered
    commands = commands_of i lines

    abbrev h : List Event
    h = history_in before i

    claim_due : (b : List Event) (e : Event) (t : List Event) → h ≡ b ++ e ∷ t → (from n line : ℕ) →
        e.what ≡ event.Claim from n line → IsAnswerOf commands b line × (claims_since b ≡ [])
    claim_due b e t split from n line at =
        subst (λ (what : Happened). IsDue shape.eager commands b what) at
        (due_at shape lines ranks packets told is before later w next i b e t split)

    -- two claims of one line
    module _ (b : List Event) (e : Event) (m : List Event) (e' : Event) (t' : List Event)
        (split : h ≡ (b ++ e ∷ m) ++ e' ∷ t') (from n from' n' line : ℕ) (at : e.what ≡ event.Claim from n line)
        (at' : e'.what ≡ event.Claim from' n' line)
      where
        abbrev grown : List Event
        grown = b ++ e ∷ []

        abbrev front : List Event
        front = b ++ e ∷ m

        abbrev test : Happened → Bool
        test what = option_map_or (λ k. k == line) (line_of_claim what) false

        grown_is : grown ++ m ≡ front
        grown_is = append_assoc b (e ∷ []) m

        first : h ≡ b ++ e ∷ (m ++ e' ∷ t')
        first = split ∙ append_assoc b (e ∷ m) (e' ∷ t')

        due : IsAnswerOf commands b line
        due = (claim_due b e (m ++ e' ∷ t') first from n line at).0

        due' : IsAnswerOf commands front line × (claims_since front ≡ [])
        due' = claim_due front e' t' split from' n' line at'

        quiet : is_answer e.what ≡ false
        quiet = ap is_answer at

        begun : list_any test (since_command grown) ≡ true
        begun =
            ap (λ (ws : List Happened). list_any test ws)
            (since-push b e ∙ since_grows (since_command b) e.what quiet)
            ∙ list_any-append test (since_command b) (e.what ∷ [])
            ∙ or_right (list_any test (since_command b)) (test e.what || false)
            (or_left (test e.what) false (ap test at ∙ eq_true line line refl))

        found : HasRan grown m
        found =
            ran_behind test grown m begun
            (ap (λ (k : List Event). list_any test (since_command k)) grown_is
            ∙ none_claims line (since_command front) due'.1)

        lines_same : ran_lines grown ≡ ran_lines b
        lines_same =
            ran_lines-push b e ∙ ap (λ (what : Happened). ran_lines b ++ cons_option (ran_of what) []) at
            ∙ append-nil (ran_lines b)

        ran_split : h ≡ (grown ++ found.mid) ++ found.ran ∷ (found.rest ++ e' ∷ t')
        ran_split =
            split ∙ ap (λ (k : List Event). k ++ e' ∷ t')
            (sym grown_is ∙ ap (λ (k : List Event). grown ++ k) found.split
            ∙ sym (append_assoc grown found.mid (found.ran ∷ found.rest)))
            ∙ append_assoc (grown ++ found.mid) (found.ran ∷ found.rest) (e' ∷ t')

        due_then : IsAnswerOf commands (grown ++ found.mid) found.line
        due_then =
            subst (λ (what : Happened). IsDue shape.eager commands (grown ++ found.mid) what) found.is_ran
            (due_at shape lines ranks packets told is before later w next i (grown ++ found.mid) found.ran
            (found.rest ++ e' ∷ t') ran_split)

        line_is : found.line ≡ line
        line_is =
            sym due_then.line_is
            ∙ ap (λ (d : Numbered). d.line)
            (same_some due_then.command due.command (sym due_then.next
            ∙ ap (λ (ls : List ℕ). slice_get commands (length ls)) (found.lines ∙ lines_same) ∙ due.next))
            ∙ due.line_is

        has_ran : list_any (λ l. l == line) (ran_lines front) ≡ true
        has_ran =
            ap (λ (k : List Event). list_any (λ l. l == line) (ran_lines k))
            (sym grown_is ∙ ap (λ (k : List Event). grown ++ k) found.split
            ∙ sym (append_assoc grown found.mid (found.ran ∷ found.rest)))
            ∙ ap (λ (ls : List ℕ). list_any (λ l. l == line) ls)
            (filter_map-append (λ (e : Event). ran_of e.what) (grown ++ found.mid) (found.ran ∷ found.rest)
            ∙ ap (λ (what : Happened). ran_lines (grown ++ found.mid) ++ cons_option (ran_of what)
            (ran_lines found.rest)) found.is_ran)
            ∙ list_any-append (λ l. l == line) (ran_lines (grown ++ found.mid)) (found.line ∷ ran_lines found.rest)
            ∙ or_right (list_any (λ l. l == line) (ran_lines (grown ++ found.mid)))
            ((found.line == line) || list_any (λ l. l == line) (ran_lines found.rest))
            (or_left (found.line == line) (list_any (λ l. l == line) (ran_lines found.rest))
            (eq_true found.line line line_is))

        not_ran : list_any (λ l. l == line) (ran_lines front) ≡ false
        not_ran =
            ap (λ (k : ℕ). list_any (λ l. l == k) (ran_lines front)) (sym due'.0.line_is)
            ∙ not_yet i lines (at_of shape lines ranks packets is.run i) (history_of ranks i) front
            (e' ∷ (t' ++ history_in later i)) due'.0.command
            (own_run shape lines ranks packets is.run i).answers
            (whole_splits shape lines ranks packets told is before later w next i front e' t' split) due'.0.next

        pub twice : ⊥
        twice = false≢true (sym not_ran ∙ has_ran)

    -- a message is claimed where it is free
    claims_free : (b : List Event) (e : Event) (t : List Event) → h ≡ b ++ e ∷ t → (from n line : ℕ) →
        e.what ≡ event.Claim from n line → happened (is_claim from n) b ≡ false
    claims_free b e t split from n line at =
        by_command (command_at commands line)
        (subst (λ (what : Happened). ClaimAt commands b what) at
        (claims_at shape lines ranks packets told is before later w next i b e t split))
      where
        by_found : (o : Option Arrival) → option_map_or (λ (a : Arrival). event.Claim a.env.from a.n line ∷ []) o []
            ≡ event.Claim from n line ∷ [] →
            (a : Arrival) × (o ≡ Some a) × (a.env.from ≡ from) × (a.n ≡ n)
        by_found None same = absurd (grind arith)
        by_found (Some a) same = (a, refl, cc, cc)

        by_command : (o : Option Command) → IsSomeAnd o (λ c. claims_of b line c ≡ event.Claim from n line ∷ []) →
            happened (is_claim from n) b ≡ false
        by_command (Some (command.Mprobe handle from' tag ctx)) same =
            let found = by_found (first_message b (matched_pairs b) from' tag ctx) same in
            let passes = find_passes (λ (x : Arrival). matches from' tag ctx x.env && is_free b (matched_pairs b) x)
            (messages b) found.0 found.1 in
            subst (λ (f : ℕ). happened (is_claim f n) b ≡ false) found.2
            (subst (λ (k : ℕ). happened (is_claim found.0.env.from k) b ≡ false) found.3
            (free_unclaimed b (matched_pairs b) found.0
            (and_right (matches from' tag ctx found.0.env) (is_free b (matched_pairs b) found.0) passes)))
        by_command None same = absurd same
        by_command (Some c) same = absurd (grind arith)

    -- two claims of one message
    pub message_twice : (b : List Event) (e : Event) (m : List Event) (e' : Event) (t' : List Event) →
        h ≡ (b ++ e ∷ m) ++ e' ∷ t' → (from n line line' : ℕ) → e.what ≡ event.Claim from n line →
        e'.what ≡ event.Claim from n line' → ⊥
    message_twice b e m e' t' split from n line line' at at' =
        false≢true (sym (claims_free (b ++ e ∷ m) e' t' split from n line' at')
        ∙ happened-append (is_claim from n) b (e ∷ m)
        ∙ or_right (happened (is_claim from n) b) (is_claim from n e.what || happened (is_claim from n) m)
        (or_left (is_claim from n e.what) (happened (is_claim from n) m)
        (ap (is_claim from n) at ∙ both (from == from) (n == n) (eq_true from from refl) (eq_true n n refl))))

    -- a claim is of the handle's message exactly where it is of its line
    pub held_alone : (m : ℕ) (x : claimed)
        (held : IsHeld shape lines ranks packets told is before later w next i m x) → (b : List Event) (e : Event)
        (t : List Event) → h ≡ b ++ e ∷ t → (from n line y : ℕ) → e.what ≡ event.Claim from n line →
        option_and_then handle_of (command_at (commands_of i lines) line) ≡ Some y → (w i).handled y ≡ Some line →
        (y == m) ≡ (x.from == from && x.n == n)
    held_alone m x held b e t split from n line y at names stands =
        same_test (y == m) (x.from == from && x.n == n) of_handle of_message
      where
        own : (b : List Event) × (e : Event) × (t : List Event) × (h ≡ b ++ e ∷ t)
            × (e.what ≡ event.Claim x.from x.n held.line)
        own = claim_split held.line x h held.claim

        order : ((m : List Event) × (own.0 ≡ b ++ e ∷ m)) ⊎ (((m : List Event) × (b ≡ own.0 ++ own.1 ∷ m)) ⊎ (e
            ≡ own.1))
        order = two_splits b t own.0 own.2 e own.1 (sym split ∙ own.3)

        of_handle : (y == m) ≡ true → (x.from == from && x.n == n) ≡ true
        of_handle same = by_order order
          where
            line_same : line ≡ held.line
            line_same =
                same_some line held.line (sym stands
                ∙ ap (λ (k : ℕ). (w i).handled k) (same_number y m same) ∙ held.stands)

            at_line : e.what ≡ event.Claim from n held.line
            at_line = at ∙ ap (λ (l : ℕ). event.Claim from n l) line_same

            by_order : ((m : List Event) × (own.0 ≡ b ++ e ∷ m))
                ⊎ (((m : List Event) × (b ≡ own.0 ++ own.1 ∷ m)) ⊎ (e ≡ own.1)) → (x.from == from && x.n == n) ≡ true
            by_order (inl after) =
                absurd (twice b e after.0 own.1 own.2 (own.3 ∙ ap (λ (k : List Event). k ++ own.1
                ∷ own.2) after.1) from n
                x.from x.n held.line at_line own.4)
            by_order (inr (inl earlier)) =
                absurd (twice own.0 own.1 earlier.0 e t (split ∙ ap (λ (k : List Event). k ++ e
                ∷ t) earlier.1) x.from x.n
                from n held.line own.4 at_line)
            by_order (inr (inr one)) =
                let equal : event.Claim x.from x.n held.line ≡ event.Claim from n line =
                sym own.4 ∙ ap (λ (z : Event). z.what) (sym one) ∙ at in
                let first : x.from ≡ from = cc in
                let second : x.n ≡ n = cc in
                both (x.from == from) (x.n == n) (eq_true x.from from first) (eq_true x.n n second)

        of_message : (x.from == from && x.n == n) ≡ true → (y == m) ≡ true
        of_message same = by_order order
          where
            at_message : e.what ≡ event.Claim x.from x.n line
            at_message =
                at
                ∙ ap (λ (f : ℕ). event.Claim f n line)
                (sym (same_number x.from from (and_left (x.from == from) (x.n == n) same)))
                ∙ ap (λ (k : ℕ). event.Claim x.from k line)
                (sym (same_number x.n n (and_right (x.from == from) (x.n == n) same)))

            by_order : ((m : List Event) × (own.0 ≡ b ++ e ∷ m))
                ⊎ (((m : List Event) × (b ≡ own.0 ++ own.1 ∷ m)) ⊎ (e ≡ own.1)) → (y == m) ≡ true
            by_order (inl after) =
                absurd (message_twice b e after.0 own.1 own.2 (own.3 ∙ ap (λ (k : List Event). k ++ own.1 ∷ own.2)
                after.1) x.from x.n line held.line at_message own.4)
            by_order (inr (inl earlier)) =
                absurd (message_twice own.0 own.1 earlier.0 e t (split ∙ ap (λ (k : List Event). k ++ e ∷ t) earlier.1)
                x.from x.n held.line line own.4 at_message)
            by_order (inr (inr one)) =
                let equal : event.Claim x.from x.n held.line ≡ event.Claim from n line =
                sym own.4 ∙ ap (λ (z : Event). z.what) (sym one) ∙ at in
                let line_same : held.line ≡ line = cc in
                eq_true y m (same_some y m (sym names
                ∙ ap (λ (l : ℕ). option_and_then handle_of (command_at commands l)) (sym line_same) ∙ held.names))
