-- A matched probe that shows its message, which it claimed before. MPI 3.1, 3.8.2.
use Rattle.std.proofs.Common.{◌≡◌, ◌⊎◌, inl, inr, ℕ, ◌+◌, ◌<◌, ◌==◌, ◌&&◌, ◌||◌, Bool, true, false, not}
use Rattle.std.proofs.Common.{Option, Some, None, List, [], ◌∷◌, ◌++◌, length, refl, sym, ◌∙◌, ap, subst, arith}
use Rattle.std.proofs.Common.{append-nil, append_assoc, length-append}
use Rattle.std.specs.Prelude.{Contains, IsSomeAnd, option_map, option_to_list}
use Rattle.std.specs.List.{AllByRecursion, cons_option, filter_map, list_any, slice_get}
use Rattle.std.specs.Option.{option_map_or}
use Rattle.std.proofs.Math.Dec.{ltb}
use Rattle.std.proofs.lemmas.Bool.{false≢true}
use Rattle.std.proofs.lemmas.Bool.Decides.{nat_tests}
use Rattle.std.proofs.lemmas.List.Elements.{filter_map-append}
use Rattle.std.proofs.lemmas.List.Folds.{list_any-append}
use Rattle.nm_types.specs.declared.messages.Arrival.{Arrival}
use Rattle.nm_types.specs.declared.messages.Post as post
use Rattle.nm_types.specs.declared.scripts.Command.{Command}
use Rattle.nm_types.specs.declared.scripts.Command.TheVariants as command
use Rattle.nm_types.specs.declared.scripts.Line.{Line}
use Rattle.nm_types.specs.Commands.{Numbered, command_at, commands_of}
use Rattle.nm_types.specs.Sizes.{Sizes}
use Rattle.nm_types.proofs.NumberLemmas.{eq_true, same_number}
use Rattle.nm_types.proofs.OptionLemmas.{same_some}
use Rattle.nm_types.proofs.TruthLemmas.{and_left, and_right, both, not_true, or_left, or_right}
use Rattle.nm_history.specs.declared.events.Event.{Event}
use Rattle.nm_history.specs.declared.events.Happened.{Happened}
use Rattle.nm_history.specs.declared.events.Happened.TheVariants as event
use Rattle.nm_history.specs.declared.plain.Pair.{Pair}
use Rattle.nm_history.specs.AtEach.{AtEach}
use Rattle.nm_history.specs.Completion.{is_taken}
use Rattle.nm_history.specs.Happens.{happened, is_claim, is_same, is_withdraw}
use Rattle.nm_history.specs.Matching.{first_receive, is_free_message, is_of_message}
use Rattle.nm_history.specs.Matching.{matched_pairs, new_pair, pair_of}
use Rattle.nm_history.specs.Quiescence.{Ended, Packets, history_of}
use Rattle.nm_history.specs.RankRun.{ClaimAt, EndAt, NumberAt, claim_of as claims_of, is_matched_probe}
use Rattle.nm_history.specs.RankRun.{line_of_claim}
use Rattle.nm_history.specs.RankRun.{ran_lines, ran_of, since_after, since_command, start_of, without_number}
use Rattle.nm_history.specs.Sends.{arrivals, messages, post_of, posts}
use Rattle.nm_history.specs.Underway.{is_answer}
use Rattle.nm_history.proofs.AppendLemmas.{arrivals-append, since_grows}
use Rattle.nm_history.proofs.Basic.{or_false}
use Rattle.nm_history.proofs.EachLemmas.{AtEach-prefix}
use Rattle.nm_history.proofs.Lasting.{by_splits}
use Rattle.nm_history.proofs.MatchingLemmas.{matched_pairs-push}
use Rattle.nm_history.proofs.RankRunLemmas.{no_answer, ran_lines-push, since-push}
use Rattle.nm_history.proofs.Sent.{happened-append}
use Rattle.nm_match.proofs.NumberLemmas.{messages_numbered}
use Rattle.nm_outcomes.specs.Due.{IsAnswerOf, IsDue, IsNextCommand, IsStartOf}
use Rattle.nm_outcomes.specs.Logs.{Step, history_in}
use Rattle.nm_outcomes.specs.Places.{RankPoint}
use Rattle.nm_outcomes.proofs.Bodies.{came_known}
use Rattle.nm_outcomes.proofs.HappenedLemmas.{split_any}
use Rattle.nm_outcomes.proofs.LogLemmas.{at_of, own_run}
use Rattle.nm_outcomes.proofs.PathLemmas.{history_split}
use Rattle.nm_lawful.specs.Moves.{Report}
use Rattle.nm_runs_lawful.specs.Stands.{IsSoFar, IsRunTold, line_of}
use Rattle.nm_runs_lawful.proofs.ClaimedLemmas.{claims_at}
use Rattle.nm_runs_lawful.proofs.EffectLemmas.{HasRan, ran_behind}
use Rattle.nm_runs_lawful.proofs.HandleLemmas.{not_yet}
use Rattle.nm_runs_lawful.proofs.HeldLemmas.{none_claims}
use Rattle.nm_runs_lawful.proofs.OnceLemmas.{due_at, number_at, numbers_now}
use Rattle.nm_runs_lawful.proofs.StandingLemmas.{at_event}
use Rattle.nm_runs_lawful.proofs.UniqueLemmas.{start_due, two_splits}

below : (a b : ℕ) → ltb a b ≡ true → a < b
below a b is = grind (arith, nat_tests)

-- elements that give nothing
pub none_mapped : {X Y : Type 0} (f : X → Option Y) (xs : List X) → AllByRecursion (λ x. f x ≡ None) xs →
    filter_map f xs ≡ []
none_mapped f [] each = refl
none_mapped f (x ∷ xs) each = ap (λ (o : Option _). cons_option o (filter_map f xs)) each.0 ∙ none_mapped f xs each.1

-- events that are no answers run no line
no_lines : (es : List Event) → AllByRecursion (λ e. is_answer e.what ≡ false) es → ran_lines es ≡ []
no_lines [] each = refl
no_lines (e ∷ es) each =
    ap (λ (o : Option ℕ). cons_option o (ran_lines es)) (no_answer e.what each.0) ∙ no_lines es each.1

-- what holds of a list's elements holds of the first ones
all_front : {X : Type 0} (P : X → Type 0) (xs ys : List X) → AllByRecursion P (xs ++ ys) → AllByRecursion P xs
all_front P [] ys each = tt
all_front P (x ∷ xs) ys each = (each.0, all_front P xs ys each.1)

-- a message that is claimed is not free
held_not_free : (h : List Event) (f k : ℕ) → happened (is_claim f k) h ≡ true →
    is_free_message h (matched_pairs h) f k ≡ false
unfolding is_free_message
held_not_free h f k claims =
    ap (λ (x : Bool). not (is_taken h f k) && not x && not (happened (is_withdraw f k true) h)) claims
    ∙ no_middle (is_taken h f k) (happened (is_withdraw f k true) h)
  where
    no_middle : (x z : Bool) → (not x && false && not z) ≡ false
    no_middle true z = refl
    no_middle false z = refl

module _ (shape : Sizes) (lines : List Line) (ranks : List Ended) (packets : List Packets) (told : Report)
    (is : IsRunTold shape lines ranks packets told) (before : List Step) (later : List Step)
    (w : ℕ → RankPoint) (next : IsSoFar shape lines ranks before later w) (i : ℕ)
    (b : List Event) (e : Event) (t : List Event) (split : history_in before i ≡ b ++ e ∷ t) (f k l : ℕ)
    (at : e.what ≡ event.Claim f k l) (c : Numbered)
    (due : IsNextCommand (commands_of i lines) (history_in before i) c) (line_is : c.line ≡ l)
  where
    abbrev h : List Event
    h = history_in before i

    abbrev commands : List Numbered
    commands = commands_of i lines

    abbrev test : Happened → Bool
    test what = option_map_or (λ x. x == l) (line_of_claim what) false

    abbrev grown : List Event
    grown = b ++ e ∷ []

    whole_is : history_of ranks i ≡ h ++ history_in later i
    whole_is = sym (next.whole.histories i) ∙ history_split before later i

    -- the line has not run
    not_ran : list_any (λ x. x == l) (ran_lines h) ≡ false
    not_ran =
        ap (λ (x : ℕ). list_any (λ y. y == x) (ran_lines h)) (sym line_is)
        ∙ not_yet i lines (at_of shape lines ranks packets is.run i) (history_of ranks i) h (history_in later i) c
        (own_run shape lines ranks packets is.run i).answers whole_is due

    quiet : is_answer e.what ≡ false
    quiet = ap is_answer at

    begun : list_any test (since_command grown) ≡ true
    begun =
        ap (λ (ws : List Happened). list_any test ws) (since-push b e ∙ since_grows (since_command b) e.what quiet)
        ∙ list_any-append test (since_command b) (e.what ∷ [])
        ∙ or_right (list_any test (since_command b)) (test e.what || false)
        (or_left (test e.what) false (ap test at ∙ eq_true l l refl))

    front_split : (z rest : List Event) → t ≡ z ++ rest → h ≡ (grown ++ z) ++ rest
    front_split z rest so =
        split ∙ sym (append_assoc b (e ∷ []) t) ∙ ap (λ (x : List Event). grown ++ x) so ∙ sym
        (append_assoc grown z rest)

    -- the claim is still since the last answer
    pub still_begun : (z rest : List Event) → t ≡ z ++ rest → list_any test (since_command (grown ++ z)) ≡ true
    still_begun z rest so = by_any (list_any test (since_command (grown ++ z))) refl
      where
        ran_there : HasRan grown z → ⊥
        ran_there found = false≢true (sym not_ran ∙ has_ran)
          where
            splits : h ≡ (grown ++ found.mid) ++ found.ran ∷ (found.rest ++ rest)
            splits =
                front_split z rest so
                ∙ ap (λ (x : List Event). x ++ rest) (ap (λ (x : List Event). grown ++ x) found.split
                ∙ sym (append_assoc grown found.mid (found.ran ∷ found.rest)))
                ∙ append_assoc (grown ++ found.mid) (found.ran ∷ found.rest) rest

            first : IsAnswerOf commands b l
            first = (subst (λ (what : Happened). IsDue shape.eager commands b what) at
                (due_at shape lines ranks packets told is before later w next i b e t split)).0

            then : IsAnswerOf commands (grown ++ found.mid) found.line
            then =
                subst (λ (what : Happened). IsDue shape.eager commands (grown ++ found.mid) what) found.is_ran
                (due_at shape lines ranks packets told is before later w next i (grown ++ found.mid) found.ran
                (found.rest ++ rest) splits)

            same : found.line ≡ l
            same =
                sym then.line_is
                ∙ ap (λ (d : Numbered). d.line)
                (same_some then.command first.command (sym then.next
                ∙ ap (λ (ls : List ℕ). slice_get commands (length ls))
                (found.lines ∙ ran_lines-push b e
                ∙ ap (λ (what : Happened). ran_lines b ++ cons_option (ran_of what) []) at
                ∙ append-nil (ran_lines b)) ∙ first.next))
                ∙ first.line_is

            has_ran : list_any (λ x. x == l) (ran_lines h) ≡ true
            has_ran =
                ap (λ (x : List Event). list_any (λ y. y == l) (ran_lines x)) splits
                ∙ ap (λ (ls : List ℕ). list_any (λ y. y == l) ls)
                (filter_map-append (λ (e : Event). ran_of e.what) (grown ++ found.mid)
                (found.ran ∷ (found.rest ++ rest))
                ∙ ap (λ (what : Happened). ran_lines (grown ++ found.mid) ++ cons_option (ran_of what)
                (ran_lines (found.rest ++ rest))) found.is_ran)
                ∙ list_any-append (λ y. y == l) (ran_lines (grown ++ found.mid))
                (found.line ∷ ran_lines (found.rest ++ rest))
                ∙ or_right (list_any (λ y. y == l) (ran_lines (grown ++ found.mid)))
                ((found.line == l) || list_any (λ y. y == l) (ran_lines (found.rest ++ rest)))
                (or_left (found.line == l) (list_any (λ y. y == l) (ran_lines (found.rest ++ rest)))
                (eq_true found.line l same))

        by_any : (x : Bool) → list_any test (since_command (grown ++ z)) ≡ x → x ≡ true
        by_any true so' = refl
        by_any false so' = absurd (ran_there (ran_behind test grown z begun so'))

    -- no answer comes behind it
    no_answers : AllByRecursion (λ e. is_answer e.what ≡ false) t
    no_answers = by_splits (λ e. is_answer e.what ≡ false) t [] t refl (λ z y rest so. by_event z y rest so y.what refl)
      where
        by_event : (z : List Event) (y : Event) (rest : List Event) → t ≡ z ++ y ∷ rest → (what : Happened) →
            y.what ≡ what → is_answer y.what ≡ false
        by_event z y rest so (event.Ran own a) ran =
            absurd (false≢true (sym (ap (λ (x : List Event). list_any test (since_command x))
            (sym (append_assoc grown z (y ∷ [])))
            ∙ ap (λ (ws : List Happened). list_any test ws)
            (since-push (grown ++ z) y ∙ ap (since_after (since_command (grown ++ z))) ran))
            ∙ still_begun (z ++ y ∷ []) rest (so ∙ sym (append_assoc z (y ∷ []) rest))))
        by_event z y rest so what other = ap is_answer other

    ran_same : (z rest : List Event) → t ≡ z ++ rest → ran_lines (grown ++ z) ≡ ran_lines b
    ran_same z rest so =
        filter_map-append (λ (e : Event). ran_of e.what) grown z
        ∙ ap (λ (ls : List ℕ). ran_lines grown ++ ls)
        (no_lines z (all_front (λ e. is_answer e.what ≡ false) z rest
        (subst (λ (x : List Event). AllByRecursion (λ e. is_answer e.what ≡ false) x) so no_answers)))
        ∙ append-nil (ran_lines grown) ∙ ran_lines-push b e
        ∙ ap (λ (what : Happened). ran_lines b ++ cons_option (ran_of what) []) at ∙ append-nil (ran_lines b)

    -- no start comes behind it
    pub no_start : (z : List Event) (y : Event) (rest : List Event) → t ≡ z ++ y ∷ rest → (own : ℕ) →
        line_of y.what ≡ Some own → ⊥
    no_start z y rest so own of =
        by_command c.command probes
        (subst (λ (x : Command). without_number y.what ∷ [] ≡ start_of shape.eager commands (grown ++ z)
        starts.command.line x) (ap (λ (d : Numbered). d.command) same) starts.start)
      where
        starts : IsStartOf shape.eager commands (grown ++ z) y.what
        starts =
            start_due shape lines ranks packets told is before later w next i (grown ++ z) y rest
            (front_split z (y ∷ rest) so) own of

        same : starts.command ≡ c
        same =
            same_some starts.command c (sym starts.next
            ∙ ap (λ (ls : List ℕ). slice_get commands (length ls))
            (ran_same z (y ∷ rest) so ∙ sym (ran_same t [] (sym (append-nil t)))
            ∙ ap ran_lines (sym (front_split t [] (sym (append-nil t)) ∙ append-nil (grown ++ t)))) ∙ due)

        probes : is_matched_probe c.command ≡ true
        probes =
            by_called (command_at commands l) (ap (λ (x : ℕ). command_at commands x) (sym line_is)
            ∙ is.commands.stand i (length (ran_lines h)) c due)
            (subst (λ (what : Happened). ClaimAt commands b what) at
            (claims_at shape lines ranks packets told is before later w next i b e t split))
          where
            by_called : (o : Option Command) → o ≡ Some c.command →
                IsSomeAnd o (λ c. claims_of b l c ≡ event.Claim f k l ∷ []) → is_matched_probe c.command ≡ true
            by_called (Some (command.Mprobe m from tag ctx)) called same =
                ap is_matched_probe (sym (same_some (command.Mprobe m from tag ctx) c.command called))
            by_called None called same = absurd same
            by_called (Some d) called same = absurd (grind arith)

        by_command : (x : Command) → is_matched_probe x ≡ true →
            without_number y.what ∷ [] ≡ start_of shape.eager commands (grown ++ z) starts.command.line x → ⊥
        by_command (command.Mprobe m from tag ctx) probe start = grind arith
        by_command x probe start = false≢true probe

    -- so no receive is posted
    pub posts_same : posts (history_in before i) ≡ posts b
    posts_same =
        ap posts split ∙ filter_map-append (λ (e : Event). post_of e.what) b (e ∷ t)
        ∙ ap (λ (what : Happened). posts b ++ cons_option (post_of what) (posts t)) at
        ∙ ap (λ (ps : List post.Post). posts b ++ ps) (none_mapped (λ (e : Event). post_of e.what) t
        (by_splits (λ e. post_of e.what ≡ None) t [] t refl (λ z u rest so. by_event z u rest so u.what refl)))
        ∙ append-nil (posts b)
      where
        by_event : (z : List Event) (u : Event) (rest : List Event) → t ≡ z ++ u ∷ rest → (what : Happened) →
            u.what ≡ what → post_of what ≡ None
        by_event z u rest so (event.Post p own) posted = absurd (no_start z u rest so own (ap line_of posted))
        by_event z u rest so what other = refl

    -- no other claim comes behind it
    pub no_more_claims : (z : List Event) (y : Event) (rest : List Event) → t ≡ z ++ y ∷ rest → (f' k' l' : ℕ) →
        y.what ≡ event.Claim f' k' l' → ⊥
    no_more_claims z y rest so f' k' l' at' =
        false≢true (sym (none_claims l (since_command (grown ++ z))
        (subst (λ (what : Happened). IsDue shape.eager commands (grown ++ z) what) at'
        (due_at shape lines ranks packets told is before later w next i (grown ++ z) y rest
        (front_split z (y ∷ rest) so))).1) ∙ still_begun z (y ∷ rest) so)

    -- the message that was claimed is of no receive, and is not withdrawn
    module _ (a : Arrival) (inside : Contains (messages b) a)
        (free : is_free_message b (matched_pairs b) a.env.from a.n ≡ true) (f_is : a.env.from ≡ f) (k_is : a.n ≡ k)
      where
        parts : (x y z : Bool) → (not x && not y && not z) ≡ true → (x ≡ false) × (y ≡ false) × (z ≡ false)
        parts false false false all = (refl, refl, refl)
        parts true y z all = absurd (false≢true all)
        parts false true z all = absurd (false≢true all)
        parts false false true all = absurd (false≢true all)

        frees : (is_taken b a.env.from a.n ≡ false) × (happened (is_claim a.env.from a.n) b ≡ false)
            × (happened (is_withdraw a.env.from a.n true) b ≡ false)
        unfolding is_free_message
        frees =
            parts (is_taken b a.env.from a.n) (happened (is_claim a.env.from a.n) b)
            (happened (is_withdraw a.env.from a.n true) b) free

        pub early : a.n < length (arrivals b a.env.from)
        early =
            below a.n (length (arrivals b a.env.from))
            (sym (messages_numbered shape.ranks b
            (AtEach-prefix (λ b e. NumberAt shape.ranks b e.what) b (e ∷ t)
            (subst (λ (x : List Event). AtEach (λ b e. NumberAt shape.ranks b e.what) x) split
            (numbers_now shape lines ranks packets told is before later w next i))) a.env.from a.n)
            ∙ came_known b a inside)

        untaken_by : (z : List Event) (y : Event) (rest : List Event) → t ≡ z ++ y ∷ rest →
            is_taken (grown ++ z) a.env.from a.n ≡ false → is_taken ((grown ++ z) ++ y ∷ []) a.env.from a.n ≡ false
        untaken_by z y rest so was =
            ap (λ (ps : List Pair). list_any (is_of_message a.env.from a.n) ps) (matched_pairs-push (grown ++ z) y)
            ∙ list_any-append (is_of_message a.env.from a.n) (matched_pairs (grown ++ z))
            (option_to_list (new_pair (grown ++ z) (matched_pairs (grown ++ z)) y.what))
            ∙ ap (λ (x : Bool). x || list_any (is_of_message a.env.from a.n)
            (option_to_list (new_pair (grown ++ z) (matched_pairs (grown ++ z)) y.what))) was
            ∙ by_event y.what refl
          where
            by_receive : (x : Arrival) → y.what ≡ event.Arrive x → (o : Option post.Post) →
                list_any (is_of_message a.env.from a.n) (option_to_list (option_map (λ p. pair_of p x) o)) ≡ false
            by_receive x comes None = refl
            by_receive x comes (Some p) =
                not_true ((x.env.from == a.env.from && x.n == a.n) || false) (λ same.
                let both_same = sym (or_false (x.env.from == a.env.from && x.n == a.n)) ∙ same in
                let from_is : x.env.from ≡ a.env.from = same_number x.env.from a.env.from
                (and_left (x.env.from == a.env.from) (x.n == a.n) both_same) in
                let n_is : x.n ≡ a.n = same_number x.n a.n
                (and_right (x.env.from == a.env.from) (x.n == a.n) both_same) in
                let number : x.n ≡ length (arrivals (grown ++ z) x.env.from) =
                (subst (λ (what : Happened). NumberAt shape.ranks (grown ++ z) what) comes
                (number_at shape lines ranks packets told is before later w next i (grown ++ z) y rest
                (front_split z (y ∷ rest) so))).1 in
                let of_sender : length (arrivals (grown ++ z) x.env.from) ≡ length (arrivals (grown ++ z) a.env.from) =
                ap (λ (r : ℕ). length (arrivals (grown ++ z) r)) from_is in
                let count : length (arrivals (grown ++ z) a.env.from)
                ≡ length (arrivals b a.env.from) + length (arrivals (e ∷ z) a.env.from) =
                ap (λ (x : List Event). length (arrivals x a.env.from)) (append_assoc b (e ∷ []) z)
                ∙ ap length (arrivals-append b (e ∷ z) a.env.from)
                ∙ length-append (arrivals b a.env.from) (arrivals (e ∷ z) a.env.from) in
                absurd (omega (arith, early, n_is, number, of_sender, count)))

            by_event : (what : Happened) → y.what ≡ what →
                list_any (is_of_message a.env.from a.n)
                (option_to_list (new_pair (grown ++ z) (matched_pairs (grown ++ z)) what)) ≡ false
            by_event (event.Post p own) at' = absurd (no_start z y rest so own (ap line_of at'))
            by_event (event.Match number from n cap own) at' = absurd (no_start z y rest so own (ap line_of at'))
            by_event (event.Arrive x) at' =
                by_receive x at' (first_receive (grown ++ z) (matched_pairs (grown ++ z)) x.env)
            by_event what at' = refl

        untaken : (z rest : List Event) → t ≡ z ++ rest → is_taken (grown ++ z) a.env.from a.n ≡ false →
            is_taken ((grown ++ z) ++ rest) a.env.from a.n ≡ false
        untaken z [] so was = ap (λ (x : List Event). is_taken x a.env.from a.n) (append-nil (grown ++ z)) ∙ was
        untaken z (y ∷ rest) so was =
            ap (λ (x : List Event). is_taken x a.env.from a.n)
            (sym (append_assoc (grown ++ z) (y ∷ []) rest)
            ∙ ap (λ (x : List Event). x ++ rest) (append_assoc grown z (y ∷ [])))
            ∙ untaken (z ++ y ∷ []) rest (so ∙ sym (append_assoc z (y ∷ []) rest))
            (ap (λ (x : List Event). is_taken x a.env.from a.n) (sym (append_assoc grown z (y ∷ [])))
            ∙ untaken_by z y rest so was)

        pub not_taken : (w i).taken a.env.from a.n ≡ false
        not_taken =
            (next.places i).taken a.env.from a.n
            ∙ ap (λ (x : List Event). is_taken x a.env.from a.n)
            (split ∙ sym (append_assoc b (e ∷ []) t) ∙ ap (λ (x : List Event). x ++ t) (sym (append-nil grown)))
            ∙ untaken [] t refl
            (ap (λ (x : List Event). is_taken x a.env.from a.n) (append-nil grown)
            ∙ ap (λ (ps : List Pair). list_any (is_of_message a.env.from a.n) ps)
            (matched_pairs-push b e
            ∙ ap (λ (what : Happened). matched_pairs b ++ option_to_list (new_pair b (matched_pairs b) what)) at
            ∙ append-nil (matched_pairs b)) ∙ frees.0)

        pub not_withdrawn : (w i).withdrawn a.env.from a.n ≡ false
        not_withdrawn =
            not_true ((w i).withdrawn a.env.from a.n) (λ gone.
            let spot = split_any (is_withdraw a.env.from a.n true) h
            (sym ((next.places i).withdrawn a.env.from a.n) ∙ gone) in
            by_order spot.0 spot.1 spot.2 spot.3 spot.4 (two_splits b t spot.0 spot.2 e spot.1 (sym split ∙ spot.3)))
          where
            claimed_then : (b' : List Event) (y : Event) (t' : List Event) → h ≡ b' ++ y ∷ t' →
                is_withdraw a.env.from a.n true y.what ≡ true → happened (is_claim a.env.from a.n) b' ≡ true →
                true ≡ false
            claimed_then b' y t' split' goes claims =
                by_event y.what goes
                (at_event shape lines ranks packets told is before later w next i (λ b e. EndAt b e.what)
                (own_run shape lines ranks packets is.run i).ends b' y t' split')
              where
                is_not : is_free_message b' (matched_pairs b') a.env.from a.n ≡ false
                is_not = held_not_free b' a.env.from a.n claims

                same_true : (d : Bool) → is_same true d ≡ true → d ≡ true
                same_true true so = refl
                same_true false so = so

                by_event : (what : Happened) → is_withdraw a.env.from a.n true what ≡ true → EndAt b' what →
                    true ≡ false
                by_event (event.Withdraw from n done) same ends =
                    let names = and_left (from == a.env.from && n == a.n) (is_same true done) same in
                    let from_is : from ≡ a.env.from = same_number from a.env.from
                    (and_left (from == a.env.from) (n == a.n) names) in
                    let n_is : n ≡ a.n = same_number n a.n (and_right (from == a.env.from) (n == a.n) names) in
                    sym (same_true done (and_right (from == a.env.from && n == a.n) (is_same true done) same))
                    ∙ ends.3
                    ∙ ap (λ (x : ℕ). is_free_message b' (matched_pairs b') x n) from_is
                    ∙ ap (λ (x : ℕ). is_free_message b' (matched_pairs b') a.env.from x) n_is ∙ is_not
                by_event what same ends = absurd (false≢true same)

            claim_is : is_claim a.env.from a.n e.what ≡ true
            claim_is =
                ap (is_claim a.env.from a.n) at
                ∙ both (f == a.env.from) (k == a.n) (eq_true f a.env.from (sym f_is)) (eq_true k a.n (sym k_is))

            by_order : (b' : List Event) (y : Event) (t' : List Event) → h ≡ b' ++ y ∷ t' →
                is_withdraw a.env.from a.n true y.what ≡ true →
                ((z : List Event) × (b' ≡ b ++ e ∷ z)) ⊎ (((z : List Event) × (b ≡ b' ++ y ∷ z)) ⊎ (e ≡ y)) → ⊥
            by_order b' y t' split' goes (inl after) =
                false≢true (sym (claimed_then b' y t' split' goes
                (ap (happened (is_claim a.env.from a.n)) after.1
                ∙ happened-append (is_claim a.env.from a.n) b (e ∷ after.0)
                ∙ or_right (happened (is_claim a.env.from a.n) b)
                (is_claim a.env.from a.n e.what || happened (is_claim a.env.from a.n) after.0)
                (or_left (is_claim a.env.from a.n e.what) (happened (is_claim a.env.from a.n) after.0) claim_is))))
            by_order b' y t' split' goes (inr (inl earlier)) =
                false≢true (sym frees.2 ∙ ap (happened (is_withdraw a.env.from a.n true)) earlier.1
                ∙ happened-append (is_withdraw a.env.from a.n true) b' (y ∷ earlier.0)
                ∙ or_right (happened (is_withdraw a.env.from a.n true) b')
                (is_withdraw a.env.from a.n true y.what || happened (is_withdraw a.env.from a.n true) earlier.0)
                (or_left (is_withdraw a.env.from a.n true y.what)
                (happened (is_withdraw a.env.from a.n true) earlier.0) goes))
            by_order b' y t' split' goes (inr (inr one)) =
                false≢true (sym (ap (is_withdraw a.env.from a.n true) (ap (λ (x : Event). x.what) (sym one) ∙ at))
                ∙ goes)
