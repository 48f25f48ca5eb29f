-- A message that came and that no receive has: a handle has it, or no open receive selects it, also where its claim is
-- still under way. MPI 3.1, 3.5, 3.8.2.
use Rattle.std.proofs.Common.{◌≡◌, ◌⊎◌, inl, inr, ℕ, ◌-◌, ◌<◌, ◌==◌, ◌&&◌, ◌||◌, Bool, true, false, Option, Some, None}
use Rattle.std.proofs.Common.{List, [], ◌∷◌, ◌++◌, length, refl, sym, ◌∙◌, ap, subst, arith, append-nil}
use Rattle.std.proofs.Common.{append_assoc}
use Rattle.std.specs.Prelude.{Contains, IsSomeAnd}
use Rattle.std.specs.List.{cons_option, list_any, slice_get}
use Rattle.std.specs.Option.{option_map_or}
use Rattle.std.proofs.lemmas.Bool.{false≢true}
use Rattle.std.proofs.lemmas.Option.{get_or_from_slice_get}
use Rattle.std.proofs.lemmas.List.Elements.{Contains-append_left, filter_map-append}
use Rattle.std.proofs.lemmas.List.Folds.{list_any-append}
use Rattle.nm_types.specs.declared.messages.Arrival.{Arrival}
use Rattle.nm_types.specs.declared.messages.Envelope.{Envelope}
use Rattle.nm_types.specs.declared.messages.Peer.{Peer}
use Rattle.nm_types.specs.declared.messages.Post as post
use Rattle.nm_types.specs.declared.messages.TagPick.{TagPick}
use Rattle.nm_types.specs.declared.scripts.Command.{Command}
use Rattle.nm_types.specs.declared.scripts.Command.TheVariants as command
use Rattle.nm_types.specs.declared.scripts.Line.{Line}
use Rattle.nm_types.specs.Commands.{Numbered, command_at, commands_of}
use Rattle.nm_types.specs.Sizes.{Sizes}
use Rattle.nm_types.proofs.ListLemmas.{find_passes, get_some, map_length}
use Rattle.nm_types.proofs.NumberLemmas.{same_number}
use Rattle.nm_types.proofs.TruthLemmas.{and_left, and_right}
use Rattle.nm_history.specs.declared.events.Event.{Event}
use Rattle.nm_history.specs.declared.events.Happened.{Happened}
use Rattle.nm_history.specs.declared.events.Happened.TheVariants as event
use Rattle.nm_history.specs.Happens.{happened, is_claim}
use Rattle.nm_history.specs.Matching.{first_message, is_free, is_open, matched_pairs}
use Rattle.nm_history.specs.Quiescence.{Ended, Packets}
use Rattle.nm_history.specs.RankRun.{ClaimAt, claim_of as claims_of, line_of_claim, ran_lines, ran_of}
use Rattle.nm_history.specs.RankRun.{since_after, since_command}
use Rattle.nm_history.specs.Selection.{matches}
use Rattle.nm_history.specs.Sends.{Sent, arrival_of, envelope, messages, posts, sends}
use Rattle.nm_history.specs.Underway.{is_answer}
use Rattle.nm_history.proofs.AtEachLemmas.{AtEach-from_splits}
use Rattle.nm_history.proofs.RankRunLemmas.{no_answer, ran_lines-push, since-push}
use Rattle.nm_history.proofs.SelectionLemmas.{find_contains, none_missed}
use Rattle.nm_match.specs.Deeds.{is_known_message}
use Rattle.nm_outcomes.specs.Due.{IsAnswerOf, IsDue, IsNextCommand}
use Rattle.nm_outcomes.specs.Logs.{Step, history_in}
use Rattle.nm_outcomes.specs.Places.{RankPoint}
use Rattle.nm_outcomes.proofs.Bodies.{came_known}
use Rattle.nm_outcomes.proofs.HappenedLemmas.{history_induction, split_any}
use Rattle.nm_outcomes.proofs.MoveLemmas.{free_is}
use Rattle.nm_lawful.specs.Moves.{Report}
use Rattle.nm_lawful.specs.Ranks.{is_claimed_lem}
use Rattle.nm_runs_lawful.specs.Stands.{IsRunTold, IsSoFar, message_at, rank_of}
use Rattle.nm_runs_lawful.proofs.ArrivedLemmas.{env_is}
use Rattle.nm_runs_lawful.proofs.ClaimedLemmas.{claims_at}
use Rattle.nm_runs_lawful.proofs.ThereLemmas.{claim_there}
use Rattle.nm_runs_lawful.proofs.HeldLemmas.{message_twice, twice}
use Rattle.nm_runs_lawful.proofs.KnownLemmas.{known_sent}
use Rattle.nm_runs_lawful.proofs.LookedLemmas.{posts_same}
use Rattle.nm_runs_lawful.proofs.OnceLemmas.{due_at}
use Rattle.nm_runs_lawful.proofs.ShownLemmas.{front_open}
use Rattle.nm_runs_lawful.proofs.UniqueLemmas.{two_splits}

-- an event since the last answer, behind which no line ran
record IsSince (test : Happened → Bool) (h : List Event) : Type 0 where
  b : List Event
  e : Event
  t : List Event
  split : h ≡ b ++ e ∷ t
  passes : test e.what ≡ true
  lines : ran_lines h ≡ ran_lines (b ++ e ∷ [])

since_split : (test : Happened → Bool) (h : List Event) → list_any test (since_command h) ≡ true → IsSince test h
since_split test h =
    history_induction (λ b e. Unit {0}) (λ h. list_any test (since_command h) ≡ true → IsSince test h)
    (λ h e was any. grow h e was) (λ none. absurd (false≢true none)) h
    (AtEach-from_splits (λ b e. Unit {0}) h (λ b e t split. tt))
  where
    grow : (h : List Event) (e : Event) → (list_any test (since_command h) ≡ true → IsSince test h) →
        list_any test (since_command (h ++ e ∷ [])) ≡ true → IsSince test (h ++ e ∷ [])
    grow h e was some =
        by_event e.what refl (sym (ap (λ (ws : List Happened). list_any test ws) (since-push h e)) ∙ some)
      where
        later : (what : Happened) → e.what ≡ what → is_answer what ≡ false → IsSince test h →
            IsSince test (h ++ e ∷ [])
        later what at quiet found =
            record {
              b = found.b;
              e = found.e;
              t = found.t ++ e ∷ [];
              split = ap (λ (k : List Event). k ++ e ∷ []) found.split
                  ∙ append_assoc found.b (found.e ∷ found.t) (e ∷ []);
              passes = found.passes;
              lines = ran_lines-push h e
                  ∙ ap (λ (o : Option ℕ). ran_lines h ++ cons_option o [])
                  (no_answer e.what (ap is_answer at ∙ quiet))
                  ∙ append-nil (ran_lines h) ∙ found.lines;
            }

        either : (what : Happened) → e.what ≡ what → is_answer what ≡ false → (x y : Bool) →
            list_any test (since_command h) ≡ x → test what ≡ y → (x || (y || false)) ≡ true →
            IsSince test (h ++ e ∷ [])
        either what at quiet true y front last some = later what at quiet (was front)
        either what at quiet false true front last some =
            record { b = h; e = e; t = []; split = refl; passes = ap test at ∙ last; lines = refl }
        either what at quiet false false front last some = absurd (false≢true some)

        quietly : (what : Happened) → e.what ≡ what → is_answer what ≡ false →
            list_any test (since_command h ++ what ∷ []) ≡ true → IsSince test (h ++ e ∷ [])
        quietly what at quiet some =
            either what at quiet (list_any test (since_command h)) (test what) refl refl
            (sym (list_any-append test (since_command h) (what ∷ [])) ∙ some)

        by_event : (what : Happened) → e.what ≡ what → list_any test (since_after (since_command h) what) ≡ true →
            IsSince test (h ++ e ∷ [])
        by_event (event.Ran line a) at some = absurd (false≢true some)
        by_event what at some = quietly what at refl some

module _ (shape : Sizes) (lines : List Line) (ranks : List Ended) (packets : List Packets) (told : Report)
    (is : IsRunTold shape lines ranks packets told) (before : List Step) (later : List Step)
    (w : ℕ → RankPoint) (next : IsSoFar shape lines ranks before later w) (i : ℕ)
  where
    abbrev commands : List Numbered
    commands = commands_of i lines

    abbrev h : List Event
    h = history_in before i

    -- messages of one number have one envelope
    same_env : (a a' : Arrival) → Contains (messages h) a → Contains (messages h) a' → a.env.from ≡ a'.env.from →
        a.n ≡ a'.n → a.env ≡ a'.env
    same_env a a' inside inside' from number =
        let known : is_known_message h a.env.from a.n ≡ true = came_known h a inside in
        let low : a.n < length ((w a.env.from).lines i) =
        known_sent shape lines ranks packets told is before later w next i a.env.from a.n known in
        let count : length ((w a.env.from).lines i) ≡ length (sends (history_in before a.env.from) i) =
        ap (λ (ls : List ℕ). length ls) ((next.places a.env.from).lines i)
        ∙ map_length (λ (s : Sent). s.line) (sends (history_in before a.env.from) i) in
        let x = get_some (sends (history_in before a.env.from) i) a.n (omega (arith, low, count)) in
        env_is shape lines ranks packets told is before later w next i a inside x.0 x.1
        ∙ ap (λ (r : ℕ). envelope r x.0) from
        ∙ sym (env_is shape lines ranks packets told is before later w next i a' inside' x.0
        (ap (λ (r : ℕ). slice_get (sends (history_in before r) i) a'.n) (sym from)
        ∙ ap (λ (k : ℕ). slice_get (sends (history_in before a.env.from) i) k) (sym number) ∙ x.1))

    -- A claim that is under way: its message was free, and so is selected by no receive that is open now.
    module _ (b : List Event) (e : Event) (t : List Event) (split : h ≡ b ++ e ∷ t) (f k l : ℕ)
        (at : e.what ≡ event.Claim f k l) (ran : ran_lines h ≡ ran_lines (b ++ e ∷ [])) (p : post.Post)
        (posted : Contains (posts h) p) (opened : is_open h (matched_pairs h) p ≡ true) (a : Arrival)
        (inside : Contains (messages h) a) (from_is : a.env.from ≡ f) (number_is : a.n ≡ k)
      where
        due : IsAnswerOf commands b l
        due = (subst (λ (what : Happened). IsDue shape.eager commands b what) at
            (due_at shape lines ranks packets told is before later w next i b e t split)).0

        due_now : IsNextCommand commands h due.command
        due_now =
            ap (λ (ls : List ℕ). slice_get commands (length ls))
            (ran ∙ ran_lines-push b e
            ∙ ap (λ (what : Happened). ran_lines b ++ cons_option (ran_of what) []) at ∙ append-nil (ran_lines b))
            ∙ due.next

        by_first : (from : Peer) (tag : TagPick) (ctx : ℕ) (a0 : Arrival) →
            first_message b (matched_pairs b) from tag ctx ≡ Some a0 → a0.env.from ≡ f → a0.n ≡ k →
            matches p.from p.tag p.ctx a.env ≡ false
        by_first from tag ctx a0 found one two =
            let passes = find_passes (λ (x : Arrival). matches from tag ctx x.env && is_free b (matched_pairs b) x)
            (messages b) a0 found in
            let inside_then = find_contains (λ (x : Arrival). matches from tag ctx x.env
            && is_free b (matched_pairs b) x) (messages b) a0 found in
            let inside_now : Contains (messages h) a0 =
            subst (λ (xs : List Arrival). Contains xs a0)
            (sym (ap messages split ∙ filter_map-append (λ (e : Event). arrival_of e.what) b (e ∷ t)))
            (Contains-append_left (messages b) (messages (e ∷ t)) a0 inside_then) in
            ap (λ (x : Envelope). matches p.from p.tag p.ctx x)
            (same_env a a0 inside inside_now (from_is ∙ sym one) (number_is ∙ sym two))
            ∙ none_missed b p a0
            (subst (λ (ps : List post.Post). Contains ps p)
            (posts_same shape lines ranks packets told is before later w next i b e t split f k l at due.command due_now
            due.line_is) posted)
            inside_then
            (front_open b (e ∷ t) p (subst (λ (x : List Event). is_open x (matched_pairs x) p ≡ true) split opened))
            (and_right (matches from tag ctx a0.env) (is_free b (matched_pairs b) a0) passes)

        not_selected : matches p.from p.tag p.ctx a.env ≡ false
        not_selected =
            by_command (command_at commands l)
            (subst (λ (what : Happened). ClaimAt commands b what) at
            (claims_at shape lines ranks packets told is before later w next i b e t split))
          where
            by_found : (o : Option Arrival) → option_map_or (λ (a : Arrival). event.Claim a.env.from a.n l ∷ []) o []
                ≡ event.Claim f k l ∷ [] →
                (a : Arrival) × (o ≡ Some a) × (a.env.from ≡ f) × (a.n ≡ k)
            by_found None same = absurd (grind arith)
            by_found (Some a) same = (a, refl, cc, cc)

            by_command : (o : Option Command) → IsSomeAnd o (λ c. claims_of b l c ≡ event.Claim f k l ∷ []) →
                matches p.from p.tag p.ctx a.env ≡ false
            by_command (Some (command.Mprobe m from tag ctx)) same =
                let found = by_found (first_message b (matched_pairs b) from tag ctx) same in
                by_first from tag ctx found.0 found.1 found.2 found.3
            by_command None same = absurd same
            by_command (Some c) same = absurd (grind arith)

    -- A message that came and that no receive has: a handle has it, or no receive that is open selects it.
    module _ (p : post.Post) (posted : Contains (posts (history_in before i)) p)
        (opened : is_open (history_in before i) (matched_pairs (history_in before i)) p ≡ true) (a : Arrival)
        (inside : Contains (messages (history_in before i)) a)
        (gone : ((w i).taken a.env.from a.n ≡ false) × ((w i).withdrawn a.env.from a.n ≡ false))
      where
        abbrev j : ℕ
        j = a.env.from

        line : (own : ℕ) × (slice_get ((w j).lines i) a.n ≡ Some own)
        line =
            get_some ((w j).lines i) a.n
            (known_sent shape lines ranks packets told is before later w next i j a.n (came_known h a inside))

        -- its claim
        module _ (b : List Event) (e : Event) (t : List Event) (split : h ≡ b ++ e ∷ t) (l : ℕ)
            (at : e.what ≡ event.Claim a.env.from a.n l)
          where
            abbrev test : Happened → Bool
            test what = option_map_or (λ x. x == l) (line_of_claim what) false

            -- the claims of the message are this one
            one_line : (b' : List Event) (e' : Event) (t' : List Event) → h ≡ b' ++ e' ∷ t' → (l' : ℕ) →
                e'.what ≡ event.Claim j a.n l' → l ≡ l'
            one_line b' e' t' split' l' at' = by_order (two_splits b t b' t' e e' (sym split ∙ split'))
              where
                by_order : ((m : List Event) × (b' ≡ b ++ e ∷ m)) ⊎ (((m : List Event) × (b ≡ b' ++ e' ∷ m))
                    ⊎ (e ≡ e')) → l ≡ l'
                by_order (inl after) =
                    absurd (message_twice shape lines ranks packets told is before later w next i b e after.0 e' t'
                    (split' ∙ ap (λ (z : List Event). z ++ e' ∷ t') after.1) j a.n l l' at at')
                by_order (inr (inl early)) =
                    absurd (message_twice shape lines ranks packets told is before later w next i b' e' early.0 e t
                    (split ∙ ap (λ (z : List Event). z ++ e ∷ t) early.1) j a.n l' l at' at)
                by_order (inr (inr one)) =
                    let equal : event.Claim j a.n l ≡ event.Claim j a.n l' =
                    sym at ∙ ap (λ (z : Event). z.what) one ∙ at' in
                    cc

            under_way : list_any test (since_command h) ≡ true → matches p.from p.tag p.ctx a.env ≡ false
            under_way some = by_event last.e.what refl last.passes
              where
                last : IsSince test h
                last = since_split test h some

                by_order : (f k l' : ℕ) → last.e.what ≡ event.Claim f k l' → l' ≡ l →
                    ((m : List Event) × (last.b ≡ b ++ e ∷ m)) ⊎ (((m : List Event) × (b ≡ last.b ++ last.e ∷ m))
                    ⊎ (e ≡ last.e)) → matches p.from p.tag p.ctx a.env ≡ false
                by_order f k l' so same (inl after) =
                    absurd (twice shape lines ranks packets told is before later w next i b e after.0 last.e last.t
                    (last.split ∙ ap (λ (z : List Event). z ++ last.e ∷ last.t) after.1) j a.n f k l at
                    (so ∙ ap (λ (x : ℕ). event.Claim f k x) same))
                by_order f k l' so same (inr (inl early)) =
                    absurd (twice shape lines ranks packets told is before later w next i last.b last.e early.0 e t
                    (split ∙ ap (λ (z : List Event). z ++ e ∷ t) early.1) f k j a.n l
                    (so ∙ ap (λ (x : ℕ). event.Claim f k x) same) at)
                by_order f k l' so same (inr (inr one)) =
                    not_selected last.b last.e last.t last.split j a.n l (ap (λ (z : Event). z.what) (sym one) ∙ at)
                    last.lines p posted opened a inside refl refl

                by_event : (what : Happened) → last.e.what ≡ what → test what ≡ true →
                    matches p.from p.tag p.ctx a.env ≡ false
                by_event (event.Claim f k l') so passes =
                    by_order f k l' so (same_number l' l passes)
                    (two_splits b t last.b last.t e last.e (sym split ∙ last.split))
                by_event what so passes = absurd (false≢true passes)

            by_since : happened (is_claim j a.n) h ≡ true → (x : Bool) → list_any test (since_command h) ≡ x →
                (is_claimed_lem (rank_of lines w (history_in before) i) (message_at w i a) ≡ true)
                ⊎ (matches p.from p.tag p.ctx a.env ≡ false)
            by_since claimed true some = inr (under_way some)
            by_since claimed false none =
                inl (claim_there shape lines ranks packets told is before later w next i j a.n line.0 line.1 gone.0
                (λ b' e' t' split' l' at'. subst (λ (x : ℕ).
                list_any (λ (what : Happened). option_map_or (λ y. y == x) (line_of_claim what) false)
                (since_command h) ≡ false) (one_line b' e' t' split' l' at') none)
                claimed (message_at w i a)
                (ap (λ (x : ℕ). x - 2) (get_or_from_slice_get ((w j).lines i) a.n line.0 0 line.1)))

        pub claimed_or_missed :
            (is_claimed_lem (rank_of lines w (history_in before) i) (message_at w i a) ≡ true)
            ⊎ (matches p.from p.tag p.ctx a.env ≡ false)
        claimed_or_missed = by_claim (happened (is_claim j a.n) h) refl
          where
            by_claim : (x : Bool) → happened (is_claim j a.n) h ≡ x →
                (is_claimed_lem (rank_of lines w (history_in before) i) (message_at w i a) ≡ true)
                ⊎ (matches p.from p.tag p.ctx a.env ≡ false)
            by_claim true claimed =
                let spot = split_any (is_claim j a.n) h claimed in
                by_event spot.0 spot.1 spot.2 spot.3 spot.1.what refl spot.4
              where
                by_event : (b : List Event) (e : Event) (t : List Event) → h ≡ b ++ e ∷ t → (what : Happened) →
                    e.what ≡ what → is_claim j a.n what ≡ true →
                    (is_claimed_lem (rank_of lines w (history_in before) i) (message_at w i a) ≡ true)
                    ⊎ (matches p.from p.tag p.ctx a.env ≡ false)
                by_event b e t split (event.Claim f k l) so same =
                    by_since b e t split l
                    (so
                    ∙ ap (λ (x : ℕ). event.Claim x k l) (same_number f j (and_left (f == j) (k == a.n) same))
                    ∙ ap (λ (x : ℕ). event.Claim j x l) (same_number k a.n (and_right (f == j) (k == a.n) same)))
                    claimed
                    (list_any (λ (what : Happened). option_map_or (λ x. x == l) (line_of_claim what) false)
                    (since_command h)) refl
                by_event b e t split what so same = absurd (false≢true same)
            by_claim false unclaimed =
                inr (none_missed h p a posted inside opened
                (sym (free_is i commands h (w i) (next.places i) j a.n)
                ∙ rw (gone.0, (next.places i).claimed j a.n ∙ unclaimed, gone.1) refl))
