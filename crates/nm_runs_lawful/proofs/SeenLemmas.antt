-- A probe or an await that shows a message. MPI 3.1, 3.8.1.
use Rattle.std.proofs.Common.{◌≡◌, ℕ, ◌+◌, ◌-◌, ◌<◌, ◌==◌, ◌&&◌, ◌||◌, Bool, true, false, cond, not, Option, Some}
use Rattle.std.proofs.Common.{None, List, []}
use Rattle.std.proofs.Common.{◌++◌, ◌∷◌, refl, sym, ◌∙◌, ap, subst, arith}
use Rattle.std.specs.Prelude.{Contains, option_and_then, option_map}
use Rattle.std.specs.Option.{option_map_or}
use Rattle.std.proofs.lemmas.Bool.{false≢true}
use Rattle.nm_types.specs.declared.answers.Answer.TheVariants as answer
use Rattle.nm_types.specs.declared.messages.Arrival.{Arrival}
use Rattle.nm_types.specs.declared.messages.Peer.{Peer}
use Rattle.nm_types.specs.declared.messages.Seen.{Seen}
use Rattle.nm_types.specs.declared.messages.TagPick.{TagPick}
use Rattle.nm_types.specs.declared.scripts.Command.{Command}
use Rattle.nm_types.specs.declared.scripts.Command.TheVariants as command
use Rattle.nm_types.specs.declared.scripts.Line.{Line}
use Rattle.nm_types.specs.Commands.{Numbered, command_at, commands_of}
use Rattle.nm_types.specs.Sizes.{Sizes}
use Rattle.nm_types.proofs.ListLemmas.{find_passes}
use Rattle.nm_types.proofs.NumberLemmas.{eq_true}
use Rattle.nm_types.proofs.OptionLemmas.{no_some, same_some}
use Rattle.nm_types.proofs.TruthLemmas.{and_left, and_right, both, or_left, or_right}
use Rattle.nm_history.specs.declared.events.Event.{Event}
use Rattle.nm_history.specs.declared.events.Happened.{Happened}
use Rattle.nm_history.specs.declared.events.Happened.TheVariants as event
use Rattle.nm_history.specs.Answers.{claim_line_after, is_claim_for, is_receive_of, seen}
use Rattle.nm_history.specs.AtEach.{AtEach}
use Rattle.nm_history.specs.Matching.{first_message, is_free, matched_pairs}
use Rattle.nm_history.specs.Quiescence.{Ended, Packets}
use Rattle.nm_history.specs.RankRun.{ClaimAt, NumberAt, claims_since, is_canceller, is_matched_probe, since_command}
use Rattle.nm_history.specs.Selection.{matches}
use Rattle.nm_history.specs.Sends.{messages}
use Rattle.nm_history.specs.Happens.{happened, is_claim}
use Rattle.nm_history.proofs.AtEachLemmas.{AtEach-from_splits}
use Rattle.nm_history.proofs.EachLemmas.{AtEach-prefix}
use Rattle.nm_history.proofs.SelectionLemmas.{find_contains, none_missed}
use Rattle.nm_history.proofs.Sent.{happened-append}
use Rattle.nm_match.proofs.NumberLemmas.{messages_numbered}
use Rattle.nm_outcomes.specs.Logs.{Step, history_in}
use Rattle.nm_outcomes.specs.Moves.{MayAnswer, found_in}
use Rattle.nm_outcomes.specs.Places.{RankPoint}
use Rattle.nm_outcomes.proofs.MoveLemmas.{found_is, free_is}
use Rattle.nm_lawful.specs.declared.messages.Act.{Act}
use Rattle.nm_lawful.specs.declared.messages.Act.TheVariants as act
use Rattle.nm_lawful.specs.declared.messages.Message.{Message}
use Rattle.nm_lawful.specs.declared.messages.Request.{Request}
use Rattle.nm_lawful.specs.Moves.{Report}
use Rattle.nm_lawful.specs.Ranks.{RankState, first_to_lem, receiver_of_lem, shown_to_lem}
use Rattle.nm_lawful.specs.Replies.{looked_lem, pattern_lem}
use Rattle.nm_runs_lawful.specs.Stands.{IsNext, IsRunTold, StepLeads, claim_by}
use Rattle.nm_runs_lawful.specs.Stands.{message_at, rank_of, state_of}
use Rattle.nm_runs_lawful.proofs.AnsweredLemmas.{and_nothing, answered_alike, due, here, idle, name_kept, not_begun}
use Rattle.nm_runs_lawful.proofs.AnsweredLemmas.{pass_leads}
use Rattle.nm_runs_lawful.proofs.ArrivedLemmas.{sender_within}
use Rattle.nm_runs_lawful.proofs.FirstLemmas.{first_is}
use Rattle.nm_runs_lawful.proofs.HeldLemmas.{none_claims}
use Rattle.nm_runs_lawful.proofs.NamedLemmas.{act_at, command_due, may_here}
use Rattle.nm_runs_lawful.proofs.OnceLemmas.{number_at, numbers_now}
use Rattle.nm_runs_lawful.proofs.OpenLemmas.{no_receiver}
use Rattle.nm_runs_lawful.proofs.OrderLemmas.{IsNumbered, first_of_sender}
use Rattle.nm_runs_lawful.proofs.RunLemmas.{row_of}

module _ (shape : Sizes) (lines : List Line) (ranks : List Ended) (packets : List Packets) (told : Report)
    (is : IsRunTold shape lines ranks packets told) (before : List Step) (s : Step) (later : List Step)
    (w : ℕ → RankPoint) (next : IsNext shape lines ranks before s later w)
  where
    -- the first message that is found is shown by the machine
    module _ (i : ℕ) (none : claims_since (history_in before i) ≡ []) (from : Peer) (tag : TagPick) (ctx : ℕ)
        (a : Arrival)
        (found : first_message (history_in before i) (matched_pairs (history_in before i)) from tag ctx ≡ Some a)
      where
        abbrev h : List Event
        h = history_in before i

        abbrev test : Arrival → Bool
        test a = matches from tag ctx a.env && is_free h (matched_pairs h) a

        pub inside : Contains (messages (history_in before i)) a
        inside = find_contains test (messages h) a found

        passes : test a ≡ true
        passes = find_passes test (messages h) a found

        pub selected : matches from tag ctx a.env ≡ true
        selected = and_left (matches from tag ctx a.env) (is_free h (matched_pairs h) a) passes

        free : is_free h (matched_pairs h) a ≡ true
        free = and_right (matches from tag ctx a.env) (is_free h (matched_pairs h) a) passes

        numbered : AtEach (λ b e. IsNumbered shape.ranks b e.what) h
        numbered =
            AtEach-from_splits (λ b e. IsNumbered shape.ranks b e.what) h (λ b e t split. record {
              number = number_at shape lines ranks packets told is before (s ∷ later) w next.so_far i b e t split;
              known = messages_numbered shape.ranks b
                  (AtEach-prefix (λ b e. NumberAt shape.ranks b e.what) b (e ∷ t)
                  (subst (λ (k : List Event). AtEach (λ b e. NumberAt shape.ranks b e.what) k) split
                  (numbers_now shape lines ranks packets told is before (s ∷ later) w next.so_far i)));
            })

        earlier : (a' : Arrival) → Contains (messages h) a' → a'.env.from ≡ a.env.from → a'.n < a.n →
            is_free h (matched_pairs h) a' ≡ true → matches from tag ctx a'.env ≡ false
        earlier a' there same low free' =
            fails (matches from tag ctx a'.env) (is_free h (matched_pairs h) a')
            (first_of_sender shape.ranks test h numbered a a' found there same low) free'
          where
            fails : (x y : Bool) → (x && y) ≡ false → y ≡ true → x ≡ false
            fails true y none so = absurd (false≢true (sym none ∙ so))
            fails false y none so = refl

        frees : ((w i).taken a.env.from a.n ≡ false) × ((w i).claimed a.env.from a.n ≡ false)
            × ((w i).withdrawn a.env.from a.n ≡ false)
        frees =
            parts ((w i).taken a.env.from a.n) ((w i).claimed a.env.from a.n) ((w i).withdrawn a.env.from a.n)
            (free_is i (commands_of i lines) h (w i) (next.so_far.places i) a.env.from a.n ∙ free)
          where
            parts : (x y z : Bool) → (not x && not y && not z) ≡ true → (x ≡ false) × (y ≡ false) × (z ≡ false)
            parts false false false all = (refl, refl, refl)
            parts true y z all = absurd (false≢true all)
            parts false true z all = absurd (false≢true all)
            parts false false true all = absurd (false≢true all)

        -- it was not claimed
        unheld : (b : List Event) (e : Event) (t : List Event) → h ≡ b ++ e ∷ t → (l : ℕ) →
            e.what ≡ event.Claim a.env.from a.n l → claim_by (commands_of i lines) w i e.what ≡ None
        unheld b e t split l at =
            absurd (false≢true (sym (sym ((next.so_far.places i).claimed a.env.from a.n) ∙ frees.1)
            ∙ ap (happened (is_claim a.env.from a.n)) split
            ∙ happened-append (is_claim a.env.from a.n) b (e ∷ t)
            ∙ or_right (happened (is_claim a.env.from a.n) b)
            (is_claim a.env.from a.n e.what || happened (is_claim a.env.from a.n) t)
            (or_left (is_claim a.env.from a.n e.what) (happened (is_claim a.env.from a.n) t)
            (ap (is_claim a.env.from a.n) at
            ∙ both (a.env.from == a.env.from) (a.n == a.n) (eq_true a.env.from a.env.from refl)
            (eq_true a.n a.n refl)))))

        abbrev row : ℕ → RankState
        row = rank_of lines w (history_in before)

        pub first_pending : first_to_lem (rank_of lines w (history_in before) a.env.from) i
            (rank_of lines w (history_in before) i) (pattern_lem from tag ctx) ≡ Some (message_at w i a)
        first_pending =
            first_is shape lines ranks packets told is before (s ∷ later) w next.so_far i a inside (frees.0, frees.2)
            unheld from tag ctx selected (λ b e t split f k l at other. none_claims l (since_command h) none) earlier

        pub none_receives : receiver_of_lem (rank_of lines w (history_in before) i) (message_at w i a) ≡ None
        none_receives =
            no_receiver shape lines ranks packets told is before (s ∷ later) w next.so_far i a
            (λ p posted opened. none_missed h p a posted inside opened free)

        abbrev shows : Option Message
        shows = shown_to_lem (row a.env.from) i (row i) (pattern_lem from tag ctx)

        shown : shows ≡ Some (message_at w i a)
        shown =
            ap (λ (o : Option Message). option_map_or
            (λ m. option_map_or (λ r. None) (receiver_of_lem (row i) m) (Some m)) o None) first_pending
            ∙ ap (λ (o : Option Request). option_map_or (λ r. None) o (Some (message_at w i a))) none_receives

        pub looked : (does : Message → Act) →
            looked_lem does (state_of shape.ranks lines w before) i (rank_of lines w (history_in before) i)
            (pattern_lem from tag ctx) (seen a) ≡ Some (does (message_at w i a))
        looked does =
            ap (λ (o : Option RankState). option_map does (option_and_then
            (λ (m : Message). cond (m.tag == a.env.tag && m.len == a.env.len) (Some m) None)
            (option_and_then (λ sender. shown_to_lem sender i (row i) (pattern_lem from tag ctx)) o)))
            (row_of row a.env.from 0 shape.ranks
            (sender_within shape lines ranks packets told is before (s ∷ later) w next.so_far i a inside)
            ∙ ap (λ (k : ℕ). Some (row k)) (zero_add a.env.from))
            ∙ ap (λ (o : Option Message). option_map does (option_and_then
            (λ (m : Message). cond (m.tag == a.env.tag && m.len == a.env.len) (Some m) None) o)) shown
            ∙ ap (λ (x : Bool). option_map does (cond x (Some (message_at w i a)) None))
            (both (a.env.tag == a.env.tag) (a.env.len == a.env.len) (eq_true a.env.tag a.env.tag refl)
            (eq_true a.env.len a.env.len refl))
          where
            zero_add : (n : ℕ) → 0 + n ≡ n
            zero_add n = omega arith

    -- a command that only looks
    module _ (line : ℕ) (x : Seen) (ran : s.event.what ≡ event.Ran line (answer.Seen x)) (c : Command)
        (calls : command_due shape lines ranks packets told is before s later w next line (answer.Seen x) ran ≡ c)
        (no_probe : is_matched_probe c ≡ false) (no_claims : (m : ℕ) → is_claim_for m c ≡ false)
        (no_cancel : is_canceller c ≡ false) (from : Peer) (tag : TagPick) (ctx : ℕ) (a : Arrival)
        (found : found_in (w s.rank) from tag ctx ≡ Some a) (shows : seen a ≡ answer.Seen x)
      where
        abbrev i : ℕ
        i = s.rank

        abbrev commands : List Numbered
        commands = commands_of s.rank lines

        command_is : command_at commands line ≡ Some c
        command_is =
            here shape lines ranks packets told is before s later w next line (answer.Seen x) ran
            ∙ ap (λ (c : Command). Some c) calls

        none : claims_since (history_in before i) ≡ []
        none =
            subst (λ (what : Happened). ClaimAt commands (history_in before i) what) ran next.comes.own.claims
            ∙ ap (λ (o : Option Command). cond (option_map_or is_matched_probe o false && true) (line ∷ []) [])
            command_is
            ∙ ap (λ (y : Bool). cond (y && true) (line ∷ []) []) no_probe

        begun : (w i).begun ≡ []
        begun = not_begun shape lines ranks packets told is before s later w next line (answer.Seen x) ran refl

        found_first : first_message (history_in before i) (matched_pairs (history_in before i)) from tag ctx ≡ Some a
        found_first = sym (found_is i commands (history_in before i) (w i) (next.so_far.places i) from tag ctx) ∙ found

        pub seen_leads : ((place : ℕ) → act_at shape lines ranks packets told is before s later w next line place c
            (Some (answer.Seen x))
            ≡ looked_lem (λ m. act.Pass) (state_of shape.ranks lines w before) s.rank
            (rank_of lines w (history_in before) s.rank) (pattern_lem from tag ctx) (answer.Seen x)) →
            StepLeads shape lines told before s w
        seen_leads looks =
            let d = due shape lines ranks packets told is before s later w next
            line (answer.Seen x) ran in
            pass_leads shape lines ranks packets told is before s later w next line (answer.Seen x) ran refl
            (idle shape lines ranks packets told is before s later w next line (answer.Seen x) ran refl
            (ap is_canceller calls ∙ no_cancel))
            (answered_alike i commands (w i) line (answer.Seen x) begun
            (λ q. name_kept commands q ((w i).named q) line (answer.Seen x) refl refl)
            (λ m. handle_same m ((w i).handled m)))
            (ap (λ (c : Command). act_at shape lines ranks packets told is before s later w next line
            (d.command.line - 2) c (Some (answer.Seen x))) calls
            ∙ looks (d.command.line - 2)
            ∙ ap (looked_lem (λ m. act.Pass) (state_of shape.ranks lines w before) i
            (rank_of lines w (history_in before) i) (pattern_lem from tag ctx)) (sym shows)
            ∙ looked i none from tag ctx a found_first (λ m. act.Pass))
          where
            handle_same : (m : ℕ) (was : Option ℕ) →
                claim_line_after commands m was (event.Ran line (answer.Seen x)) ≡ was
            handle_same m was =
                ap (λ (o : Option Command). cond (option_map_or (is_claim_for m) o false && true) (Some line)
                (cond (option_map_or (is_receive_of m) (command_at commands line) false && false) None was)) command_is
                ∙ ap (λ (y : Bool). cond (y && true) (Some line)
                (cond (option_map_or (is_receive_of m) (command_at commands line) false && false) None was))
                (no_claims m)
                ∙ ap (λ (y : Bool). cond y None was)
                (and_nothing (option_map_or (is_receive_of m) (command_at commands line) false))

    -- a probe that shows a message, and an await
    pub probe_seen : (line : ℕ) (x : Seen) (ran : s.event.what ≡ event.Ran line (answer.Seen x)) (from : Peer)
        (tag : TagPick) (ctx : ℕ) →
        command_due shape lines ranks packets told is before s later w next line (answer.Seen x) ran
        ≡ command.Probe from tag ctx → StepLeads shape lines told before s w
    probe_seen line x ran from tag ctx probes =
        let may = subst (λ (c : Command). MayAnswer w s.rank line c (answer.Seen x)) probes
        (may_here shape lines ranks packets told is before s later w next line (answer.Seen x) ran) in
        let two = by_found (found_in (w s.rank) from tag ctx) refl may in
        seen_leads line x ran (command.Probe from tag ctx) probes refl (λ m. refl) refl from tag ctx two.0 two.1 two.2
        (λ place. refl)
      where
        by_found : (o : Option Arrival) → found_in (w s.rank) from tag ctx ≡ o →
            Some (option_map_or seen o answer.Nothing) ≡ Some (answer.Seen x) →
            (a : Arrival) × (found_in (w s.rank) from tag ctx ≡ Some a) × (seen a ≡ answer.Seen x)
        by_found None found may = absurd (grind arith)
        by_found (Some a) found may = (a, found, same_some (seen a) (answer.Seen x) may)

    pub await_seen : (line : ℕ) (x : Seen) (ran : s.event.what ≡ event.Ran line (answer.Seen x)) (from : Peer)
        (tag : TagPick) (ctx : ℕ) →
        command_due shape lines ranks packets told is before s later w next line (answer.Seen x) ran
        ≡ command.Await from tag ctx → StepLeads shape lines told before s w
    await_seen line x ran from tag ctx awaits =
        let may = subst (λ (c : Command). MayAnswer w s.rank line c (answer.Seen x)) awaits
        (may_here shape lines ranks packets told is before s later w next line (answer.Seen x) ran) in
        let two = by_found (found_in (w s.rank) from tag ctx) refl may in
        seen_leads line x ran (command.Await from tag ctx) awaits refl (λ m. refl) refl from tag ctx two.0 two.1 two.2
        (λ place. refl)
      where
        by_found : (o : Option Arrival) → found_in (w s.rank) from tag ctx ≡ o →
            option_map seen o ≡ Some (answer.Seen x) →
            (a : Arrival) × (found_in (w s.rank) from tag ctx ≡ Some a) × (seen a ≡ answer.Seen x)
        by_found None found may = absurd (no_some (answer.Seen x) may)
        by_found (Some a) found may = (a, found, same_some (seen a) (answer.Seen x) may)
