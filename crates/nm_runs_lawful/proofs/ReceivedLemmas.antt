-- An answer that a matched receive has started, of which the machine learned by the start. MPI 3.1, 3.8.3.
use Rattle.std.proofs.Common.{◌≡◌, ℕ, ◌==◌, ◌&&◌, Bool, true, false, cond, Option, Some, None, List, []}
use Rattle.std.proofs.Common.{◌∷◌, ◌++◌, refl, sym, ◌∙◌, ap, subst, arith}
use Rattle.std.specs.Prelude.{is_some, option_and_then, option_map}
use Rattle.std.specs.List.{list_any}
use Rattle.std.specs.Option.{option_map_or}
use Rattle.std.proofs.lemmas.Bool.{false≢true}
use Rattle.nm_types.specs.declared.answers.Answer.TheVariants as answer
use Rattle.nm_types.specs.declared.messages.Arrival.{Arrival}
use Rattle.nm_types.specs.declared.scripts.Command.{Command}
use Rattle.nm_types.specs.declared.scripts.Command.TheVariants as command
use Rattle.nm_types.specs.declared.scripts.Line.{Line}
use Rattle.nm_types.specs.Commands.{Numbered, command_at, commands_of}
use Rattle.nm_types.specs.Sizes.{Sizes}
use Rattle.nm_types.proofs.NumberLemmas.{eq_true, same_number}
use Rattle.nm_types.proofs.TruthLemmas.{same_test}
use Rattle.nm_history.specs.declared.events.Event.{Event}
use Rattle.nm_history.specs.declared.events.Happened.{Happened}
use Rattle.nm_history.specs.declared.events.Happened.TheVariants as event
use Rattle.nm_history.specs.Answers.{Message as claimed, claim_at, is_claim_for, is_receive_of}
use Rattle.nm_history.specs.Answers.{live_message}
use Rattle.nm_history.specs.Completion.{Request as asked}
use Rattle.nm_history.specs.Quiescence.{Ended, Packets}
use Rattle.nm_history.proofs.Basic.{or_false}
use Rattle.nm_outcomes.specs.Logs.{Step, history_in}
use Rattle.nm_outcomes.specs.Moves.{MayAnswer, message_now, request_now}
use Rattle.nm_outcomes.specs.Paths.{moved}
use Rattle.nm_outcomes.specs.Places.{RankPoint, after}
use Rattle.nm_lawful.specs.declared.messages.Message.{Message}
use Rattle.nm_lawful.specs.Moves.{Report}
use Rattle.nm_runs_lawful.specs.Stands.{IsNext, IsRunTold, StepLeads, claim_by, claimed_at, handle_of, is_match_of}
use Rattle.nm_runs_lawful.specs.Stands.{is_matched_now}
use Rattle.nm_runs_lawful.specs.Stands.{message_at}
use Rattle.nm_runs_lawful.proofs.AlikeLemmas.{claim_of}
use Rattle.nm_runs_lawful.proofs.ClaimedLemmas.{IsHeld, message_held}
use Rattle.nm_runs_lawful.proofs.HeldLemmas.{held_alone}
use Rattle.nm_runs_lawful.proofs.NamedLemmas.{command_due, may_here}
use Rattle.nm_runs_lawful.proofs.OwnLemmas.{message_seen}
use Rattle.nm_runs_lawful.proofs.QuietLemmas.{first_alone}
use Rattle.nm_runs_lawful.proofs.StartedLemmas.{begun_is, command_is, one, own_is, same_match, seen, start_leads_by}

module _ (shape : Sizes) (lines : List Line) (ranks : List Ended) (packets : List Packets) (told : Report)
    (is : IsRunTold shape lines ranks packets told) (before : List Step) (s : Step) (later : List Step)
    (w : ℕ → RankPoint) (next : IsNext shape lines ranks before s later w) (line : ℕ)
    (ran : s.event.what ≡ event.Ran line answer.Started) (q m room : ℕ)
    (calls : command_due shape lines ranks packets told is before s later w next line answer.Started ran
    ≡ command.Mrecv q m room)
  where
    abbrev i : ℕ
    i = s.rank

    abbrev commands : List Numbered
    commands = commands_of s.rank lines

    abbrev v : ℕ → RankPoint
    v = moved lines w s

    abbrev h : List Event
    h = history_in before s.rank

    abbrev c : Command
    c = command.Mrecv q m room

    may : Some (cond (is_some (request_now (w i) q)) answer.Busy
        (cond (is_some (message_now (w i) m)) answer.Started answer.Null)) ≡ Some answer.Started
    may =
        subst (λ (c : Command). MayAnswer w i line c answer.Started) calls
        (may_here shape lines ranks packets told is before s later w next line answer.Started ran)

    two : (request_now (w i) q ≡ None) × ((x : claimed) × (message_now (w i) m ≡ Some x))
    two = by_now (request_now (w i) q) (message_now (w i) m) refl may
      where
        by_now : (o : Option asked) (p : Option claimed) → message_now (w i) m ≡ p →
            Some (cond (is_some o) answer.Busy (cond (is_some p) answer.Started answer.Null)) ≡ Some answer.Started →
            (o ≡ None) × ((x : claimed) × (message_now (w i) m ≡ Some x))
        by_now None (Some x) now may = (refl, (x, now))
        by_now None None now may = absurd (grind arith)
        by_now (Some r) p now may = absurd (grind arith)

    abbrev x : claimed
    x = two.1.0

    -- the handle has the message that it has in the rank
    live_is : live_message commands h m ≡ Some x
    live_is =
        ap (λ (o : Option ℕ). option_and_then (claim_at h) o) (sym ((next.so_far.places i).handled m))
        ∙ sym (by_line ((w i).handled m)) ∙ two.1.1
      where
        by_line : (o : Option ℕ) → option_and_then (w i).claims o ≡ option_and_then (claim_at h) o
        by_line None = refl
        by_line (Some l) = (next.so_far.places i).claims l

    abbrev start : Happened
    start = event.Match 0 x.from x.n room line

    made : option_map_or (λ (message : claimed). event.Match 0 message.from message.n room line ∷ [])
        (live_message commands h m) [] ≡ start ∷ []
    made =
        ap (λ (o : Option claimed). option_map_or
        (λ (message : claimed). event.Match 0 message.from message.n room line ∷ []) o []) live_is

    held : IsHeld shape lines ranks packets told is before (s ∷ later) w next.so_far i m x
    held = message_held shape lines ranks packets told is before (s ∷ later) w next.so_far i m x two.1.1

    begun : (y : Happened) × ((w i).begun ≡ y ∷ [])
        × ((f k : ℕ) → is_match_of f k y ≡ (x.from == f && x.n == k))
    begun =
        let first = one shape lines ranks packets told is before s later w next line ran c calls q refl (λ name. refl)
        two.0 start made refl in (
          first.0,
          begun_is shape lines ranks packets told is before s later w next line ran c calls q refl (λ name. refl)
              two.0 start made refl,
          λ f k. sym (same_match f k first.0) ∙ ap (is_match_of f k) first.2,
        )

    matched_before : (f k : ℕ) → is_matched_now (w i) f k ≡ (x.from == f && x.n == k)
    matched_before f k =
        ap (λ (ws : List Happened). list_any (is_match_of f k) ws) begun.1 ∙ or_false (is_match_of f k begun.0)
        ∙ begun.2 f k

    own : v i ≡ after i commands (w i) (event.Ran line answer.Started)
    own =
        own_is shape lines ranks packets told is before s later w next line ran c calls q refl (λ name. refl) two.0
        start made refl

    called : command_at commands line ≡ Some c
    called =
        command_is shape lines ranks packets told is before s later w next line ran c calls q refl (λ name. refl) two.0
        start made refl

    matched_behind : (f k : ℕ) → is_matched_now (v i) f k ≡ false
    matched_behind f k = ap (λ (p : RankPoint). is_matched_now p f k) own

    handled_is : (y : ℕ) → (v i).handled y ≡ cond (m == y) None ((w i).handled y)
    handled_is y =
        ap (λ (p : RankPoint). p.handled y) own
        ∙ ap (λ (o : Option Command). cond (option_map_or (is_claim_for y) o false && false) (Some line)
        (cond (option_map_or (is_receive_of y) o false && true) None ((w i).handled y))) called
        ∙ by_name (m == y)
      where
        by_name : (b : Bool) → cond (b && true) None ((w i).handled y) ≡ cond b None ((w i).handled y)
        by_name true = refl
        by_name false = refl

    known_is : (f k : ℕ) → (v i).known f k ≡ (w i).known f k
    known_is f k = ap (λ (p : RankPoint). p.known f k) own ∙ first_alone ((w i).known f k)

    message_same : (a : Arrival) → message_at v i a
        ≡ message_at w i a
    message_same a =
        message_seen w v i (seen shape lines ranks packets told is before s later w next line ran c calls q refl
        (λ name. refl) two.0 start made refl) a

    -- the claim that was received is gone already, and all others are there
    claim_same : (b : List Event) (e : Event) (t : List Event) → h ≡ b ++ e ∷ t → (what : Happened) → e.what ≡ what →
        claim_by commands v i what ≡ claim_by commands w i what
    claim_same b e t split (event.Claim f k own') so =
        by_handle (option_and_then handle_of (command_at commands own')) refl
      where
        by_known : (y : ℕ) (o : Option Arrival) →
            option_map (λ (a : Arrival). claim_of v i y a) o ≡ option_map (λ (a : Arrival). claim_of w i y a) o
        by_known y None = refl
        by_known y (Some a) =
            ap (λ (z : Message). Some (record { m = y; message = z }))
            (message_same a)

        now : (y : ℕ) → claimed_at v i y f k ≡ option_map (λ (a : Arrival). claim_of w i y a) ((w i).known f k)
        now y =
            ap (λ (b : Bool). cond b None (option_map (λ (a : Arrival). claim_of v i y a) ((v i).known f k)))
            (matched_behind f k)
            ∙ ap (λ (o : Option Arrival). option_map (λ (a : Arrival). claim_of v i y a) o) (known_is f k)
            ∙ by_known y ((w i).known f k)

        by_name : (y : ℕ) (o : Option ℕ) (b live : Bool) → (option_map_or (λ l. l == own') o false) ≡ live →
            (live ≡ true → is_matched_now (w i) f k ≡ b) →
            cond (option_map_or (λ l. l == own') (cond b None o) false) (claimed_at v i y f k) None
            ≡ cond live (claimed_at w i y f k) None
        by_name y o true true lives matched =
            sym (ap (λ (b : Bool). cond b None (option_map (λ (a : Arrival). claim_of w i y a) ((w i).known f k)))
            (matched refl))
        by_name y o true false lives matched = refl
        by_name y o false true lives matched =
            ap (λ (b : Bool). cond b (claimed_at v i y f k) None) lives ∙ now y
            ∙ sym (ap (λ (b : Bool). cond b None (option_map (λ (a : Arrival). claim_of w i y a) ((w i).known f k)))
            (matched refl))
        by_name y o false false lives matched = ap (λ (b : Bool). cond b (claimed_at v i y f k) None) lives

        turned : (y : ℕ) → (y == m) ≡ (m == y)
        turned y =
            same_test (y == m) (m == y) (λ same. eq_true m y (sym (same_number y m same)))
            (λ same. eq_true y m (sym (same_number m y same)))

        by_stands : (y : ℕ) → option_and_then handle_of (command_at commands own') ≡ Some y → (o : Option ℕ) →
            (w i).handled y ≡ o → option_map_or (λ l. l == own') o false ≡ true →
            is_matched_now (w i) f k ≡ (m == y)
        by_stands y named None stands lives = absurd (false≢true lives)
        by_stands y named (Some l) stands lives =
            matched_before f k
            ∙ sym (held_alone shape lines ranks packets told is before (s ∷ later) w next.so_far i m x held b e t
            split f k own' y
            so named (stands ∙ ap (λ (n : ℕ). Some n) (same_number l own' lives)))
            ∙ turned y

        by_handle : (o : Option ℕ) → option_and_then handle_of (command_at commands own') ≡ o →
            option_and_then (λ (y : ℕ). cond (option_map_or (λ l. l == own') ((v i).handled y) false)
            (claimed_at v i y f k) None) o
            ≡ option_and_then (λ (y : ℕ). cond (option_map_or (λ l. l == own') ((w i).handled y) false)
            (claimed_at w i y f k) None) o
        by_handle None named = refl
        by_handle (Some y) named =
            ap (λ (o : Option ℕ). cond (option_map_or (λ l. l == own') o false) (claimed_at v i y f k) None)
            (handled_is y)
            ∙ by_name y ((w i).handled y) (m == y) (option_map_or (λ l. l == own') ((w i).handled y) false) refl
            (λ lives. by_stands y named ((w i).handled y) refl lives)
    claim_same b e t split what so = refl

    pub mrecv_started : StepLeads shape lines told before s w
    mrecv_started =
        start_leads_by shape lines ranks packets told is before s later w next line ran c calls q refl (λ name. refl)
        two.0 start made refl (λ b e t split. claim_same b e t split e.what refl)
