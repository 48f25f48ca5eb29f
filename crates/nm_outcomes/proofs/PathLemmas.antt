-- Each run is a path of moves.
use Rattle.std.proofs.Common.{◌≡◌, ◌⊎◌, inl, inr, ℕ, ◌<◌, ◌==◌, ◌&&◌, not, Bool, true, false, cond}
use Rattle.std.proofs.Common.{Option, Some, None, List, [], ◌∷◌, ◌++◌, length, refl, sym, ◌∙◌, ap, subst, arith}
use Rattle.std.proofs.Common.{append-nil, append_assoc}
use Rattle.std.specs.Prelude.{IsSomeAnd, is_some}
use Rattle.std.specs.List.{cons_option, filter_map, list_any, slice_get}
use Rattle.std.specs.Option.{option_map_or}
use Rattle.std.proofs.lemmas.Bool.{false≢true}
use Rattle.std.proofs.lemmas.List.Elements.{filter_map-append}
use Rattle.nm_types.specs.declared.messages.Arrival.{Arrival}
use Rattle.nm_types.specs.declared.scripts.Command.{Command}
use Rattle.nm_types.specs.declared.scripts.Command.TheVariants as command
use Rattle.nm_types.specs.declared.scripts.Line.{Line}
use Rattle.nm_types.specs.Commands.{Numbered, command_at, commands_of}
use Rattle.nm_types.specs.Sizes.{Sizes}
use Rattle.nm_history.specs.declared.events.Event.{Event}
use Rattle.nm_history.specs.declared.events.Happened.{Happened}
use Rattle.nm_history.specs.declared.events.Happened.TheVariants as event
use Rattle.nm_history.specs.AtEach.{AtEach}
use Rattle.nm_history.specs.Answers.{Message, live_message, request_at, request_of}
use Rattle.nm_history.specs.Completion.{Request}
use Rattle.nm_history.specs.Completion.Request.{Receiving, Sending}
use Rattle.nm_history.specs.Happens.{happened, is_claim}
use Rattle.nm_history.specs.Matching.{first_message, is_free, is_of_message, matched_pairs}
use Rattle.nm_history.specs.RankRun.{ClaimAt, NumberAt, StartAt, claim_of, ran_lines, start_of}
use Rattle.nm_history.specs.RankRun.{without_number}
use Rattle.nm_history.specs.Quiescence.{Ended, Packets, history_of}
use Rattle.nm_history.specs.Run.{IsRunOf}
use Rattle.nm_history.specs.Selection.{matches}
use Rattle.nm_history.specs.Sends.{arrivals, message_of, messages, receives}
use Rattle.nm_history.specs.Underway.{MayFollow}
use Rattle.nm_history.proofs.AtEachLemmas.{AtEach-split}
use Rattle.nm_history.proofs.DeliveryLemmas.{AtEach-along}
use Rattle.nm_history.proofs.OnceLemmas.{eqb_self}
use Rattle.nm_history.proofs.EachLemmas.{AtEach-prefix}
use Rattle.nm_history.proofs.SelectionLemmas.{find_contains}
use Rattle.nm_match.specs.Deeds.{is_known_message, is_known_receive}
use Rattle.nm_match.proofs.NumberLemmas.{messages_numbered, receives_numbered}
use Rattle.nm_match.proofs.PushLemmas.{is_known_message-push}
use Rattle.nm_lookups.proofs.ReplayLemmas.{is_some-message_of}
use Rattle.nm_types.proofs.NumberLemmas.{same_number}
use Rattle.nm_types.proofs.OptionLemmas.{no_some}
use Rattle.nm_types.proofs.TruthLemmas.{and_left, and_right, or_left}
use Rattle.nm_outcomes.specs.Due.{AreAtLines, IsDue}
use Rattle.nm_outcomes.specs.Logs.{IsLogOf, IsLog, MayCome, MayComeAfter, Step, event_of, history_in}
use Rattle.nm_outcomes.specs.Moves.{ArePlaces, MayMove}
use Rattle.nm_outcomes.specs.Paths.{AreCommands, AreMoves, IsAddressed, RunsArePaths, first_place, moved}
use Rattle.nm_outcomes.specs.Paths.{moved_by}
use Rattle.nm_outcomes.specs.Places.{IsPlaceOf, IsProper, RankPoint, after, or_else}
use Rattle.nm_outcomes.proofs.Bodies.{came_known}
use Rattle.nm_outcomes.proofs.CallLemmas.{events_are_due}
use Rattle.nm_outcomes.proofs.Early.{above_is}
use Rattle.nm_outcomes.proofs.EndLemmas.{all_follow}
use Rattle.nm_outcomes.proofs.HappenedLemmas.{history_induction, last_or_before}
use Rattle.nm_outcomes.proofs.LogLemmas.{at_of, grown_here, grown_other, log-push, own_run, runs_have_logs}
use Rattle.nm_outcomes.proofs.MoveLemmas.{steps_are_moves}
use Rattle.nm_outcomes.proofs.PlaceLemmas.{first-append, one_or_none, places_follow, quiet_follows}
use Rattle.nm_outcomes.specs.Places.{is_quiet}
use Rattle.std.specs.List.{AllByRecursion}

-- a message that was claimed came
pub claimed_came : (commands : List Numbered) (i n : ℕ) (h : List Event) → AtEach (λ b e. ClaimAt commands b e.what) h →
    happened (is_claim i n) h ≡ true → is_known_message h i n ≡ true
claimed_came commands i n h each =
    history_induction (λ b e. ClaimAt commands b e.what)
    (λ h. happened (is_claim i n) h ≡ true → is_known_message h i n ≡ true) grow (λ none. absurd
    (false≢true none)) h each
  where
    now : (h : List Event) (what : Happened) → is_claim i n what ≡ true → ClaimAt commands h what →
        is_known_message h i n ≡ true
    now h (event.Claim from m line) is claims = by_command (command_at commands line) claims
      where
        by_found : (o : Option Arrival) → option_map_or (λ (a : Arrival). event.Claim a.env.from a.n line ∷ []) o []
            ≡ event.Claim from m line ∷ [] →
            (a : Arrival) × (o ≡ Some a) × (a.env.from ≡ from) × (a.n ≡ m)
        by_found None same = absurd (grind arith)
        by_found (Some a) same = (a, refl, cc, cc)

        by_command : (o : Option Command) → IsSomeAnd o (λ c. claim_of h line c ≡ event.Claim from m line ∷ []) →
            is_known_message h i n ≡ true
        by_command (Some (command.Mprobe handle from' tag ctx)) same =
            let a = by_found (first_message h (matched_pairs h) from' tag ctx) same in
            let one : from ≡ i = same_number from i (and_left (from == i) (m == n) is) in
            let two : m ≡ n = same_number m n (and_right (from == i) (m == n) is) in
            subst (λ (f : ℕ). is_known_message h f n ≡ true) (a.2 ∙ one)
            (subst (λ (k : ℕ). is_known_message h a.0.env.from k ≡ true) (a.3 ∙ two)
            (came_known h a.0 (find_contains (λ (x : Arrival). matches from' tag ctx x.env && is_free h
            (matched_pairs h) x)
            (messages h) a.0 a.1)))
        by_command (Some (command.Send to q tag ctx sync body)) same = absurd (grind arith)
        by_command (Some (command.Recv q from' tag ctx cap)) same = absurd (grind arith)
        by_command (Some (command.Wait q)) same = absurd (grind arith)
        by_command (Some (command.Test q)) same = absurd (grind arith)
        by_command (Some (command.Probe from' tag ctx)) same = absurd (grind arith)
        by_command (Some (command.Await from' tag ctx)) same = absurd (grind arith)
        by_command (Some (command.Cancel q)) same = absurd (grind arith)
        by_command (Some (command.Mrecv q handle cap)) same = absurd (grind arith)
        by_command None same = absurd same
    now h what is claims = absurd (false≢true is)

    grow : (h : List Event) (e : Event) → (happened (is_claim i n) h ≡ true → is_known_message h i n ≡ true) →
        ClaimAt commands h e.what → happened (is_claim i n) (h ++ e ∷ []) ≡ true →
        is_known_message (h ++ e ∷ []) i n ≡ true
    grow h e before claims some =
        is_known_message-push h e i n
        ∙ or_left (is_known_message h i n) _ (by_place (last_or_before (is_claim i n) h e some))
      where
        by_place : (happened (is_claim i n) h ≡ true) ⊎ (is_claim i n e.what ≡ true) → is_known_message h i n ≡ true
        by_place (inl was) = before was
        by_place (inr is) = now h e.what is claims

-- the events of a log are proper
pub proper : (shape : Sizes) (commands : List Numbered) (h : List Event) (stamp : ℕ) (what : Happened) →
    AtEach (λ b e. MayFollow shape commands b e) h →
    MayFollow shape commands h (record { stamp = stamp; what = what }) → IsProper h what
proper shape commands h stamp what each next = by_event what next.numbers next.starts
  where
    numbers : AtEach (λ b e. NumberAt shape.ranks b e.what) h
    numbers = AtEach-along (λ b e. MayFollow shape commands b e) (λ b e. NumberAt shape.ranks b e.what) h
        (λ b e next. next.numbers) each

    claims : AtEach (λ b e. ClaimAt commands b e.what) h
    claims = AtEach-along (λ b e. MayFollow shape commands b e) (λ b e. ClaimAt commands b e.what) h
        (λ b e next. next.claims) each

    new_receive : (number : ℕ) → number ≡ length (receives h) → is_known_receive h number ≡ false
    new_receive number is =
        receives_numbered shape.ranks h numbers number ∙ above_is number (length (receives h)) (omega (arith, is))

    known_message : (from n : ℕ) → is_known_message h from n ≡ true → (a : Arrival) × (message_of h from n ≡ Some a)
    known_message from n known =
        by_message (message_of h from n) refl (is_some-message_of h from n ∙ known)
      where
        by_message : (o : Option Arrival) → message_of h from n ≡ o → is_some o ≡ true →
            (a : Arrival) × (message_of h from n ≡ Some a)
        by_message None is some = absurd (false≢true some)
        by_message (Some a) is some = (a, is)

    by_event : (what : Happened) → NumberAt shape.ranks h what → StartAt shape.eager commands h what → IsProper h what
    by_event (event.Post p line) number starts = new_receive p.number number
    by_event (event.Arrive a) number starts =
        messages_numbered shape.ranks h numbers a.env.from a.n
        ∙ above_is a.n (length (arrivals h a.env.from)) (let x = number.1 in omega (arith, x))
    by_event (event.Match number' from n cap line) number starts = (
      new_receive number' number,
      known_message from n (claimed_came commands from n h claims
          (and_left (happened (is_claim from n) h) (not (list_any (is_of_message from n) (matched_pairs h))) starts)),
    )
    by_event what number starts = tt

-- nothing has happened
first_is : (me : ℕ) (commands : List Numbered) → IsPlaceOf me commands [] first_place
unfolding matched_pairs
first_is me commands = record {
  told = refl;
  done = refl;
  begun = refl;
  named = λ q. refl;
  requests = λ line. refl;
  handled = λ m. refl;
  claims = λ line. refl;
  receives = refl;
  messages = refl;
  pairs = λ number. refl;
  off = λ number. refl;
  known = λ from n. refl;
  arrived = λ from n. refl;
  taken = λ from n. refl;
  claimed = λ from n. refl;
  withdrawn = λ from n. refl;
  sent = λ to. refl;
  lines = λ to. refl;
  unasked = λ to n. refl;
  recalled = λ to n. refl;
  came = λ from. refl;
}

-- these are sends to ranks of the run, or no sends
abbrev AreAddressed : ℕ → List Happened → Type 0
AreAddressed ranks (event.Send to n tag ctx len how line ∷ ws) = to < ranks
AreAddressed ranks _ = Unit {0}

-- the sends of a rank are to ranks of the run
module _ (ranks eager : ℕ) (commands : List Numbered) (stand : AreAtLines commands)
    (addressed : (line : ℕ) (c : Command) → command_at commands line ≡ Some c → IsAddressed ranks c)
  where
    abbrev SentWithin : List Event → Type 0
    SentWithin h = (line to n : ℕ) → request_at h line ≡ Some (Sending to n) → to < ranks

    -- the start of a command, if it is a send, is to the rank that the command says
    sent_to : (l : ℕ) (h : List Event) (c : Command) (start : List Happened) → start ≡ start_of eager commands h l c →
        IsAddressed ranks c → AreAddressed ranks start
    sent_to l h (command.Send to q tag ctx sync body) start same inside =
        subst (λ (ws : List Happened). AreAddressed ranks ws) (sym same) inside
    sent_to l h (command.Recv q from tag ctx cap) start same inside =
        subst (λ (ws : List Happened). AreAddressed ranks ws) (sym same) tt
    sent_to l h (command.Mrecv q m cap) start same inside =
        subst (λ (ws : List Happened). AreAddressed ranks ws) (sym same) (by_message (live_message commands h m))
      where
        by_message : (o : Option Message) →
            AreAddressed ranks (option_map_or (λ (x : Message). event.Match 0 x.from x.n cap l ∷ []) o [])
        by_message None = tt
        by_message (Some x) = tt
    sent_to l h c start same inside = subst (λ (ws : List Happened). AreAddressed ranks ws) (sym same) tt

    made_within : (h : List Event) (what : Happened) (line to n : ℕ) → IsDue eager commands h what →
        request_of line what ≡ Some (Sending to n) → to < ranks
    made_within h (event.Send to' m tag ctx len how line') line to n due made = by_line (line' == line) made
      where
        inside : to' < ranks
        inside = sent_to due.command.line h due.command.command
            (without_number (event.Send to' m tag ctx len how line') ∷ []) due.start
            (addressed due.command.line due.command.command (stand (length (ran_lines h)) due.command due.next))

        by_line : (b : Bool) → cond b (Some (Sending to' m)) None ≡ Some (Sending to n) → to < ranks
        by_line true made = let same : to' ≡ to = cc in subst (λ (k : ℕ). k < ranks) same inside
        by_line false made = absurd (no_some (Sending to n) made)
    made_within h (event.Post p line') line to n due made = absurd (by_line (line' == line) made)
      where
        by_line : (b : Bool) → cond b (Some (Receiving p.number)) None ≡ Some (Sending to n) → ⊥
        by_line true made = grind arith
        by_line false made = no_some (Sending to n) made
    made_within h (event.Match number from m cap line') line to n due made = absurd (by_line (line' == line) made)
      where
        by_line : (b : Bool) → cond b (Some (Receiving number)) None ≡ Some (Sending to n) → ⊥
        by_line true made = grind arith
        by_line false made = no_some (Sending to n) made
    made_within h what line to n due made = absurd (no_some (Sending to n) made)

    grown_within : (h : List Event) (e : Event) → SentWithin h → IsDue eager commands h e.what →
        SentWithin (h ++ e ∷ [])
    grown_within h e before due line to n asked =
        by_first (request_at h line) refl
        (sym (ap (λ (rs : List Request). slice_get rs 0)
        (filter_map-append (λ (e : Event). request_of line e.what) h (e ∷ []))
        ∙ first-append (filter_map (λ (e : Event). request_of line e.what) h) (cons_option (request_of line e.what) [])
        ∙ ap (λ (o : Option Request). or_else (request_at h line) o) (one_or_none (request_of line e.what))) ∙ asked)
      where
        by_first : (o : Option Request) → request_at h line ≡ o →
            or_else o (request_of line e.what) ≡ Some (Sending to n) →
            to < ranks
        by_first None is asked = made_within h e.what line to n due asked
        by_first (Some r) is asked = before line to n (is ∙ asked)

    pub sent_within : (h : List Event) → AtEach (λ b e. IsDue eager commands b e.what) h → SentWithin h
    sent_within =
        history_induction (λ b e. IsDue eager commands b e.what) SentWithin grown_within
        (λ line to n asked. absurd (no_some (Sending to n) asked))

-- the history of a rank, before a step, at it and behind it
pub history_split : (before steps : List Step) (i : ℕ) →
    history_in (before ++ steps) i ≡ history_in before i ++ history_in steps i
history_split before steps i = filter_map-append (λ (step : Step). event_of i step) before steps

pub history_at : (step : Step) (steps : List Step) →
    history_in (step ∷ steps) step.rank ≡ step.event ∷ history_in steps step.rank
history_at step steps = rw (eqb_self step.rank) refl

module _ (shape : Sizes) (lines : List Line) (commands : AreCommands shape.ranks lines) where
  abbrev AllDue : List Step → Type 0
  AllDue log = (i : ℕ) → AtEach (λ b e. IsDue shape.eager (commands_of i lines) b e.what) (history_in log i)

  -- the places after a step
  moved_are : (before : List Step) (s : Step) (w : ℕ → RankPoint) → IsLog shape lines before →
      ArePlaces lines before w →
      MayCome shape lines (history_in before) s.rank s.event → ArePlaces lines (before ++ s ∷ []) (moved lines w s)
  moved_are before s w is are next i = by_rank (s.rank == i) refl
    where
      by_rank : (b : Bool) → (s.rank == i) ≡ b →
          IsPlaceOf i (commands_of i lines) (history_in (before ++ s ∷ []) i)
          (cond b (after i (commands_of i lines) (w i) s.event.what) (w i))
      by_rank true same =
          subst (λ (k : ℕ). IsPlaceOf k (commands_of k lines) (history_in (before ++ s ∷ []) k)
          (after k (commands_of k lines) (w k) s.event.what)) (same_number s.rank i same)
          (subst (λ (h : List Event). IsPlaceOf s.rank (commands_of s.rank lines) h
          (after s.rank (commands_of s.rank lines) (w s.rank) s.event.what)) (sym (grown_here before s))
          (places_follow s.rank (commands_of s.rank lines) (history_in before s.rank) s.event (w s.rank)
          (proper shape (commands_of s.rank lines) (history_in before s.rank) s.event.stamp s.event.what
          (all_follow shape lines before is s.rank) next.own) (are s.rank)))
      by_rank false other =
          subst (λ (h : List Event). IsPlaceOf i (commands_of i lines) h (w i))
          (sym (grown_other before s i other)) (are i)

  walk : (before steps : List Step) (w : ℕ → RankPoint) → IsLog shape lines before →
      MayComeAfter shape lines before steps →
      AllDue (before ++ steps) → ArePlaces lines before w →
      AreMoves shape lines w steps × ArePlaces lines (before ++ steps) (moved_by lines w steps)
  walk before [] w is each due are =
      (tt, subst (λ (log : List Step). ArePlaces lines log w) (sym (append-nil before)) are)
  walk before (s ∷ steps) w is each due are =
      let front : (i : ℕ) → AtEach (λ b e. IsDue shape.eager (commands_of i lines) b e.what) (history_in before i) =
      λ i. AtEach-prefix (λ b e. IsDue shape.eager (commands_of i lines) b e.what) (history_in before i)
      (history_in (s ∷ steps) i)
      (subst (λ (h : List Event). AtEach (λ b e. IsDue shape.eager (commands_of i lines) b e.what) h)
      (history_split before (s ∷ steps) i) (due i)) in
      let now : IsDue shape.eager (commands_of s.rank lines) (history_in before s.rank) s.event.what =
      AtEach-split (λ b e. IsDue shape.eager (commands_of s.rank lines) b e.what) (history_in before s.rank) s.event
      (history_in steps s.rank)
      (subst (λ (h : List Event). AtEach (λ b e. IsDue shape.eager (commands_of s.rank lines) b e.what) h)
      (history_split before (s ∷ steps) s.rank
      ∙ ap (λ (h : List Event). history_in before s.rank ++ h) (history_at s steps)) (due s.rank)) in
      let move : MayMove shape lines w s.rank s.event.what =
      steps_are_moves shape lines before w s.rank s.event is are (commands.stand s.rank)
      (λ line to n asked. sent_within shape.ranks shape.eager (commands_of s.rank lines) (commands.stand s.rank)
      (commands.addressed s.rank) (history_in before s.rank) (front s.rank) line to n
      (sym ((are s.rank).requests line) ∙ asked)) each.0 now in
      let rest = walk (before ++ s ∷ []) steps (moved lines w s) (log-push shape lines [] before s is each.0) each.1
      (λ i. subst (λ (log : List Step). AtEach (λ b e. IsDue shape.eager (commands_of i lines) b e.what)
      (history_in log i))
      (sym (append_assoc before (s ∷ []) steps)) (due i)) (moved_are before s w is are each.0) in (
        (move, rest.0),
        subst (λ (log : List Step). ArePlaces lines log (moved_by lines (moved lines w s) steps))
            (append_assoc before (s ∷ []) steps) rest.1,
      )

  -- the same, with the quiet events left out
  quiet_are : (before : List Step) (s : Step) (w : ℕ → RankPoint) → ArePlaces lines before w →
      is_quiet s.event.what ≡ true → ArePlaces lines (before ++ s ∷ []) w
  quiet_are before s w are quiet i = by_rank (s.rank == i) refl
    where
      by_rank : (b : Bool) → (s.rank == i) ≡ b →
          IsPlaceOf i (commands_of i lines) (history_in (before ++ s ∷ []) i) (w i)
      by_rank true same =
          subst (λ (k : ℕ). IsPlaceOf k (commands_of k lines) (history_in (before ++ s ∷ []) k) (w k))
          (same_number s.rank i same)
          (subst (λ (h : List Event). IsPlaceOf s.rank (commands_of s.rank lines) h (w s.rank))
          (sym (grown_here before s))
          (quiet_follows s.rank (commands_of s.rank lines) (history_in before s.rank) s.event (w s.rank) quiet
          (are s.rank)))
      by_rank false other =
          subst (λ (h : List Event). IsPlaceOf i (commands_of i lines) h (w i))
          (sym (grown_other before s i other)) (are i)

  abbrev pub IsLoud : List Step → (ℕ → RankPoint) → List Step → Type 0
  IsLoud log w loud =
      AreMoves shape lines w loud × AllByRecursion (λ (s : Step). is_quiet s.event.what ≡ false) loud
      × ArePlaces lines log (moved_by lines w loud)

  skip : (before steps : List Step) (w : ℕ → RankPoint) → IsLog shape lines before →
      MayComeAfter shape lines before steps →
      AllDue (before ++ steps) → ArePlaces lines before w → (loud : List Step) × IsLoud (before ++ steps) w loud
  skip before [] w is each due are =
      ([], (tt, tt, subst (λ (log : List Step). ArePlaces lines log w) (sym (append-nil before)) are))
  skip before (s ∷ steps) w is each due are =
      by_kind (is_quiet s.event.what) refl (walk before (s ∷ steps) w is each due are).0.0
      (λ v there. skip (before ++ s ∷ []) steps v (log-push shape lines [] before s is each.0) each.1
      (λ i. subst (λ (log : List Step). AtEach (λ b e. IsDue shape.eager (commands_of i lines) b e.what)
      (history_in log i))
      (sym (append_assoc before (s ∷ []) steps)) (due i)) there)
    where
      by_kind : (b : Bool) → is_quiet s.event.what ≡ b → MayMove shape lines w s.rank s.event.what →
          ((v : ℕ → RankPoint) → ArePlaces lines (before ++ s ∷ []) v →
          (loud : List Step) × IsLoud ((before ++ s ∷ []) ++ steps) v loud) →
          (loud : List Step) × IsLoud (before ++ s ∷ steps) w loud
      by_kind true quiet move later =
          let rest = later w (quiet_are before s w are quiet) in (
            rest.0,
            (
              rest.1.0,
              rest.1.1,
              subst (λ (log : List Step). ArePlaces lines log (moved_by lines w rest.0))
                  (append_assoc before (s ∷ []) steps)
                  rest.1.2,
            ),
          )
      by_kind false loud move later =
          let rest = later (moved lines w s) (moved_are before s w is are each.0) in (
            s ∷ rest.0,
            (
              (move, rest.1.0),
              (loud, rest.1.1),
              subst (λ (log : List Step). ArePlaces lines log (moved_by lines (moved lines w s) rest.0))
                  (append_assoc before (s ∷ []) steps) rest.1.2,
            ),
          )

-- each run is a path of moves that are not quiet
pub loud_path : (shape : Sizes) (lines : List Line) (ranks : List Ended) (packets : List Packets)
    (commands : AreCommands shape.ranks lines) → IsRunOf shape lines ranks packets → (log : List Step) →
    IsLogOf shape lines ranks log → (loud : List Step) × IsLoud shape lines commands log (λ i. first_place) loud
loud_path shape lines ranks packets commands run log is =
    let due : (i : ℕ) → AtEach (λ b e. IsDue shape.eager (commands_of i lines) b e.what) (history_in log i) =
    λ i. subst (λ (h : List Event). AtEach (λ b e. IsDue shape.eager (commands_of i lines) b e.what) h)
    (sym (is.histories i))
    (events_are_due shape (commands_of i lines) (at_of shape lines ranks packets run i) (history_of ranks i)
    (commands.stand i) (own_run shape lines ranks packets run i)) in
    skip shape lines commands [] log (λ i. first_place) tt is.steps due (λ i. first_is i (commands_of i lines))

pub runs_are_paths : RunsArePaths
runs_are_paths shape lines ranks packets commands run =
    let log = runs_have_logs shape lines ranks packets run in
    let due : (i : ℕ) → AtEach (λ b e. IsDue shape.eager (commands_of i lines) b e.what) (history_in log.0 i) =
    λ i. subst (λ (h : List Event). AtEach (λ b e. IsDue shape.eager (commands_of i lines) b e.what) h)
    (sym (log.1.histories i))
    (events_are_due shape (commands_of i lines) (at_of shape lines ranks packets run i) (history_of ranks i)
    (commands.stand i) (own_run shape lines ranks packets run i)) in
    let path = walk shape lines commands [] log.0 (λ i. first_place) tt log.1.steps due
    (λ i. first_is i (commands_of i lines)) in (
      log.0,
      record {
        log_of = log.1;
        moves = path.0;
        ends = λ i. subst (λ (h : List Event). IsPlaceOf i (commands_of i lines) h
            (moved_by lines (λ i. first_place) log.0 i)) (log.1.histories i) (path.1 i);
      },
    )
