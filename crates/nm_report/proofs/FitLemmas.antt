-- The answers of a lawful run are few, and the bytes that they show are a command's.
use Rattle.std.proofs.Common.{◌≡◌, ℕ, ◌+◌, ◌*◌, ◌^◌, ◌<◌, ◌≤◌, ◌==◌, Bool, true, false, ◌&&◌, cond, nat_lt, nat_le}
use Rattle.std.proofs.Common.{Option, Some, None, List, [], ◌∷◌, ◌++◌, length, map, take, flat_map, get_or}
use Rattle.std.proofs.Common.{refl, sym, ◌∙◌, ap, subst, arith, inl, inr, suc, length-append, lit<}
use Rattle.std.specs.Prelude.{Contains, IsSomeAnd}
use Rattle.std.specs.List.{All, count_by, find, list_all, slice_get, sum_by}
use Rattle.std.specs.Bool.{⊤}
use Rattle.std.specs.Option.{option_and_then}
use Rattle.std.proofs.lemmas.Bool.Decides.{nat_tests, when_true}
use Rattle.std.proofs.lemmas.List.{length-map, length-take}
use Rattle.std.proofs.lemmas.List.Elements.{All-append, All-cons, All-contains, All-nil}
use Rattle.std.proofs.lemmas.List.Elements.{Contains-append_left, filter_map-append}
use Rattle.std.proofs.lemmas.List.Sums.{count_by-le-length, sum_by-le}
use Rattle.std.proofs.lemmas.Option.{MatchOption-at_some, slice_get-get_or}
use Rattle.nm_types.specs.declared.answers.Answer.{Answer}
use Rattle.nm_types.specs.declared.answers.Answer.TheVariants as answer
use Rattle.nm_types.specs.declared.limits.TheConstants.{MAX_BODY}
use Rattle.nm_types.specs.declared.messages.Arrival.{Arrival}
use Rattle.nm_types.specs.declared.scripts.Command.{Command}
use Rattle.nm_types.specs.declared.scripts.Command.TheVariants as command
use Rattle.nm_types.specs.declared.scripts.Line.{Line}
use Rattle.nm_types.specs.Bodies.{HaveTheirLength, body_len}
use Rattle.nm_types.specs.Commands.{Numbered, command_at, commands_from, commands_of}
use Rattle.nm_types.specs.Limits.{IsScript, is_in_range}
use Rattle.nm_types.specs.Sizes.{Sizes}
use Rattle.nm_history.specs.declared.events.Event.{Event}
use Rattle.nm_history.specs.declared.events.Happened.{Happened}
use Rattle.nm_history.specs.declared.events.Happened.TheVariants.{Ran}
use Rattle.nm_history.specs.declared.plain.Pair.{Pair}
use Rattle.nm_history.specs.Delivery.{AreDelivered, BodyAt, ShowsBytes, asked_pair}
use Rattle.nm_history.specs.Matching.{matched_pairs}
use Rattle.nm_history.specs.Once.{IsOfReceive}
use Rattle.nm_history.specs.Quiescence.{Ended, EachRank, Packets}
use Rattle.nm_history.specs.RankRun.{IsRankRun, Always, AnswerAt, ran_lines}
use Rattle.nm_history.specs.Run.{IsRunOf}
use Rattle.nm_history.specs.Sends.{Sent, arrival_of, messages, sends, sent_bytes}
use Rattle.nm_history.specs.Totals.{answer_in, answers_given}
use Rattle.nm_history.proofs.AtEachLemmas.{AtEach-split}
use Rattle.nm_history.proofs.OnceLemmas.{eqb_self, find_among}
use Rattle.nm_report.specs.declared.accounts.RankAccount.{RankAccount}
use Rattle.nm_report.specs.declared.records.RunRecord.{RunRecord}
use Rattle.nm_report.specs.Ends.{ends_of, packets_of}
use Rattle.nm_report.specs.Lawful.{IsRunIn}
use Rattle.nm_report.specs.Summary.{CountsFit, got_len, is_got, is_sent}
use Rattle.nm_report.specs.Told.{told_of, told_of_rank}
use Rattle.nm_report.specs.Totals.{answers_in}
use Rattle.nm_report.proofs.GotLemmas.{ShowsPair, got_shown, low_senders}
use Rattle.nm_report.proofs.TotalsLemmas.{all_answers}
use Rattle.nm_types.proofs.OptionLemmas.{mapped_some}
use Rattle.nm_types.proofs.TruthLemmas.{and_left, and_right}

abbrev pub HaveReceives : Type 0
HaveReceives = (h : List Event) → All (IsOfReceive h) (matched_pairs h)

-- each command of a rank is in range
commands_fit : (ranks rank number : ℕ) (lines : List Line)
    → list_all (λ line. nat_lt line.rank ranks && is_in_range ranks line.command) lines ≡ true
    → All (λ c. is_in_range ranks c.command ≡ true) (commands_from rank number lines)
commands_fit ranks rank number [] fine = All-nil (λ c. is_in_range ranks c.command ≡ true)
commands_fit ranks rank number (l ∷ lines) fine =
    by_rank (l.rank == rank) (commands_fit ranks rank (number + 1) lines
    (and_right (nat_lt l.rank ranks && is_in_range ranks l.command) _ fine))
  where
    P : Numbered → Type 0
    P c = is_in_range ranks c.command ≡ true

    by_rank : (b : Bool) → All (λ c. is_in_range ranks c.command ≡ true) (commands_from rank (number + 1) lines)
        → All (λ c. is_in_range ranks c.command ≡ true)
        (cond b (record { line = number; command = l.command } ∷ commands_from rank (number + 1) lines)
        (commands_from rank (number + 1) lines))
    by_rank true later = All-cons (λ c. is_in_range ranks c.command ≡ true) _ _
        (and_right (nat_lt l.rank ranks) (is_in_range ranks l.command)
        (and_left (nat_lt l.rank ranks && is_in_range ranks l.command) _ fine)) later
    by_rank false later = later

low : (m n : ℕ) → nat_le m n ≡ true → m ≤ n
low m n is = grind (arith, nat_tests)

-- a command that is in range sends a body that is in range
sent_short : HaveTheirLength → (ranks : ℕ) (c : Command) → is_in_range ranks c ≡ true → length (sent_bytes c) ≤ MAX_BODY
sent_short lengths ranks (command.Send to q tag ctx sync body) fine =
    let short = low (body_len body) MAX_BODY (and_right _ (nat_le (body_len body) MAX_BODY) fine) in
    omega (arith, short, lengths body)
sent_short lengths ranks c fine = omega arith

few_commands : (rank number : ℕ) (lines : List Line) → length (commands_from rank number lines) ≤ length lines
few_commands rank number [] = omega arith
few_commands rank number (l ∷ lines) = by_rank (l.rank == rank) (few_commands rank (number + 1) lines)
  where
    by_rank : (b : Bool) → length (commands_from rank (number + 1) lines) ≤ length lines
        → length (cond b (record { line = number; command = l.command } ∷ commands_from rank (number + 1) lines)
        (commands_from rank (number + 1) lines)) ≤ length (l ∷ lines)
    by_rank true later = omega (arith, later)
    by_rank false later = omega (arith, later)

-- a rank has as many answers as commands ran
answers_ran : (h : List Event) → length (answers_given h) ≡ length (ran_lines h)
answers_ran [] = refl
answers_ran (e ∷ h) = by_what e.what (answers_ran h)
  where
    by_what : (what : Happened) → length (answers_given h) ≡ length (ran_lines h)
        → length (answers_given (record { stamp = e.stamp; what = what } ∷ h))
        ≡ length (ran_lines (record { stamp = e.stamp; what = what } ∷ h))
    by_what (Ran line answer) later = ap (λ (n : ℕ). suc n) later
    by_what what later = later

-- what holds of the answer of each event, by the splits of a history, holds of all answers
answers_all : (P : Answer → Type 0) (events : List Event)
    → ((early : List Event) (e : Event) (late : List Event) → events ≡ early ++ e ∷ late → All P (answer_in e.what))
    → All P (answers_given events)
answers_all P [] each = All-nil P
answers_all P (e ∷ events) each =
    All-append P (answer_in e.what) (answers_given events) (each [] e events refl)
    (answers_all P events (λ early x late split. each (e ∷ early) x late (ap (λ (k : List Event). e ∷ k) split)))

-- the bytes are those that a command of the message's sender sends
record IsSentBy (commands : List Numbered) (body : List ℕ) : Type 0 where
  line : ℕ
  command : Command
  at_line : command_at commands line ≡ Some command
  same : body ≡ sent_bytes command

sent_by : (commands : List Numbered) (ss : List Sent) (body : List ℕ) (n : ℕ)
    → IsSomeAnd (slice_get ss n) (λ s. IsSomeAnd (command_at commands s.line) (λ c. body ≡ sent_bytes c))
    → IsSentBy commands body
sent_by commands ss body n shown = by_send (slice_get ss n) shown
  where
    by_command : (line : ℕ) (o : Option Command) → command_at commands line ≡ o → IsSomeAnd o (λ c. body ≡ sent_bytes c)
        → IsSentBy commands body
    by_command line None at_line shown = absurd shown
    by_command line (Some c) at_line shown = record { line = line; command = c; at_line = at_line; same = shown }

    by_send : (o : Option Sent) → IsSomeAnd o (λ s. IsSomeAnd (command_at commands s.line) (λ c. body ≡ sent_bytes c))
        → IsSentBy commands body
    by_send None shown = absurd shown
    by_send (Some s) shown = by_command s.line (command_at commands s.line) refl shown

-- an answer that shows a message shows bytes that its sender's command sends
shown_sent : (senders : List Numbered) (ss : List Sent) (commands : List Numbered) (h : List Event) (line from tag : ℕ)
    (body : List ℕ) (is : ShowsPair commands h line)
    → BodyAt is.asks.pair.arrival.env.from senders ss commands h (Ran line (answer.Got from tag body))
    → IsSentBy senders body
shown_sent senders ss commands h line from tag body is right =
    let pair = is.asks.pair in
    let own = pair.arrival.env.from in
    let asked = ap (option_and_then (asked_pair commands h)) is.at_line ∙ is.asks.asked in
    sent_by senders ss body pair.arrival.n (when_true _ ⊤ (eqb_self own)
    (MatchOption-at_some ⊤ (ShowsBytes own senders ss body) pair asked right))

-- an answer with at most the bytes of a longest body
abbrev IsShort : Answer → Type 0
IsShort a = got_len a ≤ MAX_BODY

short_answer : (a : Answer) → ((from tag : ℕ) (body : List ℕ) → a ≡ answer.Got from tag body → length body ≤ MAX_BODY)
    → IsShort a
short_answer (answer.Got from tag body) short = short from tag body refl
short_answer a short = omega arith

short_event : (what : Happened)
    → ((line from tag : ℕ) (body : List ℕ) → what ≡ Ran line (answer.Got from tag body) → length body ≤ MAX_BODY)
    → All IsShort (answer_in what)
short_event (Ran line a) short = All-cons IsShort a []
    (short_answer a (λ from tag body is. short line from tag body (ap (λ (a : Answer). Ran line a) is)))
    (All-nil IsShort)
short_event what short = All-nil IsShort

-- the answers of a rank at its end
abbrev answers_at : Ended → List Answer
answers_at rank = answers_given rank.events

-- a rank's answers are few and short
record AreFew (answers : List Answer) (most : ℕ) : Type 0 where
  few : length answers ≤ most
  short : All IsShort answers

all_few : (ranks : List Ended) → ((j : ℕ) (b : Ended) → slice_get ranks j ≡ Some b → AreFew (answers_at b) 65535)
    → AreFew (flat_map answers_at ranks) (length ranks * 65535)
all_few [] each = record { few = omega arith; short = All-nil IsShort }
all_few (b ∷ ranks) each =
    let first = each 0 b refl in
    let others = all_few ranks (λ j b here. each (suc j) b here) in
    record {
      few = omega (arith, first.few, others.few, length-append (answers_at b) (flat_map answers_at ranks));
      short = All-append IsShort (answers_at b) (flat_map answers_at ranks) first.short others.short;
    }

of_accounts : (ranks : List RankAccount) → flat_map answers_in ranks ≡ flat_map answers_at (ends_of ranks)
of_accounts [] = refl
of_accounts (account ∷ ranks) = ap (λ (as' : List Answer). answers_in account ++ as') (of_accounts ranks)

few_fit : (ranks : List RankAccount) → length (ends_of ranks) ≤ 64
    → AreFew (flat_map answers_at (ends_of ranks)) (length (ends_of ranks) * 65535) → CountsFit (map told_of_rank ranks)
few_fit ranks few all =
    let answers = flat_map answers_at (ends_of ranks) in
    let same = all_answers ranks ∙ of_accounts ranks in
    let fits : 64 * 65535 * 1048576 < 2 ^ 64 = lit< tt in
    let sum = sum_by-le got_len MAX_BODY answers all.short in
    record {
      sent = omega (arith, fits, few, all.few, ap (count_by is_sent) same, count_by-le-length is_sent answers);
      got = omega (arith, fits, few, all.few, ap (count_by is_got) same, count_by-le-length is_got answers);
      bytes = omega (arith, fits, few, all.few, ap (sum_by got_len) same, sum);
    }

module _ (lengths : HaveTheirLength) (receives : HaveReceives) (shape : Sizes) (lines : List Line) (ranks : List Ended)
    (packets : List Packets) (script : IsScript shape.ranks lines) (lawful : IsRunOf shape lines ranks packets) where
  nobody : Ended
  nobody = record { at = 0; waits = None; events = [] }

  -- a rank of the run at its end
  ended : (i : ℕ) → i < shape.ranks → (a : Ended) × (slice_get ranks i ≡ Some a)
  ended i inside =
      (get_or ranks i nobody, slice_get-get_or ranks i nobody (omega (arith, inside, lawful.one_each)))

  -- its run
  run_of : (i : ℕ) (a : Ended) → slice_get ranks i ≡ Some a → IsRankRun shape (commands_of i lines) a.at a.events
  run_of i a here = MatchOption-at_some ⊤ _ a here (lawful.rank_runs i)

  -- what it sent to another
  delivered_of : (i j : ℕ) (a b : Ended) → slice_get ranks i ≡ Some a → slice_get ranks j ≡ Some b
      → AreDelivered i j (commands_of i lines) (commands_of j lines) a.events b.events
  delivered_of i j a b here there =
      MatchOption-at_some ⊤ _ b there (MatchOption-at_some ⊤ (λ (a : Ended). EachRank (λ j b.
      AreDelivered i j (commands_of i lines) (commands_of j lines) a.events b.events) ranks) a here
      (lawful.delivered i) j)

  sent_is_short : (i : ℕ) (body : List ℕ) → IsSentBy (commands_of i lines) body → length body ≤ MAX_BODY
  sent_is_short i body is =
      let commands = commands_of i lines in
      let numbered = mapped_some (λ (c : Numbered). c.command) (find (λ c. c.line == is.line) commands)
      is.command is.at_line in
      let fine = find_among (λ c. is_in_range shape.ranks c.command ≡ true) (λ c. c.line == is.line) commands
      numbered.0 (commands_fit shape.ranks i 2 lines script.lines_in_range) numbered.1 in
      let short = sent_short lengths shape.ranks numbered.0.command fine in
      omega (arith, short, ap length is.same, ap (λ (c : Command). length (sent_bytes c)) numbered.2)

  -- a message that came is one of a rank of the run
  low_from : (j : ℕ) (b : Ended) → slice_get ranks j ≡ Some b → (before after : List Event) → b.events ≡ before ++ after
      → (pair : Pair) → Contains (matched_pairs before) pair → pair.arrival.env.from < shape.ranks
  low_from j b here before after split pair paired =
      let run = run_of j b here in
      let came = came_of (All-contains (IsOfReceive before) (matched_pairs before) pair (receives before) paired) in
      let more = Contains-append_left (messages before) (messages after) pair.arrival came in
      let same : messages b.events ≡ messages before ++ messages after =
      ap messages split ∙ filter_map-append (λ (e : Event). arrival_of e.what) before after in
      All-contains (λ (a : Arrival). a.env.from < shape.ranks) (messages b.events) pair.arrival
      (low_senders shape.ranks b.events run.numbers)
      (subst (λ (ms : List Arrival). Contains ms pair.arrival) (sym same) more)
    where
      came_of : IsOfReceive before pair → Contains (messages before) pair.arrival
      came_of (inl right) = right.came
      came_of (inr right) = right.came

  -- the bytes of an answer are those of a command
  got_short : (j : ℕ) (b : Ended) → slice_get ranks j ≡ Some b
      → (before : List Event) (e : Event) (after : List Event) → b.events ≡ before ++ e ∷ after
      → (line from tag : ℕ) (body : List ℕ) → e.what ≡ Ran line (answer.Got from tag body)
      → length body ≤ MAX_BODY
  got_short j b here before e after split line from tag body is =
      let commands = commands_of j lines in
      let run = run_of j b here in
      let right = subst (λ (what : Happened). AnswerAt commands before what) is
      (AtEach-split (λ before e. AnswerAt commands before e.what) before e after
      (subst (λ (h : List Event). Always (AnswerAt commands) h) split run.answers.right)) in
      let shows = got_shown commands before line from tag body right in
      let i = shows.asks.pair.arrival.env.from in
      let a = ended i (low_from j b here before (e ∷ after) split shows.asks.pair shows.asks.paired) in
      let delivered = delivered_of i j a.0 b a.1 here in
      let senders = commands_of i lines in
      let bytes = subst (λ (what : Happened). BodyAt i senders (sends a.0.events j) commands before what) is
      (AtEach-split (λ before e. BodyAt i senders (sends a.0.events j) commands before e.what) before e after
      (subst (λ (h : List Event). Always (BodyAt i senders (sends a.0.events j) commands) h) split delivered.bodies)) in
      sent_is_short i body (shown_sent senders (sends a.0.events j) commands before line from tag body shows bytes)

  few_answers : (j : ℕ) (b : Ended) → slice_get ranks j ≡ Some b → AreFew (answers_at b) 65535
  few_answers j b here =
      let run = run_of j b here in
      let commands = commands_of j lines in
      let ran = ap length run.answers.in_order in
      let lined = length-map (take b.at commands) (λ (c : Numbered). c.line) in
      let few : length lines < 65536 = script.few_lines in
      record {
        few = omega (arith, few, few_commands j 2 lines, answers_ran b.events, ran, lined, length-take b.at commands);
        short = answers_all IsShort b.events (λ before e after split.
            short_event e.what (got_short j b here before e after split));
      }

pub counts_fit : HaveTheirLength → HaveReceives → (shape : Sizes) (lines : List Line) (run : RunRecord)
    → IsScript shape.ranks lines → IsRunIn shape lines run → CountsFit (told_of run)
counts_fit lengths receives shape lines run script is =
    let ranks = ends_of run.ranks in
    let few : shape.ranks ≤ 64 = script.few_ranks in
    few_fit run.ranks (omega (arith, few, is.lawful.one_each))
    (all_few ranks (few_answers lengths receives shape lines ranks (packets_of run.pairs) script is.lawful))
