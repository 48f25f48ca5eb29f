-- What holds of a rank's history on a way of moves, and lasts with what comes of a packet.
use Rattle.std.proofs.Common.{◌≡◌, ◌⊎◌, inl, inr, ℕ, ◌+◌, ◌-◌, ◌<◌, ◌≤◌, ◌==◌, ◌&&◌, ◌||◌, not, Bool}
use Rattle.std.proofs.Common.{true, false, cond}
use Rattle.std.proofs.Common.{Option, Some, None, List, [], ◌∷◌, ◌++◌, length, map, refl, sym, ◌∙◌, ap, subst, arith}
use Rattle.std.proofs.Common.{append-nil, length-append}
use Rattle.std.specs.Prelude.{filter_map, if◌then◌else◌, option_map, option_to_list, take}
use Rattle.std.specs.Option.{option_map_or}
use Rattle.nm_types.specs.declared.answers.Answer.{Answer}
use Rattle.std.specs.List.{cons_option, filter, list_any, slice_get}
use Rattle.std.proofs.lemmas.Bool.{false≢true}
use Rattle.std.proofs.lemmas.List.{map-append}
use Rattle.std.proofs.lemmas.List.Elements.{filter-append, filter_map-append}
use Rattle.std.proofs.lemmas.List.Folds.{list_any-append}
use Rattle.nm_types.specs.declared.messages.Post as post
use Rattle.nm_types.specs.declared.scripts.Command.{Command}
use Rattle.nm_types.specs.declared.scripts.Command.TheVariants as command
use Rattle.nm_types.specs.Commands.{Numbered, command_at}
use Rattle.nm_types.specs.Sizes.{Sizes}
use Rattle.nm_types.proofs.ListLemmas.{find_passes, get_last}
use Rattle.nm_types.proofs.NumberLemmas.{same_number}
use Rattle.nm_types.proofs.OptionLemmas.{no_some, same_some}
use Rattle.nm_types.proofs.TruthLemmas.{and_left, and_right, or_left}
use Rattle.nm_history.specs.declared.events.Event.{Event}
use Rattle.nm_history.specs.declared.events.Happened.{Happened}
use Rattle.nm_history.specs.declared.events.Happened.TheVariants as event
use Rattle.nm_history.specs.declared.plain.Pair.{Pair}
use Rattle.nm_history.specs.Answers.{Message, claim_at, is_question_of, is_result, is_start_of, is_started}
use Rattle.nm_history.specs.Answers.{line_of_name, live, live_message, message_claimed}
use Rattle.nm_history.specs.Completion.{is_taken}
use Rattle.nm_history.specs.Completion.Request.{Receiving, Sending}
use Rattle.nm_history.specs.Happens.{happened, is_cancel, is_recall}
use Rattle.nm_history.specs.Matching.{first_receive, is_of_message, is_of_receive, is_open, matched_pairs}
use Rattle.nm_history.specs.Matching.{new_pair, pair_of}
use Rattle.nm_history.specs.RankRun.{cancels_since, claims_since, is_cancelling, is_start, line_of_claim, ran_lines}
use Rattle.nm_history.specs.RankRun.{since_command, start_of, starts_since, without_number}
use Rattle.nm_history.specs.Sends.{Sent, posts, sends, sent_bytes, sent_of}
use Rattle.nm_history.specs.Selection.{matches}
use Rattle.nm_history.specs.Underway.{is_answer, is_of_packet}
use Rattle.nm_history.proofs.AnswerLemmas.{handle_same, line-push, line_kept, live_same}
use Rattle.nm_history.proofs.AppendLemmas.{happened-push, since_grows}
use Rattle.nm_history.proofs.DeliveryLemmas.{sends-push}
use Rattle.nm_history.proofs.MatchingLemmas.{matched_pairs-append, matched_pairs-push, matched_pairs-push_other}
use Rattle.nm_history.proofs.RankRunLemmas.{no_answer, not_answer, ran_lines-push, since-push, take_next}
use Rattle.nm_outcomes.specs.Places.{or_else}
use Rattle.nm_outcomes.specs.RankStates.{own_of}
use Rattle.nm_explored.proofs.SinceLemmas.{is_claiming}
use Rattle.nm_listed.proofs.LineLemmas.{first_of_two}

-- nothing of a packet is a deed
pub not_start : (what : Happened) → is_of_packet what ≡ true → is_start what ≡ false
not_start (event.Send to n tag ctx len how line) packet = absurd (false≢true packet)
not_start (event.Post p line) packet = absurd (false≢true packet)
not_start (event.Match number from n cap line) packet = absurd (false≢true packet)
not_start what packet = refl

pub not_cancelling : (what : Happened) → is_of_packet what ≡ true → is_cancelling what ≡ false
not_cancelling (event.Cancel number done) packet = absurd (false≢true packet)
not_cancelling (event.Recall to n) packet = absurd (false≢true packet)
not_cancelling what packet = refl

pub not_claim : (what : Happened) → is_of_packet what ≡ true → line_of_claim what ≡ None
not_claim (event.Claim from n line) packet = absurd (false≢true packet)
not_claim what packet = refl

pub not_sent : (stamp : ℕ) (what : Happened) → is_start what ≡ false → sent_of stamp what ≡ None
not_sent stamp (event.Send to n tag ctx len how line) none = absurd (false≢true (sym none))
not_sent stamp what none = refl

-- the last that a rank did
abbrev pub last_own : List Event → Option Happened
last_own h = slice_get (own_of h) (length (own_of h) - 1)

pub own_push : (h : List Event) (stamp : ℕ) (what : Happened) →
    own_of (h ++ record { stamp = stamp; what = what } ∷ []) ≡ own_of h ++ cond (not (is_of_packet what)) (what ∷ []) []
own_push h stamp what =
    ap (λ (ws : List Happened). filter (λ w. not (is_of_packet w)) ws)
    (map-append (λ (e : Event). e.what) h (record { stamp = stamp; what = what } ∷ []))
    ∙ filter-append (λ w. not (is_of_packet w)) (map (λ (e : Event). e.what) h) (what ∷ [])

last_is : {X : Type 0} (xs : List X) (x : X) → slice_get (xs ++ x ∷ []) (length (xs ++ x ∷ []) - 1) ≡ Some x
last_is {X} xs x =
    let place : length (xs ++ x ∷ []) - 1 ≡ length xs =
    (let many = length-append xs (x ∷ []) in omega (arith, many)) in
    ap (λ (k : ℕ). slice_get (xs ++ x ∷ []) k) place ∙ get_last xs x

pub last_now : (h : List Event) (stamp : ℕ) (what : Happened) → is_of_packet what ≡ false →
    last_own (h ++ record { stamp = stamp; what = what } ∷ []) ≡ Some what
last_now h stamp what own =
    ap (λ (ws : List Happened). slice_get ws (length ws - 1))
    (own_push h stamp what ∙ ap (λ (b : Bool). own_of h ++ cond (not b) (what ∷ []) []) own)
    ∙ last_is (own_of h) what

module _ (h : List Event) (stamp : ℕ) (what : Happened) where
  abbrev next : List Event
  next = h ++ record { stamp = stamp; what = what } ∷ []

  pub ran_same : is_answer what ≡ false → ran_lines next ≡ ran_lines h
  ran_same quiet =
      ran_lines-push h (record { stamp = stamp; what = what })
      ∙ ap (λ (o : Option ℕ). ran_lines h ++ cons_option o []) (no_answer what quiet) ∙ append-nil (ran_lines h)

  since_more : is_answer what ≡ false → since_command next ≡ since_command h ++ what ∷ []
  since_more quiet = since-push h (record { stamp = stamp; what = what }) ∙ since_grows (since_command h) what quiet

  pub starts_more : is_answer what ≡ false → starts_since next ≡ starts_since h ++ cond (is_start what) (what ∷ []) []
  starts_more quiet =
      ap (λ (ws : List Happened). filter is_start ws) (since_more quiet)
      ∙ filter-append is_start (since_command h) (what ∷ [])

  pub cancels_more : is_answer what ≡ false →
      cancels_since next ≡ cancels_since h ++ cond (is_cancelling what) (what ∷ []) []
  cancels_more quiet =
      ap (λ (ws : List Happened). filter is_cancelling ws) (since_more quiet)
      ∙ filter-append is_cancelling (since_command h) (what ∷ [])

  pub claims_more : is_answer what ≡ false → claims_since next ≡ claims_since h ++ cons_option (line_of_claim what) []
  claims_more quiet =
      ap (λ (ws : List Happened). filter_map line_of_claim ws) (since_more quiet)
      ∙ filter_map-append line_of_claim (since_command h) (what ∷ [])

  pub starts_same : is_answer what ≡ false → is_start what ≡ false → starts_since next ≡ starts_since h
  starts_same quiet none =
      starts_more quiet ∙ ap (λ (b : Bool). starts_since h ++ cond b (what ∷ []) []) none ∙ append-nil (starts_since h)

  pub cancels_same : is_answer what ≡ false → is_cancelling what ≡ false → cancels_since next ≡ cancels_since h
  cancels_same quiet none =
      cancels_more quiet ∙ ap (λ (b : Bool). cancels_since h ++ cond b (what ∷ []) []) none
      ∙ append-nil (cancels_since h)

  pub claims_same : is_answer what ≡ false → line_of_claim what ≡ None → claims_since next ≡ claims_since h
  claims_same quiet none =
      claims_more quiet ∙ ap (λ (o : Option ℕ). claims_since h ++ cons_option o []) none ∙ append-nil (claims_since h)

  pub sends_same : sent_of stamp what ≡ None → (to : ℕ) → sends next to ≡ sends h to
  sends_same none to =
      sends-push h (record { stamp = stamp; what = what }) to
      ∙ ap (λ (o : Option Sent). sends h to ++ filter (λ s. s.to == to) (cons_option o [])) none
      ∙ append-nil (sends h to)

  pub name_same : (commands : List Numbered) (q : ℕ) → is_answer what ≡ false →
      line_of_name commands next q ≡ line_of_name commands h q
  name_same commands q quiet =
      line-push commands h (record { stamp = stamp; what = what }) q
      ∙ line_kept commands q (line_of_name commands h q) what quiet

  pub taken_still : (from n : ℕ) → is_taken h from n ≡ true → is_taken next from n ≡ true
  taken_still from n was =
      let more = matched_pairs-append h (record { stamp = stamp; what = what } ∷ []) in
      ap (λ (ps : List Pair). list_any (is_of_message from n) ps) more.1
      ∙ list_any-append (is_of_message from n) (matched_pairs h) more.0
      ∙ or_left (is_taken h from n) (list_any (is_of_message from n) more.0) was

  pub happened_still : (test : Happened → Bool) → happened test h ≡ true → happened test next ≡ true
  happened_still test was =
      happened-push test h (record { stamp = stamp; what = what }) ∙ or_left (happened test h) (test what) was

-- a receive that was cancelled, or is paired, stays so
second_off : (a b : Bool) → (not a && not b) ≡ true → b ≡ false
second_off false false is = refl
second_off true b is = absurd (false≢true is)
second_off false true is = absurd (false≢true is)

pub paired_kept : (h : List Event) (stamp : ℕ) (what : Happened) (number : ℕ) → is_of_packet what ≡ true →
    (list_any (is_of_receive number) (matched_pairs h) ≡ true) ⊎ (happened (is_cancel number) h ≡ true) →
    list_any (is_of_receive number) (matched_pairs (h ++ record { stamp = stamp; what = what } ∷ []))
    ≡ list_any (is_of_receive number) (matched_pairs h)
paired_kept h stamp (event.Arrive a) number packet over =
    ap (λ (ps : List Pair). list_any (is_of_receive number) ps)
    (matched_pairs-push h (record { stamp = stamp; what = event.Arrive a }))
    ∙ list_any-append (is_of_receive number) (matched_pairs h)
    (option_to_list (new_pair h (matched_pairs h) (event.Arrive a)))
    ∙ by_receive (first_receive h (matched_pairs h) a.env) refl over
  where
    paired : Bool
    paired = list_any (is_of_receive number) (matched_pairs h)

    true_or : (b c : Bool) → b ≡ true → (b || c) ≡ b
    true_or true c is = refl
    true_or false c is = absurd (false≢true is)

    or_none : (b c : Bool) → c ≡ false → (b || (c || false)) ≡ b
    or_none true c none = refl
    or_none false false none = refl
    or_none false true none = none

    by_receive : (o : Option post.Post) → first_receive h (matched_pairs h) a.env ≡ o →
        (paired ≡ true) ⊎ (happened (is_cancel number) h ≡ true) →
        (paired || list_any (is_of_receive number) (option_to_list (option_map (λ p. pair_of p a) o))) ≡ paired
    by_receive None found over = or_none paired false refl
    by_receive (Some p) found (inl was) = true_or paired _ was
    by_receive (Some p) found (inr off) =
        or_none paired (p.number == number) (by_test (p.number == number) refl)
      where
        passes : (matches p.from p.tag p.ctx a.env && is_open h (matched_pairs h) p) ≡ true
        passes = find_passes (λ (p : post.Post). matches p.from p.tag p.ctx a.env && is_open h (matched_pairs h) p)
            (posts h) p found

        kept : happened (is_cancel p.number) h ≡ false
        kept = second_off _ _ (and_right (matches p.from p.tag p.ctx a.env) (is_open h (matched_pairs h) p) passes)

        by_test : (b : Bool) → (p.number == number) ≡ b → b ≡ false
        by_test false is = refl
        by_test true is =
            absurd (false≢true (sym kept
            ∙ ap (λ (k : ℕ). happened (is_cancel k) h) (same_number p.number number is) ∙ off))
paired_kept h stamp (event.Whole from n) number packet over =
    ap (λ (ps : List Pair). list_any (is_of_receive number) ps)
    (matched_pairs-push_other h (record { stamp = stamp; what = event.Whole from n }) refl)
paired_kept h stamp (event.Out to n) number packet over =
    ap (λ (ps : List Pair). list_any (is_of_receive number) ps)
    (matched_pairs-push_other h (record { stamp = stamp; what = event.Out to n }) refl)
paired_kept h stamp (event.Withdraw from n done) number packet over =
    ap (λ (ps : List Pair). list_any (is_of_receive number) ps)
    (matched_pairs-push_other h (record { stamp = stamp; what = event.Withdraw from n done }) refl)
paired_kept h stamp (event.Undone to n done) number packet over =
    ap (λ (ps : List Pair). list_any (is_of_receive number) ps)
    (matched_pairs-push_other h (record { stamp = stamp; what = event.Undone to n done }) refl)
paired_kept h stamp (event.Send to n tag ctx len how line) number packet over = absurd (false≢true packet)
paired_kept h stamp (event.Post p line) number packet over = absurd (false≢true packet)
paired_kept h stamp (event.Match m from n cap line) number packet over = absurd (false≢true packet)
paired_kept h stamp (event.Cancel m done) number packet over = absurd (false≢true packet)
paired_kept h stamp (event.Recall to n) number packet over = absurd (false≢true packet)
paired_kept h stamp (event.Claim from n line) number packet over = absurd (false≢true packet)
paired_kept h stamp (event.Ran line a) number packet over = absurd (false≢true packet)

-- the message that a line claimed, after an event more
pub claim_push : (h : List Event) (stamp : ℕ) (what : Happened) (line : ℕ) →
    claim_at (h ++ record { stamp = stamp; what = what } ∷ []) line
    ≡ or_else (claim_at h line) (message_claimed line what)
claim_push h stamp what line =
    ap (λ (ms : List Message). slice_get ms 0)
    (filter_map-append (λ (e : Event). message_claimed line e.what) h (record { stamp = stamp; what = what } ∷ []))
    ∙ first_of_two (filter_map (λ (e : Event). message_claimed line e.what) h) (message_claimed line what)

or_nothing : {X : Type 0} (o : Option X) → or_else o None ≡ o
or_nothing None = refl
or_nothing (Some x) = refl

no_claim_more : (line : ℕ) (o : Option Message) (what : Happened) → line_of_claim what ≡ None →
    or_else o (message_claimed line what) ≡ o
no_claim_more line o (event.Claim from n own) none = absurd (no_some own (sym none))
no_claim_more line o what none = or_nothing o

pub claim_same : (h : List Event) (stamp : ℕ) (what : Happened) → line_of_claim what ≡ None → (line : ℕ) →
    claim_at (h ++ record { stamp = stamp; what = what } ∷ []) line ≡ claim_at h line
claim_same h stamp what none line =
    claim_push h stamp what line ∙ no_claim_more line (claim_at h line) what none

-- the next command has done nothing
pub record IsIdle (h : List Event) : Type 0 where
  pub starts : starts_since h ≡ []
  pub cancels : cancels_since h ≡ []
  pub claims : claims_since h ≡ []

-- a receive was cancelled, or not since it is paired
pub record HasCancelled (commands : List Numbered) (h : List Event) (q : ℕ) (last : Happened) : Type 0 where
  pub number : ℕ
  pub done : Bool
  pub live_is : live commands h q ≡ Some (Receiving number)
  pub cancels : cancels_since h ≡ event.Cancel number done ∷ []
  pub paired : done ≡ not (list_any (is_of_receive number) (matched_pairs h))
  pub off : done ≡ true → happened (is_cancel number) h ≡ true
  pub kind : is_cancelling last ≡ true

-- a send was recalled
pub record HasRecalled (commands : List Numbered) (h : List Event) (q : ℕ) : Type 0 where
  pub to : ℕ
  pub n : ℕ
  pub live_is : live commands h q ≡ Some (Sending to n)
  pub cancels : cancels_since h ≡ event.Recall to n ∷ []
  pub recalled : happened (is_recall to n) h ≡ true

-- a claimed message was received
pub record HasMatched (commands : List Numbered) (h : List Event) (line m cap : ℕ) (last : Happened) : Type 0 where
  pub message : Message
  pub message_is : live_message commands h m ≡ Some message
  pub taken : is_taken h message.from message.n ≡ true
  pub starts : map without_number (starts_since h) ≡ event.Match 0 message.from message.n cap line ∷ []
  pub cancels : cancels_since h ≡ []
  pub claims : claims_since h ≡ []
  pub kind : is_start last ≡ true

-- a send or a receive was started
pub record HasStarted (eager : ℕ) (commands : List Numbered) (h : List Event) (line : ℕ) (c : Command) (last : Happened)
    : Type 0 where
  pub starts : map without_number (starts_since h) ≡ start_of eager commands [] line c
  pub cancels : cancels_since h ≡ []
  pub claims : claims_since h ≡ []
  pub kind : is_start last ≡ true

-- a message was claimed
pub record HasClaimed (h : List Event) (line : ℕ) (last : Happened) : Type 0 where
  pub starts : starts_since h ≡ []
  pub cancels : cancels_since h ≡ []
  pub claims : claims_since h ≡ line ∷ []
  pub kind : is_claiming last ≡ true

-- the next command has done what it does before its answer, which is the last that was done
abbrev pub Begins : ℕ → List Numbered → List Event → ℕ → Command → Happened → Type 0
Begins eager commands h line (command.Send to q tag ctx sync body) last =
    HasStarted eager commands h line (command.Send to q tag ctx sync body) last
Begins eager commands h line (command.Recv q from tag ctx cap) last =
    HasStarted eager commands h line (command.Recv q from tag ctx cap) last
Begins eager commands h line (command.Mrecv q m cap) last = HasMatched commands h line m cap last
Begins eager commands h line (command.Cancel q) last =
    (starts_since h ≡ []) × (claims_since h ≡ [])
    × (HasCancelled commands h q last ⊎ HasRecalled commands h q)
Begins eager commands h line (command.Mprobe m from tag ctx) last = HasClaimed h line last
Begins eager commands h line c last = ⊥

pub record IsBegun (eager : ℕ) (commands : List Numbered) (h : List Event) : Type 0 where
  pub command : Numbered
  pub next : slice_get commands (length (ran_lines h)) ≡ Some command
  pub last : Happened
  pub last_is : last_own h ≡ Some last
  pub begun : Begins eager commands h command.line command.command last

-- the sends are of commands of their lines, to ranks of the run
abbrev pub AreOfCommands : ℕ → List Numbered → List Event → Type 0
AreOfCommands ranks commands h =
    (to n : ℕ) (s : Sent) → slice_get (sends h to) n ≡ Some s →
    (c : Command) × (command_at commands s.line ≡ Some c) × (length (sent_bytes c) ≡ s.len) × (to < ranks)

-- a name stands for the line of a start that ran
pub record IsNamed (commands : List Numbered) (h : List Event) (q line : ℕ) : Type 0 where
  pub place : ℕ
  pub command : Numbered
  pub ran : place < length (ran_lines h)
  pub here : slice_get commands place ≡ Some command
  pub line_is : command.line ≡ line
  pub starts : is_start_of q command.command ≡ true

abbrev pub AreNamed : List Numbered → List Event → Type 0
AreNamed commands h = (q line : ℕ) → line_of_name commands h q ≡ Some line → IsNamed commands h q line

-- a line of a command that ran
pub record IsPast (commands : List Numbered) (h : List Event) (line : ℕ) : Type 0 where
  pub place : ℕ
  pub command : Numbered
  pub ran : place < length (ran_lines h)
  pub here : slice_get commands place ≡ Some command
  pub line_is : command.line ≡ line

-- a line that claimed a message ran, or the claim is what its command has done
abbrev pub AreClaimed : List Numbered → List Event → Type 0
AreClaimed commands h =
    (line : ℕ) (m : Message) → claim_at h line ≡ Some m → IsPast commands h line ⊎ (claims_since h ≡ line ∷ [])

pub past_same : (h : List Event) (stamp : ℕ) (what : Happened) (commands : List Numbered) (line : ℕ) →
    is_answer what ≡ false → IsPast commands h line →
    IsPast commands (h ++ record { stamp = stamp; what = what } ∷ []) line
past_same h stamp what commands line quiet past = record {
  place = past.place;
  command = past.command;
  ran = subst (λ (ls : List ℕ). past.place < length ls) (sym (ran_same h stamp what quiet)) past.ran;
  here = past.here;
  line_is = past.line_is;
}

-- what holds of a rank's history on a way
pub record IsSteady (shape : Sizes) (commands : List Numbered) (h : List Event) : Type 0 where
  pub order : ran_lines h ≡ map (λ c. c.line) (take (length (ran_lines h)) commands)
  pub few : length (ran_lines h) ≤ length commands
  pub stage : IsIdle h ⊎ IsBegun shape.eager commands h
  pub sent : AreOfCommands shape.ranks commands h
  pub named : AreNamed commands h
  pub claimed : AreClaimed commands h

-- what comes of a packet leaves that as it is
module _ (shape : Sizes) (commands : List Numbered) (h : List Event) (stamp : ℕ) (what : Happened)
    (packet : is_of_packet what ≡ true) where
  abbrev after : List Event
  after = h ++ record { stamp = stamp; what = what } ∷ []

  quiet : is_answer what ≡ false
  quiet = not_answer what packet

  last_same : last_own after ≡ last_own h
  last_same =
      ap (λ (ws : List Happened). slice_get ws (length ws - 1))
      (own_push h stamp what ∙ ap (λ (b : Bool). own_of h ++ cond (not b) (what ∷ []) []) packet
      ∙ append-nil (own_of h))

  pub live_still : (q : ℕ) → live commands after q ≡ live commands h q
  live_still q = live_same commands h (record { stamp = stamp; what = what }) q quiet (not_start what packet)

  starts_are : starts_since after ≡ starts_since h
  starts_are = starts_same h stamp what quiet (not_start what packet)

  cancels_are : cancels_since after ≡ cancels_since h
  cancels_are = cancels_same h stamp what quiet (not_cancelling what packet)

  claims_are : claims_since after ≡ claims_since h
  claims_are = claims_same h stamp what quiet (not_claim what packet)

  cancelled_still : (q : ℕ) (last : Happened) → HasCancelled commands h q last → HasCancelled commands after q last
  cancelled_still q last was = record {
    number = was.number;
    done = was.done;
    live_is = live_still q ∙ was.live_is;
    cancels = cancels_are ∙ was.cancels;
    paired = was.paired ∙ ap not (sym
        (paired_kept h stamp what was.number packet (by_done was.done was.paired was.off)));
    off = λ is. happened_still h stamp what (is_cancel was.number) (was.off is);
    kind = was.kind;
  }
    where
      by_done : (done : Bool) → done ≡ not (list_any (is_of_receive was.number) (matched_pairs h)) →
          (done ≡ true → happened (is_cancel was.number) h ≡ true) →
          (list_any (is_of_receive was.number) (matched_pairs h) ≡ true) ⊎ (happened (is_cancel was.number) h ≡ true)
      by_done true paired off = inr (off refl)
      by_done false paired off = inl (by_paired (list_any (is_of_receive was.number) (matched_pairs h)) paired)
        where
          by_paired : (b : Bool) → false ≡ not b → b ≡ true
          by_paired true is = refl
          by_paired false is = absurd (false≢true is)

  begins_still : (line : ℕ) (c : Command) (last : Happened) → Begins shape.eager commands h line c last →
      Begins shape.eager commands after line c last
  begins_still line (command.Send to q tag ctx sync body) last was = record {
    starts = ap (λ (ws : List Happened). map without_number ws) starts_are ∙ was.starts;
    cancels = cancels_are ∙ was.cancels;
    claims = claims_are ∙ was.claims;
    kind = was.kind;
  }
  begins_still line (command.Recv q from tag ctx cap) last was = record {
    starts = ap (λ (ws : List Happened). map without_number ws) starts_are ∙ was.starts;
    cancels = cancels_are ∙ was.cancels;
    claims = claims_are ∙ was.claims;
    kind = was.kind;
  }
  begins_still line (command.Mrecv q m cap) last was = record {
    message = was.message;
    message_is = handle_same commands h (record { stamp = stamp; what = what }) m quiet (not_claim what packet)
        ∙ was.message_is;
    taken = taken_still h stamp what was.message.from was.message.n was.taken;
    starts = ap (λ (ws : List Happened). map without_number ws) starts_are ∙ was.starts;
    cancels = cancels_are ∙ was.cancels;
    claims = claims_are ∙ was.claims;
    kind = was.kind;
  }
  begins_still line (command.Cancel q) last was =
      (starts_are ∙ was.0, claims_are ∙ was.1, by_kind was.2)
    where
      by_kind : HasCancelled commands h q last ⊎ HasRecalled commands h q →
          HasCancelled commands after q last ⊎ HasRecalled commands after q
      by_kind (inl cancelled) = inl (cancelled_still q last cancelled)
      by_kind (inr recalled) = inr (record {
        to = recalled.to;
        n = recalled.n;
        live_is = live_still q ∙ recalled.live_is;
        cancels = cancels_are ∙ recalled.cancels;
        recalled = happened_still h stamp what (is_recall recalled.to recalled.n) recalled.recalled;
      })
  begins_still line (command.Mprobe m from tag ctx) last was = record {
    starts = starts_are ∙ was.starts;
    cancels = cancels_are ∙ was.cancels;
    claims = claims_are ∙ was.claims;
    kind = was.kind;
  }
  begins_still line (command.Wait q) last was = absurd was
  begins_still line (command.Test q) last was = absurd was
  begins_still line (command.Probe from tag ctx) last was = absurd was
  begins_still line (command.Await from tag ctx) last was = absurd was

  stage_still : IsIdle h ⊎ IsBegun shape.eager commands h → IsIdle after ⊎ IsBegun shape.eager commands after
  stage_still (inl idle) = inl (record {
    starts = starts_are ∙ idle.starts;
    cancels = cancels_are ∙ idle.cancels;
    claims = claims_are ∙ idle.claims;
  })
  stage_still (inr begun) = inr (record {
    command = begun.command;
    next = ap (λ (ls : List ℕ). slice_get commands (length ls)) (ran_same h stamp what quiet) ∙ begun.next;
    last = begun.last;
    last_is = last_same ∙ begun.last_is;
    begun = begins_still begun.command.line begun.command.command begun.last begun.begun;
  })

  pub steady_packet : IsSteady shape commands h → IsSteady shape commands after
  steady_packet steady = record {
    order = subst (λ (ls : List ℕ). ls ≡ map (λ c. c.line) (take (length ls) commands))
        (sym (ran_same h stamp what quiet)) steady.order;
    few = subst (λ (ls : List ℕ). length ls ≤ length commands) (sym (ran_same h stamp what quiet)) steady.few;
    stage = stage_still steady.stage;
    sent = λ to n s here. steady.sent to n s
        (ap (λ (ss : List Sent). slice_get ss n)
        (sym (sends_same h stamp what (not_sent stamp what (not_start what packet)) to)) ∙ here);
    named = λ q line is.
        let was = steady.named q line (sym (name_same h stamp what commands q quiet) ∙ is) in record {
          place = was.place;
          command = was.command;
          ran = subst (λ (ls : List ℕ). was.place < length ls) (sym (ran_same h stamp what quiet)) was.ran;
          here = was.here;
          line_is = was.line_is;
          starts = was.starts;
        };
    claimed = λ line m is.
        by_place line (steady.claimed line m (sym (claim_same h stamp what (not_claim what packet) line) ∙ is));
  }
    where
      by_place : (line : ℕ) → IsPast commands h line ⊎ (claims_since h ≡ line ∷ []) →
          IsPast commands after line ⊎ (claims_since after ≡ line ∷ [])
      by_place line (inl past) = inl (past_same h stamp what commands line quiet past)
      by_place line (inr now) = inr (claims_are ∙ now)

-- what a command does before its answer
module _ (shape : Sizes) (commands : List Numbered) (h : List Event) (stamp : ℕ) (what : Happened)
    (quiet : is_answer what ≡ false) where
  abbrev begun_after : List Event
  begun_after = h ++ record { stamp = stamp; what = what } ∷ []

  pub steady_begun : IsSteady shape commands h → IsBegun shape.eager commands begun_after →
      AreOfCommands shape.ranks commands begun_after → AreClaimed commands begun_after →
      IsSteady shape commands begun_after
  steady_begun steady begun sent claimed = record {
    order = subst (λ (ls : List ℕ). ls ≡ map (λ c. c.line) (take (length ls) commands))
        (sym (ran_same h stamp what quiet)) steady.order;
    few = subst (λ (ls : List ℕ). length ls ≤ length commands) (sym (ran_same h stamp what quiet)) steady.few;
    stage = inr begun;
    sent = sent;
    named = λ q line is.
        let was = steady.named q line (sym (name_same h stamp what commands q quiet) ∙ is) in record {
          place = was.place;
          command = was.command;
          ran = subst (λ (ls : List ℕ). was.place < length ls) (sym (ran_same h stamp what quiet)) was.ran;
          here = was.here;
          line_is = was.line_is;
          starts = was.starts;
        };
    claimed = claimed;
  }

  -- what is no send, and no claim
  pub sent_as_before : IsSteady shape commands h → sent_of stamp what ≡ None →
      AreOfCommands shape.ranks commands begun_after
  sent_as_before steady none to n s here =
      steady.sent to n s (ap (λ (ss : List Sent). slice_get ss n) (sym (sends_same h stamp what none to)) ∙ here)

  pub claimed_as_before : IsSteady shape commands h → line_of_claim what ≡ None → AreClaimed commands begun_after
  claimed_as_before steady none line m is =
      by_place (steady.claimed line m (sym (claim_same h stamp what none line) ∙ is))
    where
      by_place : IsPast commands h line ⊎ (claims_since h ≡ line ∷ []) →
          IsPast commands begun_after line ⊎ (claims_since begun_after ≡ line ∷ [])
      by_place (inl past) = inl (past_same h stamp what commands line quiet past)
      by_place (inr now) = inr (claims_same h stamp what quiet none ∙ now)

-- the answer of the next command
module _ (shape : Sizes) (commands : List Numbered) (h : List Event) (stamp : ℕ) (x : Numbered) (a : Answer)
    (next : slice_get commands (length (ran_lines h)) ≡ Some x)
    (here : command_at commands x.line ≡ Some x.command)
    (claims : (line : ℕ) → claims_since h ≡ line ∷ [] → x.line ≡ line) where
  abbrev answered : List Event
  answered = h ++ record { stamp = stamp; what = event.Ran x.line a } ∷ []

  ran_more : ran_lines answered ≡ ran_lines h ++ x.line ∷ []
  ran_more = ran_lines-push h (record { stamp = stamp; what = event.Ran x.line a })

  many_more : length (ran_lines answered) ≡ length (ran_lines h) + 1
  many_more = ap (λ (ls : List ℕ). length ls) ran_more ∙ length-append (ran_lines h) (x.line ∷ [])

  since_none : since_command answered ≡ []
  since_none = since-push h (record { stamp = stamp; what = event.Ran x.line a })

  longer : (k : ℕ) → k < length (ran_lines h) → k < length (ran_lines answered)
  longer k low = let many = many_more in omega (arith, low, many)

  now_past : length (ran_lines h) < length (ran_lines answered)
  now_past = let many = many_more in omega (arith, many)

  pub steady_ran : IsSteady shape commands h → IsSteady shape commands answered
  steady_ran steady = record {
    order = ran_more ∙ ap (λ (ls : List ℕ). ls ++ x.line ∷ []) steady.order
        ∙ sym (take_next commands (length (ran_lines h)) x next).1
        ∙ ap (λ (k : ℕ). map (λ c. c.line) (take k commands)) (sym many_more);
    few = (let many = many_more in
        let low = (take_next commands (length (ran_lines h)) x next).0 in
        omega (arith, many, low));
    stage = inl (record {
      starts = ap (λ (ws : List Happened). filter is_start ws) since_none;
      cancels = ap (λ (ws : List Happened). filter is_cancelling ws) since_none;
      claims = ap (λ (ws : List Happened). filter_map line_of_claim ws) since_none;
    });
    sent = λ to n s got.
        steady.sent to n s
        (ap (λ (ss : List Sent). slice_get ss n) (sym (sends_same h stamp (event.Ran x.line a) refl to)) ∙ got);
    named = λ q line is.
        by_start q line (is_start_of q x.command && is_started a) refl
        (sym (line-push commands h (record { stamp = stamp; what = event.Ran x.line a }) q
        ∙ ap (λ (o : Option Command). if option_map_or (is_start_of q) o false && is_started a then Some x.line
        else if option_map_or (is_question_of q) o false && is_result a then None
        else line_of_name commands h q) here) ∙ is);
    claimed = λ line m is.
        inl (by_place line (steady.claimed line m (sym (claim_same h stamp (event.Ran x.line a) refl line) ∙ is)));
  }
    where
      by_question : (q line : ℕ) (b : Bool) → (if b then None else line_of_name commands h q) ≡ Some line →
          IsNamed commands answered q line
      by_question q line true is = absurd (no_some line is)
      by_question q line false is =
          let was = steady.named q line is in record {
            place = was.place;
            command = was.command;
            ran = longer was.place was.ran;
            here = was.here;
            line_is = was.line_is;
            starts = was.starts;
          }

      by_start : (q line : ℕ) (b : Bool) → (is_start_of q x.command && is_started a) ≡ b →
          (if b then Some x.line
          else if is_question_of q x.command && is_result a then None else line_of_name commands h q) ≡ Some line →
          IsNamed commands answered q line
      by_start q line true so is = record {
        place = length (ran_lines h);
        command = x;
        ran = now_past;
        here = next;
        line_is = same_some x.line line is;
        starts = and_left (is_start_of q x.command) (is_started a) so;
      }
      by_start q line false so is = by_question q line (is_question_of q x.command && is_result a) is

      by_place : (line : ℕ) → IsPast commands h line ⊎ (claims_since h ≡ line ∷ []) → IsPast commands answered line
      by_place line (inl past) = record {
        place = past.place;
        command = past.command;
        ran = longer past.place past.ran;
        here = past.here;
        line_is = past.line_is;
      }
      by_place line (inr now) = record {
        place = length (ran_lines h);
        command = x;
        ran = now_past;
        here = next;
        line_is = claims line now;
      }
