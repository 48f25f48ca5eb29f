-- What a wait or a test may show, by the states of the ranks.
use Rattle.std.proofs.Common.{◌≡◌, ℕ, ◌<◌, ◌&&◌, ◌||◌, not, Bool, true, false, cond, Option, Some, None, List, []}
use Rattle.std.proofs.Common.{refl, sym, ◌∙◌, ap, arith}
use Rattle.std.specs.Prelude.{if◌then◌else◌, nat_lt, replicate, IsSomeAnd, option_and_then}
use Rattle.std.specs.Prelude.{option_map}
use Rattle.std.specs.List.{filter, find, slice_get}
use Rattle.std.specs.Option.{option_map_or}
use Rattle.std.proofs.lemmas.Bool.{false≢true}
use Rattle.nm_types.specs.declared.answers.Answer.{Answer}
use Rattle.nm_types.specs.declared.answers.Answer.TheVariants as answer
use Rattle.nm_types.specs.declared.scripts.Command.{Command}
use Rattle.nm_types.specs.declared.scripts.Line.{Line}
use Rattle.nm_types.specs.Commands.{command_at, commands_of}
use Rattle.nm_types.specs.Sizes.{Sizes}
use Rattle.nm_history.specs.declared.events.Event.{Event}
use Rattle.nm_history.specs.declared.plain.Pair.{Pair}
use Rattle.nm_history.specs.Answers.{live, without_bytes}
use Rattle.nm_history.specs.Completion.{Request, is_taken, pair_of_receive, shown}
use Rattle.nm_history.specs.Completion.Request.{Receiving, Sending}
use Rattle.nm_history.specs.Happens.{happened, is_arrival, is_cancel, is_recall, is_withdraw}
use Rattle.nm_history.specs.Matching.{is_of_receive, matched_pairs}
use Rattle.nm_history.specs.Sends.{Sent, sends, sent_bytes}
use Rattle.nm_history.proofs.SelectionLemmas.{find_contains}
use Rattle.nm_match.proofs.NumberLemmas.{is_known_message-arrived}
use Rattle.nm_types.proofs.ListLemmas.{get_from_map}
use Rattle.nm_types.proofs.OptionLemmas.{mapped_some, no_some, same_some, some_and}
use Rattle.nm_outcomes.specs.Logs.{Step, history_in}
use Rattle.nm_outcomes.specs.Moves.{AreBytesOf, is_free_in, may_show}
use Rattle.nm_outcomes.proofs.Bodies.{came_known, pair_came}
use Rattle.nm_outcomes.proofs.SentLemmas.{came_within}
use Rattle.nm_outcomes.specs.declared.spots.deeds.Deed.{Deed}
use Rattle.nm_outcomes.specs.declared.spots.deeds.Reply.{Reply}
use Rattle.nm_outcomes.specs.declared.spots.deeds.Reply.TheVariants as reply
use Rattle.nm_outcomes.specs.Deeds.{answer_meant, bytes_at}
use Rattle.nm_outcomes.specs.Looks.{is_send_by}
use Rattle.nm_outcomes.specs.RankStates.{IsSpotOf, Spot}
use Rattle.nm_outcomes.proofs.SaidLemmas.{said}
use Rattle.nm_outcomes.proofs.SpotLemmas.{off_is}
use Rattle.nm_report.specs.Summary.{is_got}
use Rattle.nm_explored.specs.Successors.{got_by, result_in, sent_at, shown_at}
use Rattle.nm_explored.specs.Settings.{IsAt}
use Rattle.nm_explored.proofs.PlacedLemmas.{came_said, free_said, numbers_in, placed}
use Rattle.nm_explored.proofs.SendLemmas.{sent_deed}

-- an answer without bytes is what is left of it without them
pub plain_answer : (a x : Answer) → is_got x ≡ false → x ≡ without_bytes a → a ≡ x
plain_answer (answer.Got from tag body) x plain same = absurd (false≢true (sym plain ∙ ap is_got same))
plain_answer a x plain same = sym same

-- a reply that means this answer
abbrev pub Replies : List Line → Option Reply → Answer → Type 0
Replies lines o a = (r : Reply) × (o ≡ Some r) × (answer_meant lines r ≡ a)

pub replies_by : (lines : List Line) (o p : Option Reply) (a : Answer) → o ≡ p → Replies lines p a →
    Replies lines o a
replies_by lines o p a same found = (found.0, same ∙ found.1, found.2)

-- a message that is shown has its bytes
body_of : (a : Answer) (from tag len : ℕ) → answer.Got from tag (replicate len 0) ≡ without_bytes a →
    (body : List ℕ) × (a ≡ answer.Got from tag body)
body_of (answer.Got from' tag' body) from tag len same =
    let one : from ≡ from' = cc in
    let two : tag ≡ tag' = cc in
    (body, rw (one, two) refl)
body_of answer.Started from tag len same = absurd (grind arith)
body_of answer.Busy from tag len same = absurd (grind arith)
body_of answer.Null from tag len same = absurd (grind arith)
body_of answer.No from tag len same = absurd (grind arith)
body_of answer.Nothing from tag len same = absurd (grind arith)
body_of answer.Sent from tag len same = absurd (grind arith)
body_of (answer.Cut from' tag' len') from tag len same = absurd (grind arith)
body_of answer.Cancelled from tag len same = absurd (grind arith)
body_of (answer.Seen seen) from tag len same = absurd (grind arith)
body_of answer.Done from tag len same = absurd (grind arith)
body_of answer.Late from tag len same = absurd (grind arith)
body_of answer.Asked from tag len same = absurd (grind arith)

-- two ways in which a send may have ended
pub ends : (a a' b b' c c' d d' e e' f f' : Bool) → a ≡ a' → b ≡ b' → c ≡ c' → d ≡ d' → e ≡ e' → f ≡ f' →
    (if a then Some reply.Cancelled
    else if (b || c) && (not d || (e && not f)) then Some reply.Sent else None)
    ≡ (if a' then Some reply.Cancelled
    else if (b' || c') && (not d' || (e' && not f')) then Some reply.Sent else None)
ends a a' b b' c c' d d' e e' f f' p q r s t u = rw (p, q, r, s, t, u) refl

module _ (shape : Sizes) (lines : List Line) (log : List Step) (v : ℕ → Option Spot) (i : ℕ) (spot : Spot)
    (at : IsAt shape lines log v i spot) where
  abbrev h : List Event
  h = history_in log i

  -- the state of another rank
  pub other : (j : ℕ) → j < shape.ranks → (s : Spot) × (v j ≡ Some s) × IsSpotOf lines (history_in log j) s
  other j low = at.stands j low

  -- the sender of a pair's message is a rank of the run
  pair_within : (number : ℕ) (pair : Pair) → pair_of_receive h number ≡ Some pair →
      pair.arrival.env.from < shape.ranks
  pair_within number pair found =
      came_within shape.ranks pair.arrival.env.from pair.arrival.n h (numbers_in shape lines log at.is_log i)
      (sym (is_known_message-arrived h pair.arrival.env.from pair.arrival.n)
      ∙ came_known h pair.arrival (pair_came h pair
      (find_contains (is_of_receive number) (matched_pairs h) pair found)))

  -- what a receive shows of its message
  got_said : (a : Answer) (number : ℕ) (pair : Pair) (body : List ℕ) → pair_of_receive h number ≡ Some pair →
      AreBytesOf shape lines (placed lines log) i body pair →
      Replies lines (option_and_then (λ sender. option_and_then (got_by pair)
      (slice_get (filter (is_send_by i) sender.deeds) pair.arrival.n)) (v pair.arrival.env.from))
      (answer.Got pair.arrival.env.from pair.arrival.env.tag body)
  got_said a number pair body found bytes =
      let low = pair_within number pair found in
      let sender = other pair.arrival.env.from low in
      let line = some_and (λ line. IsSomeAnd (command_at (commands_of pair.arrival.env.from lines) line)
      (λ c. body ≡ sent_bytes c)) _ (bytes low) in
      let s = get_from_map (λ (s : Sent). s.line) (sends (history_in log pair.arrival.env.from) i) pair.arrival.n
      line.0 line.1 in
      let c = some_and (λ c. body ≡ sent_bytes c) _ line.2 in (
        reply.Got pair.arrival.env.from pair.arrival.env.tag s.0.line,
        ap (λ (o : Option Spot). option_and_then (λ sender. option_and_then (got_by pair)
            (slice_get (filter (is_send_by i) sender.deeds) pair.arrival.n)) o) sender.1
            ∙ ap (λ (o : Option Deed). option_and_then (got_by pair) o)
            (sent_deed lines (history_in log pair.arrival.env.from) sender.0 sender.2 i pair.arrival.n s.0 s.1),
        ap (λ (body : List ℕ). answer.Got pair.arrival.env.from pair.arrival.env.tag body)
            (ap (λ (l : ℕ). bytes_at lines pair.arrival.env.from l) s.2
            ∙ ap (λ (o : Option Command). option_map_or sent_bytes o []) c.1 ∙ sym c.2),
      )

  shown_said : (a : Answer) (number : ℕ) (pair : Pair) → pair_of_receive h number ≡ Some pair →
      shown pair ≡ without_bytes a →
      ((body : List ℕ) → a ≡ answer.Got pair.arrival.env.from pair.arrival.env.tag body →
      AreBytesOf shape lines (placed lines log) i body pair) →
      Replies lines (shown_at v i pair) a
  shown_said a number pair found same bytes = by_length (nat_lt pair.cap pair.arrival.env.len) same
    where
      by_length : (b : Bool) →
          cond b (answer.Cut pair.arrival.env.from pair.arrival.env.tag pair.arrival.env.len)
          (answer.Got pair.arrival.env.from pair.arrival.env.tag (replicate pair.arrival.env.len 0))
          ≡ without_bytes a →
          Replies lines
          (cond b (Some (reply.Cut pair.arrival.env.from pair.arrival.env.tag pair.arrival.env.len))
          (option_and_then (λ sender. option_and_then (got_by pair)
          (slice_get (filter (is_send_by i) sender.deeds) pair.arrival.n)) (v pair.arrival.env.from))) a
      by_length true same = (
        reply.Cut pair.arrival.env.from pair.arrival.env.tag pair.arrival.env.len,
        refl,
        sym (plain_answer a _ refl same),
      )
      by_length false same =
          let body = body_of a pair.arrival.env.from pair.arrival.env.tag pair.arrival.env.len same in
          let got = got_said a number pair body.0 found (bytes body.0 body.1) in
          (got.0, got.1, got.2 ∙ sym body.1)

  received_said : (a : Answer) (number : ℕ) →
      may_show (placed lines log) i (Receiving number) ≡ Some (without_bytes a) →
      ((pair : Pair) → pair_of_receive h number ≡ Some pair → (body : List ℕ) →
      a ≡ answer.Got pair.arrival.env.from pair.arrival.env.tag body →
      AreBytesOf shape lines (placed lines log) i body pair) →
      Replies lines (result_in v i spot (Receiving number)) a
  received_said a number may bytes =
      replies_by lines _ _ a
      (ap (λ (b : Bool). if b then Some reply.Cancelled
      else option_and_then (shown_at v i) (find (is_of_receive number) spot.pairs)) (off_is lines h spot at.is number)
      ∙ ap (λ (o : Option Pair). if happened (is_cancel number) h then Some reply.Cancelled
      else option_and_then (shown_at v i) o) (at.is.paired number))
      (by_off (happened (is_cancel number) h) may)
    where
      by_off : (b : Bool) →
          (if b then Some answer.Cancelled else option_map shown (pair_of_receive h number))
          ≡ Some (without_bytes a) →
          Replies lines (if b then Some reply.Cancelled
          else option_and_then (shown_at v i) (pair_of_receive h number)) a
      by_off true may = (reply.Cancelled, refl, sym (plain_answer a answer.Cancelled refl (same_some _ _ may)))
      by_off false may =
          let pair = mapped_some shown (pair_of_receive h number) (without_bytes a) may in
          replies_by lines _ _ a (ap (λ (o : Option Pair). option_and_then (shown_at v i) o) pair.1)
          (shown_said a number pair.0 pair.1 pair.2 (bytes pair.0 pair.1))

  sent_said : (a : Answer) (to n : ℕ) → to < shape.ranks →
      may_show (placed lines log) i (Sending to n) ≡ Some (without_bytes a) →
      Replies lines (result_in v i spot (Sending to n)) a
  sent_said a to n low may =
      let o = other to low in
      let say = said lines h spot at.is in
      let there = history_in log to in
      replies_by lines _ _ a
      (ap (λ (x : Option Spot). option_and_then (λ other. sent_at spot other i to n) x) o.1
      ∙ ends _ (happened (is_withdraw i n true) there) _ ((placed lines log i).unasked to n) _ (is_taken there i n) _
      (happened (is_recall to n) h) _ (happened (is_arrival i n) there) _ (is_free_in (placed lines log to) i n)
      (o.2.withdrawn i n) (say.unasked to n) (o.2.taken i n) (say.recalled to n) (came_said lines there o.0 o.2 i n)
      (free_said lines there o.0 o.2 i n))
      (by_ends (happened (is_withdraw i n true) there)
      (((placed lines log i).unasked to n || is_taken there i n)
      && (not (happened (is_recall to n) h)
      || (happened (is_arrival i n) there && not (is_free_in (placed lines log to) i n)))) may)
    where
      by_ends : (b c : Bool) →
          (if b then Some answer.Cancelled else if c then Some answer.Sent else None) ≡ Some (without_bytes a) →
          Replies lines (if b then Some reply.Cancelled else if c then Some reply.Sent else None) a
      by_ends true c may = (reply.Cancelled, refl, sym (plain_answer a answer.Cancelled refl (same_some _ _ may)))
      by_ends false true may = (reply.Sent, refl, sym (plain_answer a answer.Sent refl (same_some _ _ may)))
      by_ends false false may = absurd (no_some (without_bytes a) may)

  -- what a request may end with, by the states
  pub result_said : (a : Answer) (request : Request) (q : ℕ) → live (commands_of i lines) h q ≡ Some request →
      may_show (placed lines log) i request ≡ Some (without_bytes a) →
      ((number : ℕ) → request ≡ Receiving number → (pair : Pair) → pair_of_receive h number ≡ Some pair →
      (body : List ℕ) → a ≡ answer.Got pair.arrival.env.from pair.arrival.env.tag body →
      AreBytesOf shape lines (placed lines log) i body pair) →
      Replies lines (result_in v i spot request) a
  result_said a (Receiving number) q live_is may bytes = received_said a number may (bytes number refl)
  result_said a (Sending to n) q live_is may bytes = sent_said a to n (by_line _ live_is) may
    where
      by_line : (o : Option ℕ) → option_and_then (λ line. (placed lines log i).requests line) o ≡ Some (Sending to n) →
          to < shape.ranks
      by_line None live_is = absurd (no_some (Sending to n) live_is)
      by_line (Some line) live_is = at.within line to n live_is
