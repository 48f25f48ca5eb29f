-- The state of a rank: what its later answers can depend on.
use Rattle.std.specs.Prelude.{◌≡◌, ℕ, ◌+◌, ◌==◌, ◌||◌, Bool, true, false, not, if◌then◌else◌, Option, Some, None}
use Rattle.std.specs.Prelude.{is_some, option_map}
use Rattle.std.specs.Prelude.{option_to_list, List, [], ◌∷◌, ◌++◌, length, map, filter, filter_map, find}
use Rattle.std.specs.List.{cons_option, list_any}
use Rattle.nm_types.specs.declared.messages.Arrival.{Arrival}
use Rattle.nm_types.specs.declared.messages.Envelope.{Envelope}
use Rattle.nm_types.specs.declared.messages.Post as post
use Rattle.nm_types.specs.Commands.{Numbered}
use Rattle.nm_history.specs.declared.events.Event.{Event}
use Rattle.nm_history.specs.declared.events.Happened.{Happened}
use Rattle.nm_history.specs.declared.events.Happened.TheVariants.{Arrive, Cancel, Claim, Match, Post}
use Rattle.nm_history.specs.declared.events.Happened.TheVariants.{Out, Undone, Whole, Withdraw}
use Rattle.nm_history.specs.declared.plain.Pair.{Pair}
use Rattle.nm_history.specs.Answers.{Message, claim_at, claim_line_after, line_after, line_of_handle}
use Rattle.nm_history.specs.Answers.{line_of_name, message_claimed, request_at, request_of}
use Rattle.nm_history.specs.Completion.{Request, is_taken, pair_of_receive}
use Rattle.nm_history.specs.Happens.{happened, is_arrival, is_cancel, is_claim, is_recall, is_withdraw}
use Rattle.nm_history.specs.Matching.{is_of_message, is_of_receive, pair_of, pair_of_claimed}
use Rattle.nm_history.specs.RankRun.{is_start, ran_lines, ran_of, starts_since}
use Rattle.nm_history.specs.Selection.{matches}
use Rattle.nm_history.specs.Sends.{arrival_of, arrivals, arrived_of, envelope, message_of, sends, sent_of}
use Rattle.nm_history.specs.Underway.{is_answer}
use Rattle.nm_match.specs.Deeds.{is_known_message, is_known_receive, is_message}
use Rattle.nm_lookups.specs.Queues.{free_messages, open_receives, posted_after_arrival}
use Rattle.nm_lookups.specs.Queues.{posted_after_post, unexpected_after_arrival, unexpected_after_post}
use Rattle.nm_lookups.specs.Queues.{without_message, without_receive}
use Rattle.nm_report.specs.Told.{Told, told_by}
use Rattle.nm_outcomes.specs.Results.{is_unasked}

-- a rank at some moment
pub record RankPoint : Type 0 where
  -- the answers of its commands, how many they are, and what the next one has started
  pub told : List Told
  pub done : ℕ
  pub begun : List Happened
  -- the line that a name stands for, and the request of a line; so for handles and claimed messages
  pub named : ℕ → Option ℕ
  pub requests : ℕ → Option Request
  pub handled : ℕ → Option ℕ
  pub claims : ℕ → Option Message
  -- the open receives and the free messages, oldest first
  pub receives : List post.Post
  pub messages : List Arrival
  -- the message of a receive, and whether it was cancelled
  pub pairs : ℕ → Option Pair
  pub off : ℕ → Bool
  -- a message of a rank by its number: what came, whether a receive has it, it was claimed, withdrawn
  pub known : ℕ → ℕ → Option Arrival
  pub arrived : ℕ → ℕ → Bool
  pub taken : ℕ → ℕ → Bool
  pub claimed : ℕ → ℕ → Bool
  pub withdrawn : ℕ → ℕ → Bool
  -- what it sent to each rank, by which lines, whether without asking, whether it was recalled, and how many messages
  -- of each rank came
  pub sent : ℕ → List Envelope
  pub lines : ℕ → List ℕ
  pub unasked : ℕ → ℕ → Bool
  pub recalled : ℕ → ℕ → Bool
  pub came : ℕ → ℕ

-- the envelopes of the messages to a rank
abbrev pub envelopes_to : ℕ → List Event → ℕ → List Envelope
envelopes_to me h to = map (envelope me) (sends h to)

-- the rank is here after these events
pub record IsPlaceOf (me : ℕ) (commands : List Numbered) (h : List Event) (place : RankPoint) : Type 0 where
  pub told : place.told ≡ filter_map (λ e. told_by e.what) h
  pub done : place.done ≡ length (ran_lines h)
  pub begun : place.begun ≡ starts_since h
  pub named : (q : ℕ) → place.named q ≡ line_of_name commands h q
  pub requests : (line : ℕ) → place.requests line ≡ request_at h line
  pub handled : (m : ℕ) → place.handled m ≡ line_of_handle commands h m
  pub claims : (line : ℕ) → place.claims line ≡ claim_at h line
  pub receives : place.receives ≡ open_receives h
  pub messages : place.messages ≡ free_messages h
  pub pairs : (number : ℕ) → place.pairs number ≡ pair_of_receive h number
  pub off : (number : ℕ) → place.off number ≡ happened (is_cancel number) h
  pub known : (from n : ℕ) → place.known from n ≡ message_of h from n
  pub arrived : (from n : ℕ) → place.arrived from n ≡ happened (is_arrival from n) h
  pub taken : (from n : ℕ) → place.taken from n ≡ is_taken h from n
  pub claimed : (from n : ℕ) → place.claimed from n ≡ happened (is_claim from n) h
  pub withdrawn : (from n : ℕ) → place.withdrawn from n ≡ happened (is_withdraw from n true) h
  pub sent : (to : ℕ) → place.sent to ≡ envelopes_to me h to
  pub lines : (to : ℕ) → place.lines to ≡ map (λ s. s.line) (sends h to)
  pub unasked : (to n : ℕ) → place.unasked to n ≡ is_unasked (sends h to) n
  pub recalled : (to n : ℕ) → place.recalled to n ≡ happened (is_recall to n) h
  pub came : (from : ℕ) → place.came from ≡ length (arrivals h from)

-- the first of two, if there is one
abbrev pub or_else : {X : Type 0} → Option X → Option X → Option X
or_else None b = b
or_else (Some a) b = Some a

-- the oldest free message that a receive selects
abbrev pub message_for : RankPoint → post.Post → Option Arrival
message_for place p = find (λ a. matches p.from p.tag p.ctx a.env) place.messages

-- the oldest open receive that selects a message
abbrev pub receive_for : RankPoint → Arrival → Option post.Post
receive_for place a = find (λ p. matches p.from p.tag p.ctx a.env) place.receives

-- the pair that an event makes
abbrev pub pair_by : RankPoint → Happened → Option Pair
pair_by place (Post p line) = option_map (λ a. pair_of p a) (message_for place p)
pair_by place (Arrive a) = option_map (λ p. pair_of p a) (receive_for place a)
pair_by place (Match number from n cap line) =
    option_map (λ a. pair_of_claimed number cap a) (place.known from n)
pair_by place _ = None

-- the open receives after it; one that was paired or cancelled before is not open
abbrev pub receives_after : RankPoint → Happened → List post.Post
receives_after place (Post p line) =
    posted_after_post p (is_some (place.pairs p.number) || place.off p.number) place.receives (message_for place p)
receives_after place (Arrive a) =
    posted_after_arrival place.receives (option_map (λ p. p.number) (receive_for place a))
receives_after place (Cancel number done) =
    if done then without_receive number place.receives else place.receives
receives_after place _ = place.receives

-- the free messages after it; one that was taken, claimed or withdrawn before is not free
abbrev pub messages_after : RankPoint → Happened → List Arrival
messages_after place (Post p line) = unexpected_after_post place.messages (message_for place p)
messages_after place (Arrive a) =
    unexpected_after_arrival a
    (place.taken a.env.from a.n || place.claimed a.env.from a.n || place.withdrawn a.env.from a.n) place.messages
    (option_map (λ p. p.number) (receive_for place a))
messages_after place (Withdraw from n done) =
    if done then without_message from n place.messages else place.messages
messages_after place (Claim from n line) = without_message from n place.messages
messages_after place (Match number from n cap line) = without_message from n place.messages
messages_after place _ = place.messages

-- the rank after an event
abbrev pub after : ℕ → List Numbered → RankPoint → Happened → RankPoint
after me commands place what =
    record {
      told = place.told ++ cons_option (told_by what) [];
      done = place.done + length (cons_option (ran_of what) []);
      begun = if is_answer what then [] else place.begun ++ filter is_start (what ∷ []);
      named = λ q. line_after commands q (place.named q) what;
      requests = λ line. or_else (place.requests line) (request_of line what);
      handled = λ m. claim_line_after commands m (place.handled m) what;
      claims = λ line. or_else (place.claims line) (message_claimed line what);
      receives = receives_after place what;
      messages = messages_after place what;
      pairs = λ number. or_else (place.pairs number)
          (find (is_of_receive number) (option_to_list (pair_by place what)));
      off = λ number. place.off number || is_cancel number what;
      known = λ from n. or_else (place.known from n)
          (find (is_message from n) (cons_option (arrival_of what) []));
      arrived = λ from n. place.arrived from n || is_arrival from n what;
      taken = λ from n. place.taken from n
          || list_any (is_of_message from n) (option_to_list (pair_by place what));
      claimed = λ from n. place.claimed from n || is_claim from n what;
      withdrawn = λ from n. place.withdrawn from n || is_withdraw from n true what;
      sent = λ to. place.sent to
          ++ map (envelope me) (filter (λ s. s.to == to) (cons_option (sent_of 0 what) []));
      lines = λ to. place.lines to
          ++ map (λ s. s.line) (filter (λ s. s.to == to) (cons_option (sent_of 0 what) []));
      unasked = λ to n. place.unasked to n
          || is_unasked (filter (λ s. s.to == to) (cons_option (sent_of 0 what) [])) n;
      recalled = λ to n. place.recalled to n || is_recall to n what;
      came = λ from. place.came from
          + length (filter (λ a. a.arrival.env.from == from) (cons_option (arrived_of 0 what) []));
    }

-- A receive and a message are new, and a matched receive is of a message that came.
abbrev pub IsProper : List Event → Happened → Type 0
IsProper h (Post p line) = is_known_receive h p.number ≡ false
IsProper h (Arrive a) = is_known_message h a.env.from a.n ≡ false
IsProper h (Match number from n cap line) =
    (is_known_receive h number ≡ false) × ((a : Arrival) × (message_of h from n ≡ Some a))
IsProper h _ = Unit {0}

-- the place of a rank follows its history
abbrev pub PlacesFollow : Type 0
PlacesFollow =
    (me : ℕ) (commands : List Numbered) (h : List Event) (e : Event) (place : RankPoint) →
    IsProper h e.what → IsPlaceOf me commands h place →
    IsPlaceOf me commands (h ++ e ∷ []) (after me commands place e.what)

-- a message is whole, or has left, or the answer to a recall came, or a withdrawal came too late: none
-- of these changes what a later answer can be
abbrev pub is_quiet : Happened → Bool
is_quiet (Whole from n) = true
is_quiet (Out to n) = true
is_quiet (Undone to n done) = true
is_quiet (Withdraw from n done) = not done
is_quiet _ = false
