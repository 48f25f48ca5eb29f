-- What the states of ranks say of their places.
use Rattle.std.proofs.Common.{◌≡◌, ℕ, ◌&&◌, ◌||◌, not, Bool, true, false, Option, Some, None, List, map, length}
use Rattle.std.proofs.Common.{refl, sym, ◌∙◌, ap}
use Rattle.std.specs.Prelude.{filter_map, is_some, option_and_then}
use Rattle.std.specs.List.{find, list_any}
use Rattle.nm_types.specs.declared.messages.Arrival.{Arrival}
use Rattle.nm_types.specs.declared.messages.Peer.{Peer}
use Rattle.nm_types.specs.declared.messages.TagPick.{TagPick}
use Rattle.nm_types.specs.declared.scripts.Line.{Line}
use Rattle.nm_types.specs.Commands.{Numbered, commands_of}
use Rattle.nm_types.specs.Sizes.{Sizes}
use Rattle.nm_history.specs.declared.events.Event.{Event}
use Rattle.nm_history.specs.declared.plain.Pair.{Pair}
use Rattle.nm_history.specs.Answers.{Message, claim_at, line_of_handle, line_of_name, request_at}
use Rattle.nm_history.specs.AtEach.{AtEach}
use Rattle.nm_history.specs.Completion.{is_taken, pair_of_receive}
use Rattle.nm_history.specs.Happens.{happened, is_arrival, is_cancel, is_claim, is_recall, is_withdraw}
use Rattle.nm_history.specs.Matching.{first_message, is_of_receive, matched_pairs}
use Rattle.nm_history.specs.RankRun.{NumberAt, ran_lines, starts_since}
use Rattle.nm_history.specs.Selection.{matches}
use Rattle.nm_history.specs.Sends.{arrivals, message_of, sends}
use Rattle.nm_history.specs.Underway.{MayFollow}
use Rattle.nm_history.proofs.DeliveryLemmas.{AtEach-along}
use Rattle.nm_match.specs.Deeds.{is_message}
use Rattle.nm_match.proofs.NumberLemmas.{is_known_message-arrived}
use Rattle.nm_lookups.specs.Queues.{free_messages, open_receives}
use Rattle.nm_lookups.proofs.ReplayLemmas.{first_free, found_any, is_some-message_of}
use Rattle.nm_report.specs.Told.{told_by}
use Rattle.nm_outcomes.specs.Logs.{IsLog, Step, history_in}
use Rattle.nm_outcomes.specs.Moves.{ArePlaces}
use Rattle.nm_outcomes.specs.Places.{IsPlaceOf, RankPoint, envelopes_to}
use Rattle.nm_outcomes.specs.Results.{is_unasked}
use Rattle.nm_outcomes.proofs.EndLemmas.{all_follow}
use Rattle.nm_outcomes.specs.Looks.{claim_in, found_at}
use Rattle.nm_outcomes.specs.RankStates.{IsSpotOf, Spot, free_lem}
use Rattle.nm_outcomes.proofs.SaidLemmas.{said}
use Rattle.nm_outcomes.proofs.SpotLemmas.{gone_is}

-- the place of a history
abbrev pub place_of : ℕ → List Numbered → List Event → RankPoint
place_of me commands h = record {
  told = filter_map (λ (e : Event). told_by e.what) h;
  done = length (ran_lines h);
  begun = starts_since h;
  named = λ q. line_of_name commands h q;
  requests = λ line. request_at h line;
  handled = λ m. line_of_handle commands h m;
  claims = λ line. claim_at h line;
  receives = open_receives h;
  messages = free_messages h;
  pairs = λ number. pair_of_receive h number;
  off = λ number. happened (is_cancel number) h;
  known = λ from n. message_of h from n;
  arrived = λ from n. happened (is_arrival from n) h;
  taken = λ from n. is_taken h from n;
  claimed = λ from n. happened (is_claim from n) h;
  withdrawn = λ from n. happened (is_withdraw from n true) h;
  sent = λ to. envelopes_to me h to;
  lines = λ to. map (λ s. s.line) (sends h to);
  unasked = λ to n. is_unasked (sends h to) n;
  recalled = λ to n. happened (is_recall to n) h;
  came = λ from. length (arrivals h from);
}

pub is_place_of : (me : ℕ) (commands : List Numbered) (h : List Event) →
    IsPlaceOf me commands h (place_of me commands h)
is_place_of me commands h = record {
  told = refl;
  done = refl;
  begun = refl;
  named = λ q. refl;
  requests = λ line. refl;
  handled = λ m. refl;
  claims = λ line. refl;
  receives = refl;
  messages = refl;
  pairs = λ number. refl;
  off = λ number. refl;
  known = λ from n. refl;
  arrived = λ from n. refl;
  taken = λ from n. refl;
  claimed = λ from n. refl;
  withdrawn = λ from n. refl;
  sent = λ to. refl;
  lines = λ to. refl;
  unasked = λ to n. refl;
  recalled = λ to n. refl;
  came = λ from. refl;
}

-- the places of all ranks after a log
abbrev pub placed : List Line → List Step → ℕ → RankPoint
placed lines log j = place_of j (commands_of j lines) (history_in log j)

pub are_placed : (lines : List Line) (log : List Step) → ArePlaces lines log (placed lines log)
are_placed lines log j = is_place_of j (commands_of j lines) (history_in log j)

-- the numbers of a rank's events in a log
pub numbers_in : (shape : Sizes) (lines : List Line) (log : List Step) → IsLog shape lines log → (j : ℕ) →
    AtEach (λ b e. NumberAt shape.ranks b e.what) (history_in log j)
numbers_in shape lines log is j =
    AtEach-along (λ b e. MayFollow shape (commands_of j lines) b e) (λ b e. NumberAt shape.ranks b e.what)
    (history_in log j) (λ b e next. next.numbers) (all_follow shape lines log is j)

no_part : (a b c : Bool) → not (a || b || c) ≡ (not a && not b && not c)
no_part true b c = refl
no_part false true c = refl
no_part false false c = refl

module _ (lines : List Line) (h : List Event) (spot : Spot) (is : IsSpotOf lines h spot) where
  -- the oldest free message that is selected
  pub found_said : (from : Peer) (tag : TagPick) (ctx : ℕ) →
      found_at spot from tag ctx ≡ find (λ a. matches from tag ctx a.env) (free_messages h)
  unfolding found_at
  found_said from tag ctx = ap (λ (ms : List Arrival). find (λ a. matches from tag ctx a.env) ms) is.free

  pub first_said : (from : Peer) (tag : TagPick) (ctx : ℕ) →
      found_at spot from tag ctx ≡ first_message h (matched_pairs h) from tag ctx
  first_said from tag ctx = found_said from tag ctx ∙ first_free h from tag ctx

  -- a message is free, and came
  pub free_said : (from n : ℕ) → free_lem spot from n
      ≡ (not (is_taken h from n) && not (happened (is_claim from n) h) && not (happened (is_withdraw from n true) h))
  free_said from n =
      ap (λ (b : Bool). not b) (gone_is lines h spot is from n)
      ∙ no_part (is_taken h from n) (happened (is_claim from n) h) (happened (is_withdraw from n true) h)

  pub came_said : (from n : ℕ) → list_any (is_message from n) spot.came ≡ happened (is_arrival from n) h
  came_said from n =
      sym (found_any (is_message from n) spot.came) ∙ ap (λ (o : Option Arrival). is_some o) (is.known from n)
      ∙ is_some-message_of h from n ∙ is_known_message-arrived h from n

  -- a receive is paired
  pub paired_said : (number : ℕ) →
      list_any (is_of_receive number) spot.pairs ≡ is_some (pair_of_receive h number)
  paired_said number =
      sym (found_any (is_of_receive number) spot.pairs) ∙ ap (λ (o : Option Pair). is_some o) (is.paired number)

  pub in_pairs : (number : ℕ) →
      list_any (is_of_receive number) spot.pairs ≡ list_any (is_of_receive number) (matched_pairs h)
  in_pairs number = paired_said number ∙ found_any (is_of_receive number) (matched_pairs h)

  -- the message that the command of a line claimed
  pub arrival_said : (line : ℕ) →
      option_and_then (λ (m : Message). find (is_message m.from m.n) spot.came) (claim_in spot.deeds line)
      ≡ option_and_then (λ (m : Message). message_of h m.from m.n) (claim_at h line)
  arrival_said line =
      ap (λ (o : Option Message). option_and_then (λ (m : Message). find (is_message m.from m.n) spot.came) o)
      ((said lines h spot is).claim line) ∙ by_claim (claim_at h line)
    where
      by_claim : (o : Option Message) → option_and_then (λ (m : Message). find (is_message m.from m.n) spot.came) o
          ≡ option_and_then (λ (m : Message). message_of h m.from m.n) o
      by_claim None = refl
      by_claim (Some m) = is.known m.from m.n
