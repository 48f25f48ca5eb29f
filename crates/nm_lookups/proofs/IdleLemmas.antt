-- A replay after an event that no matcher is told of.
use Rattle.std.proofs.Common.{◌≡◌, ◌≢◌, ℕ, ◌==◌, Bool, true, false, not, ◌&&◌, ◌||◌, Option, None}
use Rattle.std.proofs.Common.{List, [], get_or, refl, sym, ◌∙◌, ap}
use Rattle.std.specs.Option.{option_map, option_to_list}
use Rattle.std.proofs.Math.Bool.{or-false, and-false}
use Rattle.std.proofs.lemmas.Bool.{false≢true}
use Rattle.nm_types.specs.declared.messages.Arrival.{Arrival}
use Rattle.nm_types.specs.declared.messages.Post as post
use Rattle.nm_history.specs.declared.events.Event.{Event}
use Rattle.nm_history.specs.declared.events.Happened.{Happened}
use Rattle.nm_history.specs.declared.events.Happened.TheVariants.{Send, Post, Arrive, Whole, Out, Cancel}
use Rattle.nm_history.specs.declared.events.Happened.TheVariants.{Recall, Withdraw, Undone, Claim, Match, Ran}
use Rattle.nm_history.specs.declared.plain.Pair.{Pair}
use Rattle.nm_history.specs.Matching.{matched_pairs, new_pair}
use Rattle.nm_history.specs.Matching.{pair_of_claimed}
use Rattle.nm_history.specs.Sends.{arrival_of, message_of, post_of, posts}
use Rattle.nm_match.proofs.PushLemmas.{closes, takes}
use Rattle.nm_lookups.specs.declared.pairing.replays.Replay.{Replay}
use Rattle.nm_lookups.specs.Queues.{free_messages, is_closed, is_gone, open_receives}
use Rattle.nm_lookups.specs.Replays.{Replays, IsNextReplay}
use Rattle.nm_lookups.proofs.HistoryLemmas.{free_same}
use Rattle.nm_lookups.proofs.HistoryLemmas.{open_same}
use Rattle.nm_lookups.proofs.ReplayLemmas.{quietly}
use Rattle.nm_lookups.proofs.EventLemmas.{is_idle, in_step}

-- an event that neither posts, brings, pairs, closes nor takes anything
module _ {h : List Event} {old : Replay} (replays : Replays h old) where
  quiet_takes : (e : Event) → new_pair h (matched_pairs h) e.what ≡ None → post_of e.what ≡ None →
      arrival_of e.what ≡ None →
      ((m : ℕ) → closes e.what [] m ≡ false) → ((i m : ℕ) → takes e.what [] i m ≡ false) → IsNextReplay h e None old
  quiet_takes e no_pair no_post no_arrival closed taken = record {
    made_is = sym no_pair;
    replays = quietly replays e [] (ap (λ (o : Option Pair). option_to_list o) no_pair) old no_post no_arrival refl refl
        (in_step replays old e (open_receives h) (free_messages h)
        (open_same h e [] (ap (λ (o : Option Pair). option_to_list o) no_pair) no_post
        (λ k d inside. closed (get_or (open_receives h) k d).number))
        (free_same h e [] (ap (λ (o : Option Pair). option_to_list o) no_pair) no_arrival
        (λ k d inside. taken (get_or (free_messages h) k d).env.from (get_or (free_messages h) k d).n)) replays.queues)
        (λ m. replays.closed m ∙ sym (or-false (is_closed h m)) ∙ ap (λ b. is_closed h m || b) (sym (closed m)))
        (λ m. replays.gone m ∙ sym (or-false (is_gone h m.rank m.n))
        ∙ ap (λ b. is_gone h m.rank m.n || b) (sym (taken m.rank m.n)));
  }

  -- a matched receive of a message that did not come
  pub match_none_takes : (stamp number from n cap line : ℕ) → message_of h from n ≡ None →
      IsNextReplay h (record { stamp = stamp; what = Match number from n cap line }) None old
  match_none_takes stamp number from n cap line none =
      quiet_takes (record { stamp = stamp; what = Match number from n cap line })
      (ap (λ (o : Option Arrival). option_map (λ a. pair_of_claimed number cap a) o) none) refl refl (λ m. refl)
      (λ i m. refl)

  -- an event that is none of those of matching, or was late
  pub other_takes : (stamp : ℕ) (what : Happened) → is_idle what ≡ true →
      IsNextReplay h (record { stamp = stamp; what = what }) None old
  other_takes stamp (Send to n tag ctx len how line) idle = quiet_takes _ refl refl refl (λ m. refl) (λ i m. refl)
  other_takes stamp (Post p line) idle = absurd (false≢true idle)
  other_takes stamp (Arrive a) idle = absurd (false≢true idle)
  other_takes stamp (Whole from n) idle = quiet_takes _ refl refl refl (λ m. refl) (λ i m. refl)
  other_takes stamp (Out to n) idle = quiet_takes _ refl refl refl (λ m. refl) (λ i m. refl)
  other_takes stamp (Cancel number true) idle = absurd (false≢true idle)
  other_takes stamp (Cancel number false) idle =
      quiet_takes _ refl refl refl (λ m. and-false (number == m)) (λ i m. refl)
  other_takes stamp (Recall to n) idle = quiet_takes _ refl refl refl (λ m. refl) (λ i m. refl)
  other_takes stamp (Withdraw from n true) idle = absurd (false≢true idle)
  other_takes stamp (Withdraw from n false) idle =
      quiet_takes _ refl refl refl (λ m. refl) (λ i m. and-false (from == i && n == m))
  other_takes stamp (Undone to n done) idle = quiet_takes _ refl refl refl (λ m. refl) (λ i m. refl)
  other_takes stamp (Claim from n line) idle = absurd (false≢true idle)
  other_takes stamp (Match number from n cap line) idle = absurd (false≢true idle)
  other_takes stamp (Ran line answer) idle = quiet_takes _ refl refl refl (λ m. refl) (λ i m. refl)

-- what is of none of the six kinds of events of matching
pub other_is_idle : (what : Happened) → ((p : post.Post) (line : ℕ) → what ≡ Post p line → ⊥) →
    ((a : Arrival) → what ≡ Arrive a → ⊥) → ((number : ℕ) (done : Bool) → what ≡ Cancel number done → ⊥) →
    ((from n : ℕ) (done : Bool) → what ≡ Withdraw from n done → ⊥) →
    ((from n line : ℕ) → what ≡ Claim from n line → ⊥) →
    ((number from n cap line : ℕ) → what ≡ Match number from n cap line → ⊥) → is_idle what ≡ true
other_is_idle (Send to n tag ctx len how line) posts comes cancels withdraws claims receives = refl
other_is_idle (Post p line) posts comes cancels withdraws claims receives = absurd (posts p line refl)
other_is_idle (Arrive a) posts comes cancels withdraws claims receives = absurd (comes a refl)
other_is_idle (Whole from n) posts comes cancels withdraws claims receives = refl
other_is_idle (Out to n) posts comes cancels withdraws claims receives = refl
other_is_idle (Cancel number done) posts comes cancels withdraws claims receives = absurd (cancels number done refl)
other_is_idle (Recall to n) posts comes cancels withdraws claims receives = refl
other_is_idle (Withdraw from n done) posts comes cancels withdraws claims receives =
    absurd (withdraws from n done refl)
other_is_idle (Undone to n done) posts comes cancels withdraws claims receives = refl
other_is_idle (Claim from n line) posts comes cancels withdraws claims receives = absurd (claims from n line refl)
other_is_idle (Match number from n cap line) posts comes cancels withdraws claims receives =
    absurd (receives number from n cap line refl)
other_is_idle (Ran line answer) posts comes cancels withdraws claims receives = refl
