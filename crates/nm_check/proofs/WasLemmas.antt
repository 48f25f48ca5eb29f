-- The send of a message, by the first event with its number.
use Rattle.std.proofs.Common.{◌≡◌, ℕ, ◌<◌, false, Option, Some, None, List, [], length, get_or, refl, sym, ◌∙◌, subst}
use Rattle.std.specs.Prelude.{position}
use Rattle.std.specs.List.{slice_get}
use Rattle.std.proofs.lemmas.List.Quantifiers.{position-Some}
use Rattle.std.proofs.lemmas.Option.{slice_get-get_or}
use Rattle.nm_history.specs.declared.events.Event.{Event}
use Rattle.nm_history.specs.declared.events.Happened.TheVariants.{Out}
use Rattle.nm_history.specs.Completion.{is_taken}
use Rattle.nm_history.specs.Happens.{is_send}
use Rattle.nm_history.specs.Matching.{matched_pairs}
use Rattle.nm_history.specs.RankRun.{Always, NumberAt}
use Rattle.nm_history.specs.Sends.{sends}
use Rattle.nm_lookups.proofs.FirstLemmas.{ever_first}
use Rattle.nm_check.specs.Marked.{IsSendIn}
use Rattle.nm_check.proofs.SentLemmas.{never_sent, sent_there}

-- nothing is paired where nothing happened
pub none_taken : (i n : ℕ) → is_taken [] i n ≡ false
unfolding matched_pairs
none_taken i n = refl

module _ (ranks j n : ℕ) where
  pub send_found : (t : ℕ) (h : List Event) (found : Option Event) → Always (NumberAt ranks) h →
      position (λ e. is_send j n e.what) h ≡ Some t → found ≡ slice_get h t → IsSendIn (sends h j) n found
  send_found t h found each first is =
      let none : Event = record { stamp = 0; what = Out 0 0 } in
      let inside : t < length h = (position-Some (λ (e : Event). is_send j n e.what) h t none first).0 in
      let here : slice_get h t ≡ Some (get_or h t none) = slice_get-get_or h t none inside in
      subst (λ (o : Option Event). IsSendIn (sends h j) n o) (sym (is ∙ here))
      (sent_there ranks j n h t (get_or h t none) each first here)

  -- there is none without a first one
  pub never_found : (h : List Event) → Always (NumberAt ranks) h → position (λ e. is_send j n e.what) h ≡ None →
      slice_get (sends h j) n ≡ None
  never_found h each first =
      never_sent ranks j n h each (ever_first (λ (e : Event). is_send j n e.what) h first)
