-- The send of a message that a receive has.
use Rattle.std.proofs.Common.{◌≡◌, ℕ, ◌<◌, Bool, cond, Some, List, [], ◌∷◌}
use Rattle.std.proofs.Common.{◌++◌, refl, sym, ◌∙◌}
use Rattle.std.proofs.Common.{ap, subst, append-nil}
use Rattle.std.specs.Prelude.{Contains}
use Rattle.std.specs.List.{AllByRecursion, cons_option, slice_get}
use Rattle.nm_types.specs.declared.messages.Arrival.{Arrival}
use Rattle.nm_types.specs.declared.scripts.Line.{Line}
use Rattle.nm_types.specs.Sizes.{Sizes}
use Rattle.nm_types.proofs.ListLemmas.{all_along, all_at, all_push, get_before, get_last, get_some}
use Rattle.nm_history.specs.declared.events.Event.{Event}
use Rattle.nm_history.specs.declared.events.Happened.{Happened}
use Rattle.nm_history.specs.declared.events.Happened.TheVariants as event
use Rattle.nm_history.specs.declared.plain.Pair.{Pair}
use Rattle.nm_history.specs.AtEach.{AtEach}
use Rattle.nm_history.specs.Completion.{pair_of_receive}
use Rattle.nm_history.specs.Matching.{is_of_receive, matched_pairs}
use Rattle.nm_history.specs.RankRun.{NumberAt}
use Rattle.nm_history.specs.Sends.{Arrived, Sent, arrival_of, arrivals, envelope, messages, sends}
use Rattle.nm_history.proofs.OnceLemmas.{arrivals-push, eqb_self, messages-push}
use Rattle.nm_history.proofs.SelectionLemmas.{find_contains}
use Rattle.nm_sure.proofs.Flown.{sent_at}
use Rattle.nm_outcomes.specs.Logs.{IsLog, Step, history_in}
use Rattle.nm_outcomes.proofs.Bodies.{pair_came}
use Rattle.nm_outcomes.proofs.HappenedLemmas.{history_induction}
use Rattle.nm_outcomes.proofs.LogLemmas.{all_delivered}
use Rattle.nm_explored.proofs.PlacedLemmas.{numbers_in}
use Rattle.nm_listed.proofs.HushLemmas.{index_is}

-- a message stands among the arrivals of its sender, at its number
abbrev StandsAt : List Event → Arrival → Type 0
StandsAt h a = (x : Arrived) × (slice_get (arrivals h a.env.from) a.n ≡ Some x) × (x.arrival ≡ a)

all_stand : (ranks : ℕ) (h : List Event) → AtEach (λ b e. NumberAt ranks b e.what) h →
    AllByRecursion (StandsAt h) (messages h)
all_stand ranks h numbers =
    history_induction (λ b e. NumberAt ranks b e.what) (λ h. AllByRecursion (StandsAt h) (messages h)) grow tt h numbers
  where
    later : (h : List Event) (e : Event) (a : Arrival) → StandsAt h a → StandsAt (h ++ e ∷ []) a
    later h e a was = (
      was.0,
      ap (λ (xs : List Arrived). slice_get xs a.n) (arrivals-push h e a.env.from)
          ∙ get_before (arrivals h a.env.from) _ a.n was.0 was.1,
      was.2,
    )

    by_event : (h : List Event) (stamp : ℕ) (what : Happened) → NumberAt ranks h what →
        AllByRecursion (StandsAt (h ++ record { stamp = stamp; what = what } ∷ [])) (messages h) →
        AllByRecursion (StandsAt (h ++ record { stamp = stamp; what = what } ∷ []))
        (messages h ++ cons_option (arrival_of what) [])
    by_event h stamp (event.Arrive a) number before =
        all_push (StandsAt (h ++ record { stamp = stamp; what = event.Arrive a } ∷ [])) (messages h) a before (
          record { stamp = stamp; arrival = a },
          ap (λ (xs : List Arrived). slice_get xs a.n)
              (arrivals-push h (record { stamp = stamp; what = event.Arrive a }) a.env.from
              ∙ ap (λ (b : Bool). arrivals h a.env.from ++ cond b (record { stamp = stamp; arrival = a } ∷ []) [])
              (eqb_self a.env.from))
              ∙ ap (λ (k : ℕ). slice_get (arrivals h a.env.from ++ record { stamp = stamp; arrival = a } ∷ []) k)
              number.1
              ∙ get_last (arrivals h a.env.from) (record { stamp = stamp; arrival = a }),
          refl,
        )
    by_event h stamp what number before =
        subst (λ (as' : List Arrival). AllByRecursion (StandsAt (h ++ record { stamp = stamp; what = what } ∷ [])) as')
        (sym (append-nil (messages h))) before

    grow : (h : List Event) (e : Event) → AllByRecursion (StandsAt h) (messages h) → NumberAt ranks h e.what →
        AllByRecursion (StandsAt (h ++ e ∷ [])) (messages (h ++ e ∷ []))
    grow h e before number =
        subst (λ (as' : List Arrival). AllByRecursion (StandsAt (h ++ e ∷ [])) as') (sym (messages-push h e))
        (by_event h e.stamp e.what number
        (all_along (StandsAt h) (StandsAt (h ++ e ∷ [])) (messages h) (later h e) before))

-- the send of a receive's message
pub sent_of_pair : (shape : Sizes) (lines : List Line) (log : List Step) → IsLog shape lines log → (i number : ℕ) →
    i < shape.ranks → (pair : Pair) → pair_of_receive (history_in log i) number ≡ Some pair →
    pair.arrival.env.from < shape.ranks →
    (s : Sent) × (slice_get (sends (history_in log pair.arrival.env.from) i) pair.arrival.n ≡ Some s)
    × (pair.arrival.env ≡ envelope pair.arrival.env.from s)
sent_of_pair shape lines log is_log i number low pair found inside =
    let h : List Event = history_in log i in
    let came : Contains (messages h) pair.arrival =
    pair_came h pair (find_contains (is_of_receive number) (matched_pairs h) pair found) in
    let a = get_some (messages h) came.0 came.1 in
    let same : a.0 ≡ pair.arrival = sym (index_is (messages h) came.0 a.0 pair.arrival a.1) ∙ came.2 in
    let stands : StandsAt h pair.arrival =
    subst (λ (a : Arrival). StandsAt h a) same
    (all_at (StandsAt h) (messages h) came.0 a.0 (all_stand shape.ranks h (numbers_in shape lines log is_log i)) a.1) in
    let sent = sent_at pair.arrival.env.from (sends (history_in log pair.arrival.env.from) i)
    (arrivals h pair.arrival.env.from) pair.arrival.n stands.0
    (all_delivered shape lines log is_log pair.arrival.env.from i inside low).messages stands.1 in
    (sent.0, sent.1, ap (λ (a : Arrival). a.env) (sym stands.2) ∙ sent.2)
