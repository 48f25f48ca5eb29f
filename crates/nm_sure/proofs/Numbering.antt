-- Sends, arrivals and posted receives stand at the places that their numbers say.
use Rattle.std.proofs.Common.{◌≡◌, ℕ, ◌==◌, Bool, true, false, cond, List, [], ◌∷◌}
use Rattle.std.proofs.Common.{◌++◌, length, refl, sym, ◌∙◌, ap, subst, append-nil, append_assoc, length-append}
use Rattle.std.specs.List.{filter, filter_map, cons_option}
use Rattle.std.proofs.lemmas.Bool.{false≢true}
use Rattle.std.proofs.lemmas.List.Elements.{filter-append, filter_map-append}
use Rattle.nm_types.specs.declared.messages.Post as post
use Rattle.nm_history.specs.declared.events.Event.{Event}
use Rattle.nm_history.specs.declared.events.Happened.{Happened}
use Rattle.nm_history.specs.declared.events.Happened.TheVariants as event
use Rattle.nm_history.specs.AtEach.{AtEach, AtEachAfter}
use Rattle.nm_history.specs.RankRun.{Always, NumberAt}
use Rattle.nm_history.specs.Sends.{Arrived, Sent, arrivals, arrived_of, posts, receives, sends, sent_of}
use Rattle.nm_history.proofs.OnceLemmas.{arrivals-push, posts-push, receives-push}
use Rattle.nm_match.specs.InTurn.{ArePlainEvents, is_plain_event}
use Rattle.nm_sure.proofs.Lists.{AreNumbered, numbered-push}
use Rattle.nm_types.proofs.NumberLemmas.{same_number}
use Rattle.nm_types.proofs.OptionLemmas.{no_some}

none_numbered : {X : Type 0} (number : X → ℕ) → AreNumbered number []
none_numbered number k x here = absurd (no_some x here)

-- one element more where its test passes
maybe_more : {X : Type 0} (number : X → ℕ) (xs : List X) (x : X) (b : Bool) → AreNumbered number xs →
    (b ≡ true → number x ≡ length xs) → AreNumbered number (xs ++ cond b (x ∷ []) [])
maybe_more number xs x true each last = numbered-push number xs x each (last refl)
maybe_more number xs x false each last =
    subst (λ ys. AreNumbered number ys) (sym (append-nil xs)) each

module _ (ranks : ℕ) where
  sends-push : (h : List Event) (e : Event) (to : ℕ) →
      sends (h ++ e ∷ []) to ≡ sends h to ++ filter (λ s. s.to == to) (cons_option (sent_of e.stamp e.what) [])
  sends-push h e to =
      ap (λ (ss : List Sent). filter (λ s. s.to == to) ss)
      (filter_map-append (λ (e : Event). sent_of e.stamp e.what) h (e ∷ []))
      ∙ filter-append (λ (s : Sent). s.to == to) (filter_map (λ (e : Event). sent_of e.stamp e.what) h)
      (cons_option (sent_of e.stamp e.what) [])

  send_step : (h : List Event) (stamp to : ℕ) (what : Happened) → NumberAt ranks h what →
      AreNumbered (λ (s : Sent). s.n) (sends h to) →
      AreNumbered (λ (s : Sent). s.n) (sends h to ++ filter (λ s. s.to == to) (cons_option (sent_of stamp what) []))
  send_step h stamp to (event.Send to' n tag ctx len how line) number each =
      maybe_more (λ (s : Sent). s.n) (sends h to)
      (record { stamp = stamp; to = to'; n = n; tag = tag; ctx = ctx; len = len; how = how; line = line })
      (to' == to) each (λ is. number ∙ ap (λ (k : ℕ). length (sends h k)) (same_number to' to is))
  send_step h stamp to what number each =
      subst (λ (ss : List Sent). AreNumbered (λ (s : Sent). s.n) ss) (sym (append-nil (sends h to))) each

  sends_after : (to : ℕ) (before events : List Event) → AreNumbered (λ (s : Sent). s.n) (sends before to) →
      AtEachAfter (λ b e. NumberAt ranks b e.what) before events → AreNumbered (λ (s : Sent). s.n)
      (sends (before ++ events) to)
  sends_after to before [] each numbers =
      subst (λ (h : List Event). AreNumbered (λ (s : Sent). s.n) (sends h to)) (sym (append-nil before)) each
  sends_after to before (e ∷ events) each numbers =
      subst (λ (h : List Event). AreNumbered (λ (s : Sent). s.n) (sends h to)) (append_assoc before (e ∷ []) events)
      (sends_after to (before ++ e ∷ []) events
      (subst (λ (ss : List Sent). AreNumbered (λ (s : Sent). s.n) ss) (sym (sends-push before e to))
      (send_step before e.stamp to e.what numbers.0 each)) numbers.1)

  pub sends_numbered : (h : List Event) (to : ℕ) → Always (NumberAt ranks) h → AreNumbered (λ (s : Sent). s.n)
      (sends h to)
  unfolding AtEach
  sends_numbered h to numbers = sends_after to [] h (none_numbered (λ (s : Sent). s.n)) numbers

  arrival_step : (h : List Event) (stamp from : ℕ) (what : Happened) → NumberAt ranks h what →
      AreNumbered (λ (a : Arrived). a.arrival.n) (arrivals h from) →
      AreNumbered (λ (a : Arrived). a.arrival.n)
      (arrivals h from ++ filter (λ a. a.arrival.env.from == from) (cons_option (arrived_of stamp what) []))
  arrival_step h stamp from (event.Arrive a) number each =
      maybe_more (λ (a : Arrived). a.arrival.n) (arrivals h from) (record { stamp = stamp; arrival = a })
      (a.env.from == from) each
      (λ is. number.1 ∙ ap (λ (k : ℕ). length (arrivals h k)) (same_number a.env.from from is))
  arrival_step h stamp from what number each =
      subst (λ (as' : List Arrived). AreNumbered (λ (a : Arrived). a.arrival.n) as')
      (sym (append-nil (arrivals h from))) each

  arrivals_after : (from : ℕ) (before events : List Event) → AreNumbered (λ (a : Arrived). a.arrival.n)
      (arrivals before from) →
      AtEachAfter (λ b e. NumberAt ranks b e.what) before events →
      AreNumbered (λ (a : Arrived). a.arrival.n) (arrivals (before ++ events) from)
  arrivals_after from before [] each numbers =
      subst (λ (h : List Event). AreNumbered (λ (a : Arrived). a.arrival.n) (arrivals h from))
      (sym (append-nil before)) each
  arrivals_after from before (e ∷ events) each numbers =
      subst (λ (h : List Event). AreNumbered (λ (a : Arrived). a.arrival.n) (arrivals h from))
      (append_assoc before (e ∷ []) events)
      (arrivals_after from (before ++ e ∷ []) events
      (subst (λ (as' : List Arrived). AreNumbered (λ (a : Arrived). a.arrival.n) as')
      (sym (arrivals-push before e from))
      (arrival_step before e.stamp from e.what numbers.0 each)) numbers.1)

  pub arrivals_numbered : (h : List Event) (from : ℕ) → Always (NumberAt ranks) h →
      AreNumbered (λ (a : Arrived). a.arrival.n) (arrivals h from)
  unfolding AtEach
  arrivals_numbered h from numbers = arrivals_after from [] h (none_numbered (λ (a : Arrived). a.arrival.n)) numbers

  -- posted receives stand at their numbers, and there are no other receives
  abbrev ArePosts : List Event → Type 0
  ArePosts h = AreNumbered (λ (p : post.Post). p.number) (posts h) × (length (posts h) ≡ length (receives h))

  post_step : (h : List Event) (stamp : ℕ) (what : Happened) → NumberAt ranks h what → is_plain_event what ≡ true →
      ArePosts h → ArePosts (h ++ record { stamp = stamp; what = what } ∷ [])
  post_step h stamp (event.Post p line) number plain so =
      let e : Event = record { stamp = stamp; what = event.Post p line } in (
        subst (λ (ps : List post.Post). AreNumbered (λ (p : post.Post). p.number) ps) (sym (posts-push h e))
            (numbered-push (λ (p : post.Post). p.number) (posts h) p so.0 (number ∙ sym so.1)),
        ap (λ (ps : List post.Post). length ps) (posts-push h e) ∙ length-append (posts h) (p ∷ [])
            ∙ (rw so.1 (sym (length-append (receives h) (p.number ∷ []))))
            ∙ sym (ap (λ (ns : List ℕ). length ns) (receives-push h e)),
      )
  post_step h stamp (event.Match number' from n cap line) number plain so = absurd (false≢true plain)
  post_step h stamp what number plain so =
      let e : Event = record { stamp = stamp; what = what } in (
        subst (λ (ps : List post.Post). AreNumbered (λ (p : post.Post). p.number) ps)
            (sym (posts-push h e ∙ append-nil (posts h))) so.0,
        ap (λ (ps : List post.Post). length ps) (posts-push h e ∙ append-nil (posts h)) ∙ so.1
            ∙ sym (ap (λ (ns : List ℕ). length ns) (receives-push h e ∙ append-nil (receives h))),
      )

  posts_after : (before events : List Event) → ArePosts before → AtEachAfter (λ b e. NumberAt ranks b e.what) before
      events →
      ArePlainEvents events → ArePosts (before ++ events)
  posts_after before [] so numbers plain = subst (λ (h : List Event). ArePosts h) (sym (append-nil before)) so
  posts_after before (e ∷ events) so numbers plain =
      subst (λ (h : List Event). ArePosts h) (append_assoc before (e ∷ []) events)
      (posts_after (before ++ e ∷ []) events (post_step before e.stamp e.what numbers.0 plain.0 so) numbers.1 plain.1)

  pub posts_numbered : (h : List Event) → Always (NumberAt ranks) h → ArePlainEvents h →
      AreNumbered (λ (p : post.Post). p.number) (posts h)
  unfolding AtEach
  posts_numbered h numbers plain =
      (posts_after [] h (none_numbered (λ (p : post.Post). p.number), refl) numbers plain).0
