-- What a rank does, and what comes, makes of its state what its history says.
use Rattle.std.proofs.Common.{◌≡◌, ℕ, ◌||◌, ◌&&◌, ◌==◌, not, Bool, true, false, cond, Option, Some, None, List, []}
use Rattle.std.proofs.Common.{◌∷◌, ◌++◌}
use Rattle.std.proofs.Common.{map, refl, sym, ◌∙◌, ap}
use Rattle.std.specs.Prelude.{is_some, option_map}
use Rattle.std.specs.List.{find}
use Rattle.std.proofs.lemmas.List.{map-append}
use Rattle.std.proofs.Math.Bool.{and-true, or-false}
use Rattle.nm_types.specs.declared.messages.Arrival.{Arrival}
use Rattle.nm_types.specs.declared.messages.Post as post
use Rattle.nm_types.specs.declared.scripts.Line.{Line}
use Rattle.nm_history.specs.declared.events.Event.{Event}
use Rattle.nm_history.specs.declared.events.Happened.{Happened}
use Rattle.nm_history.specs.declared.events.Happened.TheVariants as event
use Rattle.nm_history.specs.declared.plain.Pair.{Pair}
use Rattle.nm_history.specs.Completion.{pair_of_receive}
use Rattle.nm_history.specs.Happens.{happened, is_cancel, is_withdraw}
use Rattle.nm_history.specs.Matching.{pair_of, pair_of_claimed}
use Rattle.nm_history.specs.Selection.{matches}
use Rattle.nm_history.specs.Sends.{arrival_of, message_of}
use Rattle.nm_history.specs.Underway.{is_of_packet}
use Rattle.nm_match.specs.Deeds.{is_message}
use Rattle.nm_lookups.specs.Queues.{free_messages, open_receives, posted_after_arrival, posted_after_post}
use Rattle.nm_lookups.specs.Queues.{unexpected_after_arrival, unexpected_after_post, without_message, without_receive}
use Rattle.nm_outcomes.specs.Places.{IsProper, message_for, pair_by, receive_for}
use Rattle.nm_outcomes.specs.declared.spots.deeds.Deed.{Deed}
use Rattle.nm_outcomes.specs.declared.spots.deeds.Deed.TheVariants as deed
use Rattle.nm_outcomes.specs.declared.spots.deeds.Receive.{Receive}
use Rattle.nm_outcomes.specs.Deeds.{happening, post_of_lem}
use Rattle.nm_outcomes.specs.RankStates.{IsSpotOf, Spot, arrived_at, arrived_by, is_closed_at, is_gone_at}
use Rattle.nm_outcomes.specs.RankStates.{is_that}
use Rattle.nm_outcomes.specs.RankStates.{message_of_spot, posted_at, receive_of_spot, spot_after, taken_at}
use Rattle.nm_outcomes.specs.RankStates.{with_arrival, withdrawn_at, without_number}
use Rattle.nm_types.proofs.ListLemmas.{find-map}
use Rattle.nm_outcomes.proofs.ListLemmas.{any-placed, filter-map}
use Rattle.nm_outcomes.proofs.SpotLemmas.{came_next, closed_is, deeds_next, deeds_same, gone_is}
use Rattle.nm_outcomes.proofs.SpotLemmas.{is_withdraw_any}
use Rattle.nm_outcomes.proofs.SpotLemmas.{known_next, next, paired_next, pairs_with, place_at, taken_next}
use Rattle.nm_outcomes.proofs.SpotLemmas.{withdrawn_next}

module _ (lines : List Line) (h : List Event) (spot : Spot) (is : IsSpotOf lines h spot) (stamp : ℕ) where
  abbrev grown : Happened → List Event
  grown what = h ++ record { stamp = stamp; what = what } ∷ []

  -- where no message came and none was withdrawn
  by_command : (d : Deed) (what : Happened) (o : Option Pair) (receives : List Receive) (free : List Arrival) →
      IsProper h what → happening lines d ≡ what → pair_by (place_at h) what ≡ o → arrival_of what ≡ None →
      is_withdraw_any what ≡ false → is_of_packet what ≡ false →
      map post_of_lem receives ≡ open_receives (grown what) → free ≡ free_messages (grown what) →
      IsSpotOf lines (grown what) (record {
        deeds = spot.deeds ++ d ∷ [];
        receives = receives;
        free = free;
        pairs = pairs_with o spot.pairs;
        came = spot.came;
        withdrawn = spot.withdrawn;
      })
  by_command d what o receives free fine is_what made none other own opens frees = record {
    deeds = deeds_next lines h spot is stamp what fine d is_what own;
    receives = opens;
    free = frees;
    paired = paired_next lines h spot is stamp what fine o made;
    taken = taken_next lines h spot is stamp what fine o made;
    known = known_next lines h spot is stamp what fine None none;
    came = came_next lines h spot is stamp what fine None none;
    withdrawn = withdrawn_next lines h spot is stamp what fine other;
  }

  -- a receive that was posted, and found this message or none
  posts : (r : Receive) (line : ℕ) → IsProper h (event.Post (post_of_lem r) line) → (o : Option Arrival) →
      message_for (place_at h) (post_of_lem r) ≡ o →
      IsSpotOf lines (grown (event.Post (post_of_lem r) line))
      (let s = posted_at spot r o in record s { deeds = s.deeds ++ deed.Post r line ∷ [] })
  posts r line fine None none = by_closed (is_closed_at spot r.number) refl
    where
      now : (b : Bool) → is_closed_at spot r.number ≡ b →
          posted_after_post (post_of_lem r) b (open_receives h) None ≡ open_receives (grown (event.Post
          (post_of_lem r) line))
      now b closed =
          ap (λ (o : Option Arrival). posted_after_post (post_of_lem r) b (open_receives h) o) (sym none)
          ∙ ap (λ (c : Bool). posted_after_post (post_of_lem r) c (open_receives h)
          (message_for (place_at h) (post_of_lem r))) (sym closed ∙ closed_is lines h spot is r.number)
          ∙ (next lines h spot is stamp (event.Post (post_of_lem r) line) fine).receives

      frees : spot.free ≡ free_messages (grown (event.Post (post_of_lem r) line))
      frees =
          is.free ∙ ap (λ (o : Option Arrival). unexpected_after_post (free_messages h) o) (sym none)
          ∙ (next lines h spot is stamp (event.Post (post_of_lem r) line) fine).messages

      made : pair_by (place_at h) (event.Post (post_of_lem r) line) ≡ None
      made = ap (λ (o : Option Arrival). option_map (λ a. pair_of (post_of_lem r) a) o) none

      by_closed : (b : Bool) → is_closed_at spot r.number ≡ b →
          IsSpotOf lines (grown (event.Post (post_of_lem r) line))
          (let s = cond b spot (record spot { receives = spot.receives ++ r ∷ [] }) in
          record s { deeds = s.deeds ++ deed.Post r line ∷ [] })
      by_closed true closed =
          by_command (deed.Post r line) (event.Post
          (post_of_lem r) line) None spot.receives spot.free fine refl made refl
          refl refl (is.receives ∙ now true closed) frees
      by_closed false stays =
          by_command (deed.Post r line) (event.Post (post_of_lem r) line) None (spot.receives ++ r ∷ []) spot.free fine
          refl made refl refl refl
          (map-append post_of_lem spot.receives (r ∷ [])
          ∙ ap (λ (ps : List post.Post). ps ++ post_of_lem r ∷ []) is.receives ∙ now false stays) frees
  posts r line fine (Some a) found =
      by_command (deed.Post r line) (event.Post (post_of_lem r) line) (Some (pair_of (post_of_lem r) a)) spot.receives
      (without_message a.env.from a.n spot.free) fine refl
      (ap (λ (o : Option Arrival). option_map (λ a. pair_of (post_of_lem r) a) o) found) refl refl refl
      (is.receives
      ∙ ap (λ (o : Option Arrival). posted_after_post (post_of_lem r)
      (is_some (pair_of_receive h r.number) || happened (is_cancel r.number) h) (open_receives h) o) (sym found)
      ∙ (next lines h spot is stamp (event.Post (post_of_lem r) line) fine).receives)
      (ap (λ (ms : List Arrival). without_message a.env.from a.n ms) is.free
      ∙ ap (λ (o : Option Arrival). unexpected_after_post (free_messages h) o) (sym found)
      ∙ (next lines h spot is stamp (event.Post (post_of_lem r) line) fine).messages)

  -- a receive of a claimed message, which came or not
  matches_claimed : (number from n cap line : ℕ) → IsProper h (event.Match number from n cap line) →
      (o : Option Arrival) →
      message_of h from n ≡ o →
      IsSpotOf lines (grown (event.Match number from n cap line))
      (let s = taken_at spot number cap from n o in
      record s { deeds = s.deeds ++ deed.Match number from n cap line ∷ [] })
  matches_claimed number from n cap line fine o known = by_message o known
    where
      opens : map post_of_lem spot.receives ≡ open_receives (grown (event.Match number from n cap line))
      opens = is.receives ∙ (next lines h spot is stamp (event.Match number from n cap line) fine).receives

      frees : without_message from n spot.free ≡ free_messages (grown (event.Match number from n cap line))
      frees =
          ap (λ (ms : List Arrival). without_message from n ms) is.free
          ∙ (next lines h spot is stamp (event.Match number from n cap line) fine).messages

      by_message : (o : Option Arrival) → message_of h from n ≡ o →
          IsSpotOf lines (grown (event.Match number from n cap line))
          (let s = taken_at spot number cap from n o in
          record s { deeds = s.deeds ++ deed.Match number from n cap line ∷ [] })
      by_message None known =
          by_command (deed.Match number from n cap line) (event.Match number from n cap line) None spot.receives
          (without_message from n spot.free) fine refl
          (ap (λ (o : Option Arrival). option_map
          (λ a. pair_of_claimed number cap a) o) known) refl refl refl opens frees
      by_message (Some a) known =
          by_command (deed.Match number from n cap line) (event.Match number from n cap line)
          (Some (pair_of_claimed number cap a)) spot.receives (without_message from n spot.free) fine refl
          (ap (λ (o : Option Arrival). option_map
          (λ a. pair_of_claimed number cap a) o) known) refl refl refl opens frees

  -- what a rank does
  pub acts : (d : Deed) → IsProper h (happening lines d) → IsSpotOf lines (grown (happening lines d))
      (spot_after spot d)
  acts (deed.Send to n tag ctx len how line) fine =
      let what = event.Send to n tag ctx len how line in
      by_command (deed.Send to n tag ctx len how line) what None spot.receives spot.free fine refl refl refl refl refl
      (is.receives ∙ (next lines h spot is stamp what fine).receives)
      (is.free ∙ (next lines h spot is stamp what fine).messages)
  acts (deed.Recall to n) fine =
      let what = event.Recall to n in
      by_command (deed.Recall to n) what None spot.receives spot.free fine refl refl refl refl refl
      (is.receives ∙ (next lines h spot is stamp what fine).receives)
      (is.free ∙ (next lines h spot is stamp what fine).messages)
  acts (deed.Ran line reply) fine =
      let what = happening lines (deed.Ran line reply) in
      by_command (deed.Ran line reply) what None spot.receives spot.free fine refl refl refl refl refl
      (is.receives ∙ (next lines h spot is stamp what fine).receives)
      (is.free ∙ (next lines h spot is stamp what fine).messages)
  acts (deed.Cancel number true) fine =
      let what = event.Cancel number true in
      by_command (deed.Cancel number true) what None
      (without_number number spot.receives) spot.free fine refl refl refl
      refl refl
      (filter-map post_of_lem (λ (p : post.Post). not (number == p.number)) spot.receives
      ∙ ap (λ (ps : List post.Post). without_receive number ps) is.receives
      ∙ (next lines h spot is stamp what fine).receives)
      (is.free ∙ (next lines h spot is stamp what fine).messages)
  acts (deed.Cancel number false) fine =
      let what = event.Cancel number false in
      by_command (deed.Cancel number false) what None spot.receives spot.free fine refl refl refl refl refl
      (is.receives ∙ (next lines h spot is stamp what fine).receives)
      (is.free ∙ (next lines h spot is stamp what fine).messages)
  acts (deed.Claim from n line) fine =
      let what = event.Claim from n line in
      by_command (deed.Claim from n line) what None spot.receives
      (without_message from n spot.free) fine refl refl refl
      refl refl (is.receives ∙ (next lines h spot is stamp what fine).receives)
      (ap (λ (ms : List Arrival). without_message from n ms) is.free ∙ (next lines h spot is stamp what fine).messages)
  acts (deed.Post r line) fine =
      posts r line fine (message_of_spot spot r)
      (sym (ap (λ (ms : List Arrival). find (λ a. matches r.from r.tag r.ctx a.env) ms) is.free))
  acts (deed.Match number from n cap line) fine =
      matches_claimed number from n cap line fine (find (is_message from n) spot.came) (sym (is.known from n))

  -- a message that went to this receive, or to none
  gives : (a : Arrival) → IsProper h (event.Arrive a) → (o : Option Receive) →
      receive_for (place_at h) a ≡ option_map post_of_lem o →
      IsSpotOf lines (grown (event.Arrive a))
      (let s = arrived_by spot a o in record s { came = with_arrival a s.came })
  gives a fine o found = by_receive o found
    where
      assembled : (o : Option Pair) (receives : List Receive) (free : List Arrival) →
          pair_by (place_at h) (event.Arrive a) ≡ o → map post_of_lem receives ≡ open_receives (grown
          (event.Arrive a)) →
          free ≡ free_messages (grown (event.Arrive a)) → IsSpotOf lines (grown (event.Arrive a)) (record {
            deeds = spot.deeds;
            receives = receives;
            free = free;
            pairs = pairs_with o spot.pairs;
            came = with_arrival a spot.came;
            withdrawn = spot.withdrawn;
          })
      assembled o receives free made opens frees = record {
        deeds = deeds_same lines h spot is stamp (event.Arrive a) fine refl;
        receives = opens;
        free = frees;
        paired = paired_next lines h spot is stamp (event.Arrive a) fine o made;
        taken = taken_next lines h spot is stamp (event.Arrive a) fine o made;
        known = known_next lines h spot is stamp (event.Arrive a) fine (Some a) refl;
        came = came_next lines h spot is stamp (event.Arrive a) fine (Some a) refl;
        withdrawn = withdrawn_next lines h spot is stamp (event.Arrive a) fine refl;
      }

      opened : (p : Option post.Post) → receive_for (place_at h) a ≡ p →
          posted_after_arrival (open_receives h) (option_map (λ (p : post.Post). p.number) p)
          ≡ open_receives (grown (event.Arrive a))
      opened p found =
          ap (λ (o : Option post.Post). posted_after_arrival (open_receives h)
          (option_map (λ (p : post.Post). p.number) o))
          (sym found)
          ∙ (next lines h spot is stamp (event.Arrive a) fine).receives

      freed : (p : Option post.Post) → receive_for (place_at h) a ≡ p → (b : Bool) →
          is_gone_at spot a.env.from a.n ≡ b →
          unexpected_after_arrival a b (free_messages h) (option_map (λ (p : post.Post). p.number) p)
          ≡ free_messages (grown (event.Arrive a))
      freed p found b gone =
          ap (λ (o : Option post.Post). unexpected_after_arrival a b (free_messages h)
          (option_map (λ (p : post.Post). p.number) o)) (sym found)
          ∙ ap (λ (c : Bool). unexpected_after_arrival a c (free_messages h)
          (option_map (λ (p : post.Post). p.number) (receive_for (place_at h) a)))
          (sym gone ∙ gone_is lines h spot is a.env.from a.n)
          ∙ (next lines h spot is stamp (event.Arrive a) fine).messages

      by_gone : receive_for (place_at h) a ≡ None → (b : Bool) → is_gone_at spot a.env.from a.n ≡ b →
          IsSpotOf lines (grown (event.Arrive a))
          (let s = cond b spot (record spot { free = spot.free ++ a ∷ [] }) in
          record s { came = with_arrival a s.came })
      by_gone none true gone =
          assembled None spot.receives spot.free (ap (λ (o : Option post.Post). option_map (λ p. pair_of p a) o) none)
          (is.receives ∙ opened None none) (is.free ∙ freed None none true gone)
      by_gone none false free =
          assembled None spot.receives (spot.free ++ a ∷ [])
          (ap (λ (o : Option post.Post). option_map (λ p. pair_of p a) o) none) (is.receives ∙ opened None none)
          (ap (λ (ms : List Arrival). ms ++ a ∷ []) is.free ∙ freed None none false free)

      by_receive : (o : Option Receive) → receive_for (place_at h) a ≡ option_map post_of_lem o →
          IsSpotOf lines (grown (event.Arrive a))
          (let s = arrived_by spot a o in record s { came = with_arrival a s.came })
      by_receive None none = by_gone none (is_gone_at spot a.env.from a.n) refl
      by_receive (Some r) found =
          assembled (Some (pair_of (post_of_lem r) a)) (without_number r.number spot.receives) spot.free
          (ap (λ (o : Option post.Post). option_map (λ p. pair_of p a) o) found)
          (filter-map post_of_lem (λ (p : post.Post). not (r.number == p.number)) spot.receives
          ∙ ap (λ (ps : List post.Post). without_receive r.number ps) is.receives
          ∙ opened (Some (post_of_lem r)) found)
          (is.free ∙ freed (Some (post_of_lem r)) found (is_gone_at spot a.env.from a.n) refl)

  -- a message that comes
  pub arrives : (a : Arrival) → IsProper h (event.Arrive a) →
      IsSpotOf lines (grown (event.Arrive a)) (arrived_at spot a)
  arrives a fine =
      gives a fine (receive_of_spot spot a)
      (ap (λ (ps : List post.Post). find (λ p. matches p.from p.tag p.ctx a.env) ps) (sym is.receives)
      ∙ find-map post_of_lem (λ (p : post.Post). matches p.from p.tag p.ctx a.env) spot.receives)

  -- a message that is withdrawn
  pub withdraws : (from n : ℕ) → IsSpotOf lines (grown (event.Withdraw from n true)) (withdrawn_at spot from n)
  withdraws from n = record {
    deeds = deeds_same lines h spot is stamp (event.Withdraw from n true) tt refl;
    receives = is.receives ∙ (next lines h spot is stamp (event.Withdraw from n true) tt).receives;
    free = ap (λ (ms : List Arrival). without_message from n ms) is.free
        ∙ (next lines h spot is stamp (event.Withdraw from n true) tt).messages;
    paired = paired_next lines h spot is stamp (event.Withdraw from n true) tt None refl;
    taken = taken_next lines h spot is stamp (event.Withdraw from n true) tt None refl;
    known = known_next lines h spot is stamp (event.Withdraw from n true) tt None refl;
    came = came_next lines h spot is stamp (event.Withdraw from n true) tt None refl;
    withdrawn = λ i m. any-placed (is_that i m) _ (record { rank = from; n = n }) spot.withdrawn
        ∙ ap (λ (b : Bool). b || (from == i && n == m || false)) (is.withdrawn i m)
        ∙ ap (λ (b : Bool). happened (is_withdraw i m true) h || b)
        (or-false (from == i && n == m) ∙ sym (and-true (from == i && n == m)))
        ∙ (next lines h spot is stamp (event.Withdraw from n true) tt).withdrawn i m;
  }
