-- What a state says of the messages that its rank sent.
use Rattle.std.proofs.Common.{◌≡◌, ℕ, ◌==◌, not, Bool, true, false, cond, Some, List, [], ◌∷◌, length, map}
use Rattle.std.proofs.Common.{refl, sym, ◌∙◌, ap}
use Rattle.std.specs.List.{cons_option, filter, filter_map, slice_get}
use Rattle.nm_types.specs.declared.scripts.Line.{Line}
use Rattle.nm_history.specs.declared.events.Event.{Event}
use Rattle.nm_history.specs.declared.events.Happened.{Happened}
use Rattle.nm_history.specs.declared.events.Happened.TheVariants as event
use Rattle.nm_history.specs.Sends.{Sent, sends, sent_of}
use Rattle.nm_history.specs.Underway.{is_of_packet}
use Rattle.nm_types.proofs.ListLemmas.{get_map, map_length}
use Rattle.nm_outcomes.specs.declared.spots.deeds.Deed.{Deed}
use Rattle.nm_outcomes.specs.declared.spots.deeds.Deed.TheVariants as deed
use Rattle.nm_outcomes.specs.Deeds.{happening}
use Rattle.nm_outcomes.specs.Looks.{is_send_by}
use Rattle.nm_outcomes.specs.RankStates.{IsSpotOf, Spot, own_of}

-- a send without its stamp, and its deed
abbrev unstamped : Sent → Sent
unstamped s =
    record {
      stamp = 0;
      to = s.to;
      n = s.n;
      tag = s.tag;
      ctx = s.ctx;
      len = s.len;
      how = s.how;
      line = s.line;
    }

abbrev pub deed_of : Sent → Deed
deed_of s = deed.Send s.to s.n s.tag s.ctx s.len s.how s.line

-- the sends to a rank among what happened
abbrev sends_among : ℕ → List Happened → List Sent
sends_among to ws = filter (λ s. s.to == to) (filter_map (λ what. sent_of 0 what) ws)

own_sends : (to : ℕ) (h : List Event) → map unstamped (sends h to) ≡ sends_among to (own_of h)
own_sends to [] = refl
own_sends to (e ∷ h) = by_event e.what e.stamp (own_sends to h)
  where
    by_event : (what : Happened) (stamp : ℕ) → map unstamped (sends h to) ≡ sends_among to (own_of h) →
        map unstamped (filter (λ (s : Sent). s.to == to)
        (cons_option (sent_of stamp what) (filter_map (λ (e : Event). sent_of e.stamp e.what) h)))
        ≡ sends_among to (cond (not (is_of_packet what)) (what ∷ own_of h) (own_of h))
    by_event (event.Send to' n tag ctx len how line) stamp later = by_test (to' == to)
      where
        by_test : (b : Bool) →
            map unstamped (cond b (record {
              stamp = stamp;
              to = to';
              n = n;
              tag = tag;
              ctx = ctx;
              len = len;
              how = how;
              line = line;
            } ∷ sends h to) (sends h to))
            ≡ cond b (record {
              stamp = 0;
              to = to';
              n = n;
              tag = tag;
              ctx = ctx;
              len = len;
              how = how;
              line = line;
            } ∷ sends_among to (own_of h)) (sends_among to (own_of h))
        by_test true = ap (λ (ss : List Sent). record {
          stamp = 0;
          to = to';
          n = n;
          tag = tag;
          ctx = ctx;
          len = len;
          how = how;
          line = line;
        } ∷ ss) later
        by_test false = later
    by_event what stamp later = later

deed_sends : (lines : List Line) (to : ℕ) (ds : List Deed) →
    filter (is_send_by to) ds ≡ map deed_of (sends_among to (map (happening lines) ds))
deed_sends lines to [] = refl
deed_sends lines to (d ∷ ds) = by_deed d (deed_sends lines to ds)
  where
    by_deed : (d : Deed) → filter (is_send_by to) ds ≡ map deed_of (sends_among to (map (happening lines) ds)) →
        filter (is_send_by to) (d ∷ ds) ≡ map deed_of (sends_among to (map (happening lines) (d ∷ ds)))
    by_deed (deed.Send to' n tag ctx len how line) later = by_test (to' == to)
      where
        by_test : (b : Bool) →
            cond b (deed.Send to' n tag ctx len how line ∷ filter (is_send_by to) ds) (filter (is_send_by to) ds)
            ≡ map deed_of (cond b (record {
              stamp = 0;
              to = to';
              n = n;
              tag = tag;
              ctx = ctx;
              len = len;
              how = how;
              line = line;
            } ∷ sends_among to (map (happening lines) ds)) (sends_among to (map (happening lines) ds)))
        by_test true = ap (λ (ds : List Deed). deed.Send to' n tag ctx len how line ∷ ds) later
        by_test false = later
    by_deed (deed.Post r line) later = later
    by_deed (deed.Match number from n cap line) later = later
    by_deed (deed.Cancel number done) later = later
    by_deed (deed.Recall to' n) later = later
    by_deed (deed.Claim from n line) later = later
    by_deed (deed.Ran line reply) later = later

module _ (lines : List Line) (h : List Event) (spot : Spot) (is : IsSpotOf lines h spot) where
  pub sent_deeds : (to : ℕ) → filter (is_send_by to) spot.deeds ≡ map deed_of (map unstamped (sends h to))
  sent_deeds to =
      deed_sends lines to spot.deeds
      ∙ ap (λ (ws : List Happened). map deed_of (sends_among to ws)) is.deeds
      ∙ ap (λ (ss : List Sent). map deed_of ss) (sym (own_sends to h))

  -- the deed of a send
  pub sent_deed : (to n : ℕ) (s : Sent) → slice_get (sends h to) n ≡ Some s →
      slice_get (filter (is_send_by to) spot.deeds) n ≡ Some (deed_of s)
  sent_deed to n s here =
      ap (λ (ds : List Deed). slice_get ds n) (sent_deeds to)
      ∙ get_map deed_of (map unstamped (sends h to)) n (unstamped s) (get_map unstamped (sends h to) n s here)

  pub sent_many : (to : ℕ) → length (filter (is_send_by to) spot.deeds) ≡ length (sends h to)
  sent_many to =
      ap (λ (ds : List Deed). length ds) (sent_deeds to) ∙ map_length deed_of (map unstamped (sends h to))
      ∙ map_length unstamped (sends h to)
