-- The sending side of a rank that sent nothing.
use Rattle.std.proofs.Common.{◌≡◌, ◌==◌, ◌≤◌, ℕ, None, List, [], not, length, map, filter, is_some}
use Rattle.std.proofs.Common.{replicate, sum_by, count_by, refl, sym, ◌∙◌, ap, subst, arith, ◌&&◌, ◌*◌}
use Rattle.std.specs.Prelude.{slice_index_or}
use Rattle.std.specs.List.{range_with_len, slice_get}
use Rattle.std.specs.Option.{option_and_then}
use Rattle.std.proofs.lemmas.List.{length-replicate}
use Rattle.std.proofs.lemmas.List.Folds.{sum_by-replicate}
use Rattle.nm_history.specs.Continues.{AreApart}
use Rattle.nm_history.specs.Sends.{is_ask}
use Rattle.nm_rndv.specs.Offers.{Destined, Offering, destined, no_offers, recall_in, state_in, untold}
use Rattle.nm_sending.specs.declared.TheConstants.{MAX_MESSAGES}
use Rattle.nm_sending.specs.declared.departures.Departure.{Departure}
use Rattle.nm_sending.specs.Calls.{SentNothing}
use Rattle.nm_sending.specs.Departures.{SendingView, departures_to, departure_of, passes, row_of, was_undone}
use Rattle.nm_sending.specs.Departures.{cleared_to, ends_to}
use Rattle.nm_sending.specs.Sent.{AreSent}
use Rattle.nm_sending.specs.Tables.{TablesAgree, allowed, recall_of, waiting_from}
use Rattle.nm_sending.proofs.LetterLemmas.{alike}

module _ (ranks : ℕ) (v : SendingView) (rows : v.departures ≡ replicate ranks []) (offers : v.offers ≡ no_offers ranks) where
  no_row : (to : ℕ) → departures_to v to ≡ []
  no_row to = ap (λ (rs : List (List Departure)). row_of rs to) rows ∙ alike ranks to []

  no_departure : (to n : ℕ) → departure_of v to n ≡ None
  no_departure to n = ap (λ (ds : List Departure). slice_get ds n) (no_row to)

  none_cleared : (to : ℕ) → cleared_to v to ≡ []
  none_cleared to = ap (λ (o : Offering). map (λ m. m.1) (filter (λ m. m.0 == to) o.order)) offers

  none_destined : (to : ℕ) → destined v.offers to ≡ untold
  none_destined to = ap (λ (o : Offering). destined o to) offers ∙ alike ranks to untold

  -- the empty history has its messages
  pub none_sent : AreSent v []
  none_sent = record {
    numbers = λ to. ap (λ (ds : List Departure). range_with_len 0 (length ds)) (sym (no_row to));
    sent = λ to n. ap is_some (no_departure to n);
    asked = λ to n. ap (passes (λ d. is_ask d.how)) (no_departure to n);
    empty = λ to n. ap (passes (λ d. d.len == 0)) (no_departure to n);
    out = λ to n. ap (passes (λ d. d.out)) (no_departure to n);
    recalled = λ to n. ap (passes (λ d. d.recalled)) (no_departure to n);
    undone = λ to n done. ap (passes (was_undone done)) (no_departure to n);
    in_turn = λ to. rw (none_cleared to) refl;
  }

  -- its tables agree
  pub nothing_agrees : (me : ℕ) → SentNothing ranks me v → TablesAgree me ranks v
  nothing_agrees me nothing = record {
    own = sym nothing.me;
    letters = ap length nothing.popped ∙ length-replicate ranks 0;
    rows = ap length rows ∙ length-replicate {A = List Departure} ranks [];
    offers = ap (λ (o : Offering). length o.destinations) offers ∙ length-replicate ranks untold;
    counts = ap length nothing.pushed ∙ length-replicate ranks 0;
    eager = λ to. ap (ends_to to) nothing.letters ∙ sym (ap (waiting_from 0) (no_row to));
    states = λ to n. rw (no_departure to n, none_cleared to) (
      refl,
      ap (λ (d : Destined). state_in d n) (none_destined to),
    );
    once = λ to. subst AreApart (sym (none_cleared to)) tt;
    recalls = λ to n. ap (λ (d : Destined). recall_in d n) (none_destined to)
        ∙ sym (ap (option_and_then recall_of) (no_departure to n));
    unanswered = λ to n. ap (passes (λ d. not d.recalled && is_some d.undone)) (no_departure to n);
    staying = nothing.staying ∙ sym (ap (sum_by (λ ds. count_by (λ d. not d.out) ds)) rows
        ∙ sum_by-replicate (λ (ds : List Departure). count_by (λ d. not d.out) ds) ranks []
        ∙ (let none : ranks * 0 ≡ 0 = omega arith in none));
    few = λ to. subst (λ (ds : List Departure). length ds ≤ MAX_MESSAGES) (sym (no_row to)) (omega arith);
    pieces = λ to. omega (
      arith,
      ap (λ (counts : List ℕ). slice_index_or counts to 0) nothing.pushed ∙ alike ranks to 0,
      ap allowed (none_destined to),
    );
  }
