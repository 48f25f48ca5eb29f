-- How many events some ranks of a record have.
use Rattle.std.proofs.Common.{◌≡◌, ℕ, zero, suc, ◌+◌, ◌≤◌, ◌<◌, Some, List, [], ◌∷◌, length, map, take, get_or}
use Rattle.std.proofs.Common.{sym, ◌∙◌, ap, arith}
use Rattle.std.specs.Prelude.{slice_get}
use Rattle.std.proofs.lemmas.List.Sums.{sum_by-cons, sum_by-take-le, sum_by_push}
use Rattle.std.specs.List.{take-map}
use Rattle.std.proofs.lemmas.List.{length-map, map-append, take_all}
use Rattle.nm_types.proofs.ListLemmas.{take_next}
use Rattle.nm_types.proofs.OptionLemmas.{no_some, same_some}
use Rattle.nm_history.specs.Quiescence.{Ended}
use Rattle.nm_report.specs.declared.accounts.RankAccount.{RankAccount}
use Rattle.nm_report.specs.Ends.{end_of_account, ends_of}
use Rattle.nm_breaks.specs.Places.{events_in}

-- one rank has no more events than all
pub rank_le : (ranks : List Ended) (i : ℕ) (e : Ended) → slice_get ranks i ≡ Some e → length e.events ≤ events_in ranks
rank_le [] i e here = absurd (no_some e here)
rank_le (r ∷ ranks) zero e here =
    let sum = sum_by-cons (λ (e : Ended). length e.events) r ranks in
    let same : length r.events ≡ length e.events = ap (λ (x : Ended). length x.events) (same_some r e here) in
    omega (arith, sum, same)
rank_le (r ∷ ranks) (suc i) e here =
    let more = rank_le ranks i e here in
    let sum = sum_by-cons (λ (e : Ended). length e.events) r ranks in
    omega (arith, more, sum)

-- the events of one rank more
pub one_more : (ranks : List RankAccount) (k : ℕ) (r : RankAccount) → k < length ranks → r ≡ get_or ranks k r →
    events_in (take (k + 1) (ends_of ranks)) ≡ events_in (take k (ends_of ranks)) + length r.history.events
one_more ranks k r inside is =
    ap events_in (take-map end_of_account (k + 1) ranks ∙ ap (λ (rs : List RankAccount). map end_of_account rs)
    (take_next ranks k r inside is) ∙ map-append end_of_account (take k ranks) (r ∷ []))
    ∙ sum_by_push (λ (e : Ended). length e.events) (map end_of_account (take k ranks)) (end_of_account r)
    ∙ ap (λ (es : List Ended). events_in es + length r.history.events) (sym (take-map end_of_account k ranks))

-- .. of some ranks are no more than those of all
pub some_le : (ranks : List RankAccount) (k : ℕ) → events_in (take k (ends_of ranks)) ≤ events_in (ends_of ranks)
some_le ranks k = sum_by-take-le (λ (e : Ended). length e.events) (ends_of ranks) k

-- as many ranks as there are, or more, are all
pub all_of : (ranks : List RankAccount) (k : ℕ) → length ranks ≤ k → take k (ends_of ranks) ≡ ends_of ranks
all_of ranks k over =
    let same : length (map end_of_account ranks) ≡ length ranks = length-map ranks end_of_account in
    take_all k (ends_of ranks) (omega (arith, over, same))

-- the events of the first ranks, in either way
pub front_same : (ranks : List RankAccount) (k : ℕ) →
    events_in (ends_of (take k ranks)) ≡ events_in (take k (ends_of ranks))
front_same ranks k = ap events_in (sym (take-map end_of_account k ranks))
