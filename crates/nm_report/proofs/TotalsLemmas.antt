-- Answers that are added one list after another.
use Rattle.std.proofs.Common.{◌≡◌, ℕ, ◌+◌, ◌<◌, ◌≤◌, List, [], ◌∷◌, ◌++◌, length, take, get_or, map, flat_map}
use Rattle.std.proofs.Common.{refl, sym, ap, ◌∙◌, arith, cond}
use Rattle.std.specs.List.{cons_option, count_by, filter_map, sum_by}
use Rattle.std.proofs.lemmas.List.{take_all}
use Rattle.std.proofs.lemmas.List.Sums.{sum_by-append, sum_by-cons, sum_by_more, sum_by_more_le}
use Rattle.nm_types.specs.declared.answers.Answer.{Answer}
use Rattle.nm_history.specs.declared.events.Event.{Event}
use Rattle.nm_history.specs.declared.events.Happened.{Happened}
use Rattle.nm_history.specs.declared.events.Happened.TheVariants.{Ran}
use Rattle.nm_history.specs.declared.totals.Totals.{Totals}
use Rattle.nm_history.specs.Totals.{answer_in, answers_given}
use Rattle.nm_report.specs.declared.accounts.RankAccount.{RankAccount}
use Rattle.nm_report.specs.Summary.{CountsFit, answers_of, got_bytes, got_count, got_len, is_got, is_sent, sent_count}
use Rattle.nm_report.specs.Told.{Told, told_by, told_of_rank}
use Rattle.nm_report.specs.Totals.{Added, CanAdd, answers_in}

sum_each : {X : Type 0} (g : Answer → ℕ) (f : X → List Answer) (xs : List X)
    → sum_by g (flat_map f xs) ≡ sum_by (λ x. sum_by g (f x)) xs
sum_each g f [] = refl
sum_each {X} g f (x ∷ xs) =
    sum_by-append g (f x) (flat_map f xs) ∙ ap (λ n. sum_by g (f x) + n) (sum_each g f xs)
    ∙ sym (sum_by-cons (λ (y : X). sum_by g (f y)) x xs)

-- the answers of one item more
sum_more : {X : Type 0} (g : Answer → ℕ) (f : X → List Answer) (xs : List X) (i : ℕ) (x : X) → i < length xs
    → x ≡ get_or xs i x
    → sum_by g (flat_map f (take (i + 1) xs)) ≡ sum_by g (flat_map f (take i xs)) + sum_by g (f x)
sum_more {X} g f xs i x within is =
    let each = λ (y : X). sum_by g (f y) in
    sum_each g f (take (i + 1) xs) ∙ sum_by_more each xs i x within
    ∙ ap (λ n. n + each (get_or xs i x)) (sym (sum_each g f (take i xs)))
    ∙ ap (λ (y : X). sum_by g (flat_map f (take i xs)) + each y) (sym is)

-- they are among all answers
sum_within : {X : Type 0} (g : Answer → ℕ) (f : X → List Answer) (xs : List X) (i : ℕ) (x : X) → i < length xs
    → x ≡ get_or xs i x
    → sum_by g (flat_map f (take i xs)) + sum_by g (f x) ≤ sum_by g (flat_map f xs)
sum_within {X} g f xs i x within is =
    let each = λ (y : X). sum_by g (f y) in
    let here : each x ≡ each (get_or xs i x) = ap each is in
    omega (arith, sum_each g f (take i xs), sum_each g f xs, here, sum_by_more_le each xs i x within)

pub added_more : {X : Type 0} (f : X → List Answer) (xs : List X) (i : ℕ) (x : X) (old now new : Totals)
    → i < length xs → x ≡ get_or xs i x → Added (flat_map f (take i xs)) old now → Added (f x) now new
    → Added (flat_map f (take (i + 1) xs)) old new
added_more f xs i x old now new within is before here = record {
  sent = omega (arith, sum_more (λ a. cond (is_sent a) 1 0) f xs i x within is, before.sent, here.sent);
  got = omega (arith, sum_more (λ a. cond (is_got a) 1 0) f xs i x within is, before.got, here.got);
  bytes = omega (arith, sum_more got_len f xs i x within is, before.bytes, here.bytes);
}

pub can_add_next : {X : Type 0} (f : X → List Answer) (xs : List X) (i : ℕ) (x : X) (old now : Totals)
    → i < length xs → x ≡ get_or xs i x → CanAdd (flat_map f xs) old → Added (flat_map f (take i xs)) old now
    → CanAdd (f x) now
can_add_next f xs i x old now within is all before = record {
  sent = omega (arith, sum_within (λ a. cond (is_sent a) 1 0) f xs i x within is, all.sent, before.sent);
  got = omega (arith, sum_within (λ a. cond (is_got a) 1 0) f xs i x within is, all.got, before.got);
  bytes = omega (arith, sum_within got_len f xs i x within is, all.bytes, before.bytes);
}

one_answer : (what : Happened) (list : List Told)
    → map (λ t. t.answer) (cons_option (told_by what) list) ≡ answer_in what ++ map (λ t. t.answer) list
one_answer (Ran line answer) list = refl
one_answer what list = refl

-- what a rank told has the answers of its events
rank_answers : (h : List Event)
    → map (λ t. t.answer) (filter_map (λ event. told_by event.what) h) ≡ answers_given h
rank_answers [] = refl
rank_answers (e ∷ h) =
    one_answer e.what (filter_map (λ event. told_by event.what) h)
    ∙ ap (λ as'. answer_in e.what ++ as') (rank_answers h)

pub all_answers : (ranks : List RankAccount) → answers_of (map told_of_rank ranks) ≡ flat_map answers_in ranks
all_answers [] = refl
all_answers (account ∷ ranks) =
    ap (λ as'. as' ++ answers_of (map told_of_rank ranks)) (rank_answers account.history.events)
    ∙ ap (λ as'. answers_in account ++ as') (all_answers ranks)

-- the totals at the start
abbrev pub nothing : Totals
nothing = record { sent = 0; got = 0; bytes = 0 }

pub can_add_all : (ranks : List RankAccount) → CountsFit (map told_of_rank ranks)
    → CanAdd (flat_map answers_in ranks) nothing
can_add_all ranks fit =
    let same = all_answers ranks in
    record {
      sent = omega (arith, ap (count_by is_sent) same, fit.sent);
      got = omega (arith, ap (count_by is_got) same, fit.got);
      bytes = omega (arith, ap (sum_by got_len) same, fit.bytes);
    }

pub record AreTotals (ranks : List RankAccount) (totals : Totals) : Type 0 where
  pub sent : totals.sent ≡ sent_count (map told_of_rank ranks)
  pub got : totals.got ≡ got_count (map told_of_rank ranks)
  pub bytes : totals.bytes ≡ got_bytes (map told_of_rank ranks)

pub added_all : (ranks : List RankAccount) (n : ℕ) (totals : Totals) → length ranks ≤ n
    → Added (flat_map answers_in (take n ranks)) nothing totals → AreTotals ranks totals
added_all ranks n totals past added =
    let whole = take_all n ranks past in
    let same = ap (flat_map answers_in) whole ∙ sym (all_answers ranks) in
    record {
      sent = omega (arith, ap (count_by is_sent) same, added.sent);
      got = omega (arith, ap (count_by is_got) same, added.got);
      bytes = omega (arith, ap (sum_by got_len) same, added.bytes);
    }
