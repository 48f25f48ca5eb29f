-- The record of a log, one entry, one rank and one count after another.
use Rattle.std.proofs.Common.{◌≡◌, ℕ, zero, suc, ◌+◌, ◌<◌, ◌≤◌, ◌&&◌, Bool, Option, Some, None}
use Rattle.std.proofs.Common.{List, [], ◌∷◌, ◌++◌, length, refl, sym, ◌∙◌, ap, subst, arith, append_assoc, zero-add}
use Rattle.std.specs.Prelude.{filter_map, is_none, option_map}
use Rattle.std.specs.List.{cons_option, list_all, range_with_len, slice_get}
use Rattle.std.proofs.lemmas.List.{length-map, map-append}
use Rattle.nm_types.specs.declared.scripts.Line.{Line}
use Rattle.nm_types.specs.Sizes.{Sizes}
use Rattle.nm_types.proofs.OptionLemmas.{mapped_some, no_some}
use Rattle.nm_history.specs.declared.events.Event.{Event}
use Rattle.nm_history.specs.Outgoing.{packets_to}
use Rattle.nm_history.specs.Quiescence.{Ended}
use Rattle.nm_history.specs.RankRun.{Always, NumberAt}
use Rattle.nm_report.specs.declared.accounts.RankAccount.{RankAccount}
use Rattle.nm_report.specs.Ends.{are_done, end_of_account, ends_of}
use Rattle.nm_outcomes.specs.Logs.{Step, history_in}
use Rattle.nm_outcomes.specs.RankStates.{Spot}
use Rattle.nm_outcomes.proofs.PathLemmas.{history_split}
use Rattle.nm_explored.specs.declared.choices.moves.Turn.{Turn}
use Rattle.nm_listed.specs.Records.{AreCountable, IsCountable, all_ended, ended_as}
use Rattle.nm_listed.specs.Tellings.{Telling, finished, told_way}

-- one entry more is dealt
pub dealt_next : (a b old : List Event) (xs rest : List Step) (x : Step) (i : ℕ) → xs ≡ x ∷ rest →
    b ≡ a ++ history_in (x ∷ []) i → a ++ history_in xs i ≡ old → b ++ history_in rest i ≡ old
dealt_next a b old xs rest x i split dealt so_far =
    ap (λ (h : List Event). h ++ history_in rest i) dealt
    ∙ append_assoc a (history_in (x ∷ []) i) (history_in rest i)
    ∙ ap (λ (h : List Event). a ++ h) (sym (history_split (x ∷ []) rest i))
    ∙ ap (λ (ys : List Step). a ++ history_in ys i) (sym split) ∙ so_far

range_more : {X : Type 0} (f : ℕ → Option X) (a n : ℕ) →
    filter_map f (range_with_len a (suc n)) ≡ filter_map f (range_with_len a n) ++ cons_option (f (a + n)) []
range_more f a zero = let e : a ≡ a + 0 = omega arith in ap (λ (k : ℕ). cons_option (f k) []) e
range_more {X} f a (suc n) =
    let e : a + 1 + n ≡ a + suc n = omega arith in
    ap (λ (xs : List X). cons_option (f a) xs) (range_more f (a + 1) n)
    ∙ first (f a) (filter_map f (range_with_len (a + 1) n)) (cons_option (f (a + 1 + n)) [])
    ∙ ap (λ (k : ℕ). filter_map f (range_with_len a (suc n)) ++ cons_option (f k) []) e
  where
    first : (o : Option X) (xs ys : List X) → cons_option o (xs ++ ys) ≡ cons_option o xs ++ ys
    first None xs ys = refl
    first (Some x) xs ys = refl

-- one rank more
pub ended_more : (lines : List Line) (t : Telling) (i : ℕ) →
    all_ended lines t (i + 1)
    ≡ all_ended lines t i ++ cons_option (option_map (ended_as lines t.log i) (slice_get t.states i)) []
ended_more lines t i =
    let e : i + 1 ≡ suc i = omega arith in
    let f : ℕ → Option Ended = λ (i : ℕ). option_map (ended_as lines t.log i) (slice_get t.states i) in
    ap (λ (n : ℕ). filter_map f (range_with_len 0 n)) e ∙ range_more f 0 i
    ∙ ap (λ (k : ℕ). filter_map f (range_with_len 0 i) ++ cons_option (f k) []) (zero-add i)

pub ended_same : (lines : List Line) (log other : List Step) (i : ℕ) (o : Option Spot) →
    history_in other i ≡ history_in log i →
    option_map (ended_as lines other i) o ≡ option_map (ended_as lines log i) o
ended_same lines log other i None same = refl
ended_same lines log other i (Some spot) same =
    ap (λ (h : List Event). Some (record {
      at = (ended_as lines log i spot).at;
      waits = (ended_as lines log i spot).waits;
      events = h;
    })) same

-- what stands at a place of those that are there
there_at : {X : Type 0} (f : ℕ → Option X) (a n : ℕ) →
    ((k : ℕ) → a ≤ k → k < a + n → (x : X) × (f k ≡ Some x)) → (i : ℕ) (e : X) →
    slice_get (filter_map f (range_with_len a n)) i ≡ Some e → (i < n) × (f (a + i) ≡ Some e)
there_at f a zero each i e here = absurd (no_some e here)
there_at {X} f a (suc n) each i e here =
    by_place i
    (λ j there.
    there_at f (a + 1) n
    (λ k low high.
    let x : a ≤ k = omega (arith, low) in let y : k < a + suc n = omega (arith, high) in each k x y) j e there)
    (ap (λ (o : Option X). slice_get (cons_option o (filter_map f (range_with_len (a + 1) n))) i)
    (sym first.1) ∙ here)
  where
    first : (x : X) × (f a ≡ Some x)
    first = each a (omega arith) (omega arith)

    by_place : (i : ℕ) →
        ((j : ℕ) → slice_get (filter_map f (range_with_len (a + 1) n)) j ≡ Some e →
        (j < n) × (f (a + 1 + j) ≡ Some e)) →
        slice_get (first.0 ∷ filter_map f (range_with_len (a + 1) n)) i ≡ Some e →
        (i < suc n) × (f (a + i) ≡ Some e)
    by_place zero later here =
        let low : a + 0 ≡ a = omega arith in
        (omega arith, ap f low ∙ first.1 ∙ here)
    by_place (suc i) later here =
        let more = later i here in
        let small = more.0 in
        let same : a + suc i ≡ a + 1 + i = omega arith in
        (omega (arith, small), ap f same ∙ more.1)

there_many : {X : Type 0} (f : ℕ → Option X) (a n : ℕ) →
    ((k : ℕ) → a ≤ k → k < a + n → (x : X) × (f k ≡ Some x)) → length (filter_map f (range_with_len a n)) ≡ n
there_many f a zero each = refl
there_many {X} f a (suc n) each =
    let first = each a (omega arith) (omega arith) in
    ap (λ (o : Option X). length (cons_option o (filter_map f (range_with_len (a + 1) n)))) first.1
    ∙ ap suc (there_many f (a + 1) n
    (λ k low high.
    let x : a ≤ k = omega (arith, low) in let y : k < a + suc n = omega (arith, high) in each k x y))

module _ (shape : Sizes) (lines : List Line) (t : Telling) (countable : IsCountable shape t) where
  abbrev f : ℕ → Option Ended
  f i = option_map (ended_as lines t.log i) (slice_get t.states i)

  each : (k : ℕ) → 0 ≤ k → k < 0 + shape.ranks → (x : Ended) × (f k ≡ Some x)
  each k some high =
      let inside : k < shape.ranks = omega (arith, high) in
      let x = countable.there k inside in
      (ended_as lines t.log k x.0, ap (λ (o : Option Spot). option_map (ended_as lines t.log k) o) x.1)

  pub ends_few : length (all_ended lines t shape.ranks) < 256
  ends_few = let many = there_many f 0 shape.ranks each in let few = countable.some in omega (arith, many, few)

  at : (i : ℕ) (e : Ended) → slice_get (all_ended lines t shape.ranks) i ≡ Some e →
      (i < shape.ranks) × (e.events ≡ history_in t.log i)
  at i e here =
      let place = there_at f 0 shape.ranks each i e here in
      let low = place.0 in
      let found = mapped_some (ended_as lines t.log i) (slice_get t.states i) e
      (ap f (sym (zero-add i)) ∙ place.1) in
      (low, ap (λ (x : Ended). x.events) (sym found.2))

  pub ends_countable : AreCountable (all_ended lines t shape.ranks)
  ends_countable = record {
    numbered = λ i e here.
        let place = at i e here in (
          shape.ranks,
          subst (λ (h : List Event). Always (NumberAt shape.ranks) h) (sym place.1)
              (countable.numbered i place.0),
        );
    packets = λ i to e here.
        let place = at i e here in
        subst (λ (h : List Event). packets_to h to ≤ length h + 281474976710656) (sym place.1)
        (countable.packets i to place.0);
  }

-- one account more
pub ends_next : (ranks new : List RankAccount) (a : RankAccount) (ended : Ended) → new ≡ ranks ++ a ∷ [] →
    end_of_account a ≡ ended → ends_of new ≡ ends_of ranks ++ ended ∷ []
ends_next ranks new a ended more is =
    ap (λ (rs : List RankAccount). ends_of rs) more ∙ map-append end_of_account ranks (a ∷ [])
    ∙ ap (λ (e : Ended). ends_of ranks ++ e ∷ []) is

-- one rank more of those that are taken out
pub accounts_next : (lines : List Line) (old : List Ended) (log : List Step) (states : List Spot) (i : ℕ)
    (entries : List Step) (now new : List Ended) (o : Option Spot) → o ≡ slice_get states i →
    history_in entries i ≡ history_in log i →
    now ≡ old ++ all_ended lines (record { log = log; states = states }) i →
    new ≡ now ++ cons_option (option_map (ended_as lines entries i) o) [] →
    new ≡ old ++ all_ended lines (record { log = log; states = states }) (i + 1)
accounts_next lines old log states i entries now new o at same so_far one =
    one
    ∙ ap (λ (es : List Ended). es ++ cons_option (option_map (ended_as lines entries i) o) []) so_far
    ∙ append_assoc old (all_ended lines (record { log = log; states = states }) i)
    (cons_option (option_map (ended_as lines entries i) o) [])
    ∙ ap (λ (x : Option Ended). old ++ (all_ended lines (record { log = log; states = states }) i ++ cons_option x []))
    (ended_same lines log entries i o same ∙ ap (λ (y : Option Spot). option_map (ended_as lines log i) y) at)
    ∙ ap (λ (es : List Ended). old ++ es) (sym (ended_more lines (record { log = log; states = states }) i))

pub ends_many : (ranks : List RankAccount) → length (ends_of ranks) ≡ length ranks
ends_many ranks = length-map ranks end_of_account

-- an account with these parts
pub account_is : (a : RankAccount) (ended : Ended) → a.at ≡ ended.at → a.waits ≡ ended.waits →
    a.history.events ≡ ended.events → end_of_account a ≡ ended
account_is a ended one two three = λ i. record { at = one i; waits = two i; events = three i }

-- the log with one entry more
pub history_push : (log : List Step) (step : Step) (j : ℕ) →
    history_in (log ++ step ∷ []) j ≡ history_in log j ++ history_in (step ∷ []) j
history_push log step j = history_split log (step ∷ []) j

pub done_is : (ranks : List RankAccount) → list_all (λ account. is_none account.waits) ranks ≡ are_done (ends_of ranks)
done_is [] = refl
done_is (rank ∷ ranks) = ap (λ (b : Bool). is_none rank.waits && b) (done_is ranks)

-- what became of all ranks
pub accounts_all : (shape : Sizes) (lines : List Line) (t : Telling) (now start : List Ended) (log : List Step)
    (states : List Spot) (ranks : ℕ) → start ≡ [] → log ≡ t.log → states ≡ t.states → ranks ≡ shape.ranks →
    now ≡ start ++ all_ended lines (record { log = log; states = states }) ranks → now ≡ all_ended lines t shape.ranks
accounts_all shape lines t now start log states ranks none one two many is =
    is ∙ ap (λ (es : List Ended). es ++ all_ended lines (record { log = log; states = states }) ranks) none
    ∙ ap (λ (l : List Step). all_ended lines (record { log = l; states = states }) ranks) one
    ∙ ap (λ (ss : List Spot). all_ended lines (record { log = t.log; states = ss }) ranks) two
    ∙ ap (λ (n : ℕ). all_ended lines t n) many

-- the log that was finished
pub told_all : (shape : Sizes) (lines own : List Line) (path : List Turn) (told last : Telling) (first second : ℕ) →
    own ≡ lines → first ≡ shape.ranks → second ≡ shape.ranks → told ≡ told_way own first path →
    last ≡ finished second told → last ≡ finished shape.ranks (told_way lines shape.ranks path)
told_all shape lines own path told last first second same one two so_far is =
    is ∙ ap (λ (n : ℕ). finished n told) two
    ∙ ap (λ (t : Telling). finished shape.ranks t)
    (so_far ∙ ap (λ (ls : List Line). told_way ls first path) same ∙ ap (λ (n : ℕ). told_way lines n path) one)
