-- The tables of each rank.
use Rattle.std.proofs.Common.{◌≡◌, ℕ, ◌<◌, ◌≤◌, Option, Some, None, List, [], length, get_or, sym, ap, subst, arith}
use Rattle.std.specs.Prelude.{IfSome, IsSomeAnd, Bool}
use Rattle.std.specs.List.{slice_get}
use Rattle.std.specs.Option.{option_map_or}
use Rattle.std.proofs.lemmas.List.{length-map}
use Rattle.nm_types.specs.declared.scripts.Line.{Line}
use Rattle.nm_types.proofs.ListLemmas.{get_some}
use Rattle.nm_history.specs.declared.events.Event.{Event}
use Rattle.nm_history.specs.Quiescence.{Ended, history_of}
use Rattle.nm_report.specs.declared.accounts.RankAccount.{RankAccount}
use Rattle.nm_report.specs.Ends.{end_of_account, ends_of}
use Rattle.nm_report.proofs.EndLemmas.{end_at}
use Rattle.nm_lookups.specs.Deciding.{Decides}
use Rattle.nm_check_rank.specs.Tabled.{AreRankTables}
use Rattle.nm_check.specs.Marked.{AreLooked, IsOwn, KeepsLocal}
use Rattle.nm_check.specs.Tabled.{AreTabled}
use Rattle.nm_check.specs.declared.marks.Marks.{Marks}
use Rattle.nm_check_rank.specs.declared.paired.tables.Tables.{Tables}
use Rattle.nm_check.proofs.RankLemmas.{no_end, of_rank}

-- there are as many tables as ranks
pub table_inside : (ranks : List RankAccount) (tables : List Tables) (i : ℕ) → AreTabled (ends_of ranks) tables →
    i < length ranks → i < length tables
table_inside ranks tables i tabled inside =
    let same : length (ends_of ranks) ≡ length ranks = length-map ranks end_of_account in
    let many : length tables ≡ length (ends_of ranks) = tabled.1.as_many in
    omega (arith, same, many, inside)

-- the tables of the rank at a place
pub tables_at : (ranks : List RankAccount) (tables : List Tables) (i : ℕ) (a : RankAccount) (t : Tables)
    (tabled : AreTabled (ends_of ranks) tables) →
    i < length ranks → a ≡ get_or ranks i a → t ≡ get_or tables i t → AreRankTables i tabled.0 a.history.events t
tables_at ranks tables i a t tabled inside is its =
    subst (λ (o : Option Ended). IsSomeAnd o (λ rank. AreRankTables i tabled.0 rank.events t))
    (end_at ranks i a inside is)
    (tabled.1.each i t (table_inside ranks tables i tabled inside) its)

-- the history of the rank at a place
pub history_at : (ranks : List RankAccount) (i : ℕ) (a : RankAccount) → i < length ranks → a ≡ get_or ranks i a →
    history_of (ends_of ranks) i ≡ a.history.events
history_at ranks i a inside is = ap (λ (o : Option Ended). option_map_or (λ rank. rank.events) o [])
    (end_at ranks i a inside is)

-- its numbers and stamps, and its tables
pub own_at : (lines : List Line) (ranks : List RankAccount) (tables : List Tables) (i : ℕ) (a : RankAccount)
    (t : Tables) → AreLooked lines (ends_of ranks) tables → i < length ranks → a ≡ get_or ranks i a →
    t ≡ get_or tables i t → IsOwn lines (ends_of ranks) i a.history.events t
own_at lines ranks tables i a t looked inside is its =
    let keeps = of_rank KeepsLocal ranks i a inside is looked.lawful in
    let same : length (ends_of ranks) ≡ length ranks = length-map ranks end_of_account in
    record {
      inside = omega (arith, same, inside);
      history = history_at ranks i a inside is;
      many = keeps.ranks;
      numbers = keeps.numbers;
      stamps = keeps.stamps;
      tabled = tables_at ranks tables i a t (lines, looked.tabled) inside is its;
    }

-- there is none behind the last
pub no_history : (ranks : List RankAccount) (i : ℕ) → length ranks ≤ i → history_of (ends_of ranks) i ≡ []
no_history ranks i over = ap (λ (o : Option Ended). option_map_or (λ rank. rank.events) o []) (no_end ranks i over)

-- what is so of the history of the rank that there is
pub some_history : (ranks : List Ended) (i : ℕ) (Q : List Event → Type 0) → Q (history_of ranks i) →
    IfSome (slice_get ranks i) (λ rank. Q rank.events)
some_history ranks i Q here = by_rank (slice_get ranks i) here
  where
    by_rank : (o : Option Ended) → Q (option_map_or (λ rank. rank.events) o []) → IfSome o (λ rank. Q rank.events)
    by_rank None here = tt
    by_rank (Some rank) here = here

pub its_history : (ranks : List Ended) (i : ℕ) (Q : List Event → Type 0) → i < length ranks → Q (history_of ranks i) →
    IsSomeAnd (slice_get ranks i) (λ rank. Q rank.events)
its_history ranks i Q inside here =
    let own = get_some ranks i inside in
    subst (λ (o : Option Ended). IsSomeAnd o (λ rank. Q rank.events)) (sym own.1)
    (subst Q (ap (λ (o : Option Ended). option_map_or (λ rank. rank.events) o []) own.1) here)

pub history_decided : (ranks : List Ended) (i : ℕ) (r : Bool) (Q : List Event → Type 0) → i < length ranks →
    Decides r (Q (history_of ranks i)) → Decides r (IfSome (slice_get ranks i) (λ rank. Q rank.events))
history_decided ranks i r Q inside here =
    let own = get_some ranks i inside in
    subst (λ (o : Option Ended). Decides r (IfSome o (λ rank. Q rank.events))) (sym own.1)
    (subst (λ (h : List Event). Decides r (Q h)) (ap (λ (o : Option Ended). option_map_or (λ rank. rank.events) o [])
    own.1) here)

-- no marks: what stands for those of a rank that there is not
abbrev pub blank : Marks
blank = record { arrivals = []; bodies = []; outs = []; withdrawals = []; answers = [] }

-- the tables of the rank at a place
abbrev pub TabledAt : List Line → List Ended → ℕ → Tables → Type 0
TabledAt lines ranks i tables = IsSomeAnd (slice_get ranks i) (λ rank. AreRankTables i lines rank.events tables)
