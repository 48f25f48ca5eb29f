-- What the text of a plan's run promises. MPI 4.0, section 3.9: each start of a persistent receive takes
-- the message of the matching start of its sender; section 4.2.1: the parts that are sent make up one body;
-- section 4.2.2: a part has arrived once all of it is here.
use Rattle.std.specs.Prelude.{◌≡◌, ℕ, ◌+◌, ◌⊎◌, false, if◌then◌else◌, nat_lt, Option, Some, None}
use Rattle.std.specs.Prelude.{List, [], ◌∷◌, ◌++◌, codes, decimal, drop, flat_map, length, map, option_map}
use Rattle.std.specs.Prelude.{slice_get, take}
use Rattle.std.specs.List.{AllByRecursion}
use Rattle.hex.specs.Hex.{encode_lower}
use Rattle.nm_types.specs.declared.answers.Answer.{Answer}
use Rattle.nm_types.specs.declared.answers.Answer.TheVariants.{Got, Cut}
use Rattle.nm_types.specs.Sizes.{Sizes}
use Rattle.nm_report.specs.declared.accounts.RankAccount.{RankAccount}
use Rattle.nm_report.specs.declared.records.RunRecord.{RunRecord}
use Rattle.nm_report.specs.Lawful.{IsRunIn}
use Rattle.nm_report.specs.Report.{waits_line}
use Rattle.nm_report.specs.Told.{told_of_rank}
use Rattle.nm_plans.specs.declared.lines.PlanCommand.{PlanCommand}
use Rattle.nm_plans.specs.declared.lines.PlanCommand.TheVariants.{Arrived, Wait}
use Rattle.nm_plans.specs.declared.lines.PlanLine.{PlanLine}
use Rattle.nm_plans.specs.declared.requests.requests.Owner.{Owner}
use Rattle.nm_plans.specs.declared.requests.requests.Request.{Request}
use Rattle.nm_plans.specs.declared.requests.requests.Side.{Side}
use Rattle.nm_plans.specs.declared.requests.requests.Side.TheVariants.{Receives}
use Rattle.nm_plans.specs.Expansion.{expand, name_of, tag_of}
use Rattle.nm_plans.specs.PlanRequests.{owner_of, request_at}
use Rattle.nm_persist.specs.declared.asked.Asked.{Asked}
use Rattle.nm_persist.specs.Plans.{IsPlan}
use Rattle.nm_persist.specs.Report.{Named, asked_at, asked_behind, asked_by, last_result, named_from, shown_line}
use Rattle.nm_persist.specs.Report.{shown_words}
use Rattle.nm_persist.specs.Starts.{IsOther, bodies_of, end_of, part_bytes, starts_of}

-- a line of a plan that has all its answers: what it asks, the answers to its commands, and the rank's
-- answers up to these
pub record Entry : Type 0 where
  pub asked : Asked
  pub own : List Answer
  pub told : List Named

-- these lines as far as they have all their answers, by the answers that lines before had and those that
-- are left
abbrev pub entries : List Asked → List Named → List Answer → List Entry
entries [] told rest = []
entries (a ∷ asked) told rest =
    if nat_lt (length rest) a.count then []
    else record {
      asked = a;
      own = take a.count rest;
      told = told ++ named_from a.name (take a.count rest);
    } ∷ entries asked (told ++ named_from a.name (take a.count rest)) (drop a.count rest)

-- the words that such a line shows
abbrev pub entry_words : Entry → List (List ℕ)
entry_words e = shown_words e.asked e.own e.told

-- the line in the text of such a line
abbrev pub entry_line : Entry → List ℕ
entry_line e = shown_line e.asked (entry_words e)

-- the line in the text for the first of these lines that lacks an answer
abbrev pub standing_line : ℕ → List Asked → List Answer → Option ℕ → List ℕ
standing_line rank [] rest waits = []
standing_line rank (a ∷ asked) rest waits =
    if nat_lt (length rest) a.count then waits_line rank (option_map (λ _. a.line) waits)
    else standing_line rank asked (drop a.count rest) waits

-- The last start of a receive in these first lines is its start number `round`, from 0, and the request at
-- its other end held this body at its own start of this number.
pub record IsHeld (lines before : List PlanLine) (owner : Owner) (r : Request) (body : List ℕ) : Type 0 where
  pub sender : Owner
  pub other : IsOther lines (end_of owner.rank r) sender
  pub round : ℕ
  pub started : length (starts_of before owner) ≡ round + 1
  pub held : slice_get (bodies_of lines sender) round ≡ Some body

-- a receive shows this body, whole and in order, or that it was cut off
abbrev pub ShowsBody : ℕ → ℕ → List ℕ → List (List ℕ) → Type 0
ShowsBody from tag body words =
    (words ≡ codes "got" ∷ decimal from ∷ decimal tag ∷ decimal (length body) ∷ (codes "x" ++ encode_lower body) ∷ [])
    ⊎ (words ≡ codes "cut" ∷ decimal from ∷ decimal tag ∷ decimal (length body) ∷ [])

-- a result has these bytes, or says that they were cut off
abbrev pub IsResultOf : ℕ → ℕ → List ℕ → Option Answer → Type 0
IsResultOf from tag bytes o = (o ≡ Some (Got from tag bytes)) ⊎ (o ≡ Some (Cut from tag (length bytes)))

-- the wait for a receive: it shows the body of this start
pub record IsWaited (lines before : List PlanLine) (owner : Owner) (r : Request) (e : Entry) : Type 0 where
  pub body : List ℕ
  pub start : IsHeld lines before owner r body
  pub shown : ShowsBody r.peer r.tag body (entry_words e)

-- part k of this start is here: it has a result, with all its bytes or cut off
pub record IsHere (lines before : List PlanLine) (owner : Owner) (r : Request) (k : ℕ) (e : Entry) : Type 0 where
  pub body : List ℕ
  pub start : IsHeld lines before owner r body
  pub result : IsResultOf r.peer (tag_of r k) (part_bytes r.parts k body) (last_result e.told (name_of owner.p k))

-- what a command promises of a receive
abbrev pub Promised : List PlanLine → List PlanLine → Owner → PlanCommand → Request → Side → Entry → Type 0
Promised lines before owner (Wait p) r (Receives cap) e = IsWaited lines before owner r e
Promised lines before owner (Arrived p k) r (Receives cap) e =
    entry_words e ≡ codes "yes" ∷ [] → (r.active ≡ false) ⊎ IsHere lines before owner r k e
Promised lines before owner c r side e = Unit {0}

-- the same, where there is a request: without one nothing is promised
abbrev pub PromisedOf : List PlanLine → List PlanLine → Owner → PlanCommand → Option Request → Entry → Type 0
PromisedOf lines before owner c None e = Unit {0}
PromisedOf lines before owner c (Some r) e = Promised lines before owner c r r.side e

-- it is a line of the plan of this rank, and keeps what its command promises
pub record KeepsPromise (lines : List PlanLine) (rank : ℕ) (e : Entry) : Type 0 where
  pub before : List PlanLine
  pub line : PlanLine
  pub after : List PlanLine
  pub split : lines ≡ before ++ line ∷ after
  pub own : line.rank ≡ rank
  pub asks : e.asked ≡ asked_by (length before + 2) line (request_at before (owner_of line))
  pub promise : PromisedOf lines before (owner_of line) line.command (request_at before (owner_of line)) e

-- the answers of a rank
abbrev pub answers_of : RankAccount → List Answer
answers_of account = map (λ t. t.answer) (told_of_rank account).answers

-- what a rank's text shows of the lines that ended
abbrev pub shown_of : List PlanLine → ℕ → RankAccount → List Entry
shown_of lines rank account = entries (asked_at rank (asked_behind [] lines)) [] (answers_of account)

-- a rank's text: its lines that have all their answers, and the one where it stands
abbrev pub rank_text : List PlanLine → ℕ → RankAccount → List ℕ
rank_text lines rank account =
    flat_map entry_line (shown_of lines rank account)
    ++ standing_line rank (asked_at rank (asked_behind [] lines)) (answers_of account) account.waits

-- the text of these ranks, of which the first has this number
abbrev pub accounts_text : List PlanLine → ℕ → List RankAccount → List ℕ
accounts_text lines rank [] = []
accounts_text lines rank (account ∷ accounts) = rank_text lines rank account ++ accounts_text lines (rank + 1) accounts

-- in each run of a plan's script, each line that a rank's text shows keeps its promise
abbrev pub ReceivesShowTheirSends : Type 0
ReceivesShowTheirSends =
    (shape : Sizes) (lines : List PlanLine) (run : RunRecord) → IsPlan shape.ranks lines →
    IsRunIn shape (expand lines) run →
    (rank : ℕ) (account : RankAccount) → slice_get run.ranks rank ≡ Some account →
    AllByRecursion (KeepsPromise lines rank) (shown_of lines rank account)
