-- A rank and its command, by the words of a line. The faults stand in the order of the words, and a
-- body is the last of them.
use Rattle.std.specs.Prelude.{ℕ, ◌+◌, ◌==◌, List, [], ◌∷◌, length, Result, Ok, Err, nat_le}
use Rattle.std.specs.Prelude.{if◌then◌else◌}
use Rattle.std.specs.Option.{ok_or}
use Rattle.nm_types.specs.declared.limits.TheConstants.{MAX_CAPACITY}
use Rattle.nm_types.specs.declared.scripts.Body.{Body}
use Rattle.nm_types.specs.declared.scripts.Body.TheVariants.{Gen}
use Rattle.nm_script.specs.Decimal.{number_of}
use Rattle.nm_script.specs.Bodies.{body_of}
use Rattle.nm_script.specs.Commands.{rank_of}
use Rattle.nm_script.specs.Faults.{◌>>=◌}
use Rattle.nm_plans.specs.declared.faults.PlanKind.{PlanKind}
use Rattle.nm_plans.specs.declared.faults.PlanKind.TheVariants as kind
use Rattle.nm_plans.specs.declared.keywords.PlanKeyword.{PlanKeyword}
use Rattle.nm_plans.specs.declared.keywords.PlanKeyword.TheVariants as key
use Rattle.nm_plans.specs.declared.lines.PlanCommand.{PlanCommand}
use Rattle.nm_plans.specs.declared.lines.PlanCommand.TheVariants.{SendInit, RecvInit, PsendInit}
use Rattle.nm_plans.specs.declared.lines.PlanCommand.TheVariants.{PrecvInit, Fill, Start, Ready}
use Rattle.nm_plans.specs.declared.lines.PlanCommand.TheVariants.{Arrived, Wait}
use Rattle.nm_plans.specs.declared.lines.PlanLine.{PlanLine}
use Rattle.nm_plans.specs.Faults.{or_kind}
use Rattle.nm_plans.specs.Grammar.{Argument, Value, arguments, keyword_of}
use Rattle.nm_plans.specs.Grammar.Argument.{Request, Peer, Tag, Context, Parts, Part, Capacity, Contents}
use Rattle.nm_plans.specs.Grammar.Value.{Number, Bytes}

-- a number below the limit
unfoldable pub plan_argument : ℕ → List ℕ → Result ℕ PlanKind
plan_argument limit word = ok_or (number_of limit word) kind.Number

-- one part or more
unfoldable pub parts_of : List ℕ → Result ℕ PlanKind
parts_of word = plan_argument 17 word >>= λ n. if nat_le 1 n then Ok n else Err kind.Number

-- the number that a word spells for an argument of a sort
abbrev pub number_for : ℕ → Argument → List ℕ → Result ℕ PlanKind
number_for ranks Request word = plan_argument 4096 word
number_for ranks Peer word = plan_argument ranks word
number_for ranks Tag word = plan_argument 2048 word
number_for ranks Context word = plan_argument 128 word
number_for ranks Parts word = parts_of word
number_for ranks Part word = plan_argument 16 word
number_for ranks Capacity word = plan_argument (MAX_CAPACITY + 1) word
number_for ranks Contents word = Err kind.Number

-- the argument that a word spells
abbrev pub value_of : ℕ → Argument → List ℕ → Result Value PlanKind
value_of ranks Contents word = or_kind (body_of word) kind.Body >>= λ body. Ok (Bytes body)
value_of ranks sort word = number_for ranks sort word >>= λ n. Ok (Number n)

-- the arguments that words spell, one for each sort
abbrev pub values_of : ℕ → List Argument → List (List ℕ) → Result (List Value) PlanKind
values_of ranks [] [] = Ok []
values_of ranks (sort ∷ sorts) (word ∷ ws) =
    value_of ranks sort word >>= λ v. (values_of ranks sorts ws >>= λ vs. Ok (v ∷ vs))
values_of ranks _ _ = Err kind.Count

-- the number of an argument that is one
abbrev pub number_in : Value → ℕ
number_in (Number n) = n
number_in (Bytes body) = 0

-- the body of an argument that is one
abbrev pub body_in : Value → Body
body_in (Number n) = Gen 0
body_in (Bytes body) = body

-- the command with this name and these arguments
abbrev pub make : PlanKeyword → List Value → Result PlanCommand PlanKind
make key.SendInit (p ∷ to ∷ tag ∷ ctx ∷ body ∷ []) =
    Ok (SendInit (number_in p) (number_in to) (number_in tag) (number_in ctx) (body_in body))
make key.RecvInit (p ∷ from ∷ tag ∷ ctx ∷ cap ∷ []) =
    Ok (RecvInit (number_in p) (number_in from) (number_in tag) (number_in ctx) (number_in cap))
make key.PsendInit (p ∷ to ∷ tag ∷ ctx ∷ parts ∷ body ∷ []) =
    Ok (PsendInit (number_in p) (number_in to) (number_in tag) (number_in ctx) (number_in parts)
    (body_in body))
make key.PrecvInit (p ∷ from ∷ tag ∷ ctx ∷ parts ∷ cap ∷ []) =
    Ok (PrecvInit (number_in p) (number_in from) (number_in tag) (number_in ctx) (number_in parts)
    (number_in cap))
make key.Fill (p ∷ body ∷ []) = Ok (Fill (number_in p) (body_in body))
make key.Start (p ∷ []) = Ok (Start (number_in p))
make key.Ready (p ∷ k ∷ []) = Ok (Ready (number_in p) (number_in k))
make key.Arrived (p ∷ k ∷ []) = Ok (Arrived (number_in p) (number_in k))
make key.Wait (p ∷ []) = Ok (Wait (number_in p))
make _ _ = Err kind.Count

-- a command by its arguments
unfoldable pub arguments_of : ℕ → PlanKeyword → List (List ℕ) → Result PlanCommand PlanKind
arguments_of ranks keyword ws =
    if length ws == length (arguments keyword) then values_of ranks (arguments keyword) ws >>= make keyword
    else Err kind.Count

-- a command, by its name
unfoldable pub command_of : ℕ → List ℕ → List (List ℕ) → Result PlanCommand PlanKind
command_of ranks name ws = do
  keyword ← ok_or (keyword_of name) kind.Command
  arguments_of ranks keyword ws

-- a rank and its command
unfoldable pub line_of : ℕ → List (List ℕ) → Result PlanLine PlanKind
line_of ranks [] = Err kind.Rank
line_of ranks (first ∷ []) = do
  rank ← or_kind (rank_of ranks first) kind.Rank
  Err kind.Command
line_of ranks (first ∷ name ∷ ws) = do
  rank ← or_kind (rank_of ranks first) kind.Rank
  command ← command_of ranks name ws
  Ok (record { rank = rank; command = command })
