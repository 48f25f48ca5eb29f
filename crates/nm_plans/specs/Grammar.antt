-- The commands of a plan: their names, and the sorts and ranges of their arguments.
use Rattle.std.specs.Prelude.{ℕ, Bool, true, false, ◌&&◌, List, [], ◌∷◌, Option, codes, decimal, find}
use Rattle.std.specs.Prelude.{nat_le, nat_lt}
use Rattle.std.specs.Str.{bytes_eq}
use Rattle.nm_types.specs.declared.limits.TheConstants.{MAX_CAPACITY, MAX_BODY}
use Rattle.nm_types.specs.declared.scripts.Body.{Body}
use Rattle.nm_types.specs.Bodies.{body_len}
use Rattle.nm_types.specs.Text.{body_word}
use Rattle.nm_script.specs.Spelled.{are_bytes}
use Rattle.nm_plans.specs.declared.keywords.PlanKeyword.{PlanKeyword}
use Rattle.nm_plans.specs.declared.keywords.PlanKeyword.TheVariants as key
use Rattle.nm_plans.specs.declared.lines.PlanCommand.{PlanCommand}
use Rattle.nm_plans.specs.declared.lines.PlanCommand.TheVariants.{SendInit, RecvInit, PsendInit}
use Rattle.nm_plans.specs.declared.lines.PlanCommand.TheVariants.{PrecvInit, Fill, Start, Ready}
use Rattle.nm_plans.specs.declared.lines.PlanCommand.TheVariants.{Arrived, Wait}

-- the name of a command
abbrev pub keyword_text : PlanKeyword → List ℕ
keyword_text key.SendInit = codes "sendinit"
keyword_text key.RecvInit = codes "recvinit"
keyword_text key.PsendInit = codes "psendinit"
keyword_text key.PrecvInit = codes "precvinit"
keyword_text key.Fill = codes "fill"
keyword_text key.Start = codes "start"
keyword_text key.Ready = codes "ready"
keyword_text key.Arrived = codes "arrived"
keyword_text key.Wait = codes "wait"

-- the commands that there are
abbrev pub keywords : List PlanKeyword
keywords =
    key.SendInit ∷ key.RecvInit ∷ key.PsendInit ∷ key.PrecvInit ∷ key.Fill ∷ key.Start ∷ key.Ready
    ∷ key.Arrived ∷ key.Wait ∷ []

-- the command that has this name
unfoldable pub keyword_of : List ℕ → Option PlanKeyword
keyword_of word = find (λ k. bytes_eq word (keyword_text k)) keywords

-- the sorts of arguments
pub data Argument : Type 0 where
  Request : Argument
  Peer : Argument
  Tag : Argument
  Context : Argument
  Parts : Argument
  Part : Argument
  Capacity : Argument
  Contents : Argument

-- an argument: a number, or a body
pub data Value : Type 0 where
  Number : (n : ℕ) → Value
  Bytes : (body : Body) → Value

-- the arguments of a command
abbrev pub arguments : PlanKeyword → List Argument
arguments key.SendInit = Request ∷ Peer ∷ Tag ∷ Context ∷ Contents ∷ []
arguments key.RecvInit = Request ∷ Peer ∷ Tag ∷ Context ∷ Capacity ∷ []
arguments key.PsendInit = Request ∷ Peer ∷ Tag ∷ Context ∷ Parts ∷ Contents ∷ []
arguments key.PrecvInit = Request ∷ Peer ∷ Tag ∷ Context ∷ Parts ∷ Capacity ∷ []
arguments key.Fill = Request ∷ Contents ∷ []
arguments key.Start = Request ∷ []
arguments key.Ready = Request ∷ Part ∷ []
arguments key.Arrived = Request ∷ Part ∷ []
arguments key.Wait = Request ∷ []

-- a number of a plan of so many ranks is in the range of its sort
abbrev pub is_number : ℕ → Argument → ℕ → Bool
is_number ranks Request n = nat_le n 4095
is_number ranks Peer n = nat_lt n ranks
is_number ranks Tag n = nat_le n 2047
is_number ranks Context n = nat_le n 127
is_number ranks Parts n = nat_le 1 n && nat_le n 16
is_number ranks Part n = nat_le n 15
is_number ranks Capacity n = nat_le n MAX_CAPACITY
is_number ranks Contents n = false

-- an argument is in the range of its sort
abbrev pub is_value : ℕ → Argument → Value → Bool
is_value ranks Contents (Bytes body) = are_bytes body && nat_le (body_len body) MAX_BODY
is_value ranks sort (Bytes body) = false
is_value ranks sort (Number n) = is_number ranks sort n

-- the word of an argument
abbrev pub value_word : Value → List ℕ
value_word (Number n) = decimal n
value_word (Bytes body) = body_word body

-- a command's name
abbrev pub keyword_in : PlanCommand → PlanKeyword
keyword_in (SendInit p to tag ctx body) = key.SendInit
keyword_in (RecvInit p from tag ctx cap) = key.RecvInit
keyword_in (PsendInit p to tag ctx parts body) = key.PsendInit
keyword_in (PrecvInit p from tag ctx parts cap) = key.PrecvInit
keyword_in (Fill p body) = key.Fill
keyword_in (Start p) = key.Start
keyword_in (Ready p k) = key.Ready
keyword_in (Arrived p k) = key.Arrived
keyword_in (Wait p) = key.Wait

-- a command's arguments
abbrev pub values : PlanCommand → List Value
values (SendInit p to tag ctx body) = Number p ∷ Number to ∷ Number tag ∷ Number ctx ∷ Bytes body ∷ []
values (RecvInit p from tag ctx cap) =
    Number p ∷ Number from ∷ Number tag ∷ Number ctx ∷ Number cap ∷ []
values (PsendInit p to tag ctx parts body) =
    Number p ∷ Number to ∷ Number tag ∷ Number ctx ∷ Number parts ∷ Bytes body ∷ []
values (PrecvInit p from tag ctx parts cap) =
    Number p ∷ Number from ∷ Number tag ∷ Number ctx ∷ Number parts ∷ Number cap ∷ []
values (Fill p body) = Number p ∷ Bytes body ∷ []
values (Start p) = Number p ∷ []
values (Ready p k) = Number p ∷ Number k ∷ []
values (Arrived p k) = Number p ∷ Number k ∷ []
values (Wait p) = Number p ∷ []

-- each argument is in the range of its sort, and there are as many as sorts
abbrev pub are_values : ℕ → List Argument → List Value → Bool
are_values ranks [] [] = true
are_values ranks (sort ∷ sorts) (v ∷ vs) = is_value ranks sort v && are_values ranks sorts vs
are_values ranks _ _ = false

-- a command's arguments are in range
abbrev pub is_in_range : ℕ → PlanCommand → Bool
is_in_range ranks c = are_values ranks (arguments (keyword_in c)) (values c)

-- the name of the request that a command is about
abbrev pub request_in : PlanCommand → ℕ
request_in (SendInit p to tag ctx body) = p
request_in (RecvInit p from tag ctx cap) = p
request_in (PsendInit p to tag ctx parts body) = p
request_in (PrecvInit p from tag ctx parts cap) = p
request_in (Fill p body) = p
request_in (Start p) = p
request_in (Ready p k) = p
request_in (Arrived p k) = p
request_in (Wait p) = p
