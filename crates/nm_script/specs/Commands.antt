-- A rank and its command, by the words of a line. The faults stand in the order of the words, and a
-- body is the last of them.
use Rattle.std.specs.Prelude.{ℕ, ◌+◌, ◌-◌, Bool, true, false, ◌&&◌, ◌==◌, List, [], ◌∷◌, length, take}
use Rattle.std.specs.Prelude.{slice_index, Result, Ok, Err, nat_lt, if◌then◌else◌, codes}
use Rattle.std.specs.Option.{ok_or}
use Rattle.std.specs.Str.{bytes_eq}
use Rattle.nm_types.specs.declared.limits.TheConstants.{MAX_NAME, MAX_TAG, MAX_CONTEXT}
use Rattle.nm_types.specs.declared.limits.TheConstants.{MAX_CAPACITY}
use Rattle.nm_types.specs.declared.messages.Peer.{Peer}
use Rattle.nm_types.specs.declared.messages.Peer.TheVariants as peer
use Rattle.nm_types.specs.declared.messages.TagPick.{TagPick}
use Rattle.nm_types.specs.declared.messages.TagPick.TheVariants as pick
use Rattle.nm_types.specs.declared.scripts.Command.{Command}
use Rattle.nm_types.specs.declared.scripts.Command.TheVariants as command
use Rattle.nm_types.specs.declared.scripts.Line.{Line}
use Rattle.nm_script.specs.declared.commands.Selection.{Selection}
use Rattle.nm_script.specs.declared.faults.Kind.{Kind}
use Rattle.nm_script.specs.declared.faults.Kind.TheVariants as kind
use Rattle.nm_script.specs.declared.keywords.Keyword.{Keyword}
use Rattle.nm_script.specs.declared.keywords.Keyword.TheVariants as key
use Rattle.nm_script.specs.Bodies.{body_of}
use Rattle.nm_script.specs.Decimal.{number_of}
use Rattle.nm_script.specs.Faults.{◌>>=◌}
use Rattle.nm_script.specs.Keywords.{keyword_of}

-- a rank's number and a colon
unfoldable pub rank_of : ℕ → List ℕ → Result ℕ Kind
rank_of ranks word =
    if nat_lt 0 (length word) && slice_index word (length word - 1) == 58 then
    ok_or (number_of ranks (take (length word - 1) word)) kind.Rank
    else Err kind.Rank

-- a number below the limit
unfoldable pub argument_of : ℕ → List ℕ → Result ℕ Kind
argument_of limit word = ok_or (number_of limit word) kind.Number

-- a name of a request or of a handle
unfoldable pub name_of : List ℕ → Result ℕ Kind
name_of word = argument_of (MAX_NAME + 1) word

-- any source, or a rank
unfoldable pub peer_of : ℕ → List ℕ → Result Peer Kind
peer_of ranks word =
    if bytes_eq word (codes "any") then Ok peer.Any
    else argument_of ranks word >>= λ rank. Ok (peer.One rank)

-- any tag, or one
unfoldable pub pick_of : List ℕ → Result TagPick Kind
pick_of word =
    if bytes_eq word (codes "any") then Ok pick.Any
    else argument_of (MAX_TAG + 1) word >>= λ tag. Ok (pick.One tag)

-- which messages a command is about
unfoldable pub selection_of : ℕ → List ℕ → List ℕ → List ℕ → Result Selection Kind
selection_of ranks from tag ctx = do
  f ← peer_of ranks from
  t ← pick_of tag
  c ← argument_of (MAX_CONTEXT + 1) ctx
  Ok (record { from = f; tag = t; ctx = c })

-- a send by its arguments, the body last
unfoldable pub send_with : ℕ → Bool → List ℕ → List ℕ → List ℕ → List ℕ → List ℕ
    → Result Command Kind
send_with ranks sync name to tag ctx body = do
  q ← name_of name
  r ← argument_of ranks to
  t ← argument_of (MAX_TAG + 1) tag
  c ← argument_of (MAX_CONTEXT + 1) ctx
  b ← body_of body
  Ok (command.Send r q t c sync b)

-- a send, where there are as many arguments as it has
unfoldable pub send_of : ℕ → Bool → List (List ℕ) → Result Command Kind
send_of ranks sync (name ∷ to ∷ tag ∷ ctx ∷ body ∷ []) = send_with ranks sync name to tag ctx body
send_of ranks sync _ = Err kind.Count

-- a receive by its arguments
unfoldable pub recv_with : ℕ → List ℕ → List ℕ → List ℕ → List ℕ → List ℕ → Result Command Kind
recv_with ranks name from tag ctx cap = do
  q ← name_of name
  s ← selection_of ranks from tag ctx
  n ← argument_of (MAX_CAPACITY + 1) cap
  Ok (command.Recv q s.from s.tag s.ctx n)

-- a receive, where there are as many arguments as it has
unfoldable pub recv_of : ℕ → List (List ℕ) → Result Command Kind
recv_of ranks (name ∷ from ∷ tag ∷ ctx ∷ cap ∷ []) = recv_with ranks name from tag ctx cap
recv_of ranks _ = Err kind.Count

-- the one argument of a command about a request
unfoldable pub lone_of : List (List ℕ) → Result ℕ Kind
lone_of (name ∷ []) = name_of name
lone_of _ = Err kind.Count

-- the arguments of a probe
unfoldable pub probe_of : ℕ → List (List ℕ) → Result Selection Kind
probe_of ranks (from ∷ tag ∷ ctx ∷ []) = selection_of ranks from tag ctx
probe_of ranks _ = Err kind.Count

-- a probe that takes its message out of matching, by its arguments
unfoldable pub mprobe_with : ℕ → List ℕ → List ℕ → List ℕ → List ℕ → Result Command Kind
mprobe_with ranks name from tag ctx = do
  m ← name_of name
  s ← selection_of ranks from tag ctx
  Ok (command.Mprobe m s.from s.tag s.ctx)

-- such a probe, where there are as many arguments as it has
unfoldable pub mprobe_of : ℕ → List (List ℕ) → Result Command Kind
mprobe_of ranks (name ∷ from ∷ tag ∷ ctx ∷ []) = mprobe_with ranks name from tag ctx
mprobe_of ranks _ = Err kind.Count

-- a receive of a handle's message, by its arguments
unfoldable pub mrecv_with : List ℕ → List ℕ → List ℕ → Result Command Kind
mrecv_with name handle cap = do
  q ← name_of name
  m ← name_of handle
  n ← argument_of (MAX_CAPACITY + 1) cap
  Ok (command.Mrecv q m n)

-- such a receive, where there are as many arguments as it has
unfoldable pub mrecv_of : List (List ℕ) → Result Command Kind
mrecv_of (name ∷ handle ∷ cap ∷ []) = mrecv_with name handle cap
mrecv_of _ = Err kind.Count

-- a command by its arguments
unfoldable pub arguments_of : ℕ → Keyword → List (List ℕ) → Result Command Kind
arguments_of ranks key.Isend arguments = send_of ranks false arguments
arguments_of ranks key.Issend arguments = send_of ranks true arguments
arguments_of ranks key.Irecv arguments = recv_of ranks arguments
arguments_of ranks key.Wait arguments = lone_of arguments >>= λ q. Ok (command.Wait q)
arguments_of ranks key.Test arguments = lone_of arguments >>= λ q. Ok (command.Test q)
arguments_of ranks key.Probe arguments =
    probe_of ranks arguments >>= λ s. Ok (command.Probe s.from s.tag s.ctx)
arguments_of ranks key.Await arguments =
    probe_of ranks arguments >>= λ s. Ok (command.Await s.from s.tag s.ctx)
arguments_of ranks key.Cancel arguments = lone_of arguments >>= λ q. Ok (command.Cancel q)
arguments_of ranks key.Mprobe arguments = mprobe_of ranks arguments
arguments_of ranks key.Mrecv arguments = mrecv_of arguments

-- a command, by its name
unfoldable pub command_of : ℕ → List ℕ → List (List ℕ) → Result Command Kind
command_of ranks name arguments = do
  keyword ← ok_or (keyword_of name) kind.Command
  arguments_of ranks keyword arguments

-- a rank and its command
unfoldable pub line_of : ℕ → List (List ℕ) → Result Line Kind
line_of ranks [] = Err kind.Rank
line_of ranks (first ∷ []) = do
  rank ← rank_of ranks first
  Err kind.Command
line_of ranks (first ∷ name ∷ arguments) = do
  rank ← rank_of ranks first
  command ← command_of ranks name arguments
  Ok (record { rank = rank; command = command })
