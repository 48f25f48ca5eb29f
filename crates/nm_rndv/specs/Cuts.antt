-- A body that is being sent in pieces.
use Rattle.std.specs.Prelude.{ℕ, ◌+◌, ◌*◌, ◌<◌, ◌≤◌, ◌==◌, nat_lt, if◌then◌else◌, List}
use Rattle.std.specs.Prelude.{Option, Some, None}
use Rattle.nm_types.specs.Bodies.{bytes_of, body_len}
use Rattle.nm_types.specs.declared.limits.TheConstants.{MAX_BODY, MAX_PIECE}
use Rattle.nm_types.specs.declared.scripts.Body.{Body}
use Rattle.nm_rndv.specs.Pieces.{piece_at}

-- a body, and how many of its pieces were sent
pub record Cut : Type 0 where
  pub body : Body
  pub popped : ℕ

-- pieces are left
pub record IsCut (body : Body) (popped : ℕ) : Type 0 where
  pub left : MAX_PIECE * popped < body_len body
  pub short : body_len body ≤ MAX_BODY

-- a body of which nothing was sent, or `None` where it is empty
abbrev pub start_of : Body → Option Cut
start_of body = if body_len body == 0 then None else Some (record { body = body; popped = 0 })

-- what is left after one piece more, or `None` where that was the last
abbrev pub rest_of : Cut → Option Cut
rest_of cut =
    if nat_lt (MAX_PIECE * (cut.popped + 1)) (body_len cut.body)
    then Some (record { body = cut.body; popped = cut.popped + 1 })
    else None

-- where in the body the next piece begins
abbrev pub offset_of : Cut → ℕ
offset_of cut = MAX_PIECE * cut.popped

-- the bytes of the next piece
abbrev pub next_bytes : Cut → List ℕ
next_bytes cut = piece_at (bytes_of cut.body) cut.popped
