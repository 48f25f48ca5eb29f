-- What a step of a rank does to its past, when it is one of a run, and where a rank stands in one.
use Rattle.std.specs.Prelude.{◌≡◌, ℕ, ◌<◌, ◌≤◌, List, [], ◌∷◌, length}
use Rattle.nm_types.specs.Bodies.{body_len, bytes_of}
use Rattle.nm_types.specs.Commands.{Numbered}
use Rattle.nm_types.specs.Sizes.{Sizes}
use Rattle.nm_types.specs.declared.limits.TheConstants.{MAX_BODY, MAX_TAG}
use Rattle.nm_history.specs.declared.events.Happened.TheVariants as event
use Rattle.nm_history.specs.Pieces.{due_pieces}
use Rattle.nm_history.specs.Rules.{AreRight}
use Rattle.nm_history.specs.Sends.{Sent, sent_body}
use Rattle.nm_sending.specs.Sent.{outs}
use Rattle.nm_receiving.specs.Receipts.{drawn_from}
use Rattle.nm_rank.specs.Pops.{out_with_packet, out_with_piece}
use Rattle.nm_rank.specs.Ranks.{RankView}
use Rattle.nm_rank.specs.Requests.{cancel_events}
use Rattle.nm_sending.specs.Calls.{event_of}
use Rattle.nm_rank.specs.Sends.{next_send}
use Rattle.nm_rank.specs.Steps.{Step, match_events, post_events}
use Rattle.nm_rank.specs.Steps.Step.{isend, irecv, imrecv, improbe, cancel, finish, ran}
use Rattle.nm_rank.specs.Steps.Step.{pop_front, pop_piece, take_packet, take_piece}
use Rattle.nm_global.specs.Calls.{AnswersLogged, given_after}
use Rattle.nm_global.specs.Emitted.{IsEmitted}
use Rattle.nm_global.specs.Logged.{IsLogged}
use Rattle.nm_global.specs.Moments.{acted, drew, took}
use Rattle.nm_global.specs.ProcessInvariant.{GhostHistory, with_moment, with_packet_left, with_piece_left}

-- the run that a rank is in: the eager limit, how many ranks there are, its commands, and the bytes of each
-- of its sends
pub record Setting : Type 0 where
  pub eager : ℕ
  pub ranks : ℕ
  pub commands : List Numbered
  pub bodies : Sent → List ℕ

-- the run of a rank whose commands are these
abbrev pub setting_of : Sizes → List Numbered → Setting
setting_of shape commands =
    record { eager = shape.eager; ranks = shape.ranks; commands = commands; bodies = sent_body commands }

-- A rank stands at its place in a run, where this was: it is that of the log, and what left it for each rank
-- is what its history calls for.
pub record IsPlaced (run : Setting) (v : RankView) (past : GhostHistory) : Type 0 where
  pub logged : IsLogged run.eager run.bodies run.commands v past.log past.given
  pub left : (to : ℕ) → to < run.ranks → IsEmitted run.bodies v to (past.left to)

-- what was after a step: a moment more, a result that was given, or what left
abbrev pub after : (old new : RankView) → Step old new → GhostHistory → GhostHistory
after old new (isend to tag ctx line body sync r is) past =
    with_moment past (acted old (event_of (next_send old to tag ctx body sync line) ∷ []))
after old new (irecv from tag ctx cap line r is) past =
    with_moment past (acted old (post_events old.events from tag ctx cap line))
after old new (imrecv from n cap line r is) past =
    with_moment past (acted old (match_events old.events from n cap line))
after old new (improbe a line is) past =
    with_moment past (acted old (event.Claim a.env.from a.n line ∷ []))
after old new (cancel r answer is) past =
    with_moment past (acted old (cancel_events old.events is.kind))
after old new (finish r k answer live is) past = record past { given = given_after k past.given }
after old new (ran line answer is) past =
    with_moment past (acted old (event.Ran line answer ∷ []))
after old new (pop_front letter first is) past =
    with_moment (with_packet_left past (letter.to, letter.packet)) (acted old (outs (out_with_packet old)))
after old new (pop_piece piece next from number is) past =
    with_moment (with_piece_left past piece) (acted old (outs (out_with_piece old)))
after old new (take_packet p is) past = with_moment past (took old p)
after old new (take_piece q is) past = with_moment past (drew old q)

-- A step may be made in a run: a send is in range and has the bytes that the run says, an answer that is
-- recorded shows the bytes that came, and what is taken came from a rank of the run; a piece, where one of
-- its rank is due.
abbrev pub MayBeMade : Setting → GhostHistory → (old new : RankView) → Step old new → Type 0
MayBeMade run past old new (isend to tag ctx line body sync r is) =
    AreRight old.sizes.ranks [] old.events × (tag ≤ MAX_TAG) × (body_len body ≤ MAX_BODY)
    × (run.bodies (next_send old to tag ctx body sync line) ≡ bytes_of body)
MayBeMade run past old new (ran line answer is) =
    AnswersLogged run.commands past.log old.events line answer
MayBeMade run past old new (take_packet p is) =
    AreRight old.sizes.ranks [] old.events × (p.from < old.sizes.ranks)
MayBeMade run past old new (take_piece q is) =
    (q.from < old.sizes.ranks)
    × (drawn_from old.receiving q.from < length (due_pieces old.events q.from))
MayBeMade run past old new s = Unit {0}
