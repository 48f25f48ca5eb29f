-- The bytes of the messages that came, one moment more.
use Rattle.std.proofs.Common.{◌≡◌, ℕ, ◌==◌, Bool, true, false, not, ◌&&◌, cond, Some, None, List, [], ◌∷◌}
use Rattle.std.proofs.Common.{◌++◌, refl, sym, ◌∙◌, ap, append-nil, arith}
use Rattle.std.specs.List.{cons_option}
use Rattle.std.proofs.lemmas.Bool.Decides.{nat_tests}
use Rattle.nm_types.specs.declared.messages.Arrival.{Arrival}
use Rattle.nm_types.specs.declared.packets.Packet.{Packet}
use Rattle.nm_types.specs.declared.packets.Piece.{Piece}
use Rattle.nm_history.specs.declared.events.Event.{Event}
use Rattle.nm_history.specs.declared.events.Happened.{Happened}
use Rattle.nm_history.specs.Sends.{is_ask}
use Rattle.nm_history.specs.Bytes.{eager_bytes, piece_bytes, pulled_bytes, taken_bytes}
use Rattle.nm_history.specs.Known.{Known, Taken, nothing_known}
use Rattle.nm_history.specs.Pieces.{Pulled}
use Rattle.nm_history.proofs.Growing.{eager_bytes-push, piece_bytes-push}
use Rattle.nm_receiving.specs.Receipts.{of_asked, of_eager}
use Rattle.nm_channels.specs.Moments.{LogEntry, pulled_from, taken_from}
use Rattle.nm_rank.specs.Calls.{TakesNone, TakesPacket, TakesPiece, taken_of}
use Rattle.nm_rank.specs.Ranks.{RankView, known_from}
use Rattle.nm_global.specs.Logged.{HasBytes, HasTaken, came_by}
use Rattle.nm_global.specs.Moments.{acted, drew, pulled, took}
use Rattle.nm_global.proofs.Receives.{ungiven_before}
use Rattle.nm_global.proofs.Shown.{came_still, pulled_still, taken-push, taken_still}
use Rattle.nm_types.proofs.NumberLemmas.{same_number}
use Rattle.nm_channels.proofs.Pulling.{pulled-push}

pub acts_bytes : (v v' : RankView) (log : List LogEntry) (given : List ℕ) (ws : List Happened)
    (more : List Event) → v'.events ≡ v.events ++ more → TakesNone v v' → HasBytes v log given →
    HasBytes v' (log ++ acted v ws ∷ []) given
acts_bytes v v' log given ws more grown takes old a ungiven =
    takes.bytes a ∙ old a (ungiven_before v.events v'.events more given a grown ungiven)
    ∙ sym (came_still log (acted v ws) a refl refl)

swap_test : (x y : ℕ) → (x == y) ≡ (y == x)
swap_test x y = grind (arith, nat_tests)

-- the bytes of a message in these packets, and in these pieces
abbrev in_packets : Arrival → List Taken → List ℕ
in_packets a ts = eager_bytes a.n nothing_known ts

abbrev in_pieces : Arrival → List Pulled → List ℕ
in_pieces a ds = piece_bytes a.n ds

-- what a packet carries of a message
abbrev carried : RankView → Packet → ℕ → List ℕ
carried v p n = taken_bytes n (known_from v.known p.from) (taken_of v p)

-- nothing comes of the other kind
none_of : (b : Bool) (old bytes : List ℕ) → old ≡ old ++ cond (b && false) bytes []
none_of true old bytes = sym (append-nil old)
none_of false old bytes = sym (append-nil old)

-- what a packet carries of a message, by the log
packet_came : (p : Packet) (v : RankView) (log : List LogEntry) (a : Arrival) → HasTaken v log →
    came_by (log ++ took v p ∷ []) a ≡ came_by log a ++ of_eager p.from (carried v p) a
packet_came p v log a taken = by_how (is_ask a.env.how) where
  before : List Taken
  before = taken_from a.env.from log

  new : Bool → List Taken
  new b = cons_option (cond b (Some (taken_of v p)) None) []

  by_from : (b : Bool) → (a.env.from == p.from) ≡ b →
      in_packets a (before ++ new b) ≡ in_packets a before ++ cond (b && true) (carried v p a.n) []
  by_from true same =
      eager_bytes-push a.n nothing_known before (taken_of v p)
      ∙ ap (λ (known : Known). in_packets a before ++ taken_bytes a.n known (taken_of v p))
      (sym (taken.known a.env.from)
      ∙ ap (λ (i : ℕ). known_from v.known i) (same_number a.env.from p.from same))
  by_from false other =
      ap (in_packets a) (append-nil before) ∙ sym (append-nil (in_packets a before))

  by_how : (how : Bool) →
      cond how (in_pieces a (pulled_from a.env.from (log ++ took v p ∷ [])))
      (in_packets a (taken_from a.env.from (log ++ took v p ∷ [])))
      ≡ cond how (in_pieces a (pulled_from a.env.from log)) (in_packets a before)
      ++ cond (a.env.from == p.from && not how) (carried v p a.n) []
  by_how true =
      ap (in_pieces a) (pulled_still a.env.from log (took v p) refl)
      ∙ none_of (a.env.from == p.from) (in_pieces a (pulled_from a.env.from log)) (carried v p a.n)
  by_how false =
      ap (in_packets a) (taken-push a.env.from log (took v p))
      ∙ ap (λ (b : Bool). in_packets a (before ++ new b)) (swap_test p.from a.env.from)
      ∙ by_from (a.env.from == p.from) refl

pub packet_bytes : (p : Packet) (v v' : RankView) (log : List LogEntry) (given : List ℕ)
    (more : List Event) → v'.events ≡ v.events ++ more → HasTaken v log → TakesPacket p v v' →
    HasBytes v log given → HasBytes v' (log ++ took v p ∷ []) given
packet_bytes p v v' log given more grown taken takes old a ungiven =
    takes.bytes a
    ∙ ap (λ (bytes : List ℕ). bytes ++ of_eager p.from (carried v p) a)
    (old a (ungiven_before v.events v'.events more given a grown ungiven))
    ∙ sym (packet_came p v log a taken)

-- what a piece carries of a message, by the log
piece_came : (q : Piece) (v : RankView) (log : List LogEntry) (a : Arrival) →
    came_by (log ++ drew v q ∷ []) a
    ≡ came_by log a ++ of_asked q.from (λ n. pulled_bytes n (pulled v q)) a
piece_came q v log a = by_how (is_ask a.env.how) where
  before : List Pulled
  before = pulled_from a.env.from log

  new : Bool → List Pulled
  new b = cons_option (cond b (Some (pulled v q)) None) []

  by_from : (b : Bool) →
      in_pieces a (before ++ new b)
      ≡ in_pieces a before ++ cond (b && true) (pulled_bytes a.n (pulled v q)) []
  by_from true = piece_bytes-push a.n before (pulled v q)
  by_from false = ap (in_pieces a) (append-nil before) ∙ sym (append-nil (in_pieces a before))

  by_how : (how : Bool) →
      cond how (in_pieces a (pulled_from a.env.from (log ++ drew v q ∷ [])))
      (in_packets a (taken_from a.env.from (log ++ drew v q ∷ [])))
      ≡ cond how (in_pieces a before) (in_packets a (taken_from a.env.from log))
      ++ cond (a.env.from == q.from && how) (pulled_bytes a.n (pulled v q)) []
  by_how true =
      ap (in_pieces a) (pulled-push a.env.from log (drew v q))
      ∙ ap (λ (b : Bool). in_pieces a (before ++ new b)) (swap_test q.from a.env.from)
      ∙ by_from (a.env.from == q.from)
  by_how false =
      ap (in_packets a) (taken_still a.env.from log (drew v q) refl)
      ∙ none_of (a.env.from == q.from) (in_packets a (taken_from a.env.from log))
      (pulled_bytes a.n (pulled v q))

pub piece_bytes_came : (q : Piece) (v v' : RankView) (log : List LogEntry) (given : List ℕ)
    (more : List Event) → v'.events ≡ v.events ++ more → TakesPiece q v v' →
    HasBytes v log given → HasBytes v' (log ++ drew v q ∷ []) given
piece_bytes_came q v v' log given more grown takes old a ungiven =
    takes.bytes a
    ∙ ap (λ (bytes : List ℕ). bytes ++ of_asked q.from (λ n. pulled_bytes n (pulled v q)) a)
    (old a (ungiven_before v.events v'.events more given a grown ungiven))
    ∙ sym (piece_came q v log a)
