-- One moment more.
use Rattle.std.proofs.Common.{◌≡◌, ℕ, ◌+◌, ◌<◌, max, false, Option, List, [], ◌∷◌, ◌++◌, length, sym, ◌∙◌, ap}
use Rattle.std.proofs.Common.{subst}
use Rattle.std.specs.List.{slice_get}
use Rattle.std.specs.Option.{option_map_or}
use Rattle.nm_types.specs.declared.packets.Packet.{Packet}
use Rattle.nm_types.specs.declared.packets.Piece.{Piece}
use Rattle.nm_types.specs.Commands.{Numbered}
use Rattle.nm_types.specs.Sizes.{Sizes}
use Rattle.nm_history.specs.declared.events.Event.{Event}
use Rattle.nm_history.specs.declared.events.Happened.{Happened}
use Rattle.nm_history.specs.Sends.{Sent}
use Rattle.nm_history.specs.Clock.{AreStamped, stamped}
use Rattle.nm_history.specs.Continues.{continues}
use Rattle.nm_history.specs.Effects.{taken_events}
use Rattle.nm_history.specs.Known.{Known, Taken, known_by}
use Rattle.nm_history.specs.Pieces.{Due, count_continued, due_pieces, is_due, piece_makes}
use Rattle.nm_history.proofs.Growing.{stamped-count, stamped-follow, stamped-same}
use Rattle.nm_receiving.specs.Receipts.{drawn_from}
use Rattle.nm_request.specs.declared.Kind.{Kind}
use Rattle.nm_request.specs.declared.Req.{Req}
use Rattle.nm_channels.specs.Moments.{LogEntry, history_of, pulled_from, taken_from}
use Rattle.nm_channels.specs.Moments.Cause.{Acted}
use Rattle.nm_channels.specs.Sound.{MadeBy, MayHappen}
use Rattle.nm_channels.proofs.Logs.{sound-push}
use Rattle.nm_rank.specs.Calls.{Notes, Starts, TakesNone, TakesPacket, TakesPiece, made_of}
use Rattle.nm_rank.specs.Calls.{next_due, taken_of}
use Rattle.nm_rank.specs.Ranks.{RankView, known_from}
use Rattle.nm_global.specs.Calls.{IsNextReceive}
use Rattle.nm_global.specs.Logged.{AreGiven, IsLogged}
use Rattle.nm_global.specs.Moments.{acted, drew, took}
use Rattle.nm_global.proofs.Bytes.{acts_bytes, packet_bytes, piece_bytes_came}
use Rattle.nm_global.proofs.Requests.{added_request, same_requests}
use Rattle.nm_global.proofs.Shown.{clock_next, history_next}
use Rattle.nm_global.proofs.LogTaken.{acts_counts, acts_taken, packet_counts, packet_taken, piece_counts}
use Rattle.nm_global.proofs.LogTaken.{piece_taken}

one_more : (clock clock' : ℕ) (ws : List Happened) → clock' ≡ clock + length ws →
    clock' ≡ clock + length (stamped clock ws)
one_more clock clock' ws grown = grown ∙ ap (λ (k : ℕ). clock + k) (sym (stamped-count clock ws))

acts : (eager : ℕ) (bodies : Sent → List ℕ) (commands : List Numbered) (v v' : RankView)
    (log : List LogEntry) (given : List ℕ) (ws : List Happened) →
    IsLogged eager bodies commands v log given → v'.events ≡ v.events ++ stamped v.clock ws →
    v'.clock ≡ v.clock + length ws → TakesNone v v' → AreGiven v' given →
    MadeBy eager bodies commands log Acted (stamped v.clock ws) →
    IsLogged eager bodies commands v' (log ++ acted v ws ∷ []) given
acts eager bodies commands v v' log given ws old grown later takes requests made =
    let may : MayHappen eager bodies commands log (acted v ws) =
    record {
      made = made;
      stamped = subst (λ (k : ℕ). AreStamped k (stamped v.clock ws)) old.clock (stamped-follow v.clock ws);
    } in
    record {
      sound = sound-push eager bodies commands log (acted v ws) old.sound may;
      limit = ap (λ (s : Sizes). s.eager) takes.sizes ∙ old.limit;
      events = history_next log (acted v ws) v.events v'.events old.events grown;
      clock = clock_next log (acted v ws) v.clock v'.clock old.clock (one_more v.clock v'.clock ws later);
      counts = acts_counts v v' takes old.counts;
      taken = acts_taken v v' log ws takes old.taken;
      bytes = acts_bytes v v' log given ws (stamped v.clock ws) grown takes old.bytes;
      requests = requests;
    }

pub rank_acts : (eager : ℕ) (bodies : Sent → List ℕ) (commands : List Numbered) (v v' : RankView)
    (log : List LogEntry) (given : List ℕ) (ws : List Happened) →
    IsLogged eager bodies commands v log given → Notes ws v v' → TakesNone v v' →
    v'.requests ≡ v.requests → MadeBy eager bodies commands log Acted (stamped v.clock ws) →
    IsLogged eager bodies commands v' (log ++ acted v ws ∷ []) given
rank_acts eager bodies commands v v' log given ws old notes takes same =
    acts eager bodies commands v v' log given ws old notes.events notes.clock takes
    (same_requests v v' given (stamped v.clock ws) notes.events same old.requests)

pub rank_starts : (eager : ℕ) (bodies : Sent → List ℕ) (commands : List Numbered) (v v' : RankView)
    (log : List LogEntry) (given : List ℕ) (ws : List Happened) (k : Kind) (r : Req) →
    IsLogged eager bodies commands v log given → Starts bodies ws k v v' r →
    IsNextReceive v.events v'.events k → MadeBy eager bodies commands log Acted (stamped v.clock ws) →
    IsLogged eager bodies commands v' (log ++ acted v ws ∷ []) given
rank_starts eager bodies commands v v' log given ws k r old starts next =
    acts eager bodies commands v v' log given ws old starts.happened.events starts.happened.clock
    starts.takes
    (added_request v v' given (stamped v.clock ws) r k starts.happened.events starts.request next
    old.requests)

packet_may : (eager : ℕ) (bodies : Sent → List ℕ) (commands : List Numbered) (v : RankView)
    (log : List LogEntry) (given : List ℕ) (p : Packet) → IsLogged eager bodies commands v log given →
    MayHappen eager bodies commands log (took v p)
packet_may eager bodies commands v log given p old =
    let t : Taken = taken_of v p in
    let known : Known = known_by (taken_from p.from log) in
    record {
      made = (
        ap (λ (k : ℕ). continues k (known_from v.known p.from) v.events p) old.limit
            ∙ ap (λ (k : Known). continues eager k v.events p) (old.taken.known p.from)
            ∙ ap (λ (h : List Event). continues eager known h p) old.events,
        stamped-same (max v.clock p.stamp) (made_of v p)
            ∙ ap (λ (k : Known). taken_events k v.events t) (old.taken.known p.from)
            ∙ ap (λ (h : List Event). taken_events known h t) old.events,
      );
      stamped = subst (λ (k : ℕ). AreStamped (max k p.stamp) (took v p).events) old.clock
          (stamped-follow (max v.clock p.stamp) (made_of v p));
    }

pub packet_is_taken : (eager : ℕ) (bodies : Sent → List ℕ) (commands : List Numbered)
    (v v' : RankView) (log : List LogEntry) (given : List ℕ) (p : Packet) →
    IsLogged eager bodies commands v log given → p.from < v.sizes.ranks → TakesPacket p v v' →
    IsLogged eager bodies commands v' (log ++ took v p ∷ []) given
packet_is_taken eager bodies commands v v' log given p old within takes =
    let happens = takes.happened bodies in
    let clock : ℕ = max v.clock p.stamp in
    record {
      sound = sound-push eager bodies commands log (took v p) old.sound
          (packet_may eager bodies commands v log given p old);
      limit = ap (λ (s : Sizes). s.eager) takes.sizes ∙ old.limit;
      events = history_next log (took v p) v.events v'.events old.events happens.events;
      clock = clock_next log (took v p) v.clock v'.clock old.clock
          (one_more clock v'.clock (made_of v p) happens.clock);
      counts = packet_counts p v v' takes old.counts;
      taken = packet_taken p v v' log within old.counts takes old.taken;
      bytes = packet_bytes p v v' log given (took v p).events happens.events old.taken takes old.bytes;
      requests = same_requests v v' given (took v p).events happens.events takes.requests old.requests;
    }

piece_may : (eager : ℕ) (bodies : Sent → List ℕ) (commands : List Numbered) (v : RankView)
    (log : List LogEntry) (given : List ℕ) (q : Piece) → IsLogged eager bodies commands v log given →
    drawn_from v.receiving q.from < length (due_pieces v.events q.from) →
    MayHappen eager bodies commands log (drew v q)
piece_may eager bodies commands v log given q old due =
    let place : ℕ = count_continued (pulled_from q.from log) in
    let next : next_due v q.from ≡ slice_get (due_pieces (history_of log) q.from) place =
    ap (λ (h : List Event). slice_get (due_pieces h q.from) (drawn_from v.receiving q.from)) old.events
    ∙ ap (λ (k : ℕ). slice_get (due_pieces (history_of log) q.from) k) (old.taken.drawn q.from) in
    record {
      made = (
        subst (λ (h : List Event). place < length (due_pieces h q.from)) old.events
            (subst (λ (k : ℕ). k < length (due_pieces v.events q.from)) (old.taken.drawn q.from) due),
        ap (λ (o : Option Due). option_map_or (is_due q) o false) next,
        stamped-same v.clock (piece_makes q.from (next_due v q.from) q)
            ∙ ap (λ (o : Option Due). piece_makes q.from o q) next,
      );
      stamped = subst (λ (k : ℕ). AreStamped k (drew v q).events) old.clock
          (stamped-follow v.clock (piece_makes q.from (next_due v q.from) q));
    }

pub piece_is_taken : (eager : ℕ) (bodies : Sent → List ℕ) (commands : List Numbered)
    (v v' : RankView) (log : List LogEntry) (given : List ℕ) (q : Piece) →
    IsLogged eager bodies commands v log given → q.from < v.sizes.ranks →
    drawn_from v.receiving q.from < length (due_pieces v.events q.from) → TakesPiece q v v' →
    IsLogged eager bodies commands v' (log ++ drew v q ∷ []) given
piece_is_taken eager bodies commands v v' log given q old within due takes =
    let ws : List Happened = piece_makes q.from (next_due v q.from) q in
    record {
      sound = sound-push eager bodies commands log (drew v q) old.sound
          (piece_may eager bodies commands v log given q old due);
      limit = ap (λ (s : Sizes). s.eager) takes.sizes ∙ old.limit;
      events = history_next log (drew v q) v.events v'.events old.events takes.happened.events;
      clock = clock_next log (drew v q) v.clock v'.clock old.clock
          (one_more v.clock v'.clock ws takes.happened.clock);
      counts = piece_counts q v v' takes old.counts;
      taken = piece_taken q v v' log within old.counts takes old.taken;
      bytes = piece_bytes_came q v v' log given (drew v q).events takes.happened.events takes old.bytes;
      requests = same_requests v v' given (drew v q).events takes.happened.events takes.requests old.requests;
    }
