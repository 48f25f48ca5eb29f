-- Packets that are taken.
use Rattle.std.proofs.Common.{◌≡◌, ℕ, ◌+◌, ◌-◌, ◌*◌, ◌/◌, ◌==◌, Bool, true, false, cond, not, Option}
use Rattle.std.proofs.Common.{◌≤◌, arith}
use Rattle.std.proofs.Common.{Some, None, List, [], ◌∷◌, ◌++◌, length, refl, sym, ◌∙◌, ap, subst, max}
use Rattle.std.proofs.Common.{IsSome, append-nil, map}
use Rattle.std.specs.Prelude.{nat_lt}
use Rattle.std.specs.List.{AllByRecursion, range_with_len}
use Rattle.std.specs.Option.{option_map_or}
use Rattle.nm_types.specs.declared.limits.TheConstants.{MAX_PIECE}
use Rattle.nm_types.specs.declared.packets.Packet.{Packet}
use Rattle.nm_types.specs.declared.packets.Piece.{Piece}
use Rattle.nm_types.specs.declared.packets.What.{What}
use Rattle.nm_types.specs.declared.packets.What.TheVariants as what
use Rattle.nm_history.specs.declared.events.Happened.TheVariants as event
use Rattle.nm_history.specs.AtEach.{in_turn_after}
use Rattle.nm_history.specs.Delivery.{is_asked}
use Rattle.nm_history.specs.Outgoing.{CalledPiece, message_pieces, part_at, send_pieces}
use Rattle.nm_history.specs.Sends.{Sent, is_ask, sends}
use Rattle.nm_history.specs.Clock.{stamped}
use Rattle.nm_history.specs.Continues.{WORN_STAMP, continues, continues_answer, has}
use Rattle.nm_history.specs.Effects.{is_empty_send, packet_events, packet_makes, whole_if}
use Rattle.nm_history.specs.Known.{Known}
use Rattle.nm_history.specs.Pieces.{Due, piece_makes}
use Rattle.nm_history.specs.Rules.{AreRight}
use Rattle.nm_history.proofs.Right.{right-numbers}
use Rattle.nm_history.proofs.Sent.{sends_numbered}
use Rattle.nm_sending.specs.Sent.{is_of_sending}
use Rattle.nm_rank.specs.Calls.{Happens, TakesPacket, TakesPiece, eager_sent, next_due, offers_by, taken_of}
use Rattle.nm_rank.specs.Ranks.{RankView, known_from}
use Rattle.nm_global.specs.Emitted.{IsEmitted, Emitted, sent_in}
use Rattle.nm_global.proofs.Packets.{OfBoth, is_silent}
use Rattle.nm_global.proofs.Offers.{some_lasts}
use Rattle.nm_global.proofs.Destinations.{answer_goes, clearance_goes, lasts}
use Rattle.nm_global.proofs.Pieces.{is_leave, no_pieces, pieces_at}
use Rattle.nm_global.proofs.Calls.{happening, happens_go, receives_go, same_go, whole_other}
use Rattle.nm_global.proofs.Numbered.{any_found, found_any}
use Rattle.nm_types.proofs.ListLemmas.{all_append}
use Rattle.nm_types.proofs.NumberLemmas.{same_number}
use Rattle.nm_types.proofs.TruthLemmas.{and_left, and_right}

-- an empty message has no pieces
empty_pieces : (bodies : Sent → List ℕ) (s : Sent) → s.len ≡ 0 → send_pieces bodies s ≡ []
empty_pieces bodies s empty = by (is_ask s.how) where
  piece : ℕ → CalledPiece
  piece k = record { n = s.n; at = MAX_PIECE * k; bytes = part_at MAX_PIECE (bodies s) k }

  none : message_pieces s (bodies s) ≡ []
  none =
      ap (λ (len : ℕ).
      map (λ k. record { n = s.n; at = MAX_PIECE * k; bytes = part_at MAX_PIECE (bodies s) k })
      (range_with_len 0 ((len + (MAX_PIECE - 1)) / MAX_PIECE))) empty

  by : (b : Bool) → cond b (message_pieces s (bodies s)) [] ≡ []
  by true = none
  by false = refl

module _ (both : OfBoth) (bodies : Sent → List ℕ) (v v' : RankView) (to : ℕ) (left : Emitted)
    (own : v'.me ≡ v.me) (is : IsEmitted bodies v to left) (start : ℕ) (later : v.clock ≤ start) where
  -- by the clearance of an empty message none of its pieces leaves
  cleared_quiet : (from n : ℕ) → AreRight v.sizes.ranks [] v.events → (e : Bool) →
      is_empty_send v.events from n ≡ e →
      in_turn_after (pieces_at bodies to) v.events
      (stamped start (cond e (event.Out from n ∷ []) [] ++ [])) ≡ []
  cleared_quiet from n right false full = refl
  cleared_quiet from n right true empty = by_to (from == to) refl where
    by_sent : (o : Option Sent) → sent_in (sends v.events to) n ≡ o → is_empty_send v.events to n ≡ true →
        option_map_or (send_pieces bodies) o [] ≡ []
    by_sent None found empty = refl
    by_sent (Some s) found empty =
        empty_pieces bodies s (same_number s.len 0
        (sym (found_any (λ s. s.len == 0) 0 n (sends v.events to) s
        (sends_numbered v.sizes.ranks to v.events (right-numbers v.sizes.ranks v.events right)) found)
        ∙ empty))

    by_to : (b : Bool) → (from == to) ≡ b →
        cond (from == to) (option_map_or (send_pieces bodies) (sent_in (sends v.events to) n) []) [] ++ []
        ≡ []
    by_to true same =
        rw same (append-nil (option_map_or (send_pieces bodies) (sent_in (sends v.events to) n) [])
        ∙ by_sent (sent_in (sends v.events to) n) refl
        (ap (λ (t : ℕ). is_empty_send v.events t n) (sym (same_number from to same)) ∙ empty))
    by_to false other = rw other refl

  -- a packet that continues its stream
  taken_go : (p : Packet) (known : Known) (w : What) → AreRight v.sizes.ranks [] v.events →
      continues v.sizes.eager known v.events (record p { what = w }) ≡ true →
      Happens bodies start (packet_events known v.events p.from w (length p.payload)) v v' →
      v'.sending.offers ≡ offers_by v.sending.offers p.from w → IsEmitted bodies v' to left
  taken_go p known (what.Head tag ctx len) right goes happens same =
      receives_go both is own later _
      (all_append (λ w. is_of_sending w ≡ false) (packet_makes known v.events p.from (what.Head tag ctx len)
      (length p.payload)) [] (refl, whole_other (len == length p.payload) p.from known.count) tt)
      happens same
  taken_go p known (what.More n) right goes happens same =
      receives_go both is own later _
      (all_append (λ w. is_of_sending w ≡ false) (packet_makes known v.events p.from (what.More n)
      (length p.payload)) [] (whole_other (known.missing == length p.payload) p.from n) tt)
      happens same
  taken_go p known (what.Ask tag ctx len) right goes happens same =
      receives_go both is own later _ (refl, whole_other _ p.from known.count) happens same
  taken_go p known (what.Withdraw n) right goes happens same =
      receives_go both is own later _ (refl, tt) happens same
  taken_go p known (what.Withdrawn n done) right goes happens same =
      happens_go both is own later happens refl
      (no_pieces bodies to v.events start (event.Undone p.from n done ∷ []) (refl, tt)) _ same
      (answer_goes (happening is own happens) p.from n done)
  taken_go p known (what.Clear n) right goes happens same =
      happens_go both is own later happens (none (is_empty_send v.events p.from n))
      (cleared_quiet p.from n right (is_empty_send v.events p.from n) refl) _ same
      (clearance_goes (happening is own happens) p.from n sent)
    where
      none : (b : Bool) → eager_sent (cond b (event.Out p.from n ∷ []) [] ++ []) ≡ None
      none true = refl
      none false = refl

      answers : continues_answer known v.events p.from (what.Clear n) (length p.payload) ≡ true
      answers = and_right (nat_lt p.stamp WORN_STAMP) _ goes

      asked : is_asked (sends v.events p.from) n ≡ true
      asked =
          and_left _ (not (has known.cleared n))
          (and_left _ (not (has known.undone n)) (and_left _ (length p.payload == 0) answers))

      sent : p.from ≡ to → IsSome (sent_in (sends v'.events to) n)
      sent here =
          some_lasts (sends v.events to) (sends v'.events to) (lasts (happening is own happens)) n
          (subst (λ (t : ℕ). IsSome (sent_in (sends v.events t) n)) here
          (any_found (λ s. is_ask s.how) n (sends v.events p.from) asked))

-- by a packet that is taken nothing leaves
pub packets_taken : OfBoth → (bodies : Sent → List ℕ) (v v' : RankView) (to : ℕ) (p : Packet)
    (left : Emitted) → AreRight v.sizes.ranks [] v.events → TakesPacket p v v' →
    IsEmitted bodies v to left → IsEmitted bodies v' to left
packets_taken both bodies v v' to p left right takes is = by (taken_of v p).continued refl where
  by : (b : Bool) → (taken_of v p).continued ≡ b → IsEmitted bodies v' to left
  by true goes =
      taken_go both bodies v v' to left takes.me is (max v.clock p.stamp) (omega arith) p
      (known_from v.known p.from) p.what right goes
      (subst (λ (b : Bool). Happens bodies (max v.clock p.stamp)
      (cond b (packet_events (known_from v.known p.from) v.events p.from p.what (length p.payload)) []) v v')
      goes (takes.happened bodies))
      (takes.offers ∙ ap (λ (b : Bool). cond b (offers_by v.sending.offers p.from p.what) v.sending.offers)
      goes)
  by false stray =
      receives_go both is takes.me (omega arith) [] tt
      (subst (λ (b : Bool). Happens bodies (max v.clock p.stamp)
      (cond b (packet_events (known_from v.known p.from) v.events p.from p.what (length p.payload)) []) v v')
      stray (takes.happened bodies))
      (takes.offers ∙ ap (λ (b : Bool). cond b (offers_by v.sending.offers p.from p.what) v.sending.offers)
      stray)

-- what a piece makes happen puts nothing, and no message leaves by it
silent : (from : ℕ) (due : Option Due) (q : Piece) →
    AllByRecursion (λ w. is_silent w ≡ true) (piece_makes from due q)
silent from None q = tt
silent from (Some due) q = by _ where
  by : (b : Bool) → AllByRecursion (λ w. is_silent w ≡ true) (whole_if b from q.n)
  by true = (refl, tt)
  by false = tt

quiet : (to from : ℕ) (due : Option Due) (q : Piece) →
    AllByRecursion (λ w. is_leave to w ≡ false) (piece_makes from due q)
quiet to from None q = tt
quiet to from (Some due) q = by _ where
  by : (b : Bool) → AllByRecursion (λ w. is_leave to w ≡ false) (whole_if b from q.n)
  by true = (refl, tt)
  by false = tt

-- by a piece that is taken nothing leaves
pub pieces_taken : (bodies : Sent → List ℕ) (v v' : RankView) (to : ℕ) (q : Piece) (left : Emitted) →
    TakesPiece q v v' → IsEmitted bodies v to left → IsEmitted bodies v' to left
pieces_taken bodies v v' to q left takes is =
    same_go is takes.me (let clock = takes.happened.clock in omega (arith, clock)) v.clock
    (piece_makes q.from (next_due v q.from) q) takes.happened.events
    (silent q.from (next_due v q.from) q) (quiet to q.from (next_due v q.from) q) takes.sending
