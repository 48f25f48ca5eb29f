-- The pieces that left a rank, and the messages that leave with its letters.
use Rattle.std.proofs.Common.{◌≡◌, ℕ, ◌<◌, ◌==◌, ◌⊎◌, inl, inr, Bool, true, false, cond, Option}
use Rattle.std.proofs.Common.{Some, None, List, [], ◌∷◌, ◌++◌, length, map, refl, sym, ◌∙◌, ap, subst}
use Rattle.std.proofs.Common.{append-nil, filter, IfSome, IsSomeAnd}
use Rattle.std.specs.List.{AllByRecursion, cons_option}
use Rattle.std.specs.Option.{option_map_or}
use Rattle.std.proofs.lemmas.List.Elements.{filter_map-append}
use Rattle.nm_types.specs.declared.packets.Packet.{Packet}
use Rattle.nm_types.specs.declared.packets.Piece.{Piece}
use Rattle.nm_history.specs.declared.events.Event.{Event}
use Rattle.nm_history.specs.declared.events.Happened.{Happened}
use Rattle.nm_history.specs.declared.events.Happened.TheVariants.{Out}
use Rattle.nm_history.specs.AtEach.{in_turn_after}
use Rattle.nm_history.specs.Outgoing.{AreCalled, AreCalledPieces, Called, CalledPiece, pieces_by, ring}
use Rattle.nm_history.specs.Outgoing.{send_pieces}
use Rattle.nm_history.specs.Sends.{Sent, is_ask, sends}
use Rattle.nm_history.specs.Clock.{stamped}
use Rattle.nm_rndv.specs.Offers.{Offering}
use Rattle.nm_sending.specs.Letters.{Letter}
use Rattle.nm_sending.specs.Letters.{packets_for}
use Rattle.nm_sending.specs.Outboxes.{OutboxView, put_to}
use Rattle.nm_sending.specs.Departures.{ends_to, pushed_to}
use Rattle.nm_sending.specs.Letters.{last_ends}
use Rattle.nm_sending.specs.Sent.{Puts}
use Rattle.nm_rank.specs.Ranks.{RankView}
use Rattle.nm_global.specs.Emitted.{ArePiecesLeft, IsEager, begun, sent_in}
use Rattle.nm_global.proofs.Turns.{in_turn-append, turn-none}
use Rattle.nm_global.proofs.Offers.{begun_same, eager_lasts}
use Rattle.nm_global.proofs.Destinations.{Going, Grows, lasts}
use Rattle.nm_types.proofs.ListLemmas.{all_append, all_along}

-- the pieces that an event calls for
abbrev pub pieces_at : (Sent → List ℕ) → ℕ → List Event → Event → List CalledPiece
pieces_at bodies to before e = pieces_by bodies to before e.what

-- by the event a message to this rank leaves
abbrev pub is_leave : ℕ → Happened → Bool
is_leave to (Out to' n) = to' == to
is_leave to _ = false

no_leave : (bodies : Sent → List ℕ) (to : ℕ) (before : List Event) (w : Happened) →
    is_leave to w ≡ false → pieces_by bodies to before w ≡ []
no_leave bodies to before (Out to' n) is =
    ap (λ (b : Bool). cond b (option_map_or (send_pieces bodies) (sent_in (sends before to) n) []) []) is
no_leave bodies to before w is = refl

pub no_pieces : (bodies : Sent → List ℕ) (to : ℕ) (h : List Event) (clock : ℕ) (ws : List Happened) →
    AllByRecursion (λ w. is_leave to w ≡ false) ws →
    in_turn_after (pieces_at bodies to) h (stamped clock ws) ≡ []
no_pieces bodies to h clock ws stay =
    turn-none (pieces_at bodies to) (λ w. is_leave to w ≡ false)
    (λ (b : List Event) (e : Event). no_leave bodies to b e.what) h clock ws stay

-- an eager message has no pieces
pub eager_pieces : (bodies : Sent → List ℕ) (ss : List Sent) (n : ℕ) → IsEager ss n →
    option_map_or (send_pieces bodies) (sent_in ss n) [] ≡ []
eager_pieces bodies ss n is = by (sent_in ss n) is where
  by : (o : Option Sent) → IsSomeAnd o (λ s. is_ask s.how ≡ false) →
      option_map_or (send_pieces bodies) o [] ≡ []
  by None is = absurd is
  by (Some s) is = rw is refl

pub ring_grows : (bodies : Sent → List ℕ) (h h' more : List Event) (to : ℕ) → h' ≡ h ++ more →
    ring bodies h' to ≡ ring bodies h to ++ in_turn_after (pieces_at bodies to) h more
ring_grows bodies h h' more to grown =
    ap (λ (k : List Event). ring bodies k to) grown ∙ in_turn-append (pieces_at bodies to) h more

pub called_as : {me me' : ℕ} {list list' : List CalledPiece} (pieces : List Piece) → me' ≡ me →
    list' ≡ list → AreCalledPieces me 0 list pieces → AreCalledPieces me' 0 list' pieces
called_as pieces own same are = rw (own, same) are

-- as many pieces to a rank were pushed
pub record SamePushed (v v' : RankView) (to : ℕ) : Type 0 where
  pub count : pushed_to v'.sending to ≡ pushed_to v.sending to
  pub places : length v'.sending.pushed ≡ length v.sending.pushed

pub same_pushed : (v v' : RankView) (to : ℕ) → v'.sending.pushed ≡ v.sending.pushed → SamePushed v v' to
same_pushed v v' to same =
    record {
      count = ap (λ (ks : List ℕ). pushed_to (record v.sending { pushed = ks }) to) same;
      places = ap (λ (ks : List ℕ). length ks) same;
    }

-- where no piece leaves, and none is called for, the pieces are the same
pub pieces_go : {bodies : Sent → List ℕ} {v v' : RankView} {to : ℕ} {ps : List Piece}
    (g : Grows bodies v v' to ps) → in_turn_after (pieces_at bodies to) v.events g.more ≡ [] →
    SamePushed v v' to → (o' : Offering) → v'.sending.offers ≡ o' → Going bodies v v' to o' →
    AllByRecursion (IsEager (sends v'.events to)) (ends_to to v'.sending.outbox.letters) →
    ArePiecesLeft bodies v' to ps
pieces_go {bodies} {v} {v'} {to} {ps} g none pushed o' same going eager =
    let now = subst (Going bodies v v' to) (sym same) going in
    record {
      called = called_as ps g.own
          (ap (λ (cs : List CalledPiece). ring bodies v'.events to ++ cs)
          (begun_same bodies _ _ _ _ _ _ g.are.offered now.goes)
          ∙ ap (λ (cs : List CalledPiece). cs ++ begun bodies v to)
          (ring_grows bodies v.events v'.events g.more to g.events
          ∙ ap (λ (cs : List CalledPiece). ring bodies v.events to ++ cs) none
          ∙ append-nil (ring bodies v.events to))) g.are.called;
      pushed = g.are.pushed ∙ sym pushed.count;
      place = subst (λ (k : ℕ). to < k) (sym pushed.places) g.are.place;
      known = subst (λ (k : ℕ). to < k) (sym now.many) g.are.known;
      offered = now.goes.offered;
      eager = eager;
    }

cons_each : (P : ℕ → Type 0) (o : Option ℕ) (ns : List ℕ) → IfSome o P → AllByRecursion P ns →
    AllByRecursion P (cons_option o ns)
cons_each P None ns now later = later
cons_each P (Some n) ns now later = (now, later)

pub each_later : (P : ℕ → Type 0) (o : Option ℕ) (ns : List ℕ) → AllByRecursion P (cons_option o ns) →
    IfSome o P × AllByRecursion P ns
each_later P None ns each = (tt, each)
each_later P (Some n) ns each = each

ends_one : (P : ℕ → Type 0) (b : Bool) (o : Option ℕ) → IfSome o P → IfSome (cond b o None) P
ends_one P true o right = right
ends_one P false o right = tt

-- the messages that leave with letters that were put, by the message that leaves with the last
ends_are : (P : ℕ → Type 0) (to : ℕ) (ends : Option ℕ) (added : List Letter) → IfSome ends P →
    map (λ l. l.ends) added ≡ last_ends (length added) ends → AllByRecursion P (ends_to to added)
ends_are P to ends [] right left = tt
ends_are P to ends (l ∷ []) right left =
    let same : l.ends ≡ ends = cc in
    cons_each P (cond (l.to == to) l.ends None) [] (ends_one P (l.to == to) l.ends
    (subst (λ (o : Option ℕ). IfSome o P) (sym same) right)) tt
ends_are P to ends (l ∷ m ∷ added) right left =
    let none : l.ends ≡ None = cc in
    let rest : map (λ (l : Letter). l.ends) (m ∷ added) ≡ last_ends (length (m ∷ added)) ends = cc in
    cons_each P (cond (l.to == to) l.ends None) (ends_to to (m ∷ added)) (ends_one P (l.to == to) l.ends
    (subst (λ (o : Option ℕ). IfSome o P) (sym none) tt)) (ends_are P to ends (m ∷ added) right rest)

none_called : (from number : ℕ) (packets : List Packet) → AreCalled from number [] packets → packets ≡ []
none_called from number [] are = refl
none_called from number (p ∷ packets) are = absurd are

no_ends : (to : ℕ) (added : List Letter) → packets_for to added ≡ [] → ends_to to added ≡ []
no_ends to [] none = refl
no_ends to (l ∷ added) none = by (l.to == to) none (no_ends to added) where
  by : (b : Bool) →
      map (λ (l : Letter). l.packet)
      (cond b (l ∷ filter (λ l. l.to == to) added) (filter (λ l. l.to == to) added)) ≡ [] →
      (packets_for to added ≡ [] → ends_to to added ≡ []) →
      cons_option (cond b l.ends None) (ends_to to added) ≡ []
  by true none later = cc
  by false none later = later none

-- the messages that leave with the letters to a rank, after some were put: there are no more where no
-- packet is called for, or those are right
pub ends_put : {called : ℕ → List Called} {ends : Option ℕ} {stamp : ℕ} {o o' : OutboxView}
    (P : ℕ → Type 0) (to : ℕ) (puts : Puts called ends stamp o o') → (called to ≡ []) ⊎ IfSome ends P →
    AllByRecursion P (ends_to to o.letters) → AllByRecursion P (ends_to to o'.letters)
ends_put {called} {ends} {stamp} {o} {o'} P to puts new old =
    subst (λ (ns : List ℕ). AllByRecursion P ns)
    (sym (ap (ends_to to) puts.letters
    ∙ filter_map-append (λ (l : Letter). cond (l.to == to) l.ends None) o.letters puts.added))
    (all_append P (ends_to to o.letters) (ends_to to puts.added) old (by new))
  where
    by : (called to ≡ []) ⊎ IfSome ends P → AllByRecursion P (ends_to to puts.added)
    by (inl none) =
        subst (λ (ns : List ℕ). AllByRecursion P ns)
        (sym (no_ends to puts.added (none_called o.me (put_to o to) (packets_for to puts.added)
        (subst (λ (cs : List Called). AreCalled o.me (put_to o to) cs (packets_for to puts.added)) none
        (puts.carried to))))) tt
    by (inr right) = ends_are P to ends puts.added right puts.left

pub eager_still : {bodies : Sent → List ℕ} {v v' : RankView} {to : ℕ} {ps : List Piece}
    (g : Grows bodies v v' to ps) (ns : List ℕ) → AllByRecursion (IsEager (sends v.events to)) ns →
    AllByRecursion (IsEager (sends v'.events to)) ns
eager_still {bodies} {v} {v'} {to} g ns each =
    all_along (IsEager (sends v.events to)) (IsEager (sends v'.events to)) ns
    (eager_lasts (sends v.events to) (sends v'.events to) (lasts g)) each
