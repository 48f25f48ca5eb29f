-- A rank that has only itself to send to goes on by each call, by the law of a step.
use Rattle.std.proofs.Common.{[], refl, ◌∙◌, ◌≡◌, ℕ, ◌+◌, ◌⊎◌, max, inl, inr, List, ◌∷◌, ◌++◌, length, map, sym}
use Rattle.std.proofs.Common.{ap, subst, arith, false, length-append}
use Rattle.std.proofs.lemmas.Option.{slice_get_within}
use Rattle.nm_types.proofs.ListLemmas.{get_front}
use Rattle.nm_types.proofs.OptionLemmas.{some_and}
use Rattle.nm_types.specs.Bodies.{bytes_of}
use Rattle.nm_types.specs.declared.answers.Answer.{Answer}
use Rattle.nm_types.specs.declared.messages.Peer.TheVariants as peer
use Rattle.nm_types.specs.declared.messages.TagPick.TheVariants as pick
use Rattle.nm_types.specs.declared.packets.Packet.{Packet}
use Rattle.nm_types.specs.declared.scripts.Body.{Body}
use Rattle.nm_history.proofs.AppendLemmas.{sends-append}
use Rattle.nm_history.specs.Clock.{stamped}
use Rattle.nm_history.specs.Known.{Taken}
use Rattle.nm_history.specs.Matching.{first_message, matched_pairs}
use Rattle.nm_history.specs.Rules.{AreRight}
use Rattle.nm_history.specs.Sends.{Sent, sends}
use Rattle.nm_history.specs.declared.events.Event.{Event}
use Rattle.nm_history.specs.declared.events.Happened.TheVariants as event
use Rattle.nm_request.specs.Requests.{kind_of}
use Rattle.nm_request.specs.declared.Req.{Req}
use Rattle.nm_sending.specs.Sent.{outs}
use Rattle.nm_receiving.proofs.Lists.{slice_get-last}
use Rattle.nm_rank.specs.Calls.{made_of}
use Rattle.nm_rank.specs.Pops.{PopsPacket, out_with_packet}
use Rattle.nm_rank.specs.Ranks.{IsFresh, RankView}
use Rattle.nm_rank.specs.Requests.{Finishes, IsResult, cancel_events}
use Rattle.nm_rank.specs.Steps.Step.{cancel, finish, irecv, isend, pop_front, take_packet}
use Rattle.nm_rank.specs.Steps.{Cancels, StartsReceive, StartsSend, Step, post_events}
use Rattle.nm_rank.specs.declared.answers.Cancelled.{Cancelled}
use Rattle.nm_global.specs.Calls.{given_after}
use Rattle.nm_global.specs.Moments.{acted, took}
use Rattle.nm_global.specs.ProcessInvariant.{GhostHistory, with_moment, with_packet_left}
use Rattle.nm_global.specs.Steps.{IsPlaced, MayBeMade, Setting, after}
use Rattle.nm_multi.proofs.Alone.{still_first}
use Rattle.nm_multi.proofs.Standing.{made_none, outs_none, pulled_more, pulled_still, cancel_none}
use Rattle.nm_multi.proofs.Standing.{taken_more, taken_still, acted_on, receive_none, sent_still, left_more}
use Rattle.nm_multi.specs.Acts.{sent_by}
use Rattle.nm_multi.specs.Calls.{IsInRange}
use Rattle.nm_multi.specs.Moves.{IsAlone, MovesFirst}
use Rattle.nm_multi.specs.Standing.{AreBodies, DeskInvariant, alone_run}
use Rattle.nm_multi.specs.declared.calls.Call.TheVariants.{Isend}

-- what the law of a step says
abbrev pub KeepsPlace : Type 0
KeepsPlace =
    (run : Setting) (old new : RankView) (past : GhostHistory) (step : Step old new) →
    MayBeMade run past old new step → IsPlaced run old past → IsPlaced run new (after old new step past)

-- as many messages were sent as bodies
one_sent : (sent : List Body) (v v' : RankView) (tag : ℕ) (body : Body) (r : Req) →
    StartsSend (sent_by v tag body) body r v v' →
    length (sends v.events 0) ≡ length sent → length (sends v'.events 0) ≡ length (sent ++ body ∷ [])
one_sent sent v v' tag body r is many =
    let s : Sent = sent_by v tag body in
    let grown = (is.started (λ _. bytes_of body) refl).happened.events in
    ap (λ (h : List Event). length (sends h 0)) grown
    ∙ ap (λ (ss : List Sent). length ss)
    (sends-append v.events (stamped v.clock (event.Send 0 s.n tag 0 s.len s.how 0 ∷ [])) 0)
    ∙ length-append (sends v.events 0) (s ∷ []) ∙ ap (λ (k : ℕ). k + 1) many ∙ sym (length-append sent (body ∷ []))

-- one body more is sent by a send: the message has the next number, and its body
pub send_goes_on : KeepsPlace → (sent : List Body) (v v' : RankView) (tag : ℕ) (body : Body) (r : Req) →
    IsInRange (Isend tag body) → AreRight v.sizes.ranks [] v.events → IsFresh v →
    StartsSend (sent_by v tag body) body r v v' → DeskInvariant sent v → DeskInvariant (sent ++ body ∷ []) v'
send_goes_on keeps sent v v' tag body r range right fresh is st =
    let s : Sent = sent_by v tag body in
    let own : (bodies : Sent → List ℕ) → AreBodies bodies (sent ++ body ∷ []) → bodies s ≡ bytes_of body =
    (λ bodies are. are s body (slice_get-last sent body s.n st.many)) in
    let front : (bodies : Sent → List ℕ) → AreBodies bodies (sent ++ body ∷ []) → AreBodies bodies sent =
    (λ bodies are t b at. are t b
    (get_front sent (body ∷ []) t.n (slice_get_within sent t.n b at) ∙ at)) in
    acted_on sent (sent ++ body ∷ []) v v' st (event.Send 0 s.n tag 0 s.len s.how 0 ∷ []) fresh
    (one_sent sent v v' tag body r is st.many)
    (λ bodies are. keeps _ v v' st.past (isend 0 tag 0 0 body false r is)
    (right, range.0, range.1, own bodies are) (st.placed bodies (front bodies are)))

-- a receive sends nothing
pub receive_goes_on : KeepsPlace → (sent : List Body) (v v' : RankView) (tag cap : ℕ) (r : Req) → IsFresh v →
    StartsReceive (peer.One 0) (pick.One tag) 0 cap 0 r v v' → DeskInvariant sent v → DeskInvariant sent v'
receive_goes_on keeps sent v v' tag cap r fresh is st =
    let ws = post_events v.events (peer.One 0) (pick.One tag) 0 cap 0 in
    acted_on sent sent v v' st ws fresh
    (sent_still v v' v.clock ws
    (λ stamp. refl, receive_none (first_message v.events (matched_pairs v.events) (peer.One 0) (pick.One tag) 0))
    (is.started (λ _. [])).happened.events ∙ st.many)
    (λ bodies are. keeps _ v v' st.past (irecv (peer.One 0) (pick.One tag) 0 cap 0 r is) tt
    (st.placed bodies are))

-- a packet of its own is taken, and then it leaves, or the rank can go on no more
pub packet_goes_on : KeepsPlace → (sent : List Body) (v v' : RankView) → IsAlone v → MovesFirst v v' →
    DeskInvariant sent v → DeskInvariant sent v'
packet_goes_on keeps sent v v' alone m st = by m.leaves where
  p : Packet
  p = m.letter.packet

  taken : GhostHistory
  taken = with_moment st.past (took v m.letter.packet)

  placed : (bodies : Sent → List ℕ) → AreBodies bodies sent → IsPlaced (alone_run st.eager bodies) m.between
      (with_moment st.past (took v m.letter.packet))
  placed bodies are =
      let one = alone.one in let from = m.own.1 in
      keeps _ v m.between st.past (take_packet m.letter.packet m.taken)
      (m.right, omega (arith, one, from)) (st.placed bodies are)

  many : length (sends m.between.events 0) ≡ length sent
  many =
      sent_still v m.between (max v.clock m.letter.packet.stamp) (made_of v m.letter.packet)
      (made_none v m.letter.packet) (m.taken.happened (λ _. [])).events
      ∙ st.many

  leaves : PopsPacket m.between v' → DeskInvariant sent v'
  leaves pops =
      let still = still_first p m.letter v m.between m.first m.taken in
      let ws = outs (out_with_packet m.between) in
      record {
        eager = st.eager;
        past = with_moment (with_packet_left taken (m.letter.to, m.letter.packet)) (acted m.between ws);
        placed = λ bodies are. keeps _ m.between v' taken (pop_front m.letter still pops) tt
            (placed bodies are);
        many = sent_still m.between v' m.between.clock ws (outs_none (out_with_packet m.between)) pops.left.events
            ∙ many;
        even = λ _. ap (λ (ts : List Taken). map (λ t. t.packet) ts) (taken_still taken.log m.between ws)
            ∙ taken_more st.past.log v p m.own.1
            ∙ ap (λ (ps : List Packet). ps ++ p ∷ []) (st.even m.fresh)
            ∙ sym (left_more m.letter.to p (st.past.left 0) m.own.0);
        pieces = pulled_still taken.log m.between ws ∙ pulled_more st.past.log v p ∙ st.pieces;
      }

  by : (IsFresh m.between × PopsPacket m.between v') ⊎ (¬ (IsFresh m.between) × (v' ≡ m.between)) →
      DeskInvariant sent v'
  by (inl goes) = leaves goes.1
  by (inr stays) =
      subst (λ (u : RankView). DeskInvariant sent u) (sym stays.1) (record {
        eager = st.eager;
        past = taken;
        placed = placed;
        many = many;
        even = λ fresh. absurd (stays.0 fresh);
        pieces = pulled_more st.past.log v p ∙ st.pieces;
      })

-- a cancel sends nothing
pub cancel_goes_on : KeepsPlace → (sent : List Body) (v v' : RankView) (r : Req) (answer : Cancelled) → IsFresh v →
    Cancels r answer v v' → DeskInvariant sent v → DeskInvariant sent v'
cancel_goes_on keeps sent v v' r answer fresh is st =
    acted_on sent sent v v' st (cancel_events v.events is.kind) fresh
    (sent_still v v' v.clock (cancel_events v.events is.kind) (cancel_none v.events is.kind)
    (is.happened (λ _. [])).events ∙ st.many)
    (λ bodies are. keeps _ v v' st.past (cancel r answer is) tt (st.placed bodies are))

-- nothing happens by a result that is given
pub result_goes_on : KeepsPlace → (sent : List Body) (v v' : RankView) (r : Req) (answer : Answer) → IsFresh v →
    Finishes r answer v v' → DeskInvariant sent v → DeskInvariant sent v'
result_goes_on keeps sent v v' r answer fresh is st =
    let k = some_and (IsResult v answer) (kind_of v.requests r) is.gives in
    record {
      eager = st.eager;
      past = record st.past { given = given_after k.0 st.past.given };
      placed = λ bodies are. keeps _ v v' st.past (finish r k.0 answer k.1 is) tt
          (st.placed bodies are);
      many = ap (λ (v : RankView). length (sends v.events 0)) is.same ∙ st.many;
      even = λ _. st.even fresh;
      pieces = st.pieces;
    }
