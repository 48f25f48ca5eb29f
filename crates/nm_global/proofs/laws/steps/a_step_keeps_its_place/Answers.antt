-- By the kind of step.
use Rattle.std.proofs.Common.{List, [], ◌∷◌, refl, sym, ◌∙◌, ap, append-nil, arith}
use Rattle.nm_types.specs.Bodies.{body_len}
use Rattle.nm_history.specs.declared.events.Happened.{Happened}
use Rattle.nm_history.specs.declared.events.Happened.TheVariants as event
use Rattle.nm_history.specs.Matching.{first_message, matched_pairs}
use Rattle.nm_history.specs.RankRun.{how_of}
use Rattle.nm_history.specs.Clock.{stamped}
use Rattle.nm_history.specs.Sends.{message_of, receives as of_receives, sends as of_sends}
use Rattle.nm_request.specs.declared.Kind.TheVariants as kind
use Rattle.nm_sending.specs.Sent.{outs}
use Rattle.nm_rank.specs.Pops.{out_with_packet, out_with_piece}
use Rattle.std.specs.Prelude.{length}
use Rattle.nm_rank.specs.Ranks.{RankView}
use Rattle.nm_rank.specs.Requests.{cancel_events}
use Rattle.nm_sending.specs.Calls.{event_of}
use Rattle.nm_rank.specs.Sends.{next_send}
use Rattle.nm_rank.specs.Steps.{match_events, post_events}
use Rattle.nm_rank.specs.Steps.Step.{isend, irecv, imrecv, improbe, cancel, finish, ran}
use Rattle.nm_rank.specs.Steps.Step.{pop_front, pop_piece, take_packet, take_piece}
use Rattle.nm_global.proofs.Calls.{cancels_go, receives_go, same_go, taken_other}
use Rattle.nm_global.proofs.Leaving.{packet_leaves}
use Rattle.nm_global.proofs.LogCalls.{answer_made, cancel_made, packet_leaves_made, piece_leaves_made, receive_made}
use Rattle.nm_global.proofs.LogCalls.{send_made}
use Rattle.nm_global.proofs.Moments.{packet_is_taken, piece_is_taken, rank_acts, rank_starts}
use Rattle.nm_global.proofs.Pushing.{next_is, piece_leaves}
use Rattle.nm_global.proofs.Receives.{receives_grow}
use Rattle.nm_global.proofs.Results.{result_kept}
use Rattle.nm_global.proofs.Sending.{sends_go}
use Rattle.nm_global.proofs.Taken.{packets_taken, pieces_taken}
use Rattle.nm_global.proofs.laws.steps.a_step_keeps_its_place.Goals as goal

pub returns : goal.returns
returns c run v v' past (isend to tag ctx line body sync r did) may is =
    let starts = did.started run.bodies may.3 in
    record {
      logged = rank_starts run.eager run.bodies run.commands v v' past.log past.given
          (event_of (next_send v to tag ctx body sync line) ∷ []) (kind.Send to (length (of_sends v.events to))) r
          is.logged starts tt (
            send_made run.eager run.bodies v (next_send v to tag ctx body sync line) body sync is.logged.limit may.1
                may.2 refl refl may.3
                (c.bodies_have_their_length.ensures body),
            tt,
          );
      left = λ other within. sends_go c.packets_stay_in_order.ensures.both run.bodies v v' other to tag ctx line
          (how_of v.sizes.eager sync (body_len body)) body (past.left other) may.0
          (record { bytes = may.3; happens = starts.happened; own = starts.takes.me; offers = did.offers })
          (is.left other within);
    }
returns c run v v' past (irecv from tag ctx room line r did) may is =
    let starts = did.started run.bodies in
    let ws = post_events v.events from tag ctx room line in
    let taken = first_message v.events (matched_pairs v.events) from tag ctx in
    let grown = receives_grow v.events v'.events (stamped v.clock ws) starts.happened.events in
    record {
      logged = rank_starts run.eager run.bodies run.commands v v' past.log past.given ws
          (kind.Receive (length (of_receives v.events))) r is.logged starts
          (refl, omega (arith, grown))
          (receive_made run.eager run.bodies run.commands past.log v.clock
          (event.Post
          (record { number = length (of_receives v.events); from = from; tag = tag; ctx = ctx; cap = room }) line)
          taken tt);
      left = λ to within. receives_go c.packets_stay_in_order.ensures.both (is.left to within) starts.takes.me
          (omega arith) ws (refl, taken_other taken) starts.happened did.offers;
    }
returns c run v v' past (imrecv from n room line r did) may is =
    let starts = did.started run.bodies in
    let ws = match_events v.events from n room line in
    let taken = message_of v.events from n in
    let grown = receives_grow v.events v'.events (stamped v.clock ws) starts.happened.events in
    record {
      logged = rank_starts run.eager run.bodies run.commands v v' past.log past.given ws
          (kind.Receive (length (of_receives v.events))) r is.logged starts
          (refl, omega (arith, grown))
          (receive_made run.eager run.bodies run.commands past.log v.clock
          (event.Match (length (of_receives v.events)) from n room line) taken tt);
      left = λ to within. receives_go c.packets_stay_in_order.ensures.both (is.left to within) starts.takes.me
          (omega arith) ws (refl, taken_other taken) starts.happened did.offers;
    }
returns c run v v' past (improbe a line did) may is =
    let ws : List Happened = event.Claim a.env.from a.n line ∷ [] in
    record {
      logged = rank_acts run.eager run.bodies run.commands v v' past.log past.given ws is.logged did.claimed
          did.takes did.requests (tt, tt);
      left = λ to within. same_go (is.left to within) did.takes.me
          (let clock = did.claimed.clock in omega (arith, clock)) v.clock ws did.claimed.events (refl, tt)
          (refl, tt) did.sending;
    }
returns c run v v' past (cancel r answer did) may is =
    let happens = did.happened run.bodies in
    record {
      logged = rank_acts run.eager run.bodies run.commands v v' past.log past.given
          (cancel_events v.events did.kind) is.logged
          (record { events = happens.events; clock = happens.clock }) did.takes did.requests
          (cancel_made run.eager run.bodies run.commands past.log v.events v.clock did.kind);
      left = λ to within. cancels_go c.packets_stay_in_order.ensures.both (is.left to within) did.takes.me did.kind
          happens did.offers;
    }
returns c run v v' past (finish r k answer live did) may is =
    record {
      logged = result_kept run.eager run.bodies run.commands v v' past.log past.given r k answer is.logged live did;
      left = λ to within. same_go (is.left to within) (ap (λ (v : RankView). v.me) did.same)
          (let clock = ap (λ (v : RankView). v.clock) did.same in omega (arith, clock)) v.clock []
          (ap (λ (v : RankView). v.events) did.same ∙ sym (append-nil v.events)) tt tt
          (ap (λ (v : RankView). v.sending) did.same);
    }
returns c run v v' past (ran line answer did) may is =
    let ws : List Happened = event.Ran line answer ∷ [] in
    record {
      logged = rank_acts run.eager run.bodies run.commands v v' past.log past.given ws is.logged did.noted did.takes
          did.requests
          (answer_made run.eager run.bodies run.commands past.log v.events v.clock line answer is.logged.events may);
      left = λ to within. same_go (is.left to within) did.takes.me
          (let clock = did.noted.clock in omega (arith, clock)) v.clock ws did.noted.events (refl, tt) (refl, tt)
          did.sending;
    }
returns c run v v' past (pop_front letter first did) may is =
    let noted = rw first at did.left in
    let changed = rw first at did.popped in
    record {
      logged = rank_acts run.eager run.bodies run.commands v v' past.log past.given
          (outs (out_with_packet v)) is.logged did.left did.takes did.requests
          (packet_leaves_made run.eager run.bodies run.commands past.log v.events v.clock (out_with_packet v)
          is.logged.events
          did.eager);
      left = λ to within. packet_leaves c.packets_stay_in_order.ensures.one c.packets_stay_in_order.ensures.both
          run.bodies v v' to letter (past.left to) did.takes.me noted changed.0 changed.1 did.same.0 did.same.1
          (is.left to within);
    }
returns c run v v' past (pop_piece piece next from number did) may is =
    record {
      logged = rank_acts run.eager run.bodies run.commands v v' past.log past.given
          (outs (out_with_piece v)) is.logged did.left did.takes did.requests
          (piece_leaves_made run.eager run.bodies run.commands past.log v (out_with_piece v)
          is.logged.events is.logged.taken
          did.in_turn);
      left = λ to within.
          let found = next_is v piece next in
          let changed = rw found.2.first at did.popped in
          piece_leaves run.bodies v v' to piece (past.left to) (is.left to within) found.0 found.1 found.2 from number
          did.left changed.0 changed.1 did.takes.me did.outbox;
    }
returns c run v v' past (take_packet p did) may is =
    record {
      logged = packet_is_taken run.eager run.bodies run.commands v v' past.log past.given p is.logged may.1 did;
      left = λ to within. packets_taken c.packets_stay_in_order.ensures.both run.bodies v v' to p (past.left to)
          may.0 did (is.left to within);
    }
returns c run v v' past (take_piece q did) may is =
    record {
      logged = piece_is_taken run.eager run.bodies run.commands v v' past.log past.given q is.logged may.0 may.1 did;
      left = λ to within. pieces_taken run.bodies v v' to q (past.left to) did (is.left to within);
    }
