-- The next message to a rank.
use Rattle.std.proofs.Common.{◌≡◌, ◌+◌, ◌<◌, ◌≤◌, ◌∷◌, ◌++◌, [], List, ℕ, true, Bool, cond, length}
use Rattle.std.proofs.Common.{refl, sym, ◌∙◌, ap}
use Rattle.std.proofs.Common.{subst, arith, set}
use Rattle.nm_types.specs.Bodies.{body_len}
use Rattle.nm_types.specs.declared.limits.TheConstants.{MAX_BODY, MAX_EAGER}
use Rattle.nm_types.specs.declared.messages.How.{How}
use Rattle.nm_history.specs.Sends.{Sent, is_ask}
use Rattle.nm_rndv.specs.Offers.{Offering}
use Rattle.nm_sending.specs.contracts.sendings.Sending.{the_view}
use Rattle.nm_sending.specs.declared.TheConstants.{MAX_MESSAGES}
use Rattle.nm_sending.specs.declared.departures.Departure.{Departure}
use Rattle.nm_sending.specs.Calls.{HasRoomFor, SendsMessage, event_of, sent_as}
use Rattle.nm_sending.specs.Departures.{SendingView, fresh, row_of}
use Rattle.nm_sending.specs.Sent.{Preserves}
use Rattle.nm_sending.specs.Tables.{TablesAgree}
use Rattle.nm_sending.proofs.SendLemmas.{send-tables, send-kept}
use Rattle.nm_sending.proofs.sendings.Sending.send.Goals as goal

-- the table with the new message
rows_pushed : (old reserved now : List (List Departure)) (to len : ℕ) (how : How) (body : ℕ)
    → reserved ≡ old → now ≡ set reserved to (row_of reserved to ++ fresh how len ∷ []) → len ≡ body
    → now ≡ set old to (row_of old to ++ fresh how body ∷ [])
rows_pushed old reserved now to len how body same pushed many =
    pushed ∙ ap (λ (rows : List (List Departure)). set rows to (row_of rows to ++ fresh how len ∷ [])) same
    ∙ ap (λ (k : ℕ). set old to (row_of old to ++ fresh how k ∷ [])) many

fits : (b : Bool) (len : ℕ) → len ≤ cond b MAX_BODY MAX_EAGER → b ≡ true → len ≤ MAX_BODY
fits b len short is = subst (λ (x : Bool). len ≤ cond x MAX_BODY MAX_EAGER) is short

pub push-requires-clause-few : goal.push-requires-clause-few
push-requires-clause-few c =
    let has = subst (λ (v : SendingView). HasRoomFor v c.args.to) (sym c.self.view_is) c.requires.room in
    subst (λ (rows : List (List Departure)). length (row_of rows c.args.to) < MAX_MESSAGES)
    (sym c.reserve.ensures.rows) has.few

pub invariant_of-self-2 : goal.invariant_of-self-2
invariant_of-self-2 c =
    let a = c.self.inside in
    let to = subst (λ (v : SendingView). c.args.to < length v.outbox.popped)
    (sym c.self.view_is) c.requires.to in
    let has = subst (λ (v : SendingView). HasRoomFor v c.args.to) (sym c.self.view_is) c.requires.room in
    let rows = rows_pushed a.departures.rows c.reserve.new.self.rows c.push.new.self.rows c.args.to
    c.len-len.result
    c.args.how (body_len c.args.body) c.reserve.ensures.rows c.push.ensures c.len-len.ensures in
    let put = c.in_ok-put_message.ensures.put 0 in
    subst (λ (o : Offering). TablesAgree a.me a.ranks
    (record {
      outbox = c.put_message.new.outbox;
      offers = o;
      departures = c.push.new.self.rows;
      pushed = a.pushed.items;
      staying = a.staying + 1;
    }))
    (sym put.asked)
    (send-tables a.me a.ranks (the_view a) c.self.invariant c.args.to c.count-n.result
    (omega (arith, to, c.self.invariant.letters)) c.count-n.ensures has.few c.args.how c.args.body
    (fits (is_ask c.args.how) (body_len c.args.body) c.requires.short) c.put_message.new.outbox
    c.push.new.self.rows (a.staying + 1) rows (put.puts []).me (ap (λ (xs : List ℕ). length xs) (put.puts []).popped)
    put.ends refl)

pub returns-clause-sent : goal.returns-clause-sent
returns-clause-sent c =
    let a = c.self.inside in
    let to = subst (λ (v : SendingView). c.args.to < length v.outbox.popped)
    (sym c.self.view_is) c.requires.to in
    let has = subst (λ (v : SendingView). HasRoomFor v c.args.to) (sym c.self.view_is) c.requires.room in
    let rows = rows_pushed a.departures.rows c.reserve.new.self.rows c.push.new.self.rows c.args.to
    c.len-len.result
    c.args.how (body_len c.args.body) c.reserve.ensures.rows c.push.ensures c.len-len.ensures in
    let after : Offering → SendingView = λ o. record {
      outbox = c.put_message.new.outbox;
      offers = o;
      departures = c.push.new.self.rows;
      pushed = a.pushed.items;
      staying = a.staying + 1;
    } in
    λ line.
    let s : Sent = sent_as c.args.to c.args.tag c.args.ctx c.args.body c.args.how c.args.stamp c.count-n.result
    line in
    let put = c.in_ok-put_message.ensures.put line in
    subst (λ (v : SendingView). SendsMessage s c.args.body v (after c.put_message.new.offers)) c.self.view_is
    (record {
      number = c.count-n.ensures;
      put = put;
      kept = subst (λ (o : Offering). Preserves (the_view a) (after o) (event_of s ∷ [])) (sym put.asked)
          (send-kept a.me a.ranks (the_view a) c.self.invariant c.args.to c.count-n.result
          (omega (arith, to, c.self.invariant.letters)) c.count-n.ensures has.few c.args.how c.args.body
          (fits (is_ask c.args.how) (body_len c.args.body) c.requires.short) c.put_message.new.outbox
          c.push.new.self.rows (a.staying + 1) rows c.args.tag c.args.ctx line);
      counted = refl;
      same = refl;
    })
