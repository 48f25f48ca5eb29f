-- The packets of a message, or the one that asks for it.
use Rattle.std.proofs.Common.{◌≡◌, ◌≤◌, ℕ, Bool, cond, length, refl, ◌∙◌, ap, subst, arith}
use Rattle.nm_types.specs.Bodies.{body_len}
use Rattle.nm_types.specs.declared.limits.TheConstants.{MAX_BODY, MAX_EAGER}
use Rattle.nm_history.specs.Sends.{is_ask}
use Rattle.nm_eager.specs.Cutting.{Cutting, packet_count}
use Rattle.nm_sending.specs.Outboxes.{OutboxView, put_to}
use Rattle.nm_sending.proofs.MessageLemmas.{ends_message, ends_request, puts_message, puts_request}
use Rattle.nm_sending.proofs.putting.put_message.Goals as goal
use Rattle.nm_types.proofs.BodyLemmas.{bytes_count}

-- at most sixteen packets
few_packets : (cutting : Cutting) (bytes : ℕ) → length cutting.body ≡ bytes → bytes ≤ 4096
    → packet_count cutting ≤ 16
few_packets cutting bytes long short = omega (arith, long, short)

pub put_message-requires-clause-few : goal.put_message-requires-clause-few
put_message-requires-clause-few c =
    let short : body_len c.args.body ≤ 4096 =
    subst (λ (b : Bool). body_len c.args.body ≤ cond b MAX_BODY MAX_EAGER) (ap is_ask c.in-Eager.is)
    c.requires.short in
    let many = few_packets c.new-cutter.result (body_len c.args.body)
    (ap (λ (x : Cutting). length x.body) c.new-cutter.ensures ∙ bytes_count c.args.body) short in
    let put : put_to c.reserve.new.self c.args.heading.to ≡ put_to c.args.outbox.now c.args.heading.to =
    ap (λ (o : OutboxView). put_to o c.args.heading.to) c.reserve.ensures.same in
    omega (arith, many, put, c.requires.few)

pub returns-in_ok-reserve-in-Eager-clause-put : goal.returns-in_ok-reserve-in-Eager-clause-put
returns-in_ok-reserve-in-Eager-clause-put c =
    let h = c.args.heading in let old = c.args.outbox.now in let reserved = c.reserve.new.self in
    let new = c.put_message.new.self in let eager = ap is_ask c.in-Eager.is in
    λ line. record {
      puts = λ history. puts_message c.new-cutter.result h.to h.n h.tag h.ctx c.args.stamp c.args.body h.how old
          reserved new _ c.reserve.ensures.same c.new-cutter.ensures eager c.put_message.ensures history line;
      ends = ends_message c.new-cutter.result h.to h.n h.tag h.ctx c.args.stamp c.args.body h.how old reserved new
          _ c.reserve.ensures.same c.new-cutter.ensures eager c.put_message.ensures;
      asked = rw c.in-Eager.is refl;
    }

pub returns-in_ok-ask-in-Ask-clause-put : goal.returns-in_ok-ask-in-Ask-clause-put
returns-in_ok-ask-in-Ask-clause-put c = λ line. record {
  puts = λ h. puts_request c.args.heading.to c.args.heading.n c.args.heading.tag c.args.heading.ctx c.args.stamp
      c.len-len.result _ c.args.body c.args.heading.how c.args.outbox.now c.reserve-in-Ask.new.self
      c.put_bare.new.outbox c.reserve-in-Ask.ensures.same c.len-len.ensures c.in-Ask.is
      (c.put_bare.ensures.puts c.args.stamp (omega arith)) h line;
  ends = λ t. ends_request t c.args.heading.to c.args.heading.n c.args.heading.how _ c.args.outbox.now
      c.reserve-in-Ask.new.self c.put_bare.new.outbox c.reserve-in-Ask.ensures.same c.in-Ask.is
      (c.put_bare.ensures.ends t);
  asked = rw c.in-Ask.is c.in_ok-ask-in-Ask.ensures.ok;
}
