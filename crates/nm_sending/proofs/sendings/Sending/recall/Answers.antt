-- The receiver of a message is asked to withdraw it.
use Rattle.std.proofs.Common.{◌<◌, length, refl, sym, ◌∙◌, ap}
use Rattle.std.proofs.Common.{subst, arith}
use Rattle.std.proofs.Common.{◌≡◌, true, ℕ, List, not, Option, None, Some}
use Rattle.std.specs.List.{slice_get}
use Rattle.nm_types.specs.declared.limits.TheConstants.{MAX_PACKETS}
use Rattle.nm_rndv.specs.Offers.{Offering, destined, with_destined, with_recall}
use Rattle.nm_sending.specs.Outboxes.{OutboxView, put_to}
use Rattle.nm_sending.specs.contracts.sendings.Sending.{the_view}
use Rattle.nm_sending.specs.Calls.{RecallsMessage}
use Rattle.nm_sending.specs.declared.departures.Departure.{Departure}
use Rattle.nm_sending.specs.Departures.{SendingView, ends_to, passes, row_of, with_departure}
use Rattle.nm_sending.specs.Sent.{MayBeRecalled, only_to}
use Rattle.nm_types.specs.declared.packets.What.TheVariants as what
use Rattle.nm_sending.specs.Tables.{TablesAgree}
use Rattle.nm_sending.proofs.PutLemmas.{puts-reserved}
use Rattle.nm_sending.proofs.RecallLemmas.{unrecalled, no_recall}
use Rattle.nm_sending.proofs.RecallLemmas.{recall-tables, recall-kept}
use Rattle.nm_sending.proofs.sendings.Sending.recall.Goals as goal

pub withdraw-requires-clause-in_range : goal.withdraw-requires-clause-in_range
withdraw-requires-clause-in_range c =
    let to = subst (λ (v : SendingView). c.args.to < length v.outbox.popped)
    (sym c.self.view_is) c.requires.to in
    omega (arith, to, c.self.invariant.letters, c.self.invariant.offers)

pub withdraw-requires-clause-is_new : goal.withdraw-requires-clause-is_new
withdraw-requires-clause-is_new c =
    let a = c.self.inside in
    let to = subst (λ (v : SendingView). c.args.to < length v.outbox.popped)
    (sym c.self.view_is) c.requires.to in
    let may = subst (λ (v : SendingView). MayBeRecalled v c.args.to c.args.n)
    (sym c.self.view_is) c.requires.may in
    no_recall a.me a.ranks (the_view a) c.self.invariant c.args.to c.args.n
    (omega (arith, to, c.self.invariant.letters)) (unrecalled (the_view a) c.args.to c.args.n may)

pub put_bare-requires-clause-few : goal.put_bare-requires-clause-few
put_bare-requires-clause-few c =
    let few = subst (λ (v : SendingView). put_to v.outbox c.args.to < MAX_PACKETS) (sym c.self.view_is)
    c.requires.few in
    subst (λ (o : OutboxView). put_to o c.args.to < MAX_PACKETS) (sym c.reserve.ensures.same) few

pub recall-requires-clause-to : goal.recall-requires-clause-to
recall-requires-clause-to c =
    let to = subst (λ (v : SendingView). c.args.to < length v.outbox.popped)
    (sym c.self.view_is) c.requires.to in
    omega (
      arith,
      to,
      c.self.invariant.letters,
      c.self.invariant.rows,
      ap (λ (r : List (List Departure)). length r) c.reserve_recall.ensures.rows,
    )

-- the table with the recall, over one with room for it
recalled_rows : (now reserved rows : List (List Departure)) (to n : ℕ) (d : Departure)
    → slice_get (row_of rows to) n ≡ Some d → reserved ≡ rows
    → ((x : Departure) → slice_get (row_of reserved to) n ≡ Some x
    → now ≡ with_departure reserved to n (record x { recalled = true }))
    → now ≡ with_departure rows to n (record d { recalled = true })
recalled_rows now reserved rows to n d there same is =
    is d (ap (λ (r : List (List Departure)). slice_get (row_of r to) n) same ∙ there)
    ∙ ap (λ (r : List (List Departure)). with_departure r to n (record d { recalled = true })) same

pub recall-requires-clause-is_new : goal.recall-requires-clause-is_new
recall-requires-clause-is_new c =
    let may = subst (λ (v : SendingView). MayBeRecalled v c.args.to c.args.n)
    (sym c.self.view_is) c.requires.may in
    let un = unrecalled (the_view c.self.inside) c.args.to c.args.n may in
    ap (λ (r : List (List Departure)). passes (λ d. not d.recalled) (slice_get (row_of r c.args.to) c.args.n))
    c.reserve_recall.ensures.rows
    ∙ ap (λ (o : Option Departure). passes (λ d. not d.recalled) o) un.there ∙ ap not un.new

pub invariant_of-self-2 : goal.invariant_of-self-2
invariant_of-self-2 c =
    let a = c.self.inside in
    let to = subst (λ (v : SendingView). c.args.to < length v.outbox.popped)
    (sym c.self.view_is) c.requires.to in
    let may = subst (λ (v : SendingView). MayBeRecalled v c.args.to c.args.n)
    (sym c.self.view_is) c.requires.may in
    let un = unrecalled (the_view a) c.args.to c.args.n may in
    let rows = recalled_rows c.recall.new.self.rows c.reserve_recall.new.self.rows a.departures.rows c.args.to
    c.args.n un.departure un.there c.reserve_recall.ensures.rows c.recall.ensures in
    let puts = c.put_bare.ensures.puts 0 (omega arith) in
    let same = c.reserve.ensures.same in
    subst (λ (o : Offering). TablesAgree a.me a.ranks
    (record (the_view a) {
      outbox = c.put_bare.new.outbox;
      offers = o;
      departures = c.recall.new.self.rows;
    }))
    (sym c.in_ok-withdraw.ensures.ok)
    (recall-tables a.me a.ranks (the_view a) c.self.invariant c.args.to c.args.n
    (omega (arith, to, c.self.invariant.letters)) un c.put_bare.new.outbox c.recall.new.self.rows rows
    (puts.me ∙ ap (λ (o : OutboxView). o.me) same)
    (ap (λ (xs : List ℕ). length xs) puts.popped ∙ ap (λ (o : OutboxView). length o.popped) same)
    (λ t. c.put_bare.ensures.ends t ∙ ap (λ (o : OutboxView). ends_to t o.letters) same))

pub returns-clause-recalled : goal.returns-clause-recalled
returns-clause-recalled c =
    let a = c.self.inside in
    let to = subst (λ (v : SendingView). c.args.to < length v.outbox.popped)
    (sym c.self.view_is) c.requires.to in
    let may = subst (λ (v : SendingView). MayBeRecalled v c.args.to c.args.n)
    (sym c.self.view_is) c.requires.may in
    let un = unrecalled (the_view a) c.args.to c.args.n may in
    let rows = recalled_rows c.recall.new.self.rows c.reserve_recall.new.self.rows a.departures.rows c.args.to
    c.args.n un.departure un.there c.reserve_recall.ensures.rows c.recall.ensures in
    let within : c.args.to < a.ranks = omega (arith, to, c.self.invariant.letters) in
    let after : Offering → SendingView = λ o. record (the_view a) {
      outbox = c.put_bare.new.outbox;
      offers = o;
      departures = c.recall.new.self.rows;
    } in
    subst (λ (o : Offering). RecallsMessage c.args.to c.args.n c.args.stamp c.args.self.now (after o))
    (sym c.in_ok-withdraw.ensures.ok)
    (subst (λ (v : SendingView). RecallsMessage c.args.to c.args.n c.args.stamp v
    (after (with_destined a.offers c.args.to (with_recall (destined a.offers c.args.to) c.args.n))))
    c.self.view_is
    (record {
      puts = λ called before. puts-reserved (only_to c.args.to called (what.Withdraw c.args.n)) None
          c.args.stamp _ a.outbox c.reserve.new.self c.put_bare.new.outbox c.reserve.ensures.same
          (c.put_bare.ensures.puts called before);
      kept = recall-kept a.me a.ranks (the_view a) c.self.invariant c.args.to c.args.n within un
          c.put_bare.new.outbox c.recall.new.self.rows rows;
      counted = refl;
      recalled = refl;
      same = refl;
    }))
