use Rattle.std.proofs.Common.{◌≡◌, arith, length, refl}
use Rattle.nm_eager.proofs.PlaceLemmas.{begins-full, bytes-put, first_place-none}
use Rattle.nm_eager.proofs.senders.put.Goals as goal

pub returns-clause-put : goal.returns-clause-put
returns-clause-put c =
    let xs = c.args.whole.now.items in
    let m = c.args.message in
    let full : length m.bytes ≡ m.len = omega (arith, c.lacking.ensures.sum, c.if-lacking-gt0.false) in
    bytes-put c.args.first xs c.push_back_reserved.new.self.items m c.requires.behind full (rw (
      c.push_back_reserved.ensures.items,
      c.leave_empty.ensures.items,
      c.into_bytes.ensures,
      c.place_of.ensures,
      c.n.ensures,
      c.len.ensures,
      c.args.whole.now.ok.0,
    ) refl)

pub returns-clause-begins : goal.returns-clause-begins
returns-clause-begins c =
    let xs = c.args.whole.now.items in
    let m = c.args.message in
    rw (c.push_back_reserved.ensures.items, c.leave_empty.ensures.items) (begins-full xs _ _ c.requires.begins
    (λ none. omega (arith, c.requires.next, first_place-none c.args.first m.n xs none, c.place_of.ensures, c.n.ensures)))
