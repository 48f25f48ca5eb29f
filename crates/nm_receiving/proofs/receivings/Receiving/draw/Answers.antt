use Rattle.std.proofs.Common.{◌≡◌, ◌+◌, ◌<◌, ℕ, true, false, Option, List, length, get_or, refl, sym, ◌∙◌}
use Rattle.std.proofs.Common.{ap, subst, add-zero, arith}
use Rattle.std.specs.Option.{option_map_or}
use Rattle.std.proofs.Math.ListN.{set}
use Rattle.std.proofs.lemmas.Bool.{true≢false}
use Rattle.std.proofs.lemmas.List.{get_or_read, set-get_or}
use Rattle.nm_types.specs.declared.messages.Arrival.{Arrival}
use Rattle.nm_types.specs.declared.packets.Piece.{Piece}
use Rattle.nm_history.specs.declared.events.Event.{Event}
use Rattle.nm_history.specs.Bytes.{pulled_bytes}
use Rattle.nm_history.specs.Effects.{whole_if}
use Rattle.nm_history.specs.Pieces.{Due, due_pieces, is_due, piece_makes}
use Rattle.std.specs.List.{slice_get}
use Rattle.nm_receiving.specs.declared.receivings.Drawn.{Drawn}
use Rattle.nm_receiving.specs.Calls.{DrawsPiece}
use Rattle.nm_receiving.specs.Kept.{ReceivingInvariant}
use Rattle.nm_receiving.specs.Receipts.{AddsBytes, ReceivingView, drawn_from, of_asked}
use Rattle.nm_receiving.specs.Received.{AreReceived, Preserves}
use Rattle.nm_receiving.specs.Seen.{seen}
use Rattle.nm_receiving.proofs.CameLemmas.{stray-came}
use Rattle.nm_receiving.proofs.Drawing.{bytes-draw, continued_at, drawn_is, drawn_view, due_at, ends_is}
use Rattle.nm_receiving.proofs.Drawing.{keeps-draw, keeps-stray, kept-draw, piece_came}
use Rattle.nm_receiving.proofs.Drawing.{stray_makes}
use Rattle.nm_receiving.proofs.receivings.Receiving.draw.Goals as goal

pub make_whole_if-requires : goal.make_whole_if-requires
make_whole_if-requires c =
    let p : Piece = c.args.p.now in
    let fits = c.fits.ensures.0 c.if-not-fits.false in
    let gs = c.self.inside.grants in
    let sender = subst (λ (w : ReceivingView). p.from < w.sizes.ranks) (sym c.self.view_is) c.requires.sender in
    piece_came (seen c.self.inside) c.self.invariant gs p refl fits sender c.in_ok-joined.joined c.is_whole-whole.result
    c.in_ok-joined.ensures.joined
    (c.is_whole-whole.ensures gs p fits c.in_ok-joined.ensures.joined)

-- the fields afterwards
sender_of : (c : goal.After-self-1) → c.args.p.now.from < c.self.inside.joiner.sizes.ranks
sender_of c = subst (λ (w : ReceivingView). c.args.p.now.from < w.sizes.ranks) (sym c.self.view_is) c.requires.sender

abbrev after_view : goal.After-self-1 → ReceivingView
after_view c =
    record (seen c.self.inside) {
      grants = c.piece.new.self.grants;
      receipts = c.make_whole_if.new.self.rows;
      drawn = set c.self.inside.drawn.items c.args.p.now.from (c.index_mut.result.now + 1);
    }

view_is : (c : goal.After-self-1) →
    drawn_view (seen c.self.inside) c.self.invariant c.self.inside.grants c.args.p.now refl
    (c.fits.ensures.0 c.if-not-fits.false) (sender_of c)
    c.in_ok-joined.joined c.is_whole-whole.result c.in_ok-joined.ensures.joined
    (c.is_whole-whole.ensures c.self.inside.grants c.args.p.now (c.fits.ensures.0 c.if-not-fits.false)
    c.in_ok-joined.ensures.joined)
    ≡ after_view c
view_is c =
    let p : Piece = c.args.p.now in
    let fits = c.fits.ensures.0 c.if-not-fits.false in
    let gs = c.self.inside.grants in
    let sender = sender_of c in
    let rows = c.self.invariant.tables.drawn in
    let inside : p.from < length c.self.inside.drawn.items = omega (arith, sender, rows) in
    drawn_is (seen c.self.inside) c.self.invariant gs p refl fits sender c.in_ok-joined.joined c.is_whole-whole.result
    c.in_ok-joined.ensures.joined
    (c.is_whole-whole.ensures gs p fits c.in_ok-joined.ensures.joined)
    c.is_whole-whole.result c.piece.new.self.grants c.make_whole_if.new.self.rows
    (set c.self.inside.drawn.items p.from (c.index_mut.result.now + 1))
    (ends_is (seen c.self.inside) c.self.invariant gs p refl fits sender c.in_ok-joined.joined
    c.is_whole-whole.result
    c.in_ok-joined.ensures.joined (c.is_whole-whole.ensures gs p fits c.in_ok-joined.ensures.joined))
    c.in_ok-joined.ensures.ok c.make_whole_if.ensures
    (ap (λ (k : ℕ). set c.self.inside.drawn.items p.from (k + 1))
    (get_or_read c.self.inside.drawn.items p.from c.index_mut.result.now inside c.index_mut.ensures.value 0))

pub invariant_of-self-2 : goal.invariant_of-self-2
invariant_of-self-2 c =
    subst (λ (w : ReceivingView). ReceivingInvariant w) (view_is c)
    (kept-draw (seen c.self.inside) c.self.invariant c.self.inside.grants c.args.p.now refl
    (c.fits.ensures.0 c.if-not-fits.false) (sender_of c)
    c.in_ok-joined.joined c.is_whole-whole.result c.in_ok-joined.ensures.joined
    (c.is_whole-whole.ensures c.self.inside.grants c.args.p.now (c.fits.ensures.0 c.if-not-fits.false)
    c.in_ok-joined.ensures.joined))

pub returns-then-not-fits-clause-drew : goal.returns-then-not-fits-clause-drew
returns-then-not-fits-clause-drew c =
    let p : Piece = c.args.p.now in
    let v : ReceivingView = c.args.self.now in
    let stray : (h : List Event) → AreReceived v h → false
    ≡ option_map_or (is_due p) (slice_get (due_pieces h p.from) (drawn_from v p.from)) false =
    λ h received.
    sym c.if-not-fits.true ∙ continued_at (seen c.self.inside) c.self.inside.grants p c.fits.result refl
    c.fits.ensures h (subst (λ (w : ReceivingView). AreReceived w h) (sym c.self.view_is) received)
    ∙ ap (λ (w : ReceivingView). option_map_or (is_due p) (slice_get (due_pieces h p.from) (drawn_from w p.from))
    false) c.self.view_is in
    record {
      continued = stray;
      whole = λ h received. stray_makes p.from (slice_get (due_pieces h p.from) (drawn_from v p.from)) p
          (stray h received);
      kept = keeps-stray v;
      stray = λ _. refl;
      counted = sym (ap (λ (k : ℕ). set v.drawn p.from k) (add-zero (get_or v.drawn p.from 0))
          ∙ set-get_or v.drawn p.from 0);
      same = refl;
      bytes = stray-came v p;
    }

pub returns-clause-drew : goal.returns-clause-drew
returns-clause-drew c =
    let v : ReceivingView = seen c.self.inside in
    let p : Piece = c.args.p.now in
    let gs = c.self.inside.grants in
    let fits = c.fits.ensures.0 c.if-not-fits.false in
    let sender = sender_of c in
    let rows = c.self.invariant.tables.drawn in
    let inside : p.from < length c.self.inside.drawn.items = omega (arith, sender, rows) in
    let made = c.is_whole-whole.ensures gs p fits c.in_ok-joined.ensures.joined in
    let d : Drawn = record { continued = true; whole = c.is_whole-whole.result } in
    let more : Arrival → List ℕ =
    of_asked p.from (λ n. pulled_bytes n (record { piece = p; continued = true })) in
    subst (λ (u : ReceivingView). DrawsPiece p d u (after_view c)) c.self.view_is
    (record {
      continued = λ h here. sym c.if-not-fits.false ∙ continued_at v gs p c.fits.result refl c.fits.ensures h here;
      whole = λ h here. made ∙ ap (λ (o : Option Due). piece_makes p.from o p) (due_at v h here p.from);
      kept = subst (λ (w : ReceivingView). Preserves v w (whole_if d.whole p.from p.n)) (view_is c)
          (keeps-draw v c.self.invariant gs p refl fits sender c.in_ok-joined.joined c.is_whole-whole.result
          c.in_ok-joined.ensures.joined made);
      stray = λ lie. absurd (true≢false lie);
      counted = ap (λ (k : ℕ). set c.self.inside.drawn.items p.from (k + 1))
          (get_or_read c.self.inside.drawn.items p.from c.index_mut.result.now inside c.index_mut.ensures.value 0);
      same = refl;
      bytes = subst (λ (w : ReceivingView). AddsBytes more v w) (view_is c)
          (bytes-draw v c.self.invariant gs p refl fits sender c.in_ok-joined.joined c.is_whole-whole.result
          c.in_ok-joined.ensures.joined made);
    })
