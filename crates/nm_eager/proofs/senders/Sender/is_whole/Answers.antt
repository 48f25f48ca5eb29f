use Rattle.std.proofs.Common.{◌≡◌, ◌+◌, ◌<◌, ◌≤◌, ◌∙◌, ◌⊎◌, ℕ, true, false, inl, inr, arith, length, refl, sym}
use Rattle.std.proofs.Common.{true≢false}
use Rattle.std.proofs.lemmas.Bool.{cases_lt}
use Rattle.std.proofs.lemmas.Option.{slice_get_read}
use Rattle.nm_eager.specs.Senders.{placed}
use Rattle.nm_eager.proofs.PlaceLemmas.{placed-at, placed-length}
use Rattle.nm_eager.proofs.SenderLemmas.{absent_answer, before_answer, whole_answer}
use Rattle.nm_eager.proofs.senders.Sender.is_whole.Goals as goal

pub returns-then-n-self : goal.returns-then-n-self
returns-then-n-self c =
    let s = c.self.inside in
    rw (← c.self.view_is) (before_answer s.first s.count (placed s.first s.whole.items) _ s.unfinished
    c.self.invariant.1 c.self.invariant.2 c.args.n (omega (arith, c.if-n-self.true)))

pub returns-in-Some : goal.returns-in-Some
returns-in-Some c =
    let s = c.self.inside in
    let items = s.whole.items in
    let i = c.place_of.result in
    let place : c.args.n ≡ s.first + i = omega (arith, c.if-n-self.false, c.place_of.ensures) in
    let within : i < length items = omega (arith, s.whole.ok.0, c.in-Some.ensures.variant.0 refl) in
    let here = slice_get_read items (length items) i c.in-Some.bytes.now refl within c.in-Some.ensures.lookup in
    let at = placed-at s.first items i c.in-Some.bytes.now here in
    rw (← c.self.view_is) (whole_answer s.first s.count (placed s.first items) _ s.unfinished c.self.invariant.1
    c.self.invariant.2 c.args.n i place at.0 c.is_some.result at.1 (c.is_some.ensures ∙ at.2))

-- what is not within is past the end
past_end : (i len : ℕ) → (i < len → false ≡ true) → len ≤ i
past_end i len never = by (cases_lt i len)
  where
    by : (i < len) ⊎ (len ≤ i) → len ≤ i
    by (inl lt) = absurd (true≢false (sym (never lt)))
    by (inr le) = le

pub returns-in-None : goal.returns-in-None
returns-in-None c =
    let s = c.self.inside in
    let items = s.whole.items in
    let i = c.place_of.result in
    let place : c.args.n ≡ s.first + i = omega (arith, c.if-n-self.false, c.place_of.ensures) in
    let end = past_end i s.whole.len c.in-None.ensures.variant.1 in
    let past : length (placed s.first items) ≤ i = omega (arith, s.whole.ok.0, end, placed-length s.first items) in
    rw (← c.self.view_is) (absent_answer s.first s.count (placed s.first items) _ s.unfinished c.self.invariant.1
    c.self.invariant.2 c.args.n i place past)
