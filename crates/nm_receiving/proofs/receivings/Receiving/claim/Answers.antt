use Rattle.std.specs.Prelude.{IfOk, MatchOption, Option}
use Rattle.std.proofs.Common.{◌≡◌, ℕ, List, [], ◌∷◌, sym, ◌∙◌, subst}
use Rattle.nm_types.specs.declared.messages.Arrival.{Arrival}
use Rattle.nm_history.specs.declared.events.Event.{Event}
use Rattle.nm_history.specs.declared.events.Happened.TheVariants.{Claim}
use Rattle.nm_history.specs.Matching.{first_message, matched_pairs}
use Rattle.nm_match.specs.Deeds.{history_of}
use Rattle.nm_match.proofs.StandsLemmas.{first_message-stands}
use Rattle.nm_receiving.specs.Receipts.{ReceivingView}
use Rattle.nm_receiving.specs.Received.{AreReceived, Preserves}
use Rattle.nm_receiving.specs.Seen.{seen}
use Rattle.nm_receiving.proofs.Goings.{claimed-keeps, kept-claimed}
use Rattle.nm_receiving.proofs.Results.{ok_along}
use Rattle.nm_receiving.proofs.Stood.{with_deeds}
use Rattle.nm_receiving.proofs.receivings.Receiving.claim.Goals as goal

pub invariant_of-self : goal.invariant_of-self
invariant_of-self c =
    kept-claimed (seen c.self.inside) c.claim.new.self c.args.from c.args.tag c.args.ctx c.self.invariant
    c.claim.result c.claim.ensures.ok c.claim.ensures.oldest c.claim.ensures.err

pub returns-clause-oldest : goal.returns-clause-oldest
returns-clause-oldest c =
    ok_along c.claim.result
    (λ (t : Option Arrival). t ≡ first_message (history_of c.self.inside.matcher)
    (matched_pairs (history_of c.self.inside.matcher)) c.args.from c.args.tag c.args.ctx)
    (λ (t : Option Arrival). (h : List Event) → AreReceived c.args.self.now h →
    t ≡ first_message h (matched_pairs h) c.args.from c.args.tag c.args.ctx)
    (λ t is h received.
    let here = subst (λ (v : ReceivingView). AreReceived v h) (sym c.self.view_is) received in
    is ∙ sym (first_message-stands c.self.inside.matcher h here.stands c.args.from c.args.tag c.args.ctx))
    c.claim.ensures.oldest

pub returns-clause-kept : goal.returns-clause-kept
returns-clause-kept c =
    subst (λ (v : ReceivingView). IfOk c.claim.result
    (λ t. MatchOption t (with_deeds (seen c.self.inside) c.claim.new.self ≡ v)
    (λ a. (line : ℕ) → Preserves v (with_deeds (seen c.self.inside) c.claim.new.self) (Claim a.env.from a.n line ∷ []))))
    c.self.view_is
    (claimed-keeps (seen c.self.inside) c.claim.new.self c.args.from c.args.tag c.args.ctx c.claim.result
    c.claim.ensures.ok c.claim.ensures.oldest)
