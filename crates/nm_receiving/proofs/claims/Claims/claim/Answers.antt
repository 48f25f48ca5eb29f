use Rattle.std.specs.Prelude.{MatchOption, Option}
use Rattle.std.proofs.Common.{◌≡◌, ◌++◌, ◌∷◌, [], List, ap, sym, ◌∙◌, subst}
use Rattle.std.specs.Map.{lookup}
use Rattle.nm_types.specs.declared.messages.Arrival.{Arrival}
use Rattle.nm_match.specs.declared.deeds.Deed.{Deed}
use Rattle.nm_match.specs.declared.deeds.Deed.TheVariants as deed
use Rattle.nm_match.specs.declared.names.Message.{Message}
use Rattle.nm_match.specs.Names.{same_message}
use Rattle.nm_receiving.specs.Claims.{AreNoted}
use Rattle.nm_receiving.proofs.ClaimLemmas.{first_free, first_named, noted-claim}
use Rattle.nm_receiving.proofs.claims.Claims.claim.Goals as goal

pub invariant_of-self-in-Some : goal.invariant_of-self-in-Some
invariant_of-self-in-Some c =
    let m = c.self.inside in
    let a = c.in-Some.a in
    let made = subst (λ (o : Option Arrival). MatchOption o (c.claim.new.self ≡ m.matcher)
    (λ a. c.claim.new.self ≡ m.matcher ++ deed.Claim a.env.from a.n ∷ [])) c.in-Some.is c.in_ok-taken.ensures.ok in
    subst (λ (ds : List Deed). AreNoted c.note.new.claimed.entries ds) (sym made)
    (noted-claim m.claimed.entries c.note.new.claimed.entries m.matcher a
    (first_free m.matcher c.args.from c.args.tag c.args.ctx a (sym c.in-Some.is ∙ c.in_ok-taken.ensures.oldest))
    (first_named m.claimed.entries m.matcher c.args.from c.args.tag c.args.ctx a c.self.invariant
    (sym c.in-Some.is ∙ c.in_ok-taken.ensures.oldest))
    c.note.ensures.own
    (λ id other. c.note.ensures.others id other
    ∙ ap (λ (es : List (Message × Arrival)). lookup (same_message id) es) c.reserve.ensures.entries)
    c.self.invariant)
