-- Nothing is called for, and nothing was asked.
use Rattle.std.proofs.Common.{◌≡◌, ℕ, ◌<◌, List, [], None, refl, sym, ◌∙◌, ap, arith, length, get_or}
use Rattle.std.proofs.lemmas.List.{get_or-replicate, length-replicate}
use Rattle.nm_history.specs.Outgoing.{outgoing, ring}
use Rattle.nm_history.specs.AtEach.{in_turn}
use Rattle.nm_history.specs.Sends.{Sent}
use Rattle.nm_rndv.specs.Offers.{Destined, Offering, no_offers, state_in, state_of, untold}
use Rattle.nm_global.proofs.outgoing.laws.starts.nothing_left.Goals as goal

none_called : (bodies : Sent → List ℕ) (to : ℕ) → outgoing bodies [] to ≡ []
unfolding in_turn
none_called bodies to = refl

none_pushed : (bodies : Sent → List ℕ) (to : ℕ) → ring bodies [] to ≡ []
unfolding in_turn
none_pushed bodies to = refl

none_asked : (ranks to n : ℕ) → to < ranks → state_of (no_offers ranks) to n ≡ None
none_asked ranks to n within =
    ap (λ (d : Destined). state_in d n) (get_or-replicate ranks to untold untold within)

pub returns : goal.returns
returns c bodies shape me to v within new =
    let ranks = shape.ranks in
    record {
      packets = record {
        called = rw (new.events, new.letters, none_called bodies to) tt;
        early = rw new.letters tt;
        popped = sym (ap (λ (ks : List ℕ). get_or ks to 0) new.popped ∙ get_or-replicate ranks to 0 0 within);
        place = let many = ap length new.popped ∙ length-replicate {A = ℕ} ranks 0 in omega (arith, within, many);
        own = new.own ∙ sym new.me;
      };
      pieces = record {
        called = rw (new.events, new.offers, none_pushed bodies to) tt;
        pushed = sym (ap (λ (ks : List ℕ). get_or ks to 0) new.pushed ∙ get_or-replicate ranks to 0 0 within);
        place = let many = ap length new.pushed ∙ length-replicate {A = ℕ} ranks 0 in omega (arith, within, many);
        known =
            let many : length v.sending.offers.destinations ≡ ranks =
            ap (λ (o : Offering). length o.destinations) new.offers
            ∙ length-replicate {A = Destined} ranks untold in
            omega (arith, within, many);
        offered = rw new.offers (record {
          states = λ n. rw (none_asked ranks to n within) tt;
          sent = tt;
        });
        eager = rw new.letters tt;
      };
    }
