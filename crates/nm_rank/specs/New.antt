-- A rank at which nothing happened.
use Rattle.std.specs.Prelude.{◌≡◌, ℕ, None, [], length, replicate}
use Rattle.nm_types.specs.declared.messages.Arrival.{Arrival}
use Rattle.nm_types.specs.Sizes.{Sizes}
use Rattle.nm_history.specs.Known.{nothing_known}
use Rattle.nm_request.specs.declared.Req.{Req}
use Rattle.nm_request.specs.Requests.{kind_of}
use Rattle.nm_rndv.specs.Offers.{no_offers}
use Rattle.nm_receiving.specs.Receipts.{came_of, drawn_from}
use Rattle.nm_rank.specs.Ranks.{RankView}

-- Nothing happened at this rank, the one of this number in a run of these sizes: nothing is to be sent
-- and nothing came.
pub record IsNew (shape : Sizes) (i : ℕ) (v : RankView) : Type 0 where
  pub me : v.me ≡ i
  pub sizes : v.sizes ≡ shape
  pub events : v.events ≡ []
  pub clock : v.clock ≡ 0
  pub own : v.sending.outbox.me ≡ i
  pub letters : v.sending.outbox.letters ≡ []
  pub popped : v.sending.outbox.popped ≡ replicate shape.ranks 0
  pub offers : v.sending.offers ≡ no_offers shape.ranks
  pub pushed : v.sending.pushed ≡ replicate shape.ranks 0
  pub came : (from : ℕ) → drawn_from v.receiving from ≡ 0
  pub drawn : length v.receiving.drawn ≡ shape.ranks
  pub bytes : (a : Arrival) → came_of v.receiving a ≡ []
  pub requests : (q : Req) → kind_of v.requests q ≡ None
  pub took : v.took ≡ replicate shape.ranks 0
  pub pulled : v.pulled ≡ replicate shape.ranks 0
  pub strays : v.strays ≡ 0
  pub known : v.known ≡ replicate shape.ranks nothing_known
