-- Messages of one channel and receives that name it pair in turn. MPI 3.1, 3.5: messages of one
-- sender to one receiver don't overtake one another where each receive names source and tag.
use Rattle.std.specs.Prelude.{◌≡◌, ℕ, ◌==◌, Bool, true, false, ◌&&◌, List, [], ◌∷◌, filter}
use Rattle.std.specs.List.{AllByRecursion}
use Rattle.nm_types.specs.declared.messages.Arrival.{Arrival}
use Rattle.nm_types.specs.declared.messages.Envelope.{Envelope}
use Rattle.nm_types.specs.declared.messages.How.TheVariants.{Eager}
use Rattle.nm_types.specs.declared.messages.Peer.{Peer}
use Rattle.nm_types.specs.declared.messages.Peer.TheVariants as peer
use Rattle.nm_types.specs.declared.messages.Post as post
use Rattle.nm_types.specs.declared.messages.TagPick.{TagPick}
use Rattle.nm_types.specs.declared.messages.TagPick.TheVariants as pick
use Rattle.nm_history.specs.declared.events.Event.{Event}
use Rattle.nm_history.specs.declared.events.Happened.{Happened}
use Rattle.nm_history.specs.declared.events.Happened.TheVariants.{Post, Cancel, Withdraw, Claim, Match}
use Rattle.nm_history.specs.declared.plain.Pair.{Pair}
use Rattle.nm_history.specs.Matching.{matched_pairs, pair_of}
use Rattle.nm_history.specs.Selection.{matches}
use Rattle.nm_history.specs.Sends.{messages, posts}

-- a source and a tag that are named
abbrev pub are_named : Peer → TagPick → Bool
are_named (peer.One from) (pick.One tag) = true
are_named _ _ = false

-- no receive is cancelled, no message is withdrawn or claimed, and each receive names its source and
-- its tag
abbrev pub is_plain_event : Happened → Bool
is_plain_event (Post p line) = are_named p.from p.tag
is_plain_event (Cancel number done) = false
is_plain_event (Withdraw from n done) = false
is_plain_event (Claim from n line) = false
is_plain_event (Match number from n cap line) = false
is_plain_event _ = true

-- each event of a history is one
abbrev pub ArePlainEvents : List Event → Type 0
ArePlainEvents h = AllByRecursion (λ e. is_plain_event e.what ≡ true) h

-- an envelope with this source, tag and context
abbrev pub envelope_of : ℕ → ℕ → ℕ → Envelope
envelope_of from tag ctx = record { from = from; tag = tag; ctx = ctx; len = 0; how = Eager }

-- a message has this source, tag and context
abbrev pub is_in : ℕ → ℕ → ℕ → Envelope → Bool
is_in from tag ctx env = ctx == env.ctx && from == env.from && tag == env.tag

-- a receive selects such messages
abbrev pub is_for : ℕ → ℕ → ℕ → post.Post → Bool
is_for from tag ctx p = matches p.from p.tag p.ctx (envelope_of from tag ctx)

-- receives and messages one by one, as far as there are both
abbrev pub paired : List post.Post → List Arrival → List Pair
paired [] arrivals = []
paired (p ∷ ps) [] = []
paired (p ∷ ps) (a ∷ arrivals) = pair_of p a ∷ paired ps arrivals

-- the k-th receive for these messages takes the k-th of them
abbrev pub ArePairedInTurn : List Event → Type 0
ArePairedInTurn h =
    (from tag ctx : ℕ) →
    filter (λ pair. is_in from tag ctx pair.arrival.env) (matched_pairs h)
    ≡ paired (filter (is_for from tag ctx) (posts h))
    (filter (λ a. is_in from tag ctx a.env) (messages h))
