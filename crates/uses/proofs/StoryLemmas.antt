-- What a matcher answers depends on its deeds and on what it is given alone.
use Rattle.std.proofs.Common.{◌≡◌, ℕ, false, List, Option, option_map, ap, ◌∙◌, ◌++◌, ◌∷◌, []}
use Rattle.nm_types.specs.declared.messages.Arrival.{Arrival}
use Rattle.nm_types.specs.declared.messages.Post as post
use Rattle.nm_history.specs.Matching.{first_message, first_receive, matched_pairs}
use Rattle.nm_match.specs.declared.deeds.Deed.{Deed}
use Rattle.nm_match.specs.Deeds.{history_of, is_known_message, is_known_receive}

-- the receive that takes a message
abbrev pub taker : List Deed → Arrival → Option ℕ
taker deeds a =
    option_map (λ p. p.number)
    (first_receive (history_of deeds) (matched_pairs (history_of deeds)) a.env)

-- the message that a receive takes
abbrev pub taken : List Deed → post.Post → Option Arrival
taken deeds p =
    first_message (history_of deeds) (matched_pairs (history_of deeds)) p.from p.tag p.ctx

pub new_message : (m deeds : List Deed) (a b : Arrival) → m ≡ deeds → a ≡ b →
    is_known_message (history_of deeds) b.env.from b.n ≡ false →
    is_known_message (history_of m) a.env.from a.n ≡ false
new_message m deeds a b same this new =
    ap (λ (d : List Deed). is_known_message (history_of d) a.env.from a.n) same
    ∙ ap (λ (x : Arrival). is_known_message (history_of deeds) x.env.from x.n) this ∙ new

pub new_receive : (m deeds : List Deed) (p q : post.Post) → m ≡ deeds → p ≡ q →
    is_known_receive (history_of deeds) q.number ≡ false →
    is_known_receive (history_of m) p.number ≡ false
new_receive m deeds p q same this new =
    ap (λ (d : List Deed). is_known_receive (history_of d) p.number) same
    ∙ ap (λ (x : post.Post). is_known_receive (history_of deeds) x.number) this ∙ new

pub same_taker : (m deeds : List Deed) (a b : Arrival) → m ≡ deeds → a ≡ b →
    taker m a ≡ taker deeds b
same_taker m deeds a b same this =
    ap (λ (d : List Deed). taker d a) same ∙ ap (λ (x : Arrival). taker deeds x) this

pub same_taken : (m deeds : List Deed) (p q : post.Post) → m ≡ deeds → p ≡ q →
    taken m p ≡ taken deeds q
same_taken m deeds p q same this =
    ap (λ (d : List Deed). taken d p) same ∙ ap (λ (x : post.Post). taken deeds x) this

-- the deeds after one more
pub grown : (m m' deeds : List Deed) (d e : Deed) → m' ≡ m ++ d ∷ [] → m ≡ deeds → d ≡ e →
    m' ≡ deeds ++ e ∷ []
grown m m' deeds d e more same this =
    more ∙ ap (λ (x : List Deed). x ++ d ∷ []) same ∙ ap (λ (x : Deed). deeds ++ x ∷ []) this
