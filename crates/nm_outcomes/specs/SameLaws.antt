-- The test whether two parts of a rank's state are the same tells whether they are equal.
use Rattle.std.proofs.Common.{◌≡◌, ℕ, ◌==◌, ◌&&◌, Bool, true, false, refl, ap}
use Rattle.std.specs.Cmp.{IsEquivalence}
use Rattle.std.specs.Hash.{Alike, u64}
use Rattle.std.proofs.lemmas.Bool.{false≢true}
use denote.Enum.Bare.{sameb}
use Rattle.nm_types.proofs.TruthLemmas.{and_left as first, and_right as second, both as and_so}
use Rattle.nm_types.specs.declared.messages.Arrival.{Arrival}
use Rattle.nm_types.specs.declared.messages.How.{How}
use Rattle.nm_types.specs.declared.messages.How.TheVariants as how
use Rattle.nm_types.specs.contracts.messages.ArrivalPartialEq.TheImpl.{ghosts as arrival_eq}
use Rattle.nm_types.specs.contracts.messages.How.{the_type as how_type}
use Rattle.nm_history.specs.declared.plain.Pair.{Pair}
use Rattle.nm_history.specs.contracts.plain.PairPartialEq.TheImpl.{ghosts as pair_eq}
use Rattle.nm_search.specs.Tells.{Tells, both, by_parts, equivalence, numbers, of_self, peers, picks}
use Rattle.nm_outcomes.specs.declared.spots.deeds.Deed.{Deed}
use Rattle.nm_outcomes.specs.declared.spots.deeds.Deed.TheVariants as deed
use Rattle.nm_match.specs.declared.names.Message.{Message}
use Rattle.nm_outcomes.specs.declared.spots.deeds.Part.{Part}
use Rattle.nm_outcomes.specs.declared.spots.deeds.Part.TheVariants as part
use Rattle.nm_outcomes.specs.declared.spots.deeds.Receive.{Receive}
use Rattle.nm_outcomes.specs.declared.spots.deeds.Reply.{Reply}
use Rattle.nm_outcomes.specs.declared.spots.deeds.Reply.TheVariants as reply
use Rattle.nm_outcomes.specs.contracts.spots.deeds.DeedPartialEq.TheImpl.{ghosts as deed_eq}
use Rattle.nm_match.specs.contracts.names.MessagePartialEq.TheImpl.{ghosts as message_eq}
use Rattle.nm_outcomes.specs.contracts.spots.deeds.PartPartialEq.TheImpl.{ghosts as part_eq}
use Rattle.nm_outcomes.specs.contracts.spots.deeds.ReceivePartialEq.TheImpl.{ghosts as receive_eq}
use Rattle.nm_outcomes.specs.contracts.spots.deeds.ReplyPartialEq.TheImpl.{ghosts as reply_eq}
use Rattle.nm_outcomes.specs.Numbers.{part_number}

same_how : (x y : How) → sameb how_type x y ≡ true → x ≡ y
same_how how.Eager how.Eager so = refl
same_how how.Eager how.Ask so = absurd (false≢true so)
same_how how.Ask how.Eager so = absurd (false≢true so)
same_how how.Ask how.Ask so = refl

own_how : (x : How) → sameb how_type x x ≡ true
own_how how.Eager = refl
own_how how.Ask = refl

hows : Tells (sameb how_type)
hows = of_self same_how own_how

pub messages : Tells message_eq.eq
messages =
    by_parts (λ (m : Message). (m.rank, m.n)) (λ p. record { rank = p.0; n = p.1 }) (λ m. refl) (both numbers numbers)

pub arrivals : Tells arrival_eq.eq
arrivals =
    by_parts (λ (a : Arrival). (a.n, (a.env.from, (a.env.tag, (a.env.ctx, (a.env.len, a.env.how))))))
    (λ p. record {
      n = p.0;
      env = record { from = p.1.0; tag = p.1.1.0; ctx = p.1.1.1.0; len = p.1.1.1.1.0; how = p.1.1.1.1.1 };
    })
    (λ a. refl) (both numbers (both numbers (both numbers (both numbers (both numbers hows)))))

pub pairs : Tells pair_eq.eq
pairs =
    by_parts (λ (p : Pair). (p.number, (p.cap, p.arrival)))
    (λ p. record { number = p.0; cap = p.1.0; arrival = p.1.1 }) (λ p. refl)
    (both numbers (both numbers arrivals))

pub receives : Tells receive_eq.eq
receives =
    by_parts (λ (r : Receive). (r.number, (r.from, (r.tag, (r.ctx, r.cap)))))
    (λ p. record { number = p.0; from = p.1.0; tag = p.1.1.0; ctx = p.1.1.1.0; cap = p.1.1.1.1 }) (λ r. refl)
    (both numbers (both peers (both picks (both numbers numbers))))

two_numbers : Tells (λ (x y : ℕ × ℕ). x.0 == y.0 && x.1 == y.1)
two_numbers = both numbers numbers

three_numbers : Tells (λ (x y : ℕ × (ℕ × ℕ)). x.0 == y.0 && (x.1.0 == y.1.0 && x.1.1 == y.1.1))
three_numbers = both numbers two_numbers

same_reply : (x y : Reply) → reply_eq.eq x y ≡ true → x ≡ y
same_reply reply.Started reply.Started so = refl
same_reply reply.Busy reply.Busy so = refl
same_reply reply.Null reply.Null so = refl
same_reply reply.No reply.No so = refl
same_reply reply.Nothing reply.Nothing so = refl
same_reply reply.Sent reply.Sent so = refl
same_reply (reply.Got a b c) (reply.Got d e f) so =
    ap (λ (p : ℕ × (ℕ × ℕ)). reply.Got p.0 p.1.0 p.1.1) ((three_numbers (a, (b, c)) (d, (e, f))).0 so)
same_reply (reply.Cut a b c) (reply.Cut d e f) so =
    ap (λ (p : ℕ × (ℕ × ℕ)). reply.Cut p.0 p.1.0 p.1.1) ((three_numbers (a, (b, c)) (d, (e, f))).0 so)
same_reply reply.Cancelled reply.Cancelled so = refl
same_reply (reply.Seen s) (reply.Seen t) so =
    ap (λ (p : ℕ × (ℕ × ℕ)). reply.Seen (record { from = p.0; tag = p.1.0; len = p.1.1 }))
    ((three_numbers (s.from, (s.tag, s.len)) (t.from, (t.tag, t.len))).0 so)
same_reply reply.Done reply.Done so = refl
same_reply reply.Late reply.Late so = refl
same_reply reply.Asked reply.Asked so = refl
same_reply x y so = absurd (false≢true so)

own_reply : (r : Reply) → reply_eq.eq r r ≡ true
own_reply reply.Started = refl
own_reply reply.Busy = refl
own_reply reply.Null = refl
own_reply reply.No = refl
own_reply reply.Nothing = refl
own_reply reply.Sent = refl
own_reply (reply.Got a b c) = (three_numbers (a, (b, c)) (a, (b, c))).1 refl
own_reply (reply.Cut a b c) = (three_numbers (a, (b, c)) (a, (b, c))).1 refl
own_reply reply.Cancelled = refl
own_reply (reply.Seen s) = (three_numbers (s.from, (s.tag, s.len)) (s.from, (s.tag, s.len))).1 refl
own_reply reply.Done = refl
own_reply reply.Late = refl
own_reply reply.Asked = refl

replies : Tells reply_eq.eq
replies = of_self same_reply own_reply

-- what a send, a matched receive and a start are made of
sends : Tells
    (λ (x y : ℕ × (ℕ × (ℕ × (ℕ × (ℕ × (How × ℕ)))))).
    x.0 == y.0
    && (x.1.0 == y.1.0
    && (x.1.1.0 == y.1.1.0
    && (x.1.1.1.0 == y.1.1.1.0
    && (x.1.1.1.1.0 == y.1.1.1.1.0
    && (sameb how_type x.1.1.1.1.1.0 y.1.1.1.1.1.0 && x.1.1.1.1.1.1 == y.1.1.1.1.1.1))))))
sends = both numbers (both numbers (both numbers (both numbers (both numbers (both hows numbers)))))

five_numbers : Tells
    (λ (x y : ℕ × (ℕ × (ℕ × (ℕ × ℕ)))).
    x.0 == y.0
    && (x.1.0 == y.1.0 && (x.1.1.0 == y.1.1.0 && (x.1.1.1.0 == y.1.1.1.0 && x.1.1.1.1 == y.1.1.1.1))))
five_numbers = both numbers (both numbers three_numbers)

posts : Tells (λ (x y : Receive × ℕ). receive_eq.eq x.0 y.0 && x.1 == y.1)
posts = both receives numbers

ends : Tells (λ (x y : ℕ × Reply). x.0 == y.0 && reply_eq.eq x.1 y.1)
ends = both numbers replies

same_cancel : (n m : ℕ) (c d : Bool) → deed_eq.eq (deed.Cancel n c) (deed.Cancel m d) ≡ true →
    deed.Cancel n c ≡ deed.Cancel m d
same_cancel n m true true so = ap (λ (k : ℕ). deed.Cancel k true) ((numbers n m).0 (first (n == m) true so))
same_cancel n m false false so = ap (λ (k : ℕ). deed.Cancel k false) ((numbers n m).0 (first (n == m) true so))
same_cancel n m true false so = absurd (false≢true (second (n == m) false so))
same_cancel n m false true so = absurd (false≢true (second (n == m) false so))

same_deed : (x y : Deed) → deed_eq.eq x y ≡ true → x ≡ y
same_deed (deed.Send a b c d e h l) (deed.Send a' b' c' d' e' h' l') so =
    ap
    (λ (p : ℕ × (ℕ × (ℕ × (ℕ × (ℕ × (How × ℕ)))))).
    deed.Send p.0 p.1.0 p.1.1.0 p.1.1.1.0 p.1.1.1.1.0 p.1.1.1.1.1.0 p.1.1.1.1.1.1)
    ((sends (a, (b, (c, (d, (e, (h, l)))))) (a', (b', (c', (d', (e', (h', l'))))))).0 so)
same_deed (deed.Post r l) (deed.Post r' l') so =
    ap (λ (p : Receive × ℕ). deed.Post p.0 p.1) ((posts (r, l) (r', l')).0 so)
same_deed (deed.Match a b c d e) (deed.Match a' b' c' d' e') so =
    ap (λ (p : ℕ × (ℕ × (ℕ × (ℕ × ℕ)))). deed.Match p.0 p.1.0 p.1.1.0 p.1.1.1.0 p.1.1.1.1)
    ((five_numbers (a, (b, (c, (d, e)))) (a', (b', (c', (d', e'))))).0 so)
same_deed (deed.Cancel n c) (deed.Cancel m d) so = same_cancel n m c d so
same_deed (deed.Recall a b) (deed.Recall a' b') so =
    ap (λ (p : ℕ × ℕ). deed.Recall p.0 p.1) ((two_numbers (a, b) (a', b')).0 so)
same_deed (deed.Claim a b c) (deed.Claim a' b' c') so =
    ap (λ (p : ℕ × (ℕ × ℕ)). deed.Claim p.0 p.1.0 p.1.1) ((three_numbers (a, (b, c)) (a', (b', c'))).0 so)
same_deed (deed.Ran l r) (deed.Ran l' r') so =
    ap (λ (p : ℕ × Reply). deed.Ran p.0 p.1) ((ends (l, r) (l', r')).0 so)
same_deed x y so = absurd (false≢true so)

own_deed : (d : Deed) → deed_eq.eq d d ≡ true
own_deed (deed.Send a b c d e h l) = (sends (a, (b, (c, (d, (e, (h, l)))))) (a, (b, (c, (d, (e, (h, l))))))).1 refl
own_deed (deed.Post r l) = (posts (r, l) (r, l)).1 refl
own_deed (deed.Match a b c d e) = (five_numbers (a, (b, (c, (d, e)))) (a, (b, (c, (d, e))))).1 refl
own_deed (deed.Cancel n true) = and_so (n == n) true ((numbers n n).1 refl) refl
own_deed (deed.Cancel n false) = and_so (n == n) true ((numbers n n).1 refl) refl
own_deed (deed.Recall a b) = (two_numbers (a, b) (a, b)).1 refl
own_deed (deed.Claim a b c) = (three_numbers (a, (b, c)) (a, (b, c))).1 refl
own_deed (deed.Ran l r) = (ends (l, r) (l, r)).1 refl

pub deeds : Tells deed_eq.eq
deeds = of_self same_deed own_deed

same_parts : (x y : Part) → part_eq.eq x y ≡ true → x ≡ y
same_parts (part.Did a) (part.Did b) so = ap part.Did ((deeds a b).0 so)
same_parts (part.Open a) (part.Open b) so = ap part.Open ((receives a b).0 so)
same_parts (part.Free a) (part.Free b) so = ap part.Free ((arrivals a b).0 so)
same_parts (part.Paired a) (part.Paired b) so = ap part.Paired ((pairs a b).0 so)
same_parts (part.Came a) (part.Came b) so = ap part.Came ((arrivals a b).0 so)
same_parts (part.Gone a) (part.Gone b) so = ap part.Gone ((messages a b).0 so)
same_parts x y so = absurd (false≢true so)

own_part : (x : Part) → part_eq.eq x x ≡ true
own_part (part.Did a) = (deeds a a).1 refl
own_part (part.Open a) = (receives a a).1 refl
own_part (part.Free a) = (arrivals a a).1 refl
own_part (part.Paired a) = (pairs a a).1 refl
own_part (part.Came a) = (arrivals a a).1 refl
own_part (part.Gone a) = (messages a a).1 refl

-- the test of parts tells which are equal
pub same_part : Tells part_eq.eq
same_part = of_self same_parts own_part

pub parts_equiv : IsEquivalence part_eq.eq
parts_equiv = equivalence same_part

-- equal parts have one number
pub parts_alike : Alike part_eq.eq (λ (a : Part). u64 (part_number a))
parts_alike = record { fed = λ x y so. ap (λ (a : Part). u64 (part_number a)) ((same_part x y).0 so) }
