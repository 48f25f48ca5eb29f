-- What there is to tell of players that came to rest is a run of their commands.
use Rattle.std.proofs.Common.{◌≡◌, ℕ, ◌+◌, ◌<◌, zero, suc, ◌≤◌, Bool, true, false, not, ◌&&◌, cond, Option, Some, None}
use Rattle.std.proofs.Common.{List, [], ◌∷◌, ◌++◌, length, map, refl, sym, ◌∙◌, ap, subst, arith, append-nil}
use Rattle.std.proofs.Common.{append_assoc}
use Rattle.std.specs.Prelude.{IfSome, MatchOption, is_none, is_some, nat_lt, option_map}
use Rattle.std.specs.List.{filter, range_with_len, slice_get}
use Rattle.std.proofs.lemmas.Bool.Decides.{nat_tests}
use Rattle.std.proofs.lemmas.List.{length-map, map-append}
use Rattle.std.proofs.lemmas.List.Folds.{list_all-append}
use Rattle.std.proofs.lemmas.List.FromFn.{filter_of_map_range_with_len_more}
use Rattle.nm_types.specs.Commands.{Numbered}
use Rattle.nm_types.specs.Sizes.{Sizes}
use Rattle.nm_history.specs.declared.events.Event.{Event}
use Rattle.nm_history.specs.Answers.{can_go_on}
use Rattle.nm_history.specs.Outgoing.{outgoing}
use Rattle.nm_history.specs.Quiescence.{Ended, Packets, packets_by_rank_by, packets_from_by, packets_of_by}
use Rattle.nm_history.specs.Quiescence.{IsStopped as StandsAt}
use Rattle.nm_history.specs.Run.{IsRunBy}
use Rattle.nm_history.specs.Sends.{sent_body}
use Rattle.nm_cells.specs.declared.closed.Closed.{Closed}
use Rattle.nm_cells.specs.declared.port.Port.{Port}
use Rattle.nm_cells.specs.ClosedLists.{sent_list}
use Rattle.nm_cells.specs.Ports.{knows, sent_by}
use Rattle.nm_copyring.specs.declared.close.RingAccount.{RingAccount}
use Rattle.nm_report.specs.declared.pairs.PairCount.{PairCount}
use Rattle.nm_report.specs.Ends as report
use Rattle.nm_report.specs.Ends.{are_done}
use Rattle.nm_process.specs.Processes.{ProcessView}
use Rattle.nm_world.specs.declared.actors.Actor.{Actor}
use Rattle.nm_process.specs.Sources.{SourceView}
use Rattle.nm_world.specs.declared.players.Player.{Player}
use Rattle.nm_world.specs.declared.records.RankEnd.{RankEnd}
use Rattle.nm_world.specs.Players.{IsAtWork}
use Rattle.nm_world.specs.Records.{AreAtWork, AreKnown, counts_of, counts_to, ended_from, ended_of, ends_by}
use Rattle.nm_world.specs.Parcels.{packet_of}
use Rattle.nm_world.specs.Rest.{HasRun, IsCarried, IsClosed}
use Rattle.nm_types.proofs.ListLemmas.{get_map}
use Rattle.nm_sending.proofs.PutLemmas.{called_length}
use Rattle.nm_types.specs.declared.packets.Packet.{Packet}

-- the counts to one rank more
counts_more : (to : ℕ) (p : Port Packet) →
    counts_to (to + 1) p ≡ counts_to to p ++ cond (nat_lt 0 (sent_by p to))
    (record { from = p.rank; to = to; count = sent_by p to } ∷ []) []
counts_more to p =
    filter_of_map_range_with_len_more (λ (x : Packets). nat_lt 0 x.count)
    (λ t. record { from = p.rank; to = t; count = sent_by p t }) 0 to to (omega arith)

less_true : (k : ℕ) → 0 < k → nat_lt 0 k ≡ true
less_true k some = grind (arith, nat_tests)

less_false : (k : ℕ) → k ≤ 0 → nat_lt 0 k ≡ false
less_false k none = grind (arith, nat_tests)

-- the count of one more, where there are some packets, and where there are none
pub counts_grown : (to from packets : ℕ) (p : Port Packet) (old pairs pairs' : List PairCount) → from ≡ p.rank →
    packets ≡ sent_by p to → 0 < packets → report.packets_of pairs ≡ report.packets_of old ++ counts_to to p →
    pairs' ≡ pairs ++ record { from = from; to = to; packets = packets } ∷ [] →
    report.packets_of pairs' ≡ report.packets_of old ++ counts_to (to + 1) p
counts_grown to from packets p old pairs pairs' mine is some so_far pushed =
    let one : ℕ → ℕ → Packets = λ f count. record { from = f; to = to; count = count } in
    let counted : nat_lt 0 (sent_by p to) ≡ true = subst (λ (k : ℕ). nat_lt 0 k ≡ true) is (less_true packets some) in
    ap (λ (ps : List PairCount). report.packets_of ps) pushed
    ∙ map-append _ pairs (record { from = from; to = to; packets = packets } ∷ [])
    ∙ ap (λ (ps : List Packets). ps ++ one from packets ∷ []) so_far
    ∙ append_assoc (report.packets_of old) (counts_to to p) (one from packets ∷ [])
    ∙ ap (λ (more : List Packets). report.packets_of old ++ more)
    (ap (λ (k : ℕ). counts_to to p ++ one k packets ∷ []) mine
    ∙ ap (λ (k : ℕ). counts_to to p ++ one p.rank k ∷ []) is
    ∙ ap (λ (b : Bool). counts_to to p ++ cond b (one p.rank (sent_by p to) ∷ []) []) (sym counted)
    ∙ sym (counts_more to p))

pub counts_kept : (to packets : ℕ) (p : Port Packet) (old pairs : List PairCount) → packets ≡ sent_by p to →
    packets ≤ 0 → report.packets_of pairs ≡ report.packets_of old ++ counts_to to p →
    report.packets_of pairs ≡ report.packets_of old ++ counts_to (to + 1) p
counts_kept to packets p old pairs is none so_far =
    let one : Packets = record { from = p.rank; to = to; count = sent_by p to } in
    let counted : nat_lt 0 (sent_by p to) ≡ false = subst (λ (k : ℕ). nat_lt 0 k ≡ false) is (less_false packets none)
    in
    so_far ∙ ap (λ (more : List Packets). report.packets_of old ++ more)
    (sym (append-nil (counts_to to p)) ∙ ap (λ (b : Bool). counts_to to p ++ cond b (one ∷ []) []) (sym counted)
    ∙ sym (counts_more to p))

none_is : (o : Option ℕ) (b : Bool) → is_some o ≡ not b → is_none o ≡ b
none_is None true e = refl
none_is None false e = cc
none_is (Some x) true e = cc
none_is (Some x) false e = refl

and_true_right : (b : Bool) → (b && true) ≡ b
and_true_right true = refl
and_true_right false = refl

-- one player more was told of
pub map_next : {A B : Type 0} (g : A → B) (ps ps' : List B) (xs xs' : List A) (a : A) (all : List B) →
    xs ≡ a ∷ xs' → ps' ≡ ps ++ g a ∷ [] → ps ++ map g xs ≡ all → ps' ++ map g xs' ≡ all
map_next g ps ps' xs xs' a all split pushed so_far =
    ap (λ l. l ++ map g xs') pushed ∙ append_assoc ps (g a ∷ []) (map g xs')
    ∙ ap (λ l. ps ++ map g l) (sym split) ∙ so_far

pub packets_next : {S H : Type 0} (n : ℕ) (pairs pairs' : List PairCount) (xs xs' : List (Player S H)) (x : Player S H)
    (all : List Packets) → xs ≡ x ∷ xs' →
    report.packets_of pairs' ≡ report.packets_of pairs ++ counts_to n x.actor.port →
    report.packets_of pairs ++ counts_of n xs ≡ all → report.packets_of pairs' ++ counts_of n xs' ≡ all
packets_next {S} {H} n pairs pairs' xs xs' x all split counted so_far =
    ap (λ (ps : List Packets). ps ++ counts_of n xs') counted
    ∙ append_assoc (report.packets_of pairs) (counts_to n x.actor.port) (counts_of n xs')
    ∙ ap (λ (ys : List (Player S H)). report.packets_of pairs ++ counts_of n ys) (sym split) ∙ so_far

pub ends_next : {S B H : Type 0} (shows : S → SourceView B) (gives : S → List Numbered → ℕ → Type 0)
    (commands : ℕ → List Numbered) (k m : ℕ) (ends ends' : List Ended) (xs xs' : List (Player S H)) (x : Player S H)
    (all : List Ended) → xs ≡ x ∷ xs' → m ≡ k + 1 →
    (IsAtWork shows gives x (commands k) → ends' ≡ ends ++ ended_of (commands k) x.actor.process ∷ []) →
    AreAtWork shows gives commands k xs → ends ++ ended_from commands k xs ≡ all →
    AreAtWork shows gives commands m xs' × (ends' ++ ended_from commands m xs' ≡ all)
ends_next {S} {B} {H} shows gives commands k m ends ends' xs xs' x all split more one work so_far =
    let works = subst (λ (ys : List (Player S H)). AreAtWork shows gives commands k ys) split work in
    subst (λ (n : ℕ). AreAtWork shows gives commands n xs' × (ends' ++ ended_from commands n xs' ≡ all)) (sym more) (
      works.1,
      ap (λ (es : List Ended). es ++ ended_from commands (k + 1) xs') (one works.0)
          ∙ append_assoc ends (ended_of (commands k) x.actor.process ∷ []) (ended_from commands (k + 1) xs')
          ∙ ap (λ (ys : List (Player S H)). ends ++ ended_from commands k ys) (sym split) ∙ so_far,
    )

-- the ports of the first of them, and of the others
pub known_next : {S H : Type 0} (n : ℕ) (xs : List (Player S H)) (x : Player S H) (xs' : List (Player S H)) →
    xs ≡ x ∷ xs' →
    AreKnown n xs → ((knows x.actor.port).ranks ≡ n) × AreKnown n xs'
known_next {S} {H} n xs x xs' split known =
    let is = subst (λ (ys : List (Player S H)). AreKnown n ys) split known in
    (is 0 x refl, λ k y at. is (suc k) y at)

pub done_next : {H : Type 0} (events : H → List Event) (ranks ranks' : List (RankEnd H)) (r : RankEnd H)
    (done none : Bool) → done ≡ are_done (ends_by events ranks) →
    ranks' ≡ ranks ++ r ∷ [] → is_some r.waits ≡ not none → (done && none) ≡ are_done (ends_by events ranks')
done_next {H} events ranks ranks' r done none before pushed waits =
    ap (λ (b : Bool). b && none) before
    ∙ ap (λ (b : Bool). are_done (ends_by events ranks) && b)
    (sym (none_is r.waits none waits) ∙ sym (and_true_right (is_none r.waits)))
    ∙ sym (list_all-append (λ (e : Ended). is_none e.waits) (ends_by events ranks) (ends_by events (r ∷ [])))
    ∙ ap (λ (es : List Ended). are_done es) (sym (map-append _ ranks (r ∷ [])))
    ∙ ap (λ (rs : List (RankEnd H)). are_done (ends_by events rs)) (sym pushed)

-- the ends are those of the players
stands_waits : (commands : List Numbered) (h : List Event) (o : Option Numbered) (w : Option ℕ) →
    MatchOption o (w ≡ None) (λ c. (w ≡ Some c.line) × (can_go_on commands h c.command ≡ false)) →
    w ≡ option_map (λ (c : Numbered). c.line) o
stands_waits commands h None w is = is
stands_waits commands h (Some c) w is = is.0

pub end_is : (commands : List Numbered) (v : ProcessView) (e : Ended) → e.at ≡ v.at →
    e.events ≡ v.rank.events → StandsAt commands e → e ≡ ended_of commands v
end_is commands v e at events stands =
    let waits : e.waits ≡ option_map (λ (c : Numbered). c.line) (slice_get commands v.at) =
    stands_waits commands e.events (slice_get commands e.at) e.waits stands
    ∙ ap (λ (k : ℕ). option_map (λ (c : Numbered). c.line) (slice_get commands k)) at in
    λ i. record { at = at i; waits = waits i; events = events i }

ends_same : {S H : Type 0} (commands : ℕ → List Numbered) (k : ℕ) (players : List (Player S H)) (ends : List Ended) →
    length ends ≡ length players →
    ((i m : ℕ) (x : Player S H) → m ≡ k + i → slice_get players i ≡ Some x →
    IfSome (slice_get ends i) (λ e. e ≡ ended_of (commands m) x.actor.process)) →
    ends ≡ ended_from commands k players
ends_same commands k [] [] many each = refl
ends_same commands k [] (e ∷ ends) many each = absurd (omega (arith, many))
ends_same commands k (x ∷ players) [] many each = absurd (omega (arith, many))
ends_same commands k (x ∷ players) (e ∷ ends) many each =
    ap (λ (y : Ended). y ∷ ends) (each 0 k x (omega arith) refl)
    ∙ ap (λ (ys : List Ended). ended_of (commands k) x.actor.process ∷ ys)
    (ends_same commands (k + 1) players ends (omega (arith, many))
    (λ i m y is at. each (suc i) m y (omega (arith, is)) at))

-- the counts are those of the packets that the histories call for
map_below : (a n : ℕ) (f g : ℕ → Packets) → ((j : ℕ) → j < a + n → f j ≡ g j) →
    map f (range_with_len a n) ≡ map g (range_with_len a n)
map_below a zero f g same = refl
map_below a (suc n) f g same =
    ap (λ (x : Packets). x ∷ map f (range_with_len (a + 1) n)) (same a (omega arith))
    ∙ ap (λ (xs : List Packets). g a ∷ xs) (map_below (a + 1) n f g (λ j low. same j (omega (arith, low))))

row_is : (commands : ℕ → List Numbered) (n i : ℕ) (p : Port Packet) (h : List Event) → p.rank ≡ i →
    ((j : ℕ) → j < n → sent_by p j ≡ length (outgoing (sent_body (commands i)) h j)) →
    counts_to n p ≡ packets_from_by commands (range_with_len 0 n) i h
row_is commands n i p h own each =
    ap (λ (xs : List Packets). filter (λ (x : Packets). nat_lt 0 x.count) xs)
    (map_below 0 n (λ to. record { from = p.rank; to = to; count = sent_by p to })
    (λ to. record { from = i; to = to; count = length (outgoing (sent_body (commands i)) h to) })
    (λ j low. λ k. record { from = own k; to = j; count = each j (omega (arith, low)) k }))

pub counts_same : {S H : Type 0} (commands : ℕ → List Numbered) (n k : ℕ) (players : List (Player S H))
    (ends : List Ended) → length ends ≡ length players →
    ((i m : ℕ) (x : Player S H) (e : Ended) → m ≡ k + i → slice_get players i ≡ Some x → slice_get ends i ≡ Some e →
    (x.actor.port.rank ≡ m)
    × ((j : ℕ) → j < n → sent_by x.actor.port j ≡ length (outgoing (sent_body (commands m)) e.events j))) →
    counts_of n players ≡ packets_by_rank_by commands (range_with_len 0 n) k ends
counts_same commands n k [] [] many each = refl
counts_same commands n k [] (e ∷ ends) many each = absurd (omega (arith, many))
counts_same commands n k (x ∷ players) [] many each = absurd (omega (arith, many))
counts_same commands n k (x ∷ players) (e ∷ ends) many each =
    let here = each 0 k x e (omega arith) refl refl in
    ap (λ (ps : List Packets). ps ++ counts_of n players) (row_is commands n k x.actor.port e.events here.0 here.1)
    ∙ ap (λ (ps : List Packets). packets_from_by commands (range_with_len 0 n) k e.events ++ ps)
    (counts_same commands n (k + 1) players ends (omega (arith, many))
    (λ i m b y is at to. each (suc i) m b y (omega (arith, is)) at to))

some_there : {A : Type 0} (o : Option A) (P : A → Type 0) (x : A) → o ≡ Some x → IfSome o P → P x
some_there o P x is holds = subst (λ p. IfSome p P) is holds

-- the players of a run were told of
pub told_run : {S H : Type 0} (shape : Sizes) (commands : ℕ → List Numbered) (players : List (Player S H))
    (actors : List (Actor H)) (c : Closed Packet) (q : RingAccount) (ends told_of : List Ended)
    (pairs : List PairCount) → actors ≡ map (λ (x : Player S H). x.actor) players →
    ((i : ℕ) (x : Player S H) → slice_get players i ≡ Some x → x.actor.port.rank ≡ i) → length players ≡ shape.ranks →
    IsClosed shape.ranks (map (λ (a : Actor H). a.port) actors) c → HasRun shape commands actors c q ends →
    told_of ≡ ended_from commands 0 players →
    report.packets_of pairs ≡ counts_of shape.ranks players →
    IsRunBy shape commands told_of (report.packets_of pairs) × (ends ≡ told_of)
told_run {S} {H} shape commands players actors c q ends told_of pairs are own many closed run told counted = (
  subst (λ (es : List Ended). IsRunBy shape commands es (report.packets_of pairs)) all
      (subst (λ (ps : List Packets). IsRunBy shape commands ends ps) (sym packets) run.run),
  all,
) where
  long : length ends ≡ length players
  long = run.run.one_each ∙ sym many

  actor_at : (i : ℕ) (x : Player S H) → slice_get players i ≡ Some x → slice_get actors i ≡ Some x.actor
  actor_at i x at = ap (λ (as' : List (Actor H)). slice_get as' i) are
      ∙ get_map (λ (x : Player S H). x.actor) players i x at

  same : ends ≡ ended_from commands 0 players
  same = ends_same commands 0 players ends long (λ i m x is at.
      let here : i ≡ m = omega (arith, is) in
      subst (λ (k : ℕ). IfSome (slice_get ends i) (λ e. e ≡ ended_of (commands k) x.actor.process)) here
      (by i x.actor (slice_get ends i) (run.are i x.actor (actor_at i x at)))) where
        by : (i : ℕ) (a : Actor H) → (o : Option Ended) →
            IfSome o (λ e. (e.at ≡ a.process.at) × (e.events ≡ a.process.rank.events) × StandsAt (commands i) e) →
            IfSome o (λ e. e ≡ ended_of (commands i) a.process)
        by i a None is = tt
        by i a (Some e) is = end_is (commands i) a.process e is.0 is.1 is.2

  all : ends ≡ told_of
  all = same ∙ sym told

  packets : report.packets_of pairs ≡ packets_of_by commands ends
  packets =
      counted
      ∙ counts_same commands shape.ranks 0 players ends long (λ i m x e is at to.
      let here : m ≡ i = is ∙ omega arith in
      let rank = own i x at in (
        rank ∙ sym here,
        λ j within. sym (closed.counts i j x.actor.port
            (get_map (λ (a : Actor H). a.port) actors i x.actor (actor_at i x at)) within).0
            ∙ sym (length-map (sent_list c i j) packet_of)
            ∙ sym (called_length i 0 _ _ (some_there (slice_get ends i) (IsCarried (commands i) c q i j) e to
            (run.carried i j within)).packets)
            ∙ ap (λ (k : ℕ). length (outgoing (sent_body (commands k)) e.events j)) (sym here),
      ))
      ∙ ap (λ (n : ℕ). packets_by_rank_by commands (range_with_len 0 n) 0 ends) (sym run.run.one_each)
