-- The moves of a rank without recalls and matched probes leave an orderly state.
use Rattle.std.proofs.Common.{◌≡◌, ◌⊎◌, inl, inr, ℕ, zero, suc, ◌+◌, ◌<◌, ◌≤◌, ◌==◌, ◌&&◌, ◌||◌, not, Bool, true, false, cond}
use Rattle.std.proofs.Common.{Option, Some, None, List, [], ◌∷◌, ◌++◌, length, length-append, replicate, refl, sym, ◌∙◌}
use Rattle.std.proofs.Common.{ap, subst, arith}
use Rattle.std.specs.Prelude.{if◌then◌else◌, count_by, nat_lt, option_and_then}
use Rattle.std.specs.List.{filter, list_any, slice_get, slice_set}
use Rattle.std.proofs.lemmas.Bool.{false≢true}
use Rattle.std.proofs.lemmas.List.Elements.{filter-append}
use Rattle.std.proofs.lemmas.List.Sums.{length-filter}
use Rattle.nm_types.specs.declared.messages.Arrival.{Arrival}
use Rattle.nm_types.specs.declared.messages.Peer.{Peer}
use Rattle.nm_types.specs.declared.messages.TagPick.{TagPick}
use Rattle.nm_types.specs.declared.scripts.Command.{Command}
use Rattle.nm_types.specs.declared.scripts.Command.TheVariants as command
use Rattle.nm_types.specs.declared.scripts.Line.{Line}
use Rattle.nm_history.specs.Matching.{is_of_message, is_of_receive}
use Rattle.nm_history.specs.Selection.{matches}
use Rattle.nm_history.specs.Completion.{Request}
use Rattle.nm_history.specs.Completion.Request.{Receiving, Sending}
use Rattle.nm_match.specs.Deeds.{is_message}
use Rattle.nm_types.proofs.ListLemmas.{get_set_other, get_set_same, no_item, place_below}
use Rattle.nm_types.proofs.NumberLemmas.{differ, eq_less, eq_true, same_number}
use Rattle.nm_types.proofs.OptionLemmas.{no_some, same_some}
use Rattle.nm_types.proofs.TruthLemmas.{not_true}
use Rattle.nm_outcomes.proofs.SentLemmas.{get_more}
use Rattle.nm_outcomes.specs.declared.spots.deeds.Deed.{Deed}
use Rattle.nm_outcomes.specs.declared.spots.deeds.Deed.TheVariants as deed
use Rattle.nm_match.specs.declared.names.Message.{Message}
use Rattle.nm_outcomes.specs.declared.spots.deeds.Receive.{Receive}
use Rattle.nm_outcomes.specs.Looks.{is_recall_by, is_receive_by, is_send_by, live_in}
use Rattle.nm_outcomes.specs.RankStates.{Spot, arrived_at, first_spot, is_behind, is_cancel_by, is_claim_by, is_gone_at}
use Rattle.nm_outcomes.specs.RankStates.{is_that, message_of_spot, receive_of_spot, spot_after, with_arrival}
use Rattle.nm_outcomes.specs.RankStates.{without_number}
use Rattle.nm_outcomes.proofs.ListLemmas.{count-placed_new}
use Rattle.nm_explored.specs.declared.choices.moves.Move.{Move}
use Rattle.nm_explored.specs.declared.choices.moves.Move.TheVariants as move
use Rattle.nm_explored.specs.declared.choices.moves.Turn.{Turn}
use Rattle.nm_explored.specs.Successors.{arrival_by, cancel_at, start_in}
use Rattle.nm_search.specs.Lists.{Has}
use Rattle.nm_search.proofs.ListLemmas.{then_some}
use Rattle.nm_explored.specs.Moves.{IsAct, IsChoiceOf, IsDeedOf, IsNextMessage, IsTurn, moved_at}
use Rattle.nm_explored.specs.Chosen.{Goes}
use Rattle.nm_explored.specs.Started.{AreCalm, AreStarted, HasNoRecall, IsStarted, is_recalling_by}
use Rattle.nm_explored.specs.Met.{IsMet, IsWay}
use Rattle.nm_explored.specs.Orderly.{HasNoClaim, IsOrderly, IsOrderlyAt, came_of, is_claiming, is_numbered}
use Rattle.nm_explored.specs.Orderly.{is_rare_by}
use Rattle.nm_explored.proofs.CalmLemmas.{any_along, calm_deed, no_withdrawal, way_calm}
use Rattle.nm_explored.proofs.StartedLemmas.{HasBegun, begun, none_of_rank, of_deed, way_started}
use Rattle.nm_explored.proofs.PostLemmas.{arrived, arrives_at, arrives_free, found_has, none_has, none_of_three}
use Rattle.nm_explored.proofs.PostLemmas.{none_placed, none_push, pair_for, posted, posts_found, posts_open, turned}

-- what a test counts, with one element more
pub count_push : {X : Type 0} (test : X → Bool) (xs : List X) (x : X) →
    count_by test (xs ++ x ∷ []) ≡ count_by test xs + length (filter test (x ∷ []))
count_push {X} test xs x =
    sym (length-filter test (xs ++ x ∷ [])) ∙ ap (λ (ys : List X). length ys) (filter-append test xs (x ∷ []))
    ∙ length-append (filter test xs) (filter test (x ∷ []))
    ∙ ap (λ (n : ℕ). n + length (filter test (x ∷ []))) (length-filter test xs)

pub none_left : {X : Type 0} (test p : X → Bool) (xs : List X) → list_any test xs ≡ false →
    list_any test (filter p xs) ≡ false
none_left test p [] none = refl
none_left {X} test p (x ∷ xs) none = by_kept (p x) (test x) refl none (none_left test p xs)
  where
    by_kept : (b c : Bool) → test x ≡ c → (c || list_any test xs) ≡ false →
        (list_any test xs ≡ false → list_any test (filter p xs) ≡ false) →
        list_any test (cond b (x ∷ filter p xs) (filter p xs)) ≡ false
    by_kept true true is none later = absurd (false≢true (sym none))
    by_kept true false is none later =
        ap (λ (b : Bool). b || list_any test (filter p xs)) is ∙ later none
    by_kept false true is none later = absurd (false≢true (sym none))
    by_kept false false is none later = later none

pub has_left : {X : Type 0} (p : X → Bool) (xs : List X) (x : X) → Has (filter p xs) x → Has xs x × (p x ≡ true)
has_left p [] x at = absurd (no_item at.0 x at.1)
has_left {X} p (y ∷ ys) x at = by_kept (p y) refl at.0 at.1 (has_left p ys x)
  where
    next : Has ys x × (p x ≡ true) → Has (y ∷ ys) x × (p x ≡ true)
    next rest = ((suc rest.0.0, rest.0.1), rest.1)

    by_kept : (b : Bool) → p y ≡ b → (k : ℕ) → slice_get (cond b (y ∷ filter p ys) (filter p ys)) k ≡ Some x →
        (Has (filter p ys) x → Has ys x × (p x ≡ true)) → Has (y ∷ ys) x × (p x ≡ true)
    by_kept true is zero here later =
        ((0, here), subst (λ (z : X). p z ≡ true) (same_some y x here) is)
    by_kept true is (suc k) here later = next (later (k, here))
    by_kept false is k here later = next (later (k, here))

has_more : {X : Type 0} (xs : List X) (y x : X) → Has (xs ++ y ∷ []) x → Has xs x ⊎ (y ≡ x)
has_more xs y x at = by_place (get_more xs y true at.0 x at.1)
  where
    by_place : (slice_get xs at.0 ≡ Some x) ⊎ ((at.0 ≡ length xs) × (y ≡ x) × (true ≡ true)) → Has xs x ⊎ (y ≡ x)
    by_place (inl before) = inl (at.0, before)
    by_place (inr last) = inr last.1

-- a receive has the next number, and a cancel is of one that was started
abbrev pub IsNewDeed : Spot → Deed → Type 0
IsNewDeed x (deed.Post r line) = r.number ≡ count_by is_receive_by x.deeds
IsNewDeed x (deed.Cancel number done) = number < count_by is_receive_by x.deeds
IsNewDeed x _ = Unit {0}

-- an open receive less
orderly_without : (x : Spot) → IsOrderly x → (number : ℕ) →
    IsOrderly (record x { receives = without_number number x.receives })
orderly_without x is number = record {
  common = is.common;
  opens = λ n past. none_left (is_numbered n) (λ r. not (number == r.number)) x.receives (is.opens n past);
  posts = is.posts;
  cancelled = is.cancelled;
  paired = is.paired;
  free = is.free;
  taken = is.taken;
  came = is.came;
  withdrawn = is.withdrawn;
  own = λ q o at there same. is.own q o (left q at) (left o there) same;
  same = λ q o line at there same. is.same q o line at (left o there) same;
  alone = λ q at. is.alone q (left q at);
}
  where
    left : (q : Receive) → Has (without_number number x.receives) q → Has x.receives q
    left q at = (has_left (λ (r : Receive). not (number == r.number)) x.receives q at).0

module _ (x : Spot) (is : IsOrderly x) where
  abbrev started : ℕ
  started = count_by is_receive_by x.deeds

  never : (test : Deed → Bool) → ((d : Deed) → test d ≡ true → is_rare_by d ≡ true) → list_any test x.deeds ≡ false
  never test rare =
      not_true (list_any test x.deeds)
      (λ so. false≢true (sym is.common ∙ any_along test is_rare_by rare x.deeds so))

  pub no_claim : (from n : ℕ) → list_any (is_claim_by from n) x.deeds ≡ false
  no_claim from n = never (is_claim_by from n) rare
    where
      rare : (d : Deed) → is_claim_by from n d ≡ true → is_rare_by d ≡ true
      rare (deed.Cancel number' done) so = so
      rare (deed.Match number' from' n' cap line) so = refl
      rare (deed.Recall to n') so = refl
      rare (deed.Claim from' n' line) so = refl
      rare (deed.Send to n' tag ctx len how line) so = so
      rare (deed.Post r line) so = so
      rare (deed.Ran line r) so = so

  -- a message that did not come is not gone
  pub not_gone : (from n : ℕ) → came_of x from ≤ n → is_gone_at x from n ≡ false
  not_gone from n new =
      none_of_three (list_any (is_of_message from n) x.pairs) (list_any (is_claim_by from n) x.deeds)
      (list_any (is_that from n) x.withdrawn) (is.taken from n new) (no_claim from n)
      (ap (λ (ms : List Message). list_any (is_that from n) ms) is.withdrawn)

  -- a deed that posts nothing, and cancels no receive that is not started
  orderly_plain : (d : Deed) → is_rare_by d ≡ false → ((r : Receive) (line : ℕ) → d ≡ deed.Post r line → ⊥) →
      ((number : ℕ) → started ≤ number → is_cancel_by number d ≡ false) →
      IsOrderly (record x { deeds = x.deeds ++ d ∷ [] })
  orderly_plain d common other cancels = record {
    common = none_push is_rare_by x.deeds d is.common common;
    opens = λ number new. is.opens number (before number new);
    posts = λ r line at.
        let low = is.posts r line (old r line at) in
        let more = count_push is_receive_by x.deeds d in omega (arith, low, more);
    cancelled = λ number new. none_push (is_cancel_by number) x.deeds d (is.cancelled number (before number new))
        (cancels number (before number new));
    paired = λ number new. is.paired number (before number new);
    free = is.free;
    taken = is.taken;
    came = is.came;
    withdrawn = is.withdrawn;
    own = is.own;
    same = λ q o line at there number. is.same q o line (old q line at) there number;
    alone = is.alone;
  }
    where
      before : (number : ℕ) → count_by is_receive_by (x.deeds ++ d ∷ []) ≤ number → started ≤ number
      before number new = let more = count_push is_receive_by x.deeds d in omega (arith, new, more)

      old : (r : Receive) (line : ℕ) → Has (x.deeds ++ d ∷ []) (deed.Post r line) → Has x.deeds (deed.Post r line)
      old r line at = elim (has_more x.deeds d (deed.Post r line) at) [
        | inl there ↦ there
        | inr last ↦ absurd (other r line last)
      ]

  -- a receive that is posted
  module _ (r : Receive) (line : ℕ) (new : r.number ≡ started) where
    more : count_by is_receive_by (x.deeds ++ deed.Post r line ∷ []) ≡ started + 1
    more = count_push is_receive_by x.deeds (deed.Post r line)

    before : (number : ℕ) → count_by is_receive_by (x.deeds ++ deed.Post r line ∷ []) ≤ number → started ≤ number
    before number past = let m = more in omega (arith, past, m)

    other : (number : ℕ) → count_by is_receive_by (x.deeds ++ deed.Post r line ∷ []) ≤ number →
        (r.number == number) ≡ false
    other number past =
        let m = more in
        let low : r.number < number = omega (arith, past, m, new) in eq_less r.number number low

    here : started ≤ r.number
    here = omega (arith, new)

    apart : (q : Receive) → Has x.receives q → q.number ≡ r.number → ⊥
    apart q at same =
        false≢true
        (sym (none_has (is_numbered r.number) x.receives q (is.opens r.number here) at)
        ∙ eq_true q.number r.number same)

    cancelled : (number : ℕ) → count_by is_receive_by (x.deeds ++ deed.Post r line ∷ []) ≤ number →
        list_any (is_cancel_by number) (x.deeds ++ deed.Post r line ∷ []) ≡ false
    cancelled number past =
        none_push (is_cancel_by number) x.deeds (deed.Post r line) (is.cancelled number (before number past)) refl

    abbrev IsPost : Receive → ℕ → Type 0
    IsPost q own = Has x.deeds (deed.Post q own) ⊎ (deed.Post r line ≡ deed.Post q own)

    old_or_new : (q : Receive) (own : ℕ) → Has (x.deeds ++ deed.Post r line ∷ []) (deed.Post q own) → IsPost q own
    old_or_new q own at = has_more x.deeds (deed.Post r line) (deed.Post q own) at

    is_new : (q : Receive) (own : ℕ) → deed.Post r line ≡ deed.Post q own → r ≡ q
    is_new q own last = cc

    low : (q : Receive) (own : ℕ) → IsPost q own → q.number < count_by is_receive_by (x.deeds ++ deed.Post r line ∷ [])
    low q own (inl at) = let m = more in let less = is.posts q own at in omega (arith, m, less)
    low q own (inr last) =
        let m = more in
        let e = ap (λ (p : Receive). p.number) (is_new q own last) in omega (arith, m, e, new)

    -- an open receive that was there before is as it was posted
    same_old : (q o : Receive) (own : ℕ) → IsPost q own → Has x.receives o → q.number ≡ o.number → q ≡ o
    same_old q o own (inl at) there number = is.same q o own at there number
    same_old q o own (inr last) there number =
        absurd (apart o there (sym number ∙ ap (λ (p : Receive). p.number) (sym (is_new q own last))))

    posted_open : IsOrderly (posted r line x None)
    posted_open = record {
      common = none_push is_rare_by x.deeds (deed.Post r line) is.common refl;
      opens = λ number past. none_push (is_numbered number) x.receives r (is.opens number (before number past))
          (other number past);
      posts = λ q own at. low q own (old_or_new q own at);
      cancelled = cancelled;
      paired = λ number past. is.paired number (before number past);
      free = is.free;
      taken = is.taken;
      came = is.came;
      withdrawn = is.withdrawn;
      own = λ q o at there same. by_both q o (has_more x.receives r q at) (has_more x.receives r o there) same;
      same = λ q o own at there number. by_open q o own (old_or_new q own at) (has_more x.receives r o there) number;
      alone = λ q at. by_one q (has_more x.receives r q at);
    }
      where
        by_open : (q o : Receive) (own : ℕ) → IsPost q own → Has x.receives o ⊎ (r ≡ o) → q.number ≡ o.number → q ≡ o
        by_open q o own post (inl there) number = same_old q o own post there number
        by_open q o own (inl at) (inr last) number =
            let low = is.posts q own at in
            let e = ap (λ (p : Receive). p.number) last in absurd (omega (arith, low, e, number, new))
        by_open q o own (inr post) (inr last) number = sym (is_new q own post) ∙ last

        by_both : (q o : Receive) → Has x.receives q ⊎ (r ≡ q) → Has x.receives o ⊎ (r ≡ o) → q.number ≡ o.number →
            q ≡ o
        by_both q o (inl at) (inl there) same = is.own q o at there same
        by_both q o (inl at) (inr last) same =
            absurd (apart q at (same ∙ ap (λ (p : Receive). p.number) (sym last)))
        by_both q o (inr last) (inl there) same =
            absurd (apart o there (sym same ∙ ap (λ (p : Receive). p.number) (sym last)))
        by_both q o (inr last) (inr end) same = sym last ∙ end

        by_one : (q : Receive) → Has x.receives q ⊎ (r ≡ q) → list_any (is_of_receive q.number) x.pairs ≡ false
        by_one q (inl at) = is.alone q at
        by_one q (inr last) =
            subst (λ (p : Receive). list_any (is_of_receive p.number) x.pairs ≡ false) last (is.paired r.number here)

    posted_found : (m : Arrival) → Has x.free m → IsOrderly (posted r line x (Some m))
    posted_found m at = record {
      common = none_push is_rare_by x.deeds (deed.Post r line) is.common refl;
      opens = λ number past. is.opens number (before number past);
      posts = λ q own at. low q own (old_or_new q own at);
      cancelled = cancelled;
      paired = λ number past. none_placed (is_of_receive r.number) (is_of_receive number)
          (λ p. nat_lt r.number p.number)
          (pair_for r m) x.pairs (is.paired number (before number past)) (other number past);
      free = λ from n past. none_left (is_message from n) (λ a. not (is_message m.env.from m.n a)) x.free
          (is.free from n past);
      taken = λ from n past. none_placed (is_of_receive r.number) (is_of_message from n) (λ p. nat_lt r.number p.number)
          (pair_for r m) x.pairs (is.taken from n past)
          (none_has (is_message from n) x.free m (is.free from n past) at);
      came = is.came;
      withdrawn = is.withdrawn;
      own = is.own;
      same = λ q o own at there number. same_old q o own (old_or_new q own at) there number;
      alone = λ q there. none_placed (is_of_receive r.number) (is_of_receive q.number) (λ p. nat_lt r.number p.number)
          (pair_for r m) x.pairs (is.alone q there)
          (turned r.number q.number ∙ none_has (is_numbered r.number) x.receives q (is.opens r.number here) there);
    }

    orderly_post : IsOrderly (spot_after x (deed.Post r line))
    orderly_post = by_message (message_of_spot x r) refl
      where
        by_message : (m : Option Arrival) → message_of_spot x r ≡ m → IsOrderly (spot_after x (deed.Post r line))
        by_message None none =
            subst (λ (y : Spot). IsOrderly y)
            (sym (posts_open r line x none
            (ap (λ (b : Bool). b || list_any (is_cancel_by r.number) x.deeds) (is.paired r.number here)
            ∙ is.cancelled r.number here)))
            posted_open
        by_message (Some m) found =
            subst (λ (y : Spot). IsOrderly y) (sym (posts_found r line x m found))
            (posted_found m (found_has (λ (a : Arrival). matches r.from r.tag r.ctx a.env) x.free m found))

  -- the cancel of a receive
  orderly_cancel : (number : ℕ) (done : Bool) → number < started →
      IsOrderly (record x { deeds = x.deeds ++ deed.Cancel number done ∷ [] })
  orderly_cancel number done low =
      orderly_plain (deed.Cancel number done) refl (λ r own is. cc)
      (λ other past. ap (λ (b : Bool). b && done) (eq_less number other (omega (arith, low, past))))

  pub orderly_deed : (d : Deed) → is_rare_by d ≡ false → IsNewDeed x d → IsOrderly (spot_after x d)
  orderly_deed (deed.Send to n tag ctx len how line) common new =
      orderly_plain (deed.Send to n tag ctx len how line) refl (λ r own is. cc) (λ number past. refl)
  orderly_deed (deed.Ran line r) common new =
      orderly_plain (deed.Ran line r) refl (λ q own is. cc) (λ number past. refl)
  orderly_deed (deed.Post r line) common new = orderly_post r line new
  orderly_deed (deed.Match number from n cap line) common new = absurd (false≢true (sym common))
  orderly_deed (deed.Cancel number false) common new = orderly_cancel number false new
  orderly_deed (deed.Cancel number true) common new =
      orderly_without (record x { deeds = x.deeds ++ deed.Cancel number true ∷ [] }) (orderly_cancel number true new)
      number
  orderly_deed (deed.Recall to n) common new = absurd (false≢true (sym common))
  orderly_deed (deed.Claim from n line) common new = absurd (false≢true (sym common))

  -- a message that comes
  module _ (a : Arrival) (new : a.n ≡ came_of x a.env.from) where
    abbrev later : List Arrival
    later = with_arrival a x.came

    came_more : (from : ℕ) → count_by (λ (b : Arrival). b.env.from == from) later
        ≡ came_of x from + length (filter (λ (b : Arrival). b.env.from == from) (a ∷ []))
    came_more from =
        sym (length-filter (λ (b : Arrival). b.env.from == from) later)
        ∙ count-placed_new (is_message a.env.from a.n) (λ (b : Arrival). b.env.from == from)
        (λ b. is_behind a.env.from a.n b.env.from b.n) a x.came
        ∙ ap (λ (k : ℕ). k + length (filter (λ (b : Arrival). b.env.from == from) (a ∷ [])))
        (length-filter (λ (b : Arrival). b.env.from == from) x.came)

    came_before : (from n : ℕ) → count_by (λ (b : Arrival). b.env.from == from) later ≤ n → came_of x from ≤ n
    came_before from n past = let m = came_more from in omega (arith, past, m)

    other_message : (from n : ℕ) → count_by (λ (b : Arrival). b.env.from == from) later ≤ n →
        is_message from n a ≡ false
    other_message from n past = by_sender (a.env.from == from) refl
      where
        by_sender : (b : Bool) → (a.env.from == from) ≡ b → (b && a.n == n) ≡ false
        by_sender false is_from = refl
        by_sender true is_from =
            let own : a.env.from ≡ from = same_number a.env.from from is_from in
            let one : count_by (λ (b : Arrival). b.env.from == from) later ≡ came_of x from + 1 =
            came_more from
            ∙ ap (λ (b : Bool). came_of x from + length (cond b (a ∷ []) [])) is_from in
            let at : a.n ≡ came_of x from = new ∙ ap (λ (k : ℕ). came_of x k) own in
            let low : a.n < n = omega (arith, past, one, at) in eq_less a.n n low

    came_next : (from n : ℕ) → count_by (λ (b : Arrival). b.env.from == from) later ≤ n →
        list_any (is_message from n) later ≡ false
    came_next from n past =
        none_placed (is_message a.env.from a.n) (is_message from n) (λ b. is_behind a.env.from a.n b.env.from b.n) a
        x.came (is.came from n (came_before from n past)) (other_message from n past)

    arrived_free : IsOrderly (arrived a x None)
    arrived_free = record {
      common = is.common;
      opens = is.opens;
      posts = is.posts;
      cancelled = is.cancelled;
      paired = is.paired;
      free = λ from n past. none_push (is_message from n) x.free a (is.free from n (came_before from n past))
          (other_message from n past);
      taken = λ from n past. is.taken from n (came_before from n past);
      came = came_next;
      withdrawn = is.withdrawn;
      own = is.own;
      same = is.same;
      alone = is.alone;
    }

    arrived_taken : (o : Receive) → Has x.receives o → IsOrderly (arrived a x (Some o))
    arrived_taken o at = record {
      common = is.common;
      opens = λ number past. none_left (is_numbered number) (λ r. not (o.number == r.number)) x.receives
          (is.opens number past);
      posts = is.posts;
      cancelled = is.cancelled;
      paired = λ number past. none_placed (is_of_receive o.number) (is_of_receive number)
          (λ p. nat_lt o.number p.number) (pair_for o a) x.pairs (is.paired number past)
          (none_has (is_numbered number) x.receives o (is.opens number past) at);
      free = λ from n past. is.free from n (came_before from n past);
      taken = λ from n past. none_placed (is_of_receive o.number) (is_of_message from n)
          (λ p. nat_lt o.number p.number) (pair_for o a) x.pairs (is.taken from n (came_before from n past))
          (other_message from n past);
      came = came_next;
      withdrawn = is.withdrawn;
      own = λ q p one two same. is.own q p (has_left (λ r. not (o.number == r.number)) x.receives q one).0
          (has_left (λ r. not (o.number == r.number)) x.receives p two).0 same;
      same = λ q p line there two number. is.same q p line there
          (has_left (λ r. not (o.number == r.number)) x.receives p two).0 number;
      alone = λ q there.
          let left = has_left (λ r. not (o.number == r.number)) x.receives q there in
          none_placed (is_of_receive o.number) (is_of_receive q.number) (λ p. nat_lt o.number p.number) (pair_for o a)
          x.pairs (is.alone q left.0) (not_is (o.number == q.number) left.1);
    }
      where
        not_is : (b : Bool) → not b ≡ true → b ≡ false
        not_is true so = absurd (false≢true so)
        not_is false so = refl

    pub orderly_arrival : IsOrderly (arrived_at x a)
    orderly_arrival = by_receive (receive_of_spot x a) refl
      where
        past : came_of x a.env.from ≤ a.n
        past = omega (arith, new)

        by_receive : (o : Option Receive) → receive_of_spot x a ≡ o → IsOrderly (arrived_at x a)
        by_receive None none =
            subst (λ (y : Spot). IsOrderly y) (sym (arrives_free a x none (not_gone a.env.from a.n past))) arrived_free
        by_receive (Some o) to =
            subst (λ (y : Spot). IsOrderly y) (sym (arrives_at a x o to))
            (arrived_taken o (found_has (λ (r : Receive). matches r.from r.tag r.ctx a.env) x.receives o to))

-- what a command does that is no recall, no matched probe and no matched receive
abbrev pub IsCommon : Spot → Deed → Type 0
IsCommon x d = (is_rare_by d ≡ false) × IsNewDeed x d

module _ (eager : ℕ) (lines : List Line) (i : ℕ) (x : Spot) (line : ℕ) (d : Deed) where
  common_as : (e : Deed) → Some e ≡ Some d → IsCommon x e → IsCommon x d
  common_as e same common = subst (λ (z : Deed). IsCommon x z) (same_some e d same) common

  -- a cancel is of a receive that was started
  common_cancel : IsOrderly x → (q : ℕ) → is_recalling_by d ≡ false →
      start_in eager lines i x line (command.Cancel q) ≡ Some d → IsCommon x d
  common_cancel is q calm starts =
      let r = then_some (cancel_at x) (live_in lines i x.deeds q) d starts in by_request r.0 r.1 r.2
    where
      by_deed : (number : ℕ) (e : Deed) → Has x.deeds e → HasBegun lines i q (Receiving number) e →
          number < count_by is_receive_by x.deeds
      by_deed number (deed.Post p own) at s =
          let e : Receiving p.number ≡ Receiving number = s.0 in
          let same : p.number ≡ number = cc in
          subst (λ (k : ℕ). k < count_by is_receive_by x.deeds) same (is.posts p own at)
      by_deed number (deed.Match n from m cap own) at s =
          absurd (false≢true (sym (none_has is_rare_by x.deeds (deed.Match n from m cap own) is.common at)))
      by_deed number (deed.Send to n tag ctx len how own) at s =
          let e : Sending to n ≡ Receiving number = s.0 in absurd (not_receiving to n number e)
        where
          not_receiving : (to n number : ℕ) → Sending to n ≡ Receiving number → ⊥
          not_receiving to n number same = cc
      by_deed number (deed.Cancel n done) at s = absurd s
      by_deed number (deed.Recall to n) at s = absurd s
      by_deed number (deed.Claim from n own) at s = absurd s
      by_deed number (deed.Ran own p) at s = absurd s

      by_recall : (to n : ℕ) (b : Bool) → (if b then None else Some (deed.Recall to n)) ≡ Some d → IsCommon x d
      by_recall to n true is = absurd (no_some d is)
      by_recall to n false is =
          absurd (false≢true
          (sym calm ∙ ap (λ (z : Deed). is_recalling_by z) (sym (same_some (deed.Recall to n) d is))))

      by_request : (r : Request) → live_in lines i x.deeds q ≡ Some r → cancel_at x r ≡ Some d → IsCommon x d
      by_request (Receiving number) lives makes =
          let s = begun lines i q x.deeds (Receiving number) lives in
          common_as _ makes (refl, by_deed number s.0 s.1 s.2)
      by_request (Sending to n) lives makes = by_recall to n (list_any (is_recall_by to n) x.deeds) makes

  common_start : (c : Command) →
      ((q : ℕ) → c ≡ command.Cancel q → start_in eager lines i x line c ≡ Some d → IsCommon x d) →
      is_claiming c ≡ false → start_in eager lines i x line c ≡ Some d → IsCommon x d
  common_start (command.Send to q tag ctx sync body) cancels claims starts = common_as _ starts (refl, tt)
  common_start (command.Recv q from tag ctx cap) cancels claims starts = common_as _ starts (refl, refl)
  common_start (command.Mrecv q m cap) cancels claims starts = absurd (false≢true (sym claims))
  common_start (command.Cancel q) cancels claims starts = cancels q refl starts
  common_start (command.Mprobe m from tag ctx) cancels claims starts = absurd (false≢true (sym claims))
  common_start (command.Wait q) cancels claims starts = absurd (no_some d starts)
  common_start (command.Test q) cancels claims starts = absurd (no_some d starts)
  common_start (command.Probe from tag ctx) cancels claims starts = absurd (no_some d starts)
  common_start (command.Await from tag ctx) cancels claims starts = absurd (no_some d starts)

-- what a receive does
pub common_receive : (eager : ℕ) (lines : List Line) (v : ℕ → Option Spot) (i : ℕ) (x : Spot) (line q : ℕ) (from : Peer)
    (tag : TagPick) (ctx cap : ℕ) (d : Deed) → IsDeedOf eager lines v i x line (command.Recv q from tag ctx cap) d →
    IsCommon x d
common_receive eager lines v i x line q from tag ctx cap d does =
    of_deed (λ (z : Deed). IsCommon x z) eager lines v i x line (command.Recv q from tag ctx cap) d
    (λ z starts. common_as eager lines i x line z _ starts (refl, refl)) (λ r. (refl, tt)) does

-- what a rank does that claims nothing, in a script without recalls
pub common_act : (eager : ℕ) (lines : List Line) → HasNoRecall lines → (v : ℕ → Option Spot) (i : ℕ) →
    HasNoClaim lines i → (x : Spot) → ((d : Deed) → Has x.deeds d → IsStarted lines i d) → IsOrderly x → (d : Deed) →
    IsAct eager lines v i x d → IsCommon x d
common_act eager lines none v i claims x started is d act =
    of_deed (λ (z : Deed). is_recalling_by z ≡ false → IsCommon x z) eager lines v i x act.line act.command d
    (λ z starts calm. common_start eager lines i x act.line z act.command
    (λ q same begins. common_cancel eager lines i x act.line z is q calm
    (ap (λ (c : Command). start_in eager lines i x act.line c) (sym same) ∙ begins))
    (none_of_rank lines i act.line act.command is_claiming claims act.at) starts)
    (λ r calm. (refl, tt)) act.deed_of (calm_deed eager lines none v i x started d act)

-- the next message of a rank has the number of those that came
module _ (ranks : ℕ) (v : ℕ → Option Spot) (i : ℕ) (x : Spot) (here : v i ≡ Some x) (a : Arrival)
    (next : IsNextMessage ranks v i a)
  where
    pub numbered : (a.env.from ≡ next.from) × (a.n ≡ came_of x next.from)
    numbered =
        by_sender (v next.from)
        (ap (λ (o : Option Spot). option_and_then (λ (spot : Spot). option_and_then (λ (other : Spot).
        let n = count_by (λ (b : Arrival). b.env.from == next.from) spot.came in
        option_and_then (arrival_by next.from n) (slice_get (filter (is_send_by i) other.deeds) n)) (v next.from)) o)
        (sym here) ∙ next.next)
      where
        of_arrival : (b : Arrival) → Some b ≡ Some a → (b.env.from ≡ next.from) × (b.n ≡ came_of x next.from) →
            (a.env.from ≡ next.from) × (a.n ≡ came_of x next.from)
        of_arrival b same is =
            subst (λ (c : Arrival). (c.env.from ≡ next.from) × (c.n ≡ came_of x next.from)) (same_some b a same) is

        by_kind : (d : Deed) → arrival_by next.from (came_of x next.from) d ≡ Some a →
            (a.env.from ≡ next.from) × (a.n ≡ came_of x next.from)
        by_kind (deed.Send to n tag ctx len how line) is = of_arrival _ is (refl, refl)
        by_kind (deed.Post r line) is = absurd (no_some a is)
        by_kind (deed.Match number from n cap line) is = absurd (no_some a is)
        by_kind (deed.Cancel number done) is = absurd (no_some a is)
        by_kind (deed.Recall to n) is = absurd (no_some a is)
        by_kind (deed.Claim from n line) is = absurd (no_some a is)
        by_kind (deed.Ran line r) is = absurd (no_some a is)

        by_deed : (o : Option Deed) → option_and_then (arrival_by next.from (came_of x next.from)) o ≡ Some a →
            (a.env.from ≡ next.from) × (a.n ≡ came_of x next.from)
        by_deed None is = absurd (no_some a is)
        by_deed (Some d) is = by_kind d is

        by_sender : (o : Option Spot) → option_and_then (λ (other : Spot).
            let n = count_by (λ (b : Arrival). b.env.from == next.from) x.came in
            option_and_then (arrival_by next.from n) (slice_get (filter (is_send_by i) other.deeds) n)) o ≡ Some a →
            (a.env.from ≡ next.from) × (a.n ≡ came_of x next.from)
        by_sender None is = absurd (no_some a is)
        by_sender (Some other) is =
            by_deed (slice_get (filter (is_send_by i) other.deeds) (came_of x next.from)) is

    pub new_number : a.n ≡ came_of x a.env.from
    new_number = numbered.1 ∙ ap (λ (k : ℕ). came_of x k) (sym numbered.0)

module _ (eager ranks : ℕ) (lines : List Line) (none : HasNoRecall lines) (i : ℕ) (claims : HasNoClaim lines i) where
  orderly_move : (s : List Spot) → AreStarted lines s → AreCalm s → (x : Spot) → slice_get s i ≡ Some x → (m : Move) →
      IsOrderly x → IsChoiceOf eager ranks lines (λ k. slice_get s k) i x m → IsOrderly (moved_at x m)
  orderly_move s stand calm x at (move.Act d) is act =
      let common = common_act eager lines none (λ k. slice_get s k) i claims x (stand i x at) is d act in
      orderly_deed x is d common.0 common.1
  orderly_move s stand calm x at (move.Arrive a) is next =
      orderly_arrival x is a (new_number ranks (λ k. slice_get s k) i x at a next)
  orderly_move s stand calm x at (move.Withdraw m) is recalled =
      absurd (no_withdrawal s calm i recalled.arrival.env.from recalled.arrival.n recalled.free)

  orderly_turn : (s : List Spot) → AreStarted lines s → AreCalm s → IsOrderlyAt i s → (t : Turn) →
      (turn : IsTurn eager ranks lines (λ k. slice_get s k) t) →
      IsOrderlyAt i (slice_set s t.rank (moved_at turn.spot t.by))
  orderly_turn s started calm are t turn y here = by_rank (t.rank == i) refl
    where
      by_rank : (b : Bool) → (t.rank == i) ≡ b → IsOrderly y
      by_rank true same =
          let e : t.rank ≡ i = same_number t.rank i same in
          let own : slice_get s i ≡ Some turn.spot = ap (λ (n : ℕ). slice_get s n) (sym e) ∙ turn.here in
          let is : moved_at turn.spot t.by ≡ y =
          same_some (moved_at turn.spot t.by) y
          (sym (get_set_same s t.rank (moved_at turn.spot t.by) (place_below s t.rank turn.spot turn.here))
          ∙ ap (λ (n : ℕ). slice_get (slice_set s t.rank (moved_at turn.spot t.by)) n) e ∙ here) in
          subst (λ (z : Spot). IsOrderly z) is
          (orderly_move s started calm turn.spot own t.by (are turn.spot own)
          (subst (λ (n : ℕ). IsChoiceOf eager ranks lines (λ k. slice_get s k) n turn.spot t.by) e turn.choice))
      by_rank false other =
          are y (sym (get_set_other s t.rank i (moved_at turn.spot t.by) (differ t.rank i other)) ∙ here)

  pub orderly_next : (s u : List Spot) → AreStarted lines s → AreCalm s → IsOrderlyAt i s →
      Goes eager ranks lines s u → IsOrderlyAt i u
  orderly_next s u started calm are go =
      subst (λ (w : List Spot). IsOrderlyAt i w) (sym go.3) (orderly_turn s started calm are go.0 go.2)

  first_orderly : IsOrderly first_spot
  first_orderly = record {
    common = refl;
    opens = λ number new. refl;
    posts = λ r line at. absurd (no_item at.0 (deed.Post r line) at.1);
    cancelled = λ number new. refl;
    paired = λ number new. refl;
    free = λ from n new. refl;
    taken = λ from n new. refl;
    came = λ from n new. refl;
    withdrawn = refl;
    own = λ q o at there same. absurd (no_item at.0 q at.1);
    same = λ q o line at there number. absurd (no_item there.0 o there.1);
    alone = λ q at. refl;
  }

  orderly_first : (n k : ℕ) (x : Spot) → slice_get (replicate n first_spot) k ≡ Some x → IsOrderly x
  orderly_first zero k x here = absurd (no_item k x here)
  orderly_first (suc n) zero x here = subst (λ (y : Spot). IsOrderly y) (same_some first_spot x here) first_orderly
  orderly_first (suc n) (suc k) x here = orderly_first n k x here

  way_orderly : (ts : List Turn) (s : List Spot) → IsWay eager ranks lines ts s → IsOrderlyAt i s
  way_orderly [] s way = subst (λ (w : List Spot). IsOrderlyAt i w) (sym way) (λ x here. orderly_first ranks i x here)
  way_orderly (t ∷ ts) s way =
      subst (λ (w : List Spot). IsOrderlyAt i w) (sym way.3)
      (orderly_turn way.0 (way_started eager ranks lines ts way.0 way.1)
      (way_calm eager ranks lines none ts way.0 way.1) (way_orderly ts way.0 way.1) t way.2)

  pub met_orderly : (s : List Spot) → IsMet eager ranks lines s → IsOrderlyAt i s
  met_orderly s met = way_orderly met.0 s met.1
