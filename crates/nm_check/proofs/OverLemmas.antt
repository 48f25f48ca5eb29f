-- What holds of each send to each rank, by the events of the sender.
use Rattle.std.proofs.Common.{◌≡◌, ℕ, ◌==◌, ◌&&◌, Bool, true, false, not, cond, Option, Some, None, List, [], ◌∷◌}
use Rattle.std.proofs.Common.{refl, sym, subst}
use Rattle.std.specs.Prelude.{IfSome, IsTrue, filter_map}
use Rattle.std.specs.Bool.{OnTrue}
use Rattle.std.specs.List.{AllByRecursion, cons_option, filter, slice_get}
use Rattle.nm_types.specs.declared.messages.How.{How}
use Rattle.nm_history.specs.declared.events.Event.{Event}
use Rattle.nm_history.specs.declared.events.Happened.{Happened}
use Rattle.nm_history.specs.declared.events.Happened.TheVariants.{Send}
use Rattle.nm_history.specs.Completion.{is_taken}
use Rattle.nm_history.specs.Happens.{happened, is_claim}
use Rattle.nm_history.specs.Quiescence.{EachRank, Ended, is_kept_back, is_over}
use Rattle.nm_history.specs.Sends.{Sent, is_ask, sends, sent_of}
use Rattle.nm_history.proofs.OnceLemmas.{eqb_self}
use Rattle.nm_lookups.specs.Deciding.{Decides}
use Rattle.nm_check.specs.declared.rest.firsts.EventRule.TheVariants.{Asked}
use Rattle.nm_check.specs.RestBreaks.{KeepsSend, SendKeeps}
use Rattle.nm_types.proofs.NumberLemmas.{same_number}

module _ (P : ℕ → List Event → Sent → Type 0) (ranks : List Ended) where
  to_rank : (j : ℕ) (rank : Ended) (rest : List Sent) (o : Option Sent) → slice_get ranks j ≡ Some rank →
      IfSome o (λ s. IfSome (slice_get ranks s.to) (λ r. P s.to r.events s)) → AllByRecursion (P j rank.events)
      (filter (λ s. s.to == j) rest) →
      AllByRecursion (P j rank.events) (filter (λ s. s.to == j) (cons_option o rest))
  to_rank j rank rest None is here more = more
  to_rank j rank rest (Some s) is here more = by_rank (s.to == j) refl
    where
      by_rank : (b : Bool) → (s.to == j) ≡ b → AllByRecursion (P j rank.events)
          (cond b (s ∷ filter (λ s. s.to == j) rest) (filter (λ s. s.to == j) rest))
      by_rank true same =
          let e : s.to ≡ j = same_number s.to j same in (
            subst (λ (o : Option Ended). IfSome o (λ r. P j r.events s)) is
                (subst (λ (k : ℕ). IfSome (slice_get ranks k) (λ r. P k r.events s)) e here),
            more,
          )
      by_rank false same = more

  sends_keep : (h : List Event) (j : ℕ) (rank : Ended) → slice_get ranks j ≡ Some rank →
      AllByRecursion (λ (e : Event). SendKeeps P ranks e.stamp e.what) h → AllByRecursion (P j rank.events) (sends h j)
  sends_keep [] j rank is each = tt
  sends_keep (e ∷ h) j rank is each =
      to_rank j rank (filter_map (λ (e : Event). sent_of e.stamp e.what) h) (sent_of e.stamp e.what) is each.0
      (sends_keep h j rank is each.1)

  -- where the events of a sender keep the rule, its sends to each rank do
  pub of_events : (h : List Event) → AllByRecursion (λ (e : Event). SendKeeps P ranks e.stamp e.what) h →
      EachRank (λ j rank. AllByRecursion (P j rank.events) (sends h j)) ranks
  of_events h each j = by_rank (slice_get ranks j) refl
    where
      by_rank : (o : Option Ended) → slice_get ranks j ≡ o →
          IfSome o (λ rank. AllByRecursion (P j rank.events) (sends h j))
      by_rank None is = tt
      by_rank (Some rank) is = sends_keep h j rank is each

  first_of : (s : Sent) (rest : List Sent) (rank : Ended) → AllByRecursion (P s.to rank.events)
      (filter (λ t. t.to == s.to) (s ∷ rest)) → P s.to rank.events s
  first_of s rest rank each =
      (subst (λ (b : Bool). AllByRecursion (P s.to rank.events)
      (cond b (s ∷ filter (λ t. t.to == s.to) rest) (filter (λ t. t.to == s.to) rest)))
      (eqb_self s.to) each).0

  rest_of : (j : ℕ) (rank : Ended) (rest : List Sent) (o : Option Sent) → AllByRecursion (P j rank.events)
      (filter (λ s. s.to == j) (cons_option o rest)) →
      AllByRecursion (P j rank.events) (filter (λ s. s.to == j) rest)
  rest_of j rank rest None each = each
  rest_of j rank rest (Some s) each = by_rank (s.to == j) each
    where
      by_rank : (b : Bool) → AllByRecursion (P j rank.events)
          (cond b (s ∷ filter (λ s. s.to == j) rest) (filter (λ s. s.to == j) rest)) →
          AllByRecursion (P j rank.events) (filter (λ s. s.to == j) rest)
      by_rank true each = each.1
      by_rank false each = each

  here_keeps : (o : Option Sent) (rest : List Sent) →
      EachRank (λ j rank. AllByRecursion (P j rank.events) (filter (λ s. s.to == j) (cons_option o rest))) ranks →
      IfSome o (λ s. IfSome (slice_get ranks s.to) (λ r. P s.to r.events s))
  here_keeps None rest each = tt
  here_keeps (Some s) rest each = by_rank (slice_get ranks s.to) (each s.to)
    where
      by_rank : (o : Option Ended) →
          IfSome o (λ rank. AllByRecursion (P s.to rank.events) (filter (λ t. t.to == s.to) (s ∷ rest))) →
          IfSome o (λ rank. P s.to rank.events s)
      by_rank None each = tt
      by_rank (Some rank) each = first_of s rest rank each

  -- .. and the other way round
  pub of_sends : (h : List Event) → EachRank (λ j rank. AllByRecursion (P j rank.events) (sends h j)) ranks →
      AllByRecursion (λ (e : Event). SendKeeps P ranks e.stamp e.what) h
  of_sends [] each = tt
  of_sends (e ∷ h) each =
      let rest : List Sent = filter_map (λ (e : Event). sent_of e.stamp e.what) h in
      (here_keeps (sent_of e.stamp e.what) rest each, of_sends h (λ j. fewer j (slice_get ranks j) (each j)))
    where
      fewer : (j : ℕ) (o : Option Ended) → IfSome o (λ rank. AllByRecursion (P j rank.events) (sends (e ∷ h) j)) →
          IfSome o (λ rank. AllByRecursion (P j rank.events) (sends h j))
      fewer j None each = tt
      fewer j (Some rank) each = rest_of j rank (filter_map (λ (e : Event). sent_of e.stamp e.what) h)
          (sent_of e.stamp e.what) each

-- what happened is no send
pub no_send : (P : ℕ → List Event → Sent → Type 0) (ranks : List Ended) (stamp : ℕ) (what : Happened) →
    ((to n tag ctx len : ℕ) (how : How) (line : ℕ) → what ≡ Send to n tag ctx len how line → ⊥) →
    SendKeeps P ranks stamp what
no_send P ranks stamp (Send to n tag ctx len how line) not = absurd (not to n tag ctx len how line refl)
no_send P ranks stamp what not = tt

-- a message that was sent by asking is over or kept back, by what was looked up
pub asked_decided : (i : ℕ) (hi : List Event) (j : ℕ) (hj : List Event) (n : ℕ) (how : How)
    (r taken claimed over kept : Bool) →
    is_ask how ≡ true → taken ≡ is_taken hj i n → claimed ≡ happened (is_claim i n) hj → over ≡ is_over i j hi hj n →
    kept ≡ is_kept_back i j hi hj n →
    Decides r (OnTrue taken (IsTrue over) × OnTrue (claimed && not taken) (IsTrue kept)) →
    Decides r (KeepsSend Asked i hi j hj n how)
asked_decided i hi j hj n how r taken claimed over kept a t c o k right =
    subst (λ (x : Bool). Decides r (OnTrue (x && is_taken hj i n) (IsTrue (is_over i j hi hj n))
    × OnTrue (x && (happened (is_claim i n) hj && not (is_taken hj i n))) (IsTrue (is_kept_back i j hi hj n)))) (sym a)
    (subst (λ (x : Bool). Decides r (OnTrue x (IsTrue (is_over i j hi hj n))
    × OnTrue (happened (is_claim i n) hj && not x) (IsTrue (is_kept_back i j hi hj n)))) t
    (subst (λ (x : Bool). Decides r (OnTrue taken (IsTrue (is_over i j hi hj n))
    × OnTrue (x && not taken) (IsTrue (is_kept_back i j hi hj n)))) c
    (subst (λ (x : Bool). Decides r (OnTrue taken (IsTrue x)
    × OnTrue (claimed && not taken) (IsTrue (is_kept_back i j hi hj n)))) o
    (subst (λ (x : Bool). Decides r (OnTrue taken (IsTrue over) × OnTrue (claimed && not taken) (IsTrue x))) k
    right))))
