-- The events at the ends of the ways of withdrawals.
use Rattle.std.proofs.Common.{◌≡◌, ℕ, ◌+◌, suc, List, [], ◌∷◌, Bool, true, false, cond, refl, sym, subst, arith}
use Rattle.std.proofs.Common.{flat_map, Option, Some, None, inl, inr}
use Rattle.std.specs.List.{AllByRecursion, Contains, slice_get}
use Rattle.nm_history.specs.declared.events.Event.{Event}
use Rattle.nm_history.specs.declared.events.Happened.{Happened}
use Rattle.nm_history.specs.declared.events.Happened.TheVariants.{Undone, Withdraw}
use Rattle.nm_report.specs.declared.accounts.RankAccount.{RankAccount}
use Rattle.nm_diagram.specs.declared.frames.Span.{Span}
use Rattle.nm_diagram.specs.declared.anchors.Anchor.{Anchor}
use Rattle.nm_diagram.specs.declared.anchors.Anchor.TheVariants as anchor
use Rattle.nm_diagram.specs.Anchors.{found_by, is_anchor}
use Rattle.nm_diagram.specs.Diagrams.{from_lane}
use Rattle.nm_diagram.specs.Frames.{is_shown}
use Rattle.nm_diagram.specs.Joined.{IsAt}
use Rattle.nm_diagram.specs.Returns.{IsOfWithdrawal, all_returns, return_from, return_of, returns_at, returns_of}
use Rattle.nm_types.proofs.ListLemmas.{all_append as both}
use Rattle.nm_diagram.proofs.ArrowLemmas.{found_behind, here, there}
use Rattle.nm_diagram.proofs.FrameLemmas.{shown-in}

-- an event that is shown is where it is
is_at : (span : Span) (account : RankAccount) (e : Event) (what : Anchor) → Contains account.history.events e →
    is_shown span e ≡ true → is_anchor what e.what ≡ true → IsAt span account.history.events what e.stamp
is_at span account e what among shown is =
    record { event = e; among = among; is_it = is; at = refl; shown = shown-in span e shown }

its_withdrawal : (from n : ℕ) (done : Bool) → is_anchor (anchor.Withdraw from n) (Withdraw from n done) ≡ true
its_withdrawal from n done = grind arith

its_answer : (to n : ℕ) (done : Bool) → is_anchor (anchor.Undone to n) (Undone to n done) ≡ true
its_answer to n done = grind arith

-- the way of a withdrawal, by the rank that asked and the asking that was found
asked : (span : Span) (rank from n : ℕ) (done : Bool) (ranks : List RankAccount) (goal : RankAccount) (e : Event) →
    slice_get ranks rank ≡ Some goal → Contains goal.history.events e → e.what ≡ Withdraw from n done →
    is_shown span e ≡ true → (o : Option RankAccount) → slice_get ranks from ≡ o → (s : Option ℕ) →
    found_by span (anchor.Recall rank n) o ≡ s →
    AllByRecursion (IsOfWithdrawal span ranks) (return_from from rank e.stamp n s)
asked span rank from n done ranks goal e got among is shown o start None found = tt
asked span rank from n done ranks goal e got among is shown None start (Some s) found = absurd cc
asked span rank from n done ranks goal e got among is shown (Some account) start (Some s) found =
    let there_is = subst (λ w. is_anchor (anchor.Withdraw from n) w ≡ true) (sym is) (its_withdrawal from n done) in (
      record {
        start = account;
        goal = goal;
        comes_from = start;
        goes_to = got;
        goes = inl (
          found_behind span s (anchor.Recall rank n) account.history.events 20000 found,
          is_at span goal e (anchor.Withdraw from n) among shown there_is,
        );
      },
      tt,
    )

-- and that of its answer
answered : (span : Span) (rank from n : ℕ) (done : Bool) (ranks : List RankAccount) (goal : RankAccount) (e : Event) →
    slice_get ranks rank ≡ Some goal → Contains goal.history.events e → e.what ≡ Undone from n done →
    is_shown span e ≡ true → (o : Option RankAccount) → slice_get ranks from ≡ o → (s : Option ℕ) →
    found_by span (anchor.Withdraw rank n) o ≡ s →
    AllByRecursion (IsOfWithdrawal span ranks) (return_from from rank e.stamp n s)
answered span rank from n done ranks goal e got among is shown o start None found = tt
answered span rank from n done ranks goal e got among is shown None start (Some s) found = absurd cc
answered span rank from n done ranks goal e got among is shown (Some account) start (Some s) found =
    let there_is = subst (λ w. is_anchor (anchor.Undone from n) w ≡ true) (sym is) (its_answer from n done) in (
      record {
        start = account;
        goal = goal;
        comes_from = start;
        goes_to = got;
        goes = inr (
          found_behind span s (anchor.Withdraw rank n) account.history.events 20000 found,
          is_at span goal e (anchor.Undone from n) among shown there_is,
        );
      },
      tt,
    )

by_what : (span : Span) (rank : ℕ) (ranks : List RankAccount) (goal : RankAccount) (e : Event) →
    slice_get ranks rank ≡ Some goal → Contains goal.history.events e → is_shown span e ≡ true → (w : Happened) →
    e.what ≡ w → AllByRecursion (IsOfWithdrawal span ranks) (return_of span ranks rank e.stamp w)
by_what span rank ranks goal e got among shown (Withdraw from n done) is =
    asked span rank from n done ranks goal e got among is shown (slice_get ranks from) refl
    (found_by span (anchor.Recall rank n) (slice_get ranks from)) refl
by_what span rank ranks goal e got among shown (Undone to n done) is =
    answered span rank to n done ranks goal e got among is shown (slice_get ranks to) refl
    (found_by span (anchor.Withdraw rank n) (slice_get ranks to)) refl
by_what span rank ranks goal e got among shown _ is = tt

by_shown : (span : Span) (rank : ℕ) (ranks : List RankAccount) (goal : RankAccount) (e : Event) →
    slice_get ranks rank ≡ Some goal → Contains goal.history.events e → (b : Bool) → is_shown span e ≡ b →
    AllByRecursion (IsOfWithdrawal span ranks) (cond b (return_of span ranks rank e.stamp e.what) [])
by_shown span rank ranks goal e got among true shown = by_what span rank ranks goal e got among shown e.what refl
by_shown span rank ranks goal e got among false shown = tt

of_events : (span : Span) (rank : ℕ) (ranks : List RankAccount) (goal : RankAccount) (events : List Event) →
    slice_get ranks rank ≡ Some goal → ((e : Event) → Contains events e → Contains goal.history.events e) →
    AllByRecursion (IsOfWithdrawal span ranks) (flat_map (returns_at span ranks rank) events)
of_events span rank ranks goal [] got among = tt
of_events span rank ranks goal (e ∷ events) got among =
    both (IsOfWithdrawal span ranks) (returns_at span ranks rank e) (flat_map (returns_at span ranks rank) events)
    (by_shown span rank ranks goal e got (among e (here e events)) (is_shown span e) refl)
    (of_events span rank ranks goal events got (λ x c. among x (there e x events c)))

of_ranks : (span : Span) (rank : ℕ) (ranks accounts : List RankAccount) →
    ((i : ℕ) (account : RankAccount) → slice_get accounts i ≡ Some account →
    slice_get ranks (rank + i) ≡ Some account) →
    AllByRecursion (IsOfWithdrawal span ranks) (from_lane (returns_of span ranks) rank accounts)
of_ranks span rank ranks [] into = tt
of_ranks span rank ranks (account ∷ accounts) into =
    let at : rank + 0 ≡ rank = omega arith in
    let got = subst (λ k. slice_get ranks k ≡ Some account) at (into 0 account refl) in
    let next : (i : ℕ) → rank + suc i ≡ rank + 1 + i = λ i. omega arith in
    both (IsOfWithdrawal span ranks) (returns_of span ranks rank account)
    (from_lane (returns_of span ranks) (rank + 1) accounts)
    (of_events span rank ranks account account.history.events got (λ e c. c))
    (of_ranks span (rank + 1) ranks accounts
    (λ i x h. subst (λ k. slice_get ranks k ≡ Some x) (next i) (into (suc i) x h)))

pub all_returns-are : (span : Span) (ranks : List RankAccount) →
    AllByRecursion (IsOfWithdrawal span ranks) (all_returns span ranks)
all_returns-are span ranks =
    let at : (i : ℕ) → i ≡ 0 + i = λ i. omega arith in
    of_ranks span 0 ranks ranks (λ i x h. subst (λ k. slice_get ranks k ≡ Some x) (at i) h)
