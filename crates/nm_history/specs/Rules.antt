-- The rules of a rank's run that its commands play no part in. MPI 3.1, chapter 3.
use Rattle.std.specs.Prelude.{◌≡◌, ℕ, false, not, IsTrue, List}
use Rattle.std.specs.List.{list_any}
use Rattle.nm_history.specs.declared.events.Event.{Event}
use Rattle.nm_history.specs.declared.events.Happened.{Happened}
use Rattle.nm_history.specs.declared.events.Happened.TheVariants.{Claim, Match, Cancel, Recall}
use Rattle.nm_history.specs.AtEach.{AtEachAfter}
use Rattle.nm_history.specs.Happens.{happened, is_send, is_recall}
use Rattle.nm_history.specs.Matching.{matched_pairs, is_of_receive, is_claimed, is_free_message}
use Rattle.nm_history.specs.RankRun.{NumberAt, WholeAt, EndAt}

-- The receive of a claimed message finds it claimed, and not yet received.
abbrev pub MatchedAt : List Event → Happened → Type 0
MatchedAt before (Match number from n cap line) =
    IsTrue (is_claimed before (matched_pairs before) from n)
MatchedAt before _ = Unit {0}

-- A matched probe claims a message that is free.
abbrev pub ClaimedAt : List Event → Happened → Type 0
ClaimedAt before (Claim from n line) =
    IsTrue (is_free_message before (matched_pairs before) from n)
ClaimedAt before _ = Unit {0}

-- A receive is cancelled where it is unpaired, and a send is recalled once, after it was sent.
abbrev pub CancelledAt : List Event → Happened → Type 0
CancelledAt before (Cancel number done) =
    done ≡ not (list_any (is_of_receive number) (matched_pairs before))
CancelledAt before (Recall to n) =
    (happened (is_recall to n) before ≡ false) × IsTrue (happened (is_send to n) before)
CancelledAt before _ = Unit {0}

-- what happened may come after the events before it, whatever the commands are
pub record IsRightAt (ranks : ℕ) (before : List Event) (what : Happened) : Type 0 where
  pub numbers : NumberAt ranks before what
  pub matches : MatchedAt before what
  pub claims : ClaimedAt before what
  pub cancels : CancelledAt before what
  pub wholes : WholeAt before what
  pub ends : EndAt before what

-- each of these events may come after the events before it, of which the first ones are given
abbrev pub AreRight : ℕ → List Event → List Event → Type 0
AreRight ranks before events = AtEachAfter (λ h e. IsRightAt ranks h e.what) before events
