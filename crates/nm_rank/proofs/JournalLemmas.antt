-- The stamps of a journal, one event after another.
use Rattle.std.proofs.Common.{◌≡◌, ℕ, ◌+◌, ◌<◌, ◌≤◌, List, [], ◌∷◌, ◌++◌, sym, subst, arith}
use Rattle.nm_types.specs.declared.limits.TheConstants.{MAX_STAMP}
use Rattle.nm_history.specs.declared.events.Event.{Event}
use Rattle.nm_history.specs.declared.events.Happened.{Happened}
use Rattle.nm_history.specs.AtEach.{AtEach}
use Rattle.nm_history.specs.RankRun.{StampAt}
use Rattle.nm_history.proofs.AtEachLemmas.{AtEach-push}
use Rattle.nm_history.specs.Clock.{stamped}
use Rattle.nm_rank.specs.Journals.{IsJournal}
use Rattle.nm_history.proofs.EarlierLemmas.{last_stamp-push}

pub begins : (h : List Event) (clock : ℕ) → h ≡ [] → clock ≡ 0 → IsJournal h clock
unfolding AtEach
begins h clock none start = rw (none, start) (record {
  stamps = tt;
  reached = omega arith;
  in_time = omega arith;
})

-- a later clock
pub raised : (h : List Event) (clock later : ℕ) → IsJournal h clock → clock ≤ later →
    later ≤ MAX_STAMP → IsJournal h later
raised h clock later is past early = record {
  stamps = is.stamps;
  reached = let reached = is.reached in omega arith;
  in_time = early;
}

-- one event more
pub added : (h h' : List Event) (clock : ℕ) (what : Happened) → IsJournal h clock →
    clock < MAX_STAMP → h' ≡ h ++ stamped clock (what ∷ []) → IsJournal h' (clock + 1)
added h h' clock what is early grown =
    let e : Event = record { stamp = clock + 1; what = what } in
    let last = last_stamp-push h e in
    subst (λ (k : List Event). IsJournal k (clock + 1)) (sym grown) (record {
      stamps = AtEach-push (λ before e. StampAt before e.stamp) h e is.stamps
          (let reached = is.reached in omega arith);
      reached = omega arith;
      in_time = omega arith;
    })
