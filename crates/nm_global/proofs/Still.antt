-- What a moment of the rank's own leaves as it was.
use Rattle.std.proofs.Common.{◌≡◌, ℕ, ◌+◌, List, [], ◌∷◌, ◌++◌, length, length-append, ap, refl, ◌∙◌, arith}
use Rattle.std.proofs.lemmas.List.{append_assoc}
use Rattle.nm_types.specs.Commands.{Numbered}
use Rattle.nm_types.specs.Sizes.{Sizes}
use Rattle.nm_history.specs.declared.events.Event.{Event}
use Rattle.nm_rank.specs.Ranks.{RankView}
use Rattle.nm_channels.specs.Moments.{LogEntry, history_of}
use Rattle.nm_channels.specs.Moments.Cause.{Acted}
use Rattle.nm_global.proofs.Shown.{pulled_still, taken_still}
use Rattle.nm_global.specs.ProcessInvariant.{GoesOn, GhostHistory, Same, with_moment}
use Rattle.nm_channels.proofs.Delivering.{history-push}

-- a moment's events come behind the history
pub history_longer : (log : List LogEntry) (m : LogEntry) →
    length (history_of (log ++ m ∷ [])) ≡ length (history_of log) + length m.events
history_longer [] m = length-append m.events [] ∙ omega arith
history_longer (x ∷ log) m =
    let rest = history_longer log m in
    let one = length-append x.events (history_of (log ++ m ∷ [])) in
    let two = length-append x.events (history_of log) in
    omega (arith, rest, one, two)

-- nothing comes by what a rank does by itself
pub own_same : (past : GhostHistory) (events : List Event) →
    Same past (with_moment past (record { cause = Acted; events = events }))
own_same past events =
    record {
      taken = λ from. taken_still from past.log (record { cause = Acted; events = events }) refl;
      pulled = λ from. pulled_still from past.log (record { cause = Acted; events = events }) refl;
      left = λ to. refl;
      front = (events, history-push past.log (record { cause = Acted; events = events }));
    }

pub same_on : (a b c : GhostHistory) → Same a b → Same b c → Same a c
same_on a b c one two =
    record {
      taken = λ from. two.taken from ∙ one.taken from;
      pulled = λ from. two.pulled from ∙ one.pulled from;
      left = λ to. two.left to ∙ one.left to;
      front = (
        one.front.0 ++ two.front.0,
        two.front.1 ∙ ap (λ (h : List Event). h ++ two.front.0) one.front.1
            ∙ append_assoc (history_of a.log) one.front.0 two.front.0,
      );
    }

pub then_on : (shape : Sizes) (commands : List Numbered) (i : ℕ) (v : RankView) (a b : GhostHistory) → Same a b →
    GoesOn shape commands i v b → GoesOn shape commands i v a
then_on shape commands i v a b same on =
    record {
      after = on.after;
      is = on.is;
      same = same_on a b on.after same on.same;
      grew =
          let first = ap length same.front.1 ∙ length-append (history_of a.log) same.front.0 in
          let then = on.grew in omega (arith, first, then);
    }
