-- One moment more.
use Rattle.std.proofs.Common.{ℕ, List, [], ◌∷◌, ◌++◌, sym, subst, append-nil, append_assoc}
use Rattle.nm_types.specs.Commands.{Numbered}
use Rattle.nm_history.specs.Sends.{Sent}
use Rattle.nm_channels.specs.Moments.{LogEntry, EachMomentAfter}
use Rattle.nm_channels.specs.Sound.{AreSound, MayHappen}

each_push : (R : List LogEntry → LogEntry → Type 0) (before log : List LogEntry) (m : LogEntry) →
    EachMomentAfter R before log → R (before ++ log) m → EachMomentAfter R before (log ++ m ∷ [])
each_push R before [] m each r = (subst (λ (k : List LogEntry). R k m) (append-nil before) r, tt)
each_push R before (x ∷ log) m each r = (
  each.0,
  each_push R (before ++ x ∷ []) log m each.1
      (subst (λ (k : List LogEntry). R k m) (sym (append_assoc before (x ∷ []) log)) r),
)

pub sound-push : (eager : ℕ) (bodies : Sent → List ℕ) (commands : List Numbered) (log : List LogEntry) (m : LogEntry) →
    AreSound eager bodies commands log → MayHappen eager bodies commands log m → AreSound eager bodies commands
    (log ++ m ∷ [])
sound-push eager bodies commands log m sound may = each_push (MayHappen eager bodies commands) [] log m sound may
