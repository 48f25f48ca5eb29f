-- What no command changes of a rank.
use Rattle.std.proofs.Common.{◌≡◌, ℕ}
use Rattle.std.proofs.Common.{[], length, refl, ◌∙◌, ap}
use Rattle.std.proofs.Common.{⊎_elim}
use Rattle.nm_types.specs.declared.answers.Answer.{Answer}
use Rattle.nm_types.specs.declared.answers.Answer.TheVariants as answer
use Rattle.nm_types.specs.declared.scripts.Command.{Command}
use Rattle.nm_types.specs.declared.scripts.Command.TheVariants as command
use Rattle.nm_types.specs.Bodies.{bytes_of}
use Rattle.nm_history.specs.Answers.{seen}
use Rattle.nm_history.specs.Sends.{receives, sends}
use Rattle.nm_request.specs.declared.Kind.{Kind}
use Rattle.nm_request.specs.declared.Kind.TheVariants as kind
use Rattle.nm_request.specs.declared.Req.{Req}
use Rattle.nm_rank.specs.Calls.{TakesNone}
use Rattle.nm_rank.specs.Ranks.{RankView}
use Rattle.nm_rank.specs.Sends.{next_send}
use Rattle.nm_rank.specs.Steps.{StartsMatched, StartsReceive, StartsSend}
use Rattle.nm_process.specs.declared.steps.Step.{Step}
use Rattle.nm_process.specs.declared.steps.Step.TheVariants.{Waits, Ran as Took}
use Rattle.nm_process.specs.Processes.{ProcessView}
use Rattle.nm_process.specs.Starts.{HasAnswered, HasEnded}
use Rattle.nm_process.specs.Starts.{HasStarted, HasTried}

-- a command changes neither the rank's number nor the sizes of the run
abbrev pub KeepsRun : ProcessView → ProcessView → Type 0
KeepsRun a b = (b.rank.me ≡ a.rank.me) × (b.rank.sizes ≡ a.rank.sizes)

answered_run : (a mid b : ProcessView) (line : ℕ) (x : Answer) → mid.rank.me ≡ a.rank.me →
    mid.rank.sizes ≡ a.rank.sizes →
    HasAnswered mid b line x → KeepsRun a b
answered_run a mid b line x me sizes has = (has.records.takes.me ∙ me, has.records.takes.sizes ∙ sizes)

alone_run : (a b : ProcessView) (line : ℕ) (x : Answer) → HasAnswered a b line x → KeepsRun a b
alone_run a b line x has = answered_run a a b line x refl refl has

started_run : (Call : Req → RankView → RankView → Type 0) (k : Kind) (a b : ProcessView) (q line : ℕ) →
    ((r : Req) (v : RankView) → Call r a.rank v → TakesNone a.rank v) → HasStarted Call k a b q line → KeepsRun a b
started_run Call k a b q line none p =
    let takes = none p.begun.request p.mid.rank p.begun.starts in
    answered_run a p.mid b line answer.Started takes.me takes.sizes p.answered

ended_run : (a b : ProcessView) (q line : ℕ) → HasEnded a b q line → KeepsRun a b
ended_run a b q line p = answered_run a p.mid b line p.answer (ap (λ (v : RankView). v.me) p.ends.finished.same)
    (ap (λ (v : RankView). v.sizes) p.ends.finished.same) p.answered

pub tried_run : (a b : ProcessView) (c : Command) (line : ℕ) (s : Step) → HasTried a b c line s →
    KeepsRun a b
tried_run a b (command.Send to q tag ctx sync body) line s t =
    ⊎_elim (λ p. alone_run a b line answer.Busy p.answered)
    (λ p. started_run (StartsSend (next_send a.rank to tag ctx body sync line) body)
    (kind.Send to (length (sends a.rank.events to))) a b q line
    (λ r v is. (is.started (λ s. bytes_of body) refl).takes) p.0) t.1
tried_run a b (command.Recv q from tag ctx room) line s t =
    ⊎_elim (λ p. alone_run a b line answer.Busy p.answered)
    (λ p. started_run (StartsReceive from tag ctx room line) (kind.Receive (length (receives a.rank.events))) a b q
    line (λ r v is. (is.started (λ s. [])).takes) p.0) t.1
tried_run a b (command.Wait q) line Waits t =
    (ap (λ (v : ProcessView). v.rank.me) t.1, ap (λ (v : ProcessView). v.rank.sizes) t.1)
tried_run a b (command.Wait q) line Took t = ⊎_elim (λ p. alone_run a b line answer.Null p.answered)
    (λ p. ended_run a b q line p) t
tried_run a b (command.Test q) line s t = ⊎_elim (λ p. alone_run a b line answer.Null p.answered)
    (λ rest. ⊎_elim (λ p. ended_run a b q line p) (λ p. alone_run a b line answer.No p.answered) rest) t.1
tried_run a b (command.Probe from tag ctx) line s t = alone_run a b line _ t.1
tried_run a b (command.Await from tag ctx) line Waits t =
    (ap (λ (v : ProcessView). v.rank.me) t.1, ap (λ (v : ProcessView). v.rank.sizes) t.1)
tried_run a b (command.Await from tag ctx) line Took t = alone_run a b line (seen t.message) t.answered
tried_run a b (command.Cancel q) line s t = ⊎_elim (λ p. alone_run a b line answer.Null p.answered)
    (λ p. answered_run a p.mid b line _ p.cancels.takes.me p.cancels.takes.sizes p.answered) t.1
tried_run a b (command.Mprobe m from tag ctx) line s t =
    ⊎_elim (λ p. alone_run a b line answer.Busy p.answered)
    (λ rest. ⊎_elim (λ p. alone_run a b line answer.Nothing p.answered)
    (λ p. answered_run a p.mid b line (seen p.message) p.claims.takes.me p.claims.takes.sizes p.answered) rest) t.1
tried_run a b (command.Mrecv q m room) line s t = ⊎_elim (λ p. alone_run a b line answer.Busy p.answered)
    (λ rest. ⊎_elim (λ p. alone_run a b line answer.Null p.answered)
    (λ p. started_run (StartsMatched p.message.from p.message.n room line)
    (kind.Receive (length (receives a.rank.events))) a b q line (λ r v is. (is.started (λ s. [])).takes)
    p.started) rest) t.1
