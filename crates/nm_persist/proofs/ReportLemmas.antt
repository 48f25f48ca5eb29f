-- What lines ask, by their ranks.
use Rattle.std.proofs.Common.{◌≡◌, ℕ, ◌+◌, ◌<◌, true, nat_le, List, [], ◌∷◌, ◌++◌, length}
use Rattle.std.proofs.Common.{sym, ap, ◌∙◌, append_assoc, arith}
use Rattle.std.proofs.lemmas.Bool.{and_parts, leb-true}
use Rattle.std.proofs.lemmas.List.{append-nil}
use Rattle.nm_plans.specs.declared.lines.PlanCommand.{PlanCommand}
use Rattle.nm_plans.specs.declared.lines.PlanCommand.TheVariants.{SendInit, RecvInit, PsendInit}
use Rattle.nm_plans.specs.declared.lines.PlanCommand.TheVariants.{PrecvInit, Fill, Start, Ready}
use Rattle.nm_plans.specs.declared.lines.PlanCommand.TheVariants.{Arrived, Wait}
use Rattle.nm_plans.specs.declared.lines.PlanLine.{PlanLine}
use Rattle.nm_plans.specs.Grammar.{is_in_range}
use Rattle.nm_plans.specs.PlanRequests.{owner_of, request_at}
use Rattle.nm_persist.specs.declared.asked.Asked.{Asked}
use Rattle.nm_persist.specs.Report.{asked_behind, asked_by, first_name}
use Rattle.nm_persist.proofs.ReadyLemmas.{name_small}

asked_behind-more : (before lines : List PlanLine) (line : PlanLine)
    → asked_behind before (lines ++ line ∷ [])
    ≡ asked_behind before lines
    ++ asked_by (length (before ++ lines) + 2) line (request_at (before ++ lines) (owner_of line)) ∷ []
asked_behind-more before [] line =
    ap (λ (bs : List PlanLine). asked_by (length bs + 2) line (request_at bs (owner_of line)) ∷ [])
    (sym (append-nil before))
asked_behind-more before (first ∷ lines) line =
    let here = asked_by (length before + 2) first (request_at before (owner_of first)) in
    let others = asked_behind (before ++ first ∷ []) lines in
    ap (λ (rest : List Asked). here ∷ rest) (asked_behind-more (before ++ first ∷ []) lines line)
    ∙ ap (λ (bs : List PlanLine). here ∷ (others
    ++ asked_by (length bs + 2) line (request_at bs (owner_of line)) ∷ []))
    (append_assoc before (first ∷ []) lines)

pub asked-more : (lines : List PlanLine) (line : PlanLine) (number : ℕ) → number ≡ length lines + 2
    → asked_behind [] (lines ++ line ∷ [])
    ≡ asked_behind [] lines ++ asked_by number line (request_at lines (owner_of line)) ∷ []
asked-more lines line number is =
    asked_behind-more [] lines line
    ∙ ap (λ n. asked_behind [] lines ++ asked_by n line (request_at lines (owner_of line)) ∷ []) (sym is)

-- the names that a command in range is about are small
pub first_small : (ranks : ℕ) (c : PlanCommand) → is_in_range ranks c ≡ true → first_name c < 65536
first_small ranks (SendInit p to tag ctx body) h = omega (arith, name_small ranks (SendInit p to tag ctx body) h)
first_small ranks (RecvInit p from tag ctx cap) h = omega (arith, name_small ranks (RecvInit p from tag ctx cap) h)
first_small ranks (PsendInit p to tag ctx parts body) h =
    omega (arith, name_small ranks (PsendInit p to tag ctx parts body) h)
first_small ranks (PrecvInit p from tag ctx parts cap) h =
    omega (arith, name_small ranks (PrecvInit p from tag ctx parts cap) h)
first_small ranks (Fill p body) h = omega (arith, name_small ranks (Fill p body) h)
first_small ranks (Start p) h = omega (arith, name_small ranks (Start p) h)
first_small ranks (Wait p) h = omega (arith, name_small ranks (Wait p) h)
first_small ranks (Ready p k) h =
    let both = and_parts (nat_le p 4095) _ h in
    omega (arith, leb-true p 4095 both.0, leb-true k 15 (and_parts (nat_le k 15) _ both.1).0)
first_small ranks (Arrived p k) h =
    let both = and_parts (nat_le p 4095) _ h in
    omega (arith, leb-true p 4095 both.0, leb-true k 15 (and_parts (nat_le k 15) _ both.1).0)
