use Rattle.std.proofs.Common.{Bool, Option, [], ◌∷◌, cond, ◌∙◌, ap, take}
use Rattle.nm_history.specs.RankRun.{claims_since}
use Rattle.nm_match.specs.declared.names.Message.{Message}
use Rattle.nm_check_rank.specs.Claimings.{claims_due, message_due}
use Rattle.nm_check_rank.specs.Runs.{commands_in}
use Rattle.nm_check_rank.proofs.ClaimingLemmas.{no_claim_due}
use Rattle.nm_check_rank.proofs.paired.claimings.claim_due.Goals as goal

pub returns-in-Ran : goal.returns-in-Ran
returns-in-Ran c =
    let before = take c.args.k c.args.run.now.events.now in
    rw c.in-Ran.is
    (c.claims_due.ensures
    ∙ ap (λ (b : Bool). claims_due (cond b (c.in-Ran.line ∷ []) []) (claims_since before))
    c.calls_for_claim-called.ensures)

pub returns-in-Claim : goal.returns-in-Claim
returns-in-Claim c =
    let w = c.in-Claim in
    rw w.is
    (c.message_due.ensures
    ∙ ap (λ (o : Option Message). message_due o (record { rank = w.from; n = w.n }))
    (c.claim_called-called.ensures c.args.run.now.events.now c.args.e.now w.from w.n c.requires.run.tables.tells
    c.requires.here w.is))

pub returns-in_default : goal.returns-in_default
returns-in_default c =
    no_claim_due (commands_in c.args.run.now) (take c.args.k c.args.run.now.events.now) c.args.e.now.what
    c.in_default.not-Ran c.in_default.not-Claim
