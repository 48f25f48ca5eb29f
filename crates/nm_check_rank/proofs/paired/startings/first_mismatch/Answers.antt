use Rattle.std.proofs.Common.{◌≡◌, ℕ, List, length, ◌∙◌, sym, ap, subst, arith}
use Rattle.nm_types.specs.declared.scripts.Command.{Command}
use Rattle.nm_types.specs.Bodies.{body_len}
use Rattle.nm_history.specs.declared.events.Happened.{Happened}
use Rattle.nm_history.specs.declared.events.Happened.TheVariants as what
use Rattle.nm_history.specs.RankRun.{how_of, start_of}
use Rattle.nm_lookups.specs.AskedFor.{handle_of}
use Rattle.nm_check_rank.specs.Arguments.{IsFirstMismatch, arguments}
use Rattle.nm_check_rank.proofs.ManyLemmas.{same_head}
use Rattle.nm_check_rank.proofs.StartingLemmas.{received_of, starts_nothing}
use Rattle.nm_check_rank.proofs.paired.startings.first_mismatch.Goals as goal

pub returns-in-Send : goal.returns-in-Send
returns-in-Send c = λ limit commands before w held started is.
    let s = c.in-Send in
    let len = body_len s.body in
    subst (λ (x : Happened). IsFirstMismatch (arguments x) (arguments c.args.what.now) c.send_mismatch.result)
    (same_head (ap (λ (d : Command). start_of limit commands before c.args.line d) (sym s.is) ∙ is))
    (subst (λ (n : ℕ). IsFirstMismatch
    (arguments (what.Send s.to 0 s.tag s.ctx n (how_of limit s.sync len) c.args.line)) (arguments c.args.what.now)
    c.send_mismatch.result) c.length_of.ensures (c.send_mismatch.ensures (how_of limit s.sync len)))

pub returns-in-Recv : goal.returns-in-Recv
returns-in-Recv c = λ limit commands before w held started is.
    subst (λ (x : Happened). IsFirstMismatch (arguments x) (arguments c.args.what.now) c.post_mismatch.result)
    (same_head (ap (λ (d : Command). start_of limit commands before c.args.line d) (sym c.in-Recv.is) ∙ is))
    (c.post_mismatch.ensures started)

pub returns-in-Mrecv : goal.returns-in-Mrecv
returns-in-Mrecv c = λ limit commands before w held started is.
    let received = received_of _ c.args.message c.in-Mrecv.cap c.args.line w (held _ (ap handle_of c.in-Mrecv.is))
    (ap (λ (d : Command). start_of limit commands before c.args.line d) (sym c.in-Mrecv.is) ∙ is) in
    subst (λ (x : Happened). IsFirstMismatch (arguments x) (arguments c.args.what.now) c.held_mismatch.result)
    received.2
    (c.held_mismatch.ensures received.0 received.1)

pub returns-in_default : goal.returns-in_default
returns-in_default c = λ limit commands before w held started is.
    let none = starts_nothing limit commands before c.args.line c.args.command.now c.in_default.not-Send
    c.in_default.not-Recv c.in_default.not-Mrecv in
    let both : 0 ≡ 1 = ap (λ (ws : List Happened). length ws) (sym none ∙ is) in absurd (omega (arith, both))
