-- The law is a lemma, by the laws below.
use Rattle.nm_persist.proofs.Lawfully.{keeps}
use Rattle.nm_persist.proofs.runs.receives_show_their_sends.Goals as goal

pub returns : goal.returns
returns c shape lines run plan is rank account here =
    keeps shape lines run c.commands_stand_at_their_lines.ensures.own c.rank_run_begins.ensures
    c.bodies_have_their_length.ensures plan is rank account here
