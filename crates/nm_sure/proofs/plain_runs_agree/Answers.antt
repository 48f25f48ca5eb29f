-- The law is a lemma, by the laws below.
use Rattle.nm_sure.proofs.Texts.{done_same, report_same, told_same}
use Rattle.nm_sure.proofs.plain_runs_agree.Goals as goal

pub returns-clause-text : goal.returns-clause-text
returns-clause-text c shape lines script plain run is =
    report_same shape lines run c.commands_stand_at_their_lines.ensures.own c.rank_run_begins.ensures
    c.bodies_have_their_length.ensures c.reports_say_what_was_told.ensures script plain is

pub returns-clause-told : goal.returns-clause-told
returns-clause-told c shape lines run script plain is = (
  told_same shape lines run c.commands_stand_at_their_lines.ensures.own c.rank_run_begins.ensures
      c.bodies_have_their_length.ensures c.reports_say_what_was_told.ensures script plain is,
  done_same shape lines run c.commands_stand_at_their_lines.ensures.own c.rank_run_begins.ensures
      c.bodies_have_their_length.ensures c.reports_say_what_was_told.ensures script plain is,
)
