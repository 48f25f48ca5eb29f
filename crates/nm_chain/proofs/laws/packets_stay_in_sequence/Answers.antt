use Rattle.nm_chain.proofs.SequenceLemmas.{put_by_box, put_by_cell, got_by_box, got_by_cell}
use Rattle.nm_chain.proofs.laws.packets_stay_in_sequence.Goals as goal

pub returns-clause-put_by_box : goal.returns-clause-put_by_box
returns-clause-put_by_box c = put_by_box

pub returns-clause-put_by_cell : goal.returns-clause-put_by_cell
returns-clause-put_by_cell c = put_by_cell

pub returns-clause-got_by_box : goal.returns-clause-got_by_box
returns-clause-got_by_box c = got_by_box

pub returns-clause-got_by_cell : goal.returns-clause-got_by_cell
returns-clause-got_by_cell c = got_by_cell
