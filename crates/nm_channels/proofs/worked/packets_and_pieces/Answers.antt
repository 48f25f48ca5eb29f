-- Each is worked out.
use Rattle.std.specs.Prelude.{refl}
use Rattle.nm_history.specs.Matching.{matched_pairs, is_free_message}
use Rattle.nm_history.specs.AtEach.{in_turn}
use Rattle.nm_channels.proofs.worked.packets_and_pieces.Goals as goal

pub returns-clause-empty : goal.returns-clause-empty
returns-clause-empty c = refl

pub returns-clause-two_bytes : goal.returns-clause-two_bytes
returns-clause-two_bytes c = refl

pub returns-clause-one_cell : goal.returns-clause-one_cell
returns-clause-one_cell c = refl

pub returns-clause-two_cells : goal.returns-clause-two_cells
returns-clause-two_cells c = refl

pub returns-clause-three_cells : goal.returns-clause-three_cells
returns-clause-three_cells c = refl

pub returns-clause-three_kinds : goal.returns-clause-three_kinds
returns-clause-three_kinds c = refl

pub returns-clause-asking : goal.returns-clause-asking
returns-clause-asking c = refl

pub returns-clause-no_piece : goal.returns-clause-no_piece
returns-clause-no_piece c = refl

pub returns-clause-one_piece : goal.returns-clause-one_piece
returns-clause-one_piece c = refl

pub returns-clause-three_pieces : goal.returns-clause-three_pieces
returns-clause-three_pieces c = refl

pub returns-clause-three_places : goal.returns-clause-three_places
returns-clause-three_places c = refl

pub returns-clause-eager_has_none : goal.returns-clause-eager_has_none
returns-clause-eager_has_none c = refl

pub returns-clause-packets_in_turn : goal.returns-clause-packets_in_turn
unfolding in_turn matched_pairs is_free_message
returns-clause-packets_in_turn c = refl

pub returns-clause-pieces_in_turn : goal.returns-clause-pieces_in_turn
unfolding in_turn matched_pairs is_free_message
returns-clause-pieces_in_turn c = refl
