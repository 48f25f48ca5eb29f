-- Each is a lemma on what is told of a rank.
use Rattle.nm_history.proofs.Agreeing.{agrees-none, agrees-packet, agrees-elsewhere, agrees-piece, agrees-other}
use Rattle.nm_history.proofs.protocol.laws.known_agrees.Goals as goal

pub returns-clause-none : goal.returns-clause-none
returns-clause-none c = agrees-none

pub returns-clause-packet : goal.returns-clause-packet
returns-clause-packet c = agrees-packet

pub returns-clause-elsewhere : goal.returns-clause-elsewhere
returns-clause-elsewhere c = agrees-elsewhere

pub returns-clause-piece : goal.returns-clause-piece
returns-clause-piece c = agrees-piece

pub returns-clause-other : goal.returns-clause-other
returns-clause-other c = agrees-other
