-- No byte is the front of any text.
use Rattle.std.proofs.Common.{sym, ap, ◌∙◌}
use Rattle.nm_chain.specs.declared.table.table.Entry.{Entry}
use Rattle.nm_chain.specs.Rule.{from}
use Rattle.uses.specs.QueueCrossings.{bytes_in}
use Rattle.uses.proofs.QueueFronts.{puts_none}
use Rattle.uses.specs.declared.letters.Letter.{Letter}
use Rattle.uses.proofs.queue.crossing.nothing_yet.Goals as goal

pub returns-clause-puts : goal.returns-clause-puts
returns-clause-puts c text = let new = c.requires.first.2 in
    puts_none _ text (ap (λ (e : Entry Letter). e.put) new) (ap (λ (e : Entry Letter). e.put_box) new)

pub returns-clause-gets : goal.returns-clause-gets
returns-clause-gets c = let new = c.requires.second.0.2 in
    c.requires.second.1 ∙ sym (ap (λ (e : Entry Letter). bytes_in (from 0 e.got)) new)
