use Rattle.nm_check.proofs.marks.is_withdrawn.Goals as goal

pub is_earlier-requires : goal.is_earlier-requires
is_earlier-requires c = record {
  rising = c.requires.rising;
  firsts = c.requires.places.incoming.settled.withdrawn;
}

pub is_earlier-requires-else-done : goal.is_earlier-requires-else-done
is_earlier-requires-else-done c = record {
  rising = c.requires.rising;
  firsts = c.requires.places.incoming.settled.refused;
}

pub returns-then-done : goal.returns-then-done
returns-then-done c = rw c.if-done.true c.is_earlier.ensures

pub returns-else-done : goal.returns-else-done
returns-else-done c = rw c.if-done.false c.is_earlier-else-done.ensures
