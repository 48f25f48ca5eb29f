use Rattle.nm_lookups.proofs.PairingLemmas.{tables_keep}
use Rattle.nm_lookups.proofs.pairing.pairings.Tables.keep.Goals as goal

pub returns : goal.returns
returns c = λ h e are place made.
    tables_keep h e c.args.self.now _ c.args.pair made c.in_ok-push.ensures.items
    (rw (← place) c.in_ok-note.ensures) (rw (← place) c.in_ok-note-2.ensures) are
