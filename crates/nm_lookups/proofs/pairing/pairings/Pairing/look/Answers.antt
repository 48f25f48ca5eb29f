use Rattle.nm_lookups.proofs.WalkLemmas.{look_missing, look_noted}
use Rattle.nm_lookups.proofs.pairing.pairings.Pairing.look.Goals as goal

pub returns-in_err-get : goal.returns-in_err-get
returns-in_err-get c = λ rank lines h tells e is.
    absurd (look_missing c.args.self.now.looks.items c.deref.result.now c.args.k _ c.deref.ensures.value
    c.in_err-get.ensures.lookup.3 (tells.looks c.args.k e is))

pub returns : goal.returns
returns c = λ rank lines h tells e is.
    look_noted c.args.self.now.looks.items c.deref.result.now c.args.k c.in_ok-get.field-0.now _ c.deref.ensures.value
    c.in_ok-get.ensures.lookup.1 (tells.looks c.args.k e is)
