-- Two states that pass all tests.
use Rattle.std.proofs.Common.{sym, ◌∙◌}
use Rattle.nm_explored.proofs.TellLemmas.{ok_weaker}
use Rattle.nm_hangs.proofs.FitLemmas.{fit_alike}
use Rattle.nm_hangs.proofs.alike.go_alike.Goals as goal

pub returns-then-fits : goal.returns-then-fits
returns-then-fits c =
    ok_weaker _ _
    (λ same follows so.
    fit_alike c.args.lines.now c.args.i c.args.a.now c.args.b.now c.args.numbers.now
    (sym c.fits.ensures ∙ c.if-fits.true)
    c.requires (follows so))
    c.did_same.result c.did_same.ensures
