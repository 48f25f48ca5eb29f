use Rattle.std.proofs.Common.{◌≡◌, take}
use Rattle.std.specs.Prelude.{option_map}
use Rattle.nm_lookups.specs.AskedFor.{asked_request, meant_by}
use Rattle.nm_lookups.proofs.UpToLemmas.{none_at, some_at}
use Rattle.nm_lookups.proofs.asked.asked.Asked.request.Goals as goal

pub returns-in-Some : goal.returns-in-Some
returns-in-Some c = λ commands h e asked here.
    some_at (λ x. option_map meant_by x ≡ asked_request commands (take c.args.k h) e.what) c.deref.result.now c.args.k
    c.in-Some.request.now c.in-Some.ensures.lookup.3.0 (c.in-Some.ensures.lookup.3.1 c.in-Some.request.now)
    (rw c.deref.ensures.value (asked.requests c.args.k e here))

pub returns-in-None : goal.returns-in-None
returns-in-None c = λ commands h e asked here.
    absurd (none_at (λ x. option_map meant_by x ≡ asked_request commands
    (take c.args.k h) e.what) c.deref.result.now c.args.k
    c.in-None.ensures.lookup.3 (rw c.deref.ensures.value (asked.requests c.args.k e here)))
