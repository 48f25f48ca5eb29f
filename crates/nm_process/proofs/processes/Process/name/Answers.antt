-- A name is given to a request.
use Rattle.std.proofs.Common.{ℕ, ◌≢◌, Some, sym, subst}
use Rattle.std.specs.Prelude.{nat_eq}
use Rattle.std.specs.Map.{lookup}
use Rattle.nm_process.specs.Names.{IsOlder}
use Rattle.nm_process.specs.Processes.{ProcessView}
use Rattle.nm_process.proofs.NameLemmas.{given_named}
use Rattle.nm_process.proofs.processes.Process.name.Goals as goal

pub invariant_of-self-2 : goal.invariant_of-self-2
invariant_of-self-2 g c =
    let p = c.self.inside in
    let i = c.self.invariant in (
      given_named p.rank.requests p.requests c.insert.new.self c.args.q c.args.request i.0
          (subst (λ (v : ProcessView). IsOlder v.rank.requests c.args.request)
          (sym c.self.view_is) c.requires.older)
          (subst (λ (v : ProcessView). (k : ℕ) → lookup (nat_eq k) v.names ≢ Some c.args.request)
          (sym c.self.view_is) c.requires.unnamed)
          c.in_ok-insert.ensures.ok,
      i.1,
      i.2,
    )
