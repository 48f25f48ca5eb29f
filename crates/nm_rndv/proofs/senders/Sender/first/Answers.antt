use Rattle.std.proofs.Common.{◌≡◌, ◌∙◌, ℕ, Bor, Some, None, ap, sym, nat_eq, slice_get}
use Rattle.std.specs.Map.{lookup}
use Rattle.std.specs.Option.{option_map}
use Rattle.nm_kept.proofs.EntryLemmas.{kept_there}
use Rattle.nm_rndv.specs.Grants.{Granted, has_bytes, is_open}
use Rattle.nm_rndv.proofs.GrantLemmas.{first_open, none_open, open_has_bytes, open_in}
use Rattle.nm_rndv.proofs.senders.Sender.first.Goals as goal

pub returns-in_err-n-clause-first : goal.returns-in_err-n-clause-first
returns-in_err-n-clause-first c =
    let es = c.self.inside.grants.entries in
    let none : slice_get (open_in es) 0 ≡ None =
    ap (λ ns. slice_get ns 0) (sym c.self.invariant.numbers) ∙ sym c.in_err-n.ensures in
    rw (← c.self.view_is) (ap (option_map (λ (e : ℕ × Bor Granted). (e.0, e.1.now))) c.from_residual.ensures
    ∙ sym (none_open es none))

pub returns-in_err-grant-clause-first : goal.returns-in_err-grant-clause-first
returns-in_err-grant-clause-first c =
    let es = c.self.inside.grants.entries in let n = c.in_ok-n.n in
    let at : slice_get (open_in es) 0 ≡ Some n =
    ap (λ ns. slice_get ns 0) (sym c.self.invariant.numbers) ∙ sym c.in_ok-n.ensures in
    let f = first_open es c.self.invariant.live.distinct n at in
    let live : lookup (nat_eq n) c.self.inside.grants.live ≡ Some f.0 = c.self.invariant.live.there n
    ∙ kept_there has_bytes (lookup (nat_eq n) es) f.0 f.2 (open_has_bytes f.0 f.3) in
    absurd (let both : None ≡ Some f.0 = c.in_err-grant.ensures ∙ live in cc)

pub returns-clause-first : goal.returns-clause-first
returns-clause-first c =
    let es = c.self.inside.grants.entries in let n = c.in_ok-n.n in
    let at : slice_get (open_in es) 0 ≡ Some n =
    ap (λ ns. slice_get ns 0) (sym c.self.invariant.numbers) ∙ sym c.in_ok-n.ensures in
    let f = first_open es c.self.invariant.live.distinct n at in
    let live : lookup (nat_eq n) c.self.inside.grants.live ≡ Some f.0 = c.self.invariant.live.there n
    ∙ kept_there has_bytes (lookup (nat_eq n) es) f.0 f.2 (open_has_bytes f.0 f.3) in
    let both : Some c.in_ok-grant.grant.now ≡ Some f.0 = c.in_ok-grant.ensures ∙ live in
    let same : c.in_ok-grant.grant.now ≡ f.0 = cc in
    rw (← c.self.view_is) (ap (λ (g : Granted). Some (n, g)) same ∙ sym f.1)

pub returns-clause-unfinished : goal.returns-clause-unfinished
returns-clause-unfinished c =
    let es = c.self.inside.grants.entries in let n = c.in_ok-n.n in
    let at : slice_get (open_in es) 0 ≡ Some n =
    ap (λ ns. slice_get ns 0) (sym c.self.invariant.numbers) ∙ sym c.in_ok-n.ensures in
    let f = first_open es c.self.invariant.live.distinct n at in
    let live : lookup (nat_eq n) c.self.inside.grants.live ≡ Some f.0 = c.self.invariant.live.there n
    ∙ kept_there has_bytes (lookup (nat_eq n) es) f.0 f.2 (open_has_bytes f.0 f.3) in
    let both : Some c.in_ok-grant.grant.now ≡ Some f.0 = c.in_ok-grant.ensures ∙ live in
    let same : c.in_ok-grant.grant.now ≡ f.0 = cc in
    ap is_open same ∙ f.3
