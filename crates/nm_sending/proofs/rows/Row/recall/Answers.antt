use Rattle.std.proofs.Common.{◌≡◌, None, ◌∙◌, ap, nat_eq, cond, Some, refl, sym, not, ℕ}
use Rattle.std.specs.Map.{lookup}
use Rattle.nm_kept.proofs.EntryLemmas.{lookup-more}
use Rattle.nm_sending.proofs.GoneLemmas.{gone-recalled}
use Rattle.nm_sending.proofs.RecalledLemmas.{known-more, passing, recalled-all, unrecalled-at, within-all}
use Rattle.nm_sending.proofs.rows.Row.recall.Goals as goal

pub add-requires-clause-is_new : goal.add-requires-clause-is_new
add-requires-clause-is_new c =
    let a = c.self.inside in
    unrecalled-at a.recalls.entries a.sent.items c.args.n (rw (← c.self.view_is) at c.requires.is_new)

pub invariant_of-self : goal.invariant_of-self
invariant_of-self c =
    let a = c.self.inside in
    let h = rw (← c.self.view_is) at c.requires.is_new in
    let none = unrecalled-at a.recalls.entries a.sent.items c.args.n h in
    let step : (q : ℕ) → lookup (nat_eq q) c.add.new.self.entries
    ≡ cond (nat_eq c.args.n q) (Some None) (lookup (nat_eq q) a.recalls.entries) =
    λ q. ap (lookup (nat_eq q)) c.add.ensures ∙ lookup-more a.recalls.entries c.args.n None none q in
    let p = passing (λ d. not d.recalled) _ h in
    record {
      first = c.self.invariant.first
          ∙ sym (gone-recalled a.recalls.entries c.add.new.self.entries a.sent.items c.args.n step h);
      few = c.self.invariant.few;
      known = known-more a.recalls.entries a.sent.items c.args.n c.add.new.self.entries None step
          (within-all a.recalls.entries a.sent.items c.args.n p.0 p.1) c.self.invariant.known;
    }

pub returns : goal.returns
returns c =
    let a = c.self.inside in
    let none = unrecalled-at a.recalls.entries a.sent.items c.args.n (rw (← c.self.view_is) at c.requires.is_new) in
    let step : (q : ℕ) → lookup (nat_eq q) c.add.new.self.entries
    ≡ cond (nat_eq c.args.n q) (Some None) (lookup (nat_eq q) a.recalls.entries) =
    λ q. ap (lookup (nat_eq q)) c.add.ensures ∙ lookup-more a.recalls.entries c.args.n None none q in
    rw (← c.self.view_is)
    (recalled-all a.recalls.entries a.sent.items c.args.n c.add.new.self.entries None step refl none)
