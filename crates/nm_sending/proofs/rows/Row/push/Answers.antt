use Rattle.std.proofs.Common.{◌≡◌, ◌+◌, ◌<◌, ◌^◌, ◌++◌, ◌∷◌, [], ◌∙◌, ap, arith, length, length-append}
use Rattle.std.proofs.Common.{None, Option, Bool, false, nat_eq, subst, sym}
use Rattle.std.specs.Map.{lookup}
use Rattle.nm_kept.specs.Keeping.{Keeping}
use Rattle.nm_sending.specs.declared.departures.Departure.{Departure}
use Rattle.nm_sending.specs.Rows.{RowKeeps, RowView, all_recalled, gone, is_settled, with_recalled}
use Rattle.nm_sending.proofs.GoneLemmas.{fresh-stays, gone-push}
use Rattle.nm_sending.proofs.RecalledLemmas.{length-all, push-all, unknown-next}
use Rattle.nm_sending.proofs.rows.Row.push.Goals as goal

pub invariant_of-self : goal.invariant_of-self
invariant_of-self c =
    let a = c.self.inside in
    let d = c.new-departure.result in
    let more : length (a.sent.items ++ d ∷ []) ≡ length a.sent.items + 1 = length-append a.sent.items (d ∷ []) in
    let stays' : is_settled (with_recalled d (lookup (nat_eq (0 + length a.sent.items)) a.recalls.entries)) ≡ false =
    ap (λ (r : Option (Option Bool)). is_settled (with_recalled d r))
    (unknown-next a.recalls.entries (length a.sent.items) c.self.invariant.known)
    ∙ ap (λ (x : Departure). is_settled (with_recalled x None)) c.new-departure.ensures
    ∙ fresh-stays c.args.how c.args.len in
    let seen : length (all_recalled a.recalls.entries 0 a.sent.items) + 1 < 2 ^ 64 =
    subst (λ (v : RowView). length v.items + 1 < 2 ^ 64) (sym c.self.view_is) c.requires.few in
    subst (λ (k : Keeping Departure). RowKeeps k a.recalls.entries)
    (sym c.push_reserved.ensures)
    (record {
      first = c.self.invariant.first
          ∙ sym (ap gone (push-all a.recalls.entries 0 a.sent.items d)
          ∙ gone-push (all_recalled a.recalls.entries 0 a.sent.items)
          (with_recalled d (lookup (nat_eq (0 + length a.sent.items)) a.recalls.entries)) stays');
      few = omega (arith, more, seen, length-all a.recalls.entries 0 a.sent.items);
      known = λ q is. let before = c.self.invariant.known q is in omega (arith, before, more);
    })

pub returns : goal.returns
returns c =
    let a = c.self.inside in
    let all = all_recalled a.recalls.entries 0 a.sent.items in
    rw (← c.self.view_is)
    (ap (λ (k : Keeping Departure). all_recalled a.recalls.entries 0 k.items) c.push_reserved.ensures
    ∙ push-all a.recalls.entries 0 a.sent.items c.new-departure.result
    ∙ ap (λ (r : Option (Option Bool)). all ++ with_recalled c.new-departure.result r ∷ [])
    (unknown-next a.recalls.entries (length a.sent.items) c.self.invariant.known)
    ∙ ap (λ (x : Departure). all ++ with_recalled x None ∷ []) c.new-departure.ensures)
