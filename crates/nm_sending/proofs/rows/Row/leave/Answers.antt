use Rattle.std.specs.Prelude.{IfSome}
use Rattle.std.proofs.Common.{◌≡◌, ◌<◌, ◌≤◌, ◌^◌, ◌∙◌, ℕ, List, Some, Option, ap, length, nat_eq}
use Rattle.std.proofs.Common.{refl, sym, subst, true, arith}
use Rattle.std.specs.List.{slice_get}
use Rattle.std.specs.Map.{lookup}
use Rattle.std.proofs.Math.ListN.{set}
use Rattle.std.proofs.lemmas.List.{length-set}
use Rattle.nm_kept.specs.Keeping.{Keeping}
use Rattle.nm_sending.specs.declared.departures.Departure.{Departure}
use Rattle.nm_sending.specs.Rows.{all_recalled, gone, with_recalled}
use Rattle.nm_sending.proofs.GoneLemmas.{gone-set, stays-held}
use Rattle.nm_sending.proofs.RecalledLemmas.{get-at, leave-all}
use Rattle.nm_sending.proofs.rows.Row.leave.Goals as goal

pub unwrap-departure-requires : goal.unwrap-departure-requires
unwrap-departure-requires c =
    let a = c.self.inside in
    c.get.ensures.held.1
    (stays-held a.recalls.entries a.sent c.args.n c.self.invariant.first (rw (← c.self.view_is) at c.requires))

pub let_go-requires-clause-few : goal.let_go-requires-clause-few
let_go-requires-clause-few c =
    let a = c.self.inside in
    subst (λ (k : Keeping Departure). length k.items < 2 ^ 64) (sym c.set.ensures)
    (subst (λ (k : ℕ). k < 2 ^ 64) (sym (length-set a.sent.items c.args.n c.left.result)) c.self.invariant.few)

pub let_go-requires-clause-low : goal.let_go-requires-clause-low
let_go-requires-clause-low c =
    let a = c.self.inside in
    let b = c.unwrap-departure.result.now in
    let at : slice_get a.sent.items c.args.n ≡ Some b =
    subst (λ (r : Option _). IfSome r (λ item. slice_get a.sent.items c.args.n ≡ Some item.now))
    c.unwrap-departure.ensures c.get.ensures.item in
    let seen : Departure = with_recalled b (lookup (nat_eq c.args.n) a.recalls.entries) in
    let there = get-at a.recalls.entries a.sent.items c.args.n b at in
    let more = gone-set (all_recalled a.recalls.entries 0 a.sent.items) c.args.n seen (record seen { out = true })
    there (λ _. refl) in
    let now : all_recalled a.recalls.entries 0 (set a.sent.items c.args.n c.left.result)
    ≡ set (all_recalled a.recalls.entries 0 a.sent.items) c.args.n (record seen { out = true }) =
    ap (λ (x : Departure). all_recalled a.recalls.entries 0 (set a.sent.items c.args.n x)) c.left.ensures
    ∙ leave-all a.recalls.entries a.sent.items c.args.n b at seen there in
    subst (λ (k : Keeping Departure). k.forgotten ≤ gone (all_recalled a.recalls.entries 0 k.items))
    (sym c.set.ensures)
    (subst (λ (l : List Departure). a.sent.forgotten ≤ gone l) (sym now)
    (omega (arith, c.self.invariant.first, more)))

pub invariant_of-self : goal.invariant_of-self
invariant_of-self c =
    let a = c.self.inside in
    let b = c.unwrap-departure.result.now in
    let b' : Departure = record b { out = true } in
    let at : slice_get a.sent.items c.args.n ≡ Some b =
    subst (λ (r : Option _). IfSome r (λ item. slice_get a.sent.items c.args.n ≡ Some item.now))
    c.unwrap-departure.ensures c.get.ensures.item in
    let now : c.let_go.new.sent.items ≡ set a.sent.items c.args.n b' =
    c.let_go.ensures.same ∙ ap (λ (k : Keeping Departure). k.items) c.set.ensures
    ∙ ap (λ (x : Departure). set a.sent.items c.args.n x) c.left.ensures in
    let many : length c.let_go.new.sent.items ≡ length a.sent.items =
    ap (λ (l : List Departure). length l) now ∙ length-set a.sent.items c.args.n b' in
    record {
      first = c.let_go.ensures.first
          ∙ ap (λ (l : List Departure). gone (all_recalled a.recalls.entries 0 l)) (sym c.let_go.ensures.same);
      few = subst (λ (k : ℕ). k < 2 ^ 64) (sym many) c.self.invariant.few;
      known = λ q is. subst (λ (k : ℕ). q < k) (sym many) (c.self.invariant.known q is);
    }

pub returns : goal.returns
returns c =
    let a = c.self.inside in
    let b = c.unwrap-departure.result.now in
    let at : slice_get a.sent.items c.args.n ≡ Some b =
    subst (λ (r : Option _). IfSome r (λ item. slice_get a.sent.items c.args.n ≡ Some item.now))
    c.unwrap-departure.ensures c.get.ensures.item in
    let now : c.let_go.new.sent.items ≡ set a.sent.items c.args.n (record b { out = true }) =
    c.let_go.ensures.same ∙ ap (λ (k : Keeping Departure). k.items) c.set.ensures
    ∙ ap (λ (x : Departure). set a.sent.items c.args.n x) c.left.ensures in
    rw (← c.self.view_is)
    (λ d there. ap (λ (l : List Departure). all_recalled a.recalls.entries 0 l) now
    ∙ leave-all a.recalls.entries a.sent.items c.args.n b at d there)
