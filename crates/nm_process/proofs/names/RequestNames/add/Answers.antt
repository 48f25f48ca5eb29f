-- A new name stands behind the others.
use Rattle.std.proofs.Common.{◌≡◌, ℕ, ◌∙◌, sym, ap, subst, List}
use Rattle.std.proofs.Common.{cond, length, nat_eq, arith}
use Rattle.nm_request.specs.declared.Req.{Req}
use Rattle.nm_process.specs.Sparse.{StandAt, place_of_name}
use Rattle.nm_process.proofs.SparseLemmas.{push_found, push_stand, room, stand_ahead}
use Rattle.nm_process.proofs.names.RequestNames.add.Goals as goal

pub overflow_cast-len : goal.overflow_cast-len
overflow_cast-len c =
    omega (
      arith,
      room (place_of_name c.self.inside.places) c.self.inside.entries.items c.args.q c.self.invariant
          (rw (c.self.view_is) c.requires.new) c.ranges.q.fits,
      c.self.inside.entries.ok.0,
      c.len.ensures,
    )

pub invariant_of-self-in_err-push : goal.invariant_of-self-in_err-push
invariant_of-self-in_err-push c =
    let names = c.self.inside.entries.items in
    let last : c.len.result ≡ length names = omega (arith, c.len.ensures, c.self.inside.entries.ok.0) in
    subst (λ (es : List (ℕ × Req)). StandAt (place_of_name c.set.new.self) es) (sym c.in_err-push.ensures.items)
    (stand_ahead (place_of_name c.self.inside.places) (place_of_name c.set.new.self) names c.self.invariant c.args.q
    (rw (c.self.view_is) c.requires.new) (λ p. c.in_ok-set.ensures.ok p
    ∙ ap (λ (n : ℕ). cond (nat_eq c.args.q p) n (place_of_name c.self.inside.places p)) last))

pub invariant_of-self-2 : goal.invariant_of-self-2
invariant_of-self-2 c =
    let names = c.self.inside.entries.items in
    let last : c.len.result ≡ length names = omega (arith, c.len.ensures, c.self.inside.entries.ok.0) in
    subst (λ (es : List (ℕ × Req)). StandAt (place_of_name c.set.new.self) es) (sym c.in_ok-push.ensures.items)
    (push_stand (place_of_name c.self.inside.places) (place_of_name c.set.new.self) names c.self.invariant c.args.q
    (rw (c.self.view_is) c.requires.new) (λ p. c.in_ok-set.ensures.ok p
    ∙ ap (λ (n : ℕ). cond (nat_eq c.args.q p) n (place_of_name c.self.inside.places p)) last)
    c.args.request c.ranges.q.fits)

pub returns-clause-ok : goal.returns-clause-ok
returns-clause-ok c p = rw (← c.self.view_is) (rw (c.in_ok-push.ensures.items)
    (push_found c.self.inside.entries.items c.args.q c.args.request (rw (c.self.view_is) c.requires.new) p))
