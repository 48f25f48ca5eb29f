-- It polled where the next command looks at what came.
use Rattle.std.proofs.Common.{◌≡◌, ℕ, Bool, cond, inl, refl, sym, ap, ◌∙◌, subst, arith}
use Rattle.std.proofs.lemmas.Result.{IfOk-weaker}
use Rattle.nm_world.specs.Looks.{Polled, PolledUnlessWorn, looks_next}
use Rattle.nm_world.proofs.Grows.{port_same}
use Rattle.nm_world.proofs.Looks.{polled_none}
use Rattle.nm_world.proofs.Moves.{moves_none}
use Rattle.nm_world.proofs.Playing.{at_work}
use Rattle.nm_world.proofs.players.Player.look.Goals as goal

pub returns-then-not-next_looks : goal.returns-then-not-next_looks
returns-then-not-next_looks g c =
    let x = c.args.self.now in
    let a = x.actor in
    let s = c.requires.1.1.1 in
    let n = a.process.rank.sizes.ranks in
    record {
      source = refl;
      bound = omega arith;
      moves = moves_none (record g.here { fabric = c.args.f.now }) a s.ports;
      polled = λ commands last given.
          let found = c.next_looks.ensures commands (at_work g.S.Source.shows g.S.Source.gives c.args.f.now g.here.rings
          x commands last s given) in
          let next : 0 ≡ looks_next commands a.process = ap (λ (b : Bool). cond b 1 0)
          (sym c.if-not-next_looks.true ∙ found) in
          inl (subst (λ (k : ℕ). Polled n k a.port a.port) next (polled_none n a.port a.port (port_same a.port)));
    }

pub take_next-requires : goal.take_next-requires
take_next-requires g c lifetimes outlive = (outlive.0, (outlive.1, c.requires.1.1.1.ports))

pub returns : goal.returns
returns g c =
    let x = c.args.self.now in
    let a = x.actor in
    let s = c.requires.1.1.1 in
    record {
      source = refl;
      bound = c.take_next.ensures.bound;
      moves = c.take_next.ensures.moves;
      polled = IfOk-weaker c.take_next.result _ _ (λ moved polled commands last given.
          let found = c.next_looks.ensures commands (at_work g.S.Source.shows g.S.Source.gives c.args.f.now g.here.rings
          x commands last s given) in
          let next : 1 ≡ looks_next commands a.process = ap (λ (b : Bool). cond b 1 0)
          (sym c.if-not-next_looks.false ∙ found) in
          subst (λ (k : ℕ). PolledUnlessWorn a.process.rank.sizes.ranks k a c.take_next.new.self) next polled)
          c.take_next.ensures.polled;
    }
