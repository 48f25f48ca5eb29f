-- One more player at its place.
use Rattle.std.proofs.Common.{◌≡◌, ℕ, ◌+◌, ◌<◌, suc, ◌∷◌, ◌++◌, [], List, length, map, ap, sym, subst, ◌∙◌, arith}
use Rattle.std.proofs.Common.{length-append, append_assoc, append-nil}
use Rattle.std.proofs.lemmas.List.{map-append, nil_from_length}
use Rattle.std.specs.List.{All}
use Rattle.std.specs.Vec.Iter.{into_iter_items}
use Rattle.nm_cells.specs.declared.port.Port.{Port}
use Rattle.nm_cells.specs.Ports.{IsNew}
use Rattle.nm_copyring.specs.declared.port.RingPort.{RingPort}
use Rattle.nm_copyring.specs.Ports as ring_port
use Rattle.nm_world.specs.declared.players.Player.{Player}
use Rattle.nm_world.specs.Players.{BeginsAt}
use Rattle.nm_world.specs.Runs.{InPlace, NewInOrder}
use Rattle.nm_world.proofs.Runs.{in_place_push}
use Rattle.nm_types.specs.declared.packets.Packet.{Packet}
use Rattle.nm_world.proofs.whole.cast.Goals as goal

-- what is known of the first, and of the others
first_of_all : {A : Type 0} (P : A → Type 0) (xs rest : List A) (x : A) → xs ≡ x ∷ rest → All P xs → P x × All P rest
first_of_all {A} P xs rest x split all =
    let is = subst (λ (ys : List A). All P ys) split all in
    (is 0 x (omega arith), λ i d low. is (suc i) d (omega (arith, low)))

pub loop-port-init : goal.loop-port-init
loop-port-init g c =
    let shows = g.S.Source.shows in
    let gives = g.S.Source.gives in
    let shape = c.args.shape in
    let ports = c.into_iter-port-iterator.ensures.into_iter_gives.0 in
    let rings = c.into_iter-rings.ensures.rest in
    let sources = c.into_iter-sources.ensures.rest in
    let none = c.new-players.ensures.items in
    let ps = into_iter_items c.into_iter-port-iterator.result in
    let qs = into_iter_items c.into_iter-rings.result in
    let ss = into_iter_items c.into_iter-sources.result in
    let no_players = ap length none in
    let so_many = ap length ports in
    record {
      ranks = subst (λ (xs : List (Port Packet)). All (λ (p : Port Packet). p.rank < shape.ranks) xs) (sym ports)
          c.requires.ranks;
      pairs = ap length rings ∙ c.requires.pairs ∙ sym (ap length ports);
      owns = ap length sources ∙ c.requires.owns ∙ sym (ap length ports);
      begins = subst (λ (xs : List _). All (BeginsAt shows gives shape.ranks) xs) (sym sources) c.requires.begins;
      sources = ap (λ (xs : List (Player _ _)). map (λ (x : Player _ _). x.source) xs ++ ss) none ∙ sources;
      place = λ f r sizes new. (
        subst (λ (xs : List (Player _ _)). NewInOrder f r (length xs) ps qs) (sym none)
            (subst (λ (xs : List (Port Packet)). NewInOrder f r 0 xs qs) (sym ports)
            (subst (λ (xs : List RingPort). NewInOrder f r 0 c.args.ports.items xs) (sym rings) new)),
        subst (λ (xs : List (Player _ _)). InPlace shows gives shape f r 0 xs) (sym none) tt,
      );
      count = omega (arith, no_players, so_many);
    }

pub new-requires : goal.new-requires
new-requires g c =
    let rest = into_iter_items c.next.new.self in
    let split : into_iter_items c.loop-port.port-iterator ≡ c.in-Some.port ∷ rest = c.in-Some.ensures.steps.0 in
    let others = into_iter_items c.next-in-loop-port-2.new.self in
    let other : into_iter_items c.loop-port.sources ≡ c.in-Some-next-2.source ∷ others =
    c.in-Some-next-2.ensures.items in
    let begins = (first_of_all (BeginsAt g.S.Source.shows g.S.Source.gives c.args.shape.ranks)
    (into_iter_items c.loop-port.sources) others c.in-Some-next-2.source other c.loop-port.invariant.begins).0 in
    record {
      rank = (first_of_all (λ (p : Port Packet). p.rank < c.args.shape.ranks)
          (into_iter_items c.loop-port.port-iterator)
          rest c.in-Some.port split c.loop-port.invariant.ranks).0;
      begins = (begins.at, begins.ranks);
      told = begins.told;
      gives = begins.some;
    }

pub loop-port-preserved : goal.loop-port-preserved
loop-port-preserved g c =
    let shows = g.S.Source.shows in
    let gives = g.S.Source.gives in
    let before = c.loop-port.invariant in
    let shape = c.args.shape in
    let players = c.loop-port.players.items in
    let k = length players in
    let rest = into_iter_items c.next.new.self in
    let others = into_iter_items c.next-in-loop-port.new.self in
    let port = c.in-Some.port in
    let ring = c.in-Some-next.ring in
    let player = c.in_ok-player.player in
    let split : into_iter_items c.loop-port.port-iterator ≡ port ∷ rest = c.in-Some.ensures.steps.0 in
    let other : into_iter_items c.loop-port.rings ≡ ring ∷ others = c.in-Some-next.ensures.items in
    let source = c.in-Some-next-2.source in
    let sources = into_iter_items c.next-in-loop-port-2.new.self in
    let source_split : into_iter_items c.loop-port.sources ≡ source ∷ sources = c.in-Some-next-2.ensures.items in
    let made = c.in_ok-player.ensures in
    let grown = c.in_ok-add.ensures in
    let longer : length c.add.new.list.items ≡ k + 1 = ap length grown ∙ length-append players (player ∷ []) in
    let one = ap length split in
    let two = ap length other in
    let three = ap length source_split in
    let pairs = before.pairs in
    let owns = before.owns in
    let count = before.count in
    record {
      ranks = (first_of_all (λ (p : Port Packet). p.rank < shape.ranks) (into_iter_items c.loop-port.port-iterator) rest
          port split before.ranks).1;
      pairs = omega (arith, one, two, pairs);
      owns = omega (arith, one, three, owns);
      begins = (first_of_all (BeginsAt shows gives shape.ranks) (into_iter_items c.loop-port.sources) sources source
          source_split before.begins).1;
      sources = ap (λ ps. map (λ (x : Player _ _). x.source) ps ++ sources) grown
          ∙ ap (λ ss. ss ++ sources) (map-append (λ (x : Player _ _). x.source) players (player ∷ []))
          ∙ append_assoc (map (λ (x : Player _ _). x.source) players) (player.source ∷ []) sources
          ∙ ap (λ s. map (λ (x : Player _ _). x.source) players ++ s ∷ sources) made.same.2
          ∙ ap (λ ss. map (λ (x : Player _ _). x.source) players ++ ss) (sym source_split) ∙ before.sources;
      place = λ f r sizes new.
          let was = before.place f r sizes new in
          let order : NewInOrder f r k (port ∷ rest) (ring ∷ others) =
          subst (λ (qs : List RingPort). NewInOrder f r k (port ∷ rest) qs) other
          (subst (λ (ps : List (Port Packet)). NewInOrder f r k ps (into_iter_items c.loop-port.rings)) split was.0) in
          let own = order.0.1 in
          let stands = made.stands f r sizes
          (subst (λ (n : ℕ). IsNew f port n) (sym own) order.0)
          (subst (λ (n : ℕ). ring_port.IsNew r ring n) (sym own) order.1) in (
            subst (λ (n : ℕ). NewInOrder f r n rest others) (sym longer) order.2,
            subst (InPlace shows gives shape f r 0) (sym grown)
                (in_place_push shows gives shape f r 0 players player was.1 stands (made.seat
                ∙ ap (λ (n : ℕ). record { rank = n; sizes = shape }) (own ∙ omega arith))),
          );
      count = omega (arith, longer, count, one);
    }

pub returns-clause-sources : goal.returns-clause-sources
returns-clause-sources g c =
    let players = c.loop-port.players.items in
    let left = into_iter_items c.loop-port.sources in
    let owns = c.loop-port.invariant.owns in
    let past = c.in-None.ensures.steps.0 in
    let counted = c.loop-port.port-iterator.rest.ok.0 in
    let none = nil_from_length left (omega (arith, owns, past, counted)) in
    sym (append-nil (map (λ (x : Player _ _). x.source) players))
    ∙ ap (λ ss. map (λ (x : Player _ _). x.source) players ++ ss) (sym none) ∙ c.loop-port.invariant.sources
