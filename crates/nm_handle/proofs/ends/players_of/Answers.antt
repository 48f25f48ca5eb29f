-- One player more in its place.
use Rattle.std.proofs.Common.{◌≡◌, ℕ, ◌+◌, List, [], ◌∷◌, ◌++◌, length, length-append, map, append-nil, ap, arith}
use Rattle.std.proofs.Common.{inl, inr, subst, sym, ◌∙◌}
use Rattle.std.proofs.lemmas.Result.{err_from_is_err_and}
use Rattle.std.specs.Arc.{arc_value}
use Rattle.std.specs.List.{AllByRecursion}
use Rattle.std.specs.Vec.Iter.{into_iter_items}
use Rattle.std.proofs.lemmas.List.{nil_from_length}
use Rattle.nm_types.specs.declared.packets.Packet.{Packet}
use Rattle.nm_types.proofs.ListLemmas.{all_append}
use Rattle.nm_cells.specs.declared.port.Fabric.{Fabric}
use Rattle.nm_copyring.specs.declared.port.Rings.{Rings}
use Rattle.nm_process.specs.Playing.{AllInRange}
use Rattle.nm_rank.specs.declared.journal.erased.Erased.{Erased}
use Rattle.nm_world.specs.declared.players.Player.{Player}
use Rattle.nm_world.specs.Actors.{seat_of}
use Rattle.nm_world.specs.Players.{PlayerInvariant}
use Rattle.nm_world.specs.Runs.{InPlace}
use Rattle.nm_world.proofs.Accounts.{map_next}
use Rattle.nm_world.proofs.Runs.{in_place_push}
use Rattle.nm_calls.specs.Calling.{CallsView, ahead, gave, shown}
use Rattle.nm_handle.specs.declared.handles.Handle.{Handle}
use Rattle.nm_handle.specs.Ends.{SomeFailed}
use Rattle.nm_handle.specs.Standing.{Stands}
use Rattle.nm_handle.specs.Worlds.{AreRanksFrom}
use Rattle.nm_handle.proofs.ends.players_of.Goals as goal

abbrev Each : List (Player CallsView Erased) → Type 0
Each = AllByRecursion (λ (x : Player CallsView Erased). AllInRange x.source.ranks (ahead x.source))

pub loop-handle-init : goal.loop-handle-init
loop-handle-init c =
    let f = arc_value c.args.shared.now.fabric in
    let r = arc_value c.args.shared.now.rings in
    let all = c.into_iter-handle-iterator.ensures.into_iter_gives.0 in
    let items = into_iter_items c.into_iter-handle-iterator.result in
    let none = c.new-players.ensures.items in
    record {
      place = subst (λ (ps : List (Player CallsView Erased)). InPlace shown gave c.args.shape f r 0 ps) (sym none) tt;
      range = subst Each (sym none) tt;
      same = ap (λ (ps : List (Player CallsView Erased)). ps ++ map (λ (h : Handle). h.player) items) none
          ∙ ap (map (λ (h : Handle). h.player)) all;
      each = subst (λ (ps : List (Player CallsView Erased)). AreRanksFrom c.args.shape f r (length ps) items) (sym none)
          (subst (λ (hs : List Handle). AreRanksFrom c.args.shape f r 0 hs) (sym all) c.requires.each);
      stands = subst (λ (hs : List Handle). AllByRecursion Stands hs) (sym all) c.requires.stands;
      failed = subst (λ (hs : List Handle). SomeFailed hs → SomeFailed c.args.handles.items) (sym all) (λ some. some);
    }

pub player_of-requires : goal.player_of-requires
player_of-requires c =
    let rest = into_iter_items c.next.new.self in
    let split : into_iter_items c.loop-handle.handle-iterator ≡ c.in-Some.handle ∷ rest = c.in-Some.ensures.steps.0 in
    record { stands = (subst (λ (hs : List Handle). AllByRecursion Stands hs) split c.loop-handle.invariant.stands).0 }

pub loop-handle-preserved : goal.loop-handle-preserved
loop-handle-preserved c =
    let shape = c.args.shape in
    let f = arc_value c.args.shared.now.fabric in
    let r = arc_value c.args.shared.now.rings in
    let before = c.loop-handle.invariant in
    let players = c.loop-handle.players.items in
    let h = c.in-Some.handle in
    let xs = into_iter_items c.loop-handle.handle-iterator in
    let rest = into_iter_items c.next.new.self in
    let split : xs ≡ h ∷ rest = c.in-Some.ensures.steps.0 in
    let each = subst (λ (hs : List Handle). AreRanksFrom shape f r (length players) hs) split before.each in
    let own = each.0 in
    let x = c.in_ok-player.player in
    let made = c.in_ok-player.ensures in
    let stands = subst (λ (a : Fabric Packet). PlayerInvariant shown gave a r x) own.fabric
    (subst (λ (b : Rings). PlayerInvariant shown gave (arc_value h.fabric) b x) own.rings made.stands) in
    let place : length players ≡ 0 + length players = omega arith in
    let seat = ap (λ (y : Player CallsView Erased). seat_of y.actor) made.same ∙ own.seat
    ∙ ap (λ (n : ℕ). record { rank = n; sizes = shape }) place in
    let grown = c.in_ok-add.ensures in
    let longer : length c.add.new.list.items ≡ length players + 1 = ap length grown ∙ length-append players (x ∷ []) in
    record {
      place = subst (λ (ps : List (Player CallsView Erased)). InPlace shown gave shape f r 0 ps) (sym grown)
          (in_place_push shown gave shape f r 0 players x before.place stands seat);
      range = subst Each (sym grown)
          (all_append (λ (y : Player CallsView Erased). AllInRange y.source.ranks (ahead y.source)) players (x ∷ [])
          before.range (made.range, tt));
      same = map_next (λ (y : Handle). y.player) players c.add.new.list.items xs rest h _ split
          (grown ∙ ap (λ (y : Player CallsView Erased). players ++ y ∷ []) made.same) before.same;
      each = subst (λ (n : ℕ). AreRanksFrom shape f r n rest) (sym longer) each.1;
      stands = (subst (λ (hs : List Handle). AllByRecursion Stands hs) split before.stands).1;
      failed = λ some. before.failed (subst SomeFailed (sym split) (inr some));
    }

pub returns-clause-same : goal.returns-clause-same
returns-clause-same c =
    let past = c.in-None.ensures.steps.0 in
    let counted = c.loop-handle.handle-iterator.rest.ok.0 in
    let none = nil_from_length (into_iter_items c.loop-handle.handle-iterator) (omega (arith, past, counted)) in
    let players = c.loop-handle.players.items in
    sym (append-nil players)
    ∙ ap (λ (hs : List Handle). players ++ map (λ (h : Handle). h.player) hs) (sym none)
    ∙ c.loop-handle.invariant.same

pub returns-in_err-player-clause-why : goal.returns-in_err-player-clause-why
returns-in_err-player-clause-why c =
    let p = err_from_is_err_and c.from_residual.result c.from_residual.ensures.1 in
    let rest = into_iter_items c.next.new.self in
    let split : into_iter_items c.loop-handle.handle-iterator ≡ c.in-Some.handle ∷ rest = c.in-Some.ensures.steps.0 in
    let failed = c.in_err-player.ensures.failed in
    rw (p.1, p.2, failed.0) (c.loop-handle.invariant.failed (subst SomeFailed (sym split) (inl failed.1)))

pub returns-in_err-add-clause-why : goal.returns-in_err-add-clause-why
returns-in_err-add-clause-why c =
    let p = err_from_is_err_and c.from_residual-in_err-add.result c.from_residual-in_err-add.ensures.1 in
    rw (p.1, p.2) tt
