-- The turn goes on from the reply.
use Rattle.std.proofs.Common.{◌≡◌, false, rules, subst, sym}
use Rattle.nm_rank.specs.Ranks.{IsFresh}
use Rattle.nm_process.specs.Processes.{ProcessView}
use Rattle.nm_process.specs.Steps.{goes_on}
use Rattle.nm_types.proofs.TruthLemmas.{neither}
use Rattle.nm_world.specs.Actors.{Environment}
use Rattle.nm_world.specs.Players.{PlayerInvariant, PlaysOn}
use Rattle.nm_world.proofs.Did.{did_on}
use Rattle.nm_world.proofs.Idle.{idle_before}
use Rattle.nm_world.proofs.Playing.{plays_on}
use Rattle.nm_world.proofs.players.Player.reply_and_move.Goals as goal

pub reply-requires : goal.reply-requires
reply-requires g c lifetimes outlive = (
  outlive.0,
  (
    outlive.1.0,
    (
      outlive.1.1,
      subst (λ (e : Environment). PlayerInvariant g.S.Source.shows g.S.Source.gives c.args.f.now e.rings c.args.self.now)
          (sym c.requires.1.1.1.0) c.requires.1.1.1.1,
    ),
  ),
)

pub move_all-requires : goal.move_all-requires
move_all-requires g c lifetimes outlive = (
  outlive.0,
  (
    outlive.1.0,
    (
      search rules,
      (
        outlive.1.1,
        (
          c.requires.1.1.1.0,
          subst (λ (e : Environment). PlayerInvariant g.S.Source.shows g.S.Source.gives c.args.f.now e.rings
              c.reply.new.self)
              c.requires.1.1.1.0 c.in_ok-came.ensures.kept.stands,
        ),
      ),
    ),
  ),
)

pub returns : goal.returns
returns g c =
    let shows = g.S.Source.shows in
    let gives = g.S.Source.gives in
    let f = c.args.f.now in
    let x = c.args.self.now in
    let m = c.reply.new.self in
    let z = c.move_all.new.self in
    let one = c.in_ok-came.ensures in
    let two = c.in_ok-moved.ensures in
    let kept = subst (λ (e : Environment). PlaysOn shows gives f e.rings x m) c.requires.1.1.1.0 one.kept in
    record {
      kept = plays_on shows gives f c.args.r.now x m z kept two.kept;
      moved = did_on f.ranks x.actor m.actor z.actor c.in_ok-came.came c.in_ok-moved.moved one.kept.grows
          two.kept.grows one.moved two.moved;
      idle = λ none fresh.
          let both = neither c.in_ok-came.came c.in_ok-moved.moved none in
          let same = one.still both.0 in
          let rests = two.idle both.1 (subst (λ (v : ProcessView). IsFresh v.rank) (sym same.0) fresh) in
          record {
            idle = idle_before x.actor m.actor z.actor one.kept.grows same.0 rests.idle;
            stuck = λ commands last given. subst (λ (v : ProcessView). goes_on commands v ≡ false) same.0
                (rests.stuck commands last (subst (λ s. gives s commands last) (sym same.1) given));
          };
    }
