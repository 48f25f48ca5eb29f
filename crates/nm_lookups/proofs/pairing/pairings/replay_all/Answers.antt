use Rattle.std.proofs.Common.{◌<◌, ◌≤◌, ◌++◌, ◌∷◌, [], List, length, take, refl, sym, subst, arith}
use Rattle.nm_lookups.specs.declared.pairing.pairings.Tables.{Tables}
use Rattle.nm_match.specs.declared.deeds.Deed.{Deed}
use Rattle.nm_lookups.specs.Pairings.{ArePairTables}
use Rattle.nm_lookups.specs.Replays.{Replays}
use Rattle.nm_lookups.proofs.WalkLemmas.{new_at, pair_made, pair_place, replayed_all, replayed_more, replayed_none}
use Rattle.nm_lookups.proofs.WalkLemmas.{tables_none_more}
use Rattle.nm_lookups.proofs.pairing.pairings.replay_all.Goals as goal
use Rattle.nm_lookups.proofs.pairing.pairings.replay_all.Goals.{in-Some+in_ok-keep, in_default}

pub loop-k-init : goal.loop-k-init
loop-k-init c =
    replayed_none c.args.rank c.args.lines.now c.args.events.now c.args.replay.now c.args.tables.now
    c.args.looks.now.items c.requires.replay c.requires.tables c.requires.looks

pub take-requires : goal.take-requires
take-requires c =
    let inside : c.loop-k.k < length c.args.events.now = omega arith in
    record {
      is_new = (
        take c.loop-k.k c.args.events.now,
        subst (λ (m : List Deed). Replays (take c.loop-k.k c.args.events.now) (record c.loop-k.replay { matcher = m }))
            (sym c.look.ensures.same) c.loop-k.invariant.followed,
        new_at c.requires.numbered.0 c.args.events.now c.loop-k.k c.index-events-k.result inside c.index-events-k.is
            c.requires.numbered.1,
      );
    }

pub loop-k-preserved : goal.loop-k-preserved
loop-k-preserved c =
    let inside : c.loop-k.k < length c.args.events.now = omega arith in
    let known = c.loop-k.invariant in
    let e = c.index-events-k.result in
    let looked = subst (λ (m : List Deed).
    Replays (take c.loop-k.k c.args.events.now) (record c.loop-k.replay { matcher = m })) (sym c.look.ensures.same)
    known.followed in
    let takes = c.in_ok-pair.ensures (take c.loop-k.k c.args.events.now) e.stamp looked
    (new_at c.requires.numbered.0 c.args.events.now c.loop-k.k e inside c.index-events-k.is
    c.requires.numbered.1) in
    let events = c.args.events.now in
    replayed_more c.args.rank c.args.lines.now events c.loop-k.k e inside c.index-events-k.is known
    c.in_ok-pair.field-0 c.look.result c.take.new.self c.match-branch-3.tables c.push.new.self.items takes
    (elim c.match-branch-3.branch [
      | in-Some+in_ok-keep w ↦
          subst (λ (tables : Tables). ArePairTables (take c.loop-k.k events ++ e ∷ []) tables) (sym w.tables-is)
          (w.in_ok-keep.ensures (take c.loop-k.k events) e known.kept
          (pair_place c.args.rank c.args.lines.now events c.loop-k.k e inside c.index-events-k.is known)
          (pair_made c.args.rank c.args.lines.now events c.loop-k.k e inside c.index-events-k.is known
          c.in_ok-pair.field-0 c.take.new.self takes w.in-Some.pair w.in-Some.is))
      | in_default w ↦
          subst (λ (tables : Tables). ArePairTables (take c.loop-k.k events ++ e ∷ []) tables) (sym w.tables-is)
          (tables_none_more c.args.rank c.args.lines.now events c.loop-k.k e inside c.index-events-k.is known
          c.in_ok-pair.field-0 c.take.new.self takes w.in_default.is)
    ])
    c.in_ok-push.ensures.items (c.look.ensures.found (take c.loop-k.k events) known.followed.queues)

pub returns : goal.returns
returns c =
    let past : length c.args.events.now ≤ c.loop-k.k = omega arith in
    replayed_all c.args.rank c.args.lines.now c.args.events.now c.loop-k.k c.loop-k.replay
    (record { tables = c.loop-k.tables; looks = c.loop-k.looks; matcher = c.loop-k.replay.matcher }) past
    c.loop-k.invariant refl
