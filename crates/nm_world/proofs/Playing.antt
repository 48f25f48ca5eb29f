-- A player from one step to the next.
use Rattle.std.proofs.Common.{◌≡◌, ℕ, ◌||◌, Bool, List, refl, sym, ap, ◌∙◌, subst}
use Rattle.std.specs.Prelude.{map, take}
use Rattle.nm_types.specs.Commands.{Numbered}
use Rattle.nm_types.specs.declared.answers.Answer.{Answer}
use Rattle.nm_history.specs.RankRun.{ran_lines}
use Rattle.nm_history.specs.Totals.{answers_given}
use Rattle.nm_types.specs.declared.packets.Packet.{Packet}
use Rattle.nm_cells.specs.declared.port.Fabric.{Fabric}
use Rattle.nm_copyring.specs.declared.port.Rings.{Rings}
use Rattle.nm_process.specs.Sources.{SourceView}
use Rattle.nm_world.specs.declared.actors.Actor.{Actor}
use Rattle.nm_world.specs.declared.players.Player.{Player}
use Rattle.nm_world.specs.Actors.{Continues, HasPorts, Seat, did}
use Rattle.nm_world.specs.Idle.{Moves}
use Rattle.nm_world.specs.Players.{GoesOn, IsAtWork, PlayerInvariant, PlaysOn, WasTold}
use Rattle.nm_world.proofs.Did.{did_on}
use Rattle.nm_world.proofs.Grows.{grows_on, grows_same}
use Rattle.nm_world.proofs.Told.{none_more}

-- no answer was given where no command ran
none_answered : {H : Type 0} → {f : Fabric Packet} {r : Rings} (a b : Actor H) → HasPorts f r a → Continues f r a b →
    b.process.at ≡ a.process.at → answers_given b.process.rank.events ≡ answers_given a.process.rank.events
none_answered a b p on at =
    let commands = p.some.commands in
    let one = p.some.stands.is.work.answers in
    let two = (on.stands commands p.some.last p.some.stands).is.work.answers in
    let same : ran_lines b.process.rank.events ≡ ran_lines a.process.rank.events = two.in_order
    ∙ ap (λ (k : ℕ). map (λ (c : Numbered). c.line) (take k commands)) at ∙ sym one.in_order in
    ap answers_given on.grows.events.1 ∙ none_more a.process.rank.events on.grows.events.0
    (ap ran_lines (sym on.grows.events.1) ∙ same)

module _ {S B : Type 0} (shows : S → SourceView B) (gives : S → List Numbered → ℕ → Type 0) where
  source_same : (s : S) → GoesOn shows gives s s
  source_same s = record {
    gave = λ commands last given. record { before = last; gives = given };
    begun = refl;
    ranks = refl;
    hears = refl;
  }

  source_on : (s t u : S) → GoesOn shows gives s t → GoesOn shows gives t u → GoesOn shows gives s u
  source_on s t u one two = record {
    gave = λ commands last given.
        let before = two.gave commands last given in
        one.gave commands before.before before.gives;
    begun = two.begun ∙ one.begun;
    ranks = two.ranks ∙ one.ranks;
    hears = two.hears ∙ one.hears;
  }

module _ {S B H : Type 0} (shows : S → SourceView B) (gives : S → List Numbered → ℕ → Type 0) (f : Fabric Packet)
    (r : Rings)
  where
    pub plays_same : (x : Player S H) → PlayerInvariant shows gives f r x → PlaysOn shows gives f r x x
    plays_same x s = record {
      stands = s;
      seat = refl;
      grows = grows_same x.actor;
      source = source_same shows gives x.source;
    }

    pub plays_on : (x y z : Player S H) → PlaysOn shows gives f r x y → PlaysOn shows gives f r y z →
        PlaysOn shows gives f r x z
    plays_on x y z one two = record {
      stands = two.stands;
      seat = two.seat ∙ one.seat;
      grows = grows_on x.actor y.actor z.actor one.grows two.grows;
      source = source_on shows gives x.source y.source z.source one.source two.source;
    }

    -- one step more of a loop that tells whether something was done
    pub plays_and : (n : ℕ) (x y z : Player S H) (p q : Bool) → PlaysOn shows gives f r x y →
        PlaysOn shows gives f r y z →
        p ≡ did n x.actor y.actor → q ≡ did n y.actor z.actor →
        PlaysOn shows gives f r x z × ((p || q) ≡ did n x.actor z.actor)
    plays_and n x y z p q one two before then =
        (plays_on x y z one two, did_on n x.actor y.actor z.actor p q one.grows two.grows before then)

    -- a player whose actor went on and ran no command
    pub carries_on : (x : Player S H) (b : Actor H) → PlayerInvariant shows gives f r x → Continues f r x.actor b →
        b.process.at ≡ x.actor.process.at → PlaysOn shows gives f r x (record { actor = b; source = x.source })
    carries_on x b s on at = record {
      stands = record {
        ports = on.ports;
        at = s.at ∙ sym at;
        ranks = s.ranks ∙ sym (ap (λ (z : Seat). z.sizes.ranks) on.seat);
        told = subst (λ (answers : List Answer). WasTold (shows x.source) answers)
            (sym (none_answered x.actor b s.ports on at)) s.told;
        stands = λ commands last given. on.stands commands last (s.stands commands last given);
      };
      seat = on.seat;
      grows = on.grows;
      source = source_same shows gives x.source;
    }

    pub moves_actor : (x y : Player S H) (some : Bool) → PlayerInvariant shows gives f r x →
        Moves (record { fabric = f; rings = r }) some x.actor y.actor → y.source ≡ x.source →
        PlaysOn shows gives f r x y
    moves_actor x y some s moves same =
        subst (λ (source : S). PlaysOn shows gives f r x (record { actor = y.actor; source = source })) (sym same)
        (carries_on x y.actor s moves.kept moves.stepped.at)

    -- it is at work on whatever its source gives
    pub at_work : (x : Player S H) (commands : List Numbered) (last : ℕ) → PlayerInvariant shows gives f r x →
        gives x.source commands last → IsAtWork shows gives x commands
    at_work x commands last s given =
        record { last = last; given = given; at = s.at; work = (s.stands commands last given).is.work }
