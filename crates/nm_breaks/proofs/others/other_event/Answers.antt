use Rattle.std.proofs.Common.{◌≡◌, ◌==◌, ℕ, ◌<◌, None, Option, cond, length, refl, sym, subst, take}
use Rattle.std.specs.Prelude.{MatchOption}
use Rattle.std.proofs.lemmas.Option.{slice_get_within}
use Rattle.nm_history.specs.declared.events.Event.{Event}
use Rattle.nm_history.specs.Quiescence.{history_of}
use Rattle.nm_report.specs.Ends.{ends_of}
use Rattle.nm_breaks.specs.Others.{IsHeldAgainst}
use Rattle.nm_breaks.specs.declared.places.EventLine.{EventLine}
use Rattle.nm_breaks.proofs.OtherLemmas.{known_in, one_of}
use Rattle.nm_breaks.proofs.others.other_event.Goals as goal

abbrev nothing : Option EventLine
nothing = None

pub held_against-requires : goal.held_against-requires
held_against-requires c =
    let x = c.args.spot.rank in
    let inside = slice_get_within (history_of (ends_of c.args.ranks.now) x) c.args.spot.at c.in-Some.e.now
    (sym c.in-Some.ensures) in
    record {
      known = known_in c.args.ranks.now x c.args.spot.at inside;
      other = subst (λ (y : ℕ). y < length c.args.ranks.now) (sym c.other_rank-y.ensures)
          (one_of (x == c.args.i) c.args.j c.args.i (length c.args.ranks.now) c.requires.receiver c.requires.sender);
      short = c.requires.short;
      tabled = c.requires.tabled;
    }

pub returns-in-Some : goal.returns-in-Some
returns-in-Some c =
    let ends = ends_of c.args.ranks.now in
    let x = c.args.spot.rank in
    let before = take c.args.spot.at (history_of ends x) in
    subst (λ (o : Option Event). MatchOption o (c.held_against.result ≡ None)
    (λ e. IsHeldAgainst c.args.lines.now ends x before e.what (cond (x == c.args.i) c.args.j c.args.i)
    c.held_against.result)) c.in-Some.ensures
    (subst (λ (y : ℕ). IsHeldAgainst c.args.lines.now ends x before c.in-Some.e.now.what y c.held_against.result)
    c.other_rank-y.ensures (c.held_against.ensures c.in-Some.e.now (sym c.in-Some.ensures) refl))

pub returns-in-None : goal.returns-in-None
returns-in-None c =
    let ends = ends_of c.args.ranks.now in
    let x = c.args.spot.rank in
    subst (λ (o : Option Event). MatchOption o (nothing ≡ None)
    (λ e. IsHeldAgainst c.args.lines.now ends x (take c.args.spot.at (history_of ends x)) e.what
    (cond (x == c.args.i) c.args.j c.args.i) nothing)) c.in-None.ensures refl
