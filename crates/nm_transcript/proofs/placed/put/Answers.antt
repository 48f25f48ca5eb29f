-- One event more.
use Rattle.std.proofs.Common.{◌≡◌, ◌++◌, ◌∷◌, [], length}
use Rattle.std.proofs.lemmas.Result.{IfOk-weaker}
use Rattle.nm_history.specs.declared.events.Event.{Event}
use Rattle.nm_transcript.specs.Renumbered.{AreOf}
use Rattle.nm_transcript.proofs.PlaceLemmas.{more_placed}
use Rattle.nm_transcript.proofs.placed.put.Goals as goal

pub returns-in-Some : goal.returns-in-Some
returns-in-Some c =
    let e : Event = record { stamp = c.number_of-stamp.result; what = c.in-Some.what } in
    IfOk-weaker c.add.result (λ _. c.add.new.events.items ≡ c.args.events.now.items ++ e ∷ [])
    (λ _. AreOf (length c.args.lines.now) c.add.new.events.items)
    (λ u grown. more_placed (length c.args.lines.now) c.args.events.now.items c.add.new.events.items e c.requires
    c.in-Some.ensures grown) c.add.ensures
