use Rattle.std.proofs.Common.{ℕ, Option, [], ◌∷◌, cond, get_or, take, ◌∙◌, ap}
use Rattle.std.specs.Prelude.{option_to_list}
use Rattle.nm_check_rank.specs.Claimings.{claims_due}
use Rattle.nm_check_rank.specs.Kinds.{is_claiming}
use Rattle.nm_check_rank.specs.Manies.{many_due}
use Rattle.nm_check_rank.specs.declared.paired.manies.Many.{Many}
use Rattle.nm_check_rank.specs.declared.paired.manies.Many.TheVariants.{More}
use Rattle.nm_check_rank.proofs.ClaimingLemmas.{more_claimed, none_claimed, one_claimed}
use Rattle.nm_check_rank.proofs.ManyLemmas.{more_left, none_left, one_inside, one_left}
use Rattle.nm_check_rank.proofs.paired.claimings.claims_due.Goals as goal

pub returns-in-Nothing : goal.returns-in-Nothing
returns-in-Nothing c =
    let h = c.args.events.now in
    c.line_due.ensures ∙ none_claimed (take c.args.k h) c.args.line c.args.called
    (none_left is_claiming h c.args.k c.args.since c.requires c.in-Nothing.is)

pub bounds-events-place : goal.bounds-events-place
bounds-events-place c =
    one_inside is_claiming c.args.events.now c.args.k c.args.since c.requires c.in-One.place c.in-One.is

pub returns-in-One : goal.returns-in-One
returns-in-One c =
    let h = c.args.events.now in
    let x = c.index-events-place.result in
    c.line_due-in-One.ensures
    ∙ ap (λ (o : Option ℕ). claims_due (cond c.args.called (c.args.line ∷ []) []) (option_to_list o))
    c.claim_line.ensures
    ∙ one_claimed (take c.args.k h) c.args.line c.args.called (get_or h c.in-One.place x).what
    (one_left is_claiming h c.args.k c.args.since c.requires c.in-One.place x c.in-One.is)

pub returns-in-More : goal.returns-in-More
returns-in-More c =
    let h = c.args.events.now in
    c.many_due.ensures ∙ ap (λ (m : Many). many_due m More) c.one_if.ensures
    ∙ more_claimed (take c.args.k h) c.args.line c.args.called
    (more_left is_claiming h c.args.k c.args.since c.requires c.in-More.is)
