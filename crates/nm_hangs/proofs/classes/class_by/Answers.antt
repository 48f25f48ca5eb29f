-- The class that it has nearby.
use Rattle.std.proofs.Common.{◌≡◌, Some}
use Rattle.std.specs.List.{slice_get}
use Rattle.nm_hangs.proofs.NotedLemmas.{of_some}
use Rattle.nm_hangs.proofs.classes.class_by.Goals as goal

pub returns-in-Some : goal.returns-in-Some
returns-in-Some c =
    c.requires.near c.args.place c.args.id c.in-Some.class
    (of_some (λ class. slice_get c.args.near.now c.args.place ≡ Some c.args.id) c.in-Some.class c.class_near.result
    c.in-Some.is c.class_near.ensures.same)
    (of_some (λ class. slice_get c.args.classes.now c.args.place ≡ Some class) c.in-Some.class c.class_near.result
    c.in-Some.is c.class_near.ensures.class)
