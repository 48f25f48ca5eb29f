use Rattle.std.proofs.Common.{◌≡◌, ℕ, Some, List, [], ◌∷◌, get_or, take, refl, sym, ◌∙◌, subst}
use Rattle.nm_history.specs.declared.events.Happened.{Happened}
use Rattle.nm_history.specs.RankRun.{is_start, lacks_message, since_command, start_of, starts_since}
use Rattle.nm_check_rank.specs.Manies.{many_due}
use Rattle.nm_check_rank.specs.Startings.{IsStartsDue}
use Rattle.nm_check_rank.specs.declared.paired.dues.Due.TheVariants.{Against}
use Rattle.nm_check_rank.specs.declared.paired.objections.Objection.TheVariants.{NoMessage}
use Rattle.nm_check_rank.proofs.ManyLemmas.{not_one_left, one_inside, one_left, passed_head}
use Rattle.nm_check_rank.proofs.StartingLemmas.{many_is_due, on_false, on_true}
use Rattle.nm_check_rank.proofs.paired.startings.taken_due.Goals as goal

pub returns-then-lacks : goal.returns-then-lacks
returns-then-lacks c = λ commands held.
    let limit = c.args.run.now.shape.eager in
    let before = take c.args.k c.args.run.now.events.now in
    let command = c.args.command.now in
    on_true (Some (Against NoMessage) ≡ Some (Against NoMessage))
    (IsStartsDue limit command (start_of limit commands before c.args.line command) (starts_since before)
    (Some (Against NoMessage))) (lacks_message commands before command)
    (sym c.if-lacks.true ∙ c.lacks.ensures commands before held) refl

pub bounds-events-place : goal.bounds-events-place
bounds-events-place c =
    one_inside is_start c.args.run.now.events.now c.args.k c.args.since c.requires c.in-One.place c.in-One.is

pub returns-in-One : goal.returns-in-One
returns-in-One c = λ commands held.
    let limit = c.args.run.now.shape.eager in
    let h = c.args.run.now.events.now in
    let before = take c.args.k h in
    let command = c.args.command.now in
    let xs = start_of limit commands before c.args.line command in
    let told = c.found_due.result in
    let x = c.index-events-place.result in
    let w = (get_or h c.in-One.place x).what in
    let holds = sym c.if-lacks.false ∙ c.lacks.ensures commands before held in
    let one = one_left is_start h c.args.k c.args.since c.requires c.in-One.place x c.in-One.is in
    on_false (told ≡ Some (Against NoMessage)) (IsStartsDue limit command xs (starts_since before) told)
    (lacks_message commands before command) holds
    (subst (λ (ws : List Happened). IsStartsDue limit command xs ws told) (sym one)
    (subst (λ (n : ℕ). IsStartsDue n command (start_of n commands before c.args.line command) (w ∷ []) told)
    c.eager.ensures.value
    (c.found_due.ensures commands before held (sym holds) (passed_head is_start (since_command before) w one))))

pub returns-in_default : goal.returns-in_default
returns-in_default c = λ commands held.
    let limit = c.args.run.now.shape.eager in
    let h = c.args.run.now.events.now in
    let before = take c.args.k h in
    let command = c.args.command.now in
    let xs = start_of limit commands before c.args.line command in
    let told = c.many_due.result in
    let holds = sym c.if-lacks.false ∙ c.lacks.ensures commands before held in
    on_false (told ≡ Some (Against NoMessage)) (IsStartsDue limit command xs (starts_since before) told)
    (lacks_message commands before command) holds
    (many_is_due limit command told xs (starts_since before)
    (λ one found. not_one_left is_start h c.args.k c.args.since c.in_default.not-One c.requires found)
    (c.many_due.ensures ∙ (λ i. many_due (c.starts_called.ensures limit commands before c.args.line (sym holds) i)
    (c.many_of.ensures is_start h c.args.k c.requires i))))
