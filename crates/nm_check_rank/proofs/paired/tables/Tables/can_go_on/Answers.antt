use Rattle.std.proofs.Common.{◌≡◌, ℕ, Bool, true, Option, List, length, take, refl, sym, ◌∙◌, ap, subst, arith}
use Rattle.std.specs.Prelude.{is_some, option_map}
use Rattle.std.specs.Option.{option_map_or}
use Rattle.std.proofs.lemmas.List.{take_all}
use Rattle.nm_types.specs.Commands.{Numbered, commands_of}
use Rattle.nm_types.specs.declared.messages.Arrival.{Arrival}
use Rattle.nm_types.specs.declared.messages.Peer.{Peer}
use Rattle.nm_types.specs.declared.messages.TagPick.{TagPick}
use Rattle.nm_types.specs.declared.scripts.Command.{Command}
use Rattle.nm_types.specs.declared.scripts.Command.TheVariants as command
use Rattle.nm_history.specs.declared.events.Event.{Event}
use Rattle.nm_history.specs.Answers.{can_go_on, live}
use Rattle.nm_history.specs.Completion.{Request, is_complete}
use Rattle.nm_lookups.specs.AskedFor.{AreNames, meant_by}
use Rattle.nm_check_rank.proofs.paired.tables.Tables.can_go_on.Goals as goal

-- the whole history stands before its end
whole : (h : List Event) → take (length h) h ≡ h
whole h = take_all (length h) h (omega arith)

wait_over : (commands : List Numbered) (g h : List Event) (q : ℕ) (o : Option Request) (r : Bool) → g ≡ h →
    o ≡ live commands g q → r ≡ option_map_or (is_complete g) o true →
    r ≡ option_map_or (is_complete h) (live commands h q) true
wait_over commands g h q o r same asked is =
    is ∙ ap (λ (o : Option Request). option_map_or (is_complete g) o true) asked
    ∙ ap (λ (f : List Event). option_map_or (is_complete f) (live commands f q) true) same

never_waits : (commands : List Numbered) (h : List Event) (c : Command) → ((q : ℕ) → c ≡ command.Wait q → ⊥) →
    ((from : Peer) (tag : TagPick) (ctx : ℕ) → c ≡ command.Await from tag ctx → ⊥) → true ≡ can_go_on commands h c
never_waits commands h (command.Wait q) wait await = absurd (wait q refl)
never_waits commands h (command.Await from tag ctx) wait await = absurd (await from tag ctx refl)
never_waits commands h c wait await = refl

pub returns-in-Wait : goal.returns-in-Wait
returns-in-Wait c =
    let commands = commands_of c.args.rank c.args.lines.now in
    let h = c.args.events.now in
    rw c.in-Wait.is
    (wait_over commands (take (length h) h) h c.in-Wait.q (option_map meant_by c.live.result) c.is_over.result (whole h)
    (c.live.ensures commands
    (subst (λ (g : List Event). AreNames commands g c.args.self.now.asked.names)
    (sym (whole h)) c.requires.asked.names))
    (c.is_over.ensures c.args.rank c.args.lines.now h c.requires))

pub returns-in-Await : goal.returns-in-Await
returns-in-Await c = rw c.in-Await.is
    (c.is_some.ensures ∙ ap (λ (o : Option Arrival). is_some o)
    (c.first_message.ensures c.args.rank c.args.lines.now c.args.events.now c.requires.tells))

pub returns-in_default : goal.returns-in_default
returns-in_default c =
    never_waits (commands_of c.args.rank c.args.lines.now) c.args.events.now c.args.command.now
    c.in_default.not-Wait c.in_default.not-Await
