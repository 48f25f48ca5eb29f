-- What the answer of a command does to the line that a name or a handle stands for.
use Rattle.std.proofs.Common.{◌≡◌, ℕ, ◌==◌, ◌&&◌, Bool, false, cond, Option, Some, None, List}
use Rattle.std.proofs.Common.{refl, sym, ◌∙◌, ap}
use Rattle.std.specs.Option.{option_map_or}
use Rattle.nm_types.specs.declared.answers.Answer.{Answer}
use Rattle.nm_types.specs.declared.messages.Peer.{Peer}
use Rattle.nm_types.specs.declared.messages.TagPick.{TagPick}
use Rattle.nm_types.specs.declared.scripts.Body.{Body}
use Rattle.nm_types.specs.declared.scripts.Command.{Command}
use Rattle.nm_types.specs.declared.scripts.Command.TheVariants as command
use Rattle.nm_types.specs.Commands.{Numbered}
use Rattle.nm_history.specs.declared.events.Happened.{Happened}
use Rattle.nm_history.specs.declared.events.Happened.TheVariants.{Ran}
use Rattle.nm_history.specs.Answers.{is_claim_for, is_question_of, is_receive_of, is_start_of}
use Rattle.nm_history.specs.Answers.{line_after}
use Rattle.nm_lookups.specs.AskedFor.{changed}
use Rattle.nm_lookups.specs.declared.asked.requests.Change.{Change}

module _ (starts asks : ℕ → Command → Bool) (begun ended : Answer → Bool) where
  -- the line that a name stands for after the answer of a line's command: that line, where it starts something under
  -- the name and the answer says so, and none, where it ends it
  abbrev pub line_behind : Option Command → ℕ → Answer → ℕ → Option ℕ → Option ℕ
  line_behind ran line answer q was =
      cond (option_map_or (starts q) ran false && begun answer) (Some line)
      (cond (option_map_or (asks q) ran false && ended answer) None was)

  module _ (ran : Option Command) (line : ℕ) (answer : Answer) (c : Command) (is : ran ≡ Some c) (q : ℕ)
      (was : Option ℕ) where
    by_command : line_behind ran line answer q was
        ≡ cond (starts q c && begun answer) (Some line) (cond (asks q c && ended answer) None was)
    by_command = ap (λ (o : Option Command). line_behind o line answer q was) is

    -- a start under a name
    pub name_begins : (name : ℕ) (so : Bool) (change : Change) → starts q c ≡ (name == q) → asks q c ≡ false →
        so ≡ begun answer → changed q line was change ≡ cond (name == q && so) (Some line) was →
        line_behind ran line answer q was ≡ changed q line was change
    name_begins name so change starting asking so_is changes =
        by_command
        ∙ ap (λ (b : Bool). cond (b && begun answer) (Some line) (cond (asks q c && ended answer) None was)) starting
        ∙ ap (λ (b : Bool). cond (name == q && begun answer) (Some line) (cond (b && ended answer) None was)) asking
        ∙ ap (λ (b : Bool). cond (name == q && b) (Some line) was) (sym so_is) ∙ sym changes

    -- a question for what a name stands for
    pub name_ends : (name : ℕ) (so : Bool) (change : Change) → starts q c ≡ false → asks q c ≡ (name == q) →
        so ≡ ended answer → changed q line was change ≡ cond (name == q && so) None was →
        line_behind ran line answer q was ≡ changed q line was change
    name_ends name so change starting asking so_is changes =
        by_command
        ∙ ap (λ (b : Bool). cond (b && begun answer) (Some line) (cond (asks q c && ended answer) None was)) starting
        ∙ ap (λ (b : Bool). cond (b && ended answer) None was) asking
        ∙ ap (λ (b : Bool). cond (name == q && b) None was) (sym so_is) ∙ sym changes

    -- another command
    pub name_keeps : starts q c ≡ false → asks q c ≡ false → line_behind ran line answer q was ≡ was
    name_keeps starting asking =
        by_command
        ∙ ap (λ (b : Bool). cond (b && begun answer) (Some line) (cond (asks q c && ended answer) None was)) starting
        ∙ ap (λ (b : Bool). cond (b && ended answer) None was) asking

  -- there is no command of the line
  pub no_command_keeps : (ran : Option Command) (line : ℕ) (answer : Answer) (q : ℕ) (was : Option ℕ) → ran ≡ None →
      line_behind ran line answer q was ≡ was
  no_command_keeps ran line answer q was none = ap (λ (o : Option Command). line_behind o line answer q was) none

-- a command that neither starts a request nor asks for a result
pub no_name : (x : ℕ) (c : Command) →
    ((to q tag ctx : ℕ) (sync : Bool) (body : Body) → c ≡ command.Send to q tag ctx sync body → ⊥) →
    ((q : ℕ) (from : Peer) (tag : TagPick) (ctx cap : ℕ) → c ≡ command.Recv q from tag ctx cap → ⊥) →
    ((q m cap : ℕ) → c ≡ command.Mrecv q m cap → ⊥) →
    ((q : ℕ) → c ≡ command.Wait q → ⊥) → ((q : ℕ) → c ≡ command.Test q → ⊥) →
    (is_start_of x c ≡ false) × (is_question_of x c ≡ false)
no_name x (command.Send to q tag ctx sync body) s r m w t = absurd (s to q tag ctx sync body refl)
no_name x (command.Recv q from tag ctx cap) s r m w t = absurd (r q from tag ctx cap refl)
no_name x (command.Mrecv q h cap) s r m w t = absurd (m q h cap refl)
no_name x (command.Wait q) s r m w t = absurd (w q refl)
no_name x (command.Test q) s r m w t = absurd (t q refl)
no_name x (command.Probe from tag ctx) s r m w t = (refl, refl)
no_name x (command.Await from tag ctx) s r m w t = (refl, refl)
no_name x (command.Cancel q) s r m w t = (refl, refl)
no_name x (command.Mprobe h from tag ctx) s r m w t = (refl, refl)

-- a command that neither claims a message nor receives a claimed one
pub no_handle : (x : ℕ) (c : Command) →
    ((m : ℕ) (from : Peer) (tag : TagPick) (ctx : ℕ) → c ≡ command.Mprobe m from tag ctx → ⊥) →
    ((q m cap : ℕ) → c ≡ command.Mrecv q m cap → ⊥) → (is_claim_for x c ≡ false) × (is_receive_of x c ≡ false)
no_handle x (command.Mprobe m from tag ctx) p r = absurd (p m from tag ctx refl)
no_handle x (command.Mrecv q m cap) p r = absurd (r q m cap refl)
no_handle x c p r = (refl, refl)

-- an event that is no answer
pub no_answer : (commands : List Numbered) (q : ℕ) (was : Option ℕ) (what : Happened) →
    ((line : ℕ) (answer : Answer) → what ≡ Ran line answer → ⊥) → line_after commands q was what ≡ was
no_answer commands q was (Ran line answer) not = absurd (not line answer refl)
no_answer commands q was what not = refl
