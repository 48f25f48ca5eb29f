-- What is called for at the answer to a start, by the starts since the answer before.
use Rattle.std.proofs.Common.{◌≡◌, ℕ, Bool, true, false, not, cond, Option, Some, None, List, [], ◌∷◌, length}
use Rattle.std.proofs.Common.{refl, sym, ◌∙◌, ap, subst, arith}
use Rattle.std.specs.Prelude.{MatchBool, MatchOption, is_some, option_map}
use Rattle.std.specs.Option.{option_map_or}
use Rattle.std.proofs.lemmas.Bool.{false≢true}
use Rattle.std.proofs.lemmas.Option.{none-some}
use Rattle.nm_types.specs.declared.answers.Answer.{Answer}
use Rattle.nm_types.specs.declared.messages.Peer.{Peer}
use Rattle.nm_types.specs.declared.messages.TagPick.{TagPick}
use Rattle.nm_types.specs.declared.scripts.Body.{Body}
use Rattle.nm_types.specs.declared.scripts.Command.{Command}
use Rattle.nm_types.specs.declared.scripts.Command.TheVariants as command
use Rattle.nm_types.specs.Commands.{Numbered, command_at}
use Rattle.nm_history.specs.declared.events.Event.{Event}
use Rattle.nm_history.specs.declared.events.Happened.{Happened}
use Rattle.nm_history.specs.declared.events.Happened.TheVariants as what
use Rattle.nm_history.specs.Answers.{Message as Claimed, live_message}
use Rattle.nm_history.specs.RankRun.{lacks_message, start_of, starts_since}
use Rattle.nm_lookups.specs.AskedFor.{message_meant}
use Rattle.nm_match.specs.declared.names.Message.{Message}
use Rattle.nm_check_rank.specs.Arguments.{IsFirstMismatch, arguments}
use Rattle.nm_check_rank.specs.Manies.{many_due, many_of}
use Rattle.nm_check_rank.specs.Objections.{match_objection}
use Rattle.nm_check_rank.specs.Startings.{IsAnswerDue, IsStartDue, IsStartsDue, IsTakenDue, mismatch_due, one_due}
use Rattle.nm_check_rank.specs.declared.paired.arguments.Mismatch.{Mismatch}
use Rattle.nm_check_rank.specs.declared.paired.dues.Due.{Due}
use Rattle.nm_check_rank.specs.declared.paired.dues.Due.TheVariants.{Against}
use Rattle.nm_check_rank.specs.declared.paired.manies.Many.TheVariants as many
use Rattle.nm_check_rank.proofs.ManyLemmas.{one_more, one_nothing, same_head}

-- a test that is told
pub on_true : (P Q : Type 0) (b : Bool) → true ≡ b → P → MatchBool b P Q
on_true P Q b is p = subst (λ (x : Bool). MatchBool x P Q) is p

pub on_false : (P Q : Type 0) (b : Bool) → false ≡ b → Q → MatchBool b P Q
on_false P Q b is q = subst (λ (x : Bool). MatchBool x P Q) is q

module _ (limit : ℕ) (c : Command) (told : Option Due) where
  -- one is called for, and one was found
  pub one_is_due : (v : Happened) (xs : List Happened) (first : Option Mismatch) → many.One ≡ many_of xs →
      ((w : Happened) → xs ≡ w ∷ [] → IsFirstMismatch (arguments w) (arguments v) first) →
      told ≡ mismatch_due first (one_due limit c v) → IsStartsDue limit c xs (v ∷ []) told
  one_is_due v [] first one given is = absurd (one_nothing one)
  one_is_due v (w ∷ []) first one given is = (first, given w refl, is)
  one_is_due v (w ∷ u ∷ us) first one given is = absurd (one_more one)

  -- not one of both
  pub many_is_due : (xs ys : List Happened) → (many.One ≡ many_of xs → many.One ≡ many_of ys → ⊥) →
      told ≡ many_due (many_of xs) (many_of ys) → IsStartsDue limit c xs ys told
  many_is_due (w ∷ []) (v ∷ []) not is = absurd (not refl refl)
  many_is_due xs ys not is = is

-- a matched receive lacks its message where there is none
pub none_held : (o : Option Message) (l : Option Claimed) (none : Bool) → option_map message_meant o ≡ l →
    is_some o ≡ not none → none ≡ not (is_some l)
none_held None l true held is = ap (λ (o : Option Claimed). not (is_some o)) held
none_held None l false held is = absurd (false≢true is)
none_held (Some m) l true held is = absurd (false≢true (sym is))
none_held (Some m) l false held is = ap (λ (o : Option Claimed). not (is_some o)) held

-- the one start of a matched receive
one_received : (o : Option Claimed) (cap line : ℕ) → not (is_some o) ≡ false →
    many.One ≡ many_of (option_map_or (λ m. what.Match 0 m.from m.n cap line ∷ []) o [])
one_received None cap line held = absurd (false≢true (sym held))
one_received (Some m) cap line held = refl

-- .. is of its message
pub received_of : (l : Option Claimed) (o : Option Message) (cap line : ℕ) (w : Happened) →
    option_map message_meant o ≡ l → option_map_or (λ m. what.Match 0 m.from m.n cap line ∷ []) l [] ≡ w ∷ [] →
    (m : Message) × (o ≡ Some m) × (what.Match 0 m.rank m.n cap line ≡ w)
received_of l o cap line w held is =
    by_message o (ap (λ (x : Option Claimed). option_map_or (λ m. what.Match 0 m.from m.n cap line ∷ []) x []) held
    ∙ is)
  where
    by_message : (o : Option Message) →
        option_map_or (λ m. what.Match 0 m.from m.n cap line ∷ []) (option_map message_meant o) [] ≡ w ∷ [] →
        (m : Message) × (o ≡ Some m) × (what.Match 0 m.rank m.n cap line ≡ w)
    by_message None is = let both : 0 ≡ 1 = ap length is in absurd (omega (arith, both))
    by_message (Some m) is = (m, refl, same_head is)

-- no other command starts something
module _ (limit : ℕ) (commands : List Numbered) (before : List Event) (line : ℕ) where
  pub starts_nothing : (c : Command) →
      ((to q tag ctx : ℕ) (sync : Bool) (body : Body) → c ≡ command.Send to q tag ctx sync body → ⊥) →
      ((q : ℕ) (from : Peer) (tag : TagPick) (ctx cap : ℕ) → c ≡ command.Recv q from tag ctx cap → ⊥) →
      ((q m cap : ℕ) → c ≡ command.Mrecv q m cap → ⊥) → start_of limit commands before line c ≡ []
  starts_nothing (command.Send to q tag ctx sync body) s r m = absurd (s to q tag ctx sync body refl)
  starts_nothing (command.Recv q from tag ctx cap) s r m = absurd (r q from tag ctx cap refl)
  starts_nothing (command.Mrecv q h cap) s r m = absurd (m q h cap refl)
  starts_nothing c s r m = refl

  -- a matched receive that does not lack its message starts one
  pub one_matched : (c : Command) {q m cap : ℕ} → c ≡ command.Mrecv q m cap → lacks_message commands before c ≡ false →
      many.One ≡ many_of (start_of limit commands before line c)
  one_matched c {m = m} {cap = cap} is held =
      one_received (live_message commands before m) cap line
      (ap (λ (d : Command). lacks_message commands before d) (sym is) ∙ held)
      ∙ sym (ap (λ (d : Command). many_of (start_of limit commands before line d)) is)

-- .. or lacks a message
pub lacks_nothing : (commands : List Numbered) (before : List Event) (c : Command) →
    ((q m cap : ℕ) → c ≡ command.Mrecv q m cap → ⊥) → false ≡ lacks_message commands before c
lacks_nothing commands before (command.Mrecv q h cap) m = absurd (m q h cap refl)
lacks_nothing commands before c m = refl

-- the command of a line that was taken is that of the line
pub started_is : (started : Bool) (o : Option Command) (c : Command) → Some c ≡ cond started o None → Some c ≡ o
started_is true o c is = is
started_is false o c is = absurd (none-some c (sym is))

-- what is called for at an answer, by the command of its line, if it was taken
pub answer_is_due : (limit : ℕ) (commands : List Numbered) (before : List Event) (line : ℕ) (started : Bool)
    (told : Option Due) (o : Option Command) → o ≡ cond started (command_at commands line) None →
    MatchOption o (told ≡ many_due many.Nothing (many_of (starts_since before)))
    (λ c. IsTakenDue limit commands before line c (starts_since before) told) →
    IsAnswerDue limit commands before line started told
answer_is_due limit commands before line started told o at due =
    subst (λ (x : Option Command). MatchOption x (told ≡ many_due many.Nothing (many_of (starts_since before)))
    (λ c. IsTakenDue limit commands before line c (starts_since before) told)) at due

-- at any other event it is what stands against it
pub other_is_due : (limit : ℕ) (commands : List Numbered) (before : List Event) (w : Happened) (told : Option Due) →
    ((line : ℕ) (answer : Answer) → w ≡ what.Ran line answer → ⊥) →
    told ≡ option_map Against (match_objection before w) → IsStartDue limit commands before w told
other_is_due limit commands before (what.Ran line answer) told not is = absurd (not line answer refl)
other_is_due limit commands before w told not is = is
