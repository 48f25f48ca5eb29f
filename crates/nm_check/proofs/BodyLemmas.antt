-- What the answers of a rank show, by the sender of the message.
use Rattle.std.proofs.Common.{◌≡◌, ℕ, ◌<◌, Bool, not, cond, Option, Some, None, List, length, get_or, zero-add, refl}
use Rattle.std.proofs.Common.{sym, ◌∙◌, ap, subst}
use Rattle.std.specs.Prelude.{IfSome, IsSomeAnd, is_some, option_and_then}
use Rattle.std.specs.List.{slice_get, range_with_len}
use Rattle.std.proofs.lemmas.List.{length-map}
use Rattle.std.proofs.lemmas.List.FromFn.{get_or-map-range_with_len, length-range_with_len}
use Rattle.std.proofs.lemmas.Option.{slice_get-get_or}
use Rattle.nm_types.specs.Bodies.{bytes_of, generated_byte}
use Rattle.nm_types.specs.declared.scripts.Body.TheVariants.{Gen}
use Rattle.nm_types.specs.declared.answers.Answer.{Answer}
use Rattle.nm_types.specs.declared.answers.Answer.TheVariants as answer
use Rattle.nm_types.specs.declared.scripts.Line.{Line}
use Rattle.nm_types.specs.Commands.{command_at, commands_of}
use Rattle.nm_history.specs.declared.events.Event.{Event}
use Rattle.nm_history.specs.declared.events.Happened.{Happened}
use Rattle.nm_history.specs.declared.events.Happened.TheVariants.{Ran}
use Rattle.nm_history.specs.declared.plain.Pair.{Pair}
use Rattle.nm_history.specs.Delivery.{BodyAt, ShowsBytes, asked_pair}
use Rattle.nm_history.specs.Sends.{sends, sent_bytes}
use Rattle.nm_lookups.specs.Deciding.{Decides}
use Rattle.nm_check_rank.specs.declared.paired.dues.Due.{Due}
use Rattle.nm_check_rank.specs.declared.paired.dues.Due.TheVariants as due
use Rattle.nm_check_rank.proofs.DifferLemmas.{differ_not}
use Rattle.nm_check.specs.Bytes.{IsFirstOtherByte}
use Rattle.nm_check.specs.Marked.{Names}
use Rattle.nm_check.proofs.MarkLemmas.{names_on}

module _ (lines : List Line) (history : ℕ → List Event) (j : ℕ) (before : List Event) where
  abbrev pub Shows : Happened → ℕ → Type 0
  Shows what i = BodyAt i (commands_of i lines) (sends (history i) j) (commands_of j lines) before what

  -- the bytes of a pair's message, by whether they were sent
  pub shown_names : (body : List ℕ) (pair : Pair) (r : Bool) →
      Decides r (IsSomeAnd (slice_get (sends (history pair.arrival.env.from) j) pair.arrival.n)
      (λ s. IsSomeAnd (command_at (commands_of pair.arrival.env.from lines) s.line) (λ c. body ≡ sent_bytes c))) →
      Names (λ i. ShowsBytes i (commands_of i lines) (sends (history i) j) body pair)
      (cond r None (Some pair.arrival.env.from))
  shown_names body pair r right =
      names_on pair.arrival.env.from (λ i. IsSomeAnd (slice_get (sends (history i) j) pair.arrival.n)
      (λ s. IsSomeAnd (command_at (commands_of i lines) s.line) (λ c. body ≡ sent_bytes c))) r right

  -- a result with bytes, by the pair that was asked for
  pub got_names : (line source tag : ℕ) (body : List ℕ) (pair : Pair) (named : Option ℕ) →
      Some pair ≡ option_and_then (asked_pair (commands_of j lines) before) (command_at (commands_of j lines) line) →
      Names (λ i. ShowsBytes i (commands_of i lines) (sends (history i) j) body pair) named →
      Names (Shows (Ran line (answer.Got source tag body))) named
  got_names line source tag body pair named is right =
      subst (λ (o : Option Pair). Names
      (λ i. IfSome o (ShowsBytes i (commands_of i lines) (sends (history i) j) body)) named) is right

  -- .. or none was
  pub none_names : (line source tag : ℕ) (body : List ℕ) →
      None ≡ option_and_then (asked_pair (commands_of j lines) before) (command_at (commands_of j lines) line) →
      Names (Shows (Ran line (answer.Got source tag body))) None
  none_names line source tag body is =
      subst (λ (o : Option Pair). Names
      (λ i. IfSome o (ShowsBytes i (commands_of i lines) (sends (history i) j) body)) None) is (λ i. tt)

  -- another event shows no bytes
  pub no_answer_named : (what : Happened) → ((line : ℕ) (a : Answer) → what ≡ Ran line a → ⊥) → Names (Shows what) None
  no_answer_named (Ran line a) not = absurd (not line a refl)
  no_answer_named what not = λ i. tt

-- the event at a place
pub event_at : (h : List Event) (k : ℕ) (e : Event) → k < length h → e ≡ get_or h k e → slice_get h k ≡ Some e
event_at h k e inside is = slice_get-get_or h k e inside ∙ ap (λ (x : Event). Some x) (sym is)

-- a generated body has as many bytes as it says
pub generated_length : (len : ℕ) → length (bytes_of (Gen len)) ≡ len
generated_length len = length-map (range_with_len 0 len) generated_byte ∙ length-range_with_len 0 len

-- .. each at its place
pub generated_at : (len i : ℕ) → i < len → get_or (bytes_of (Gen len)) i 0 ≡ generated_byte i
generated_at len i inside = get_or-map-range_with_len generated_byte 0 len i i 0 inside (zero-add i)

-- whether a first byte is another one decides whether they are the same
pub bytes_decided : (sent shown : List ℕ) (first : Option Due) → IsFirstOtherByte sent shown first →
    Decides (not (is_some first)) (shown ≡ sent)
bytes_decided sent shown None same = same
bytes_decided sent shown (Some (due.Byte at called found)) first = differ_not shown sent at first.0
bytes_decided sent shown (Some other) first = absurd first
