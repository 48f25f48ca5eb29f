-- The moment of a command's answer.
use Rattle.std.proofs.Common.{◌≡◌, ℕ, Bool, true, false, cond, Option, Some, None, List, [], ◌∷◌, ◌++◌, length, refl}
use Rattle.std.proofs.Common.{sym, ◌∙◌, subst, append-nil, append_assoc, ◌==◌, ◌&&◌}
use Rattle.std.specs.List.{AllByRecursion}
use Rattle.nm_types.specs.declared.packets.What.{What}
use Rattle.nm_types.specs.declared.packets.What.TheVariants as what
use Rattle.nm_types.specs.Commands.{Numbered}
use Rattle.nm_history.specs.declared.events.Event.{Event}
use Rattle.nm_history.specs.declared.events.Happened.{Happened}
use Rattle.nm_history.specs.declared.events.Happened.TheVariants.{Out}
use Rattle.nm_history.specs.AtEach.{AtEach, AtEachAfter}
use Rattle.nm_history.specs.Sends.{Sent}
use Rattle.nm_history.specs.Underway.{is_answer}
use Rattle.nm_history.specs.Known.{Known, known_by}
use Rattle.nm_history.specs.Effects.{happenings, packet_events, whole_if, is_empty_send}
use Rattle.nm_history.specs.Pieces.{Pulled, Due, piece_makes, is_due}
use Rattle.nm_channels.specs.Moments.{LogEntry, Cause, history_of, taken_from, EachMomentAfter}
use Rattle.nm_channels.specs.Moments.Cause.{Acted, Took, Drew}
use Rattle.nm_channels.specs.Sound.{AreSound, MayHappen, MadeBy, OwnEvent}
use Rattle.nm_channels.proofs.Delivering.{history-push}
use Rattle.nm_types.proofs.ListLemmas.{all_append}
use Rattle.nm_history.proofs.Right.{append_after}

-- the moment of an event that the rank did by itself
pub record OwnMoment (eager : ℕ) (bodies : Sent → List ℕ) (commands : List Numbered) (log : List LogEntry)
    (h : List Event) (e : Event) : Type 0 where
  pub before : List LogEntry
  pub moment : LogEntry
  pub after : List LogEntry
  pub split : log ≡ before ++ moment ∷ after
  pub acted : moment.cause ≡ Acted
  pub early : List Event
  pub late : List Event
  pub first : h ≡ history_of before ++ early
  pub events : moment.events ≡ early ++ e ∷ late
  pub made : AtEachAfter (λ h e. OwnEvent eager bodies commands before h e.stamp e.what)
      (history_of before) moment.events
  pub own : OwnEvent eager bodies commands before h e.stamp e.what

-- an answer is of such a moment
abbrev pub AnswerIn : ℕ → (Sent → List ℕ) → List Numbered → List LogEntry → List Event → Event → Type 0
AnswerIn eager bodies commands log h e = is_answer e.what ≡ true → OwnMoment eager bodies commands log h e

-- what happens is no answer
abbrev NoAnswer : Happened → Type 0
NoAnswer w = is_answer w ≡ false

none_answers : (eager : ℕ) (bodies : Sent → List ℕ) (commands : List Numbered) (log : List LogEntry)
    (h events : List Event) → AllByRecursion NoAnswer (happenings events) →
    AtEachAfter (AnswerIn eager bodies commands log) h events
none_answers eager bodies commands log h [] none = tt
none_answers eager bodies commands log h (e ∷ events) none = (
  (λ is. let bad : true ≡ false = sym is ∙ none.0 in cc),
  none_answers eager bodies commands log
      (h ++ e ∷ []) events none.1,
)

own_answers : (eager : ℕ) (bodies : Sent → List ℕ) (commands : List Numbered) (log before : List LogEntry)
    (moment : LogEntry) (after : List LogEntry) → log ≡ before ++ moment ∷ after → moment.cause ≡ Acted →
    AtEachAfter (λ h e. OwnEvent eager bodies commands before h e.stamp e.what) (history_of before) moment.events →
    (early events : List Event) → moment.events ≡ early ++ events →
    AtEachAfter (λ h e. OwnEvent eager bodies commands before h e.stamp e.what) (history_of before ++ early) events →
    AtEachAfter (AnswerIn eager bodies commands log) (history_of before ++ early) events
own_answers eager bodies commands log before moment after split acted made early [] same own = tt
own_answers eager bodies commands log before moment after split acted made early (e ∷ events) same own = (
  (λ is. record {
    before = before;
    moment = moment;
    after = after;
    split = split;
    acted = acted;
    early = early;
    late =
        events;
    first = refl;
    events = same;
    made = made;
    own = own.0;
  }),
  subst (λ (h : List Event). AtEachAfter (AnswerIn eager bodies commands log) h events)
      (sym (append_assoc (history_of before) early (e ∷ [])))
      (own_answers eager bodies commands log before moment after split acted made (early ++ e ∷ []) events
      (same ∙ sym (append_assoc early (e ∷ []) events))
      (subst (λ (h : List Event). AtEachAfter (λ h e. OwnEvent eager bodies commands before h e.stamp e.what) h
      events) (append_assoc (history_of before) early (e ∷ [])) own.1)),
)

whole_no_answer : (b : Bool) (from n : ℕ) → AllByRecursion NoAnswer (whole_if b from n)
whole_no_answer true from n = (refl, tt)
whole_no_answer false from n = tt

packet_no_answer : (known : Known) (h : List Event) (from size : ℕ) (w : What) →
    AllByRecursion NoAnswer (packet_events known h from w size)
packet_no_answer known h from size (what.Head tag ctx len) =
    (refl, all_append NoAnswer _ [] (whole_no_answer (len == size) from known.count) tt)
packet_no_answer known h from size (what.More n) = all_append NoAnswer _ []
    (whole_no_answer (known.missing == size) from n) tt
packet_no_answer known h from size (what.Ask tag ctx len) = (refl, whole_no_answer _ from known.count)
packet_no_answer known h from size (what.Clear n) = all_append NoAnswer _ [] (by_test (is_empty_send h from n)) tt where
  by_test : (b : Bool) → AllByRecursion NoAnswer (cond b (Out from n ∷ []) [])
  by_test true = (refl, tt)
  by_test false = tt
packet_no_answer known h from size (what.Withdraw n) = (refl, tt)
packet_no_answer known h from size (what.Withdrawn n done) = (refl, tt)

piece_no_answer : (from : ℕ) (o : Option Due) (d : Pulled) → AllByRecursion NoAnswer (piece_makes from o d.piece)
piece_no_answer from None d = tt
piece_no_answer from (Some due) d = whole_no_answer (is_due d.piece due && due.last) from d.piece.n

log_answers : (eager : ℕ) (bodies : Sent → List ℕ) (commands : List Numbered) (whole before log : List LogEntry) →
    whole ≡ before ++ log → EachMomentAfter (MayHappen eager bodies commands) before log →
    AtEachAfter (AnswerIn eager bodies commands whole) (history_of before) (history_of log)
log_answers eager bodies commands whole before [] split sound = tt
log_answers eager bodies commands whole before (m ∷ log) split sound =
    append_after (AnswerIn eager bodies commands whole) (history_of before) m.events (history_of log)
    (by_cause m.cause refl sound.0.made)
    (subst (λ (h : List Event). AtEachAfter (AnswerIn eager bodies commands whole) h (history_of log))
    (history-push before m)
    (log_answers eager bodies commands whole (before ++ m ∷ []) log (split ∙ sym (append_assoc before (m ∷ []) log))
    sound.1))
  where
    by_cause : (c : Cause) → m.cause ≡ c → MadeBy eager bodies commands before c m.events →
        AtEachAfter (AnswerIn eager bodies commands whole) (history_of before) m.events
    by_cause Acted acted made =
        subst (λ (h : List Event). AtEachAfter (AnswerIn eager bodies commands whole) h m.events)
        (append-nil (history_of before))
        (own_answers eager bodies commands whole before m log split acted made [] m.events refl
        (subst (λ (h : List Event). AtEachAfter (λ h e. OwnEvent eager bodies commands before h e.stamp e.what) h
        m.events) (sym (append-nil (history_of before))) made))
    by_cause (Took t) took made = none_answers eager bodies commands whole (history_of before) m.events
        (subst (λ (ws : List Happened). AllByRecursion NoAnswer ws) (sym made.1) (by_goes t.continued)) where
          by_goes : (b : Bool) →
              AllByRecursion NoAnswer
              (cond b (packet_events (known_by (taken_from t.packet.from before)) (history_of before) t.packet.from
              t.packet.what (length t.packet.payload)) [])
          by_goes true = packet_no_answer (known_by (taken_from t.packet.from before)) (history_of before) t.packet.from
              (length t.packet.payload) t.packet.what
          by_goes false = tt
    by_cause (Drew d) drew made = none_answers eager bodies commands whole (history_of before) m.events
        (subst (λ (ws : List Happened). AllByRecursion NoAnswer ws) (sym made.2) (piece_no_answer d.piece.from _ d))

-- each answer of a log has its moment
pub answers_have_moments : (eager : ℕ) (bodies : Sent → List ℕ) (commands : List Numbered) (log : List LogEntry) →
    AreSound eager bodies commands log → AtEach (AnswerIn eager bodies commands log) (history_of log)
unfolding AtEach
answers_have_moments eager bodies commands log sound = log_answers eager bodies commands log [] log refl sound
