-- Lists that grow.
use Rattle.std.proofs.Common.{◌≡◌, ◌⊎◌, inl, inr, ℕ, ◌+◌, ◌<◌, Bool, true, false, Option, Some, None, List, [], ◌∷◌}
use Rattle.std.proofs.Common.{◌++◌, length, refl, sym, ◌∙◌, ap, subst, append-nil, arith}
use Rattle.std.specs.Prelude.{if◌then◌else◌, nat_lt, option_map}
use Rattle.std.proofs.lemmas.Bool.Decides.{nat_tests}
use Rattle.std.specs.List.{cons_option, slice_get}
use Rattle.nm_types.specs.declared.messages.Arrival.{Arrival}
use Rattle.nm_types.specs.declared.scripts.Command.{Command}
use Rattle.nm_types.specs.declared.scripts.Line.{Line}
use Rattle.nm_types.specs.Limits.{sent_len}
use Rattle.nm_types.proofs.ListLemmas.{get_before, get_last, no_item}
use Rattle.nm_outcomes.proofs.SentLemmas.{get_more}
use Rattle.nm_types.proofs.OptionLemmas.{mapped_some, no_some, same_some}
use Rattle.nm_outcomes.specs.declared.spots.deeds.Deed.{Deed}
use Rattle.nm_match.specs.declared.names.Message.{Message}
use Rattle.nm_outcomes.specs.RankStates.{Spot}
use Rattle.nm_explored.specs.declared.choices.moves.Move.TheVariants as move
use Rattle.nm_explored.specs.declared.choices.moves.Turn.{Turn}
use Rattle.nm_explored.specs.Successors.{begun_in, is_withdrawn_next}
use Rattle.nm_search.proofs.ListLemmas.{only_then, only_weaker}
use Rattle.nm_search.specs.Lists.{AddsOnly, Has, Extends}
use Rattle.nm_explored.specs.Moves.{IsAct, IsChoiceOf, IsDeedOf, IsNextMessage, IsRecalled, IsTurn, IsTurnOf}
use Rattle.nm_explored.specs.Moves.{no_in, reply_in}

-- lists to which at most one element was added
pub only_option : {X : Type 0} (P : X → Type 0) (xs ys : List X) (o : Option X) → ys ≡ xs ++ cons_option o [] →
    ((x : X) → o ≡ Some x → P x) → AddsOnly P xs ys
only_option P xs ys None is holds x at =
    inl (at.0, ap (λ zs. slice_get zs at.0) (sym (append-nil xs) ∙ sym is) ∙ at.1)
only_option P xs ys (Some y) is holds x at =
    by_place (get_more xs y true at.0 x (ap (λ zs. slice_get zs at.0) (sym is) ∙ at.1))
  where
    by_place : (slice_get xs at.0 ≡ Some x) ⊎ ((at.0 ≡ length xs) × (y ≡ x) × (true ≡ true)) → Has xs x ⊎ P x
    by_place (inl before) = inl (at.0, before)
    by_place (inr last) = inr (holds x (ap (λ z. Some z) last.1))

-- a move of a rank, as a turn
pub acts : (eager ranks : ℕ) (lines : List Line) (v : ℕ → Option Spot) (i : ℕ) (spot : Spot) (t : Turn) →
    (d : Deed) × (record { rank = i; by = move.Act d } ≡ t) × IsAct eager lines v i spot d →
    IsTurnOf eager ranks lines v i spot t
acts eager ranks lines v i spot t act =
    subst (λ (x : Turn). IsTurnOf eager ranks lines v i spot x) act.1 (refl, act.2)

pub comes : (eager ranks : ℕ) (lines : List Line) (v : ℕ → Option Spot) (i : ℕ) (spot : Spot) (t : Turn) →
    (a : Arrival) × (record { rank = i; by = move.Arrive a } ≡ t) × IsNextMessage ranks v i a →
    IsTurnOf eager ranks lines v i spot t
comes eager ranks lines v i spot t come =
    subst (λ (x : Turn). IsTurnOf eager ranks lines v i spot x) come.1 (refl, come.2)

pub goes : (eager ranks : ℕ) (lines : List Line) (v : ℕ → Option Spot) (i : ℕ) (spot : Spot) (t : Turn) →
    (m : Message) × (record { rank = i; by = move.Withdraw m } ≡ t) × IsRecalled v i spot m →
    IsTurnOf eager ranks lines v i spot t
goes eager ranks lines v i spot t gone =
    subst (λ (x : Turn). IsTurnOf eager ranks lines v i spot x) gone.1 (refl, gone.2)

pub turn_of : (eager ranks : ℕ) (lines : List Line) (v : ℕ → Option Spot) (i : ℕ) (spot : Spot) (t : Turn) →
    v i ≡ Some spot → IsTurnOf eager ranks lines v i spot t → IsTurn eager ranks lines v t
turn_of eager ranks lines v i spot t here turn =
    record {
      spot = spot;
      here = ap v turn.0 ∙ here;
      choice = subst (λ (k : ℕ). IsChoiceOf eager ranks lines v k spot t.by) (sym turn.0) turn.1;
    }

-- what the command of a line does, and the answers that it may have, as turns
abbrev pub as_turn : ℕ → Deed → Turn
as_turn i d = record { rank = i; by = move.Act d }

abbrev pub IsDeedTurn : ℕ → List Line → (ℕ → Option Spot) → ℕ → Spot → ℕ → Command → Turn → Type 0
IsDeedTurn eager lines v i spot line c t =
    (d : Deed) × (record { rank = i; by = move.Act d } ≡ t) × IsDeedOf eager lines v i spot line c d

pub deeds_only : (eager : ℕ) (lines : List Line) (v : ℕ → Option Spot) (i : ℕ) (spot : Spot) (line : ℕ) (c : Command)
    (a b d e : List Turn) (begun said denied : Option Deed) → sent_len c < 4294967296 →
    begun ≡ begun_in eager lines i spot line c → said ≡ reply_in v lines i spot line c →
    denied ≡ no_in lines i spot line c → b ≡ a ++ cons_option (option_map (as_turn i) begun) [] →
    d ≡ b ++ cons_option (option_map (as_turn i) said) [] →
    e ≡ d ++ cons_option (option_map (as_turn i) denied) [] →
    AddsOnly (λ t. IsDeedTurn eager lines v i spot line c t) a e
deeds_only eager lines v i spot line c a b d e begun said denied short begun_is said_is denied_is one two three =
    only_then (λ t. IsDeedTurn eager lines v i spot line c t) a d e
    (only_then (λ t. IsDeedTurn eager lines v i spot line c t) a b d
    (only_option (λ t. IsDeedTurn eager lines v i spot line c t) a b (option_map (as_turn i) begun) one
    (λ t is. let m = mapped_some (as_turn i) begun t is in (m.0, m.2, inl (short, sym begun_is ∙ m.1))))
    (only_option (λ t. IsDeedTurn eager lines v i spot line c t) b d (option_map (as_turn i) said) two
    (λ t is. let m = mapped_some (as_turn i) said t is in (m.0, m.2, inr (inl (sym said_is ∙ m.1))))))
    (only_option (λ t. IsDeedTurn eager lines v i spot line c t) d e (option_map (as_turn i) denied) three
    (λ t is. let m = mapped_some (as_turn i) denied t is in (m.0, m.2, inr (inr (sym denied_is ∙ m.1)))))

-- the moves of a rank, as turns
pub moves_only : (eager ranks : ℕ) (lines : List Line) (v : ℕ → Option Spot) (i : ℕ) (spot : Spot)
    (a b d e : List Turn) →
    AddsOnly (λ t. (x : Deed) × (record { rank = i; by = move.Act x } ≡ t) × IsAct eager lines v i spot x) a b →
    AddsOnly (λ t. (x : Arrival) × (record { rank = i; by = move.Arrive x } ≡ t) × IsNextMessage ranks v i x) b d →
    AddsOnly (λ t. (x : Message) × (record { rank = i; by = move.Withdraw x } ≡ t) × IsRecalled v i spot x) d e →
    AddsOnly (IsTurnOf eager ranks lines v i spot) a e
moves_only eager ranks lines v i spot a b d e one two three =
    only_then (IsTurnOf eager ranks lines v i spot) a d e
    (only_then (IsTurnOf eager ranks lines v i spot) a b d
    (only_weaker _ (IsTurnOf eager ranks lines v i spot) a b (acts eager ranks lines v i spot) one)
    (only_weaker _ (IsTurnOf eager ranks lines v i spot) b d (comes eager ranks lines v i spot) two))
    (only_weaker _ (IsTurnOf eager ranks lines v i spot) d e (goes eager ranks lines v i spot) three)

-- the withdrawal of a message, as a turn
abbrev pub withdrawal : ℕ → Arrival → Turn
withdrawal i a = record { rank = i; by = move.Withdraw (record { rank = a.env.from; n = a.n }) }

-- .. is added where the message may be withdrawn
pub withdrawal_added : (v : ℕ → Option Spot) (i : ℕ) (came : List Arrival) (k : ℕ) (item a : Arrival) (may : Bool)
    (turns : List Turn) → slice_get came k ≡ Some item → may ≡ is_withdrawn_next v i item.env.from item.n →
    (may ≡ true → Has turns (withdrawal i item)) → slice_get came k ≡ Some a →
    is_withdrawn_next v i a.env.from a.n ≡ true → Has turns (withdrawal i a)
withdrawal_added v i came k item a may turns here is added at so =
    let same : item ≡ a = same_some item a (sym here ∙ at) in
    subst (λ (x : Arrival). Has turns (withdrawal i x)) same
    (added (is ∙ ap (λ (x : Arrival). is_withdrawn_next v i x.env.from x.n) same ∙ so))

-- .. and only there
pub withdrawal_only : (v : ℕ → Option Spot) (i : ℕ) (spot : Spot) (k : ℕ) (item : Arrival) (may : Bool) (t : Turn) →
    slice_get spot.came k ≡ Some item → may ≡ is_withdrawn_next v i item.env.from item.n →
    (if may then Some (withdrawal i item) else None) ≡ Some t →
    (m : Message) × (record { rank = i; by = move.Withdraw m } ≡ t) × IsRecalled v i spot m
withdrawal_only v i spot k item false t here is so = absurd (no_some t so)
withdrawal_only v i spot k item true t here is so = (
  record { rank = item.env.from; n = item.n },
  same_some (withdrawal i item) t so,
  record { place = k; arrival = item; came = here; message = refl; free = sym is },
)
