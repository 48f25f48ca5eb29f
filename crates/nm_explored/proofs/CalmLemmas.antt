-- In a script without recalls nothing is recalled or withdrawn.
use Rattle.std.proofs.Common.{◌≡◌, ℕ, ◌==◌, ◌&&◌, ◌||◌, Bool, true, false, Option, Some, None}
use Rattle.std.proofs.Common.{List, [], ◌∷◌, replicate, zero, suc, refl, sym, ◌∙◌, ap, subst}
use Rattle.std.specs.Prelude.{if◌then◌else◌, count_by, option_and_then}
use Rattle.std.specs.List.{list_any, slice_get, slice_set}
use Rattle.std.specs.Option.{option_map_or}
use Rattle.std.proofs.lemmas.Bool.{false≢true}
use Rattle.nm_types.specs.declared.messages.Arrival.{Arrival}
use Rattle.nm_types.specs.declared.scripts.Command.{Command}
use Rattle.nm_types.specs.declared.scripts.Command.TheVariants as command
use Rattle.nm_types.specs.declared.scripts.Line.{Line}
use Rattle.nm_types.specs.Commands.{command_at, commands_of}
use Rattle.nm_history.specs.Answers.{Message as Claimed}
use Rattle.nm_history.specs.Matching.{is_of_message}
use Rattle.nm_history.specs.Completion.{Request}
use Rattle.nm_history.specs.Completion.Request.{Receiving, Sending}
use Rattle.nm_match.specs.Deeds.{is_message}
use Rattle.nm_types.proofs.ListLemmas.{get_set_other, get_set_same, no_item, place_below}
use Rattle.nm_types.proofs.NumberLemmas.{differ, same_number}
use Rattle.nm_types.proofs.OptionLemmas.{mapped_some, no_some, same_some}
use Rattle.nm_types.proofs.TruthLemmas.{and_right, or_left, or_right}
use Rattle.nm_outcomes.specs.declared.spots.deeds.Deed.{Deed}
use Rattle.nm_outcomes.specs.declared.spots.deeds.Deed.TheVariants as deed
use Rattle.nm_outcomes.specs.Looks.{found_at, is_recall_by, is_receive_by, live_in, message_in}
use Rattle.nm_outcomes.specs.RankStates.{Spot, first_spot, free_lem}
use Rattle.nm_explored.specs.declared.choices.moves.Move.{Move}
use Rattle.nm_explored.specs.declared.choices.moves.Move.TheVariants as move
use Rattle.nm_explored.specs.declared.choices.moves.Turn.{Turn}
use Rattle.nm_search.specs.Lists.{Has}
use Rattle.nm_search.proofs.ListLemmas.{then_some}
use Rattle.nm_explored.specs.Successors.{cancel_at, is_withdrawn_next, match_at, start_in}
use Rattle.nm_explored.specs.Moves.{IsAct, IsChoiceOf, IsTurn, moved_at}
use Rattle.nm_explored.specs.Chosen.{Goes}
use Rattle.nm_explored.specs.Started.{AreCalm, AreStarted, HasNoRecall, IsStarted, is_recalling_by}
use Rattle.nm_explored.specs.Met.{IsMet, IsWay}
use Rattle.nm_explored.proofs.PostLemmas.{none_push}
use Rattle.nm_explored.proofs.SeenLemmas.{after_arrival, after_deed}
use Rattle.nm_explored.proofs.StartedLemmas.{no_sending, of_deed, way_started}

-- what passes one test passes another one
pub any_along : {X : Type 0} (p q : X → Bool) → ((x : X) → p x ≡ true → q x ≡ true) → (xs : List X) →
    list_any p xs ≡ true → list_any q xs ≡ true
any_along p q along [] so = so
any_along p q along (x ∷ xs) so = by_first (p x) refl (any_along p q along xs) so
  where
    by_first : (b : Bool) → p x ≡ b → (list_any p xs ≡ true → list_any q xs ≡ true) →
        (b || list_any p xs) ≡ true → (q x || list_any q xs) ≡ true
    by_first true is later so = or_left (q x) (list_any q xs) (along x is)
    by_first false is later so = or_right (q x) (list_any q xs) (later so)

-- what comes of a command is no recall
module _ (eager : ℕ) (lines : List Line) (none : HasNoRecall lines) (i : ℕ) (x : Spot)
    (started : (d : Deed) → Has x.deeds d → IsStarted lines i d) (line : ℕ) (d : Deed)
  where
    abbrev IsCalm : Type 0
    IsCalm = is_recalling_by d ≡ false

    calm_as : (e : Deed) → Some e ≡ Some d → is_recalling_by e ≡ false → IsCalm
    calm_as e same calm = subst (λ (z : Deed). is_recalling_by z ≡ false) (same_some e d same) calm

    calm_start : (c : Command) → command_at (commands_of i lines) line ≡ Some c →
        start_in eager lines i x line c ≡ Some d → IsCalm
    calm_start (command.Send to q tag ctx sync body) at starts = calm_as _ starts refl
    calm_start (command.Recv q from tag ctx cap) at starts = calm_as _ starts refl
    calm_start (command.Mrecv q m cap) at starts = by_message (message_in lines i x.deeds m) starts
      where
        by_taken : (m : Claimed) (b : Bool) →
            (if b then None else Some (deed.Match (count_by is_receive_by x.deeds) m.from m.n cap line))
            ≡ Some d → IsCalm
        by_taken m true starts = absurd (no_some d starts)
        by_taken m false starts = calm_as _ starts refl

        by_message : (o : Option Claimed) → option_and_then (match_at x cap line) o ≡ Some d → IsCalm
        by_message None starts = absurd (no_some d starts)
        by_message (Some m) starts = by_taken m (list_any (is_of_message m.from m.n) x.pairs) starts
    calm_start (command.Cancel q) at starts =
        let r = then_some (cancel_at x) (live_in lines i x.deeds q) d starts in by_request r.0 r.1 r.2
      where
        by_request : (r : Request) → live_in lines i x.deeds q ≡ Some r → cancel_at x r ≡ Some d → IsCalm
        by_request (Receiving number) lives is = calm_as _ is refl
        by_request (Sending to n) lives is = absurd (no_sending lines none i line q at x.deeds started to n lives)
    calm_start (command.Mprobe m from tag ctx) at starts =
        let a = mapped_some (λ (a : Arrival). deed.Claim a.env.from a.n line) (found_at x from tag ctx) d starts in
        subst (λ (z : Deed). is_recalling_by z ≡ false) a.2 refl
    calm_start (command.Wait q) at starts = absurd (no_some d starts)
    calm_start (command.Test q) at starts = absurd (no_some d starts)
    calm_start (command.Probe from tag ctx) at starts = absurd (no_some d starts)
    calm_start (command.Await from tag ctx) at starts = absurd (no_some d starts)

pub calm_deed : (eager : ℕ) (lines : List Line) → HasNoRecall lines → (v : ℕ → Option Spot) (i : ℕ) (x : Spot) →
    ((d : Deed) → Has x.deeds d → IsStarted lines i d) → (d : Deed) → IsAct eager lines v i x d →
    is_recalling_by d ≡ false
calm_deed eager lines none v i x started d act =
    of_deed (λ (z : Deed). is_recalling_by z ≡ false) eager lines v i x act.line act.command d
    (λ z starts. calm_start eager lines none i x started act.line z act.command act.at starts) (λ r. refl) act.deed_of

-- at the start no rank has done anything
calm_first : (n : ℕ) → AreCalm (replicate n first_spot)
calm_first zero i x here = absurd (no_item i x here)
calm_first (suc n) zero x here =
    ap (λ (y : Spot). list_any is_recalling_by y.deeds) (sym (same_some first_spot x here))
calm_first (suc n) (suc i) x here = calm_first n i x here

module _ (eager ranks : ℕ) (lines : List Line) (none : HasNoRecall lines) where
  -- a move of a rank that has recalled nothing
  calm_move : (v : ℕ → Option Spot) (i : ℕ) (x : Spot) (m : Move) →
      ((d : Deed) → Has x.deeds d → IsStarted lines i d) → list_any is_recalling_by x.deeds ≡ false →
      IsChoiceOf eager ranks lines v i x m → list_any is_recalling_by (moved_at x m).deeds ≡ false
  calm_move v i x (move.Act d) started calm act =
      let form = after_deed x d in
      ap (λ (y : Spot). list_any is_recalling_by y.deeds) form.3
      ∙ none_push is_recalling_by x.deeds d calm (calm_deed eager lines none v i x started d act)
  calm_move v i x (move.Arrive a) started calm next =
      ap (λ (y : Spot). list_any is_recalling_by y.deeds) (after_arrival x a).3 ∙ calm
  calm_move v i x (move.Withdraw m) started calm recalled = calm

  -- no rank has recalled anything after one move more
  calm_turn : (s : List Spot) → AreStarted lines s → AreCalm s → (t : Turn) →
      (turn : IsTurn eager ranks lines (λ k. slice_get s k) t) →
      AreCalm (slice_set s t.rank (moved_at turn.spot t.by))
  calm_turn s started calm t turn k y here = by_rank (t.rank == k) refl
    where
      by_rank : (b : Bool) → (t.rank == k) ≡ b → list_any is_recalling_by y.deeds ≡ false
      by_rank true same =
          let e : t.rank ≡ k = same_number t.rank k same in
          let is : moved_at turn.spot t.by ≡ y =
          same_some (moved_at turn.spot t.by) y
          (sym (get_set_same s t.rank (moved_at turn.spot t.by) (place_below s t.rank turn.spot turn.here))
          ∙ ap (λ (n : ℕ). slice_get (slice_set s t.rank (moved_at turn.spot t.by)) n) e ∙ here) in
          subst (λ (z : Spot). list_any is_recalling_by z.deeds ≡ false) is
          (calm_move (λ n. slice_get s n) t.rank turn.spot t.by (started t.rank turn.spot turn.here)
          (calm t.rank turn.spot turn.here) turn.choice)
      by_rank false other =
          calm k y (sym (get_set_other s t.rank k (moved_at turn.spot t.by) (differ t.rank k other)) ∙ here)

  pub calm_next : (s u : List Spot) → AreStarted lines s → AreCalm s → Goes eager ranks lines s u → AreCalm u
  calm_next s u started calm go =
      subst (λ (w : List Spot). AreCalm w) (sym go.3) (calm_turn s started calm go.0 go.2)

  -- .. and after all moves from the start
  pub way_calm : (ts : List Turn) (s : List Spot) → IsWay eager ranks lines ts s → AreCalm s
  way_calm [] s way = subst (λ (w : List Spot). AreCalm w) (sym way) (calm_first ranks)
  way_calm (t ∷ ts) s way =
      subst (λ (w : List Spot). AreCalm w) (sym way.3)
      (calm_turn way.0 (way_started eager ranks lines ts way.0 way.1) (way_calm ts way.0 way.1) t way.2)

  pub met_calm : (s : List Spot) → IsMet eager ranks lines s → AreCalm s
  met_calm s met = way_calm met.0 s met.1

-- no message is withdrawn
pub no_withdrawal : (s : List Spot) → AreCalm s → (i from n : ℕ) →
    is_withdrawn_next (λ k. slice_get s k) i from n ≡ true → ⊥
no_withdrawal s calm i from n so = by_rank (slice_get s i) so
  where
    recalls : (d : Deed) → is_recall_by i n d ≡ true → is_recalling_by d ≡ true
    recalls (deed.Recall to m) is = refl
    recalls (deed.Send to m tag ctx len how line) is = absurd (false≢true is)
    recalls (deed.Post r line) is = absurd (false≢true is)
    recalls (deed.Match number from m cap line) is = absurd (false≢true is)
    recalls (deed.Cancel number done) is = absurd (false≢true is)
    recalls (deed.Claim from m line) is = absurd (false≢true is)
    recalls (deed.Ran line r) is = absurd (false≢true is)

    by_other : (x : Spot) (o : Option Spot) → slice_get s from ≡ o →
        option_map_or (λ (other : Spot). list_any (is_message from n) x.came
        && (free_lem x from n && list_any (is_recall_by i n) other.deeds)) o false ≡ true → ⊥
    by_other x None here so = false≢true so
    by_other x (Some other) here so =
        false≢true
        (sym (calm from other here)
        ∙ any_along (is_recall_by i n) is_recalling_by recalls other.deeds
        (and_right (free_lem x from n) (list_any (is_recall_by i n) other.deeds)
        (and_right (list_any (is_message from n) x.came)
        (free_lem x from n && list_any (is_recall_by i n) other.deeds) so)))

    by_rank : (o : Option Spot) →
        option_map_or (λ (x : Spot). option_map_or (λ (other : Spot). list_any (is_message from n) x.came
        && (free_lem x from n && list_any (is_recall_by i n) other.deeds)) (slice_get s from) false) o false ≡ true → ⊥
    by_rank None so = false≢true so
    by_rank (Some x) so = by_other x (slice_get s from) refl so
