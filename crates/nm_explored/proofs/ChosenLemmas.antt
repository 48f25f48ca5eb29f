-- The moves of a settled command are enough: each other move may be made behind them.
use Rattle.std.proofs.Common.{◌≡◌, ◌⊎◌, inl, inr, ℕ, ◌<◌, ◌==◌, Bool, true, false, Option, Some, None, List}
use Rattle.std.proofs.Common.{[], ◌∷◌, ◌≢◌, length, refl, sym, ◌∙◌, ap, subst}
use Rattle.std.specs.Prelude.{if◌then◌else◌, count_by, option_map}
use Rattle.std.specs.List.{find, list_any, slice_get, slice_set}
use Rattle.std.proofs.lemmas.Bool.{false≢true}
use Rattle.std.proofs.lemmas.List.{set_comm}
use Rattle.nm_types.specs.declared.messages.Arrival.{Arrival}
use Rattle.nm_types.specs.declared.messages.Peer.{Peer}
use Rattle.nm_types.specs.declared.messages.TagPick.{TagPick}
use Rattle.nm_types.specs.declared.scripts.Body.{Body}
use Rattle.nm_types.specs.declared.scripts.Command.{Command}
use Rattle.nm_types.specs.declared.scripts.Command.TheVariants as command
use Rattle.nm_types.specs.declared.scripts.Line.{Line}
use Rattle.nm_types.specs.Bodies.{body_len}
use Rattle.nm_types.specs.Commands.{command_at, commands_of}
use Rattle.nm_history.specs.declared.plain.Pair.{Pair}
use Rattle.nm_history.specs.Matching.{is_of_receive}
use Rattle.nm_history.specs.RankRun.{how_of}
use Rattle.nm_types.proofs.ListLemmas.{find_nothing, get_set_other, get_set_same, place_below, set_twice}
use Rattle.nm_types.proofs.NumberLemmas.{differ, same_number}
use Rattle.nm_types.proofs.OptionLemmas.{mapped_some, no_some, same_some}
use Rattle.nm_outcomes.specs.Places.{or_else}
use Rattle.nm_outcomes.specs.Searches.{AreEnough}
use Rattle.nm_outcomes.specs.declared.spots.deeds.Deed.{Deed}
use Rattle.nm_outcomes.specs.declared.spots.deeds.Deed.TheVariants as deed
use Rattle.nm_outcomes.specs.declared.spots.deeds.Reply.{Reply}
use Rattle.nm_outcomes.specs.Looks.{is_answer_by, is_send_by}
use Rattle.nm_outcomes.specs.RankStates.{Spot, arrived_at}
use Rattle.nm_outcomes.specs.RankStates.{spot_after}
use Rattle.nm_outcomes.proofs.ListLemmas.{find-placed_new}
use Rattle.nm_outcomes.proofs.SpotLemmas.{pairs_with}
use Rattle.nm_explored.specs.declared.choices.moves.Move.{Move}
use Rattle.nm_explored.specs.declared.choices.moves.Move.TheVariants as move
use Rattle.nm_explored.specs.Successors.{answer_in, may_begin}
use Rattle.nm_explored.specs.Lines.{line_in}
use Rattle.nm_explored.specs.Moves.{IsAct, IsChoiceOf, IsDeedOf, moved_at}
use Rattle.nm_explored.specs.Chosen.{Acts, Goes, IsSettled, IsSettledBy, LetsAct}
use Rattle.nm_explored.specs.Rests.{AreAtRest, is_waiting}
use Rattle.nm_explored.specs.Orderly.{HasNoClaim, IsOrderly, came_of}
use Rattle.nm_explored.proofs.BehindLemmas.{IsKept, arrive_behind, deed_behind, is_plain}
use Rattle.nm_explored.proofs.CalmLemmas.{calm_next, no_withdrawal}
use Rattle.nm_explored.proofs.OrderlyLemmas.{common_receive, new_number, orderly_next}
use Rattle.nm_explored.proofs.StartedLemmas.{of_deed, started_next}
use Rattle.nm_explored.proofs.SeenLemmas.{AreSeen, IsLater, act_kept, after_arrival, after_deed, later_self, next_kept}
use Rattle.nm_explored.proofs.SeenLemmas.{seen_arrival, seen_deed, set_seen, wait_kept}

-- behind a message that came, a rank has its deeds and its pairs
pub arrival_later : (x : Spot) (a : Arrival) → IsLater x (arrived_at x a)
arrival_later x a =
    let form = after_arrival x a in
    subst (λ (y : Spot). IsLater x y) (sym form.3) (record {
      deeds = refl;
      pairs = λ number p here. by_pair form.2 number p here;
    })
  where
    by_pair : (o : Option Pair) (number : ℕ) (p : Pair) → find (is_of_receive number) x.pairs ≡ Some p →
        find (is_of_receive number) (pairs_with o x.pairs) ≡ Some p
    by_pair None number p here = here
    by_pair (Some pair) number p here =
        find-placed_new (is_of_receive pair.number) (is_of_receive number) _ pair x.pairs
        (λ passes none.
        find_nothing (is_of_receive number) x.pairs
        (subst (λ (k : ℕ). list_any (is_of_receive k) x.pairs ≡ false) (same_number pair.number number passes) none))
        ∙ ap (λ (o : Option Pair). or_else o (find (is_of_receive number) (pair ∷ []))) here

-- it and a message that comes may be swapped
abbrev IsBehind : Spot → Deed → Type 0
IsBehind x d =
    (a : Arrival) → a.n ≡ came_of x a.env.from → arrived_at (spot_after x d) a ≡ spot_after (arrived_at x a) d

module _ (eager ranks : ℕ) (lines : List Line) (v w : ℕ → Option Spot) (seen : AreSeen v w) (i : ℕ) (x y : Spot)
    (later : IsLater x y) (is : IsSettled lines v i x)
  where
    -- a command that is settled stays so
    settled_kept : IsSettled lines w i y
    settled_kept = record {
      line = is.line;
      command = is.command;
      place = ap (λ (ds : List Deed). line_in lines i (count_by is_answer_by ds)) later.deeds ∙ is.place;
      at = is.at;
      settled = by_command is.command is.settled;
    }
      where
        by_command : (c : Command) → IsSettledBy v lines i x is.line c → IsSettledBy w lines i y is.line c
        by_command (command.Send to q tag ctx sync body) settled = tt
        by_command (command.Wait q) settled = (settled.0, wait_kept v w seen i lines x y later q settled.0 settled.1)
        by_command (command.Recv q from tag ctx cap) settled = settled
        by_command (command.Test q) settled = absurd settled
        by_command (command.Probe from tag ctx) settled = absurd settled
        by_command (command.Await from tag ctx) settled = absurd settled
        by_command (command.Cancel q) settled = absurd settled
        by_command (command.Mprobe m from tag ctx) settled = absurd settled
        by_command (command.Mrecv q m cap) settled = absurd settled

    module _ (orderly : HasNoClaim lines i → IsOrderly x) (d : Deed) where
      abbrev IsBefore : Command → Type 0
      IsBefore c = IsDeedOf eager lines v i x is.line c d × IsBehind x d

      plain_as : (e : Deed) → is_plain e ≡ true → e ≡ d → IsBehind x d
      plain_as e plain same = subst (λ (z : Deed). IsBehind x z) same (λ a new. arrive_behind x a e plain)

      send_before : (q to tag ctx : ℕ) (body : Body) (sync : Bool) →
          IsDeedOf eager lines w i y is.line (command.Send to q tag ctx sync body) d →
          IsBefore (command.Send to q tag ctx sync body)
      send_before q to tag ctx body sync does = (
        subst (λ (ds : List Deed). IsDeedOf eager lines v i (record y { deeds = ds }) is.line
            (command.Send to q tag ctx sync body) d) later.deeds does,
        by_kind does,
      )
        where
          sent : Deed
          sent =
              deed.Send to (count_by (is_send_by to) y.deeds) tag ctx (body_len body)
              (how_of eager sync (body_len body))
              is.line

          by_held : (e : Deed) (b : Bool) → (if b then Some e else None) ≡ Some d → is_plain e ≡ true → IsBehind x d
          by_held e true begins plain = plain_as e plain (same_some e d begins)
          by_held e false begins plain = absurd (no_some d begins)

          by_kind : IsDeedOf eager lines w i y is.line (command.Send to q tag ctx sync body) d → IsBehind x d
          by_kind (inl begins) = by_held sent (may_begin y.deeds sent) begins.1 refl
          by_kind (inr (inl says)) =
              let r = mapped_some (λ (r : Reply). deed.Ran is.line r)
              (answer_in w lines i y is.line (command.Send to q tag ctx sync body)) d says in
              plain_as (deed.Ran is.line r.0) refl r.2
          by_kind (inr (inr denies)) = absurd (no_some d denies)

      recv_before : (q : ℕ) (from : Peer) (tag : TagPick) (ctx cap : ℕ) → HasNoClaim lines i →
          IsDeedOf eager lines w i y is.line (command.Recv q from tag ctx cap) d →
          IsBefore (command.Recv q from tag ctx cap)
      recv_before q from tag ctx cap none does =
          let before : IsDeedOf eager lines v i x is.line (command.Recv q from tag ctx cap) d =
          subst (λ (ds : List Deed). IsDeedOf eager lines v i (record y { deeds = ds }) is.line
          (command.Recv q from tag ctx cap) d) later.deeds does in
          let common = common_receive eager lines v i x is.line q from tag ctx cap d before in (
            before,
            λ a new.
                deed_behind x (orderly none) a new d common.0 common.1
                (of_deed (λ (z : Deed). IsKept x a z) eager lines v i x is.line (command.Recv q from tag ctx cap) d
                (λ z starts. subst (λ (e : Deed). IsKept x a e) (same_some _ z starts) tt) (λ r. tt) before),
          )

      wait_before : (q : ℕ) → IsSettledBy v lines i x is.line (command.Wait q) →
          IsDeedOf eager lines w i y is.line (command.Wait q) d → IsBefore (command.Wait q)
      wait_before q settled (inl begins) = absurd (no_some d begins.1)
      wait_before q settled (inr (inl says)) =
          let r = mapped_some (λ (r : Reply). deed.Ran is.line r) (answer_in w lines i y is.line (command.Wait q)) d
          says in
          let same : settled.0 ≡ r.0 =
          same_some settled.0 r.0 (sym (wait_kept v w seen i lines x y later q settled.0 settled.1) ∙ r.1) in (
            inr (inl (ap (λ (o : Option Reply). option_map (λ (r : Reply). deed.Ran is.line r) o) settled.1
                ∙ ap (λ (r : Reply). Some (deed.Ran is.line r)) same ∙ ap (λ (e : Deed). Some e) r.2)),
            plain_as (deed.Ran is.line r.0) refl r.2,
          )
      wait_before q settled (inr (inr denies)) = absurd (no_some d denies)

      -- what it does or answers, it could have done or answered before
      act_before : IsAct eager lines w i y d → IsAct eager lines v i x d × IsBehind x d
      act_before act = (
        record {
          line = is.line;
          command = is.command;
          place = is.place;
          at = is.at;
          deed_of = before.0;
        },
        before.1,
      )
        where
          line_is : act.line ≡ is.line
          line_is =
              same_some act.line is.line
              (sym act.place ∙ ap (λ (ds : List Deed). line_in lines i (count_by is_answer_by ds)) later.deeds
              ∙ is.place)

          command_is : act.command ≡ is.command
          command_is =
              same_some act.command is.command
              (sym act.at ∙ ap (λ (n : ℕ). command_at (commands_of i lines) n) line_is ∙ is.at)

          does : IsDeedOf eager lines w i y is.line is.command d
          does =
              subst (λ (c : Command). IsDeedOf eager lines w i y is.line c d) command_is
              (subst (λ (n : ℕ). IsDeedOf eager lines w i y n act.command d) line_is act.deed_of)

          by_command : (c : Command) → IsSettledBy v lines i x is.line c → IsDeedOf eager lines w i y is.line c d →
              IsBefore c
          by_command (command.Send to q tag ctx sync body) settled does = send_before q to tag ctx body sync does
          by_command (command.Wait q) settled does = wait_before q settled does
          by_command (command.Recv q from tag ctx cap) settled does = recv_before q from tag ctx cap settled does
          by_command (command.Test q) settled does = absurd settled
          by_command (command.Probe from tag ctx) settled does = absurd settled
          by_command (command.Await from tag ctx) settled does = absurd settled
          by_command (command.Cancel q) settled does = absurd settled
          by_command (command.Mprobe m from tag ctx) settled does = absurd settled
          by_command (command.Mrecv q m cap) settled does = absurd settled

          before : IsBefore is.command
          before = by_command is.command is.settled does

module _ (eager ranks : ℕ) (lines : List Line) (i : ℕ) (s : List Spot) (at : LetsAct ranks lines i s) where
  -- a move may be made behind the rank's command, to the same end
  abbrev IsOther : List Spot → Type 0
  IsOther u =
      Acts eager lines i s u
      ⊎ (LetsAct ranks lines i u
      × ((v : List Spot) → Acts eager lines i u v →
      (t : List Spot) × Acts eager lines i s t × Goes eager ranks lines t v))

  -- where all others see the rank's state so, the rank's command is settled as before
  moved_on : (u : List Spot) (y : Spot) → Goes eager ranks lines s u → AreSeen (λ k. slice_get s k)
      (λ k. slice_get u k) →
      slice_get u i ≡ Some y → IsLater at.spot y →
      ((d : Deed) → IsBehind at.spot d → Goes eager ranks lines (slice_set s i (spot_after at.spot d))
      (slice_set u i (spot_after y d))) → IsOther u
  moved_on u y go seen here later back =
      inr (
        record {
          no_recall = at.no_recall;
          started = started_next eager ranks lines s u at.started go;
          calm = calm_next eager ranks lines at.no_recall s u at.started at.calm go;
          orderly = λ none.
              orderly_next eager ranks lines at.no_recall i none s u at.started at.calm (at.orderly none) go;
          inside = at.inside;
          spot = y;
          here = here;
          settled = settled_kept eager ranks lines (λ k. slice_get s k) (λ k. slice_get u k) seen i at.spot y later
              at.settled;
        },
        λ v acts.
            let same : acts.0 ≡ y = same_some acts.0 y (sym acts.1 ∙ here) in
            let act : IsAct eager lines (λ k. slice_get u k) i y acts.2 =
            subst (λ (z : Spot). IsAct eager lines (λ k. slice_get u k) i z acts.2) same acts.3 in
            let before = act_before eager ranks lines (λ k. slice_get s k) (λ k. slice_get u k) seen i at.spot y later
            at.settled (λ none. at.orderly none at.spot at.here)
            acts.2 act in (
              slice_set s i (spot_after at.spot acts.2),
              (at.spot, at.here, acts.2, before.0, refl),
              subst (λ (z : List Spot). Goes eager ranks lines (slice_set s i (spot_after at.spot acts.2)) z)
                  (ap (λ (z : Spot). slice_set u i (spot_after z acts.2)) (sym same) ∙ sym acts.4)
                  (back acts.2 before.1),
            ),
      )

  -- a move of another rank, that withdraws nothing
  by_another : (j : ℕ) → j < ranks → (j == i) ≡ false → (z : Spot) → slice_get s j ≡ Some z → (m : Move) →
      IsChoiceOf eager ranks lines (λ k. slice_get s k) j z m → AreSeen (λ k. slice_get s k)
      (λ k. slice_get (slice_set s j
      (moved_at z m)) k) →
      ((t : List Spot) → AreSeen (λ k. slice_get s k) (λ k. slice_get t k) → slice_get t j ≡ Some z →
      IsChoiceOf eager ranks lines (λ k. slice_get t k) j z m) →
      IsOther (slice_set s j (moved_at z m))
  by_another j low other z here m choice seen kept =
      moved_on (slice_set s j (moved_at z m)) at.spot
      (record { rank = j; by = m }, low, record { spot = z; here = here; choice = choice }, refl) seen
      (get_set_other s j i (moved_at z m) apart ∙ at.here) (later_self at.spot)
      (λ d plain.
      let there : slice_get (slice_set s i (spot_after at.spot d)) j ≡ Some z =
      get_set_other s i j (spot_after at.spot d) (λ same. apart (sym same)) ∙ here in (
        record { rank = j; by = m },
        low,
        record {
          spot = z;
          here = there;
          choice = kept (slice_set s i (spot_after at.spot d))
              (set_seen s i at.spot (spot_after at.spot d) at.here (seen_deed at.spot d)) there;
        },
        set_comm s j i (moved_at z m) (spot_after at.spot d) (λ same. apart (sym same)),
      ))
    where
      apart : i ≢ j
      apart = differ j i other

  -- a message that comes to the rank itself
  by_arrival : (a : Arrival) → (z : Spot) → slice_get s i ≡ Some z →
      IsChoiceOf eager ranks lines (λ k. slice_get s k) i z (move.Arrive a) → IsOther (slice_set s i (arrived_at z a))
  by_arrival a z here choice =
      subst (λ (z : Spot). IsOther (slice_set s i (arrived_at z a))) (same_some at.spot z (sym at.here ∙ here))
      (moved_on (slice_set s i (arrived_at at.spot a)) (arrived_at at.spot a) (
        record { rank = i; by = move.Arrive a },
        at.inside,
        record { spot = at.spot; here = at.here; choice = choice },
        refl,
      )
      (set_seen s i at.spot (arrived_at at.spot a) at.here (seen_arrival at.spot a))
      (get_set_same s i (arrived_at at.spot a) below) (arrival_later at.spot a)
      (λ d plain.
      let there : slice_get (slice_set s i (spot_after at.spot d)) i ≡ Some (spot_after at.spot d) =
      get_set_same s i (spot_after at.spot d) below in (
        record { rank = i; by = move.Arrive a },
        at.inside,
        record {
          spot = spot_after at.spot d;
          here = there;
          choice = next_kept (λ k. slice_get s k) (λ k. slice_get (slice_set s i (spot_after at.spot d)) k)
              (set_seen s i at.spot (spot_after at.spot d) at.here (seen_deed at.spot d)) i ranks at.spot
              (spot_after at.spot d) at.here there (ap (λ (y : Spot). y.came) (after_deed at.spot d).3) a choice;
        },
        set_twice s i (arrived_at at.spot a) (spot_after (arrived_at at.spot a) d)
            ∙ ap (λ (y : Spot). slice_set s i y)
            (sym (plain a (new_number ranks (λ k. slice_get s k) i at.spot at.here a choice)))
            ∙ sym (set_twice s i (spot_after at.spot d) (arrived_at (spot_after at.spot d) a)),
      )))
    where
      below : i < length s
      below = place_below s i at.spot at.here

  abbrev IsOtherBy : ℕ → Type 0
  IsOtherBy j =
      (m : Move) (z : Spot) → slice_get s j ≡ Some z → IsChoiceOf eager ranks lines (λ k. slice_get s k) j z m →
      IsOther (slice_set s j (moved_at z m))

  own : IsOtherBy i
  own (move.Act d) z here act = inl (z, here, d, act, refl)
  own (move.Arrive a) z here next = by_arrival a z here next
  own (move.Withdraw m) z here recalled =
      absurd (no_withdrawal s at.calm i recalled.arrival.env.from recalled.arrival.n recalled.free)

  another : (j : ℕ) → j < ranks → (j == i) ≡ false → IsOtherBy j
  another j low other (move.Act d) z here act =
      by_another j low other z here (move.Act d) act (set_seen s j z (spot_after z d) here (seen_deed z d))
      (λ t seen there. act_kept (λ k. slice_get s k) (λ k. slice_get t k) seen j eager lines z d act)
  another j low other (move.Arrive a) z here next =
      by_another j low other z here (move.Arrive a) next (set_seen s j z (arrived_at z a) here (seen_arrival z a))
      (λ t seen there. next_kept (λ k. slice_get s k) (λ k. slice_get t k) seen j ranks z z here there refl a next)
  another j low other (move.Withdraw m) z here recalled =
      absurd (no_withdrawal s at.calm j recalled.arrival.env.from recalled.arrival.n recalled.free)

  others : (u : List Spot) → Goes eager ranks lines s u → IsOther u
  others u go =
      subst (λ (w : List Spot). IsOther w) (sym go.3)
      (by_rank (go.0.rank == i) refl go.0.by go.2.spot go.2.here go.2.choice)
    where
      by_rank : (b : Bool) → (go.0.rank == i) ≡ b → IsOtherBy go.0.rank
      by_rank true same = subst (λ (j : ℕ). IsOtherBy j) (sym (same_number go.0.rank i same)) own
      by_rank false other = another go.0.rank go.1 other

  -- a rank whose command is settled is not at rest
  no_end : AreAtRest ranks lines (λ k. slice_get s k) → ⊥
  no_end rest =
      let held = (rest i at.inside).held at.spot at.here at.settled.line at.settled.command at.settled.place
      at.settled.at in
      by_command at.settled.command at.settled.settled held.0 held.1
    where
      by_command : (c : Command) → IsSettledBy (λ k. slice_get s k) lines i at.spot at.settled.line c →
          is_waiting c ≡ true → answer_in (λ k. slice_get s k) lines i at.spot at.settled.line c ≡ None → ⊥
      by_command (command.Wait q) settled waits none = no_some settled.0 (sym none ∙ settled.1)
      by_command (command.Send to q tag ctx sync body) settled waits none = false≢true waits
      by_command (command.Recv q from tag ctx cap) settled waits none = false≢true waits
      by_command (command.Test q) settled waits none = settled
      by_command (command.Probe from tag ctx) settled waits none = settled
      by_command (command.Await from tag ctx) settled waits none = settled
      by_command (command.Cancel q) settled waits none = settled
      by_command (command.Mprobe m from tag ctx) settled waits none = settled
      by_command (command.Mrecv q m cap) settled waits none = settled

-- the moves of a settled command are enough
pub acts_are_enough : (eager ranks : ℕ) (lines : List Line) (i : ℕ) →
    AreEnough (Goes eager ranks lines) (λ s. AreAtRest ranks lines (λ k. slice_get s k)) (LetsAct ranks lines i)
    (Acts eager lines i)
acts_are_enough eager ranks lines i = record {
  no_end = λ s at rest. no_end eager ranks lines i s at rest;
  others = λ s u at go. others eager ranks lines i s at u go;
}
