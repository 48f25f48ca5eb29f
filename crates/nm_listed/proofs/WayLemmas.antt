-- Each way of moves is told by a log.
use Rattle.std.proofs.Common.{◌≡◌, ◌⊎◌, inl, inr, ℕ, zero, suc, ◌<◌, Bool, true, false, Option, Some, None}
use Rattle.std.proofs.Common.{List, [], ◌∷◌}
use Rattle.std.proofs.Common.{length, map, refl, sym, ◌∙◌, ap, subst, arith, replicate}
use Rattle.std.specs.Prelude.{if◌then◌else◌, count_by, option_and_then}
use Rattle.std.specs.List.{slice_get, slice_set}
use Rattle.std.specs.Option.{option_map_or}
use Rattle.std.proofs.lemmas.Bool.{false≢true}
use Rattle.std.proofs.lemmas.List.{length-set}
use Rattle.nm_types.specs.declared.scripts.Command.{Command}
use Rattle.nm_types.specs.declared.scripts.Command.TheVariants as command
use Rattle.nm_types.specs.declared.scripts.Line.{Line}
use Rattle.nm_types.specs.Commands.{Numbered, command_at, commands_of}
use Rattle.nm_types.specs.Limits.{IsScript}
use Rattle.nm_types.specs.Sizes.{Sizes}
use Rattle.nm_types.proofs.ListLemmas.{place_below}
use Rattle.nm_types.proofs.OptionLemmas.{mapped_some, no_some, same_some}
use Rattle.nm_history.specs.declared.events.Event.{Event}
use Rattle.nm_history.specs.declared.events.Happened.TheVariants as event
use Rattle.nm_history.specs.Answers.{is_result}
use Rattle.nm_history.specs.Completion.{Request}
use Rattle.nm_history.specs.RankRun.{cancels_since, claims_since, ran_lines, start_of, starts_since, without_number}
use Rattle.nm_outcomes.specs.Logs.{Step, history_in}
use Rattle.nm_outcomes.specs.Paths.{AreCommands}
use Rattle.nm_outcomes.specs.RankStates.{Spot, first_spot, spot_after}
use Rattle.nm_outcomes.specs.declared.spots.deeds.Deed.{Deed}
use Rattle.nm_outcomes.specs.declared.spots.deeds.Deed.TheVariants as deed
use Rattle.nm_outcomes.specs.declared.spots.deeds.Reply.{Reply}
use Rattle.nm_outcomes.specs.declared.spots.deeds.Reply.TheVariants as reply
use Rattle.nm_outcomes.specs.Deeds.{answer_meant}
use Rattle.nm_outcomes.specs.Looks.{is_answer_by, live_in}
use Rattle.nm_outcomes.proofs.SaidLemmas.{said}
use Rattle.nm_explored.specs.declared.choices.moves.Move.{Move}
use Rattle.nm_explored.specs.declared.choices.moves.Move.TheVariants as move
use Rattle.nm_explored.specs.declared.choices.moves.Turn.{Turn}
use Rattle.nm_explored.specs.Successors.{answer_in, is_idle_at, is_test_of}
use Rattle.nm_explored.specs.Met.{IsWay}
use Rattle.nm_explored.specs.Moves.{IsAct, IsChoiceOf, IsDeedOf, moved_at, no_in}
use Rattle.nm_explored.proofs.WalkLemmas.{first_is_spot}
use Rattle.nm_listed.specs.Tellings.{Telling, after_move, before_result, name_asked, pushed, request_asked, told_next}
use Rattle.nm_listed.specs.Tellings.{told_way}
use Rattle.nm_listed.proofs.AnswerLemmas.{awaited, busy_start, cancelled, claimed, probed, received, started}
use Rattle.nm_listed.proofs.BeginLemmas.{begun_reached}
use Rattle.nm_listed.proofs.ComeLemmas.{comes_now, goes_now}
use Rattle.nm_listed.proofs.EndedLemmas.{asked_now, no_now}
use Rattle.nm_listed.proofs.ReachLemmas.{IsReached, is_at}
use Rattle.nm_listed.proofs.SteadyLemmas.{Begins, IsBegun, IsIdle, IsSteady}

module _ (shape : Sizes) (lines : List Line) (commands : AreCommands shape.ranks lines)
    (script : IsScript shape.ranks lines) where
  -- one rank
  module _ (log : List Step) (states : List Spot) (reached : IsReached shape lines log states) (i : ℕ)
      (low : i < shape.ranks) (spot : Spot) (here : slice_get states i ≡ Some spot) where
    abbrev h : List Event
    h = history_in log i

    abbrev mine : List Numbered
    mine = commands_of i lines

    abbrev v : ℕ → Option Spot
    v k = slice_get states k

    abbrev Later : Deed → Type 0
    Later d =
        IsReached shape lines (after_move lines log i spot (move.Act d)) (slice_set states i (spot_after spot d))

    steady : IsSteady shape mine h
    steady = reached.told.steady i

    -- the next command
    module _ (x : Numbered) (next : slice_get mine (length (ran_lines h)) ≡ Some x) where
      begun_as : (c : Command) → x.command ≡ c → (b : IsBegun shape.eager mine h) →
          Begins shape.eager mine h x.line c b.last
      begun_as c is b =
          let same : b.command ≡ x = same_some b.command x (sym b.next ∙ next) in
          subst (λ (c : Command). Begins shape.eager mine h x.line c b.last) is
          (subst (λ (y : Numbered). Begins shape.eager mine h y.line y.command b.last) same b.begun)

      -- a command that begins nothing has not begun
      idle_by : (c : Command) → x.command ≡ c →
          ((b : IsBegun shape.eager mine h) → Begins shape.eager mine h x.line c b.last → ⊥) → IsIdle h
      idle_by c is never = by_stage steady.stage
        where
          by_stage : IsIdle h ⊎ IsBegun shape.eager mine h → IsIdle h
          by_stage (inl idle) = idle
          by_stage (inr b) = absurd (never b (begun_as c is b))

      abbrev Stage : Command → Type 0
      Stage c =
          IsIdle h ⊎ ((is_idle_at spot ≡ false)
          × (map without_number (starts_since h) ≡ start_of shape.eager mine h x.line c) × (cancels_since h ≡ [])
          × (claims_since h ≡ []))

      -- an answer that needs nothing before it
      plain : (c : Command) → x.command ≡ c → name_asked c ≡ None → (r : Reply) →
          IsReached shape lines (pushed log i (event.Ran x.line (answer_meant lines r)))
          (slice_set states i (spot_after spot (deed.Ran x.line r))) → Later (deed.Ran x.line r)
      plain c is none r after =
          subst (λ (l : List Step). IsReached shape lines (pushed l i (event.Ran x.line (answer_meant lines r)))
          (slice_set states i (spot_after spot (deed.Ran x.line r))))
          (sym (unasked (is_result (answer_meant lines r)) (request_asked lines i spot x.line) no_request)) after
        where
          unasked : (b : Bool) (o : Option Request) → o ≡ None →
              (if b then option_map_or (before_result log i spot) o log else log) ≡ log
          unasked true o none = rw none refl
          unasked false o none = refl

          no_request : request_asked lines i spot x.line ≡ None
          no_request =
              ap (λ (o : Option Command).
              option_and_then (λ c. option_and_then (live_in lines i spot.deeds) (name_asked c)) o)
              (commands.stand i (length (ran_lines h)) x next)
              ∙ ap (λ (c : Command). option_and_then (live_in lines i spot.deeds) (name_asked c)) is
              ∙ ap (λ (o : Option ℕ). option_and_then (live_in lines i spot.deeds) o) none

      answers : (r : Reply) → answer_in v lines i spot x.line x.command ≡ Some r → Later (deed.Ran x.line r)
      answers r so = by_command x.command refl so
        where
          by_command : (c : Command) → x.command ≡ c → answer_in v lines i spot x.line c ≡ Some r →
              Later (deed.Ran x.line r)
          by_command (command.Send to q tag ctx sync body) is so =
              plain (command.Send to q tag ctx sync body) is refl r
              (started shape lines commands script states i low spot here log reached x next q
              (command.Send to q tag ctx sync body) is (λ g. refl) (λ none. none) refl (by_stage steady.stage) r so)
            where
              by_stage : IsIdle h ⊎ IsBegun shape.eager mine h → Stage (command.Send to q tag ctx sync body)
              by_stage (inl idle) = inl idle
              by_stage (inr b) =
                  let begun = begun_as (command.Send to q tag ctx sync body) is b in
                  inr (
                    busy_start shape lines commands script states i low spot here log reached x next b begun.kind,
                    begun.starts,
                    begun.cancels,
                    begun.claims,
                  )
          by_command (command.Recv q from tag ctx cap) is so =
              plain (command.Recv q from tag ctx cap) is refl r
              (started shape lines commands script states i low spot here log reached x next q
              (command.Recv q from tag ctx cap) is (λ g. refl) (λ none. none) refl (by_stage steady.stage) r so)
            where
              by_stage : IsIdle h ⊎ IsBegun shape.eager mine h → Stage (command.Recv q from tag ctx cap)
              by_stage (inl idle) = inl idle
              by_stage (inr b) =
                  let begun = begun_as (command.Recv q from tag ctx cap) is b in
                  inr (
                    busy_start shape lines commands script states i low spot here log reached x next b begun.kind,
                    begun.starts,
                    begun.cancels,
                    begun.claims,
                  )
          by_command (command.Wait q) is so =
              asked_now shape lines commands script states i low spot here x q (inl is) log reached next r so
          by_command (command.Test q) is so =
              asked_now shape lines commands script states i low spot here x q (inr is) log reached next r so
          by_command (command.Probe peer tag ctx) is so =
              plain (command.Probe peer tag ctx) is refl r
              (probed shape lines commands script states i low spot here log reached x next peer tag ctx is
              (idle_by (command.Probe peer tag ctx) is (λ b begun. begun)) r so)
          by_command (command.Await peer tag ctx) is so =
              plain (command.Await peer tag ctx) is refl r
              (awaited shape lines commands script states i low spot here log reached x next peer tag ctx is
              (idle_by (command.Await peer tag ctx) is (λ b begun. begun)) r so)
          by_command (command.Cancel q) is so =
              plain (command.Cancel q) is refl r
              (cancelled shape lines commands script states i low spot here log reached x next q is steady.stage
              (λ b. begun_as (command.Cancel q) is b) r so)
          by_command (command.Mprobe m peer tag ctx) is so =
              plain (command.Mprobe m peer tag ctx) is refl r
              (claimed shape lines commands script states i low spot here log reached x next m peer tag ctx is
              steady.stage
              (λ b. begun_as (command.Mprobe m peer tag ctx) is b) r so)
          by_command (command.Mrecv q m cap) is so =
              plain (command.Mrecv q m cap) is refl r
              (received shape lines commands script states i low spot here log reached x next q m cap is steady.stage
              (λ b. begun_as (command.Mrecv q m cap) is b) r so)

      denies : (d : Deed) → no_in lines i spot x.line x.command ≡ Some d → Later d
      denies d so = by_command x.command refl so
        where
          by_command : (c : Command) → x.command ≡ c → no_in lines i spot x.line c ≡ Some d → Later d
          by_command (command.Test q) is so = by_test (is_test_of lines i spot (command.Test q)) refl so
            where
              by_test : (b : Bool) → is_test_of lines i spot (command.Test q) ≡ b →
                  (if b then Some (deed.Ran x.line reply.No) else None) ≡ Some d → Later d
              by_test false may so = absurd (no_some d so)
              by_test true may so =
                  subst (λ (d : Deed). Later d) (same_some (deed.Ran x.line reply.No) d so)
                  (no_now shape lines commands script states i low spot here x q (inr is) log reached next is may)
          by_command (command.Send to q tag ctx sync body) is so = absurd (no_some d so)
          by_command (command.Recv q from tag ctx cap) is so = absurd (no_some d so)
          by_command (command.Wait q) is so = absurd (no_some d so)
          by_command (command.Probe peer tag ctx) is so = absurd (no_some d so)
          by_command (command.Await peer tag ctx) is so = absurd (no_some d so)
          by_command (command.Cancel q) is so = absurd (no_some d so)
          by_command (command.Mprobe m peer tag ctx) is so = absurd (no_some d so)
          by_command (command.Mrecv q m cap) is so = absurd (no_some d so)

      deeds : (d : Deed) → IsDeedOf shape.eager lines v i spot x.line x.command d → Later d
      deeds d (inl begins) = begun_reached shape lines commands script log states reached i low spot here x next d
          begins.1
      deeds d (inr (inl replies)) =
          let r = mapped_some (λ (r : Reply). deed.Ran x.line r) (answer_in v lines i spot x.line x.command) d
          replies in
          subst (λ (d : Deed). Later d) r.2 (answers r.0 r.1)
      deeds d (inr (inr denied)) = denies d denied

    acts_reach : (d : Deed) → IsAct shape.eager lines v i spot d → Later d
    acts_reach d act =
        let say = said lines h spot (is_at shape lines commands script log states reached.told i low spot here).is in
        let found = mapped_some (λ (x : Numbered). x.line) (slice_get mine (count_by is_answer_by spot.deeds)) act.line
        act.place in
        let next : slice_get mine (length (ran_lines h)) ≡ Some found.0 =
        ap (λ (k : ℕ). slice_get mine k) (sym say.ran) ∙ found.1 in
        let same : found.0.command ≡ act.command =
        same_some found.0.command act.command
        (sym (commands.stand i (length (ran_lines h)) found.0 next) ∙ ap (λ (l : ℕ). command_at mine l) found.2
        ∙ act.at) in
        deeds found.0 next d
        (subst (λ (c : Command). IsDeedOf shape.eager lines v i spot found.0.line c d) (sym same)
        (subst (λ (l : ℕ). IsDeedOf shape.eager lines v i spot l act.command d) (sym found.2) act.deed_of))

    pub moves_reach : (by : Move) → IsChoiceOf shape.eager shape.ranks lines v i spot by →
        IsReached shape lines (after_move lines log i spot by) (slice_set states i (moved_at spot by))
    moves_reach (move.Act d) act = acts_reach d act
    moves_reach (move.Arrive a) next = comes_now shape lines commands script log states reached i low spot here a next
    moves_reach (move.Withdraw m) recalled =
        goes_now shape lines commands script log states reached i low spot here m recalled

  -- nothing has happened
  nothing_reached : IsReached shape lines [] (replicate shape.ranks first_spot)
  nothing_reached = record {
    told = record {
      is_log = tt;
      stands = λ j low. (first_spot, first_at shape.ranks j low, first_is_spot lines);
      early = λ j. tt;
      steady = λ j. record {
        order = refl;
        few = omega arith;
        stage = inl (record { starts = refl; cancels = refl; claims = refl });
        sent = λ to n s here. absurd (no_some s here);
        named = λ q line is. absurd (no_some line is);
        claimed = λ line m is. absurd (no_some m is);
      };
    };
    hushed = λ j. record {
      requests = λ line open' r asked other. absurd (no_some r asked);
      taken = λ from n some. absurd (false≢true some);
    };
  }
    where
      first_at : (n j : ℕ) → j < n → slice_get (replicate n first_spot) j ≡ Some first_spot
      first_at zero j low = absurd (omega (arith, low))
      first_at (suc n) zero low = refl
      first_at (suc n) (suc j) low = first_at n j (omega (arith, low))

  replicate_long : (n : ℕ) → length (replicate n first_spot) ≡ n
  replicate_long zero = refl
  replicate_long (suc n) = ap suc (replicate_long n)

  way_long : (ts : List Turn) (state : List Spot) → IsWay shape.eager shape.ranks lines ts state →
      length state ≡ shape.ranks
  way_long [] state way = ap (λ (s : List Spot). length s) way ∙ replicate_long shape.ranks
  way_long (t ∷ ts) state way =
      ap (λ (s : List Spot). length s) way.3
      ∙ length-set way.0 t.rank (moved_at way.2.spot t.by) ∙ way_long ts way.0 way.1

  -- a turn of a rank in this state
  next_is : (t : Telling) (turn : Turn) (spot : Spot) → slice_get t.states turn.rank ≡ Some spot →
      told_next lines t turn
      ≡ record {
        log = after_move lines t.log turn.rank spot turn.by;
        states = slice_set t.states turn.rank (moved_at spot turn.by);
      }
  next_is t turn spot here =
      ap (λ (o : Option Spot). option_map_or (λ (spot : Spot). record {
        log = after_move lines t.log turn.rank spot turn.by;
        states = slice_set t.states turn.rank (moved_at spot turn.by);
      }) o t) here

  -- the log that is made of a way leads to its state
  pub way_reached : (ts : List Turn) (state : List Spot) → IsWay shape.eager shape.ranks lines ts state →
      IsReached shape lines (told_way lines shape.ranks ts).log state
      × ((told_way lines shape.ranks ts).states ≡ state)
  way_reached [] state way =
      (subst (λ (s : List Spot). IsReached shape lines [] s) (sym way) nothing_reached, sym way)
  way_reached (t ∷ ts) state way =
      let before = way_reached ts way.0 way.1 in
      let told : Telling = told_way lines shape.ranks ts in
      let inside : t.rank < shape.ranks =
      (let low = place_below way.0 t.rank way.2.spot way.2.here in
      let long = way_long ts way.0 way.1 in omega (arith, low, long)) in
      let is = next_is told t way.2.spot (ap (λ (s : List Spot). slice_get s t.rank) before.1 ∙ way.2.here) in
      let after : IsReached shape lines (after_move lines told.log t.rank way.2.spot t.by)
      (slice_set way.0 t.rank (moved_at way.2.spot t.by)) =
      moves_reach told.log way.0 before.0 t.rank inside way.2.spot way.2.here t.by way.2.choice in (
        subst (λ (u : Telling). IsReached shape lines u.log state) (sym is)
            (subst (λ (s : List Spot). IsReached shape lines (after_move lines told.log t.rank way.2.spot t.by) s)
            (sym way.3) after),
        ap (λ (u : Telling). u.states) is
            ∙ ap (λ (s : List Spot). slice_set s t.rank (moved_at way.2.spot t.by)) before.1 ∙ sym way.3,
      )
