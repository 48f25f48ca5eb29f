-- What a rank started stands at its lines, and so does the live request of a name.
use Rattle.std.proofs.Common.{◌≡◌, inl, inr, ℕ, zero, suc, ◌+◌, ◌==◌, ◌&&◌, Bool, true, false, cond, Option, Some, None}
use Rattle.std.proofs.Common.{List, [], ◌∷◌, replicate, refl, sym, ◌∙◌, ap, subst}
use Rattle.std.specs.Prelude.{if◌then◌else◌, count_by, fold, option_and_then, option_map}
use Rattle.std.specs.List.{find, list_any, slice_get, slice_set}
use Rattle.std.specs.Option.{option_map_or}
use Rattle.std.proofs.lemmas.Bool.{false≢true}
use Rattle.nm_types.specs.declared.messages.Arrival.{Arrival}
use Rattle.nm_types.specs.declared.scripts.Command.{Command}
use Rattle.nm_types.specs.declared.scripts.Command.TheVariants as command
use Rattle.nm_types.specs.declared.scripts.Line.{Line}
use Rattle.nm_types.specs.Commands.{Numbered, command_at, commands_from, commands_of}
use Rattle.nm_history.specs.Answers.{Message as Claimed, is_question_of, is_result, is_start_of, is_started, line_after}
use Rattle.nm_history.specs.Answers.{request_of}
use Rattle.nm_history.specs.Completion.{Request}
use Rattle.nm_history.specs.Completion.Request.{Receiving, Sending}
use Rattle.nm_history.specs.Matching.{is_of_message}
use Rattle.nm_types.proofs.ListLemmas.{find_passes, get_set_other, get_set_same, no_item, place_below}
use Rattle.nm_types.proofs.NumberLemmas.{differ, eq_true, same_number}
use Rattle.nm_types.proofs.OptionLemmas.{mapped_some, no_some, same_some}
use Rattle.nm_types.proofs.TruthLemmas.{and_left}
use Rattle.nm_outcomes.specs.declared.spots.deeds.Deed.{Deed}
use Rattle.nm_outcomes.specs.declared.spots.deeds.Deed.TheVariants as deed
use Rattle.nm_outcomes.specs.declared.spots.deeds.Reply.{Reply}
use Rattle.nm_outcomes.specs.declared.spots.deeds.Reply.TheVariants as reply
use Rattle.nm_outcomes.specs.Deeds.{answer_meant, happening}
use Rattle.nm_outcomes.specs.Looks.{found_at, is_recall_by, is_receive_by, is_start_by, live_in, message_in, name_in}
use Rattle.nm_outcomes.specs.Looks.{request_in}
use Rattle.nm_outcomes.specs.RankStates.{Spot, first_spot, spot_after}
use Rattle.nm_search.specs.Lists.{Has}
use Rattle.nm_search.proofs.ListLemmas.{more_only, then_some}
use Rattle.nm_explored.specs.declared.choices.moves.Move.{Move}
use Rattle.nm_explored.specs.declared.choices.moves.Move.TheVariants as move
use Rattle.nm_explored.specs.declared.choices.moves.Turn.{Turn}
use Rattle.nm_explored.specs.Successors.{answer_in, cancel_at, is_test_of, match_at, may_begin, start_in}
use Rattle.nm_explored.specs.Moves.{IsChoiceOf, IsDeedOf, IsTurn, moved_at}
use Rattle.nm_explored.specs.Chosen.{Goes}
use Rattle.nm_explored.specs.Started.{AreStarted, HasNoRecall, IsStarted, any_of, may_recall, sends_as}
use Rattle.nm_explored.specs.Met.{IsMet, IsWay}
use Rattle.nm_explored.proofs.PostLemmas.{found_has, none_has}
use Rattle.nm_explored.proofs.SeenLemmas.{after_arrival, after_deed}

-- the line that has a command of a rank
abbrev pub HasLine : List Line → ℕ → Command → Type 0
HasLine lines rank c = (l : Line) × Has lines l × (l.rank ≡ rank) × (l.command ≡ c)

pub at_line : (rank number line : ℕ) (lines : List Line) (c : Command) →
    command_at (commands_from rank number lines) line ≡ Some c → HasLine lines rank c
at_line rank number line [] c here = absurd (no_some c here)
at_line rank number line (l ∷ lines) c here =
    by_rank (l.rank == rank) refl (at_line rank (number + 1) line lines c) here
  where
    next : HasLine lines rank c → HasLine (l ∷ lines) rank c
    next there = (there.0, (suc there.1.0, there.1.1), there.2, there.3)

    by_line : l.rank ≡ rank → (b : Bool) →
        (command_at (commands_from rank (number + 1) lines) line ≡ Some c → HasLine lines rank c) →
        option_map (λ (x : Numbered). x.command)
        (cond b (Some (record { line = number; command = l.command }))
        (find (λ (x : Numbered). x.line == line) (commands_from rank (number + 1) lines))) ≡ Some c →
        HasLine (l ∷ lines) rank c
    by_line same true later here = (l, (0, refl), same, same_some l.command c here)
    by_line same false later here = next (later here)

    by_rank : (b : Bool) → (l.rank == rank) ≡ b →
        (command_at (commands_from rank (number + 1) lines) line ≡ Some c → HasLine lines rank c) →
        command_at (cond b (record { line = number; command = l.command } ∷ commands_from rank (number + 1) lines)
        (commands_from rank (number + 1) lines)) line ≡ Some c → HasLine (l ∷ lines) rank c
    by_rank true is later here = by_line (same_number l.rank rank is) (number == line) later here
    by_rank false is later here = next (later here)

-- where no command of a rank passes a test, this one does not
pub none_of_rank : (lines : List Line) (i line : ℕ) (c : Command) (test : Command → Bool) →
    any_of lines i test ≡ false → command_at (commands_of i lines) line ≡ Some c → test c ≡ false
none_of_rank lines i line c test none here =
    let at = at_line i 2 line lines c here in
    let other = none_has (λ (l : Line). l.rank == i && test l.command) lines at.0 none at.1 in
    ap test (sym at.3) ∙ sym (ap (λ (b : Bool). b && test at.0.command) (eq_true at.0.rank i at.2)) ∙ other

-- what a rank does next is begun by its command, or is an answer
pub of_deed : (P : Deed → Type 0) (eager : ℕ) (lines : List Line) (v : ℕ → Option Spot) (i : ℕ) (x : Spot) (line : ℕ)
    (c : Command) (d : Deed) → ((e : Deed) → start_in eager lines i x line c ≡ Some e → P e) →
    ((r : Reply) → P (deed.Ran line r)) → IsDeedOf eager lines v i x line c d → P d
of_deed P eager lines v i x line c d begins answers (inl does) =
    by_start (start_in eager lines i x line c) refl does.1
  where
    by_held : (e : Deed) → start_in eager lines i x line c ≡ Some e → (b : Bool) →
        (if b then Some e else None) ≡ Some d → P d
    by_held e starts true begun = subst P (same_some e d begun) (begins e starts)
    by_held e starts false begun = absurd (no_some d begun)

    by_start : (o : Option Deed) → start_in eager lines i x line c ≡ o →
        option_and_then (λ e. if may_begin x.deeds e then Some e else None) o ≡ Some d → P d
    by_start None starts begun = absurd (no_some d begun)
    by_start (Some e) starts begun = by_held e starts (may_begin x.deeds e) begun
of_deed P eager lines v i x line c d begins answers (inr (inl says)) =
    let r = mapped_some (λ (r : Reply). deed.Ran line r) (answer_in v lines i x line c) d says in
    subst P r.2 (answers r.0)
of_deed P eager lines v i x line c d begins answers (inr (inr denies)) = by_test (is_test_of lines i x c) denies
  where
    by_test : (b : Bool) → (if b then Some (deed.Ran line reply.No) else None) ≡ Some d → P d
    by_test true denied = subst P (same_some (deed.Ran line reply.No) d denied) (answers reply.No)
    by_test false denied = absurd (no_some d denied)

-- what a rank sends or posts, its command sends or posts
module _ (eager : ℕ) (lines : List Line) (i : ℕ) (x : Spot) (line : ℕ) (d : Deed) where
  started_as : (e : Deed) → Some e ≡ Some d → IsStarted lines i e → IsStarted lines i d
  started_as e same started = subst (λ (z : Deed). IsStarted lines i z) (same_some e d same) started

  started_start : (c : Command) → command_at (commands_of i lines) line ≡ Some c →
      start_in eager lines i x line c ≡ Some d → IsStarted lines i d
  started_start (command.Send to q tag ctx sync body) at starts = started_as _ starts (q, sync, body, at)
  started_start (command.Recv q from tag ctx cap) at starts = started_as _ starts (q, at)
  started_start (command.Mrecv q m cap) at starts = by_message (message_in lines i x.deeds m) starts
    where
      by_taken : (m : Claimed) (b : Bool) →
          (if b then None else Some (deed.Match (count_by is_receive_by x.deeds) m.from m.n cap line))
          ≡ Some d → IsStarted lines i d
      by_taken m true starts = absurd (no_some d starts)
      by_taken m false starts = started_as _ starts tt

      by_message : (o : Option Claimed) → option_and_then (match_at x cap line) o ≡ Some d → IsStarted lines i d
      by_message None starts = absurd (no_some d starts)
      by_message (Some m) starts = by_taken m (list_any (is_of_message m.from m.n) x.pairs) starts
  started_start (command.Cancel q) at starts =
      let r = then_some (cancel_at x) (live_in lines i x.deeds q) d starts in by_request r.0 r.2
    where
      by_recall : (to n : ℕ) (b : Bool) → (if b then None else Some (deed.Recall to n)) ≡ Some d →
          IsStarted lines i d
      by_recall to n true is = absurd (no_some d is)
      by_recall to n false is = started_as _ is tt

      by_request : (r : Request) → cancel_at x r ≡ Some d → IsStarted lines i d
      by_request (Receiving number) is = started_as _ is tt
      by_request (Sending to n) is = by_recall to n (list_any (is_recall_by to n) x.deeds) is
  started_start (command.Mprobe m from tag ctx) at starts =
      let a = mapped_some (λ (a : Arrival). deed.Claim a.env.from a.n line) (found_at x from tag ctx) d starts in
      subst (λ (z : Deed). IsStarted lines i z) a.2 tt
  started_start (command.Wait q) at starts = absurd (no_some d starts)
  started_start (command.Test q) at starts = absurd (no_some d starts)
  started_start (command.Probe from tag ctx) at starts = absurd (no_some d starts)
  started_start (command.Await from tag ctx) at starts = absurd (no_some d starts)

-- at the start no rank has done anything
no_deed : (n i : ℕ) (x : Spot) → slice_get (replicate n first_spot) i ≡ Some x → (d : Deed) → Has x.deeds d → ⊥
no_deed zero i x here d at = no_item i x here
no_deed (suc n) zero x here d at =
    no_item at.0 d (ap (λ (y : Spot). slice_get y.deeds at.0) (same_some first_spot x here) ∙ at.1)
no_deed (suc n) (suc i) x here d at = no_deed n i x here d at

module _ (eager ranks : ℕ) (lines : List Line) where
  -- a move of a rank
  started_move : (v : ℕ → Option Spot) (i : ℕ) (x : Spot) (m : Move) →
      ((d : Deed) → Has x.deeds d → IsStarted lines i d) → IsChoiceOf eager ranks lines v i x m →
      (d : Deed) → Has (moved_at x m).deeds d → IsStarted lines i d
  started_move v i x (move.Act e) started act d at =
      elim (more_only x.deeds (spot_after x e).deeds e (ap (λ (y : Spot). y.deeds) (after_deed x e).3) d at) [
        | inl before ↦ started d before
        | inr last ↦ subst (λ (z : Deed). IsStarted lines i z) last
            (of_deed (λ (z : Deed). IsStarted lines i z) eager lines v i x act.line act.command e
            (λ z starts. started_start eager lines i x act.line z act.command act.at starts) (λ r. tt) act.deed_of)
      ]
  started_move v i x (move.Arrive a) started next d at =
      started d (subst (λ (ds : List Deed). Has ds d) (ap (λ (y : Spot). y.deeds) (after_arrival x a).3) at)
  started_move v i x (move.Withdraw m) started recalled d at = started d at

  -- all that was started stands at lines after one move more
  started_turn : (s : List Spot) → AreStarted lines s → (t : Turn) →
      (turn : IsTurn eager ranks lines (λ k. slice_get s k) t) →
      AreStarted lines (slice_set s t.rank (moved_at turn.spot t.by))
  started_turn s started t turn k y here = by_rank (t.rank == k) refl
    where
      by_rank : (b : Bool) → (t.rank == k) ≡ b → (d : Deed) → Has y.deeds d → IsStarted lines k d
      by_rank true same =
          let e : t.rank ≡ k = same_number t.rank k same in
          let is : moved_at turn.spot t.by ≡ y =
          same_some (moved_at turn.spot t.by) y
          (sym (get_set_same s t.rank (moved_at turn.spot t.by) (place_below s t.rank turn.spot turn.here))
          ∙ ap (λ (n : ℕ). slice_get (slice_set s t.rank (moved_at turn.spot t.by)) n) e ∙ here) in
          subst (λ (n : ℕ). (d : Deed) → Has y.deeds d → IsStarted lines n d) e
          (subst (λ (z : Spot). (d : Deed) → Has z.deeds d → IsStarted lines t.rank d) is
          (started_move (λ n. slice_get s n) t.rank turn.spot t.by (started t.rank turn.spot turn.here) turn.choice))
      by_rank false other =
          started k y (sym (get_set_other s t.rank k (moved_at turn.spot t.by) (differ t.rank k other)) ∙ here)

  pub started_next : (s u : List Spot) → AreStarted lines s → Goes eager ranks lines s u → AreStarted lines u
  started_next s u started go =
      subst (λ (w : List Spot). AreStarted lines w) (sym go.3) (started_turn s started go.0 go.2)

  -- .. and after all moves from the start
  pub way_started : (ts : List Turn) (s : List Spot) → IsWay eager ranks lines ts s → AreStarted lines s
  way_started [] s way =
      subst (λ (w : List Spot). AreStarted lines w) (sym way) (λ i x here d at. absurd (no_deed ranks i x here d at))
  way_started (t ∷ ts) s way =
      subst (λ (w : List Spot). AreStarted lines w) (sym way.3)
      (started_turn way.0 (way_started ts way.0 way.1) t way.2)

  pub met_started : (s : List Spot) → IsMet eager ranks lines s → AreStarted lines s
  met_started s met = way_started met.0 s met.1

-- the command of a line starts a request of this name
abbrev pub starts_name : List Line → ℕ → ℕ → ℕ → Bool
starts_name lines i q line = option_map_or (is_start_of q) (command_at (commands_of i lines) line) false

-- a deed started this request, at a line whose command gives it this name
abbrev pub HasBegun : List Line → ℕ → ℕ → Request → Deed → Type 0
HasBegun lines i q r (deed.Send to n tag ctx len how line) =
    (Sending to n ≡ r) × (starts_name lines i q line ≡ true)
HasBegun lines i q r (deed.Post p line) = (Receiving p.number ≡ r) × (starts_name lines i q line ≡ true)
HasBegun lines i q r (deed.Match number from n cap line) = Receiving number ≡ r
HasBegun lines i q r _ = ⊥

module _ (lines : List Line) (i q : ℕ) where
  abbrev IsName : Option ℕ → Type 0
  IsName None = Unit {0}
  IsName (Some line) = starts_name lines i q line ≡ true

  abbrev name_then : Option ℕ → Deed → Option ℕ
  name_then o d = line_after (commands_of i lines) q o (happening lines d)

  abbrev asks : ℕ → Reply → Bool
  asks line r =
      option_map_or (is_question_of q) (command_at (commands_of i lines) line) false
      && is_result (answer_meant lines r)

  -- a name stands for a line whose command starts a request of it
  name_after : (o : Option ℕ) (d : Deed) → IsName o → IsName (name_then o d)
  name_after o (deed.Ran line r) is = by_start (starts_name lines i q line && is_started (answer_meant lines r)) refl
    where
      by_end : (b : Bool) → IsName (if b then None else o)
      by_end true = tt
      by_end false = is

      by_start : (b : Bool) → (starts_name lines i q line && is_started (answer_meant lines r)) ≡ b →
          IsName (if b then Some line else if asks line r then None else o)
      by_start true so = and_left (starts_name lines i q line) (is_started (answer_meant lines r)) so
      by_start false so = by_end (asks line r)
  name_after o (deed.Send to n tag ctx len how line) is = is
  name_after o (deed.Post r line) is = is
  name_after o (deed.Match number from n cap line) is = is
  name_after o (deed.Cancel number done) is = is
  name_after o (deed.Recall to n) is = is
  name_after o (deed.Claim from n line) is = is

  names_after : (deeds : List Deed) (o : Option ℕ) → IsName o →
      IsName (fold (λ (line : Option ℕ) (d : Deed). name_then line d) o deeds)
  names_after [] o is = is
  names_after (d ∷ ds) o is = names_after ds (name_then o d) (name_after o d is)

  pub of_name : (deeds : List Deed) (line : ℕ) → name_in lines i deeds q ≡ Some line → starts_name lines i q line ≡ true
  of_name deeds line is = subst (λ (o : Option ℕ). IsName o) is (names_after deeds None tt)

  -- the live request of a name was started by a deed
  pub begun : (deeds : List Deed) (r : Request) → live_in lines i deeds q ≡ Some r →
      (d : Deed) × Has deeds d × HasBegun lines i q r d
  begun deeds r is =
      let name = then_some (request_in deeds) (name_in lines i deeds q) r is in
      let start = then_some (λ (d : Deed). request_of name.0 (happening [] d)) (find (is_start_by name.0) deeds) r
      name.2 in (
        start.0,
        found_has (is_start_by name.0) deeds start.0 start.1,
        by_deed start.0 name.0 (find_passes (is_start_by name.0) deeds start.0 start.1) (of_name deeds name.0 name.1)
            start.2,
      )
    where
      by_test : (b : Bool) → b ≡ true → (x : Request) → (if b then Some x else None) ≡ Some r → x ≡ r
      by_test true so x makes = same_some x r makes
      by_test false so x makes = absurd (false≢true so)

      at_own : (own line : ℕ) → (own == line) ≡ true → starts_name lines i q line ≡ true →
          starts_name lines i q own ≡ true
      at_own own line is so =
          subst (λ (k : ℕ). starts_name lines i q k ≡ true) (sym (same_number own line is)) so

      by_deed : (d : Deed) (line : ℕ) → is_start_by line d ≡ true → starts_name lines i q line ≡ true →
          request_of line (happening [] d) ≡ Some r → HasBegun lines i q r d
      by_deed (deed.Send to n tag ctx len how own) line is so makes =
          (by_test (own == line) is (Sending to n) makes, at_own own line is so)
      by_deed (deed.Post p own) line is so makes =
          (by_test (own == line) is (Receiving p.number) makes, at_own own line is so)
      by_deed (deed.Match number from n cap own) line is so makes =
          by_test (own == line) is (Receiving number) makes
      by_deed (deed.Cancel number done) line is so makes = absurd (false≢true is)
      by_deed (deed.Recall to n) line is so makes = absurd (false≢true is)
      by_deed (deed.Claim from n own) line is so makes = absurd (false≢true is)
      by_deed (deed.Ran own p) line is so makes = absurd (false≢true is)

-- what the command of a line starts has its name
pub named_so : (lines : List Line) (i q line : ℕ) (c : Command) → command_at (commands_of i lines) line ≡ Some c →
    starts_name lines i q line ≡ true → is_start_of q c ≡ true
named_so lines i q line c at so = sym (ap (λ (o : Option Command). option_map_or (is_start_of q) o false) at) ∙ so

-- where no cancel may recall, a cancel's name stands for no send
pub no_sending : (lines : List Line) → HasNoRecall lines → (i place q : ℕ) →
    command_at (commands_of i lines) place ≡ Some (command.Cancel q) → (deeds : List Deed) →
    ((d : Deed) → Has deeds d → IsStarted lines i d) → (to n : ℕ) → live_in lines i deeds q ≡ Some (Sending to n) → ⊥
no_sending lines none i place q cancels deeds started to n lives =
    let s = begun lines i q deeds (Sending to n) lives in by_deed s.0 (started s.0 s.1) s.2
  where
    alone : any_of lines i (sends_as q) ≡ false
    alone =
        let at = at_line i 2 place lines (command.Cancel q) cancels in
        ap (λ (c : Command). may_recall lines i c) (sym at.3)
        ∙ ap (λ (k : ℕ). may_recall lines k at.0.command) (sym at.2)
        ∙ none_has (λ (l : Line). may_recall lines l.rank l.command) lines at.0 none at.1

    by_deed : (d : Deed) → IsStarted lines i d → HasBegun lines i q (Sending to n) d → ⊥
    by_deed (deed.Send to' n' tag ctx len how own) (q', sync, body, at) s =
        false≢true
        (sym (none_of_rank lines i own (command.Send to' q' tag ctx sync body) (sends_as q) alone at)
        ∙ named_so lines i q own (command.Send to' q' tag ctx sync body) at s.1)
    by_deed (deed.Post p own) is s = let e : Receiving p.number ≡ Sending to n = s.0 in cc
    by_deed (deed.Match number from n' cap own) is s = let e : Receiving number ≡ Sending to n = s in cc
    by_deed (deed.Cancel number done) is s = s
    by_deed (deed.Recall to' n') is s = s
    by_deed (deed.Claim from n' own) is s = s
    by_deed (deed.Ran own p) is s = s
