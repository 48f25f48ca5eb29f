-- A matched receive takes effect: its message is pending and claimed no more. MPI 3.1, 3.8.3.
use Rattle.std.proofs.Common.{◌≡◌, ℕ, ◌+◌, ◌-◌, ◌<◌, ◌==◌, ◌&&◌, ◌||◌, Bool, true, false, cond, not, Option, Some, None}
use Rattle.std.proofs.Common.{List, [], ◌∷◌, ◌++◌, get_or, length, refl, sym, ◌∙◌, ap, subst, arith, append-nil}
use Rattle.std.specs.Prelude.{is_some, option_and_then, option_map, option_to_list}
use Rattle.std.specs.List.{cons_option, filter, filter_map, find, list_any, slice_get}
use Rattle.std.specs.Option.{option_map_or}
use Rattle.std.proofs.lemmas.Bool.{false≢true}
use Rattle.std.proofs.lemmas.List.Elements.{filter_map-append}
use Rattle.nm_types.specs.declared.answers.Answer.{Answer}
use Rattle.nm_types.specs.declared.answers.Answer.TheVariants as answer
use Rattle.nm_types.specs.declared.messages.Arrival.{Arrival}
use Rattle.nm_types.specs.declared.scripts.Command.{Command}
use Rattle.nm_types.specs.declared.scripts.Line.{Line}
use Rattle.nm_types.specs.Commands.{Numbered, command_at, commands_of}
use Rattle.nm_types.specs.Sizes.{Sizes}
use Rattle.nm_types.proofs.NumberLemmas.{eq_false, eq_true, same_number}
use Rattle.nm_types.proofs.TruthLemmas.{both}
use Rattle.nm_history.specs.declared.events.Event.{Event}
use Rattle.nm_history.specs.declared.events.Happened.{Happened}
use Rattle.nm_history.specs.declared.events.Happened.TheVariants as event
use Rattle.nm_history.specs.declared.plain.Pair.{Pair}
use Rattle.nm_history.specs.Answers.{Message as claimed, answer_of, live, live_message}
use Rattle.nm_history.specs.Completion.{Request as asked}
use Rattle.nm_history.specs.Matching.{is_of_message, is_of_receive, pair_of_claimed}
use Rattle.nm_history.specs.Quiescence.{Ended, Packets, history_of}
use Rattle.nm_history.specs.RankRun.{NumberAt, cancels_since, is_cancelling, is_start}
use Rattle.nm_history.specs.Sends.{receive_of, receives}
use Rattle.nm_history.specs.Underway.{is_answer}
use Rattle.nm_history.proofs.Basic.{all_of, or_false}
use Rattle.nm_history.proofs.Lasting.{by_splits, filter_map_same}
use Rattle.nm_match.specs.Deeds.{is_known_message}
use Rattle.nm_outcomes.specs.Due.{IsNextCommand}
use Rattle.nm_outcomes.specs.Logs.{Step, history_in}
use Rattle.nm_outcomes.specs.Moves.{Matches, MayMove}
use Rattle.nm_outcomes.specs.Paths.{moved}
use Rattle.nm_outcomes.specs.Places.{RankPoint, after, or_else, pair_by}
use Rattle.nm_outcomes.proofs.LogLemmas.{grown_here, grown_other}
use Rattle.nm_outcomes.proofs.MoveLemmas.{request_is}
use Rattle.nm_lawful.specs.declared.messages.Act.{Act}
use Rattle.nm_lawful.specs.declared.messages.Act.TheVariants as act
use Rattle.nm_lawful.specs.declared.messages.Claim.{Claim}
use Rattle.nm_lawful.specs.declared.messages.Message.{Message}
use Rattle.nm_lawful.specs.declared.messages.Request.{Request}
use Rattle.nm_lawful.specs.declared.messages.Standing.{Standing}
use Rattle.nm_lawful.specs.declared.messages.Standing.TheVariants as standing
use Rattle.nm_lawful.specs.Moves.{Report, told_at_lem}
use Rattle.nm_lawful.specs.Ranks.{RankState, handle_lem, live_lem, ran_at, without_message}
use Rattle.nm_lawful.specs.Replies.{act_of_lem}
use Rattle.nm_runs_lawful.specs.Stands.{IsNext, IsRunTold, StepLeads, behind, claim_by, effects, is_live_at}
use Rattle.nm_runs_lawful.specs.Stands.{is_match_of}
use Rattle.nm_runs_lawful.specs.Stands.{is_matched_now, line_of, message_at, message_by, name_of, rank_of, request_by}
use Rattle.nm_runs_lawful.specs.Stands.{claimed_at, handle_of, standing_of, state_of, taken_by}
use Rattle.nm_runs_lawful.proofs.BeginLemmas.{begin_answered, begun_none, live_others, no_cancels, other_line}
use Rattle.nm_runs_lawful.proofs.BeginLemmas.{request_new}
use Rattle.nm_runs_lawful.proofs.AlikeLemmas.{claim_of, claim_with}
use Rattle.nm_runs_lawful.proofs.AnsweredLemmas.{and_nothing}
use Rattle.nm_runs_lawful.proofs.ClaimedLemmas.{IsHeld, held_found, message_held}
use Rattle.nm_runs_lawful.proofs.ChangeLemmas.{claim_as, grown_map, kept_map, message_as, request_as, row_is}
use Rattle.nm_runs_lawful.proofs.ChangeLemmas.{standing_as, two_rows}
use Rattle.nm_runs_lawful.proofs.EffectLemmas.{IsStartAnswered, free_before}
use Rattle.nm_runs_lawful.proofs.EndedLemmas.{moved_own}
use Rattle.nm_runs_lawful.proofs.HeldLemmas.{held_alone}
use Rattle.nm_runs_lawful.proofs.KnownLemmas.{known_named, known_sender, known_sent}
use Rattle.nm_runs_lawful.proofs.LiveLemmas.{none_lives}
use Rattle.nm_runs_lawful.proofs.OffLemmas.{new_receive}
use Rattle.nm_runs_lawful.proofs.OnceLemmas.{number_at}
use Rattle.nm_runs_lawful.proofs.OwnLemmas.{at_before, at_behind}
use Rattle.nm_runs_lawful.proofs.RunLemmas.{run_leads_to}
use Rattle.nm_runs_lawful.proofs.TakenLemmas.{outgoing_taken}
use Rattle.nm_runs_lawful.proofs.UniqueLemmas.{more_receives, receive_number}
use Rattle.nm_runs_lawful.proofs.QuietLemmas.{first_alone}
use Rattle.nm_runs_lawful.proofs.ToldLemmas.{step_split}

-- a name whose matched receive was taken was free
free_of_match : (o : Option asked) (message : Bool) →
    Some (cond (is_some o) answer.Busy (cond message answer.Started answer.Null)) ≡ Some answer.Started → o ≡ None
free_of_match None message may = refl
free_of_match (Some r) message may = absurd (grind arith)

-- what a matched receive changes of a place
record MatchesAlike (number from n : ℕ) (own : Bool) (pair : Pair) (p q : RankPoint) : Type 0 where
  named : (x : ℕ) → q.named x ≡ p.named x
  handled : (x : ℕ) → q.handled x ≡ p.handled x
  known : (f k : ℕ) → q.known f k ≡ p.known f k
  off : (k : ℕ) → q.off k ≡ p.off k
  recalled : (to k : ℕ) → q.recalled to k ≡ p.recalled to k
  withdrawn : (f k : ℕ) → q.withdrawn f k ≡ p.withdrawn f k
  lines : (to : ℕ) → q.lines to ≡ p.lines to
  taken : (f k : ℕ) → q.taken f k ≡ (p.taken f k || (own && (from == f && n == k)))
  pairs : (k : ℕ) → q.pairs k ≡ or_else (p.pairs k) (cond (own && number == k) (Some pair) None)

module _ (shape : Sizes) (lines : List Line) (ranks : List Ended) (packets : List Packets) (told : Report)
    (is : IsRunTold shape lines ranks packets told) (before : List Step) (s : Step) (later : List Step)
    (w : ℕ → RankPoint) (next : IsNext shape lines ranks before s later w) (number from n cap line : ℕ)
    (matched : s.event.what ≡ event.Match number from n cap line)
  where
    abbrev i : ℕ
    i = s.rank

    abbrev commands : List Numbered
    commands = commands_of s.rank lines

    abbrev h : List Event
    h = history_in before s.rank

    abbrev v : ℕ → RankPoint
    v = moved lines w s

    abbrev g : ℕ → List Event
    g = history_in (before ++ s ∷ [])

    moves : Matches commands (w i) from n cap line
    moves = subst (λ (what : Happened). MayMove shape lines w i what) matched next.moves

    abbrev c : Numbered
    c = moves.command

    abbrev m : ℕ
    m = moves.handle

    due : IsNextCommand commands h c
    due = ap (λ (k : ℕ). slice_get commands k) (sym (next.so_far.places i).done) ∙ moves.next

    at : line_of s.event.what ≡ Some c.line
    at = ap line_of matched ∙ ap (λ (l : ℕ). Some l) (sym moves.line_is)

    quiet : is_answer s.event.what ≡ false
    quiet = ap is_answer matched

    starts : is_start s.event.what ≡ true
    starts = ap is_start matched

    abbrev whole_is : history_of ranks s.rank ≡ h ++ s.event ∷ history_in later s.rank
    whole_is = step_split shape lines ranks packets told is before later s next.so_far.whole

    answered : IsStartAnswered shape lines ranks packets told is s.rank (history_in before s.rank) s.event
        (history_in later s.rank) whole_is c due quiet
    answered = begin_answered shape lines ranks packets told is before s later w next c due at quiet starts

    nor : cancels_since h ≡ []
    nor = no_cancels shape lines ranks packets told is before s later w next c due at quiet starts

    begun_no : (w i).begun ≡ []
    begun_no = begun_none shape lines ranks packets told is before s later w next c due at quiet starts

    abbrev x : claimed
    x = record { from = from; n = n }

    held : IsHeld shape lines ranks packets told is before (s ∷ later) w next.so_far i m x
    held = message_held shape lines ranks packets told is before (s ∷ later) w next.so_far i m x moves.message_is

    abbrev a : Arrival
    a = held.message

    names : (a.env.from ≡ from) × (a.n ≡ n) × (is_known_message h from n ≡ true)
    names = known_named shape lines ranks packets told is before (s ∷ later) w next.so_far i from n a held.known

    came : is_known_message h a.env.from a.n ≡ true
    came =
        subst (λ (f : ℕ). is_known_message h f a.n ≡ true) (sym names.0)
        (subst (λ (k : ℕ). is_known_message h from k ≡ true) (sym names.1) names.2)

    abbrev j : ℕ
    j = a.env.from

    within : j < shape.ranks
    within = known_sender shape lines ranks packets told is before (s ∷ later) w next.so_far i j a.n came

    sent : a.n < length ((w j).lines i)
    sent = known_sent shape lines ranks packets told is before (s ∷ later) w next.so_far i j a.n came

    number_is : number ≡ length (receives h)
    number_is = subst (λ (what : Happened). NumberAt shape.ranks h what) matched next.comes.own.numbers

    new : ((w i).off number ≡ false) × ((w i).pairs number ≡ None)
    new = new_receive shape lines ranks packets told is before (s ∷ later) w next.so_far i number number_is

    abbrev pair : Pair
    pair = pair_of_claimed number cap a

    own_is : v i ≡ after i commands (w i) (event.Match number from n cap line)
    own_is = moved_own lines w s ∙ ap (λ (what : Happened). after i commands (w i) what) matched

    pair_is : pair_by (w i) (event.Match number from n cap line) ≡ Some pair
    pair_is = ap (λ (o : Option Arrival). option_map (λ a. pair_of_claimed number cap a) o) held.known

    own_alike : MatchesAlike number from n true pair (w i) (after i commands (w i) (event.Match number from n cap line))
    own_alike = record {
      named = λ y. refl;
      handled = λ y. refl;
      known = λ f k. first_alone ((w i).known f k);
      off = λ k. or_false ((w i).off k);
      recalled = λ to k. or_false ((w i).recalled to k);
      withdrawn = λ f k. or_false ((w i).withdrawn f k);
      lines = λ to. append-nil ((w i).lines to);
      taken = λ f k.
          ap (λ (o : Option Pair). (w i).taken f k || list_any (is_of_message f k) (option_to_list o)) pair_is
          ∙ ap (λ (b : Bool). (w i).taken f k || b) (or_false (a.env.from == f && a.n == k))
          ∙ ap (λ (y : ℕ). (w i).taken f k || (y == f && a.n == k)) names.0
          ∙ ap (λ (y : ℕ). (w i).taken f k || (from == f && y == k)) names.1;
      pairs = λ k.
          ap (λ (o : Option Pair). or_else ((w i).pairs k) (find (is_of_receive k) (option_to_list o))) pair_is;
    }

    alike : (r : ℕ) → MatchesAlike number from n (i == r) pair (w r) (v r)
    alike r = by_rank (i == r) refl
      where
        by_rank : (b : Bool) → (i == r) ≡ b →
            MatchesAlike number from n b pair (w r) (cond b (after r (commands_of r lines) (w r) s.event.what) (w r))
        by_rank true same =
            subst (λ (r : ℕ). MatchesAlike number from n true pair (w r)
            (after r (commands_of r lines) (w r) s.event.what)) (same_number i r same)
            (subst (λ (what : Happened). MatchesAlike number from n true pair (w i) (after i commands (w i) what))
            (sym matched) own_alike)
        by_rank false other = record {
          named = λ y. refl;
          handled = λ y. refl;
          known = λ f k. refl;
          off = λ k. refl;
          recalled = λ to k. refl;
          withdrawn = λ f k. refl;
          lines = λ to. refl;
          taken = λ f k. sym (or_false ((w r).taken f k));
          pairs = λ k. sym (first_alone ((w r).pairs k));
        }

    same_message : (k : ℕ) (y : Arrival) → message_at v k y ≡ message_at w k y
    same_message k y =
        message_as w v k y (ap (λ (ls : List ℕ). get_or ls y.n 0) ((alike y.env.from).lines k))

    gone : (r k y : ℕ) → ((v r).taken k y || (v r).withdrawn k y)
        ≡ (((w r).taken k y || (w r).withdrawn k y) || (i == r && (j == k && a.n == y)))
    gone r k y =
        ap (λ (b : Bool). b || (v r).withdrawn k y)
        ((alike r).taken k y
        ∙ ap (λ (f : ℕ). (w r).taken k y || (i == r && (f == k && n == y))) (sym names.0)
        ∙ ap (λ (z : ℕ). (w r).taken k y || (i == r && (j == k && z == y))) (sym names.1))
        ∙ ap (λ (b : Bool). ((w r).taken k y || (i == r && (j == k && a.n == y))) || b) ((alike r).withdrawn k y)
        ∙ moved_last ((w r).taken k y) (i == r && (j == k && a.n == y)) ((w r).withdrawn k y)
      where
        moved_last : (p q r : Bool) → ((p || q) || r) ≡ ((p || r) || q)
        moved_last true q r = refl
        moved_last false true true = refl
        moved_last false true false = refl
        moved_last false false true = refl
        moved_last false false false = refl

    abbrev message : Message
    message = message_at w s.rank held.message

    named : (y : ℕ) → (v i).named y ≡ (w i).named y
    named y = ap (λ (p : RankPoint). p.named y) own_is

    begun : (v i).begun ≡ (w i).begun ++ s.event.what ∷ []
    begun =
        ap (λ (p : RankPoint). p.begun) own_is ∙ ap (λ (what : Happened). (w i).begun ++ what ∷ []) (sym matched)

    abbrev row : ℕ → RankState
    row = rank_of lines w (history_in before)

    abbrev new_request : Request
    new_request = record { q = moves.name; place = c.line - 2; standing = standing.Taken cap message }

    request_is_new : request_by commands v i s.event.what ≡ Some new_request
    request_is_new =
        request_new shape lines ranks packets told is before s later w next c due at quiet starts named begun
        moves.name (ap name_of moves.receives)
        ∙ ap (λ (z : Standing). Some (record { q = moves.name; place = c.line - 2; standing = z }))
        (ap (standing_of commands v i) matched
        ∙ ap (λ (b : Bool). cond b standing.Off (taken_by v i ((v i).pairs number) standing.Off))
        ((alike i).off number ∙ new.0)
        ∙ ap (λ (o : Option Pair). taken_by v i o standing.Off) now_paired
        ∙ ap (λ (z : Message). standing.Taken cap z) (same_message i a))
      where
        now_paired : (v i).pairs number ≡ Some pair
        now_paired =
            (alike i).pairs number
            ∙ ap (λ (o : Option Pair). or_else o (cond (i == i && number == number) (Some pair) None)) new.1
            ∙ ap (λ (b : Bool). cond b (Some pair) None)
            (both (i == i) (number == number) (eq_true i i refl) (eq_true number number refl))

    -- what stood before stands as it did
    stands_own : (b : List Event) (e : Event) (t : List Event) → h ≡ b ++ e ∷ t →
        standing_of commands v i e.what ≡ standing_of commands w i e.what
    stands_own b e t split =
        standing_as w v i commands e.what (λ r k of. (alike r).withdrawn i k) (λ r k of. (alike i).recalled r k)
        (λ k of. (alike i).off k)
        (λ k of. (alike i).pairs k
        ∙ ap (λ (y : Bool). or_else ((w i).pairs k) (cond (i == i && y) (Some pair) None)) (not_new k of)
        ∙ ap (λ (y : Bool). or_else ((w i).pairs k) (cond y (Some pair) None)) (and_nothing (i == i))
        ∙ first_alone ((w i).pairs k))
        (λ k p of paired. same_message i p.arrival)
      where
        not_new : (k : ℕ) → receive_of e.what ≡ Some k → (number == k) ≡ false
        not_new k of =
            let early = more_receives b t e k of (receive_number shape.ranks b e.what k
            (number_at shape lines ranks packets told is before (s ∷ later) w next.so_far i b e t split) of) in
            let all : length (receives (b ++ e ∷ t)) ≡ length (receives h) =
            ap (λ (k : List Event). length (receives k)) (sym split) in
            eq_false number k (omega (arith, early, all, number_is))

    requests_own : filter_map (λ (e : Event). request_by commands v i e.what) (g i)
        ≡ (row i).requests ++ new_request ∷ []
    requests_own =
        ap (λ (k : List Event). filter_map (λ (e : Event). request_by commands v i e.what) k) (grown_here before s)
        ∙ grown_map (λ (e : Event). request_by commands w i e.what) (λ (e : Event). request_by commands v i e.what) h
        s.event
        (by_splits (λ e. request_by commands v i e.what ≡ request_by commands w i e.what) h [] h refl
        (λ b e t split. request_as w v i commands e.what
        (λ q l of named'. live_others shape lines ranks packets told is before s later w next c due at quiet starts
        named begun q l
        (other_line shape lines ranks packets told is before s later w next c due at quiet starts b e t split l of))
        (stands_own b e t split)))
        ∙ ap (λ (o : Option Request). (row i).requests ++ cons_option o []) request_is_new

    requests_other : (k : ℕ) → (i == k) ≡ false →
        filter_map (λ (e : Event). request_by (commands_of k lines) v k e.what) (g k) ≡ (row k).requests
    requests_other k other =
        ap (λ (t : List Event). filter_map (λ (e : Event). request_by (commands_of k lines) v k e.what) t)
        (grown_other before s k other)
        ∙ filter_map_same (λ (e : Event). request_by (commands_of k lines) v k e.what)
        (λ (e : Event). request_by (commands_of k lines) w k e.what) (history_in before k)
        (all_of (λ e. request_by (commands_of k lines) v k e.what ≡ request_by (commands_of k lines) w k e.what)
        (history_in before k)
        (λ e. request_as w v k (commands_of k lines) e.what
        (λ q l of named'. ap (λ (p : RankPoint). is_live_at p q l) unmoved)
        (standing_as w v k (commands_of k lines) e.what (λ r y of. (alike r).withdrawn k y)
        (λ r y of. (alike k).recalled r y) (λ y of. (alike k).off y)
        (λ y of. ap (λ (p : RankPoint). p.pairs y) unmoved) (λ y p of paired. same_message k p.arrival))))
      where
        unmoved : v k ≡ w k
        unmoved = ap (λ (b : Bool). cond b (after k (commands_of k lines) (w k) s.event.what) (w k)) other

    -- the claim of the handle is gone, and no other one
    abbrev keep : Claim → Bool
    keep y = not (y.m == m)

    matched_before : (f k : ℕ) → is_matched_now (w i) f k ≡ false
    matched_before f k = ap (λ (ws : List Happened). list_any (is_match_of f k) ws) begun_no

    matched_now : (f k : ℕ) → is_matched_now (v i) f k ≡ (from == f && n == k)
    matched_now f k =
        ap (λ (ws : List Happened). list_any (is_match_of f k) ws)
        (begun ∙ ap (λ (ws : List Happened). ws ++ s.event.what ∷ []) begun_no
        ∙ ap (λ (what : Happened). what ∷ []) matched)
        ∙ or_false (from == f && n == k)

    claim_cut : (b : List Event) (e : Event) (t : List Event) → h ≡ b ++ e ∷ t → (what : Happened) → e.what ≡ what →
        claim_by commands v i what
        ≡ option_and_then (λ (y : Claim). cond (keep y) (Some y) None) (claim_by commands w i what)
    claim_cut b e t split (event.Claim f k own) so =
        by_handle (option_and_then handle_of (command_at commands own)) refl
      where
        by_known : (y : ℕ) (o : Option Arrival) (cut : Bool) → (y == m) ≡ cut →
            cond cut None (option_map (λ (a : Arrival). claim_of v i y a) o)
            ≡ option_and_then (λ (z : Claim). cond (keep z) (Some z) None)
            (option_map (λ (a : Arrival). claim_of w i y a) o)
        by_known y None true same = refl
        by_known y None false same = refl
        by_known y (Some z) true same =
            sym (ap (λ (b : Bool). cond (not b) (Some (claim_of w i y z)) None) same)
        by_known y (Some z) false same =
            ap (λ (z : Message). Some (claim_with y z)) (same_message i z)
            ∙ sym (ap (λ (b : Bool). cond (not b) (Some (claim_of w i y z)) None) same)

        of_line : (y : ℕ) → option_and_then handle_of (command_at commands own) ≡ Some y → (o : Option ℕ) →
            (w i).handled y ≡ o → (b : Bool) → option_map_or (λ l. l == own) o false ≡ b →
            cond b (claimed_at v i y f k) None
            ≡ option_and_then (λ (z : Claim). cond (keep z) (Some z) None) (cond b (claimed_at w i y f k) None)
        of_line y called o stands false other = refl
        of_line y called None stands true live = absurd (false≢true live)
        of_line y called (Some l) stands true live =
            ap (λ (b : Bool). cond b None (option_map (λ (a : Arrival). claim_of v i y a) ((v i).known f k)))
            (matched_now f k
            ∙ sym (held_alone shape lines ranks packets told is before (s ∷ later) w next.so_far i m x held b e t
            split f k own y
            so called (stands ∙ ap (λ (n : ℕ). Some n) (same_number l own live))))
            ∙ ap (λ (o : Option Arrival). cond (y == m) None (option_map (λ (a : Arrival). claim_of v i y a) o))
            ((alike i).known f k)
            ∙ by_known y ((w i).known f k) (y == m) refl
            ∙ ap (λ (b : Bool). option_and_then (λ (z : Claim). cond (keep z) (Some z) None)
            (cond b None (option_map (λ (a : Arrival). claim_of w i y a) ((w i).known f k))))
            (sym (matched_before f k))

        by_handle : (o : Option ℕ) → option_and_then handle_of (command_at commands own) ≡ o →
            option_and_then (λ (y : ℕ). cond (option_map_or (λ l. l == own) ((v i).handled y) false)
            (claimed_at v i y f k) None) o
            ≡ option_and_then (λ (z : Claim). cond (keep z) (Some z) None)
            (option_and_then (λ (y : ℕ). cond (option_map_or (λ l. l == own) ((w i).handled y) false)
            (claimed_at w i y f k) None) o)
        by_handle None called = refl
        by_handle (Some y) called =
            ap (λ (o : Option ℕ). cond (option_map_or (λ l. l == own) o false) (claimed_at v i y f k) None)
            ((alike i).handled y)
            ∙ of_line y called ((w i).handled y) refl (option_map_or (λ l. l == own) ((w i).handled y) false) refl
    claim_cut b e t split what so = refl

    claims_own : filter_map (λ (e : Event). claim_by commands v i e.what) (g i) ≡ filter keep (row i).claims
    claims_own =
        ap (λ (k : List Event). filter_map (λ (e : Event). claim_by commands v i e.what) k) (grown_here before s)
        ∙ filter_map-append (λ (e : Event). claim_by commands v i e.what) h (s.event ∷ [])
        ∙ ap (λ (what : Happened). filter_map (λ (e : Event). claim_by commands v i e.what) h
        ++ cons_option (claim_by commands v i what) []) matched
        ∙ append-nil (filter_map (λ (e : Event). claim_by commands v i e.what) h)
        ∙ kept_map (λ (e : Event). claim_by commands w i e.what) (λ (e : Event). claim_by commands v i e.what) keep h
        (by_splits (λ e. claim_by commands v i e.what
        ≡ option_and_then (λ (y : Claim). cond (keep y) (Some y) None) (claim_by commands w i e.what)) h [] h refl
        (λ b e t split. claim_cut b e t split e.what refl))

    claims_other : (k : ℕ) → (i == k) ≡ false →
        filter_map (λ (e : Event). claim_by (commands_of k lines) v k e.what) (g k) ≡ (row k).claims
    claims_other k other =
        ap (λ (t : List Event). filter_map (λ (e : Event). claim_by (commands_of k lines) v k e.what) t)
        (grown_other before s k other)
        ∙ filter_map_same (λ (e : Event). claim_by (commands_of k lines) v k e.what)
        (λ (e : Event). claim_by (commands_of k lines) w k e.what) (history_in before k)
        (all_of (λ e. claim_by (commands_of k lines) v k e.what ≡ claim_by (commands_of k lines) w k e.what)
        (history_in before k) (λ e. by_event e.what))
      where
        unmoved : v k ≡ w k
        unmoved = ap (λ (b : Bool). cond b (after k (commands_of k lines) (w k) s.event.what) (w k)) other

        by_event : (what : Happened) → claim_by (commands_of k lines) v k what ≡ claim_by (commands_of k lines) w k what
        by_event (event.Claim f y own) =
            claim_as w v k (commands_of k lines) f y own (λ z. ap (λ (p : RankPoint). p.handled z) unmoved)
            (ap (λ (p : RankPoint). is_matched_now p f y) unmoved) (ap (λ (p : RankPoint). p.known f y) unmoved)
            (λ z known. same_message k z)
        by_event what = refl

    free : live_lem (row i) moves.name ≡ None
    free =
        none_lives lines w (history_in before) i (next.so_far.places i) begun_no moves.name
        (request_is i commands h (w i) (next.so_far.places i) moves.name
        ∙ free_before shape lines ranks packets told is i h s.event (history_in later i) whole_is c due quiet
        answered.behind moves.name
        (free_of_match (live commands answered.behind.front moves.name)
        (is_some (live_message commands answered.behind.front m))
        (sym (ap (answer_of commands answered.behind.front c.line) moves.receives) ∙ answered.may)))

    abbrev does : Act
    does = act.Receive moves.name m cap message

    acts : act_of_lem lines (state_of shape.ranks lines w before) i (row i) (c.line - 2) c.command
        (told_at_lem told None (c.line - 2)) ≡ Some does
    acts =
        ap (λ (o : Option Answer). act_of_lem lines (state_of shape.ranks lines w before) i (row i) (c.line - 2)
        c.command o) answered.is_told
        ∙ ap (λ (y : Command). act_of_lem lines (state_of shape.ranks lines w before) i (row i) (c.line - 2) y None)
        moves.receives
        ∙ ap (λ (o : Option Request). cond (is_some o) None
        (option_map (λ y. act.Receive moves.name m cap y.message) (handle_lem (row i) m))) free
        ∙ ap (λ (o : Option Claim). option_map (λ y. act.Receive moves.name m cap y.message) o)
        (held_found shape lines ranks packets told is before (s ∷ later) w next.so_far i m x held (matched_before from
        n))

    abbrev first : RankState → RankState
    first = ran_at (c.line - 2) (c.line - 2 + 1) does

    abbrev second : RankState → RankState
    second = without_message message.place

    -- the state of each rank behind it
    row_behind : (k : ℕ) → rank_of lines v g k
        ≡ cond (j == k) (second (cond (i == k) (first (row k)) (row k))) (cond (i == k) (first (row k)) (row k))
    row_behind k =
        row_is lines v g k (cond (i == k) (c.line - 2 + 1) (row k).at)
        (cond (i == k) ((row k).requests ++ new_request ∷ []) (row k).requests)
        (cond (j == k) (filter (λ y. not (y.place == message.place)) (row k).outgoing) (row k).outgoing)
        (cond (i == k) (filter keep (row k).claims) (row k).claims)
        (by_at (i == k) refl) (by_requests (i == k) refl) outgoing (by_claims (i == k) refl)
        ∙ by_ranks (i == k) (j == k) (row k)
      where
        by_at : (b : Bool) → (i == k) ≡ b →
            behind (commands_of k lines) (effects (g k)) ≡ cond b (c.line - 2 + 1) (row k).at
        by_at true same =
            subst (λ (k : ℕ). behind (commands_of k lines) (effects (g k)) ≡ c.line - 2 + 1) (same_number i k same)
            (at_behind shape lines ranks packets told is before s later w next c due quiet answered.first nor
            (ap (λ (b : Bool). b || is_cancelling s.event.what) starts))
        by_at false other =
            ap (λ (t : List Event). behind (commands_of k lines) (effects t))
            (grown_other before s k other)

        by_requests : (b : Bool) → (i == k) ≡ b →
            filter_map (λ (e : Event). request_by (commands_of k lines) v k e.what) (g k)
            ≡ cond b ((row k).requests ++ new_request ∷ []) (row k).requests
        by_requests true same =
            subst (λ (k : ℕ). filter_map (λ (e : Event). request_by (commands_of k lines) v k e.what) (g k)
            ≡ (row k).requests ++ new_request ∷ []) (same_number i k same) requests_own
        by_requests false other = requests_other k other

        by_claims : (b : Bool) → (i == k) ≡ b →
            filter_map (λ (e : Event). claim_by (commands_of k lines) v k e.what) (g k)
            ≡ cond b (filter keep (row k).claims) (row k).claims
        by_claims true same =
            subst (λ (k : ℕ). filter_map (λ (e : Event). claim_by (commands_of k lines) v k e.what) (g k)
            ≡ filter keep (row k).claims) (same_number i k same) claims_own
        by_claims false other = claims_other k other

        outgoing_before : filter_map (λ (e : Event). message_by v k e.what) (g k)
            ≡ filter_map (λ (e : Event). message_by v k e.what) (history_in before k)
        outgoing_before = by_rank (i == k) refl
          where
            by_rank : (b : Bool) → (i == k) ≡ b → filter_map (λ (e : Event). message_by v k e.what) (g k)
                ≡ filter_map (λ (e : Event). message_by v k e.what) (history_in before k)
            by_rank true same =
                subst (λ (k : ℕ). filter_map (λ (e : Event). message_by v k e.what) (g k)
                ≡ filter_map (λ (e : Event). message_by v k e.what) (history_in before k)) (same_number i k same)
                (ap (λ (t : List Event). filter_map (λ (e : Event). message_by v i e.what) t) (grown_here before s)
                ∙ filter_map-append (λ (e : Event). message_by v i e.what) h (s.event ∷ [])
                ∙ ap (λ (what : Happened). filter_map (λ (e : Event). message_by v i e.what) h
                ++ cons_option (message_by v i what) []) matched
                ∙ append-nil (filter_map (λ (e : Event). message_by v i e.what) h))
            by_rank false other =
                ap (λ (t : List Event). filter_map (λ (e : Event). message_by v k e.what) t)
                (grown_other before s k other)

        outgoing : filter_map (λ (e : Event). message_by v k e.what) (g k)
            ≡ cond (j == k) (filter (λ y. not (y.place == message.place)) (row k).outgoing) (row k).outgoing
        outgoing =
            outgoing_before
            ∙ outgoing_taken shape lines ranks packets told is before (s ∷ later) w next.so_far v i j a.n sent gone k

        by_ranks : (b d : Bool) (r : RankState) →
            record {
              at = cond b (c.line - 2 + 1) r.at;
              requests = cond b (r.requests ++ new_request ∷ []) r.requests;
              outgoing = cond d (filter (λ y. not (y.place == message.place)) r.outgoing) r.outgoing;
              claims = cond b (filter keep r.claims) r.claims;
            } ≡ cond d (second (cond b (first r) r)) (cond b (first r) r)
        by_ranks true true r = refl
        by_ranks true false r = refl
        by_ranks false true r = refl
        by_ranks false false r = refl

    pub match_leads : StepLeads shape lines told before s w
    match_leads =
        run_leads_to lines told shape.ranks w v (history_in before) g i next.comes.within c
        (at_before shape lines ranks packets told is before s later w next c due quiet answered.first nor
        (ap (λ (b : Bool). b || is_cancelling s.event.what) starts)) does acts
        (two_rows row (rank_of lines v g) first second i j shape.ranks next.comes.within within row_behind)
