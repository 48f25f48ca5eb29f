-- The bytes of an answer are those that the line of its message's send says. MPI 3.2.4.
use Rattle.std.proofs.Common.{◌≡◌, ℕ, ◌-◌, ◌<◌, ◌&&◌, Bool, true, false, Option, Some, None, List, [], ◌∷◌, get_or}
use Rattle.std.proofs.Common.{refl}
use Rattle.std.proofs.Common.{sym, ◌∙◌, ap, subst}
use Rattle.std.specs.Cmp.Lexicographic.{pointwise}
use Rattle.std.specs.Prelude.{IfSome, IsSomeAnd, nat_eq}
use Rattle.std.specs.List.{slice_get}
use Rattle.std.specs.Option.{option_map_or}
use Rattle.std.proofs.lemmas.Bool.{false≢true}
use Rattle.std.proofs.lemmas.Option.{get_or_from_slice_get}
use Rattle.nm_types.specs.declared.answers.Answer.TheVariants as answer
use Rattle.nm_types.specs.declared.scripts.Command.{Command}
use Rattle.nm_types.specs.declared.scripts.Command.TheVariants as command
use Rattle.nm_types.specs.declared.scripts.Line.{Line}
use Rattle.nm_types.specs.Bodies.{bytes_of}
use Rattle.nm_types.specs.Commands.{command_at, commands_of}
use Rattle.nm_types.specs.Sizes.{Sizes}
use Rattle.nm_types.proofs.OptionLemmas.{no_some}
use Rattle.nm_history.specs.declared.events.Event.{Event}
use Rattle.nm_history.specs.declared.events.Happened.{Happened}
use Rattle.nm_history.specs.declared.events.Happened.TheVariants as event
use Rattle.nm_history.specs.declared.plain.Pair.{Pair}
use Rattle.nm_history.specs.Completion.{Request as asked}
use Rattle.nm_history.specs.Completion.Request.{Receiving, Sending}
use Rattle.nm_history.specs.Matching.{is_of_receive, matched_pairs}
use Rattle.nm_history.specs.Quiescence.{Ended, Packets}
use Rattle.nm_history.specs.Sends.{sent_bytes}
use Rattle.nm_history.proofs.SelectionLemmas.{find_contains}
use Rattle.nm_history.proofs.OnceLemmas.{eqb_self}
use Rattle.nm_match.proofs.NumberLemmas.{is_known_message-arrived}
use Rattle.nm_outcomes.specs.Logs.{Step, history_in}
use Rattle.nm_outcomes.specs.Moves.{AreBytesOf, MayMove, ShowsBytes, asked_in, pair_in, request_now}
use Rattle.nm_outcomes.specs.Places.{RankPoint}
use Rattle.nm_outcomes.proofs.Bodies.{came_known, pair_came}
use Rattle.nm_outcomes.proofs.SentLemmas.{came_within}
use Rattle.nm_lawful.specs.Moves.{Report}
use Rattle.nm_lawful.specs.Replies.{has_bytes_lem, sends_bytes_lem}
use Rattle.nm_runs_lawful.specs.Stands.{IsNext, IsRunTold, message_at}
use Rattle.nm_runs_lawful.proofs.AnsweredLemmas.{here}
use Rattle.nm_runs_lawful.proofs.EndedLemmas.{HasBytes}
use Rattle.nm_runs_lawful.proofs.NamedLemmas.{command_due}
use Rattle.nm_runs_lawful.proofs.NextLemmas.{line_there}
use Rattle.nm_runs_lawful.proofs.OnceLemmas.{is_sending, numbers_now, sends_at}

itself : (xs : List ℕ) → pointwise nat_eq xs xs ≡ true
itself [] = refl
itself (x ∷ xs) = ap (λ (b : Bool). b && pointwise nat_eq xs xs) (eqb_self x) ∙ itself xs

own_bytes : (c : Command) (bytes : List ℕ) → is_sending c ≡ true → bytes ≡ sent_bytes c → sends_bytes_lem c bytes ≡ true
own_bytes (command.Send to q tag ctx sync body) bytes sends same =
    ap (λ (bs : List ℕ). pointwise nat_eq (bytes_of body) bs) same
    ∙ itself (bytes_of body)
own_bytes c bytes sends same = absurd (false≢true sends)

module _ (shape : Sizes) (lines : List Line) (ranks : List Ended) (packets : List Packets) (told : Report)
    (is : IsRunTold shape lines ranks packets told) (before : List Step) (s : Step) (later : List Step)
    (w : ℕ → RankPoint) (next : IsNext shape lines ranks before s later w)
  where
    abbrev i : ℕ
    i = s.rank

    abbrev h : List Event
    h = history_in before s.rank

    -- the sender of a receive's message is a rank of the run
    from_rank : (r : asked) (pair : Pair) → pair_in (w i) r ≡ Some pair → pair.arrival.env.from < shape.ranks
    from_rank (Sending to n) pair paired = absurd (no_some pair paired)
    from_rank (Receiving number) pair paired =
        came_within shape.ranks pair.arrival.env.from pair.arrival.n h
        (numbers_now shape lines ranks packets told is before (s ∷ later) w next.so_far s.rank)
        (sym (is_known_message-arrived h pair.arrival.env.from pair.arrival.n)
        ∙ came_known h pair.arrival
        (pair_came h pair (find_contains (is_of_receive number) (matched_pairs h) pair
        (sym ((next.so_far.places i).pairs number) ∙ paired))))

    -- the line of a send has these bytes
    line_bytes : (j k n : ℕ) (body : List ℕ) (o : Option ℕ) → slice_get ((w j).lines k) n ≡ o →
        IsSomeAnd o (λ line. IsSomeAnd (command_at (commands_of j lines) line) (λ c. body ≡ sent_bytes c)) →
        has_bytes_lem lines (get_or ((w j).lines k) n 0 - 2) body ≡ true
    line_bytes j k n body None at shows = absurd shows
    line_bytes j k n body (Some line) at shows =
        let send = sends_at shape lines ranks packets told is before (s ∷ later) w next.so_far j k n line at in
        let there = line_there j lines send.place send.command send.next in
        let called : command_at (commands_of j lines) line ≡ Some send.command.command =
        ap (λ (n : ℕ). command_at (commands_of j lines) n) (sym send.line_is)
        ∙ is.commands.stand j send.place send.command send.next in
        let same : body ≡ sent_bytes send.command.command =
        subst (λ (o : Option Command). IsSomeAnd o (λ c. body ≡ sent_bytes c)) called shows in
        ap (λ (n : ℕ). has_bytes_lem lines (n - 2) body) (get_or_from_slice_get ((w j).lines k) n line 0 at)
        ∙ ap (λ (n : ℕ). has_bytes_lem lines (n - 2) body) (sym send.line_is)
        ∙ ap (λ (o : Option Line). option_map_or (λ l. sends_bytes_lem l.command body) o false) there.1
        ∙ own_bytes send.command.command body send.sends same

    pub got_bytes : (line from tag : ℕ) (body : List ℕ) (ran : s.event.what ≡ event.Ran line (answer.Got from tag body))
        (q : ℕ) → ((r : asked) → request_now (w i) q ≡ Some r →
        asked_in (w i) (command_due shape lines ranks packets told is before s later w next line
        (answer.Got from tag body) ran) ≡ pair_in (w i) r) →
        (r : asked) → request_now (w i) q ≡ Some r → HasBytes lines w i r (answer.Got from tag body)
    got_bytes line from tag body ran q asks r now from' tag' body' pair same paired =
        let bytes : body ≡ body' = cc in
        let may = (subst (λ (what : Happened). MayMove shape lines w s.rank what) ran next.moves).1 in
        let shows = subst (λ (o : Option Command). IsSomeAnd o (ShowsBytes shape lines w i (answer.Got from tag body)))
        (here shape lines ranks packets told is before s later w next line (answer.Got from tag body) ran) may in
        let are = subst (λ (o : Option Pair). IfSome o (AreBytesOf shape lines w i body)) (asks r now ∙ paired) shows in
        subst (λ (bs : List ℕ). has_bytes_lem lines (message_at w i pair.arrival).place bs ≡ true) bytes
        (line_bytes pair.arrival.env.from i pair.arrival.n body
        (slice_get ((w pair.arrival.env.from).lines i) pair.arrival.n) refl (are (from_rank r pair paired)))
