-- Each line, each receive and each message of a rank has one start. MPI 3.1, 3.7.2.
use Rattle.std.proofs.Common.{◌≡◌, ◌⊎◌, inl, inr, ℕ, suc, ◌+◌, ◌-◌, ◌≤◌, ◌==◌, Bool, true, false, cond, Option, Some}
use Rattle.std.proofs.Common.{List, [], ◌∷◌, ◌++◌, length, map, refl, sym, ◌∙◌, ap, subst, arith}
use Rattle.std.proofs.Common.{length-append}
use Rattle.std.specs.Prelude.{option_map}
use Rattle.std.specs.List.{cons_option, filter, filter_map, slice_get}
use Rattle.std.specs.Option.{option_map_or}
use Rattle.std.proofs.lemmas.Bool.{false≢true}
use Rattle.std.proofs.lemmas.List.Elements.{filter_map-append}
use Rattle.nm_types.specs.declared.messages.How.{How}
use Rattle.nm_types.specs.declared.scripts.Line.{Line}
use Rattle.nm_types.specs.Commands.{Numbered, commands_of}
use Rattle.nm_types.specs.Sizes.{Sizes}
use Rattle.nm_types.proofs.ListLemmas.{get_behind, get_map}
use Rattle.nm_types.proofs.NumberLemmas.{eq_true, same_number}
use Rattle.nm_types.proofs.OptionLemmas.{no_some, same_some}
use Rattle.nm_types.proofs.TruthLemmas.{not_true}
use Rattle.nm_history.specs.declared.events.Event.{Event}
use Rattle.nm_history.specs.declared.events.Happened.{Happened}
use Rattle.nm_history.specs.declared.events.Happened.TheVariants as event
use Rattle.nm_history.specs.Answers.{Message as claimed}
use Rattle.nm_history.specs.Quiescence.{Ended, Packets}
use Rattle.nm_history.specs.RankRun.{NumberAt, is_start, start_of}
use Rattle.nm_history.specs.Sends.{Sent, receive_of, receives, sends, sent_of}
use Rattle.nm_history.specs.Underway.{is_answer}
use Rattle.nm_history.proofs.AppendLemmas.{sends-append}
use Rattle.nm_history.proofs.Lasting.{by_splits}
use Rattle.nm_history.proofs.OnceLemmas.{eqb_self}
use Rattle.nm_outcomes.specs.Due.{IsDue, IsMatchOf, IsStartOf}
use Rattle.nm_outcomes.specs.Logs.{Step, history_in}
use Rattle.nm_outcomes.specs.Places.{RankPoint}
use Rattle.nm_lawful.specs.declared.messages.Standing.{Standing}
use Rattle.nm_lawful.specs.Moves.{Report}
use Rattle.nm_lawful.specs.Ranks.{marked_lem}
use Rattle.nm_runs_lawful.specs.Stands.{IsSoFar, IsRunTold, line_of, request_by, standing_of}
use Rattle.nm_runs_lawful.proofs.ChangeLemmas.{Live, marked_map, request_marked}
use Rattle.nm_runs_lawful.proofs.EffectLemmas.{start_answered}
use Rattle.nm_runs_lawful.proofs.LiveLemmas.{start_in, start_line}
use Rattle.nm_runs_lawful.proofs.OnceLemmas.{due_at, first_start, found_at, least, number_at, whole_splits}

-- two events of a history are one, or one of them comes before
pub two_splits : (b t b' t' : List Event) (e e' : Event) → b ++ e ∷ t ≡ b' ++ e' ∷ t' →
    ((m : List Event) × (b' ≡ b ++ e ∷ m)) ⊎ (((m : List Event) × (b ≡ b' ++ e' ∷ m)) ⊎ (e ≡ e'))
two_splits [] t [] t' e e' same = inr (inr cc)
two_splits [] t (x ∷ b') t' e e' same =
    let first : e ≡ x = cc in inl (b', ap (λ (y : Event). y ∷ b') (sym first))
two_splits (x ∷ b) t [] t' e e' same =
    let first : x ≡ e' = cc in inr (inl (b, ap (λ (y : Event). y ∷ b) first))
two_splits (x ∷ b) t (y ∷ b') t' e e' same =
    let first : x ≡ y = cc in
    let rest : b ++ e ∷ t ≡ b' ++ e' ∷ t' = cc in
    by_rest first (two_splits b t b' t' e e' rest)
  where
    by_rest : x ≡ y →
        ((m : List Event) × (b' ≡ b ++ e ∷ m)) ⊎ (((m : List Event) × (b ≡ b' ++ e' ∷ m)) ⊎ (e ≡ e')) →
        ((m : List Event) × (y ∷ b' ≡ (x ∷ b) ++ e ∷ m))
        ⊎ (((m : List Event) × (x ∷ b ≡ (y ∷ b') ++ e' ∷ m)) ⊎ (e ≡ e'))
    by_rest first (inl later) =
        inl (later.0, ap (λ (k : List Event). y ∷ k) later.1 ∙ ap (λ (z : Event). z ∷ (b ++ e ∷ later.0)) (sym first))
    by_rest first (inr (inl earlier)) =
        inr (inl (
          earlier.0,
          ap (λ (k : List Event). x ∷ k) earlier.1 ∙ ap (λ (z : Event). z ∷ (b' ++ e' ∷ earlier.0)) first,
        ))
    by_rest first (inr (inr one)) = inr (inr one)

-- what counts higher behind an event than before it is the count of one event
pub one_event : (count : List Event → ℕ) (k : ℕ) (b t b' t' : List Event) (e e' : Event) →
    b ++ e ∷ t ≡ b' ++ e' ∷ t' → count b ≡ k → count b' ≡ k → ((m : List Event) → k + 1 ≤ count (b ++ e ∷ m)) →
    ((m : List Event) → k + 1 ≤ count (b' ++ e' ∷ m)) → e ≡ e'
one_event count k b t b' t' e e' same first second more more' = by_place (two_splits b t b' t' e e' same)
  where
    by_place : ((m : List Event) × (b' ≡ b ++ e ∷ m)) ⊎ (((m : List Event) × (b ≡ b' ++ e' ∷ m)) ⊎ (e ≡ e')) → e ≡ e'
    by_place (inl later) =
        let up = more later.0 in
        let at : count (b ++ e ∷ later.0) ≡ k = ap count (sym later.1) ∙ second in
        absurd (omega (arith, up, at))
    by_place (inr (inl earlier)) =
        let up = more' earlier.0 in
        let at : count (b' ++ e' ∷ earlier.0) ≡ k = ap count (sym earlier.1) ∙ first in
        absurd (omega (arith, up, at))
    by_place (inr (inr one)) = one

pub receive_number : (ranks : ℕ) (b : List Event) (what : Happened) (k : ℕ) → NumberAt ranks b what →
    receive_of what ≡ Some k → length (receives b) ≡ k
receive_number ranks b (event.Post p line) k number is = sym number ∙ same_some p.number k is
receive_number ranks b (event.Match n from m cap line) k number is = sym number ∙ same_some n k is
receive_number ranks b what k number is = absurd (no_some k is)

pub more_receives : (b m : List Event) (e : Event) (k : ℕ) → receive_of e.what ≡ Some k → length (receives b) ≡ k →
    k + 1 ≤ length (receives (b ++ e ∷ m))
more_receives b m e k is count =
    let grown : length (receives (b ++ e ∷ m)) ≡ length (receives b) + suc (length (receives m)) =
    ap length (filter_map-append (λ (e : Event). receive_of e.what) b (e ∷ m)
    ∙ ap (λ (o : Option ℕ). receives b ++ cons_option o (receives m)) is)
    ∙ length-append (receives b) (k ∷ receives m) in
    omega (arith, grown, count)

-- the send of an event
abbrev pub sent_as : Event → ℕ → ℕ → ℕ → ℕ → ℕ → How → ℕ → Sent
sent_as e to n tag ctx len how line =
    record { stamp = e.stamp; to = to; n = n; tag = tag; ctx = ctx; len = len; how = how; line = line }

pub sends_with : (b m : List Event) (e : Event) (to n tag ctx len : ℕ) (how : How) (line : ℕ) →
    e.what ≡ event.Send to n tag ctx len how line →
    sends (b ++ e ∷ m) to ≡ sends b to ++ sent_as e to n tag ctx len how line ∷ sends m to
sends_with b m e to n tag ctx len how line is =
    sends-append b (e ∷ m) to
    ∙ ap (λ (what : Happened). sends b to ++ filter (λ s. s.to == to) (cons_option (sent_of e.stamp what)
    (filter_map (λ (e : Event). sent_of e.stamp e.what) m))) is
    ∙ ap (λ (own : Bool). sends b to ++ cond own (sent_as e to n tag ctx len how line ∷ sends m to) (sends m to))
    (eqb_self to)

module _ (shape : Sizes) (lines : List Line) (ranks : List Ended) (packets : List Packets) (told : Report)
    (is : IsRunTold shape lines ranks packets told) (before : List Step) (later : List Step)
    (w : ℕ → RankPoint) (next : IsSoFar shape lines ranks before later w) (i : ℕ)
  where
    abbrev commands : List Numbered
    commands = commands_of i lines

    abbrev h : List Event
    h = history_in before i

    -- a receive of a number starts once
    pub receive_once : (b : List Event) (e : Event) (t : List Event) → h ≡ b ++ e ∷ t → (b' : List Event) (e' : Event)
        (t' : List Event) → h ≡ b' ++ e' ∷ t' → (k : ℕ) → receive_of e.what ≡ Some k → receive_of e'.what ≡ Some k →
        e ≡ e'
    receive_once b e t split b' e' t' split' k of of' =
        let first = receive_number shape.ranks b e.what k
        (number_at shape lines ranks packets told is before later w next i b e t split) of in
        let second = receive_number shape.ranks b' e'.what k
        (number_at shape lines ranks packets told is before later w next i b' e' t' split') of' in
        one_event (λ (k : List Event). length (receives k)) k b t b' t' e e' (sym split ∙ split') first second
        (λ m. more_receives b m e k of first) (λ m. more_receives b' m e' k of' second)

    -- so does a send
    pub send_once : (b : List Event) (e : Event) (t : List Event) → h ≡ b ++ e ∷ t → (b' : List Event) (e' : Event)
        (t' : List Event) → h ≡ b' ++ e' ∷ t' → (to n tag ctx len : ℕ) (how : How) (line tag' ctx' len' : ℕ)
        (how' : How) (line' : ℕ) → e.what ≡ event.Send to n tag ctx len how line →
        e'.what ≡ event.Send to n tag' ctx' len' how' line' → e ≡ e'
    send_once b e t split b' e' t' split' to n tag ctx len how line tag' ctx' len' how' line' is_send is_send' =
        let first : n ≡ length (sends b to) = subst (λ (what : Happened). NumberAt shape.ranks b what) is_send
        (number_at shape lines ranks packets told is before later w next i b e t split) in
        let second : n ≡ length (sends b' to) = subst (λ (what : Happened). NumberAt shape.ranks b' what) is_send'
        (number_at shape lines ranks packets told is before later w next i b' e' t' split') in
        one_event (λ (k : List Event). length (sends k to)) n b t b' t' e e' (sym split ∙ split') (sym first)
        (sym second) (λ m. more b m e tag ctx len how line is_send first)
        (λ m. more b' m e' tag' ctx' len' how' line' is_send' second)
      where
        more : (b m : List Event) (e : Event) (tag ctx len : ℕ) (how : How) (line : ℕ) →
            e.what ≡ event.Send to n tag ctx len how line → n ≡ length (sends b to) →
            n + 1 ≤ length (sends (b ++ e ∷ m) to)
        more b m e tag ctx len how line is_send number =
            let grown = ap length (sends_with b m e to n tag ctx len how line is_send)
            ∙ length-append (sends b to) (sent_as e to n tag ctx len how line ∷ sends m to) in
            omega (arith, grown, number)

    -- a send stands at its number
    pub send_stands : (b : List Event) (e : Event) (t : List Event) → h ≡ b ++ e ∷ t → (to n tag ctx len : ℕ)
        (how : How) (line : ℕ) → e.what ≡ event.Send to n tag ctx len how line →
        slice_get (sends (history_in before i) to) n ≡ Some (sent_as e to n tag ctx len how line)
    send_stands b e t split to n tag ctx len how line is_send =
        let number : n ≡ length (sends b to) = subst (λ (what : Happened). NumberAt shape.ranks b what) is_send
        (number_at shape lines ranks packets told is before later w next i b e t split) in
        ap (λ (k : List Event). slice_get (sends k to) n) split
        ∙ ap (λ (ss : List Sent). slice_get ss n) (sends_with b t e to n tag ctx len how line is_send)
        ∙ ap (λ (k : ℕ). slice_get (sends b to ++ sent_as e to n tag ctx len how line ∷ sends t to) k) number
        ∙ get_behind (sends b to) (sends t to) (sent_as e to n tag ctx len how line)

    -- .. and so does its line
    pub line_of_send : (b : List Event) (e : Event) (t : List Event) → h ≡ b ++ e ∷ t → (to n tag ctx len : ℕ)
        (how : How) (line : ℕ) → e.what ≡ event.Send to n tag ctx len how line →
        slice_get ((w i).lines to) n ≡ Some line
    line_of_send b e t split to n tag ctx len how line is_send =
        ap (λ (ls : List ℕ). slice_get ls n) ((next.places i).lines to)
        ∙ get_map (λ (s : Sent). s.line) (sends h to) n (sent_as e to n tag ctx len how line)
        (send_stands b e t split to n tag ctx len how line is_send)

    -- a matched receive is the start of the next command, and its first
    match_starts : (b : List Event) (e : Event) (t : List Event) → h ≡ b ++ e ∷ t → (number from n cap line : ℕ) →
        e.what ≡ event.Match number from n cap line →
        IsStartOf shape.eager commands b (event.Match number from n cap line)
    match_starts b e t split number from n cap line is_match =
        let due : IsMatchOf commands b from n cap line =
        subst (λ (what : Happened). IsDue shape.eager commands b what) is_match
        (due_at shape lines ranks packets told is before later w next i b e t split) in
        let answered = start_answered shape lines ranks packets told is i b e (t ++ history_in later i)
        (whole_splits shape lines ranks packets told is before later w next i b e t split) due.command due.next
        (ap is_answer is_match) (ap is_start is_match) in
        record {
          command = due.command;
          next = due.next;
          first = answered.first;
          start = sym (ap (start_of shape.eager commands b due.command.line) due.receives
              ∙ ap (λ (o : Option claimed). option_map_or
              (λ message. event.Match 0 message.from message.n cap due.command.line ∷ []) o []) due.message_is
              ∙ ap (λ (l : ℕ). event.Match 0 from n cap l ∷ []) due.line_is);
        }

    -- a start is that of the next command, and its first
    pub start_due : (b : List Event) (e : Event) (t : List Event) → h ≡ b ++ e ∷ t → (line : ℕ) →
        line_of e.what ≡ Some line → IsStartOf shape.eager commands b e.what
    start_due b e t split line at = by_event e.what refl at
      where
        by_event : (what : Happened) → e.what ≡ what → line_of what ≡ Some line →
            IsStartOf shape.eager commands b e.what
        by_event (event.Send to n tag ctx len how own) so at =
            subst (λ (what : Happened). IsStartOf shape.eager commands b what) (sym so)
            (subst (λ (what : Happened). IsDue shape.eager commands b what) so
            (due_at shape lines ranks packets told is before later w next i b e t split))
        by_event (event.Post p own) so at =
            subst (λ (what : Happened). IsStartOf shape.eager commands b what) (sym so)
            (subst (λ (what : Happened). IsDue shape.eager commands b what) so
            (due_at shape lines ranks packets told is before later w next i b e t split))
        by_event (event.Match number from n cap own) so at =
            subst (λ (what : Happened). IsStartOf shape.eager commands b what) (sym so)
            (match_starts b e t split number from n cap own so)
        by_event what so at = absurd (no_some line at)

    -- the start of a line is the first one of it, and the line is not before the script's first
    pub line_starts : (b : List Event) (e : Event) (t : List Event) → h ≡ b ++ e ∷ t → (line : ℕ) →
        line_of e.what ≡ Some line → (start_in line h ≡ Some e.what) × (2 ≤ line)
    line_starts b e t split line at =
        let starts = start_due b e t split line at in (
          first_start shape lines ranks packets told is before later w next i b e t split line at starts,
          least shape lines ranks packets told is before later w next i b e t split line at starts,
        )

    -- The start of a line, of which alone the request changes its standing.
    module _ (v : ℕ → RankPoint) (line : ℕ) (what : Happened) (start : start_in line h ≡ Some what) (stand : Standing)
        (own : standing_of commands v i what ≡ stand)
        (others : (b : List Event) (e : Event) (t : List Event) → h ≡ b ++ e ∷ t → (other : ℕ) →
        line_of e.what ≡ Some other → (other == line) ≡ false →
        standing_of commands v i e.what ≡ standing_of commands w i e.what)
        (live : (b : List Event) (e : Event) (t : List Event) → h ≡ b ++ e ∷ t → Live w v i commands e.what)
      where
        low : 2 ≤ line
        low =
            let found = found_at line h what start in
            (line_starts found.0 found.1 found.2 found.3 line
            (ap line_of found.4 ∙ start_line line h what start)).1

        stands : (b : List Event) (e : Event) (t : List Event) → h ≡ b ++ e ∷ t → (other : ℕ) →
            line_of e.what ≡ Some other →
            standing_of commands v i e.what
            ≡ cond ((other - 2) == (line - 2)) stand (standing_of commands w i e.what)
        stands b e t split other at = by_line (other == line) refl
          where
            starts : (start_in other h ≡ Some e.what) × (2 ≤ other)
            starts = line_starts b e t split other at

            apart : (x y : ℕ) → 2 ≤ x → 2 ≤ y → x - 2 ≡ y - 2 → x ≡ y
            apart x y first second same = omega (arith, first, second, same)

            by_line : (x : Bool) → (other == line) ≡ x →
                standing_of commands v i e.what
                ≡ cond ((other - 2) == (line - 2)) stand (standing_of commands w i e.what)
            by_line true same =
                let one : other ≡ line = same_number other line same in
                ap (standing_of commands v i)
                (same_some e.what what (sym starts.0 ∙ ap (λ (l : ℕ). start_in l h) one ∙ start))
                ∙ own
                ∙ sym (ap (λ (x : Bool). cond x stand (standing_of commands w i e.what))
                (eq_true (other - 2) (line - 2) (ap (λ (l : ℕ). l - 2) one)))
            by_line false differ =
                others b e t split other at differ
                ∙ sym (ap (λ (x : Bool). cond x stand (standing_of commands w i e.what))
                (not_true ((other - 2) == (line - 2)) (λ same. false≢true (sym differ
                ∙ eq_true other line (apart other line starts.1 low
                (same_number (other - 2) (line - 2) same))))))

        pub requests_marked : filter_map (λ (e : Event). request_by commands v i e.what) (history_in before i)
            ≡ map (marked_lem (line - 2) stand)
            (filter_map (λ (e : Event). request_by commands w i e.what) (history_in before i))
        requests_marked =
            marked_map (λ (e : Event). request_by commands w i e.what) (λ (e : Event). request_by commands v i e.what)
            (marked_lem (line - 2) stand) h
            (by_splits (λ e. request_by commands v i e.what
            ≡ option_map (marked_lem (line - 2) stand) (request_by commands w i e.what)) h [] h refl
            (λ b e t split. request_marked w v i commands e.what (line - 2) stand (live b e t split)
            (stands b e t split)))
