-- What a matched probe that shows its message has claimed. MPI 3.1, 3.8.2.
use Rattle.std.proofs.Common.{◌≡◌, ◌⊎◌, inl, inr, ℕ, ◌+◌, ◌<◌, ◌==◌, ◌&&◌, ◌||◌, Bool, true, false, cond}
use Rattle.std.proofs.Common.{Option, Some, None, List, [], ◌∷◌, ◌++◌, length, refl, sym, ◌∙◌, ap, subst, arith}
use Rattle.std.proofs.Common.{append_assoc, length-append}
use Rattle.std.specs.Prelude.{Contains, IsSomeAnd, is_some, option_and_then}
use Rattle.std.specs.List.{cons_option, filter_map, list_any}
use Rattle.std.specs.Option.{option_map_or}
use Rattle.std.proofs.lemmas.Bool.{false≢true}
use Rattle.std.proofs.lemmas.List.Elements.{Contains-append_left, Contains-push, filter_map-append}
use Rattle.std.proofs.lemmas.List.Folds.{list_any-append}
use Rattle.nm_types.specs.declared.answers.Answer.TheVariants as answer
use Rattle.nm_types.specs.declared.messages.Arrival.{Arrival}
use Rattle.nm_types.specs.declared.messages.Peer.{Peer}
use Rattle.nm_types.specs.declared.messages.Post as post
use Rattle.nm_types.specs.declared.messages.Seen.{Seen}
use Rattle.nm_types.specs.declared.messages.TagPick.{TagPick}
use Rattle.nm_types.specs.declared.scripts.Command.{Command}
use Rattle.nm_types.specs.declared.scripts.Command.TheVariants as command
use Rattle.nm_types.specs.declared.scripts.Line.{Line}
use Rattle.nm_types.specs.Commands.{Numbered, command_at, commands_of}
use Rattle.nm_types.specs.Sizes.{Sizes}
use Rattle.nm_types.proofs.ListLemmas.{find_passes}
use Rattle.nm_types.proofs.NumberLemmas.{eq_true, same_number}
use Rattle.nm_types.proofs.OptionLemmas.{no_some, same_some}
use Rattle.nm_types.proofs.TruthLemmas.{and_left, and_right, both, neither, not_true}
use Rattle.nm_history.specs.declared.events.Event.{Event}
use Rattle.nm_history.specs.declared.events.Happened.{Happened}
use Rattle.nm_history.specs.declared.events.Happened.TheVariants as event
use Rattle.nm_history.specs.declared.plain.Pair.{Pair}
use Rattle.nm_history.specs.Answers.{Message as claimed, seen}
use Rattle.nm_history.specs.AtEach.{AtEach}
use Rattle.nm_history.specs.Happens.{happened, is_cancel, is_claim, is_withdraw}
use Rattle.nm_history.specs.Matching.{first_message, is_free, is_free_message, is_of_message, is_of_receive, is_open}
use Rattle.nm_history.specs.Matching.{matched_pairs}
use Rattle.nm_history.specs.Quiescence.{Ended, Packets}
use Rattle.nm_history.specs.RankRun.{ClaimAt, NumberAt, claim_of as claims_of, claims_since, is_matched_probe}
use Rattle.nm_history.specs.RankRun.{line_of_claim, since_command}
use Rattle.nm_history.specs.Selection.{matches}
use Rattle.nm_history.specs.Sends.{arrival_of, arrivals, messages}
use Rattle.nm_history.proofs.AppendLemmas.{arrivals-append}
use Rattle.nm_history.proofs.AtEachLemmas.{AtEach-from_splits}
use Rattle.nm_history.proofs.Basic.{or_false}
use Rattle.nm_history.proofs.EachLemmas.{AtEach-prefix}
use Rattle.nm_history.proofs.MatchingLemmas.{matched_pairs-append}
use Rattle.nm_history.proofs.SelectionLemmas.{find_contains, none_missed}
use Rattle.nm_history.proofs.Sent.{happened-append}
use Rattle.nm_match.proofs.NumberLemmas.{messages_numbered}
use Rattle.nm_match.proofs.QueueLemmas.{free_means, open_means}
use Rattle.nm_outcomes.specs.Due.{IsAnswerOf}
use Rattle.nm_outcomes.specs.Logs.{Step, history_in}
use Rattle.nm_outcomes.specs.Moves.{MayAnswer, found_in, message_now}
use Rattle.nm_outcomes.specs.Places.{RankPoint}
use Rattle.nm_lawful.specs.Moves.{Report}
use Rattle.nm_lawful.specs.Ranks.{first_to_lem, receiver_of_lem}
use Rattle.nm_lawful.specs.Replies.{pattern_lem}
use Rattle.nm_runs_lawful.specs.Stands.{IsNext, IsRunTold, claim_by, claimed_at, handle_of}
use Rattle.nm_runs_lawful.specs.Stands.{message_at, rank_of}
use Rattle.nm_runs_lawful.proofs.AnsweredLemmas.{due, here, not_begun}
use Rattle.nm_runs_lawful.proofs.ArrivedLemmas.{HasCome, has_come}
use Rattle.nm_runs_lawful.proofs.ClaimedLemmas.{claim_split, claims_at}
use Rattle.nm_runs_lawful.proofs.FirstLemmas.{first_is}
use Rattle.nm_runs_lawful.proofs.HeldLemmas.{message_twice, twice}
use Rattle.nm_runs_lawful.proofs.LookedLemmas.{early, not_taken, not_withdrawn, posts_same}
use Rattle.nm_runs_lawful.proofs.NamedLemmas.{command_due, may_here}
use Rattle.nm_runs_lawful.proofs.OnceLemmas.{number_at, numbers_now}
use Rattle.nm_runs_lawful.proofs.OpenLemmas.{no_receiver}
use Rattle.nm_runs_lawful.proofs.OrderLemmas.{IsNumbered, first_of_sender}
use Rattle.nm_runs_lawful.proofs.UniqueLemmas.{two_splits}

-- the claims of a line are those among the lines of claims
any_lines : (l : ℕ) (ws : List Happened) →
    list_any (λ (what : Happened). option_map_or (λ k. k == l) (line_of_claim what) false) ws
    ≡ list_any (λ k. k == l) (filter_map line_of_claim ws)
any_lines l [] = refl
any_lines l (x ∷ ws) = by_line (line_of_claim x) (any_lines l ws)
  where
    by_line : (o : Option ℕ) →
        list_any (λ (what : Happened). option_map_or (λ k. k == l) (line_of_claim what) false) ws
        ≡ list_any (λ k. k == l) (filter_map line_of_claim ws) →
        (option_map_or (λ k. k == l) o false
        || list_any (λ (what : Happened). option_map_or (λ k. k == l) (line_of_claim what) false) ws)
        ≡ list_any (λ k. k == l) (cons_option o (filter_map line_of_claim ws))
    by_line None rest = rest
    by_line (Some k) rest = ap (λ (z : Bool). (k == l) || z) rest

-- what is free, or open, was so before
pub front_free : (b more : List Event) (f k : ℕ) →
    is_free_message (b ++ more) (matched_pairs (b ++ more)) f k ≡ true → is_free_message b (matched_pairs b) f k ≡ true
unfolding is_free_message
front_free b more f k free =
    let all = free_means (b ++ more) (matched_pairs (b ++ more)) f k free in
    let pairs = matched_pairs-append b more in
    let one : list_any (is_of_message f k) (matched_pairs b) ≡ false =
    (neither (list_any (is_of_message f k) (matched_pairs b)) (list_any (is_of_message f k) pairs.0)
    (sym (list_any-append (is_of_message f k) (matched_pairs b) pairs.0)
    ∙ ap (λ (ps : List Pair). list_any (is_of_message f k) ps) (sym pairs.1) ∙ all.0)).0 in
    let two : happened (is_claim f k) b ≡ false =
    (neither (happened (is_claim f k) b) (happened (is_claim f k) more)
    (sym (happened-append (is_claim f k) b more) ∙ all.1)).0 in
    let three : happened (is_withdraw f k true) b ≡ false =
    (neither (happened (is_withdraw f k true) b) (happened (is_withdraw f k true) more)
    (sym (happened-append (is_withdraw f k true) b more) ∙ all.2)).0 in
    rw (one, two, three) refl

pub front_open : (b more : List Event) (p : post.Post) → is_open (b ++ more) (matched_pairs (b ++ more)) p ≡ true →
    is_open b (matched_pairs b) p ≡ true
front_open b more p opened =
    let all = open_means (b ++ more) (matched_pairs (b ++ more)) p opened in
    let pairs = matched_pairs-append b more in
    let one : list_any (is_of_receive p.number) (matched_pairs b) ≡ false =
    (neither (list_any (is_of_receive p.number) (matched_pairs b)) (list_any (is_of_receive p.number) pairs.0)
    (sym (list_any-append (is_of_receive p.number) (matched_pairs b) pairs.0)
    ∙ ap (λ (ps : List Pair). list_any (is_of_receive p.number) ps) (sym pairs.1) ∙ all.0)).0 in
    let two : happened (is_cancel p.number) b ≡ false =
    (neither (happened (is_cancel p.number) b) (happened (is_cancel p.number) more)
    (sym (happened-append (is_cancel p.number) b more) ∙ all.1)).0 in
    rw (one, two) refl

module _ (shape : Sizes) (lines : List Line) (ranks : List Ended) (packets : List Packets) (told : Report)
    (is : IsRunTold shape lines ranks packets told) (before : List Step) (s : Step) (later : List Step)
    (w : ℕ → RankPoint) (next : IsNext shape lines ranks before s later w) (line : ℕ) (x : Seen)
    (ran : s.event.what ≡ event.Ran line (answer.Seen x)) (m : ℕ) (from : Peer) (tag : TagPick) (ctx : ℕ)
    (probes : command_due shape lines ranks packets told is before s later w next line (answer.Seen x) ran
    ≡ command.Mprobe m from tag ctx)
  where
    abbrev i : ℕ
    i = s.rank

    abbrev commands : List Numbered
    commands = commands_of s.rank lines

    abbrev h : List Event
    h = history_in before s.rank

    -- what it shows it has claimed, and its handle has nothing
    pub record IsShown : Type 0 where
      pub none : message_now (w s.rank) m ≡ None
      pub claim : claimed
      pub claims : (w s.rank).claims line ≡ Some claim
      pub message : Arrival
      pub known : (w s.rank).known claim.from claim.n ≡ Some message
      pub shows : seen message ≡ answer.Seen x

    pub shown : IsShown
    shown =
        by_now (message_now (w i) m) refl ((w i).claims line) refl
        (subst (λ (c : Command). MayAnswer w i line c (answer.Seen x)) probes
        (may_here shape lines ranks packets told is before s later w next line (answer.Seen x) ran))
      where
        by_known : message_now (w i) m ≡ None → (y : claimed) → (w i).claims line ≡ Some y → (o : Option Arrival) →
            (w i).known y.from y.n ≡ o → (f : Option Arrival) →
            option_map_or (λ (a : Arrival). Some (seen a)) o (cond (is_some f) None (Some answer.Nothing))
            ≡ Some (answer.Seen x) → IsShown
        by_known none y claims (Some a) known f may =
            record {
              none = none;
              claim = y;
              claims = claims;
              message = a;
              known = known;
              shows = same_some (seen a) (answer.Seen x) may;
            }
        by_known none y claims None known (Some z) may = absurd (grind arith)
        by_known none y claims None known None may = absurd (grind arith)

        nothing : (f : Option Arrival) → cond (is_some f) None (Some answer.Nothing) ≡ Some (answer.Seen x) → ⊥
        nothing (Some z) may = grind arith
        nothing None may = grind arith

        by_now : (o : Option claimed) → message_now (w i) m ≡ o → (p : Option claimed) → (w i).claims line ≡ p →
            cond (is_some o) (Some answer.Busy)
            (option_map_or (λ (a : Arrival). Some (seen a)) (option_and_then (λ message. (w i).known
            message.from message.n) p)
            (cond (is_some (found_in (w i) from tag ctx)) None (Some answer.Nothing))) ≡ Some (answer.Seen x) →
            IsShown
        by_now (Some z) none p claims may = absurd (grind arith)
        by_now None none (Some y) claims may =
            by_known none y claims ((w i).known y.from y.n) refl (found_in (w i) from tag ctx) may
        by_now None none None claims may = absurd (nothing (found_in (w i) from tag ctx) may)

    abbrev y : claimed
    y = shown.claim

    -- the claim
    pub claim_there : (b : List Event) × (e : Event) × (t : List Event) × (history_in before s.rank ≡ b ++ e ∷ t)
        × (e.what ≡ event.Claim shown.claim.from shown.claim.n line)
    claim_there = claim_split line y h (sym ((next.so_far.places i).claims line) ∙ shown.claims)

    abbrev b : List Event
    b = claim_there.0

    abbrev e : Event
    e = claim_there.1

    abbrev t : List Event
    t = claim_there.2

    abbrev at : e.what ≡ event.Claim y.from y.n line
    at = claim_there.4

    pub called : command_at (commands_of s.rank lines) line ≡ Some (command.Mprobe m from tag ctx)
    called =
        here shape lines ranks packets told is before s later w next line (answer.Seen x) ran
        ∙ ap (λ (c : Command). Some c) probes

    answers : IsAnswerOf commands h line
    answers = due shape lines ranks packets told is before s later w next line (answer.Seen x) ran

    pub begun : (w s.rank).begun ≡ []
    begun = not_begun shape lines ranks packets told is before s later w next line (answer.Seen x) ran refl

    since : claims_since h ≡ line ∷ []
    since =
        subst (λ (what : Happened). ClaimAt commands h what) ran next.comes.own.claims
        ∙ ap (λ (o : Option Command). cond (option_map_or is_matched_probe o false && true) (line ∷ []) []) called

    -- it was the first that was free then
    pub first_then : (a : Arrival) × (first_message claim_there.0 (matched_pairs claim_there.0) from tag ctx ≡ Some a)
        × (a.env.from ≡ shown.claim.from) × (a.n ≡ shown.claim.n)
    first_then =
        by_found (first_message b (matched_pairs b) from tag ctx)
        (subst (λ (o : Option Command). IsSomeAnd o (λ c. claims_of b line c ≡ event.Claim y.from y.n line ∷ [])) called
        (subst (λ (what : Happened). ClaimAt commands b what) at
        (claims_at shape lines ranks packets told is before (s ∷ later) w next.so_far i b e t claim_there.3)))
      where
        by_found : (o : Option Arrival) → option_map_or (λ (a : Arrival). event.Claim a.env.from a.n line ∷ []) o []
            ≡ event.Claim y.from y.n line ∷ [] →
            (a : Arrival) × (o ≡ Some a) × (a.env.from ≡ y.from) × (a.n ≡ y.n)
        by_found None same = absurd (grind arith)
        by_found (Some a) same = (a, refl, cc, cc)

    abbrev pub a0 : Arrival
    a0 = first_then.0

    abbrev test : Arrival → Bool
    test z = matches from tag ctx z.env && is_free b (matched_pairs b) z

    inside_then : Contains (messages b) a0
    inside_then = find_contains test (messages b) a0 first_then.1

    passes : test a0 ≡ true
    passes = find_passes test (messages b) a0 first_then.1

    selected : matches from tag ctx a0.env ≡ true
    selected = and_left (matches from tag ctx a0.env) (is_free b (matched_pairs b) a0) passes

    free : is_free b (matched_pairs b) a0 ≡ true
    free = and_right (matches from tag ctx a0.env) (is_free b (matched_pairs b) a0) passes

    pub inside : Contains (messages (history_in before s.rank)) first_then.0
    inside =
        subst (λ (xs : List Arrival). Contains xs a0)
        (sym (ap messages claim_there.3 ∙ filter_map-append (λ (e : Event). arrival_of e.what) b (e ∷ t)))
        (Contains-append_left (messages b) (messages (e ∷ t)) a0 inside_then)

    gone : ((w i).taken a0.env.from a0.n ≡ false) × ((w i).withdrawn a0.env.from a0.n ≡ false)
    gone = (
      not_taken shape lines ranks packets told is before (s ∷ later) w next.so_far i b e t claim_there.3 y.from y.n
          line at
          answers.command answers.next answers.line_is a0 inside_then free first_then.2 first_then.3,
      not_withdrawn shape lines ranks packets told is before (s ∷ later) w next.so_far i b e t claim_there.3 y.from
          y.n line at
          answers.command answers.next answers.line_is a0 inside_then free first_then.2 first_then.3,
    )

    -- no other claim is of its line
    pub same_event : (b' : List Event) (e' : Event) (t' : List Event) → history_in before s.rank ≡ b' ++ e' ∷ t' →
        (f k l : ℕ) → e'.what ≡ event.Claim f k l → line ≡ l → claim_there.1 ≡ e'
    same_event b' e' t' split' f k l at' same =
        by_order (two_splits b t b' t' e e' (sym claim_there.3 ∙ split'))
      where
        at_line : e'.what ≡ event.Claim f k line
        at_line = at' ∙ ap (λ (z : ℕ). event.Claim f k z) (sym same)

        by_order : ((z : List Event) × (b' ≡ b ++ e ∷ z)) ⊎ (((z : List Event) × (b ≡ b' ++ e' ∷ z)) ⊎ (e ≡ e')) →
            e ≡ e'
        by_order (inl after) =
            absurd (twice shape lines ranks packets told is before (s ∷ later) w next.so_far i b e after.0 e' t'
            (split' ∙ ap (λ (z : List Event). z ++ e' ∷ t') after.1) y.from y.n f k line at at_line)
        by_order (inr (inl earlier)) =
            absurd (twice shape lines ranks packets told is before (s ∷ later) w next.so_far i b' e' earlier.0 e t
            (claim_there.3 ∙ ap (λ (z : List Event). z ++ e ∷ t) earlier.1) f k y.from y.n line at_line at)
        by_order (inr (inr one)) = one

    ended : (b' : List Event) (e' : Event) (t' : List Event) → h ≡ b' ++ e' ∷ t' → (f k l : ℕ) →
        e'.what ≡ event.Claim f k l → (f == a0.env.from && k == a0.n) ≡ false →
        list_any (λ (what : Happened). option_map_or (λ z. z == l) (line_of_claim what) false) (since_command h) ≡ false
    ended b' e' t' split' f k l at' other =
        any_lines l (since_command h) ∙ ap (λ (ls : List ℕ). list_any (λ z. z == l) ls) since ∙ or_false (line == l)
        ∙ not_true (line == l) (λ same. false≢true (sym other ∙ is_own (same_number line l same)))
      where
        is_own : line ≡ l → (f == a0.env.from && k == a0.n) ≡ true
        is_own same =
            let equal : event.Claim y.from y.n line ≡ event.Claim f k l =
            sym at ∙ ap (λ (z : Event). z.what) (same_event b' e' t' split' f k l at' same) ∙ at' in
            let one : y.from ≡ f = cc in
            let two : y.n ≡ k = cc in
            both (f == a0.env.from) (k == a0.n) (eq_true f a0.env.from (sym (first_then.2 ∙ one)))
            (eq_true k a0.n (sym (first_then.3 ∙ two)))

    -- its handle does not stand for it yet
    pub not_stands : option_map_or (λ l. l == line) ((w s.rank).handled m) false ≡ false
    not_stands = by_handle ((w i).handled m) refl
      where
        by_handle : (o : Option ℕ) → (w i).handled m ≡ o → option_map_or (λ l. l == line) o false ≡ false
        by_handle None stands = refl
        by_handle (Some l) stands =
            not_true (l == line) (λ same. no_some y (sym shown.none
            ∙ ap (λ (o : Option ℕ). option_and_then (w i).claims o) stands
            ∙ ap (λ (z : ℕ). (w i).claims z) (same_number l line same) ∙ shown.claims))

    pub not_held : (f k : ℕ) → claim_by (commands_of s.rank lines) w s.rank (event.Claim f k line) ≡ None
    not_held f k =
        ap (λ (o : Option Command). option_and_then
        (λ (z : ℕ). cond (option_map_or (λ l. l == line) ((w i).handled z) false) (claimed_at w i z f k) None)
        (option_and_then handle_of o)) called
        ∙ ap (λ (z : Bool). cond z (claimed_at w i m f k) None) not_stands

    unheld : (b' : List Event) (e' : Event) (t' : List Event) → h ≡ b' ++ e' ∷ t' → (l : ℕ) →
        e'.what ≡ event.Claim a0.env.from a0.n l → claim_by commands w i e'.what ≡ None
    unheld b' e' t' split' l at' = by_order (two_splits b t b' t' e e' (sym claim_there.3 ∙ split'))
      where
        at_message : e'.what ≡ event.Claim y.from y.n l
        at_message =
            at' ∙ ap (λ (z : ℕ). event.Claim z a0.n l) first_then.2 ∙ ap
            (λ (z : ℕ). event.Claim y.from z l) first_then.3

        by_order : ((z : List Event) × (b' ≡ b ++ e ∷ z)) ⊎ (((z : List Event) × (b ≡ b' ++ e' ∷ z)) ⊎ (e ≡ e')) →
            claim_by commands w i e'.what ≡ None
        by_order (inl after) =
            absurd (message_twice shape lines ranks packets told is before (s ∷ later) w next.so_far i b e after.0 e' t'
            (split' ∙ ap (λ (z : List Event). z ++ e' ∷ t') after.1) y.from y.n line l at at_message)
        by_order (inr (inl earlier)) =
            absurd (message_twice shape lines ranks packets told is before (s ∷ later) w next.so_far i b' e' earlier.0
            e t
            (claim_there.3 ∙ ap (λ (z : List Event). z ++ e ∷ t) earlier.1) y.from y.n l line at_message at)
        by_order (inr (inr one)) =
            ap (claim_by commands w i) (ap (λ (z : Event). z.what) (sym one) ∙ at) ∙ not_held y.from y.n

    -- no message before it is selected and free
    numbered : AtEach (λ b e. IsNumbered shape.ranks b e.what) h
    numbered =
        AtEach-from_splits (λ b e. IsNumbered shape.ranks b e.what) h (λ b e t split. record {
          number = number_at shape lines ranks packets told is before (s ∷ later) w next.so_far i b e t split;
          known = messages_numbered shape.ranks b
              (AtEach-prefix (λ b e. NumberAt shape.ranks b e.what) b (e ∷ t)
              (subst (λ (k : List Event). AtEach (λ b e. NumberAt shape.ranks b e.what) k) split
              (numbers_now shape lines ranks packets told is before (s ∷ later) w next.so_far i)));
        })

    numbered_then : AtEach (λ b e. IsNumbered shape.ranks b e.what) b
    numbered_then =
        AtEach-prefix (λ b e. IsNumbered shape.ranks b e.what) b (e ∷ t)
        (subst (λ (k : List Event). AtEach (λ b e. IsNumbered shape.ranks b e.what) k) claim_there.3 numbered)

    came_then : (a' : Arrival) → Contains (messages h) a' → a'.env.from ≡ a0.env.from → a'.n < a0.n →
        Contains (messages b) a'
    came_then a' inside' same low = by_order (two_splits b t come.b come.t e come.e (sym claim_there.3 ∙ come.split))
      where
        come : HasCome h a'
        come = has_come h a' inside'

        clash : event.Claim y.from y.n line ≡ event.Arrive a' → ⊥
        clash equal = grind arith

        by_order : ((z : List Event) × (come.b ≡ b ++ e ∷ z)) ⊎ (((z : List Event) × (b ≡ come.b ++ come.e ∷ z))
            ⊎ (e ≡ come.e)) → Contains (messages b) a'
        by_order (inl after) =
            let number : a'.n ≡ length (arrivals come.b a'.env.from) =
            (subst (λ (what : Happened). NumberAt shape.ranks come.b what) come.comes
            (number_at shape lines ranks packets told is before (s ∷ later) w next.so_far i come.b come.e come.t
            come.split)).1 in
            let of_sender : length (arrivals come.b a'.env.from) ≡ length (arrivals come.b a0.env.from) =
            ap (λ (r : ℕ). length (arrivals come.b r)) same in
            let count : length (arrivals come.b a0.env.from)
            ≡ length (arrivals b a0.env.from) + length (arrivals (e ∷ after.0) a0.env.from) =
            ap (λ (z : List Event). length (arrivals z a0.env.from)) after.1
            ∙ ap length (arrivals-append b (e ∷ after.0) a0.env.from)
            ∙ length-append (arrivals b a0.env.from) (arrivals (e ∷ after.0) a0.env.from) in
            let first : a0.n < length (arrivals b a0.env.from) =
            early shape lines ranks packets told is before (s ∷ later) w next.so_far i b e t claim_there.3 y.from y.n
            line at
            answers.command answers.next answers.line_is a0 inside_then free first_then.2 first_then.3 in
            absurd (omega (arith, low, number, of_sender, count, first))
        by_order (inr (inl earlier)) =
            subst (λ (xs : List Arrival). Contains xs a')
            (sym (ap messages earlier.1
            ∙ filter_map-append (λ (e : Event). arrival_of e.what) come.b (come.e ∷ earlier.0)
            ∙ ap (λ (what : Happened). messages come.b ++ cons_option (arrival_of what) (messages earlier.0)) come.comes
            ∙ sym (append_assoc (messages come.b) (a' ∷ []) (messages earlier.0))))
            (Contains-append_left (messages come.b ++ a' ∷ []) (messages earlier.0) a'
            (Contains-push (messages come.b) a'))
        by_order (inr (inr one)) =
            absurd (clash (sym at ∙ ap (λ (z : Event). z.what) one ∙ come.comes))

    earlier : (a' : Arrival) → Contains (messages h) a' → a'.env.from ≡ a0.env.from → a'.n < a0.n →
        is_free h (matched_pairs h) a' ≡ true → matches from tag ctx a'.env ≡ false
    earlier a' inside' same low free' =
        fails (matches from tag ctx a'.env) (is_free b (matched_pairs b) a')
        (first_of_sender shape.ranks test b numbered_then a0 a' first_then.1 (came_then a' inside' same low) same low)
        (front_free b (e ∷ t) a'.env.from a'.n
        (subst (λ (k : List Event). is_free_message k (matched_pairs k) a'.env.from a'.n ≡ true) claim_there.3 free'))
      where
        fails : (x y : Bool) → (x && y) ≡ false → y ≡ true → x ≡ false
        fails true y none so = absurd (false≢true (sym none ∙ so))
        fails false y none so = refl

    -- it is the machine's first
    pub first_shown : first_to_lem (rank_of lines w (history_in before) first_then.0.env.from) s.rank
        (rank_of lines w (history_in before) s.rank) (pattern_lem from tag ctx)
        ≡ Some (message_at w s.rank first_then.0)
    first_shown =
        first_is shape lines ranks packets told is before (s ∷ later) w next.so_far i a0 inside gone unheld from tag ctx
        selected ended earlier

    -- no receive was posted since, and none that is open selects it
    pub none_selects : receiver_of_lem (rank_of lines w (history_in before) s.rank) (message_at w s.rank first_then.0)
        ≡ None
    none_selects =
        no_receiver shape lines ranks packets told is before (s ∷ later) w next.so_far i a0
        (λ p posted opened. none_missed b p a0 (subst (λ (ps : List post.Post). Contains ps p)
        (posts_same shape lines ranks packets told is before (s ∷ later) w next.so_far i b e t claim_there.3 y.from
        y.n line
        at answers.command answers.next answers.line_is) posted)
        inside_then
        (front_open b (e ∷ t) p (subst (λ (k : List Event). is_open k (matched_pairs k) p ≡ true) claim_there.3 opened))
        free)
