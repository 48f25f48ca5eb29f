-- The claim of a message that no receive has is in the machine, once its command has answered. MPI 3.1, 3.8.2.
use Rattle.std.proofs.Common.{◌≡◌, ℕ, ◌-◌, ◌==◌, Bool, true, false, cond, Option}
use Rattle.std.proofs.Common.{Some, None}
use Rattle.std.proofs.Common.{List, [], ◌∷◌, ◌++◌, get_or, refl, sym, ◌∙◌, ap, subst, arith}
use Rattle.std.specs.Prelude.{option_and_then, option_map}
use Rattle.std.specs.List.{AllByRecursion, cons_option, filter_map, list_any, slice_get}
use Rattle.std.specs.Option.{option_map_or}
use Rattle.std.proofs.lemmas.Bool.{false≢true}
use Rattle.std.proofs.lemmas.Option.{get_or_from_slice_get}
use Rattle.nm_types.specs.declared.messages.Arrival.{Arrival}
use Rattle.nm_types.specs.declared.scripts.Line.{Line}
use Rattle.nm_types.specs.Commands.{command_at, commands_of, rank_line}
use Rattle.nm_types.specs.Sizes.{Sizes}
use Rattle.nm_types.proofs.ListLemmas.{get_some}
use Rattle.nm_types.proofs.NumberLemmas.{eq_true, same_number}
use Rattle.nm_types.proofs.OptionLemmas.{no_some, same_some}
use Rattle.nm_types.proofs.TruthLemmas.{and_left, and_right, not_true, or_left, or_right}
use Rattle.nm_history.specs.declared.events.Event.{Event}
use Rattle.nm_history.specs.declared.events.Happened.{Happened}
use Rattle.nm_history.specs.declared.events.Happened.TheVariants as event
use Rattle.nm_history.specs.Happens.{happened, is_claim}
use Rattle.nm_history.specs.Quiescence.{Ended, Packets}
use Rattle.nm_history.specs.RankRun.{is_start, line_of_claim, since_command}
use Rattle.nm_history.proofs.Lasting.{by_splits}
use Rattle.nm_outcomes.specs.Logs.{Step, history_in}
use Rattle.nm_outcomes.specs.Places.{RankPoint}
use Rattle.nm_outcomes.proofs.HappenedLemmas.{split_any}
use Rattle.nm_lawful.specs.declared.messages.Claim.{Claim}
use Rattle.nm_lawful.specs.declared.messages.Message.{Message}
use Rattle.nm_lawful.specs.Moves.{Report}
use Rattle.nm_lawful.specs.Ranks.{is_claimed_lem}
use Rattle.nm_runs_lawful.specs.Stands.{IsSoFar, IsRunTold, claim_by, claimed_at, handle_of, is_match_of}
use Rattle.nm_runs_lawful.specs.Stands.{is_matched_now, line_of}
use Rattle.nm_runs_lawful.specs.Stands.{rank_of}
use Rattle.nm_runs_lawful.proofs.AlikeLemmas.{claim_of}
use Rattle.nm_runs_lawful.proofs.ClaimedLemmas.{claim_known}
use Rattle.nm_runs_lawful.proofs.KnownLemmas.{known_named, known_sent}
use Rattle.nm_runs_lawful.proofs.LiveLemmas.{start_in}
use Rattle.nm_runs_lawful.proofs.NextLemmas.{line_there}
use Rattle.nm_runs_lawful.proofs.OnceLemmas.{sends_at}
use Rattle.nm_runs_lawful.proofs.CancelLemmas.{any_kept, since_happened}
use Rattle.nm_runs_lawful.proofs.StandingLemmas.{claim_stands, match_takes}
use Rattle.nm_runs_lawful.proofs.TakenLemmas.{sent_by}
use Rattle.nm_runs_lawful.proofs.UniqueLemmas.{line_starts}

-- one passes that is there
pub any_there : {X Y : Type 0} (f : X → Option Y) (test : Y → Bool) (b t : List X) (x : X) (y : Y) → f x ≡ Some y →
    test y ≡ true → list_any test (filter_map f (b ++ x ∷ t)) ≡ true
any_there f test [] t x y is_one passes =
    ap (λ (o : Option _). list_any test (cons_option o (filter_map f t))) is_one
    ∙ or_left (test y) (list_any test (filter_map f t)) passes
any_there f test (z ∷ b) t x y is_one passes = by_first (f z) (any_there f test b t x y is_one passes)
  where
    by_first : (o : Option _) → list_any test (filter_map f (b ++ x ∷ t)) ≡ true →
        list_any test (cons_option o (filter_map f (b ++ x ∷ t))) ≡ true
    by_first None rest = rest
    by_first (Some u) rest = or_right (test u) (list_any test (filter_map f (b ++ x ∷ t))) rest

module _ (shape : Sizes) (lines : List Line) (ranks : List Ended) (packets : List Packets) (told : Report)
    (is : IsRunTold shape lines ranks packets told) (before : List Step) (later : List Step)
    (w : ℕ → RankPoint) (next : IsSoFar shape lines ranks before later w) (i : ℕ)
  where
    abbrev h : List Event
    h = history_in before i

    -- no matched receive of a message has just started where no receive has it
    unmatched : (f k : ℕ) → (w i).taken f k ≡ false → is_matched_now (w i) f k ≡ false
    unmatched f k free =
        not_true (is_matched_now (w i) f k) (λ some.
        let spot = split_any (is_match_of f k) h (since_happened (is_match_of f k) h
        (sym (any_kept is_start (is_match_of f k) starts (since_command h))
        ∙ ap (λ (ws : List Happened). list_any (is_match_of f k) ws) (sym (next.places i).begun) ∙ some)) in
        false≢true (sym free ∙ match_takes shape lines ranks packets told is before later w next i spot.0 spot.1 spot.2
        spot.3 f k spot.4))
      where
        starts : (z : Happened) → is_match_of f k z ≡ true → is_start z ≡ true
        starts (event.Match number from n cap own) is_one = refl
        starts z is_one = absurd (false≢true is_one)

    -- the claim of a message, which no receive has, and whose command has answered, is in the machine
    pub claim_there : (f k own : ℕ) → slice_get ((w f).lines i) k ≡ Some own → (w i).taken f k ≡ false →
        ((b : List Event) (e : Event) (t : List Event) → history_in before i ≡ b ++ e ∷ t → (l : ℕ) →
        e.what ≡ event.Claim f k l →
        list_any (λ (what : Happened). option_map_or (λ x. x == l) (line_of_claim what) false)
        (since_command (history_in before i)) ≡ false) →
        happened (is_claim f k) (history_in before i) ≡ true → (m : Message) → m.place ≡ own - 2 →
        is_claimed_lem (rank_of lines w (history_in before) i) m ≡ true
    claim_there f k own at free ended claimed m place =
        let spot = split_any (is_claim f k) h claimed in
        by_event spot.0 spot.1 spot.2 spot.3 spot.1.what refl spot.4
      where
        by_event : (b : List Event) (e : Event) (t : List Event) → h ≡ b ++ e ∷ t → (what : Happened) →
            e.what ≡ what → is_claim f k what ≡ true → is_claimed_lem (rank_of lines w (history_in before) i) m ≡ true
        by_event b e t split (event.Claim f' k' l) so same =
            let one : f' ≡ f = same_number f' f (and_left (f' == f) (k' == k) same) in
            let two : k' ≡ k = same_number k' k (and_right (f' == f) (k' == k) same) in
            let at_claim : e.what ≡ event.Claim f k l = so ∙ ap (λ (x : ℕ). event.Claim x k' l) one
            ∙ ap (λ (x : ℕ). event.Claim f x l) two in
            let stands = claim_stands shape lines ranks packets told is before later w next i b e t split f k l
            at_claim (ended b e t split l at_claim) free in
            let known = claim_known shape lines ranks packets told is before later w next i b e t split f k l
            at_claim in
            let names = known_named shape lines ranks packets told is before later w next i f k known.0 known.1 in
            let there : claim_by (commands_of i lines) w i e.what ≡ Some (claim_of w i stands.0 known.0) =
            ap (claim_by (commands_of i lines) w i) at_claim
            ∙ ap (λ (o : Option ℕ). option_and_then
            (λ (x : ℕ). cond (option_map_or (λ y. y == l) ((w i).handled x) false) (claimed_at w i x f k) None) o)
            stands.1
            ∙ ap (λ (o : Option ℕ). cond (option_map_or (λ y. y == l) o false) (claimed_at w i stands.0 f k) None)
            stands.2
            ∙ ap (λ (x : Bool). cond x (claimed_at w i stands.0 f k) None) (eq_true l l refl)
            ∙ ap (λ (x : Bool). cond x None (option_map (λ (a : Arrival). claim_of w i stands.0 a)
            ((w i).known f k))) (unmatched f k free)
            ∙ ap (λ (o : Option Arrival). option_map (λ (a : Arrival). claim_of w i stands.0 a) o) known.1 in
            let line : get_or ((w known.0.env.from).lines i) known.0.n 0 ≡ own =
            ap (λ (x : ℕ). get_or ((w x).lines i) known.0.n 0) names.0
            ∙ ap (λ (x : ℕ). get_or ((w f).lines i) x 0) names.1
            ∙ get_or_from_slice_get ((w f).lines i) k own 0 at in
            ap (λ (x : List Event). list_any (λ (c : Claim). c.message.place == m.place)
            (filter_map (λ (e : Event). claim_by (commands_of i lines) w i e.what) x)) split
            ∙ any_there (λ (e : Event). claim_by (commands_of i lines) w i e.what)
            (λ (c : Claim). c.message.place == m.place) b t e (claim_of w i stands.0 known.0) there
            (eq_true (get_or ((w known.0.env.from).lines i) known.0.n 0 - 2) m.place
            (ap (λ (x : ℕ). x - 2) line ∙ sym place))
        by_event b e t split what so same = absurd (false≢true same)

    -- a message of which no handle stands for a claim has none in the machine
    pub no_claim : (j n own : ℕ) → slice_get ((w j).lines i) n ≡ Some own →
        ((b : List Event) (e : Event) (t : List Event) → history_in before i ≡ b ++ e ∷ t → (l : ℕ) →
        e.what ≡ event.Claim j n l → claim_by (commands_of i lines) w i e.what ≡ None) →
        (m : Message) → m.place ≡ own - 2 → is_claimed_lem (rank_of lines w (history_in before) i) m ≡ false
    no_claim j n own at unheld m place =
        none_claims h (by_splits (λ e. (c : Claim) → claim_by (commands_of i lines) w i e.what ≡ Some c →
        (c.message.place == m.place) ≡ false) h [] h refl
        (λ b e t split c is_one. by_event b e t split e.what refl c is_one))
      where
        none_claims : (xs : List Event) →
            AllByRecursion (λ e. (c : Claim) → claim_by (commands_of i lines) w i e.what ≡ Some c →
            (c.message.place == m.place) ≡ false) xs →
            list_any (λ (c : Claim). c.message.place == m.place)
            (filter_map (λ (e : Event). claim_by (commands_of i lines) w i e.what) xs) ≡ false
        none_claims [] each = refl
        none_claims (e ∷ xs) each =
            by_first (claim_by (commands_of i lines) w i e.what) each.0 (none_claims xs each.1)
          where
            by_first : (o : Option Claim) → ((c : Claim) → o ≡ Some c → (c.message.place == m.place) ≡ false) →
                list_any (λ (c : Claim). c.message.place == m.place)
                (filter_map (λ (e : Event). claim_by (commands_of i lines) w i e.what) xs) ≡ false →
                list_any (λ (c : Claim). c.message.place == m.place)
                (cons_option o (filter_map (λ (e : Event). claim_by (commands_of i lines) w i e.what) xs)) ≡ false
            by_first None here rest = rest
            by_first (Some c) here rest = rw (here c refl, rest) refl

        -- lines of two ranks differ
        same_sender : (f k l l' : ℕ) → slice_get ((w f).lines i) k ≡ Some l → l - 2 ≡ own - 2 → (f ≡ j) × (k ≡ n)
        same_sender f k l l' at' same =
            let first = sends_at shape lines ranks packets told is before later w next f i k l at' in
            let second = sends_at shape lines ranks packets told is before later w next j i n own at in
            let one = line_there f lines first.place first.command first.next in
            let two = line_there j lines second.place second.command second.next in
            let low = one.0 in
            let low' = two.0 in
            let line : first.command.line ≡ l = first.line_is in
            let line' : second.command.line ≡ own = second.line_is in
            let equal : l ≡ own = omega (arith, low, low', line, line', same) in
            let rank : f ≡ j = ap (λ (x : Line). x.rank) (same_some (rank_line f first.command.command)
            (rank_line j second.command.command)
            (sym one.1 ∙ ap (λ (x : ℕ). slice_get lines (x - 2)) (line ∙ equal ∙ sym line') ∙ two.1)) in (
              rank,
              by_rank (subst (λ (x : ℕ). slice_get ((w x).lines i) k ≡ Some l) rank at') equal,
            )
          where
            by_rank : slice_get ((w j).lines i) k ≡ Some l → l ≡ own → k ≡ n
            by_rank at' equal =
                let a = sent_by shape lines ranks packets told is before later w next j i k l at' in
                let b = sent_by shape lines ranks packets told is before later w next j i n own at in
                let one = line_starts shape lines ranks packets told is before later w next j a.b a.e a.t a.split l
                (ap line_of a.sends) in
                let two = line_starts shape lines ranks packets told is before later w next j b.b b.e b.t b.split own
                (ap line_of b.sends) in
                let both_same : event.Send i k a.tag a.ctx a.len a.how l ≡ event.Send i n b.tag b.ctx b.len b.how own =
                sym a.sends ∙ same_some a.e.what b.e.what
                (sym one.0 ∙ ap (λ (x : ℕ). start_in x (history_in before j)) equal ∙ two.0) ∙ b.sends in
                cc

        by_event : (b : List Event) (e : Event) (t : List Event) → h ≡ b ++ e ∷ t → (what : Happened) →
            e.what ≡ what → (c : Claim) → claim_by (commands_of i lines) w i what ≡ Some c →
            (c.message.place == m.place) ≡ false
        by_event b e t split (event.Claim f k l) so c is_one =
            not_true (c.message.place == m.place) (λ same.
            let known = claim_known shape lines ranks packets told is before later w next i b e t split f k l so in
            let names = known_named shape lines ranks packets told is before later w next i f k known.0 known.1 in
            let there = get_some ((w f).lines i) k
            (known_sent shape lines ranks packets told is before later w next i f k names.2) in
            let line : get_or ((w known.0.env.from).lines i) known.0.n 0 ≡ there.0 =
            ap (λ (x : ℕ). get_or ((w x).lines i) known.0.n 0) names.0
            ∙ ap (λ (x : ℕ). get_or ((w f).lines i) x 0) names.1
            ∙ get_or_from_slice_get ((w f).lines i) k there.0 0 there.1 in
            let its : c.message.place ≡ get_or ((w known.0.env.from).lines i) known.0.n 0 - 2 =
            place_of c known.0 known.1 is_one in
            let sender' = same_sender f k there.0 there.0 there.1
            (sym (ap (λ (x : ℕ). x - 2) line) ∙ sym its ∙ same_number c.message.place m.place same ∙ place) in
            no_some c (sym (unheld b e t split l (so ∙ ap (λ (x : ℕ). event.Claim x k l) sender'.0
            ∙ ap (λ (x : ℕ). event.Claim j x l) sender'.1)) ∙ ap (claim_by (commands_of i lines) w i) so ∙ is_one))
          where
            place_of : (c : Claim) (a : Arrival) → (w i).known f k ≡ Some a →
                claim_by (commands_of i lines) w i (event.Claim f k l) ≡ Some c →
                c.message.place ≡ get_or ((w a.env.from).lines i) a.n 0 - 2
            place_of c a known is_one =
                by_handle (option_and_then handle_of (command_at
                (commands_of i lines) l)) is_one
              where
                by_matched : (x : ℕ) (z : Bool) →
                    cond z None (option_map (λ (a : Arrival). claim_of w i x a) ((w i).known f k)) ≡ Some c →
                    c.message.place ≡ get_or ((w a.env.from).lines i) a.n 0 - 2
                by_matched x true so = absurd (no_some c so)
                by_matched x false so =
                    ap (λ (c : Claim). c.message.place)
                    (sym (same_some (claim_of w i x a) c
                    (sym (ap (λ (o : Option Arrival). option_map (λ (a : Arrival). claim_of w i x a) o) known) ∙ so)))

                by_claimed : (x : ℕ) → claimed_at w i x f k ≡ Some c →
                    c.message.place ≡ get_or ((w a.env.from).lines i) a.n 0 - 2
                by_claimed x so = by_matched x (is_matched_now (w i) f k) so

                by_live : (x : ℕ) (z : Bool) → cond z (claimed_at w i x f k) None ≡ Some c →
                    c.message.place ≡ get_or ((w a.env.from).lines i) a.n 0 - 2
                by_live x true so = by_claimed x so
                by_live x false so = absurd (no_some c so)

                by_handle : (o : Option ℕ) →
                    option_and_then (λ (x : ℕ). cond (option_map_or (λ y. y == l) ((w i).handled x) false)
                    (claimed_at w i x f k) None) o ≡ Some c →
                    c.message.place ≡ get_or ((w a.env.from).lines i) a.n 0 - 2
                by_handle None so = absurd (no_some c so)
                by_handle (Some x) so = by_live x (option_map_or (λ y. y == l) ((w i).handled x) false) so
        by_event b e t split what so c is_one = absurd (no_some c is_one)
