-- What a pair of a posted receive changes: its message is pending no more, and all others stay. MPI 3.1, 3.5.
use Rattle.std.proofs.Common.{◌≡◌, ℕ, ◌<◌, ◌==◌, ◌&&◌, ◌||◌, Bool, true, false, cond, not, Option, Some, None}
use Rattle.std.proofs.Common.{List, [], ◌∷◌, ◌++◌, get_or, length, refl, sym, ◌∙◌, ap, subst, append-nil}
use Rattle.std.specs.Prelude.{option_to_list}
use Rattle.std.specs.List.{cons_option, filter, filter_map, find, list_any}
use Rattle.std.proofs.lemmas.List.Elements.{filter_map-append}
use Rattle.nm_types.specs.declared.messages.Arrival.{Arrival}
use Rattle.nm_types.specs.declared.messages.Post as post
use Rattle.nm_types.specs.declared.scripts.Line.{Line}
use Rattle.nm_types.specs.Commands.{Numbered, commands_of}
use Rattle.nm_types.specs.Sizes.{Sizes}
use Rattle.nm_types.proofs.NumberLemmas.{eq_true, same_number}
use Rattle.nm_history.specs.declared.events.Event.{Event}
use Rattle.nm_history.specs.declared.events.Happened.{Happened}
use Rattle.nm_history.specs.declared.events.Happened.TheVariants as event
use Rattle.nm_history.specs.declared.plain.Pair.{Pair}
use Rattle.nm_history.specs.Matching.{is_of_message, is_of_receive}
use Rattle.nm_history.specs.Quiescence.{Ended, Packets}
use Rattle.nm_history.specs.Sends.{receive_of}
use Rattle.nm_history.proofs.Basic.{all_of, or_false}
use Rattle.nm_history.proofs.Lasting.{filter_map_same}
use Rattle.nm_outcomes.specs.Logs.{Step, history_in}
use Rattle.nm_outcomes.specs.Paths.{moved}
use Rattle.nm_outcomes.specs.Places.{RankPoint, after, or_else, pair_by}
use Rattle.nm_outcomes.proofs.LogLemmas.{grown_here, grown_other}
use Rattle.nm_lawful.specs.declared.messages.Claim.{Claim}
use Rattle.nm_lawful.specs.declared.messages.Message.{Message}
use Rattle.nm_lawful.specs.declared.messages.Request.{Request}
use Rattle.nm_lawful.specs.Moves.{Report}
use Rattle.nm_lawful.specs.Ranks.{RankState, without_message}
use Rattle.nm_runs_lawful.specs.Stands.{IsNext, IsRunTold, behind, claim_by, effects, is_live_at, is_matched_now}
use Rattle.nm_runs_lawful.specs.Stands.{message_at, message_by, rank_of, request_by, standing_of}
use Rattle.nm_runs_lawful.proofs.AnsweredLemmas.{and_nothing}
use Rattle.nm_runs_lawful.proofs.ChangeLemmas.{claim_as, message_as, request_as, row_is, standing_as}
use Rattle.nm_runs_lawful.proofs.QuietLemmas.{first_alone}
use Rattle.nm_runs_lawful.proofs.TakenLemmas.{outgoing_taken}

-- what a pair changes of a place
pub record PairsAlike (own : Bool) (pair : Pair) (p q : RankPoint) : Type 0 where
  pub off : (k : ℕ) → q.off k ≡ p.off k
  pub recalled : (to k : ℕ) → q.recalled to k ≡ p.recalled to k
  pub withdrawn : (f k : ℕ) → q.withdrawn f k ≡ p.withdrawn f k
  pub lines : (to : ℕ) → q.lines to ≡ p.lines to
  pub taken : (f k : ℕ) → q.taken f k ≡ (p.taken f k || (own && is_of_message f k pair))
  pub pairs : (k : ℕ) → q.pairs k ≡ or_else (p.pairs k) (cond (own && pair.number == k) (Some pair) None)

-- a receive that is posted, and a message that comes
pub post_pairs : (me : ℕ) (commands : List Numbered) (p : RankPoint) (x : post.Post) (line : ℕ) (pair : Pair) →
    pair_by p (event.Post x line) ≡ Some pair → PairsAlike true pair p (after me commands p (event.Post x line))
post_pairs me commands p x line pair made = record {
  off = λ k. or_false (p.off k);
  recalled = λ to k. or_false (p.recalled to k);
  withdrawn = λ f k. or_false (p.withdrawn f k);
  lines = λ to. append-nil (p.lines to);
  taken = λ f k.
      ap (λ (o : Option Pair). p.taken f k || list_any (is_of_message f k) (option_to_list o)) made
      ∙ ap (λ (b : Bool). p.taken f k || b) (or_false (is_of_message f k pair));
  pairs = λ k. ap (λ (o : Option Pair). or_else (p.pairs k) (find (is_of_receive k) (option_to_list o))) made;
}

pub arrive_pairs : (me : ℕ) (commands : List Numbered) (p : RankPoint) (a : Arrival) (pair : Pair) →
    pair_by p (event.Arrive a) ≡ Some pair → PairsAlike true pair p (after me commands p (event.Arrive a))
arrive_pairs me commands p a pair made = record {
  off = λ k. or_false (p.off k);
  recalled = λ to k. or_false (p.recalled to k);
  withdrawn = λ f k. or_false (p.withdrawn f k);
  lines = λ to. append-nil (p.lines to);
  taken = λ f k.
      ap (λ (o : Option Pair). p.taken f k || list_any (is_of_message f k) (option_to_list o)) made
      ∙ ap (λ (b : Bool). p.taken f k || b) (or_false (is_of_message f k pair));
  pairs = λ k. ap (λ (o : Option Pair). or_else (p.pairs k) (find (is_of_receive k) (option_to_list o))) made;
}

-- .. of each rank
pub pairs_each : (lines : List Line) (w : ℕ → RankPoint) (s : Step) (pair : Pair) →
    PairsAlike true pair (w s.rank) (after s.rank (commands_of s.rank lines) (w s.rank) s.event.what) → (r : ℕ) →
    PairsAlike (s.rank == r) pair (w r) (moved lines w s r)
pairs_each lines w s pair own r = by_rank (s.rank == r) refl
  where
    by_rank : (b : Bool) → (s.rank == r) ≡ b →
        PairsAlike b pair (w r) (cond b (after r (commands_of r lines) (w r) s.event.what) (w r))
    by_rank true same =
        subst (λ (r : ℕ). PairsAlike true pair (w r) (after r (commands_of r lines) (w r) s.event.what))
        (same_number s.rank r same) own
    by_rank false other = record {
      off = λ k. refl;
      recalled = λ to k. refl;
      withdrawn = λ f k. refl;
      lines = λ to. refl;
      taken = λ f k. sym (or_false ((w r).taken f k));
      pairs = λ k. sym (first_alone ((w r).pairs k));
    }

-- states of which the parts are the same
pub rows_same : (at at' : ℕ) (rs rs' : List Request) (cs cs' : List Claim) (out : List Message) → at ≡ at' → rs ≡ rs' →
    cs ≡ cs' →
    ◌≡◌ {A = RankState} (record { at = at; requests = rs; outgoing = out; claims = cs })
    (record { at = at'; requests = rs'; outgoing = out; claims = cs' })
rows_same at at' rs rs' cs cs' out one two three = rw (one, two, three) refl

module _ (shape : Sizes) (lines : List Line) (ranks : List Ended) (packets : List Packets) (told : Report)
    (is : IsRunTold shape lines ranks packets told) (before : List Step) (s : Step) (later : List Step)
    (w : ℕ → RankPoint) (next : IsNext shape lines ranks before s later w) (pair : Pair)
    (alike : (r : ℕ) → PairsAlike (s.rank == r) pair (w r) (moved lines w s r))
  where
    abbrev i : ℕ
    i = s.rank

    abbrev commands : List Numbered
    commands = commands_of s.rank lines

    abbrev h : List Event
    h = history_in before s.rank

    abbrev v : ℕ → RankPoint
    v = moved lines w s

    abbrev g : ℕ → List Event
    g = history_in (before ++ s ∷ [])

    abbrev row : ℕ → RankState
    row = rank_of lines w (history_in before)

    abbrev j : ℕ
    j = pair.arrival.env.from

    abbrev n : ℕ
    n = pair.arrival.n

    abbrev message : Message
    message = message_at w s.rank pair.arrival

    pub same_message : (k : ℕ) (y : Arrival) → message_at (moved lines w s) k y ≡ message_at w k y
    same_message k y =
        message_as w v k y (ap (λ (ls : List ℕ). get_or ls y.n 0) ((alike y.env.from).lines k))

    gone : (r k y : ℕ) → ((v r).taken k y || (v r).withdrawn k y)
        ≡ (((w r).taken k y || (w r).withdrawn k y) || (i == r && (j == k && n == y)))
    gone r k y =
        ap (λ (b : Bool). b || (v r).withdrawn k y) ((alike r).taken k y)
        ∙ ap (λ (b : Bool). ((w r).taken k y || (i == r && (j == k && n == y))) || b) ((alike r).withdrawn k y)
        ∙ moved_last ((w r).taken k y) (i == r && (j == k && n == y)) ((w r).withdrawn k y)
      where
        moved_last : (p q r : Bool) → ((p || q) || r) ≡ ((p || r) || q)
        moved_last true q r = refl
        moved_last false true true = refl
        moved_last false true false = refl
        moved_last false false true = refl
        moved_last false false false = refl

    -- what is not of the receive stands as before
    pub stands_still : (what : Happened) → ((k : ℕ) → receive_of what ≡ Some k → (pair.number == k) ≡ false) →
        standing_of (commands_of s.rank lines) (moved lines w s) s.rank what
        ≡ standing_of (commands_of s.rank lines) w s.rank what
    stands_still what other =
        standing_as w v i commands what (λ r k of. (alike r).withdrawn i k) (λ r k of. (alike i).recalled r k)
        (λ k of. (alike i).off k)
        (λ k of. (alike i).pairs k
        ∙ ap (λ (y : Bool). or_else ((w i).pairs k) (cond (i == i && y) (Some pair) None)) (other k of)
        ∙ ap (λ (y : Bool). or_else ((w i).pairs k) (cond y (Some pair) None)) (and_nothing (i == i))
        ∙ first_alone ((w i).pairs k))
        (λ k p of paired. same_message i p.arrival)

    -- the receive, which had no message, has it
    pub now_paired : (w s.rank).pairs pair.number ≡ None → (moved lines w s s.rank).pairs pair.number ≡ Some pair
    now_paired none =
        (alike i).pairs pair.number
        ∙ ap (λ (o : Option Pair). or_else o (cond (i == i && pair.number == pair.number) (Some pair) None)) none
        ∙ ap (λ (b : Bool). cond (b && pair.number == pair.number) (Some pair) None) (eq_true i i refl)
        ∙ ap (λ (b : Bool). cond b (Some pair) None) (eq_true pair.number pair.number refl)

    unmoved : (k : ℕ) → (i == k) ≡ false → v k ≡ w k
    unmoved k other = ap (λ (b : Bool). cond b (after k (commands_of k lines) (w k) s.event.what) (w k)) other

    requests_other : (k : ℕ) → (i == k) ≡ false →
        filter_map (λ (e : Event). request_by (commands_of k lines) v k e.what) (g k) ≡ (row k).requests
    requests_other k other =
        ap (λ (t : List Event). filter_map (λ (e : Event). request_by (commands_of k lines) v k e.what) t)
        (grown_other before s k other)
        ∙ filter_map_same (λ (e : Event). request_by (commands_of k lines) v k e.what)
        (λ (e : Event). request_by (commands_of k lines) w k e.what) (history_in before k)
        (all_of (λ e. request_by (commands_of k lines) v k e.what ≡ request_by (commands_of k lines) w k e.what)
        (history_in before k)
        (λ e. request_as w v k (commands_of k lines) e.what
        (λ q l of named'. ap (λ (p : RankPoint). is_live_at p q l) (unmoved k other))
        (standing_as w v k (commands_of k lines) e.what (λ r y of. (alike r).withdrawn k y)
        (λ r y of. (alike k).recalled r y) (λ y of. (alike k).off y)
        (λ y of. ap (λ (p : RankPoint). p.pairs y) (unmoved k other)) (λ y p of paired. same_message k p.arrival))))

    claims_other : (k : ℕ) → (i == k) ≡ false →
        filter_map (λ (e : Event). claim_by (commands_of k lines) v k e.what) (g k) ≡ (row k).claims
    claims_other k other =
        ap (λ (t : List Event). filter_map (λ (e : Event). claim_by (commands_of k lines) v k e.what) t)
        (grown_other before s k other)
        ∙ filter_map_same (λ (e : Event). claim_by (commands_of k lines) v k e.what)
        (λ (e : Event). claim_by (commands_of k lines) w k e.what) (history_in before k)
        (all_of (λ e. claim_by (commands_of k lines) v k e.what ≡ claim_by (commands_of k lines) w k e.what)
        (history_in before k) (λ e. by_event e.what))
      where
        by_event : (what : Happened) → claim_by (commands_of k lines) v k what ≡ claim_by (commands_of k lines) w k what
        by_event (event.Claim f y own) =
            claim_as w v k (commands_of k lines) f y own (λ z. ap (λ (p : RankPoint). p.handled z) (unmoved k other))
            (ap (λ (p : RankPoint). is_matched_now p f y) (unmoved k other))
            (ap (λ (p : RankPoint). p.known f y) (unmoved k other)) (λ z known. same_message k z)
        by_event what = refl

    -- The message was sent, and the event sends nothing.
    module _ (sent : pair.arrival.n < length ((w pair.arrival.env.from).lines s.rank))
        (no_message : message_by (moved lines w s) s.rank s.event.what ≡ None)
      where
        outgoing : (k : ℕ) → filter_map (λ (e : Event). message_by v k e.what) (g k)
            ≡ cond (j == k) (filter (λ y. not (y.place == message.place)) (row k).outgoing) (row k).outgoing
        outgoing k =
            by_rank (i == k) refl
            ∙ outgoing_taken shape lines ranks packets told is before (s ∷ later) w next.so_far v i j n sent gone k
          where
            by_rank : (b : Bool) → (i == k) ≡ b → filter_map (λ (e : Event). message_by v k e.what) (g k)
                ≡ filter_map (λ (e : Event). message_by v k e.what) (history_in before k)
            by_rank true same =
                subst (λ (k : ℕ). filter_map (λ (e : Event). message_by v k e.what) (g k)
                ≡ filter_map (λ (e : Event). message_by v k e.what) (history_in before k)) (same_number i k same)
                (ap (λ (t : List Event). filter_map (λ (e : Event). message_by v i e.what) t) (grown_here before s)
                ∙ filter_map-append (λ (e : Event). message_by v i e.what) h (s.event ∷ [])
                ∙ ap (λ (o : Option Message). filter_map (λ (e : Event). message_by v i e.what) h ++ cons_option o [])
                no_message
                ∙ append-nil (filter_map (λ (e : Event). message_by v i e.what) h))
            by_rank false other =
                ap (λ (t : List Event). filter_map (λ (e : Event). message_by v k e.what) t)
                (grown_other before s k other)

        -- the state of each rank behind it, where that of its own rank is this one, but for the message
        pub rows_behind : (own : RankState) →
            ◌≡◌ {A = RankState} (record {
              at = behind (commands_of s.rank lines) (effects (history_in (before ++ s ∷ []) s.rank));
              requests = filter_map
                  (λ (e : Event). request_by (commands_of s.rank lines) (moved lines w s) s.rank e.what)
                  (history_in (before ++ s ∷ []) s.rank);
              outgoing = (rank_of lines w (history_in before) s.rank).outgoing;
              claims = filter_map
                  (λ (e : Event). claim_by (commands_of s.rank lines) (moved lines w s) s.rank e.what)
                  (history_in (before ++ s ∷ []) s.rank);
            }) own → (k : ℕ) →
            rank_of lines (moved lines w s) (history_in (before ++ s ∷ [])) k
            ≡ cond (pair.arrival.env.from == k)
            (without_message (message_at w s.rank pair.arrival).place
            (cond (s.rank == k) own (rank_of lines w (history_in before) k)))
            (cond (s.rank == k) own (rank_of lines w (history_in before) k))
        rows_behind own own_is k = by_rank (i == k) refl
          where
            requests : List Request
            requests = filter_map (λ (e : Event). request_by commands v i e.what) (g i)

            claims : List Claim
            claims = filter_map (λ (e : Event). claim_by commands v i e.what) (g i)

            at : ℕ
            at = behind commands (effects (g i))

            by_own : (d : Bool) →
                ◌≡◌ {A = RankState} (record {
                  at = at;
                  requests = requests;
                  outgoing = cond d (filter (λ y. not (y.place == message.place)) (row i).outgoing) (row i).outgoing;
                  claims = claims;
                }) (cond d (without_message message.place own) own)
            by_own true = ap (without_message message.place) own_is
            by_own false = own_is

            by_other : (k : ℕ) (d : Bool) →
                ◌≡◌ {A = RankState} (record {
                  at = (row k).at;
                  requests = (row k).requests;
                  outgoing = cond d (filter (λ y. not (y.place == message.place)) (row k).outgoing) (row k).outgoing;
                  claims = (row k).claims;
                }) (cond d (without_message message.place (row k)) (row k))
            by_other k true = refl
            by_other k false = refl

            by_rank : (b : Bool) → (i == k) ≡ b →
                rank_of lines v g k
                ≡ cond (j == k) (without_message message.place (cond b own (row k))) (cond b own (row k))
            by_rank true same =
                subst (λ (k : ℕ). rank_of lines v g k ≡ cond (j == k) (without_message message.place own) own)
                (same_number i k same)
                (row_is lines v g i at requests
                (cond (j == i) (filter (λ y. not (y.place == message.place)) (row i).outgoing) (row i).outgoing)
                claims refl refl (outgoing i) refl ∙ by_own (j == i))
            by_rank false other =
                row_is lines v g k (row k).at (row k).requests
                (cond (j == k) (filter (λ y. not (y.place == message.place)) (row k).outgoing) (row k).outgoing)
                (row k).claims
                (ap (λ (t : List Event). behind (commands_of k lines) (effects t)) (grown_other before s k other))
                (requests_other k other) (outgoing k) (claims_other k other)
                ∙ by_other k (j == k)
