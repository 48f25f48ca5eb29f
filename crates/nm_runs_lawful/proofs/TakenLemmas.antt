-- A message is pending no more, and all others are as before. MPI 3.1, 3.5.
use Rattle.std.proofs.Common.{◌≡◌, ℕ, zero, suc, ◌-◌, ◌<◌, ◌≤◌, ◌==◌, ◌&&◌, ◌||◌, Bool, true, false, cond, not, Some}
use Rattle.std.proofs.Common.{None}
use Rattle.std.proofs.Common.{List, [], ◌∷◌, ◌++◌, get_or, length, refl, sym, ◌∙◌, ap, subst, arith}
use Rattle.std.specs.Prelude.{option_and_then}
use Rattle.std.specs.List.{cons_option, filter, filter_map, slice_get}
use Rattle.std.proofs.lemmas.Bool.{false≢true}
use Rattle.std.proofs.lemmas.Option.{get_or_from_slice_get}
use Rattle.nm_types.specs.declared.messages.How.{How}
use Rattle.nm_types.specs.declared.scripts.Line.{Line}
use Rattle.nm_types.specs.Sizes.{Sizes}
use Rattle.nm_types.proofs.ListLemmas.{get_from_map, get_some}
use Rattle.nm_types.proofs.NumberLemmas.{eq_true, same_number}
use Rattle.nm_types.proofs.OptionLemmas.{no_some, same_some}
use Rattle.nm_types.proofs.TruthLemmas.{and_left, and_right, both, same_test}
use Rattle.nm_history.specs.declared.events.Event.{Event}
use Rattle.nm_history.specs.declared.events.Happened.{Happened}
use Rattle.nm_history.specs.declared.events.Happened.TheVariants as event
use Rattle.nm_history.specs.Quiescence.{Ended, Packets}
use Rattle.nm_history.specs.Sends.{Sent, sends, sent_of}
use Rattle.nm_history.proofs.Basic.{all_of}
use Rattle.nm_history.proofs.Lasting.{by_splits, filter_map_same}
use Rattle.nm_outcomes.specs.Logs.{Step, history_in}
use Rattle.nm_outcomes.specs.Places.{RankPoint}
use Rattle.nm_outcomes.proofs.SentLemmas.{sends_numbered}
use Rattle.nm_lawful.specs.declared.messages.Message.{Message}
use Rattle.nm_lawful.specs.Moves.{Report}
use Rattle.nm_runs_lawful.specs.Stands.{IsSoFar, IsRunTold, line_of, message_by}
use Rattle.nm_runs_lawful.proofs.ChangeLemmas.{kept_map}
use Rattle.nm_runs_lawful.proofs.LiveLemmas.{start_in}
use Rattle.nm_runs_lawful.proofs.OnceLemmas.{numbers_now}
use Rattle.nm_runs_lawful.proofs.UniqueLemmas.{line_of_send, line_starts}

-- what is among the sends was sent
record IsSentIn (h : List Event) (to : ℕ) (x : Sent) : Type 0 where
  b : List Event
  e : Event
  t : List Event
  split : h ≡ b ++ e ∷ t
  is : e.what ≡ event.Send to x.n x.tag x.ctx x.len x.how x.line

send_event : (h : List Event) (to m : ℕ) (x : Sent) → slice_get (sends h to) m ≡ Some x → IsSentIn h to x
send_event [] to m x here = absurd (no_some x here)
send_event (e ∷ h) to m x here = by_event e.what refl here (λ m here. send_event h to m x here)
  where
    later : IsSentIn h to x → IsSentIn (e ∷ h) to x
    later found =
        record {
          b = e ∷ found.b;
          e = found.e;
          t = found.t;
          split = ap (λ (k : List Event). e ∷ k) found.split;
          is = found.is;
        }

    first : (y : Sent) (to' : ℕ) → y ≡ x → e.what ≡ event.Send to' y.n y.tag y.ctx y.len y.how y.line →
        (to' == to) ≡ true → IsSentIn (e ∷ h) to x
    first y to' same at own =
        record {
          b = [];
          e = e;
          t = h;
          split = refl;
          is = at ∙ ap (λ (r : ℕ). event.Send r y.n y.tag y.ctx y.len y.how y.line) (same_number to' to own)
              ∙ ap (λ (y : Sent). event.Send to y.n y.tag y.ctx y.len y.how y.line) same;
        }

    by_to : (y : Sent) (to' : ℕ) → e.what ≡ event.Send to' y.n y.tag y.ctx y.len y.how y.line → (b : Bool) →
        (to' == to) ≡ b → (m : ℕ) → slice_get (cond b (y ∷ sends h to) (sends h to)) m ≡ Some x →
        ((m : ℕ) → slice_get (sends h to) m ≡ Some x → IsSentIn h to x) → IsSentIn (e ∷ h) to x
    by_to y to' at true own zero here rest = first y to' (same_some y x here) at own
    by_to y to' at true own (suc m) here rest = later (rest m here)
    by_to y to' at false own m here rest = later (rest m here)

    by_event : (what : Happened) → e.what ≡ what →
        slice_get (filter (λ s. s.to == to) (cons_option (sent_of e.stamp what)
        (filter_map (λ (e : Event). sent_of e.stamp e.what) h))) m ≡ Some x →
        ((m : ℕ) → slice_get (sends h to) m ≡ Some x → IsSentIn h to x) → IsSentIn (e ∷ h) to x
    by_event (event.Send to' n tag ctx len how line) at here rest =
        by_to (record {
          stamp = e.stamp;
          to = to';
          n = n;
          tag = tag;
          ctx = ctx;
          len = len;
          how = how;
          line = line;
        }) to' at (to' == to) refl m here rest
    by_event what at here rest = later (rest m here)

module _ (shape : Sizes) (lines : List Line) (ranks : List Ended) (packets : List Packets) (told : Report)
    (is : IsRunTold shape lines ranks packets told) (before : List Step) (later : List Step)
    (w : ℕ → RankPoint) (next : IsSoFar shape lines ranks before later w)
  where
    -- the send of a line that stands among a rank's lines
    pub record IsSentBy (k to m line : ℕ) : Type 0 where
      pub b : List Event
      pub e : Event
      pub t : List Event
      pub split : history_in before k ≡ b ++ e ∷ t
      pub tag : ℕ
      pub ctx : ℕ
      pub len : ℕ
      pub how : How
      pub sends : e.what ≡ event.Send to m tag ctx len how line

    pub sent_by : (k to m line : ℕ) → slice_get ((w k).lines to) m ≡ Some line → IsSentBy k to m line
    sent_by k to m line here =
        let found = get_from_map (λ (x : Sent). x.line) (sends (history_in before k) to) m line
        (sym (ap (λ (ls : List ℕ). slice_get ls m) ((next.places k).lines to)) ∙ here) in
        let sent = send_event (history_in before k) to m found.0 found.1 in
        let number : found.0.n ≡ m = sends_numbered shape.ranks (history_in before k)
        (numbers_now shape lines ranks packets told is before later w next k) to m found.0 found.1 in
        record {
          b = sent.b;
          e = sent.e;
          t = sent.t;
          split = sent.split;
          tag = found.0.tag;
          ctx = found.0.ctx;
          len = found.0.len;
          how = found.0.how;
          sends = sent.is
              ∙ ap (λ (n : ℕ). event.Send to n found.0.tag found.0.ctx found.0.len found.0.how found.0.line) number
              ∙ ap (λ (l : ℕ). event.Send to m found.0.tag found.0.ctx found.0.len found.0.how l) found.2;
        }

    -- Message n of rank j to rank i is taken or withdrawn, and no other one.
    module _ (v : ℕ → RankPoint) (i j n : ℕ) (sent : n < length ((w j).lines i))
        (gone : (r k m : ℕ) → ((v r).taken k m || (v r).withdrawn k m)
        ≡ (((w r).taken k m || (w r).withdrawn k m) || (i == r && (j == k && n == m))))
      where
        line : (l : ℕ) × (slice_get ((w j).lines i) n ≡ Some l)
        line = get_some ((w j).lines i) n sent

        abbrev pub place : ℕ
        place = get_or ((w j).lines i) n 0 - 2

        line_is : get_or ((w j).lines i) n 0 ≡ line.0
        line_is = get_or_from_slice_get ((w j).lines i) n line.0 0 line.1

        -- the message of another send, or of this one
        cut : (b x own : Bool) (y : Message) → own ≡ x →
            cond (b || x) None (Some y)
            ≡ option_and_then (λ (y : Message). cond (not own) (Some y) None) (cond b None (Some y))
        cut true x own y same = refl
        cut false true true y same = refl
        cut false false false y same = refl
        cut false true false y same = absurd (false≢true same)
        cut false false true y same = absurd (false≢true (sym same))

        apart : (x y : ℕ) → 2 ≤ x → 2 ≤ y → x - 2 ≡ y - 2 → x ≡ y
        apart x y first second same = omega (arith, first, second, same)

        this_line : (b : List Event) (e : Event) (t : List Event) → history_in before j ≡ b ++ e ∷ t →
            (to m tag ctx len : ℕ) (how : How) (own : ℕ) → e.what ≡ event.Send to m tag ctx len how own →
            ((own - 2) == place) ≡ (i == to && n == m)
        this_line b e t split to m tag ctx len how own at =
            same_test ((own - 2) == place) (i == to && n == m) from_line to_line
          where
            this : IsSentBy j i n line.0
            this = sent_by j i n line.0 line.1

            starts : (start_in own (history_in before j) ≡ Some e.what) × (2 ≤ own)
            starts =
                line_starts shape lines ranks packets told is before later w next j b e t split own
                (ap line_of at)

            this_starts : (start_in line.0 (history_in before j) ≡ Some this.e.what) × (2 ≤ line.0)
            this_starts =
                line_starts shape lines ranks packets told is before later w next j this.b this.e this.t this.split
                line.0 (ap line_of this.sends)

            from_line : ((own - 2) == place) ≡ true → (i == to && n == m) ≡ true
            from_line same =
                let equal : own - 2 ≡ line.0 - 2 = same_number (own - 2) place same ∙ ap (λ (l : ℕ). l - 2) line_is in
                let one : own ≡ line.0 = apart own line.0 starts.1 this_starts.1 equal in
                let sends_same : event.Send to m tag ctx len how own
                ≡ event.Send i n this.tag this.ctx this.len this.how line.0 =
                sym at ∙ same_some e.what this.e.what
                (sym starts.0 ∙ ap (λ (l : ℕ). start_in l (history_in before j)) one ∙ this_starts.0) ∙ this.sends in
                let first : to ≡ i = cc in
                let second : m ≡ n = cc in
                both (i == to) (n == m) (eq_true i to (sym first)) (eq_true n m (sym second))

            to_line : (i == to && n == m) ≡ true → ((own - 2) == place) ≡ true
            to_line same =
                let first : i ≡ to = same_number i to (and_left (i == to) (n == m) same) in
                let second : n ≡ m = same_number n m (and_right (i == to) (n == m) same) in
                let own_there = line_of_send shape lines ranks packets told is before later w next j b e t split to m
                tag ctx len how own at in
                let equal : line.0 ≡ own = same_some line.0 own (sym line.1
                ∙ ap (λ (r : ℕ). slice_get ((w j).lines r) n) first
                ∙ ap (λ (k : ℕ). slice_get ((w j).lines to) k) second ∙ own_there) in
                eq_true (own - 2) place (ap (λ (l : ℕ). l - 2) (sym (line_is ∙ equal)))

        -- the other ranks' messages are the same
        other_pending : (k : ℕ) → (j == k) ≡ false → (what : Happened) → message_by v k what ≡ message_by w k what
        other_pending k other (event.Send to m tag ctx len how own) =
            ap (λ (b : Bool). cond b None (Some (record {
              place = own - 2;
              from = k;
              to = to;
              tag = tag;
              ctx = ctx;
              len = len;
            })))
            (gone to k m ∙ ap (λ (b : Bool). ((w to).taken k m || (w to).withdrawn k m) || (i == to &&
            (b && n == m))) other
            ∙ none_more ((w to).taken k m || (w to).withdrawn k m) (i == to))
          where
            none_more : (a b : Bool) → (a || (b && false)) ≡ a
            none_more true b = refl
            none_more false true = refl
            none_more false false = refl
        other_pending k other what = refl

        own_pending : (b : List Event) (e : Event) (t : List Event) → history_in before j ≡ b ++ e ∷ t →
            (what : Happened) → e.what ≡ what → message_by v j what
            ≡ option_and_then (λ (y : Message). cond (not (y.place == place)) (Some y) None) (message_by w j what)
        own_pending b e t split (event.Send to m tag ctx len how own) at =
            ap (λ (b : Bool). cond b None (Some (record {
              place = own - 2;
              from = j;
              to = to;
              tag = tag;
              ctx = ctx;
              len = len;
            })))
            (gone to j m
            ∙ ap (λ (b : Bool). ((w to).taken j m || (w to).withdrawn j m) || (i == to && (b && n == m)))
            (eq_true j j refl))
            ∙ cut_here ((w to).taken j m || (w to).withdrawn j m)
          where
            cut_here : (b : Bool) →
                cond (b || (i == to && n == m)) None (Some (record {
                  place = own - 2;
                  from = j;
                  to = to;
                  tag = tag;
                  ctx = ctx;
                  len = len;
                }))
                ≡ option_and_then (λ (y : Message). cond (not (y.place == place)) (Some y) None)
                (cond b None (Some (record {
                  place = own - 2;
                  from = j;
                  to = to;
                  tag = tag;
                  ctx = ctx;
                  len = len;
                })))
            cut_here true = refl
            cut_here false =
                cut false (i == to && n == m) ((own - 2) == place) (record {
                  place = own - 2;
                  from = j;
                  to = to;
                  tag = tag;
                  ctx = ctx;
                  len = len;
                }) (this_line b e t split to m tag ctx len how own at)
        own_pending b e t split what at = refl

        pub outgoing_taken : (k : ℕ) →
            filter_map (λ (e : Event). message_by v k e.what) (history_in before k)
            ≡ cond (j == k)
            (filter (λ x. not (x.place == place))
            (filter_map (λ (e : Event). message_by w k e.what) (history_in before k)))
            (filter_map (λ (e : Event). message_by w k e.what) (history_in before k))
        outgoing_taken k = by_rank (j == k) refl
          where
            of_sender : filter_map (λ (e : Event). message_by v j e.what) (history_in before j)
                ≡ filter (λ x. not (x.place == place))
                (filter_map (λ (e : Event). message_by w j e.what) (history_in before j))
            of_sender =
                kept_map (λ (e : Event). message_by w j e.what) (λ (e : Event). message_by v j e.what)
                (λ (x : Message). not (x.place == place)) (history_in before j)
                (by_splits (λ e. message_by v j e.what
                ≡ option_and_then (λ (y : Message). cond (not (y.place == place)) (Some y) None)
                (message_by w j e.what)) (history_in before j) [] (history_in before j) refl
                (λ b e t split. own_pending b e t split e.what refl))

            by_rank : (b : Bool) → (j == k) ≡ b →
                filter_map (λ (e : Event). message_by v k e.what) (history_in before k)
                ≡ cond b
                (filter (λ x. not (x.place == place))
                (filter_map (λ (e : Event). message_by w k e.what) (history_in before k)))
                (filter_map (λ (e : Event). message_by w k e.what) (history_in before k))
            by_rank true same =
                subst (λ (k : ℕ). filter_map (λ (e : Event). message_by v k e.what) (history_in before k)
                ≡ filter (λ x. not (x.place == place))
                (filter_map (λ (e : Event). message_by w k e.what) (history_in before k))) (same_number j k same)
                of_sender
            by_rank false other =
                filter_map_same (λ (e : Event). message_by v k e.what) (λ (e : Event). message_by w k e.what)
                (history_in before k)
                (all_of (λ e. message_by v k e.what ≡ message_by w k e.what) (history_in before k)
                (λ e. other_pending k other e.what))
