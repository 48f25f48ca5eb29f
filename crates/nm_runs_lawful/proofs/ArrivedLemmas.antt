-- A message that came is the one that was sent under its number. MPI 3.1, 3.5.
use Rattle.std.proofs.Common.{◌≡◌, ◌⊎◌, inl, inr, ℕ, ◌-◌, ◌<◌, ◌==◌, Bool, true, cond, Some}
use Rattle.std.proofs.Common.{List, [], ◌∷◌, ◌++◌, get_or, length, refl, sym, ◌∙◌, ap, subst, arith, append-nil}
use Rattle.std.proofs.Common.{append_assoc}
use Rattle.std.specs.Prelude.{Contains}
use Rattle.std.specs.List.{cons_option, filter, filter_map, slice_get}
use Rattle.std.proofs.lemmas.Option.{get_or_from_slice_get}
use Rattle.std.proofs.lemmas.List.Elements.{Contains-push_cases}
use Rattle.nm_types.specs.declared.messages.Arrival.{Arrival}
use Rattle.nm_types.specs.declared.messages.Envelope.{Envelope}
use Rattle.nm_types.specs.declared.messages.How.{How}
use Rattle.nm_types.specs.declared.scripts.Line.{Line}
use Rattle.nm_types.specs.Sizes.{Sizes}
use Rattle.nm_types.proofs.ListLemmas.{get_behind}
use Rattle.nm_types.proofs.NumberLemmas.{eq_true}
use Rattle.nm_types.proofs.OptionLemmas.{same_some}
use Rattle.nm_history.specs.declared.events.Event.{Event}
use Rattle.nm_history.specs.declared.events.Happened.{Happened}
use Rattle.nm_history.specs.declared.events.Happened.TheVariants as event
use Rattle.nm_history.specs.Quiescence.{Ended, Packets}
use Rattle.nm_history.specs.RankRun.{NumberAt}
use Rattle.nm_history.specs.Sends.{Arrived, Sent, arrival_of, arrivals, arrived_of, envelope, messages, sends}
use Rattle.nm_history.proofs.AppendLemmas.{arrivals-append}
use Rattle.nm_history.proofs.AtEachLemmas.{AtEach-from_splits}
use Rattle.nm_history.proofs.OnceLemmas.{messages-push}
use Rattle.nm_match.specs.Deeds.{is_known_message}
use Rattle.nm_outcomes.specs.Logs.{Step, history_in}
use Rattle.nm_outcomes.specs.Places.{RankPoint}
use Rattle.nm_outcomes.proofs.Bodies.{came_known}
use Rattle.nm_outcomes.proofs.HappenedLemmas.{history_induction}
use Rattle.nm_outcomes.proofs.LogLemmas.{all_delivered}
use Rattle.nm_sure.proofs.Flown.{sent_at}
use Rattle.nm_lawful.specs.declared.messages.Message.{Message}
use Rattle.nm_lawful.specs.Moves.{Report}
use Rattle.nm_runs_lawful.specs.Stands.{IsSoFar, IsRunTold, message_at}
use Rattle.nm_runs_lawful.proofs.KnownLemmas.{known_sender, rank_within}
use Rattle.nm_runs_lawful.proofs.OnceLemmas.{number_at}
use Rattle.nm_runs_lawful.proofs.UniqueLemmas.{line_of_send, send_stands, sent_as}

-- the event by which a message came
pub record HasCome (h : List Event) (a : Arrival) : Type 0 where
  pub b : List Event
  pub e : Event
  pub t : List Event
  pub split : h ≡ b ++ e ∷ t
  pub comes : e.what ≡ event.Arrive a

pub has_come : (h : List Event) (a : Arrival) → Contains (messages h) a → HasCome h a
has_come h a =
    history_induction (λ b e. Unit {0}) (λ h. Contains (messages h) a → HasCome h a)
    (λ h e was any inside. grow h e was inside)
    (λ inside. absurd (omega (arith, inside.1))) h (AtEach-from_splits (λ b e. Unit {0}) h (λ b e t split. tt))
  where
    grow : (h : List Event) (e : Event) → (Contains (messages h) a → HasCome h a) →
        Contains (messages (h ++ e ∷ [])) a → HasCome (h ++ e ∷ []) a
    grow h e was inside =
        by_event e.what refl (subst (λ (xs : List Arrival). Contains xs a) (messages-push h e) inside)
      where
        earlier : HasCome h a → HasCome (h ++ e ∷ []) a
        earlier found =
            record {
              b = found.b;
              e = found.e;
              t = found.t ++ e ∷ [];
              split = ap (λ (k : List Event). k ++ e ∷ []) found.split ∙ append_assoc found.b (found.e ∷ found.t) (e
                  ∷ []);
              comes = found.comes;
            }

        by_place : (x : Arrival) → e.what ≡ event.Arrive x → Contains (messages h) a ⊎ (x ≡ a) → HasCome (h ++ e ∷ []) a
        by_place x at (inl front) = earlier (was front)
        by_place x at (inr last) =
            record { b = h; e = e; t = []; split = refl; comes = at ∙ ap (λ (y : Arrival). event.Arrive y) last }

        by_event : (what : Happened) → e.what ≡ what → Contains (messages h ++ cons_option (arrival_of what) []) a →
            HasCome (h ++ e ∷ []) a
        by_event (event.Arrive x) at inside = by_place x at (Contains-push_cases (messages h) x a inside)
        by_event what at inside =
            earlier (was (subst (λ (xs : List Arrival). Contains xs a) (append-nil (messages h)) inside))

module _ (shape : Sizes) (lines : List Line) (ranks : List Ended) (packets : List Packets) (told : Report)
    (is : IsRunTold shape lines ranks packets told) (before : List Step) (later : List Step)
    (w : ℕ → RankPoint) (next : IsSoFar shape lines ranks before later w)
  where
    -- the message of a send that has the envelope of an arrival
    pub message_sent : (i : ℕ) (a : Arrival) → ((x : Sent) →
        slice_get (sends (history_in before a.env.from) i) a.n ≡ Some x → a.env ≡ envelope a.env.from x) →
        (b : List Event) (e : Event) (t : List Event) → history_in before a.env.from ≡ b ++ e ∷ t →
        (tag ctx len : ℕ) (how : How) (own : ℕ) → e.what ≡ event.Send i a.n tag ctx len how own →
        ◌≡◌ {A = Message} (record { place = own - 2; from = a.env.from; to = i; tag = tag; ctx = ctx; len = len })
        (message_at w i a)
    message_sent i a env_is b e t split tag ctx len how own at =
        let env = env_is (sent_as e i a.n tag ctx len how own)
        (send_stands shape lines ranks packets told is before later w next a.env.from b e t split i a.n tag ctx len
        how own
        at) in
        let line : get_or ((w a.env.from).lines i) a.n 0 ≡ own = get_or_from_slice_get ((w a.env.from).lines i) a.n
        own 0
        (line_of_send shape lines ranks packets told is before later w next a.env.from b e t split i a.n tag ctx len
        how own
        at) in
        let one : a.env.tag ≡ tag = ap (λ (x : Envelope). x.tag) env in
        let two : a.env.ctx ≡ ctx = ap (λ (x : Envelope). x.ctx) env in
        let three : a.env.len ≡ len = ap (λ (x : Envelope). x.len) env in
        ap (λ (l : ℕ). record { place = l - 2; from = a.env.from; to = i; tag = tag; ctx = ctx; len = len }) (sym line)
        ∙ ap (λ (x : ℕ). record {
          place = get_or ((w a.env.from).lines i) a.n 0 - 2;
          from = a.env.from;
          to = i;
          tag = x;
          ctx = ctx;
          len = len;
        }) (sym one)
        ∙ ap (λ (x : ℕ). record {
          place = get_or ((w a.env.from).lines i) a.n 0 - 2;
          from = a.env.from;
          to = i;
          tag = a.env.tag;
          ctx = x;
          len = len;
        }) (sym two)
        ∙ ap (λ (x : ℕ). record {
          place = get_or ((w a.env.from).lines i) a.n 0 - 2;
          from = a.env.from;
          to = i;
          tag = a.env.tag;
          ctx = a.env.ctx;
          len = x;
        }) (sym three)

    -- .. has its envelope by its send
    module _ (i : ℕ) (a : Arrival) (inside : Contains (messages (history_in before i)) a) where
      abbrev j : ℕ
      j = a.env.from

      come : HasCome (history_in before i) a
      come = has_come (history_in before i) a inside

      number : a.n ≡ length (arrivals come.b j)
      number =
          (subst (λ (what : Happened). NumberAt shape.ranks come.b what) come.comes
          (number_at shape lines ranks packets told is before later w next i come.b come.e come.t come.split)).1

      abbrev arrived : Arrived
      arrived = record { stamp = come.e.stamp; arrival = a }

      stands : slice_get (arrivals (history_in before i) j) a.n ≡ Some arrived
      stands =
          ap (λ (k : List Event). slice_get (arrivals k j) a.n) come.split
          ∙ ap (λ (xs : List Arrived). slice_get xs a.n)
          (arrivals-append come.b (come.e ∷ come.t) j
          ∙ ap (λ (what : Happened). arrivals come.b j ++ filter (λ a. a.arrival.env.from == j)
          (cons_option (arrived_of come.e.stamp what)
          (filter_map (λ (e : Event). arrived_of e.stamp e.what) come.t))) come.comes
          ∙ ap (λ (own : Bool). arrivals come.b j ++ cond own (arrived ∷ arrivals come.t j) (arrivals come.t j))
          (eq_true j j refl))
          ∙ ap (λ (k : ℕ). slice_get (arrivals come.b j ++ arrived ∷ arrivals come.t j) k) number
          ∙ get_behind (arrivals come.b j) (arrivals come.t j) arrived

      known : is_known_message (history_in before i) j a.n ≡ true
      known = came_known (history_in before i) a inside

      pub sender_within : a.env.from < shape.ranks
      sender_within = known_sender shape lines ranks packets told is before later w next i j a.n known

      low : i < shape.ranks
      low = by_rank (rank_within shape lines ranks packets told is before later w next i)
        where
          by_rank : (history_in before i ≡ []) ⊎ (i < shape.ranks) → i < shape.ranks
          by_rank (inl none) =
              let empty = subst (λ (h : List Event). Contains (messages h) a) none inside in
              absurd (omega (arith, empty.1))
          by_rank (inr low) = low

      pub receiver_within : i < shape.ranks
      receiver_within = low

      pub env_is : (x : Sent) → slice_get (sends (history_in before a.env.from) i) a.n ≡ Some x →
          a.env ≡ envelope a.env.from x
      env_is x here =
          let sent = sent_at j (sends (history_in before j) i) (arrivals (history_in before i) j) a.n arrived
          (all_delivered shape lines before next.log j i sender_within low).messages stands in
          sent.2 ∙ ap (envelope j) (same_some sent.0 x (sym sent.1 ∙ here))

      -- the message of its send is the machine's
      pub message_is : (b : List Event) (e : Event) (t : List Event) → history_in before a.env.from ≡ b ++ e ∷ t →
          (tag ctx len : ℕ) (how : How) (own : ℕ) → e.what ≡ event.Send i a.n tag ctx len how own →
          ◌≡◌ {A = Message} (record { place = own - 2; from = a.env.from; to = i; tag = tag; ctx = ctx; len = len })
          (message_at w i a)
      message_is = message_sent i a env_is
