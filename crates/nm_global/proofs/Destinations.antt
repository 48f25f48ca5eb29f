-- The messages to one rank, where those of some destination change.
use Rattle.std.proofs.Common.{◌≡◌, ℕ, ◌==◌, inl, inr, Bool, true, false, cond, Option, Some, None}
use Rattle.std.proofs.Common.{List, [], ◌∷◌, ◌++◌, length, map, refl, sym, ◌∙◌, ap, subst, IsSome}
use Rattle.std.proofs.Common.{nat_eq, option_map, append-nil, filter}
use Rattle.std.specs.Map.{lookup, set_value}
use Rattle.std.specs.Option.{option_map_or, option_or}
use Rattle.std.proofs.lemmas.List.{length-set, map-append}
use Rattle.std.proofs.lemmas.List.Elements.{filter-append}
use Rattle.nm_types.specs.declared.packets.Piece.{Piece}
use Rattle.nm_types.specs.declared.scripts.Body.{Body}
use Rattle.nm_history.specs.declared.events.Event.{Event}
use Rattle.nm_history.specs.Sends.{Sent, sends}
use Rattle.nm_history.specs.Continues.{has}
use Rattle.nm_history.proofs.Basic.{self_true}
use Rattle.nm_rndv.specs.declared.asked.State.{State}
use Rattle.nm_rndv.specs.declared.asked.State.TheVariants.{Asked, Cleared, Out, Withdrawn}
use Rattle.nm_rndv.specs.Offers.{Destined, Offering, after_clearance, after_piece, destined}
use Rattle.nm_rndv.specs.Offers.{after_withdrawal, state_in, state_of, untold, with_answer, with_asked}
use Rattle.nm_rndv.specs.Offers.{with_clearance}
use Rattle.nm_rndv.specs.Offers.{with_destined, with_popped, with_recall, with_step}
use Rattle.nm_rndv.proofs.StateLemmas.{asked-with_step, equal, state-set_value, state-with_step}
use Rattle.nm_sending.specs.Departures.{cleared_to}
use Rattle.nm_rank.specs.Ranks.{RankView}
use Rattle.nm_global.specs.Emitted.{ArePiecesLeft, IsBody, IsOffered, first_of, sent_in}
use Rattle.nm_global.proofs.Turns.{at-set}
use Rattle.nm_global.proofs.Offers.{Goes, Lasts, Quiet, by_number, lasts-append, leaves_now, quiet_goes}
use Rattle.nm_global.proofs.Steps.{Stepped, clear_goes}
use Rattle.nm_types.proofs.NumberLemmas.{same_number, nat_unequal as unlike}
use Rattle.nm_history.proofs.AppendLemmas.{sends-append}

-- the messages to a rank that were cleared
abbrev pub cleared_in : Offering → ℕ → List ℕ
cleared_in o to = map (λ (m : ℕ × ℕ). m.1) (filter (λ (m : ℕ × ℕ). m.0 == to) o.order)

-- the pieces that left a rank, and its history grows
pub record Grows (bodies : Sent → List ℕ) (v v' : RankView) (to : ℕ) (pieces : List Piece) : Type 0 where
  pub are : ArePiecesLeft bodies v to pieces
  pub own : v'.me ≡ v.me
  pub more : List Event
  pub events : v'.events ≡ v.events ++ more

-- the messages to a rank go on with these offers
pub record Going (bodies : Sent → List ℕ) (v v' : RankView) (to : ℕ) (o' : Offering) : Type 0 where
  pub many : length o'.destinations ≡ length v.sending.offers.destinations
  pub goes :
      Goes bodies (sends v.events to) (state_of v.sending.offers to) (cleared_to v.sending to)
      (sends v'.events to) (state_of o' to) (cleared_in o' to)

-- the states of a destination after a step of one message
state_stepped : (d : Destined) (n : ℕ) (step : State → State) →
    Stepped (state_in d) (state_in (with_step d n step)) n step
state_stepped d n step = by (state_in d n) refl where
  by : (o : Option State) → state_in d n ≡ o → Stepped (state_in d) (state_in (with_step d n step)) n step
  by None was =
      let same : (q : ℕ) → state_in (with_step d n step) q ≡ state_in d q =
      λ q. ap (λ (o : Option State). lookup (nat_eq q)
      (option_map_or (λ s. set_value (nat_eq n) d.asked (step s)) o d.asked)) was in
      record { here = same n ∙ was ∙ sym (ap (option_map step) was); others = λ q other. same q }
  by (Some s) was =
      let set = state-set_value d (with_step d n step) n s (step s) was
      (asked-with_step d (with_step d n step) n step s was refl) in
      record {
        here = state-with_step d (with_step d n step) n step s was refl ∙ sym (ap (option_map step) was);
        others = λ q other. set q
            ∙ ap (λ (b : Bool). cond b (Some (step s)) (state_in d q)) (unlike n q other);
      }

-- a look-up after one entry more
lookup_push : (q n : ℕ) (x : State) (es : List (ℕ × State)) →
    lookup (nat_eq q) (es ++ (n, x) ∷ [])
    ≡ option_or (lookup (nat_eq q) es) (cond (nat_eq q n) (Some x) None)
lookup_push q n x [] = refl
lookup_push q n x (e ∷ es) = by (nat_eq q e.0) (lookup_push q n x es) where
  by : (b : Bool) →
      lookup (nat_eq q) (es ++ (n, x) ∷ [])
      ≡ option_or (lookup (nat_eq q) es) (cond (nat_eq q n) (Some x) None) →
      cond b (Some e.1) (lookup (nat_eq q) (es ++ (n, x) ∷ []))
      ≡ option_or (cond b (Some e.1) (lookup (nat_eq q) es)) (cond (nat_eq q n) (Some x) None)
  by true rest = refl
  by false rest = rest

module _ {bodies : Sent → List ℕ} {v v' : RankView} {to : ℕ} {pieces : List Piece}
    (g : Grows bodies v v' to pieces) where
  abbrev o : Offering
  o = v.sending.offers

  abbrev ss : List Sent
  ss = sends v.events to

  abbrev ss' : List Sent
  ss' = sends v'.events to

  abbrev st : ℕ → Option State
  st = state_of v.sending.offers to

  abbrev cleared : List ℕ
  cleared = cleared_to v.sending to

  -- what was sent to the rank lasts
  pub lasts : Lasts ss ss'
  lasts =
      subst (λ (xs : List Sent). Lasts ss xs)
      (sym (ap (λ (h : List Event). sends h to) g.events ∙ sends-append v.events g.more to))
      (lasts-append ss (sends g.more to))

  at_to : (to' : ℕ) (d : Destined) (b : Bool) → (to' == to) ≡ b →
      destined (with_destined o to' d) to ≡ cond b d (destined o to)
  at_to to' d b is =
      at-set o.destinations to' to d untold g.are.known ∙ ap (λ (b : Bool). cond b d (destined o to)) is

  at_here : (d : Destined) → destined (with_destined o to d) to ≡ d
  at_here d = at_to to d true (self_true to)

  -- where no state changes
  states_stay : (d : Destined) → ((q : ℕ) → state_in d q ≡ st q) →
      Goes bodies ss st cleared ss' (state_in d) cleared
  states_stay d same =
      quiet_goes bodies ss st cleared g.are.offered ss' lasts (state_in d) (λ q. inl (same q))

  pub stay : Going bodies v v' to v.sending.offers
  stay = record { many = refl; goes = states_stay (destined o to) (λ q. refl) }

  -- where one destination is replaced
  replaced : (to' : ℕ) (d : Destined) →
      Goes bodies ss st cleared ss' (state_of (with_destined o to' d) to) cleared →
      Going bodies v v' to (with_destined o to' d)
  replaced to' d goes = record { many = length-set o.destinations to' d; goes = goes }

  -- another one than this rank's
  pub other_goes : (to' : ℕ) (d : Destined) → (to' == to) ≡ false →
      Going bodies v v' to (with_destined o to' d)
  other_goes to' d other =
      replaced to' d (states_stay (destined (with_destined o to' d) to)
      (λ q. ap (λ (x : Destined). state_in x q) (at_to to' d false other)))

  -- where something changes at some destination
  by_destination : (to' : ℕ) (f : Destined → Destined) →
      Goes bodies ss st cleared ss' (state_of (with_destined o to (f (destined o to))) to) cleared →
      Going bodies v v' to (with_destined o to' (f (destined o to')))
  by_destination to' f goes = by (to' == to) refl where
    by : (b : Bool) → (to' == to) ≡ b → Going bodies v v' to (with_destined o to' (f (destined o to')))
    by true same =
        subst (λ (t : ℕ). Going bodies v v' to (with_destined o t (f (destined o t))))
        (sym (same_number to' to same)) (replaced to (f (destined o to)) goes)
    by false other = other_goes to' (f (destined o to')) other

  -- where a message is recalled
  pub recall_goes : (to' n : ℕ) →
      Going bodies v v' to (with_destined o to' (with_recall (destined o to') n))
  recall_goes to' n =
      by_destination to' (λ (d : Destined). with_recall d n)
      (states_stay (destined (with_destined o to (with_recall (destined o to) n)) to)
      (λ q. ap (λ (d : Destined). state_in d q) (at_here (with_recall (destined o to) n))))

  -- where one message more is asked
  pub asked_goes : (n : ℕ) (body : Body) → IsBody bodies ss' n body → has cleared n ≡ false →
      Going bodies v v' to (with_destined o to (with_asked (destined o to) n body))
  asked_goes n body right new =
      replaced to (with_asked (destined o to) n body)
      (quiet_goes bodies ss st cleared g.are.offered ss' lasts
      (state_of (with_destined o to (with_asked (destined o to) n body)) to)
      (λ q. by q (st q) refl (nat_eq q n) refl))
    where
      seen : (q : ℕ) (x : Option State) → st q ≡ x →
          state_of (with_destined o to (with_asked (destined o to) n body)) to q
          ≡ option_or x (cond (nat_eq q n) (Some (Asked body)) None)
      seen q x was =
          ap (λ (d : Destined). state_in d q) (at_here (with_asked (destined o to) n body))
          ∙ lookup_push q n (Asked body) (destined o to).asked
          ∙ ap (λ (x : Option State). option_or x (cond (nat_eq q n) (Some (Asked body)) None)) was

      by : (q : ℕ) (x : Option State) → st q ≡ x → (b : Bool) → nat_eq q n ≡ b →
          Quiet bodies ss st cleared g.are.offered ss' lasts
          (state_of (with_destined o to (with_asked (destined o to) n body)) to) q
      by q (Some s) was b is = inl (seen q (Some s) was ∙ sym was)
      by q None was false is =
          inl (seen q None was ∙ ap (λ (b : Bool). cond b (Some (Asked body)) None) is ∙ sym was)
      by q None was true is =
          let now = seen q None was ∙ ap (λ (b : Bool). cond b (Some (Asked body)) None) is in
          inr (
            ap leaves_now was,
            ap leaves_now now,
            subst (λ (x : Option State). IsOffered bodies ss' cleared
                (first_of (state_of (with_destined o to (with_asked (destined o to) n body)) to) cleared) q x)
                (sym now)
                (subst (λ (k : ℕ). IsBody bodies ss' k body × (has cleared k ≡ false)) (sym (equal q n is))
                (right, new)),
          )

  stepped_here : (n : ℕ) (step : State → State) →
      Stepped st (state_of (with_destined o to (with_step (destined o to) n step)) to) n step
  stepped_here n step =
      subst (λ (d : Destined). Stepped st (state_in d) n step)
      (sym (at_here (with_step (destined o to) n step))) (state_stepped (destined o to) n step)

  -- where the recall of a message has its answer
  pub answer_goes : (to' n : ℕ) (done : Bool) →
      Going bodies v v' to (with_destined o to' (with_answer (destined o to') n done))
  answer_goes to' n false =
      by_destination to' (λ (d : Destined). with_answer d n false)
      (states_stay (destined (with_destined o to (with_answer (destined o to) n false)) to)
      (λ q. ap (λ (d : Destined). state_in d q) (at_here (with_answer (destined o to) n false))))
  answer_goes to' n true =
      by_destination to' (λ (d : Destined). with_answer d n true)
      (quiet_goes bodies ss st cleared g.are.offered ss' lasts
      (state_of (with_destined o to (with_answer (destined o to) n true)) to)
      (by_number (Quiet bodies ss st cleared g.are.offered ss' lasts
      (state_of (with_destined o to (with_answer (destined o to) n true)) to)) n
      (withdrawn (st n) refl (seen n ∙ (stepped_here n after_withdrawal).here))
      (λ q other. inl (seen q ∙ (stepped_here n after_withdrawal).others q other))))
    where
      seen : (q : ℕ) → state_of (with_destined o to (with_answer (destined o to) n true)) to q
          ≡ state_of (with_destined o to (with_step (destined o to) n after_withdrawal)) to q
      seen q =
          ap (λ (d : Destined). state_in d q) (at_here (with_answer (destined o to) n true))
          ∙ sym (ap (λ (d : Destined). state_in d q)
          (at_here (with_step (destined o to) n after_withdrawal)))

      withdrawn : (x : Option State) → st n ≡ x →
          state_of (with_destined o to (with_answer (destined o to) n true)) to n
          ≡ option_map after_withdrawal x →
          Quiet bodies ss st cleared g.are.offered ss' lasts
          (state_of (with_destined o to (with_answer (destined o to) n true)) to) n
      withdrawn None was is = inl (is ∙ sym was)
      withdrawn (Some (Asked body)) was is =
          inr (
            ap leaves_now was,
            ap leaves_now is,
            subst (λ (x : Option State). IsOffered bodies ss' cleared
                (first_of (state_of (with_destined o to (with_answer (destined o to) n true)) to) cleared)
                n x) (sym is) tt,
          )
      withdrawn (Some (Cleared cut)) was is = inl (is ∙ sym was)
      withdrawn (Some Out) was is = inl (is ∙ sym was)
      withdrawn (Some Withdrawn) was is = inl (is ∙ sym was)

  order_by : (from n : ℕ) (b : Bool) → (from == to) ≡ b →
      cleared_in (with_clearance o from n) to ≡ cleared ++ cond b (n ∷ []) []
  order_by from n b is =
      ap (λ (ms : List (ℕ × ℕ)). map (λ (m : ℕ × ℕ). m.1) ms)
      (filter-append (λ (m : ℕ × ℕ). m.0 == to) o.order ((from, n) ∷ [])
      ∙ ap (λ (b : Bool). filter (λ (m : ℕ × ℕ). m.0 == to) o.order ++ cond b ((from, n) ∷ []) []) is)
      ∙ map-append (λ (m : ℕ × ℕ). m.1) (filter (λ (m : ℕ × ℕ). m.0 == to) o.order)
      (cond b ((from, n) ∷ []) [])
      ∙ ap (λ (ns : List ℕ). cleared ++ ns) (by b)
    where
      by : (b : Bool) → map (λ (m : ℕ × ℕ). m.1) (cond b ((from, n) ∷ []) []) ≡ cond b (n ∷ []) []
      by true = refl
      by false = refl

  -- where a message is cleared, to this rank or to another
  pub clearance_goes : (from n : ℕ) → (from ≡ to → IsSome (sent_in ss' n)) →
      Going bodies v v' to (with_clearance o from n)
  clearance_goes from n sent =
      record {
        many = length-set o.destinations from (with_step (destined o from) n after_clearance);
        goes = by (from == to) refl;
      }
    where
      by : (b : Bool) → (from == to) ≡ b → Goes bodies ss st cleared ss'
          (state_of (with_clearance o from n) to) (cleared_in (with_clearance o from n) to)
      by false other =
          let kept = other_goes from (with_step (destined o from) n after_clearance) other in
          subst (λ (ns : List ℕ). Goes bodies ss st cleared ss' (state_of (with_clearance o from n) to) ns)
          (sym (order_by from n false other ∙ append-nil cleared)) kept.goes
      by true same =
          let here : from ≡ to = same_number from to same in
          subst (λ (t : ℕ). Goes bodies ss st cleared ss' (state_of (with_clearance o t n) to)
          (cleared_in (with_clearance o t n) to)) (sym here)
          (subst (λ (ns : List ℕ). Goes bodies ss st cleared ss' (state_of (with_clearance o to n) to) ns)
          (sym (order_by to n true (self_true to)))
          (clear_goes bodies ss st cleared g.are.offered ss' lasts (state_of (with_clearance o to n) to) n
          (sent here) (stepped_here n after_clearance)))

  -- the states of the messages to a rank, after a piece of one of them
  pub piece_state : (m : ℕ × ℕ) → m.0 ≡ to → Stepped st (state_of (with_popped o m) to) m.1 after_piece
  piece_state m here =
      subst (λ (t : ℕ). Stepped st
      (state_of (with_destined o t (with_step (destined o t) m.1 after_piece)) to) m.1 after_piece)
      (sym here) (stepped_here m.1 after_piece)
