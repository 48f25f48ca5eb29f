-- The next piece goes, and a message that was sent by asking leaves with its last one.
use Rattle.std.proofs.Common.{◌≡◌, ℕ, ◌+◌, ◌*◌, ◌<◌, ◌≤◌, ◌==◌, Bool, true, false, not, ◌&&◌, cond}
use Rattle.std.proofs.Common.{Option, Some, None, List, [], ◌∷◌, ◌++◌, length, get_or, is_some, refl, sym}
use Rattle.std.proofs.Common.{◌∙◌, ap, subst, arith}
use Rattle.std.specs.Prelude.{nat_lt, option_and_then, option_map, IfSome, IsSome}
use Rattle.std.specs.Option.{option_map_or}
use Rattle.std.specs.Bool.{then_some}
use Rattle.std.proofs.Math.ListN.{set}
use Rattle.std.proofs.lemmas.Bool.Decides.{nat_tests}
use Rattle.std.proofs.lemmas.List.{get_or_read, length-set}
use Rattle.nm_types.specs.Bodies.{body_len}
use Rattle.nm_types.specs.declared.limits.TheConstants.{MAX_BODY, MAX_PIECE}
use Rattle.nm_history.specs.declared.events.Event.{Event}
use Rattle.nm_history.specs.declared.events.Happened.TheVariants as event
use Rattle.nm_history.specs.Delivery.{is_asked}
use Rattle.nm_history.specs.Sends.{sends, is_ask}
use Rattle.nm_history.proofs.Basic.{or_false}
use Rattle.nm_history.specs.Clearance.{pushed_out}
use Rattle.nm_history.specs.Continues.{has}
use Rattle.nm_history.specs.Effects.{is_empty_send}
use Rattle.nm_history.specs.Happens.{at}
use Rattle.nm_rndv.specs.Cuts.{Cut, rest_of}
use Rattle.nm_rndv.specs.declared.asked.State.{State}
use Rattle.nm_rndv.specs.declared.asked.State.TheVariants.{Cleared}
use Rattle.nm_rndv.specs.Offers.{Destined, untold, destined, state_of, state_at, recall_in, leaves}
use Rattle.nm_rndv.specs.Offers.{is_leaving}
use Rattle.nm_rndv.specs.Offers.{first_leaving, with_step, with_popped, after_piece, leaving_or_out, is_out}
use Rattle.nm_rndv.specs.Offers.{Offered, Offering, next_in, next_offered, offered_of, out_by_piece}
use Rattle.nm_sending.specs.declared.TheConstants.{MAX_MESSAGES}
use Rattle.nm_sending.specs.declared.departures.Departure.{Departure}
use Rattle.nm_sending.specs.Departures.{SendingView, with_departure, departures_to}
use Rattle.nm_sending.specs.Departures.{passes}
use Rattle.nm_sending.specs.Departures.{cleared_to, pushed_to}
use Rattle.nm_sending.specs.Sent.{Preserves}
use Rattle.nm_sending.specs.Tables.{TablesAgree, IsStateOf, allowance, allowed, recall_of, waits}
use Rattle.nm_sending.proofs.EventLemmas.{left_some, sends-same, pushed_out-push}
use Rattle.nm_sending.proofs.LeavingLemmas.{turn-still, turn-pop}
use Rattle.nm_sending.proofs.OfferLemmas.{state-stepped, states-change}
use Rattle.nm_sending.proofs.PieceLemmas.{Leads, is_leading, leads, leads_within, allowed-step, allowed-at}
use Rattle.nm_sending.proofs.PlaceLemmas.{row-set}
use Rattle.nm_sending.proofs.SentLemmas.{keeps-one, keeps-none, right-out, sent-out, sent-offers}
use Rattle.nm_sending.proofs.TableLemmas.{Change, change-steps, change-lens, change-waiting}
use Rattle.nm_sending.proofs.TableLemmas.{change-none, row_there}
use Rattle.nm_sending.proofs.TableLemmas.{tables-change, asked-states, recalls-still, unanswered-at, is_at}
use Rattle.nm_sending.proofs.TableLemmas.{or_nothing, out-counted, unchanged}
use Rattle.nm_sending.proofs.WaitingLemmas.{weight}
use Rattle.nm_types.proofs.NumberLemmas.{same_number}
use Rattle.nm_types.proofs.ListLemmas.{find_passes}

-- a message that was sent by asking waits for no packet
pub asked_waits : (d : Departure) → is_ask d.how ≡ true → waits d ≡ false
asked_waits d asked = ap (λ (b : Bool). not b && not d.out) asked

-- a piece that goes is one less that may go
pub allowance-less : (cut : Cut) (len : ℕ) → body_len cut.body ≡ len → len ≤ MAX_BODY
    → MAX_PIECE * cut.popped < len
    → allowance (leaving_or_out (rest_of cut)) + 1 ≤ allowance (Cleared cut)
allowance-less cut len is short left = by_test
    (nat_lt (MAX_PIECE * (cut.popped + 1)) (body_len cut.body)) where
      by_test : (b : Bool)
          → allowance (leaving_or_out (cond b
          (Some (record { body = cut.body; popped = cut.popped + 1 })) None)) + 1
          ≤ allowance (Cleared cut)
      by_test true = omega (arith, short, left)
      by_test false = omega (arith, short, left)

-- what is left after a piece, if that was not the last
pub record More (cut rest : Cut) : Type 0 where
  pub body : rest.body ≡ cut.body
  pub left : MAX_PIECE * rest.popped < body_len cut.body

pub rest_more : (cut : Cut) (rest : Cut) → rest_of cut ≡ Some rest → More cut rest
rest_more cut rest is = by_test (nat_lt (MAX_PIECE * (cut.popped + 1)) (body_len cut.body)) refl is where
  by_test : (b : Bool) → nat_lt (MAX_PIECE * (cut.popped + 1)) (body_len cut.body) ≡ b
      → cond b (Some (record { body = cut.body; popped = cut.popped + 1 })) None ≡ Some rest → More cut rest
  by_test false e is = absurd cc
  by_test true e is =
      let same : ◌≡◌ {A = Cut} (record { body = cut.body; popped = cut.popped + 1 }) rest = cc in
      subst (λ (r : Cut). More cut r) same
      (record { body = refl; left = below (MAX_PIECE * (cut.popped + 1)) (body_len cut.body) e })
    where
      below : (x y : ℕ) → nat_lt x y ≡ true → x < y
      below x y h = grind (arith, nat_tests)

-- the first message that leaves
pub leading_leaves : (old : SendingView) (m : ℕ × ℕ) → first_leaving old.offers ≡ Some m
    → leaves old.offers.destinations m ≡ true
leading_leaves old m first = find_passes (leaves old.offers.destinations) old.offers.order m first

pub leading : (me ranks : ℕ) (old : SendingView) → TablesAgree me ranks old → (m : ℕ × ℕ)
    → first_leaving old.offers ≡ Some m → Leads old m
leading me ranks old tables m first = leads me ranks old tables m (leading_leaves old m first)

pub leading_within : (me ranks : ℕ) (old : SendingView) → TablesAgree me ranks old → (m : ℕ × ℕ)
    → first_leaving old.offers ≡ Some m → m.0 < ranks
leading_within me ranks old tables m first = leads_within me ranks old tables m (leading_leaves old m first)

module _ (me ranks : ℕ) (old : SendingView) (tables : TablesAgree me ranks old) (to n : ℕ)
    (first : first_leaving old.offers ≡ Some (to, n)) (lead : Leads old (to, n)) (within : to < ranks) where
  inside : to < length old.offers.destinations
  inside = omega (arith, within, tables.offers)

  -- which message the piece is the last one of
  pub popped_out : option_and_then (out_by_piece old.offers) (first_leaving old.offers)
      ≡ then_some (is_out (leaving_or_out (rest_of lead.cut))) (to, n)
  popped_out =
      ap (λ (o : Option (ℕ × ℕ)). option_and_then (out_by_piece old.offers) o) first
      ∙ ap (λ (s : Option State). then_some (option_map_or (λ x. is_out (after_piece x)) s false) (to, n))
      lead.state

  -- there is room for its number
  pub few_pushed : pushed_to old to + 1 ≤ 1024 * MAX_MESSAGES
  few_pushed =
      let some' = allowed-at (destined old.offers to) n (Cleared lead.cut) lead.state in
      let less = allowance-less lead.cut lead.departure.len lead.offer.0 lead.offer.1 lead.offer.4 in
      let all = tables.pieces to in
      let few = tables.few to in
      omega (arith, some', less, all, few)

  module _ (rows : List (List Departure)) (staying : ℕ) where
    abbrev pub after : SendingView
    after = record {
      outbox = old.outbox;
      offers = with_popped old.offers (to, n);
      departures = rows;
      pushed = set old.pushed to (pushed_to old to + 1);
      staying = staying;
    }

    abbrev pub next : State
    next = leaving_or_out (rest_of lead.cut)

    abbrev d'' : Destined
    d'' = with_step (destined old.offers to) n after_piece

    states : (t k : ℕ) → state_of after.offers t k
        ≡ cond (is_at to n t k) (Some next) (state_of old.offers t k)
    states = states-change old.offers.destinations to inside d'' n next
        (state-stepped (destined old.offers to) n after_piece (Cleared lead.cut) lead.state)

    leaves-after : (t k : ℕ) → leaves after.offers.destinations (t, k)
        ≡ cond (is_at to n t k) (is_leaving next) (leaves old.offers.destinations (t, k))
    leaves-after t k = ap (λ (s : Option State). option_map_or is_leaving s false) (states t k)
        ∙ by_test (is_at to n t k)
      where
        by_test : (b : Bool) → option_map_or is_leaving (cond b (Some next) (state_of old.offers t k)) false
            ≡ cond b (is_leaving next) (leaves old.offers.destinations (t, k))
        by_test true = refl
        by_test false = refl

    destined-after : (t : ℕ) → destined after.offers t ≡ cond (to == t) d'' (destined old.offers t)
    destined-after t = row-set old.offers.destinations to t d'' untold inside

    recalls : (t k : ℕ) → recall_in (destined after.offers t) k ≡ recall_in (destined old.offers t) k
    recalls t k = ap (λ (x : Destined). recall_in x k) (destined-after t) ∙ by_test (to == t) refl where
      by_test : (b : Bool) → (to == t) ≡ b
          → recall_in (cond b d'' (destined old.offers t)) k ≡ recall_in (destined old.offers t) k
      by_test true is = ap (λ (x : ℕ). recall_in (destined old.offers x) k) (same_number to t is)
      by_test false is = refl

    pieces : (t : ℕ) → pushed_to after t + allowed (destined after.offers t)
        ≤ 1024 * length (departures_to old t)
    pieces t =
        subst (λ (x : Destined). pushed_to after t + allowed x ≤ 1024 * length (departures_to old t))
        (sym (destined-after t))
        (subst (λ (x : ℕ). x + allowed (cond (to == t) d'' (destined old.offers t))
        ≤ 1024 * length (departures_to old t))
        (sym (row-set old.pushed to t (pushed_to old to + 1) 0 (omega (arith, within, tables.counts))))
        (by_test (to == t) refl))
      where
        one : allowed d'' + allowance (Cleared lead.cut) ≡ allowed (destined old.offers to) + allowance next
        one = allowed-step (destined old.offers to) n after_piece (Cleared lead.cut) lead.state

        less : allowance next + 1 ≤ allowance (Cleared lead.cut)
        less = allowance-less lead.cut lead.departure.len lead.offer.0 lead.offer.1 lead.offer.4

        by_test : (b : Bool) → (to == t) ≡ b
            → cond b (pushed_to old to + 1) (pushed_to old t) + allowed (cond b d'' (destined old.offers t))
            ≤ 1024 * length (departures_to old t)
        by_test true is =
            subst (λ (x : ℕ). pushed_to old to + 1 + allowed d'' ≤ 1024 * length (departures_to old x))
            (same_number to t is) (let all = tables.pieces to in omega (arith, one, less, all))
        by_test false is = tables.pieces t

    module _ (d : Departure) (change : Change old after to n lead.departure d)
        (how : d.how ≡ lead.departure.how)
        (recall : recall_of d ≡ recall_of lead.departure)
        (answer : (not d.recalled && is_some d.undone)
        ≡ (not lead.departure.recalled && is_some lead.departure.undone))
        (here : IsStateOf d (has (cleared_to old to) n) (Some next)) where
      pub pop-tables : staying + weight lead.departure ≡ old.staying + weight d → TablesAgree me ranks after
      pop-tables counted =
          tables-change old after to n lead.departure d change me ranks tables refl refl
          (length-set old.offers.destinations to d'') (length-set old.pushed to (pushed_to old to + 1))
          (λ t. tables.eager t ∙ sym (change-waiting old after to n lead.departure d change
          (asked_waits d (ap is_ask how ∙ lead.asked) ∙ sym (asked_waits lead.departure lead.asked)) t))
          (asked-states me ranks old after tables to n lead.departure d
          (change-steps old after to n lead.departure d change) false next (ap is_ask how ∙ lead.asked) states
          (λ t k. or_nothing (has (cleared_to old t) k) (is_at to n t k))
          (subst (λ (c : Bool). IsStateOf d c (Some next)) (sym (or_false (has (cleared_to old to) n))) here))
          tables.once
          (recalls-still me ranks old after tables to n lead.departure d lead.there recall recalls)
          (answer ∙ unanswered-at me ranks old tables to n lead.departure lead.there) counted pieces

    -- the message has pieces left
    pub more-tables : (rest : Cut) → rest_of lead.cut ≡ Some rest → rows ≡ old.departures → staying
        ≡ old.staying
        → TablesAgree me ranks after
    more-tables rest is same counted =
        let more = rest_more lead.cut rest is in
        pop-tables lead.departure (change-none old after to n lead.departure lead.there same) refl refl refl
        (subst (λ (o : Option Cut). IsStateOf lead.departure (has (cleared_to old to) n)
        (Some (leaving_or_out o))) (sym is) (
          ap body_len more.body ∙ lead.offer.0,
          lead.offer.1,
          lead.offer.2,
          lead.offer.3,
          subst (λ (x : ℕ). MAX_PIECE * rest.popped < x) lead.offer.0 more.left,
          lead.offer.5,
        ))
        (omega (arith, counted))

    pub more-kept : (rest : Cut) → rest_of lead.cut ≡ Some rest → rows ≡ old.departures → Preserves old after []
    more-kept rest is same = keeps-none old after (λ h was.
        sent-offers old after h same
        (turn-still old after h h (λ t. refl) was.in_turn refl (λ t. refl) still) was)
      where
        still : (t k : ℕ) → leaves after.offers.destinations (t, k) ≡ leaves old.offers.destinations (t, k)
        still t k = leaves-after t k
            ∙ ap (λ (b : Bool). cond (is_at to n t k) b (leaves old.offers.destinations (t, k)))
            (ap (λ (o : Option Cut). is_leaving (leaving_or_out o)) is
            ∙ sym (leading_leaves old (to, n) first))
            ∙ sym (unchanged (λ t k. leaves old.offers.destinations (t, k)) to n t k)

    module _ (none : rest_of lead.cut ≡ None)
        (now : rows ≡ with_departure old.departures to n (record lead.departure { out = true })) where
      pub last-change : Change old after to n lead.departure (record lead.departure { out = true })
      last-change = record {
        inside = row_there old.departures to n lead.departure lead.there;
        there = lead.there;
        rows = now;
      }

      pub last-counted : 0 < old.staying
      last-counted =
          out-counted old after to n lead.departure
          (record lead.departure { out = true }) last-change me ranks tables
          lead.offer.3 refl

      -- the message has left
      pub last-tables : staying + 1 ≡ old.staying → TablesAgree me ranks after
      last-tables counted =
          pop-tables (record lead.departure { out = true }) last-change refl refl refl
          (subst (λ (o : Option Cut). IsStateOf (record lead.departure { out = true })
          (has (cleared_to old to) n)
          (Some (leaving_or_out o))) (sym none) (lead.offer.2, refl))
          (let in' : weight lead.departure ≡ 1 = ap (λ (b : Bool). cond (not b) 1 0) lead.offer.3 in
          omega (arith, in', counted))

      pub last-kept : Preserves old after (event.Out to n ∷ [])
      last-kept = keeps-one old after (event.Out to n) (λ h stamp was.
          let e : Event = at stamp (event.Out to n) in
          let asked : is_asked (sends h to) n ≡ true =
          sym (was.asked to n) ∙ ap (λ (o : Option Departure). passes (λ x. is_ask x.how) o) lead.there
          ∙ lead.asked in
          let full : is_empty_send h to n ≡ false =
          sym (was.empty to n) ∙ ap (λ (o : Option Departure). passes (λ x. x.len == 0) o) lead.there
          ∙ has_bytes lead.departure.len (MAX_PIECE * lead.cut.popped) lead.offer.4 in (
            sent-out old after to n lead.departure (record lead.departure { out = true }) h stamp
                (change-steps old after to n lead.departure
                (record lead.departure { out = true }) last-change)
                (change-lens old after to n lead.departure (record lead.departure { out = true }) last-change)
                refl refl was refl refl refl
                (turn-pop old after h (h ++ e ∷ []) (λ t. sends-same h e t refl) was.in_turn to n refl first
                (tables.once to)
                (λ t. pushed_out-push h e t (sends-same h e t refl)
                ∙ ap (λ (ns : List ℕ). pushed_out h t ++ ns) (left_some h to n t asked full))
                (λ t k. leaves-after t k
                ∙ ap (λ (o : Option Cut). cond (is_at to n t k) (is_leaving (leaving_or_out o))
                (leaves old.offers.destinations (t, k))) none)),
            λ ranks. right-out old h to n ranks lead.departure lead.there lead.offer.3 was,
          ))
        where
          has_bytes : (len x : ℕ) → x < len → (len == 0) ≡ false
          has_bytes len x below = grind (arith, nat_tests)

-- the message whose last piece goes
pub record Last (ranks : ℕ) (old : SendingView) (to n : ℕ) : Type 0 where
  pub first : first_leaving old.offers ≡ Some (to, n)
  pub lead : Leads old (to, n)
  pub within : to < ranks
  pub none : rest_of lead.cut ≡ None

-- the message of which a piece goes, and more are left
pub record Goes (ranks : ℕ) (old : SendingView) : Type 0 where
  pub to : ℕ
  pub n : ℕ
  pub first : first_leaving old.offers ≡ Some (to, n)
  pub lead : Leads old (to, n)
  pub within : to < ranks
  pub rest : Cut
  pub more : rest_of lead.cut ≡ Some rest

module _ (me ranks : ℕ) (old : SendingView) (tables : TablesAgree me ranks old)
    (there : IsSome (next_offered old.offers)) (r : Option (ℕ × ℕ))
    (is : r ≡ option_and_then (out_by_piece old.offers) (first_leaving old.offers)) where
  pub last_of : (to n : ℕ) → r ≡ Some (to, n) → Last ranks old to n
  last_of to n some' =
      let m = is_leading old.offers there in
      let lead = leading me ranks old tables m.0 m.1 in
      let within = leading_within me ranks old tables m.0 m.1 in
      by_rest m.0 m.1 lead within (rest_of lead.cut) refl
      (sym (popped_out me ranks old tables m.0.0 m.0.1 m.1 lead within) ∙ sym is ∙ some')
    where
      by_rest : (m : ℕ × ℕ) → first_leaving old.offers ≡ Some m → (lead : Leads old m) → m.0 < ranks
          → (o : Option Cut) → rest_of lead.cut ≡ o → then_some (is_out (leaving_or_out o)) m ≡ Some (to, n)
          → Last ranks old to n
      by_rest m first lead within (Some rest) more found = absurd cc
      by_rest m first lead within None none found =
          let same : m ≡ (to, n) = cc in
          subst (λ (k : ℕ × ℕ). Last ranks old k.0 k.1) same
          (record { first = first; lead = lead; within = within; none = none })

  pub goes_on : r ≡ None → Goes ranks old
  goes_on none' =
      let m = is_leading old.offers there in
      let lead = leading me ranks old tables m.0 m.1 in
      let within = leading_within me ranks old tables m.0 m.1 in
      by_rest m.0 m.1 lead within (rest_of lead.cut) refl
      (sym (popped_out me ranks old tables m.0.0 m.0.1 m.1 lead within) ∙ sym is ∙ none')
    where
      by_rest : (m : ℕ × ℕ) → first_leaving old.offers ≡ Some m → (lead : Leads old m) → m.0 < ranks
          → (o : Option Cut) → rest_of lead.cut ≡ o → then_some (is_out (leaving_or_out o)) m ≡ None
          → Goes ranks old
      by_rest m first lead within (Some rest) more found =
          record { to = m.0; n = m.1; first = first; lead = lead; within = within; rest = rest; more = more }
      by_rest m first lead within None none found = absurd cc

-- the destination of the next piece
pub piece_to : (v : Offering) (p : Offered) (to n : ℕ) → Some p ≡ next_offered v → first_leaving v ≡ Some (to, n)
    → p.to ≡ to
piece_to v p to n next first =
    by_next (option_and_then next_in (state_at v.destinations (to, n)))
    (next ∙ ap (λ (x : Option (ℕ × ℕ)). option_and_then (offered_of v.destinations) x) first)
  where
    by_next : (x : Option (ℕ × List ℕ))
        → Some p ≡ option_map (λ y. record { to = to; n = n; at = y.0; bytes = y.1 }) x → p.to ≡ to
    by_next None is = absurd cc
    by_next (Some y) is =
        let same : p ≡ (record { to = to; n = n; at = y.0; bytes = y.1 }) = cc in ap (λ (x : Offered). x.to) same

-- the destination of the message that the next piece is of
pub message_to : (v : Offering) (o : Option (ℕ × ℕ)) (m : ℕ × ℕ) (to n : ℕ) → o ≡ Some m
    → o ≡ first_leaving v → first_leaving v ≡ Some (to, n) → m.0 ≡ to
message_to v o m to n some' front first = by_message (sym some' ∙ front ∙ first) where
  by_message : Some m ≡ Some (to, n) → m.0 ≡ to
  by_message is = cc

-- a count of pieces that is raised
pub count_raised : (items : List ℕ) (x y to : ℕ) → x ≡ to → x < length items → y ≡ get_or items x y
    → set items x (y + 1) ≡ set items to (get_or items to 0 + 1)
count_raised items x y to same below read =
    let is : y ≡ get_or items x 0 = get_or_read items x y below read 0 in
    ap (λ (k : ℕ). set items x (k + 1)) is ∙ ap (λ (k : ℕ). set items k (get_or items k 0 + 1)) same

-- what is so of the tables after a piece, as the calls left them
pub popped_view : (P : SendingView → Type 0) (old : SendingView) (to n : ℕ) (rows : List (List Departure))
    (staying : ℕ) (offers : Offering) (pushed : List ℕ) → offers ≡ with_popped old.offers (to, n)
    → pushed ≡ set old.pushed to (pushed_to old to + 1)
    → P (record {
      outbox = old.outbox;
      offers = with_popped old.offers
          (to, n);
      departures = rows;
      pushed = set old.pushed to (pushed_to old to + 1);
      staying = staying;
    })
    → P (record {
      outbox = old.outbox;
      offers = offers;
      departures = rows;
      pushed = pushed;
      staying = staying;
    })
popped_view P old to n rows staying offers pushed popped raised p =
    subst (λ (x : Offering). P (record
    { outbox = old.outbox; offers = x; departures = rows; pushed = pushed; staying = staying }))
    (sym popped)
    (subst (λ (x : List ℕ). P (record {
      outbox = old.outbox;
      offers = with_popped old.offers
          (to, n);
      departures = rows;
      pushed = x;
      staying = staying;
    }))
    (sym raised) p)

-- where there is a next piece, its number is within the limit
pub next_pushes : (me ranks : ℕ) (old : SendingView) → TablesAgree me ranks old → (p : Offered)
    → Some p ≡ next_offered old.offers → (p.to < ranks) × (pushed_to old p.to + 1 ≤ 1024 * MAX_MESSAGES)
next_pushes me ranks old tables p next =
    let there : IsSome (next_offered old.offers) = subst (λ (x : Option Offered). IsSome x) next refl in
    let m = is_leading old.offers there in
    let within = leading_within me ranks old tables m.0 m.1 in
    let few = few_pushed me ranks old tables m.0.0 m.0.1 m.1 (leading me ranks old tables m.0 m.1) within in
    let to : p.to ≡ m.0.0 = piece_to old.offers p m.0.0 m.0.1 next m.1 in
    (omega (arith, to, within), subst (λ (x : ℕ). pushed_to old x + 1 ≤ 1024 * MAX_MESSAGES) (sym to) few)

-- a piece of the first message that leaves was popped
pub offers_popped : (old : SendingView) (to n : ℕ) → first_leaving old.offers ≡ Some (to, n)
    → IfSome (first_leaving old.offers) (λ m. with_popped old.offers (to, n) ≡ with_popped old.offers m)
offers_popped old to n first =
    subst (λ (o : Option (ℕ × ℕ)). IfSome o (λ m. with_popped old.offers (to, n) ≡ with_popped old.offers m))
    (sym first) refl

-- and it counts for that message's rank
pub count_pushed : (old : SendingView) (to n : ℕ) → first_leaving old.offers ≡ Some (to, n)
    → IfSome (first_leaving old.offers) (λ m.
    set old.pushed to (pushed_to old to + 1) ≡ set old.pushed m.0 (pushed_to old m.0 + 1))
count_pushed old to n first =
    subst (λ (o : Option (ℕ × ℕ)). IfSome o (λ m.
    set old.pushed to (pushed_to old to + 1) ≡ set old.pushed m.0 (pushed_to old m.0 + 1)))
    (sym first) refl
