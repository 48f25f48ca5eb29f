-- The packets that left a rank, and those in its outbox.
use Rattle.std.proofs.Common.{◌≡◌, ℕ, ◌+◌, ◌<◌, ◌≤◌, ◌==◌, Bool, true, false, cond, Option, Some}
use Rattle.std.proofs.Common.{None, List, [], ◌∷◌, ◌++◌, length, map, filter, set, refl, sym, ◌∙◌, ap, subst}
use Rattle.std.proofs.Common.{append_assoc, append-nil}
use Rattle.std.proofs.Common.{length-append, arith}
use Rattle.std.specs.List.{AllByRecursion}
use Rattle.std.proofs.lemmas.List.{length-set}
use Rattle.nm_types.specs.declared.packets.Packet.{Packet}
use Rattle.nm_history.specs.declared.events.Event.{Event}
use Rattle.nm_history.specs.declared.events.Happened.{Happened}
use Rattle.nm_history.specs.declared.events.Happened.TheVariants.{Whole, Out, Cancel, Undone, Claim, Ran}
use Rattle.nm_history.specs.Outgoing.{AreCalled, Called, outgoing, packets_by}
use Rattle.nm_history.specs.Sends.{Sent}
use Rattle.nm_history.proofs.OutgoingLemmas.{called-append}
use Rattle.nm_history.specs.Clock.{stamped}
use Rattle.nm_sending.specs.Letters.{Letter}
use Rattle.nm_sending.specs.Letters.{packets_for}
use Rattle.nm_sending.specs.Outboxes.{OutboxView, popped_to, put_to}
use Rattle.nm_sending.specs.Sent.{outs}
use Rattle.nm_rank.specs.Calls.{Happens, called_by}
use Rattle.nm_rank.specs.Ranks.{RankView}
use Rattle.nm_global.specs.Emitted.{ArePacketsLeft, Emitted, with_packet}
use Rattle.nm_global.proofs.Turns.{at-set, in_turn-append, turn-none}
use Rattle.nm_types.proofs.ListLemmas.{all_append, all_along}
use Rattle.nm_types.proofs.NumberLemmas.{same_number}
use Rattle.nm_sending.proofs.PutLemmas.{called_length}

called_as : {me me' : ℕ} {list list' : List Called} {packets packets' : List Packet} →
    me' ≡ me → list' ≡ list → packets' ≡ packets →
    AreCalled me 0 list packets → AreCalled me' 0 list' packets'
called_as own same are left = rw (own, same, are) left

-- what holds of the packet of each letter holds of the packets to a rank
letters_hold : (P : Packet → Type 0) (to : ℕ) (letters : List Letter) →
    AllByRecursion (λ l. P l.packet) letters → AllByRecursion P (packets_for to letters)
letters_hold P to [] each = tt
letters_hold P to (letter ∷ letters) each = by (letter.to == to) (letters_hold P to letters each.1) where
  by : (b : Bool) → AllByRecursion P (packets_for to letters) → AllByRecursion P
      (map (λ l. l.packet)
      (cond b (letter ∷ filter (λ l. l.to == to) letters) (filter (λ l. l.to == to) letters)))
  by true rest = (each.0, rest)
  by false rest = rest

-- packets of an earlier clock are so of a later one
pub still_early : {clock clock' : ℕ} {packets packets' : List Packet} → clock ≤ clock' → packets' ≡ packets →
    AllByRecursion (λ p. p.stamp ≤ clock) packets → AllByRecursion (λ p. p.stamp ≤ clock') packets'
still_early {clock} {clock'} {packets} {packets'} later same early =
    subst (AllByRecursion (λ (p : Packet). p.stamp ≤ clock')) (sym same)
    (all_along (λ p. p.stamp ≤ clock) (λ p. p.stamp ≤ clock') packets (λ p is. omega (arith, is, later)) early)

-- the packets to a rank of one letter, and of some letters followed by others
abbrev pub OfOne : Type 0
OfOne =
    (to : ℕ) (letter : Letter) →
    packets_for to (letter ∷ []) ≡ cond (letter.to == to) (letter.packet ∷ []) []

abbrev pub OfBoth : Type 0
OfBoth =
    (to : ℕ) (first rest : List Letter) →
    packets_for to (first ++ rest) ≡ packets_for to first ++ packets_for to rest

-- as many packets as left and are there were called for
pub count_is : (bodies : Sent → List ℕ) (v : RankView) (to : ℕ) (ps : List Packet) →
    ArePacketsLeft bodies v to ps →
    length (outgoing bodies v.events to) ≡ put_to v.sending.outbox to
count_is bodies v to ps left =
    called_length v.me 0 (outgoing bodies v.events to) (ps ++ packets_for to v.sending.outbox.letters)
    left.called
    ∙ length-append ps (packets_for to v.sending.outbox.letters)
    ∙ ap (λ (k : ℕ). k + length (packets_for to v.sending.outbox.letters)) left.popped

-- what happens puts the packets that it calls for
pub packets_happen : OfBoth → {bodies : Sent → List ℕ} {start : ℕ} {ws : List Happened}
    {v v' : RankView} {to : ℕ} {ps : List Packet} → v'.me ≡ v.me → v.clock ≤ start →
    Happens bodies start ws v v' →
    ArePacketsLeft bodies v to ps → ArePacketsLeft bodies v' to ps
packets_happen both {bodies} {start} {ws} {v} {v'} {to} {ps} own later happens left =
    let puts = happens.packets in
    let events : List Event = stamped start ws in
    let more : List Called = called_by bodies to v.events events in
    let here : List Packet = packets_for to v.sending.outbox.letters in
    let added : List Packet = packets_for to puts.added in
    let count = count_is bodies v to ps left in
    let number : 0 + length (outgoing bodies v.events to) ≡ put_to v.sending.outbox to =
    omega (arith, count) in
    let all : AreCalled v.me 0 (outgoing bodies v.events to ++ more) ((ps ++ here) ++ added) =
    called-append v.me 0 (outgoing bodies v.events to) more (ps ++ here) added left.called
    (rw (number, ← left.own) (puts.carried to)) in
    let placed : ps ++ packets_for to v'.sending.outbox.letters ≡ (ps ++ here) ++ added =
    ap (λ (ls : List Letter). ps ++ packets_for to ls) puts.letters
    ∙ ap (λ (qs : List Packet). ps ++ qs) (both to v.sending.outbox.letters puts.added)
    ∙ sym (append_assoc ps here added) in
    let clock = happens.clock in
    record {
      called = called_as own
          (ap (λ (h : List Event). outgoing bodies h to) happens.events
          ∙ in_turn-append (λ (h : List Event) (e : Event). packets_by bodies to h e.stamp e.what)
          v.events events) placed all;
      early = still_early {clock = v'.clock} (omega arith) placed
          (all_append (λ p. p.stamp ≤ v'.clock) (ps ++ here) added
          (still_early (omega (arith, clock, later)) refl left.early)
          (letters_hold (λ p. p.stamp ≤ v'.clock) to puts.added
          (all_along (λ l. l.packet.stamp ≡ v'.clock) (λ l. l.packet.stamp ≤ v'.clock) puts.added
          (λ l is. omega (arith, is)) puts.stamps)));
      popped = left.popped ∙ ap (λ (ks : List ℕ). popped_to (record v.sending.outbox { popped = ks }) to)
          (sym puts.popped);
      place = subst (λ (ks : List ℕ). to < length ks) (sym puts.popped) left.place;
      own = puts.me ∙ left.own ∙ sym own;
    }

-- an event that calls for no packet
abbrev pub is_silent : Happened → Bool
is_silent (Whole from n) = true
is_silent (Out to n) = true
is_silent (Cancel number done) = true
is_silent (Undone to n done) = true
is_silent (Claim from n line) = true
is_silent (Ran line answer) = true
is_silent _ = false

silent_calls : (bodies : Sent → List ℕ) (to : ℕ) (before : List Event) (stamp : ℕ) (w : Happened) →
    is_silent w ≡ true → packets_by bodies to before stamp w ≡ []
silent_calls bodies to before stamp (Whole from n) is = refl
silent_calls bodies to before stamp (Out to' n) is = refl
silent_calls bodies to before stamp (Cancel number done) is = refl
silent_calls bodies to before stamp (Undone to' n done) is = refl
silent_calls bodies to before stamp (Claim from n line) is = refl
silent_calls bodies to before stamp (Ran line answer) is = refl
silent_calls bodies to before stamp w is = cc

-- such events call for nothing more
pub outgoing_same : (bodies : Sent → List ℕ) (to : ℕ) (h h' : List Event) (clock : ℕ)
    (ws : List Happened) → h' ≡ h ++ stamped clock ws → AllByRecursion (λ w. is_silent w ≡ true) ws →
    outgoing bodies h' to ≡ outgoing bodies h to
outgoing_same bodies to h h' clock ws grown silent =
    let calls : List Event → Event → List Called =
    λ before e. packets_by bodies to before e.stamp e.what in
    ap (λ (k : List Event). outgoing bodies k to) grown
    ∙ in_turn-append calls h (stamped clock ws)
    ∙ ap (λ (cs : List Called). outgoing bodies h to ++ cs)
    (turn-none calls (λ (w : Happened). is_silent w ≡ true)
    (λ (b : List Event) (e : Event). silent_calls bodies to b e.stamp e.what) h clock ws silent)
    ∙ append-nil (outgoing bodies h to)

-- where nothing is called for and nothing is put, the packets are the same
pub packets_stay : (bodies : Sent → List ℕ) (v v' : RankView) (to : ℕ) (ps : List Packet) →
    v'.me ≡ v.me → v.clock ≤ v'.clock → outgoing bodies v'.events to ≡ outgoing bodies v.events to →
    v'.sending.outbox ≡ v.sending.outbox → ArePacketsLeft bodies v to ps → ArePacketsLeft bodies v' to ps
packets_stay bodies v v' to ps own later same outbox left =
    record {
      called = called_as own same
          (ap (λ (o : OutboxView). ps ++ packets_for to o.letters) outbox) left.called;
      early = still_early later (ap (λ (o : OutboxView). ps ++ packets_for to o.letters) outbox) left.early;
      popped = left.popped ∙ ap (λ (o : OutboxView). popped_to o to) (sym outbox);
      place = subst (λ (o : OutboxView). to < length o.popped) (sym outbox) left.place;
      own = ap (λ (o : OutboxView). o.me) outbox ∙ left.own ∙ sym own;
    }

pub outs_silent : (o : Option (ℕ × ℕ)) → AllByRecursion (λ w. is_silent w ≡ true) (outs o)
outs_silent None = tt
outs_silent (Some m) = (refl, tt)

-- the first packet leaves
pub packets_pop : OfOne → OfBoth → (bodies : Sent → List ℕ) (v v' : RankView) (to : ℕ)
    (letter : Letter) (left : Emitted) →
    v'.me ≡ v.me → v.clock ≤ v'.clock → outgoing bodies v'.events to ≡ outgoing bodies v.events to →
    v.sending.outbox.letters ≡ letter ∷ v'.sending.outbox.letters →
    v'.sending.outbox ≡ record v.sending.outbox {
      letters = v'.sending.outbox.letters;
      popped = set v.sending.outbox.popped letter.to (popped_to v.sending.outbox letter.to + 1);
    } → ArePacketsLeft bodies v to left.packets →
    ArePacketsLeft bodies v' to (with_packet to (letter.to, letter.packet) left).packets
packets_pop one both bodies v v' to letter left own later same letters outbox are =
    record {
      called = called_as own same (by_letter (letter.to == to) refl) are.called;
      early = still_early later (by_letter (letter.to == to) refl) are.early;
      popped = by_count (letter.to == to) refl
          ∙ sym (ap (λ (o : OutboxView). popped_to o to) outbox
          ∙ at-set v.sending.outbox.popped letter.to to (popped_to v.sending.outbox letter.to + 1) 0
          are.place);
      place = subst (λ (o : OutboxView). to < length o.popped) (sym outbox)
          (let kept = length-set v.sending.outbox.popped letter.to
          (popped_to v.sending.outbox letter.to + 1) in
          let place = are.place in omega (arith, kept, place));
      own = ap (λ (o : OutboxView). o.me) outbox ∙ are.own ∙ sym own;
    }
  where
    rest : List Letter
    rest = v'.sending.outbox.letters

    after : Bool → List Packet
    after b =
        let l : Emitted = cond b (record left { packets = left.packets ++ letter.packet ∷ [] }) left in
        l.packets

    front : (b : Bool) → (letter.to == to) ≡ b →
        packets_for to v.sending.outbox.letters
        ≡ cond b (letter.packet ∷ []) [] ++ packets_for to rest
    front b is =
        ap (packets_for to) letters ∙ both to (letter ∷ []) rest
        ∙ ap (λ (qs : List Packet). qs ++ packets_for to rest)
        (one to letter ∙ ap (λ (x : Bool). cond x (letter.packet ∷ []) []) is)

    by_letter : (b : Bool) → (letter.to == to) ≡ b →
        after b ++ packets_for to rest ≡ left.packets ++ packets_for to v.sending.outbox.letters
    by_letter true is =
        append_assoc left.packets (letter.packet ∷ []) (packets_for to rest)
        ∙ sym (ap (λ (qs : List Packet). left.packets ++ qs) (front true is))
    by_letter false is = sym (ap (λ (qs : List Packet). left.packets ++ qs) (front false is))

    by_count : (b : Bool) → (letter.to == to) ≡ b →
        length (after b)
        ≡ cond b (popped_to v.sending.outbox letter.to + 1) (popped_to v.sending.outbox to)
    by_count true is =
        length-append left.packets (letter.packet ∷ [])
        ∙ ap (λ (k : ℕ). k + 1) (are.popped
        ∙ ap (λ (k : ℕ). popped_to v.sending.outbox k) (sym (same_number letter.to to is)))
    by_count false is = are.popped
