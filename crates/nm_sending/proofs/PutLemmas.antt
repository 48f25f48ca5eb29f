-- Letters that are put.
use Rattle.std.proofs.Common.{◌≡◌, ℕ, ◌+◌, ◌-◌, ◌≤◌, ◌==◌, Bool, true, false, cond}
use Rattle.std.proofs.Common.{Option, None, List, [], ◌∷◌, length, refl, sym, ◌∙◌, ap, subst, arith}
use Rattle.std.specs.List.{AllByRecursion, cons_option, filter_map}
use Rattle.nm_types.specs.declared.packets.Packet.{Packet}
use Rattle.nm_types.specs.declared.packets.What.{What}
use Rattle.nm_history.specs.Outgoing.{AreCalled, Called, IsCalled, bare}
use Rattle.nm_sending.specs.Letters.{Letter}
use Rattle.nm_sending.specs.Outboxes.{OutboxView, PutsBare, put_to}
use Rattle.nm_sending.proofs.LetterLemmas.{for_receiver}
use Rattle.nm_sending.specs.Departures.{ends_to}
use Rattle.nm_sending.specs.Sent.{Puts, only_to}
use Rattle.nm_sending.proofs.EndLemmas.{ends-push_none}
use Rattle.nm_types.proofs.NumberLemmas.{same_number}

puts-room : (called : ℕ → List Called) (ends : Option ℕ) (stamp spare : ℕ) (old new : OutboxView)
    → Puts called ends stamp (record old { spare = spare }) new → Puts called ends stamp old new
puts-room called ends stamp spare old new puts = record {
  added = puts.added;
  letters = puts.letters;
  carried = puts.carried;
  stamps = puts.stamps;
  left = puts.left;
  popped = puts.popped;
  me = puts.me;
}

-- room that was made before plays no part
pub puts-reserved : (called : ℕ → List Called) (ends : Option ℕ) (stamp spare : ℕ)
    (old reserved new : OutboxView) → reserved ≡ record old { spare = spare }
    → Puts called ends stamp reserved new → Puts called ends stamp old new
puts-reserved called ends stamp spare old reserved new same puts =
    puts-room called ends stamp spare old new
    (subst (λ (o : OutboxView). Puts called ends stamp o new) same puts)

-- as many packets as are called for
pub called_length : (from number : ℕ) (list : List Called) (ps : List Packet) → AreCalled from number list ps
    → length list ≡ length ps
called_length from number [] [] each = refl
called_length from number [] (p ∷ ps) each = absurd each
called_length from number (called ∷ list) [] each = absurd each
called_length from number (called ∷ list) (p ∷ ps) each =
    let later = called_length from (number + 1) list ps each.1 in omega (arith, later)

-- the messages that leave with letters that all go to one rank
pub ends_receiver : (to : ℕ) (ls : List Letter) → AllByRecursion (λ l. l.to ≡ to) ls → (t : ℕ)
    → ends_to t ls ≡ cond (to == t) (filter_map (λ l. l.ends) ls) []
ends_receiver to [] each t = by_test (to == t) where
  by_test : (b : Bool) → ◌≡◌ {A = List ℕ} [] (cond b [] [])
  by_test true = refl
  by_test false = refl
ends_receiver to (l ∷ ls) each t =
    ap (λ (x : ℕ). cons_option (cond (x == t) l.ends None) (ends_to t ls)) each.0
    ∙ by_test (to == t) (ends_receiver to ls each.1 t)
  where
    by_test : (b : Bool) → ends_to t ls ≡ cond b (filter_map (λ l. l.ends) ls) []
        → cons_option (cond b l.ends None) (ends_to t ls)
        ≡ cond b (cons_option l.ends (filter_map (λ l. l.ends) ls)) []
    by_test true later = ap (λ (ns : List ℕ). cons_option l.ends ns) later
    by_test false later = later

-- a packet without bytes was put
module _ (to stamp : ℕ) (w : What) (old new : OutboxView) (puts : PutsBare to stamp w old new) where
  pub puts_bare : (called : ℕ) → called ≤ stamp → Puts (only_to to called w) None stamp old new
  puts_bare called before = record {
    added = puts.letter ∷ [];
    letters = ap (λ (o : OutboxView). o.letters) puts.outbox;
    carried = λ t. subst (λ (ps : List Packet). AreCalled old.me (put_to old t) (only_to to called w t) ps)
        (sym (for_receiver to (puts.letter ∷ []) (puts.receiver, tt) t)) (by_test t (to == t) refl);
    stamps = (puts.stamped, tt);
    left = ap (λ (o : Option ℕ). o ∷ []) puts.left;
    popped = ap (λ (o : OutboxView). o.popped) puts.outbox;
    me = ap (λ (o : OutboxView). o.me) puts.outbox;
  } where
    by_test : (t : ℕ) (b : Bool) → (to == t) ≡ b → AreCalled old.me (put_to old t)
        (cond b (bare called w ∷ []) []) (cond b (puts.letter.packet ∷ []) [])
    by_test t true e = (
      subst (λ (k : ℕ). IsCalled old.me (put_to old k) (bare called w) puts.letter.packet) (same_number to t e)
          (puts.carried called before),
      tt,
    )
    by_test t false e = tt

  pub bare_ends : (other : ℕ) → ends_to other new.letters ≡ ends_to other old.letters
  bare_ends other =
      ap (λ (o : OutboxView). ends_to other o.letters) puts.outbox
      ∙ ends-push_none other old.letters puts.letter puts.left

  pub bare_room : new.spare ≡ old.spare - 1
  bare_room = ap (λ (o : OutboxView). o.spare) puts.outbox
