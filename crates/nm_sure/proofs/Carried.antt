-- Messages of a channel that came before a stamp were sent before it.
use Rattle.std.proofs.Common.{◌≡◌, ℕ, ◌<◌, ◌≤◌, ◌==◌, Bool, true, false, ◌&&◌, cond, ltb, List, [], ◌∷◌}
use Rattle.std.proofs.Common.{length, refl, sym, ◌∙◌, ap, arith}
use Rattle.std.specs.List.{AllByRecursion, filter}
use Rattle.std.proofs.lemmas.Bool.{false≢true}
use Rattle.std.proofs.lemmas.Bool.Decides.{nat_tests}
use Rattle.nm_types.specs.declared.messages.Envelope.{Envelope}
use Rattle.nm_history.specs.Delivery.{ArriveInOrder}
use Rattle.nm_history.specs.Sends.{Arrived, Sent, envelope}
use Rattle.nm_match.specs.InTurn.{is_in}

-- a message of the channel; a send of it before a stamp
abbrev pub came_in : ℕ → ℕ → ℕ → Arrived → Bool
came_in from tag ctx a = is_in from tag ctx a.arrival.env

abbrev pub sent_in : ℕ → ℕ → ℕ → Sent → Bool
sent_in tag ctx limit s = (ctx == s.ctx && tag == s.tag) && ltb s.stamp limit

pub same_channel : (from tag ctx : ℕ) (s : Sent) (env : Envelope) → env ≡ envelope from s →
    is_in from tag ctx env ≡ (ctx == s.ctx && tag == s.tag)
same_channel from tag ctx s env same =
    ap (λ (e : Envelope). is_in from tag ctx e) same ∙ by_parts (ctx == s.ctx) (tag == s.tag) (from == from)
    (grind (arith, nat_tests))
  where
    by_parts : (x y b : Bool) → b ≡ true → (x && b && y) ≡ (x && y)
    by_parts true y true is = refl
    by_parts false y true is = refl
    by_parts x y false is = absurd (false≢true is)

before : (s a limit : ℕ) → s < a → a < limit → ltb s limit ≡ true
before s a limit first second = grind (arith, nat_tests)

one_each : (x y : Bool) (m n : ℕ) → x ≡ y → m ≤ n → (as' : List Arrived) (ss : List Sent) (a : Arrived) (s : Sent) →
    length as' ≡ m → length ss ≡ n → length (cond x (a ∷ as') as') ≤ length (cond y (s ∷ ss) ss)
one_each true true m n same few as' ss a s of_as of_ss = omega (arith, few, of_as, of_ss)
one_each false false m n same few as' ss a s of_as of_ss = omega (arith, few, of_as, of_ss)
one_each true false m n same few as' ss a s of_as of_ss = absurd (false≢true (sym same))
one_each false true m n same few as' ss a s of_as of_ss = absurd (false≢true same)

pub few_came : (from tag ctx limit : ℕ) (ss : List Sent) (as' : List Arrived) → ArriveInOrder from ss as' →
    AllByRecursion (λ (a : Arrived). a.stamp < limit) as' →
    length (filter (came_in from tag ctx) as') ≤ length (filter (sent_in tag ctx limit) ss)
few_came from tag ctx limit ss [] order early = omega arith
few_came from tag ctx limit [] (a ∷ as') order early = absurd order
few_came from tag ctx limit (s ∷ ss) (a ∷ as') order early =
    let now : ltb s.stamp limit ≡ true = before s.stamp a.stamp limit order.1 early.0 in
    one_each (came_in from tag ctx a) (sent_in tag ctx limit s) (length (filter (came_in from tag ctx) as'))
    (length (filter (sent_in tag ctx limit) ss))
    (same_channel from tag ctx s a.arrival.env order.0 ∙ with_true (ctx == s.ctx && tag == s.tag)
    (ltb s.stamp limit) now)
    (few_came from tag ctx limit ss as' order.2 early.1) (filter (came_in from tag ctx) as')
    (filter (sent_in tag ctx limit) ss) a s refl refl
  where
    with_true : (x b : Bool) → b ≡ true → x ≡ (x && b)
    with_true true true is = refl
    with_true false true is = refl
    with_true x false is = absurd (false≢true is)
