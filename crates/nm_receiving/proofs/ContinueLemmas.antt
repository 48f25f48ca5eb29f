-- Which packets continue their stream, at a rank with some history.
use Rattle.std.proofs.Common.{◌≡◌, ℕ, ◌==◌, Bool, true, false, not, ◌&&◌, List, length, nat_lt}
use Rattle.std.proofs.Common.{refl, ap, ◌∙◌, ◌<◌, arith}
use Rattle.std.proofs.lemmas.Bool.Decides.{nat_tests}
use Rattle.nm_types.specs.declared.packets.Packet.{Packet}
use Rattle.nm_types.specs.declared.packets.What.{What}
use Rattle.nm_types.specs.declared.packets.What.TheVariants.{Head, More, Ask, Clear}
use Rattle.nm_types.specs.declared.packets.What.TheVariants.{Withdraw, Withdrawn}
use Rattle.nm_history.specs.declared.events.Event.{Event}
use Rattle.nm_history.specs.Continues.{continues, continues_stream, has, is_of_stream, WORN_STAMP}
use Rattle.nm_history.specs.Delivery.{is_asked}
use Rattle.nm_history.specs.Happens.{happened, is_recall}
use Rattle.nm_history.specs.Known.{Known}
use Rattle.nm_history.specs.Sends.{sends}
use Rattle.nm_eager.specs.Streams.{continues as continues_message}
use Rattle.nm_receiving.specs.StreamViews.{is_awaited}

fresh-test : (n : ℕ) → n < WORN_STAMP → nat_lt n WORN_STAMP ≡ true
fresh-test n h = grind (arith, nat_tests)

three : (a b c d : Bool) → ((a && b && c) && d) ≡ (a && b && c && d)
three true true c d = refl
three true false c d = refl
three false b c d = refl

two : (a b c d : Bool) → ((a && b) && c && d) ≡ (a && b && c && d)
two true true c d = refl
two true false c d = refl
two false b c d = refl

clear_is : (eager : ℕ) (known : Known) (h : List Event) (p : Packet) (n : ℕ) → p.stamp < WORN_STAMP → p.what ≡ Clear n
    → (is_awaited known h p.from p.what && length p.payload == 0) ≡ continues eager known h p
clear_is eager known h p n fresh is =
    rw (fresh-test p.stamp fresh, is)
    (three (is_asked (sends h p.from) n) (not (has known.cleared n)) (not (has known.undone n)) (length p.payload == 0))

withdrawn_is : (eager : ℕ) (known : Known) (h : List Event) (p : Packet) (n : ℕ) (done : Bool)
    → p.stamp < WORN_STAMP → p.what ≡ Withdrawn n done
    → (is_awaited known h p.from p.what && not (done && has known.cleared n) && length p.payload == 0)
    ≡ continues eager known h p
withdrawn_is eager known h p n done fresh is =
    rw (fresh-test p.stamp fresh, is)
    (two (happened (is_recall p.from n) h) (not (has known.answered n)) (not (done && has known.cleared n))
    (length p.payload == 0))

-- a clearance continues where it is awaited
pub clear-continues : (eager : ℕ) (known : Known) (h : List Event) (p : Packet) (n : ℕ) (awaited : Bool)
    → p.stamp < WORN_STAMP → p.what ≡ Clear n → awaited ≡ is_awaited known h p.from p.what
    → (awaited && length p.payload == 0) ≡ continues eager known h p
clear-continues eager known h p n awaited fresh is same =
    ap (λ (b : Bool). b && length p.payload == 0) same ∙ clear_is eager known h p n fresh is

-- and so does the answer to a recall, unless a cleared message would be withdrawn
pub withdrawn-continues : (eager : ℕ) (known : Known) (h : List Event) (p : Packet) (n : ℕ) (done awaited : Bool)
    → p.stamp < WORN_STAMP → p.what ≡ Withdrawn n done → awaited ≡ is_awaited known h p.from p.what
    → (awaited && not (done && has known.cleared n) && length p.payload == 0) ≡ continues eager known h p
withdrawn-continues eager known h p n done awaited fresh is same =
    ap (λ (b : Bool). b && not (done && has known.cleared n) && length p.payload == 0) same
    ∙ withdrawn_is eager known h p n done fresh is

-- of its sender's own messages, at a rank with any history
pub own-continues : (eager : ℕ) (known : Known) (h : List Event) (p : Packet) → p.stamp < WORN_STAMP
    → is_of_stream p.what ≡ true → continues eager known h p ≡ continues_stream eager known p.what (length p.payload)
own-continues eager known h p fresh own = rw (fresh-test p.stamp fresh, own) refl

pub own-of : (w : What) → ((n : ℕ) → w ≡ Clear n → ⊥) → ((n : ℕ) (done : Bool) → w ≡ Withdrawn n done → ⊥)
    → is_of_stream w ≡ true
own-of (Head tag ctx len) a b = refl
own-of (More n) a b = refl
own-of (Ask tag ctx len) a b = refl
own-of (Withdraw n) a b = refl
own-of (Clear n) a b = absurd (a n refl)
own-of (Withdrawn n done) a b = absurd (b n done refl)

-- a packet of a message continues by two numbers of what is known
pub own-message : (eager : ℕ) (known : Known) (w : What) (size : ℕ) → ((n : ℕ) → w ≡ Withdraw n → ⊥)
    → continues_message eager known.count known.missing w size ≡ continues_stream eager known w size
own-message eager known (Head tag ctx len) size a = refl
own-message eager known (More n) size a = refl
own-message eager known (Ask tag ctx len) size a = refl
own-message eager known (Withdraw n) size a = absurd (a n refl)
own-message eager known (Clear n) size a = refl
own-message eager known (Withdrawn n done) size a = refl
