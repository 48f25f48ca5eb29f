-- The packets of a message.
use Rattle.std.proofs.Common.{◌≡◌, ℕ, ◌==◌, Bool, true, false, ◌&&◌, not, cond}
use Rattle.std.proofs.Common.{Option, Some, None, List, [], ◌∷◌, ◌++◌, length, map, refl, sym, ◌∙◌, ap}
use Rattle.std.proofs.Common.{subst, arith, append-nil}
use Rattle.std.specs.List.{filter_map}
use Rattle.nm_types.specs.Bodies.{body_len, bytes_of}
use Rattle.nm_types.specs.declared.scripts.Body.{Body}
use Rattle.nm_types.specs.declared.messages.How.{How}
use Rattle.nm_types.specs.declared.messages.How.TheVariants.{Ask}
use Rattle.nm_types.specs.declared.packets.Packet.{Packet}
use Rattle.nm_types.specs.declared.packets.What.TheVariants as what
use Rattle.nm_history.specs.declared.events.Event.{Event}
use Rattle.nm_history.specs.declared.events.Happened.TheVariants.{Send}
use Rattle.nm_history.specs.Outgoing.{AreCalled, Called, bare, eager_packets, packets_by, send_packets}
use Rattle.nm_history.specs.Sends.{Sent, is_ask}
use Rattle.nm_eager.specs.Cutting.{Cutting, IsMessageOf, packet_count}
use Rattle.nm_sending.specs.Letters.{last_ends, packets_for}
use Rattle.nm_sending.specs.Outboxes.{OutboxView, PutsPackets, put_to}
use Rattle.nm_sending.proofs.LetterLemmas.{for_receiver}
use Rattle.nm_sending.specs.Departures.{ends_to}
use Rattle.nm_sending.specs.Sent.{Puts, only_to}
use Rattle.nm_sending.proofs.EndLemmas.{ends-append, left_each, left_last}
use Rattle.nm_sending.proofs.PutLemmas.{ends_receiver, puts-reserved}
use Rattle.nm_types.proofs.NumberLemmas.{same_number}
use Rattle.nm_types.proofs.BodyLemmas.{bytes_count}

-- all packets of an eager message were put
module _ (cutting : Cutting) (to n tag ctx stamp : ℕ) (body : Body) (how : How)
    (old reserved new : OutboxView) (spare : ℕ) (room : reserved ≡ record old { spare = spare })
    (is : cutting ≡ record { n = n; tag = tag; ctx = ctx; body = bytes_of body; given = 0 })
    (eager : is_ask how ≡ false) (puts : PutsPackets cutting to stamp reserved new) where
  the_send : ℕ → Sent
  the_send line = record {
    stamp = stamp;
    to = to;
    n = n;
    tag = tag;
    ctx = ctx;
    len = body_len body;
    how = how;
    line = line;
  }

  bytes : cutting.body ≡ bytes_of body
  bytes = ap (λ (x : Cutting). x.body) is

  carried : (line t : ℕ) → AreCalled old.me (put_to old t)
      (cond (to == t) (send_packets (the_send line) (bytes_of body)) []) (packets_for t puts.added)
  unfolding the_send
  carried line t =
      subst (λ (ps : List Packet). AreCalled old.me (put_to old t)
      (cond (to == t) (send_packets (the_send line) (bytes_of body)) []) ps)
      (sym (for_receiver to puts.added puts.receiver t)) (by_test (to == t) refl)
    where
      s : Sent
      s = record {
        stamp = stamp;
        to = to;
        n = n;
        tag = tag;
        ctx = ctx;
        len = body_len body;
        how = how;
        line = line;
      }

      message : IsMessageOf cutting s
      message = record {
        n = sym (ap (λ (x : Cutting). x.n) is);
        tag = sym (ap (λ (x : Cutting). x.tag) is);
        ctx = sym (ap (λ (x : Cutting). x.ctx) is);
        len = sym (bytes_count body) ∙ ap (λ (bs : List ℕ). length bs) (sym bytes);
      }

      whole : eager_packets s cutting.body ≡ send_packets s (bytes_of body)
      whole =
          ap (λ (bs : List ℕ). eager_packets s bs) bytes
          ∙ sym (ap (λ (b : Bool). cond b (bare stamp (what.Ask tag ctx (body_len body)) ∷ [])
          (eager_packets s (bytes_of body))) eager)

      put : AreCalled old.me (put_to old to) (send_packets s (bytes_of body)) (map (λ l. l.packet) puts.added)
      put = subst (λ (cs : List Called). AreCalled old.me (put_to old to) cs
          (map (λ l. l.packet) puts.added)) whole
          (subst (λ (o : OutboxView). AreCalled o.me (put_to o to) (eager_packets s cutting.body)
          (map (λ l. l.packet) puts.added)) room (puts.carried s message (omega arith)))

      by_test : (b : Bool) → (to == t) ≡ b → AreCalled old.me (put_to old t)
          (cond b (send_packets s (bytes_of body)) []) (cond b (map (λ l. l.packet) puts.added) [])
      by_test true e = subst (λ (k : ℕ). AreCalled old.me (put_to old k) (send_packets s (bytes_of body))
          (map (λ l. l.packet) puts.added)) (same_number to t e) put
      by_test false e = tt

  pub puts_message : (h : List Event) (line : ℕ)
      → Puts (λ other. packets_by (λ s. bytes_of body) other h stamp
      (Send to n tag ctx (body_len body) how line)) (cond (is_ask how) None (Some n)) stamp old new
  unfolding the_send
  puts_message h line = record {
    added = puts.added;
    letters = ap (λ (o : OutboxView). o.letters) puts.outbox
        ∙ ap (λ (o : OutboxView). o.letters ++ puts.added) room;
    carried = carried line;
    stamps = puts.stamps;
    left = puts.left
        ∙ ap (λ (k : ℕ). last_ends k (Some cutting.n)) (sym puts.many)
        ∙ ap (λ (x : Cutting). last_ends (length puts.added) (Some x.n)) is
        ∙ ap (λ (b : Bool). last_ends (length puts.added) (cond b None (Some n))) (sym eager);
    popped = ap (λ (o : OutboxView). o.popped) puts.outbox ∙ ap (λ (o : OutboxView). o.popped) room;
    me = ap (λ (o : OutboxView). o.me) puts.outbox ∙ ap (λ (o : OutboxView). o.me) room;
  }

  -- it leaves with the last one
  pub ends_message : (t : ℕ) → ends_to t new.letters
      ≡ ends_to t old.letters ++ cond (to == t && not (is_ask how)) (n ∷ []) []
  ends_message t =
      ap (λ (o : OutboxView). ends_to t o.letters) puts.outbox
      ∙ ap (λ (o : OutboxView). ends_to t (o.letters ++ puts.added)) room
      ∙ ends-append t old.letters puts.added
      ∙ ap (λ (ns : List ℕ). ends_to t old.letters ++ ns)
      (ends_receiver to puts.added puts.receiver t
      ∙ ap (λ (ns : List ℕ). cond (to == t) ns []) (left_each puts.added
      ∙ ap (λ (os : List (Option ℕ)). filter_map (λ o. o) os) (puts.left
      ∙ ap (λ (x : Cutting). last_ends (packet_count cutting) (Some x.n)) is)
      ∙ left_last (packet_count cutting) (Some n) (omega arith))
      ∙ by_test (to == t)
      ∙ ap (λ (b : Bool). cond (to == t && not b) (n ∷ []) []) (sym eager))
    where
      by_test : (b : Bool) → cond b (n ∷ []) [] ≡ cond (b && true) (n ∷ []) []
      by_test true = refl
      by_test false = refl

-- the packet that asks for a message was put
pub puts_request : (to n tag ctx stamp len spare : ℕ) (body : Body) (how : How)
    (old reserved new : OutboxView) → reserved ≡ record old { spare = spare } → len ≡ body_len body → how ≡ Ask
    → Puts (only_to to stamp (what.Ask tag ctx len)) None stamp reserved new → (h : List Event) (line : ℕ)
    → Puts (λ other. packets_by (λ s. bytes_of body) other h stamp
    (Send to n tag ctx (body_len body) how line)) (cond (is_ask how) None (Some n)) stamp old new
puts_request to n tag ctx stamp len spare body how old reserved new room many asks puts h line =
    subst (λ (w : How). Puts (λ other. packets_by (λ s. bytes_of body) other h stamp
    (Send to n tag ctx (body_len body) w line)) (cond (is_ask w) None (Some n)) stamp old new) (sym asks)
    (subst (λ (k : ℕ). Puts (only_to to stamp (what.Ask tag ctx k)) None stamp old new) many
    (puts-reserved (only_to to stamp (what.Ask tag ctx len)) None stamp spare old reserved new room puts))

-- and no message leaves with it
pub ends_request : (t to n : ℕ) (how : How) (spare : ℕ) (old reserved new : OutboxView)
    → reserved ≡ record old { spare = spare } → how ≡ Ask → ends_to t new.letters ≡ ends_to t reserved.letters
    → ends_to t new.letters ≡ ends_to t old.letters ++ cond (to == t && not (is_ask how)) (n ∷ []) []
ends_request t to n how spare old reserved new room asks same =
    same ∙ ap (λ (o : OutboxView). ends_to t o.letters) room ∙ sym (append-nil (ends_to t old.letters))
    ∙ ap (λ (ns : List ℕ). ends_to t old.letters ++ ns)
    (by_test (to == t) ∙ ap (λ (w : How). cond (to == t && not (is_ask w)) (n ∷ []) []) (sym asks))
  where
    by_test : (b : Bool) → [] ≡ cond (b && false) (n ∷ []) []
    by_test true = refl
    by_test false = refl
