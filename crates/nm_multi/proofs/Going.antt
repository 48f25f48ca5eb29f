-- What all calls of a rank that can go on have in common.
use Rattle.std.proofs.Common.{◌≡◌, ℕ, zero, suc, ◌⊎◌, List, [], ◌∷◌, ◌++◌, length, inl, inr}
use Rattle.std.proofs.Common.{refl, sym, ◌∙◌, ap, subst, append-nil, append_assoc, None}
use Rattle.std.specs.List.{cons_option}
use Rattle.std.proofs.lemmas.List.Elements.{filter_map-append}
use Rattle.nm_types.specs.declared.answers.Answer.{Answer}
use Rattle.nm_types.specs.declared.lists.Memory.{Memory}
use Rattle.nm_types.specs.declared.messages.Peer.TheVariants as peer
use Rattle.nm_types.specs.declared.messages.TagPick.TheVariants as pick
use Rattle.nm_types.specs.declared.scripts.Body.{Body}
use Rattle.nm_types.specs.Sizes.{Sizes}
use Rattle.nm_request.specs.declared.Req.{Req}
use Rattle.nm_rank.specs.declared.answers.Cancelled.{Cancelled}
use Rattle.nm_rank.specs.Calls.{TakesNone}
use Rattle.nm_rank.specs.Pops.{PopsPacket}
use Rattle.nm_rank.specs.Ranks.{IsFresh, RankView, count_of}
use Rattle.nm_rank.specs.Requests.{Finishes}
use Rattle.nm_rank.specs.Steps.{Cancels, StartsReceive, StartsSend}
use Rattle.nm_multi.specs.declared.calls.Call.{Call}
use Rattle.nm_multi.specs.declared.calls.Call.TheVariants as call
use Rattle.nm_multi.specs.declared.calls.Entry.{Entry}
use Rattle.nm_multi.specs.declared.calls.Reply.{Reply}
use Rattle.nm_multi.specs.declared.calls.Reply.TheVariants as reply
use Rattle.nm_multi.specs.Acts.{Acts, AreReplayed, GoesOn, IsReplay, Leads, MovesAll, MovesSome}
use Rattle.nm_multi.specs.Acts.{ShowsBody, bodies_of, body_sent, sent_by}
use Rattle.nm_multi.specs.Moves.{IsAlone, MovesFirst, MovesMany}
use Rattle.nm_multi.specs.Standing.{DeskInvariant}
use Rattle.nm_multi.proofs.Alone.{moved_one}
use Rattle.nm_types.specs.Bodies.{bytes_of}
use Rattle.std.specs.Prelude.{IfOk, OnErr, Ok, Err, Result}

-- what is shown of each call with each reply that it can have
pub record Cases (P : Call → Reply → RankView → RankView → Type 0) : Type 0 where
  pub sends :
      (tag : ℕ) (body : Body) (r : Req) (old new : RankView) → StartsSend (sent_by old tag body) body r old new →
      P (call.Isend tag body) (reply.Started r) old new
  pub receives :
      (tag cap : ℕ) (r : Req) (old new : RankView) → StartsReceive (peer.One 0) (pick.One tag) 0 cap 0 r old new →
      P (call.Irecv tag cap) (reply.Started r) old new
  pub moves :
      (k : ℕ) (old new : RankView) → MovesAll k old new → P call.Pump (reply.Moved k) old new
  pub moves_some :
      (k : ℕ) (old new : RankView) → MovesSome k old new → P call.Pump (reply.Short k) old new
  pub ends :
      (r : Req) (a : Answer) (old new : RankView) → Finishes r a old new →
      P (call.Finish r) (reply.Ended a) old new
  pub cancels :
      (r : Req) (a : Cancelled) (old new : RankView) → Cancels r a old new →
      P (call.Cancel r) (reply.Undone a) old new
  pub stays :
      (c : Call) (r : Reply) (old new : RankView) → new ≡ old → body_sent c r ≡ None → P c r old new

-- it holds of each call
pub of_each : (P : Call → Reply → RankView → RankView → Type 0) → Cases P → (c : Call) (r : Reply)
    (old new : RankView) → GoesOn c r old new → P c r old new
of_each P m (call.Isend tag body) (reply.Started r) old new is = m.sends tag body r old new is
of_each P m (call.Isend tag body) (reply.Moved k) old new is = absurd is
of_each P m (call.Isend tag body) (reply.Short k) old new is = absurd is
of_each P m (call.Isend tag body) (reply.Is s) old new is = absurd is
of_each P m (call.Isend tag body) (reply.Ended a) old new is = absurd is
of_each P m (call.Isend tag body) (reply.Undone a) old new is = absurd is
of_each P m (call.Isend tag body) reply.NoSuch old new is = absurd is
of_each P m (call.Isend tag body) reply.NotComplete old new is = absurd is
of_each P m (call.Isend tag body) reply.Worn old new is = absurd is
of_each P m (call.Irecv tag cap) (reply.Started r) old new is = m.receives tag cap r old new is
of_each P m (call.Irecv tag cap) (reply.Moved k) old new is = absurd is
of_each P m (call.Irecv tag cap) (reply.Short k) old new is = absurd is
of_each P m (call.Irecv tag cap) (reply.Is s) old new is = absurd is
of_each P m (call.Irecv tag cap) (reply.Ended a) old new is = absurd is
of_each P m (call.Irecv tag cap) (reply.Undone a) old new is = absurd is
of_each P m (call.Irecv tag cap) reply.NoSuch old new is = absurd is
of_each P m (call.Irecv tag cap) reply.NotComplete old new is = absurd is
of_each P m (call.Irecv tag cap) reply.Worn old new is = absurd is
of_each P m call.Pump (reply.Started r) old new is = absurd is
of_each P m call.Pump (reply.Moved k) old new is = m.moves k old new is
of_each P m call.Pump (reply.Short k) old new is = m.moves_some k old new is
of_each P m call.Pump (reply.Is s) old new is = absurd is
of_each P m call.Pump (reply.Ended a) old new is = absurd is
of_each P m call.Pump (reply.Undone a) old new is = absurd is
of_each P m call.Pump reply.NoSuch old new is = absurd is
of_each P m call.Pump reply.NotComplete old new is = absurd is
of_each P m call.Pump reply.Worn old new is = absurd is
of_each P m (call.Test q) (reply.Started r) old new is = absurd is
of_each P m (call.Test q) (reply.Moved k) old new is = absurd is
of_each P m (call.Test q) (reply.Short k) old new is = absurd is
of_each P m (call.Test q) (reply.Is s) old new is = m.stays (call.Test q) (reply.Is s) old new is.1 refl
of_each P m (call.Test q) (reply.Ended a) old new is = absurd is
of_each P m (call.Test q) (reply.Undone a) old new is = absurd is
of_each P m (call.Test q) reply.NoSuch old new is = m.stays (call.Test q) reply.NoSuch old new is.1 refl
of_each P m (call.Test q) reply.NotComplete old new is = absurd is
of_each P m (call.Test q) reply.Worn old new is = absurd is
of_each P m (call.Finish q) (reply.Started r) old new is = absurd is
of_each P m (call.Finish q) (reply.Moved k) old new is = absurd is
of_each P m (call.Finish q) (reply.Short k) old new is = absurd is
of_each P m (call.Finish q) (reply.Is s) old new is = absurd is
of_each P m (call.Finish q) (reply.Ended a) old new is = m.ends q a old new is
of_each P m (call.Finish q) (reply.Undone a) old new is = absurd is
of_each P m (call.Finish q) reply.NoSuch old new is = m.stays (call.Finish q) reply.NoSuch old new is.1 refl
of_each P m (call.Finish q) reply.NotComplete old new is = m.stays (call.Finish q) reply.NotComplete old new is.1 refl
of_each P m (call.Finish q) reply.Worn old new is = absurd is
of_each P m (call.Cancel q) (reply.Started r) old new is = absurd is
of_each P m (call.Cancel q) (reply.Moved k) old new is = absurd is
of_each P m (call.Cancel q) (reply.Short k) old new is = absurd is
of_each P m (call.Cancel q) (reply.Is s) old new is = absurd is
of_each P m (call.Cancel q) (reply.Ended a) old new is = absurd is
of_each P m (call.Cancel q) (reply.Undone a) old new is = m.cancels q a old new is
of_each P m (call.Cancel q) reply.NoSuch old new is = m.stays (call.Cancel q) reply.NoSuch old new is.1 refl
of_each P m (call.Cancel q) reply.NotComplete old new is = absurd is
of_each P m (call.Cancel q) reply.Worn old new is = absurd is

-- a call of a rank that can go on is one of those that are made
pub going : (c : Call) (r : Reply) (old new : RankView) → IsFresh old → GoesOn c r old new → Acts c r old new
going c (reply.Started r) old new fresh is = (fresh, is)
going c (reply.Moved k) old new fresh is = (fresh, is)
going c (reply.Short k) old new fresh is = (fresh, is)
going c (reply.Is s) old new fresh is = (fresh, is)
going c (reply.Ended a) old new fresh is = (fresh, is)
going c (reply.Undone a) old new fresh is = (fresh, is)
going c reply.NoSuch old new fresh is = (fresh, is)
going c reply.NotComplete old new fresh is = (fresh, is)
going (call.Isend tag body) reply.Worn old new fresh is = absurd is
going (call.Irecv tag cap) reply.Worn old new fresh is = absurd is
going call.Pump reply.Worn old new fresh is = absurd is
going (call.Test q) reply.Worn old new fresh is = absurd is
going (call.Finish q) reply.Worn old new fresh is = absurd is
going (call.Cancel q) reply.Worn old new fresh is = absurd is

worn_none : (c : Call) → body_sent c reply.Worn ≡ None
worn_none (call.Isend tag body) = refl
worn_none c = refl

-- a call either does nothing or goes on
pub by_worn : (c : Call) (r : Reply) (old new : RankView) → Acts c r old new →
    ((new ≡ old) × (body_sent c r ≡ None)) ⊎ (IsFresh old × GoesOn c r old new)
by_worn c (reply.Started r) old new is = inr is
by_worn c (reply.Moved k) old new is = inr is
by_worn c (reply.Short k) old new is = inr is
by_worn c (reply.Is s) old new is = inr is
by_worn c (reply.Ended a) old new is = inr is
by_worn c (reply.Undone a) old new is = inr is
by_worn c reply.NoSuch old new is = inr is
by_worn c reply.NotComplete old new is = inr is
by_worn c reply.Worn old new is = inl (is.1, worn_none c)

-- the rank is the only one of the same run
abbrev Stays : Call → Reply → RankView → RankView → Type 0
Stays c r old new = IsFresh old → IsAlone old → IsAlone new × (new.sizes ≡ old.sizes)

quiet : (old new : RankView) → IsFresh old → IsAlone old → new.me ≡ old.me → new.sizes ≡ old.sizes →
    new.took ≡ old.took → new.sending.outbox.popped ≡ old.sending.outbox.popped →
    IsAlone new × (new.sizes ≡ old.sizes)
quiet old new fresh alone me sizes took popped = (
  record {
    me = me ∙ alone.me;
    one = ap (λ (s : Sizes). s.ranks) sizes ∙ alone.one;
    took = ap (λ (ns : List ℕ). length ns) took ∙ alone.took;
    popped = ap (λ (ns : List ℕ). length ns) popped ∙ alone.popped;
    even = λ _. ap (λ (ns : List ℕ). count_of ns 0) took ∙ alone.even fresh
        ∙ ap (λ (ns : List ℕ). count_of ns 0) (sym popped);
  },
  sizes,
)

silent : (old new : RankView) → IsFresh old → IsAlone old → TakesNone old new →
    new.sending.outbox.popped ≡ old.sending.outbox.popped → IsAlone new × (new.sizes ≡ old.sizes)
silent old new fresh alone t popped = quiet old new fresh alone t.me t.sizes t.took popped

sizes_moved : (old new : RankView) → MovesFirst old new → new.sizes ≡ old.sizes
sizes_moved old new m = by m.leaves where
  by : (IsFresh m.between × PopsPacket m.between new) ⊎ (¬ (IsFresh m.between) × (new ≡ m.between)) →
      new.sizes ≡ old.sizes
  by (inl goes) = goes.1.takes.sizes ∙ m.taken.sizes
  by (inr stays) = ap (λ (v : RankView). v.sizes) stays.1 ∙ m.taken.sizes

pub moved_many : (k : ℕ) (old new : RankView) → IsAlone old → MovesMany k old new →
    IsAlone new × (new.sizes ≡ old.sizes)
moved_many zero old new alone is = (subst IsAlone (sym is) alone, ap (λ (v : RankView). v.sizes) is)
moved_many (suc k) old new alone is =
    let before = moved_many k old is.0 alone is.1 in
    (moved_one is.0 new before.0 is.2, sizes_moved is.0 new is.2 ∙ before.1)

all_stay : Cases Stays
all_stay =
    record {
      sends = λ tag body r old new is fresh alone.
          let s = is.started (λ _. bytes_of body) refl in
          silent old new fresh alone s.takes s.happened.packets.popped;
      receives = λ tag cap r old new is fresh alone.
          let s = is.started (λ _. []) in
          silent old new fresh alone s.takes s.happened.packets.popped;
      moves = λ k old new is fresh alone. moved_many k old new alone is.0;
      moves_some = λ k old new is fresh alone. moved_many k old new alone is.0;
      ends = λ r a old new is fresh alone.
          quiet old new fresh alone (ap (λ (v : RankView). v.me) is.same)
          (ap (λ (v : RankView). v.sizes) is.same) (ap (λ (v : RankView). v.took) is.same)
          (ap (λ (v : RankView). v.sending.outbox.popped) is.same);
      cancels = λ r a old new is fresh alone.
          silent old new fresh alone is.takes (is.happened (λ _. [])).packets.popped;
      stays = λ c r old new is none fresh alone.
          (subst IsAlone (sym is) alone, ap (λ (v : RankView). v.sizes) is);
    }

-- the rank stays alone, in the same run
pub stays_alone : (c : Call) (r : Reply) (old new : RankView) → Acts c r old new → IsAlone old →
    IsAlone new × (new.sizes ≡ old.sizes)
stays_alone c r old new acts alone = by (by_worn c r old new acts) where
  by : ((new ≡ old) × (body_sent c r ≡ None)) ⊎ (IsFresh old × GoesOn c r old new) →
      IsAlone new × (new.sizes ≡ old.sizes)
  by (inl same) = (subst IsAlone (sym same.0) alone, ap (λ (v : RankView). v.sizes) same.0)
  by (inr goes) = of_each Stays all_stay c r old new goes.1 goes.0 alone

-- one call more
pub leads_on : (before log : List Entry) (start v v' : RankView) (e : Entry) → Leads before start log v →
    Acts e.call e.reply v v' → ShowsBody (bodies_of (before ++ log)) v e.call e.reply →
    Leads before start (log ++ e ∷ []) v'
leads_on before [] start v v' e leads acts shows = (
  v',
  subst (λ (u : RankView). Acts e.call e.reply u v') leads acts,
  subst (λ (u : RankView). ShowsBody (bodies_of before) u e.call e.reply) leads
      (subst (λ (es : List Entry). ShowsBody (bodies_of es) v e.call e.reply) (append-nil before) shows),
  refl,
)
leads_on before (x ∷ log) start v v' e leads acts shows = (
  leads.0,
  leads.1,
  leads.2,
  leads_on (before ++ x ∷ []) log leads.0 v v' e leads.3 acts
      (subst (λ (es : List Entry). ShowsBody (bodies_of es) v e.call e.reply)
      (sym (append_assoc before (x ∷ []) log)) shows),
)

-- the sends of one call more
pub more_sent : (log : List Entry) (e : Entry) →
    bodies_of (log ++ e ∷ []) ≡ bodies_of log ++ cons_option (body_sent e.call e.reply) []
more_sent log e = filter_map-append (λ (e : Entry). body_sent e.call e.reply) log (e ∷ [])

pub replayed : (v v' : RankView) (log log' : List Entry) (e : Entry) → AreReplayed v log →
    Acts e.call e.reply v v' → ShowsBody (bodies_of log) v e.call e.reply →
    DeskInvariant (bodies_of log ++ cons_option (body_sent e.call e.reply) []) v' → log' ≡ log ++ e ∷ [] →
    AreReplayed v' log'
replayed v v' log log' e are acts shows stands is =
    let stays = stays_alone e.call e.reply v v' acts are.alone in
    record {
      alone = stays.0;
      stands = subst (λ (bs : List Body). DeskInvariant bs v')
          (sym (more_sent log e) ∙ ap (λ (es : List Entry). bodies_of es) (sym is)) stands;
      replay = subst (λ (s : Sizes). IsReplay s log' v') (sym stays.1)
          (subst (λ (es : List Entry). IsReplay v.sizes es v') (sym is) (record {
            start = are.replay.start;
            new = are.replay.new;
            leads = leads_on [] log are.replay.start v v' e are.replay.leads acts shows;
          }));
    }

-- the same of a call that may be in want of memory
pub going_ok : (c : Call) (r : Result Reply Memory) (old new : RankView) → IsFresh old →
    IfOk r (λ x. GoesOn c x old new) → IfOk r (λ x. Acts c x old new)
going_ok c (Ok x) old new fresh is = going c x old new fresh is
going_ok c (Err e) old new fresh is = tt

pub alone_ok : (c : Call) (r : Result Reply Memory) (old new : RankView) → IsFresh old → IsAlone old →
    IfOk r (λ x. GoesOn c x old new) → OnErr r (new ≡ old) → IsAlone new
alone_ok c (Ok x) old new fresh alone is same = (stays_alone c x old new (going c x old new fresh is) alone).0
alone_ok c (Err e) old new fresh alone is same = subst IsAlone (sym same) alone

-- the sizes stay
sizes_many : (k : ℕ) (old new : RankView) → MovesMany k old new → new.sizes ≡ old.sizes
sizes_many zero old new is = ap (λ (v : RankView). v.sizes) is
sizes_many (suc k) old new is = sizes_moved is.0 new is.2 ∙ sizes_many k old is.0 is.1

sizes_stay : Cases (λ c r old new. new.sizes ≡ old.sizes)
sizes_stay =
    record {
      sends = λ tag body r old new is. (is.started (λ _. bytes_of body) refl).takes.sizes;
      receives = λ tag cap r old new is. (is.started (λ _. [])).takes.sizes;
      moves = λ k old new is. sizes_many k old new is.0;
      moves_some = λ k old new is. sizes_many k old new is.0;
      ends = λ r a old new is. ap (λ (v : RankView). v.sizes) is.same;
      cancels = λ r a old new is. is.takes.sizes;
      stays = λ c r old new is none. ap (λ (v : RankView). v.sizes) is;
    }

pub same_sizes : (c : Call) (r : Reply) (old new : RankView) → Acts c r old new → new.sizes ≡ old.sizes
same_sizes c r old new acts = by (by_worn c r old new acts) where
  by : ((new ≡ old) × (body_sent c r ≡ None)) ⊎ (IsFresh old × GoesOn c r old new) →
      new.sizes ≡ old.sizes
  by (inl same) = ap (λ (v : RankView). v.sizes) same.0
  by (inr goes) = of_each (λ c r old new. new.sizes ≡ old.sizes) sizes_stay c r old new goes.1
