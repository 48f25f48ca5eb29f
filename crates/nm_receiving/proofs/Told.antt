-- What a packet of a message tells, and what comes of the message.
use Rattle.std.proofs.Common.{◌≡◌, ℕ, ◌+◌, ◌-◌, ◌<◌, ◌≤◌, true, List, length, sym, ◌∙◌, ap}
use Rattle.std.proofs.Common.{subst, rules, arith}
use Rattle.std.specs.Prelude.{min, slice_index_or, slice_set}
use Rattle.std.proofs.lemmas.List.{get_or-set_same}
use Rattle.nm_types.specs.declared.limits.TheConstants.{MAX_PAYLOAD}
use Rattle.nm_types.specs.declared.packets.What.{What}
use Rattle.nm_types.specs.declared.packets.What.TheVariants as what
use Rattle.nm_history.specs.Known.{Known, learned}
use Rattle.nm_eager.specs.Streams.{IsStream, Stream, after, begun, carried_on, continues, is_kept, missing}
use Rattle.nm_eager.specs.Streams.{nothing_came}
use Rattle.nm_receiving.specs.Receipts.{ReceivingView, stream_of}
use Rattle.nm_receiving.specs.Received.{PreservesSender, IsTold}

pub tells-more : (stream : Stream) (eager : ℕ) (w : What) (bytes : List ℕ) (known : Known)
    → ((stream : Stream) (len : ℕ) (bytes : List ℕ)
    → missing (begun stream len bytes) ≡ missing stream + (len - length bytes))
    → ((stream : Stream) (n : ℕ) (bytes : List ℕ) → IsStream stream
    → n + 1 ≡ stream.count → length bytes ≤ missing stream
    → missing (carried_on stream n bytes) + length bytes ≡ missing stream)
    → IsStream stream → is_kept w ≡ true
    → continues eager stream.count (missing stream) w (length bytes) ≡ true
    → IsTold stream known → IsTold (after stream w bytes) (learned known w (length bytes))
tells-more stream eager (what.Head tag ctx len) bytes known begins goes_on right kept goes told = record {
  count = ap (λ (n : ℕ). n + 1) told.count;
  lacks = let none : missing stream ≡ 0 = search (rules, goes) in let more = begins stream len bytes in
      omega arith;
}
tells-more stream eager (what.More n) bytes known begins goes_on right kept goes told =
    let last : n + 1 ≡ stream.count = search (rules, goes) in
    let part : length bytes ≡ min MAX_PAYLOAD (missing stream) = search (rules, goes) in
    let size : length bytes ≤ missing stream = omega arith in
    record {
      count = told.count;
      lacks = let more = goes_on stream n bytes right last size in let same = told.lacks in omega arith;
    }
tells-more stream eager (what.Ask tag ctx len) bytes known begins goes_on right kept goes told = record {
  count = ap (λ (n : ℕ). n + 1) told.count;
  lacks = told.lacks;
}
tells-more stream eager (what.Clear n) bytes known begins goes_on right kept goes told =
    search (rules, kept)
tells-more stream eager (what.Withdraw n) bytes known begins goes_on right kept goes told =
    search (rules, kept)
tells-more stream eager (what.Withdrawn n done) bytes known begins goes_on right kept goes told =
    search (rules, kept)

-- what is told of a sender after its packet
pub follows : (v v' : ReceivingView) (from eager : ℕ) (w : What) (bytes : List ℕ) (known : Known)
    (stream : Stream) → from < length v.streams
    → stream_of v from ≡ stream
    → v'.streams ≡ slice_set v.streams from (after (stream_of v from) w bytes)
    → continues eager (stream_of v from).count (missing (stream_of v from)) w (length bytes) ≡ true
    → ((eager : ℕ) (known : Known)
    → continues eager stream.count (missing stream) w (length bytes) ≡ true
    → IsTold stream known → IsTold (after stream w bytes) (learned known w (length bytes)))
    → known.count ≡ (stream_of v from).count → known.missing ≡ missing (stream_of v from)
    → PreservesSender v' from (learned known w (length bytes))
follows v v' from eager w bytes known stream low one streams goes tells count lacks =
    let k = learned known w (length bytes) in
    let told : IsTold (stream_of v from) known = record { count = count; lacks = lacks } in
    let goes' = subst (λ (s : Stream). continues eager s.count (missing s) w (length bytes) ≡ true) one goes in
    let after' = subst (λ (s : Stream). IsTold (after s w bytes) k) (sym one)
    (tells eager known goes' (subst (λ (s : Stream). IsTold s known) one told)) in
    subst (λ (s : Stream). IsTold s k)
    (sym (ap (λ (xs : List Stream). slice_index_or xs from nothing_came) streams
    ∙ get_or-set_same v.streams from (after (stream_of v from) w bytes) nothing_came low)) after'
