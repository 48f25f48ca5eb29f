-- What is known and counted, one moment more.
use Rattle.std.proofs.Common.{◌≡◌, ℕ, ◌+◌, ◌<◌, ◌==◌, Bool, true, false, cond, Some, None, List, [], ◌∷◌}
use Rattle.std.proofs.Common.{◌++◌, length, refl, sym, ◌∙◌, ap, arith, append-nil, length-append}
use Rattle.std.specs.Prelude.{slice_index_or, slice_set, fold}
use Rattle.std.specs.List.{cons_option}
use Rattle.std.proofs.lemmas.Bool.{true≢false}
use Rattle.std.proofs.lemmas.List.{get_or-set_other, get_or-set_same, length-set}
use Rattle.nm_types.specs.declared.packets.Packet.{Packet}
use Rattle.nm_types.specs.declared.packets.Piece.{Piece}
use Rattle.nm_types.specs.Sizes.{Sizes}
use Rattle.nm_history.specs.declared.events.Happened.{Happened}
use Rattle.nm_history.specs.Known.{Known, Taken, known_after, known_by}
use Rattle.nm_history.specs.Pieces.{Pulled, count_continued}
use Rattle.nm_history.proofs.Growing.{count_continued-push}
use Rattle.nm_channels.specs.Moments as moment
use Rattle.nm_channels.specs.Moments.{Cause, LogEntry, pulled_from, pulled_of, taken_from}
use Rattle.nm_channels.specs.Moments.Cause.{Acted}
use Rattle.nm_channels.proofs.Arriving.{known-push}
use Rattle.nm_rank.specs.Calls.{TakesNone, TakesPacket, TakesPiece, is_next_due, taken_of}
use Rattle.nm_rank.specs.Ranks.{RankView, count_of, known_from}
use Rattle.nm_global.specs.Logged.{HasCounts, HasTaken}
use Rattle.nm_global.specs.Moments.{acted, drew, pulled, took}
use Rattle.nm_global.proofs.Shown.{pulled_still, taken-push, taken_still}
use Rattle.nm_receiving.specs.Receipts.{drawn_from}
use Rattle.nm_types.proofs.NumberLemmas.{eq_true, same_number}
use Rattle.nm_channels.proofs.Pulling.{pulled-push}

-- the same is known and counted at two moments
pub record IsKept (v v' : RankView) : Type 0 where
  pub sizes : v'.sizes ≡ v.sizes
  pub known : v'.known ≡ v.known
  pub took : v'.took ≡ v.took
  pub pulled : v'.pulled ≡ v.pulled
  pub drawn : v'.receiving.drawn ≡ v.receiving.drawn

pub kept_counts : (v v' : RankView) → IsKept v v' → HasCounts v → HasCounts v'
kept_counts v v' kept old =
    let ranks = sym (ap (λ (s : Sizes). s.ranks) kept.sizes) in
    record {
      known = ap (λ (ks : List Known). length ks) kept.known ∙ old.known ∙ ranks;
      took = ap (λ (ns : List ℕ). length ns) kept.took ∙ old.took ∙ ranks;
      pulled = ap (λ (ns : List ℕ). length ns) kept.pulled ∙ old.pulled ∙ ranks;
      drawn = ap (λ (ns : List ℕ). length ns) kept.drawn ∙ old.drawn ∙ ranks;
    }

pub kept_taken : (v v' : RankView) (log : List LogEntry) → IsKept v v' → HasTaken v log → HasTaken v' log
kept_taken v v' log kept old =
    record {
      known = λ from. ap (λ (ks : List Known). known_from ks from) kept.known ∙ old.known from;
      took = λ from. ap (λ (ns : List ℕ). count_of ns from) kept.took ∙ old.took from;
      pulled = λ from. ap (λ (ns : List ℕ). count_of ns from) kept.pulled ∙ old.pulled from;
      drawn = λ from. ap (λ (ns : List ℕ). slice_index_or ns from 0) kept.drawn ∙ old.drawn from;
    }

-- a moment that takes no packet and no piece
idle_taken : (v : RankView) (log : List LogEntry) (m : LogEntry) → m.cause ≡ Acted → HasTaken v log →
    HasTaken v (log ++ m ∷ [])
idle_taken v log m idle old =
    let packets = λ (i : ℕ). sym (taken_still i log m (ap (λ (c : Cause). moment.taken_of i c) idle)) in
    let pieces = λ (i : ℕ). sym (pulled_still i log m (ap (λ (c : Cause). pulled_of i c) idle)) in
    record {
      known = λ from. old.known from ∙ ap (λ (ts : List Taken). known_by ts) (packets from);
      took = λ from. old.took from ∙ ap (λ (ts : List Taken). length ts) (packets from);
      pulled = λ from. old.pulled from ∙ ap (λ (ds : List Pulled). length ds) (pieces from);
      drawn = λ from. old.drawn from ∙ ap (λ (ds : List Pulled). count_continued ds) (pieces from);
    }

acts_kept : (v v' : RankView) → TakesNone v v' → IsKept v v'
acts_kept v v' takes =
    record {
      sizes = takes.sizes;
      known = takes.known;
      took = takes.took;
      pulled = takes.pulled;
      drawn = takes.drawn;
    }

pub acts_counts : (v v' : RankView) → TakesNone v v' → HasCounts v → HasCounts v'
acts_counts v v' takes = kept_counts v v' (acts_kept v v' takes)

pub acts_taken : (v v' : RankView) (log : List LogEntry) (ws : List Happened) → TakesNone v v' →
    HasTaken v log → HasTaken v' (log ++ acted v ws ∷ [])
acts_taken v v' log ws takes old =
    idle_taken v' log (acted v ws) refl (kept_taken v v' log (acts_kept v v' takes) old)

pub packet_counts : (p : Packet) (v v' : RankView) → TakesPacket p v v' → HasCounts v → HasCounts v'
packet_counts p v v' takes old =
    let ranks = sym (ap (λ (s : Sizes). s.ranks) takes.sizes) in
    record {
      known = ap (λ (ks : List Known). length ks) takes.known ∙ length-set v.known p.from _ ∙ old.known
          ∙ ranks;
      took = ap (λ (ns : List ℕ). length ns) takes.took ∙ length-set v.took p.from _ ∙ old.took ∙ ranks;
      pulled = ap (λ (ns : List ℕ). length ns) takes.pulled ∙ old.pulled ∙ ranks;
      drawn = ap (λ (ns : List ℕ). length ns) takes.drawn ∙ old.drawn ∙ ranks;
    }

-- a row of which one place was replaced
at_place : {X : Type 0} (xs xs' : List X) (i j : ℕ) (x d : X) → xs' ≡ slice_set xs i x → i < length xs →
    slice_index_or xs' j d ≡ cond (i == j) x (slice_index_or xs j d)
at_place xs xs' i j x d set within =
    ap (λ ys. slice_index_or ys j d) set ∙ by_place (i == j) refl
  where
    by_place : (b : Bool) → (i == j) ≡ b →
        slice_index_or (slice_set xs i x) j d ≡ cond b x (slice_index_or xs j d)
    by_place true same =
        ap (λ (k : ℕ). slice_index_or (slice_set xs i x) k d) (sym (same_number i j same))
        ∙ get_or-set_same xs i x d within
    by_place false other =
        get_or-set_other xs i j x d (λ same. true≢false (sym (eq_true i j (sym same)) ∙ other))

pub packet_taken : (p : Packet) (v v' : RankView) (log : List LogEntry) → p.from < v.sizes.ranks →
    HasCounts v → TakesPacket p v v' → HasTaken v log → HasTaken v' (log ++ took v p ∷ [])
packet_taken p v v' log within counts takes old =
    let t : Taken = taken_of v p in
    record {
      known = λ from. at_place v.known v'.known p.from from _ _ takes.known (omega (arith, counts.known))
          ∙ by_known from (p.from == from) refl ∙ sym (known-push log (took v p) from);
      took = λ from. at_place v.took v'.took p.from from _ _ takes.took (omega (arith, counts.took))
          ∙ by_took from (p.from == from) refl
          ∙ ap (λ (ts : List Taken). length ts) (sym (taken-push from log (took v p)));
      pulled = λ from. ap (λ (ns : List ℕ). count_of ns from) takes.pulled ∙ old.pulled from
          ∙ ap (λ (ds : List Pulled). length ds) (sym (pulled_still from log (took v p) refl));
      drawn = λ from. ap (λ (ns : List ℕ). slice_index_or ns from 0) takes.drawn ∙ old.drawn from
          ∙ ap (λ (ds : List Pulled). count_continued ds) (sym (pulled_still from log (took v p) refl));
    }
  where
    by_known : (from : ℕ) (b : Bool) → (p.from == from) ≡ b →
        cond b (known_after (known_from v.known p.from) (taken_of v p)) (known_from v.known from)
        ≡ fold known_after (known_by (taken_from from log))
        (cons_option (cond b (Some (taken_of v p)) None) [])
    by_known from true same =
        ap (λ (known : Known). known_after known (taken_of v p))
        (ap (λ (i : ℕ). known_from v.known i) (same_number p.from from same) ∙ old.known from)
    by_known from false other = old.known from

    by_took : (from : ℕ) (b : Bool) → (p.from == from) ≡ b →
        cond b (count_of v.took p.from + 1) (count_of v.took from)
        ≡ length (taken_from from log ++ cons_option (cond b (Some (taken_of v p)) None) [])
    by_took from true same =
        let is : count_of v.took p.from ≡ length (taken_from from log) =
        ap (λ (i : ℕ). count_of v.took i) (same_number p.from from same) ∙ old.took from in
        omega (arith, is, length-append (taken_from from log) (taken_of v p ∷ []))
    by_took from false other =
        old.took from ∙ ap (λ (ts : List Taken). length ts) (sym (append-nil (taken_from from log)))

pub piece_counts : (q : Piece) (v v' : RankView) → TakesPiece q v v' → HasCounts v → HasCounts v'
piece_counts q v v' takes old =
    let ranks = sym (ap (λ (s : Sizes). s.ranks) takes.sizes) in
    record {
      known = ap (λ (ks : List Known). length ks) takes.known ∙ old.known ∙ ranks;
      took = ap (λ (ns : List ℕ). length ns) takes.took ∙ old.took ∙ ranks;
      pulled = ap (λ (ns : List ℕ). length ns) takes.pulled ∙ length-set v.pulled q.from _ ∙ old.pulled
          ∙ ranks;
      drawn = ap (λ (ns : List ℕ). length ns) takes.drawn ∙ length-set v.receiving.drawn q.from _
          ∙ old.drawn ∙ ranks;
    }

pub piece_taken : (q : Piece) (v v' : RankView) (log : List LogEntry) → q.from < v.sizes.ranks →
    HasCounts v → TakesPiece q v v' → HasTaken v log → HasTaken v' (log ++ drew v q ∷ [])
piece_taken q v v' log within counts takes old =
    record {
      known = λ from. ap (λ (ks : List Known). known_from ks from) takes.known ∙ old.known from
          ∙ ap (λ (ts : List Taken). known_by ts) (sym (taken_still from log (drew v q) refl));
      took = λ from. ap (λ (ns : List ℕ). count_of ns from) takes.took ∙ old.took from
          ∙ ap (λ (ts : List Taken). length ts) (sym (taken_still from log (drew v q) refl));
      pulled = λ from. at_place v.pulled v'.pulled q.from from _ _ takes.pulled (omega (arith, counts.pulled))
          ∙ by_pulled from (q.from == from) refl
          ∙ ap (λ (ds : List Pulled). length ds) (sym (pulled-push from log (drew v q)));
      drawn = λ from.
          at_place v.receiving.drawn v'.receiving.drawn q.from from _ _ takes.drawn
          (omega (arith, counts.drawn))
          ∙ by_drawn from (q.from == from) refl
          ∙ ap (λ (ds : List Pulled). count_continued ds) (sym (pulled-push from log (drew v q)));
    }
  where
    by_pulled : (from : ℕ) (b : Bool) → (q.from == from) ≡ b →
        cond b (count_of v.pulled q.from + 1) (count_of v.pulled from)
        ≡ length (pulled_from from log ++ cons_option (cond b (Some (pulled v q)) None) [])
    by_pulled from true same =
        let is : count_of v.pulled q.from ≡ length (pulled_from from log) =
        ap (λ (i : ℕ). count_of v.pulled i) (same_number q.from from same) ∙ old.pulled from in
        omega (arith, is, length-append (pulled_from from log) (pulled v q ∷ []))
    by_pulled from false other =
        old.pulled from ∙ ap (λ (ds : List Pulled). length ds) (sym (append-nil (pulled_from from log)))

    by_drawn : (from : ℕ) (b : Bool) → (q.from == from) ≡ b →
        cond b (drawn_from v.receiving q.from + cond (is_next_due v q) 1 0) (drawn_from v.receiving from)
        ≡ count_continued (pulled_from from log ++ cons_option (cond b (Some (pulled v q)) None) [])
    by_drawn from true same =
        ap (λ (k : ℕ). k + cond (is_next_due v q) 1 0)
        (ap (λ (i : ℕ). drawn_from v.receiving i) (same_number q.from from same) ∙ old.drawn from)
        ∙ sym (count_continued-push (pulled_from from log) (pulled v q))
    by_drawn from false other =
        old.drawn from
        ∙ ap (λ (ds : List Pulled). count_continued ds) (sym (append-nil (pulled_from from log)))
