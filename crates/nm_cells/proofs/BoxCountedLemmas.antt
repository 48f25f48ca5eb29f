-- What a look at a box does to a port's counts.
use Rattle.std.proofs.Common.{ℕ, ◌<◌, Option}
use Rattle.std.proofs.Common.{Some, None, is_some, Bool, true, false, List}
use Rattle.std.proofs.Common.{set, sym, refl, ap, ◌∙◌, arith}
use Rattle.std.proofs.Common.{length-set, get_or-set_same}
use Rattle.std.proofs.Common.{get_or-set_other}
use Rattle.std.specs.Prelude.{slice_index}
use Rattle.nm_chain.specs.declared.table.parcels.Parcel.{Parcel}
use Rattle.nm_cells.specs.declared.tallies.Tally.{Tally}
use Rattle.nm_chain.specs.Rule.{Load}
use Rattle.nm_chain.specs.Plays.{raised}
use Rattle.nm_cells.specs.Counted.{CountsOne}
use Rattle.nm_cells.specs.Counted.{Counts, with_peer, one_opened}
use Rattle.nm_cells.specs.Counted.{one_begun, one_full, one_miss}
use Rattle.nm_cells.proofs.CountedLemmas.{peers_but, in_peers, as_long, same_held}

module _ {A : Type 0} (put : List (ℕ × Load A)) (got : List (Load A)) (put_box : List (ℕ × Load A))
    (got_box : List (Load A))
    (full miss : List ℕ) (filling : List Bool) (emptying : List (Option (Load A))) (n : ℕ)
    (peers : List Tally) (held : Option (Parcel A))
    (c : Counts put got put_box got_box full miss filling emptying n peers held) where
  -- the next box for a rank is being filled
  pub box_opened : (j : ℕ) → j < n → Counts put got put_box got_box full miss
      (set filling j true) emptying n (with_peer one_opened j peers) held
  box_opened j lj = record {
    count = as_long peers c.count one_opened j;
    fulls = c.fulls;
    misses = c.misses;
    outs = length-set filling j true ∙ c.outs;
    ins = c.ins;
    each = λ i li. peers_but one_opened j peers (λ i p. i < n
        → CountsOne put got put_box got_box full miss (set filling j true) emptying i p) (in_peers peers c.count j lj)
        (λ li. let o = c.each j li in record {
          sent = o.sent;
          box_put = o.box_put;
          box_got = o.box_got;
          box_full = o.box_full;
          box_miss = o.box_miss;
          is_filling = sym (get_or-set_same filling j true false (let f = c.outs in omega arith));
          is_emptying = o.is_emptying;
          in_range = o.in_range;
          few = o.few;
          came = o.came;
          passed = o.passed;
          rises = o.rises;
          unpassed = o.unpassed;
        })
        (λ i ne li. let o = c.each i li in record {
          sent = o.sent;
          box_put = o.box_put;
          box_got = o.box_got;
          box_full = o.box_full;
          box_miss = o.box_miss;
          is_filling = o.is_filling ∙ sym (get_or-set_other filling j i true false ne);
          is_emptying = o.is_emptying;
          in_range = o.in_range;
          few = o.few;
          came = o.came;
          passed = o.passed;
          rises = o.rises;
          unpassed = o.unpassed;
        }) i li;
    holds = same_held n got peers held c.count c.holds one_opened j lj (λ p. refl);
  }

  -- the next box of a rank is being emptied
  pub box_begun : (j : ℕ) (y : Load A) → j < n → Counts put got put_box got_box full miss filling
      (set emptying j (Some y)) n (with_peer one_begun j peers) held
  box_begun j y lj = record {
    count = as_long peers c.count one_begun j;
    fulls = c.fulls;
    misses = c.misses;
    outs = c.outs;
    ins = length-set emptying j (Some y) ∙ c.ins;
    each = λ i li. peers_but one_begun j peers (λ i p. i < n
        → CountsOne put got put_box got_box full miss filling (set emptying j (Some y)) i p)
        (in_peers peers c.count j lj)
        (λ li. let o = c.each j li in record {
          sent = o.sent;
          box_put = o.box_put;
          box_got = o.box_got;
          box_full = o.box_full;
          box_miss = o.box_miss;
          is_filling = o.is_filling;
          is_emptying = ap is_some
              (sym (get_or-set_same emptying j (Some y) None (let f = c.ins in omega arith)));
          in_range = o.in_range;
          few = o.few;
          came = o.came;
          passed = o.passed;
          rises = o.rises;
          unpassed = o.unpassed;
        })
        (λ i ne li. let o = c.each i li in record {
          sent = o.sent;
          box_put = o.box_put;
          box_got = o.box_got;
          box_full = o.box_full;
          box_miss = o.box_miss;
          is_filling = o.is_filling;
          is_emptying = o.is_emptying
              ∙ ap is_some (sym (get_or-set_other emptying j i (Some y) None ne));
          in_range = o.in_range;
          few = o.few;
          came = o.came;
          passed = o.passed;
          rises = o.rises;
          unpassed = o.unpassed;
        }) i li;
    holds = same_held n got peers held c.count c.holds one_begun j lj (λ p. refl);
  }

  -- a box was found full
  pub box_found_full : (j : ℕ) → j < n
      → Counts put got put_box got_box (set full j (raised (slice_index full j))) miss filling
      emptying n (with_peer one_full j peers) held
  box_found_full j lj = record {
    count = as_long peers c.count one_full j;
    fulls = length-set full j (raised (slice_index full j)) ∙ c.fulls;
    misses = c.misses;
    outs = c.outs;
    ins = c.ins;
    each = λ i li. peers_but one_full j peers (λ i p. i < n
        → CountsOne put got put_box got_box (set full j (raised (slice_index full j))) miss filling
        emptying i p) (in_peers peers c.count j lj)
        (λ li. let o = c.each j li in record {
          sent = o.sent;
          box_put = o.box_put;
          box_got = o.box_got;
          box_full = ap raised o.box_full
              ∙ sym (get_or-set_same full j (raised (slice_index full j)) 0 (let f = c.fulls in
              omega arith));
          box_miss = o.box_miss;
          is_filling = o.is_filling;
          is_emptying = o.is_emptying;
          in_range = o.in_range;
          few = o.few;
          came = o.came;
          passed = o.passed;
          rises = o.rises;
          unpassed = o.unpassed;
        })
        (λ i ne li. let o = c.each i li in record {
          sent = o.sent;
          box_put = o.box_put;
          box_got = o.box_got;
          box_full = o.box_full
              ∙ sym (get_or-set_other full j i (raised (slice_index full j)) 0 ne);
          box_miss = o.box_miss;
          is_filling = o.is_filling;
          is_emptying = o.is_emptying;
          in_range = o.in_range;
          few = o.few;
          came = o.came;
          passed = o.passed;
          rises = o.rises;
          unpassed = o.unpassed;
        }) i li;
    holds = same_held n got peers held c.count c.holds one_full j lj (λ p. refl);
  }

  -- a box didn't have the awaited number
  pub box_missed : (j : ℕ) → j < n
      → Counts put got put_box got_box full (set miss j (raised (slice_index miss j))) filling
      emptying n (with_peer one_miss j peers) held
  box_missed j lj = record {
    count = as_long peers c.count one_miss j;
    fulls = c.fulls;
    misses = length-set miss j (raised (slice_index miss j)) ∙ c.misses;
    outs = c.outs;
    ins = c.ins;
    each = λ i li. peers_but one_miss j peers (λ i p. i < n → CountsOne put got put_box got_box full
        (set miss j (raised (slice_index miss j))) filling emptying i p) (in_peers peers c.count j lj)
        (λ li. let o = c.each j li in record {
          sent = o.sent;
          box_put = o.box_put;
          box_got = o.box_got;
          box_full = o.box_full;
          box_miss = ap raised o.box_miss
              ∙ sym (get_or-set_same miss j (raised (slice_index miss j)) 0 (let f = c.misses in
              omega arith));
          is_filling = o.is_filling;
          is_emptying = o.is_emptying;
          in_range = o.in_range;
          few = o.few;
          came = o.came;
          passed = o.passed;
          rises = o.rises;
          unpassed = o.unpassed;
        })
        (λ i ne li. let o = c.each i li in record {
          sent = o.sent;
          box_put = o.box_put;
          box_got = o.box_got;
          box_full = o.box_full;
          box_miss = o.box_miss
              ∙ sym (get_or-set_other miss j i (raised (slice_index miss j)) 0 ne);
          is_filling = o.is_filling;
          is_emptying = o.is_emptying;
          in_range = o.in_range;
          few = o.few;
          came = o.came;
          passed = o.passed;
          rises = o.rises;
          unpassed = o.unpassed;
        }) i li;
    holds = same_held n got peers held c.count c.holds one_miss j lj (λ p. refl);
  }
