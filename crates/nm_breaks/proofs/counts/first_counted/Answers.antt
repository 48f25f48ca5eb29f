use Rattle.std.proofs.Common.{◌≡◌, List, Option, ◌∙◌, ap, subst, sym}
use Rattle.std.specs.Prelude.{option_map, slice_get}
use Rattle.std.proofs.lemmas.Option.{slice_get-map}
use Rattle.nm_history.specs.Quiescence.{Packets, packets_of as packets_due}
use Rattle.nm_report.specs.declared.pairs.PairCount.{PairCount}
use Rattle.nm_report.specs.Ends.{ends_of, packets_of}
use Rattle.nm_check_rank.specs.Differ.{DifferFirstAt}
use Rattle.nm_check.specs.Counting.{counted_pair}
use Rattle.nm_breaks.proofs.SpotLemmas.{each_short}
use Rattle.nm_breaks.proofs.counts.first_counted.Goals as goal

pub counts_due-requires : goal.counts_due-requires
counts_due-requires c = record {
  few = c.requires.few;
  short = each_short (ends_of c.args.ranks.now) 67108864 c.requires.short;
  tabled = c.requires.tabled;
}

pub returns-in-Some : goal.returns-in-Some
returns-in-Some c = λ lines.
    let due : packets_of c.as_slice-called.result.now ≡ packets_due lines (ends_of c.args.ranks.now) =
    ap packets_of c.as_slice-called.ensures.value ∙ c.in_ok-due.ensures lines in
    record {
      differ = subst (λ (ps : List Packets). DifferFirstAt (packets_of c.args.pairs.now) ps c.in-Some.at) due
          c.in-Some.ensures;
      called = ap (λ (o : Option PairCount). option_map counted_pair o) c.count_at-called.ensures
          ∙ sym (slice_get-map counted_pair c.as_slice-called.result.now c.in-Some.at)
          ∙ ap (λ (ps : List Packets). slice_get ps c.in-Some.at) due;
      found = c.count_at-found.ensures;
    }

pub returns : goal.returns
returns c = λ lines.
    c.in-None.ensures ∙ ap packets_of c.as_slice-called.ensures.value ∙ c.in_ok-due.ensures lines
