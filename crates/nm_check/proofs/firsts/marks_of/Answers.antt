use Rattle.std.proofs.Common.{◌≡◌, ℕ, ◌+◌, ◌∷◌, [], length, sym, ◌∙◌, ap, subst, length-append}
use Rattle.nm_report.specs.Ends.{ends_of}
use Rattle.nm_check.specs.Marked.{AreLooked, AreMarks}
use Rattle.nm_check.proofs.ItemLemmas.{one_more}
use Rattle.nm_check.proofs.TableLemmas.{own_at, table_inside}
use Rattle.nm_check.proofs.firsts.marks_of.Goals as goal

pub bounds-tables-x : goal.bounds-tables-x
bounds-tables-x c = table_inside c.args.ranks.now c.args.tables.now c.loop-x.x (c.args.lines.now, c.requires.tabled)
    c.loop-x-test.true

pub marks_at-requires : goal.marks_at-requires
marks_at-requires c =
    let looked : AreLooked c.args.lines.now (ends_of c.args.ranks.now) c.args.tables.now =
    record { lawful = c.requires.lawful; tabled = c.requires.tabled } in
    rw c.as_slice-events.ensures (record {
      own = own_at c.args.lines.now c.args.ranks.now c.args.tables.now c.loop-x.x c.index-ranks-x.result
          c.index-tables-x.result looked c.loop-x-test.true c.index-ranks-x.is c.index-tables-x.is;
      looked = looked;
    })

pub loop-x-preserved : goal.loop-x-preserved
loop-x-preserved c =
    let many : length c.loop-x.marks.items ≡ c.loop-x.x = c.loop-x.invariant.0 in
    rw c.in_ok-push.ensures.items (
      length-append c.loop-x.marks.items (c.marks_at.result ∷ []) ∙ ap (λ (n : ℕ). n + 1) many,
      one_more (AreMarks c.args.lines.now (ends_of c.args.ranks.now)) c.loop-x.marks.items c.marks_at.result
          c.loop-x.invariant.1
          (subst (λ (n : ℕ). AreMarks c.args.lines.now (ends_of c.args.ranks.now) n c.marks_at.result) (sym many)
          c.marks_at.ensures),
    )
