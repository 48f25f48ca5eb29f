use Rattle.std.proofs.Common.{ℕ, ◌+◌, [], ◌∷◌, Some, None, sym, refl, ap, ◌∙◌, subst, arith}
use Rattle.std.proofs.lemmas.Bool.{false≢true}
use Rattle.std.proofs.lemmas.List.{set-set}
use Rattle.nm_chain.specs.Update.{update}
use Rattle.nm_chain.specs.Plays.{with_emptying, with_got_box, box_load}
use Rattle.nm_cells.specs.Ports.{knows, Empties}
use Rattle.nm_fastbox.proofs.moves.take.Goals as goal

pub empty_box-requires-clause-taking : goal.empty_box-requires-clause-taking
empty_box-requires-clause-taking g c = let s = c.args.sender in let m = c.load_box_in.new.port in
    subst (λ (t : ℕ → ℕ). Empties m s (t s)) (sym c.load_box_in.ensures.stays.2.0)
    (c.if-not-load_box_in.ensures.found refl).0

pub returns-clause-keeps : goal.returns-clause-keeps
returns-clause-keeps g c = let a = c.load_box_in.ensures in let b = c.empty_box.ensures in record {
  owns = b.owns.0;
  rank = b.owns.1 ∙ a.stays.1;
  loose = b.owns.2 ∙ a.stays.3;
  holds = b.holding ∙ a.holding;
  held = b.others.0 ∙ a.stays.2.1;
  unpassed = b.others.1 ∙ a.stays.2.2;
}

pub returns-then-not-load_box_in-clause-keeps : goal.returns-then-not-load_box_in-clause-keeps
returns-then-not-load_box_in-clause-keeps g c = let a = c.load_box_in.ensures in record {
  owns = a.stays.0;
  rank = a.stays.1;
  loose = a.stays.3;
  holds = a.holding;
  held = a.stays.2.1;
  unpassed = a.stays.2.2;
}

pub returns-clause-took : goal.returns-clause-took
returns-clause-took g c = let p = c.args.port.now in let s = c.args.sender in
    let m = c.load_box_in.new.port in let e = c.empty_box.ensures in
    let there = c.if-not-load_box_in.ensures.found refl in
    let same = c.load_box_in.ensures.stays.2.0 in
    let came = Some c.empty_box.result.value ∷ [] in record {
      sender = e.parcel.1;
      number = e.parcel.2 ∙ ap (λ (t : ℕ → ℕ). t s) same;
      got = e.got ∙ (λ i. with_got_box came (with_emptying s None (there.1 i)))
          ∙ (λ i. with_got_box came (record (knows p) {
            emptying = set-set (knows p).emptying s (Some (box_load s (knows m))) None i;
          }));
      taken = e.taken ∙ (λ i. update (same i) s (same i s + 1));
      hands = e.hands ∙ there.2;
    }

pub returns-then-not-load_box_in-clause-missed : goal.returns-then-not-load_box_in-clause-missed
returns-then-not-load_box_in-clause-missed g c = let a = c.if-not-load_box_in.ensures in
    let missed = a.missed refl in (
      refl,
      record {
        counted = missed.0;
        taken = a.stays.2.0;
        hands = missed.1;
        in_turn = λ over. false≢true (a.overtaken over);
      },
    )

pub returns-clause-cost : goal.returns-clause-cost
returns-clause-cost g c = let first = c.load_box_in.ensures.cost in let then = c.empty_box.ensures.cost in
    omega (arith, first, then)
