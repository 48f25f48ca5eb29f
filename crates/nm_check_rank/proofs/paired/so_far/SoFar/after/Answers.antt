use Rattle.std.proofs.Common.{◌≡◌, ◌<◌, List, length, take, refl, sym, ◌∙◌, ap, arith}
use Rattle.std.proofs.lemmas.List.{length-take-le}
use Rattle.std.proofs.lemmas.Option.{get_or_from_slice_get, slice_get_within}
use Rattle.nm_types.proofs.ListLemmas.{take_next}
use Rattle.nm_history.specs.declared.events.Event.{Event}
use Rattle.nm_history.specs.RankRun.{last_stamp, ran_lines}
use Rattle.nm_history.proofs.EarlierLemmas.{last_stamp-push}
use Rattle.nm_check_rank.proofs.SoFarLemmas.{ran_next}
use Rattle.nm_check_rank.proofs.paired.so_far.SoFar.after.Goals as goal

pub returns : goal.returns
returns c = λ h here short so_far.
    let e = c.args.e.now in
    let k = c.args.k in
    let before = take k h in
    let inside : k < length h = slice_get_within h k e here in
    let front : length before ≡ k = length-take-le k h (omega (arith, inside)) in
    let next = take_next h k e inside (sym (get_or_from_slice_get h k e e here)) in
    record {
      stamp = sym (ap (λ (g : List Event). last_stamp g) next ∙ last_stamp-push before e);
      ran = ran_next before e c.args.self.ran c.ran_after-ran.result c.line_ran-line.result c.line_ran-line.ensures
          so_far.ran (omega (arith, front, short)) c.ran_after-ran.ensures
          ∙ sym (ap (λ (g : List Event). length (ran_lines g)) next);
      claims = c.after-claims.ensures h e here refl so_far.claims;
      starts = c.after-starts.ensures h e here refl so_far.starts;
      cancels = c.after-cancels.ensures h e here refl so_far.cancels;
    }
