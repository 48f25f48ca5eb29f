-- The turns after a call: it is the next one of the thread's program, and what is noted of the thread
-- goes on by it, where the log grew.
use Rattle.std.proofs.Common.{◌≡◌, ◌<◌, false, List, length, refl, sym, ◌∙◌, ap, subst, arith}
use Rattle.std.proofs.Common.{true≢false}
use Rattle.std.specs.Prelude.{MatchOption, slice_get, slice_set}
use Rattle.std.proofs.lemmas.List.{get_or_read}
use Rattle.nm_multi.specs.declared.calls.Entry.{Entry}
use Rattle.nm_multi.specs.Programs.{AreTurns, HasMadeAll, SameTurns, TurnsView, no_progress, progress_after}
use Rattle.nm_multi.proofs.Turning.{IsNext, IsNoted, by_err, goes_on, made_all, not_all, same_turns}
use Rattle.nm_multi.proofs.turns.Turns.next.Goals as goal

pub returns-then-progress-from-clause-last : goal.returns-then-progress-from-clause-last
returns-then-progress-from-clause-last c =
    let d = c.self.inside in
    let v : TurnsView = record { desk = d.desk; threads = d.threads; rounds = d.rounds } in
    let items = d.progress.items in
    let t = c.args.who in
    let within : t < v.threads = subst (λ (x : TurnsView). t < x.threads) (sym c.self.view_is) c.requires.who in
    let p = c.index.result.now in
    let many = c.self.invariant.many in
    let noted = sym (get_or_read items t p (omega (arith, many, within)) c.index.ensures no_progress) in
    let from = c.from.ensures in
    let past = c.if-progress-from.true in (
      (λ _. subst (λ (x : TurnsView). HasMadeAll x t) c.self.view_is
          (made_all d.shape v items t p c.self.invariant within noted (omega (arith, from, past)))),
      (λ _. refl),
    )

pub invariant_of-self : goal.invariant_of-self
invariant_of-self c =
    let d = c.self.inside in
    let v : TurnsView = record { desk = d.desk; threads = d.threads; rounds = d.rounds } in
    let items = d.progress.items in
    let t = c.args.who in
    let within : t < v.threads = subst (λ (x : TurnsView). t < x.threads) (sym c.self.view_is) c.requires.who in
    let p = c.index.result.now in
    let many = c.self.invariant.many in
    let noted = sym (get_or_read items t p (omega (arith, many, within)) c.index.ensures no_progress) in
    let from = c.from.ensures in
    let past = c.if-progress-from.false in
    let is : IsNext v items t p c.next_call.result =
    record { within = within; noted = noted; left = omega (arith, from, past); call = c.next_call.ensures } in
    let desk = c.make-made.new.self in
    let q = c.with_entry.result in
    let note : IsNoted v.desk desk p q =
    record {
      place = c.len-before.result;
      at = c.len-before.ensures ∙ ap (λ (es : List Entry). length es) c.log.ensures.log;
      is = subst (λ (es : List Entry). MatchOption (slice_get es c.len-before.result) (q ≡ p)
          (λ e. q ≡ progress_after p e.reply)) c.log-2.ensures.log c.with_entry.ensures;
    } in
    let now : AreTurns d.shape (record v { desk = desk }) (slice_set items t q) =
    by_err d.shape v desk items t p q c.next_call.result c.self.invariant is note
    c.in_err-made.ensures.err in
    now

pub returns-in_err-made-clause-same : goal.returns-in_err-made-clause-same
returns-in_err-made-clause-same c =
    let d = c.self.inside in
    let v : TurnsView = record { desk = d.desk; threads = d.threads; rounds = d.rounds } in
    let items = d.progress.items in
    let t = c.args.who in
    let within : t < v.threads = subst (λ (x : TurnsView). t < x.threads) (sym c.self.view_is) c.requires.who in
    let p = c.index.result.now in
    let many = c.self.invariant.many in
    let noted = sym (get_or_read items t p (omega (arith, many, within)) c.index.ensures no_progress) in
    let from = c.from.ensures in
    let past = c.if-progress-from.false in
    let is : IsNext v items t p c.next_call.result =
    record { within = within; noted = noted; left = omega (arith, from, past); call = c.next_call.ensures } in
    let desk = c.make-made.new.self in
    let q = c.with_entry.result in
    let note : IsNoted v.desk desk p q =
    record {
      place = c.len-before.result;
      at = c.len-before.ensures ∙ ap (λ (es : List Entry). length es) c.log.ensures.log;
      is = subst (λ (es : List Entry). MatchOption (slice_get es c.len-before.result) (q ≡ p)
          (λ e. q ≡ progress_after p e.reply)) c.log-2.ensures.log c.with_entry.ensures;
    } in
    let now : AreTurns d.shape (record v { desk = desk }) (slice_set items t q) =
    by_err d.shape v desk items t p q c.next_call.result c.self.invariant is note
    c.in_err-made.ensures.err in
    subst (λ (x : TurnsView). SameTurns x (record v { desk = desk })) c.self.view_is
    (same_turns d.shape v (record v { desk = desk }) items (slice_set items t q) c.self.invariant now refl refl)

pub returns-in_err-made-clause-programs : goal.returns-in_err-made-clause-programs
returns-in_err-made-clause-programs c =
    let d = c.self.inside in
    let v : TurnsView = record { desk = d.desk; threads = d.threads; rounds = d.rounds } in
    let items = d.progress.items in
    let t = c.args.who in
    let within : t < v.threads = subst (λ (x : TurnsView). t < x.threads) (sym c.self.view_is) c.requires.who in
    let p = c.index.result.now in
    let many = c.self.invariant.many in
    let noted = sym (get_or_read items t p (omega (arith, many, within)) c.index.ensures no_progress) in
    let from = c.from.ensures in
    let past = c.if-progress-from.false in
    let is : IsNext v items t p c.next_call.result =
    record { within = within; noted = noted; left = omega (arith, from, past); call = c.next_call.ensures } in
    let desk = c.make-made.new.self in
    let q = c.with_entry.result in
    let note : IsNoted v.desk desk p q =
    record {
      place = c.len-before.result;
      at = c.len-before.ensures ∙ ap (λ (es : List Entry). length es) c.log.ensures.log;
      is = subst (λ (es : List Entry). MatchOption (slice_get es c.len-before.result) (q ≡ p)
          (λ e. q ≡ progress_after p e.reply)) c.log-2.ensures.log c.with_entry.ensures;
    } in
    let now : AreTurns d.shape (record v { desk = desk }) (slice_set items t q) =
    by_err d.shape v desk items t p q c.next_call.result c.self.invariant is note
    c.in_err-made.ensures.err in
    now.programs

pub invariant_of-self-2 : goal.invariant_of-self-2
invariant_of-self-2 c =
    let d = c.self.inside in
    let v : TurnsView = record { desk = d.desk; threads = d.threads; rounds = d.rounds } in
    let items = d.progress.items in
    let t = c.args.who in
    let within : t < v.threads = subst (λ (x : TurnsView). t < x.threads) (sym c.self.view_is) c.requires.who in
    let p = c.index.result.now in
    let many = c.self.invariant.many in
    let noted = sym (get_or_read items t p (omega (arith, many, within)) c.index.ensures no_progress) in
    let from = c.from.ensures in
    let past = c.if-progress-from.false in
    let is : IsNext v items t p c.next_call.result =
    record { within = within; noted = noted; left = omega (arith, from, past); call = c.next_call.ensures } in
    let desk = c.make-made.new.self in
    let q = c.with_entry.result in
    let note : IsNoted v.desk desk p q =
    record {
      place = c.len-before.result;
      at = c.len-before.ensures ∙ ap (λ (es : List Entry). length es) c.log.ensures.log;
      is = subst (λ (es : List Entry). MatchOption (slice_get es c.len-before.result) (q ≡ p)
          (λ e. q ≡ progress_after p e.reply)) c.log-2.ensures.log c.with_entry.ensures;
    } in
    let now : AreTurns d.shape (record v { desk = desk }) (slice_set items t q) =
    goes_on d.shape v desk items t false p q c.next_call.result c.self.invariant is
    c.in_ok-made.ensures.made note in
    now

pub returns-clause-last : goal.returns-clause-last
returns-clause-last c =
    let d = c.self.inside in
    let v : TurnsView = record { desk = d.desk; threads = d.threads; rounds = d.rounds } in
    let items = d.progress.items in
    let t = c.args.who in
    let within : t < v.threads = subst (λ (x : TurnsView). t < x.threads) (sym c.self.view_is) c.requires.who in
    let p = c.index.result.now in
    let many = c.self.invariant.many in
    let noted = sym (get_or_read items t p (omega (arith, many, within)) c.index.ensures no_progress) in
    let from = c.from.ensures in
    let past = c.if-progress-from.false in
    let is : IsNext v items t p c.next_call.result =
    record { within = within; noted = noted; left = omega (arith, from, past); call = c.next_call.ensures } in
    let desk = c.make-made.new.self in
    let q = c.with_entry.result in
    let note : IsNoted v.desk desk p q =
    record {
      place = c.len-before.result;
      at = c.len-before.ensures ∙ ap (λ (es : List Entry). length es) c.log.ensures.log;
      is = subst (λ (es : List Entry). MatchOption (slice_get es c.len-before.result) (q ≡ p)
          (λ e. q ≡ progress_after p e.reply)) c.log-2.ensures.log c.with_entry.ensures;
    } in (
      (λ clash. absurd (true≢false clash)),
      (λ all. absurd (not_all d.shape v items t p c.next_call.result c.self.invariant is
          (subst (λ (x : TurnsView). HasMadeAll x t) (sym c.self.view_is) all))),
    )

pub returns-clause-same : goal.returns-clause-same
returns-clause-same c =
    let d = c.self.inside in
    let v : TurnsView = record { desk = d.desk; threads = d.threads; rounds = d.rounds } in
    let items = d.progress.items in
    let t = c.args.who in
    let within : t < v.threads = subst (λ (x : TurnsView). t < x.threads) (sym c.self.view_is) c.requires.who in
    let p = c.index.result.now in
    let many = c.self.invariant.many in
    let noted = sym (get_or_read items t p (omega (arith, many, within)) c.index.ensures no_progress) in
    let from = c.from.ensures in
    let past = c.if-progress-from.false in
    let is : IsNext v items t p c.next_call.result =
    record { within = within; noted = noted; left = omega (arith, from, past); call = c.next_call.ensures } in
    let desk = c.make-made.new.self in
    let q = c.with_entry.result in
    let note : IsNoted v.desk desk p q =
    record {
      place = c.len-before.result;
      at = c.len-before.ensures ∙ ap (λ (es : List Entry). length es) c.log.ensures.log;
      is = subst (λ (es : List Entry). MatchOption (slice_get es c.len-before.result) (q ≡ p)
          (λ e. q ≡ progress_after p e.reply)) c.log-2.ensures.log c.with_entry.ensures;
    } in
    let now : AreTurns d.shape (record v { desk = desk }) (slice_set items t q) =
    goes_on d.shape v desk items t false p q c.next_call.result c.self.invariant is
    c.in_ok-made.ensures.made note in
    subst (λ (x : TurnsView). SameTurns x (record v { desk = desk })) c.self.view_is
    (same_turns d.shape v (record v { desk = desk }) items (slice_set items t q) c.self.invariant now refl refl)

pub returns-clause-programs : goal.returns-clause-programs
returns-clause-programs c =
    let d = c.self.inside in
    let v : TurnsView = record { desk = d.desk; threads = d.threads; rounds = d.rounds } in
    let items = d.progress.items in
    let t = c.args.who in
    let within : t < v.threads = subst (λ (x : TurnsView). t < x.threads) (sym c.self.view_is) c.requires.who in
    let p = c.index.result.now in
    let many = c.self.invariant.many in
    let noted = sym (get_or_read items t p (omega (arith, many, within)) c.index.ensures no_progress) in
    let from = c.from.ensures in
    let past = c.if-progress-from.false in
    let is : IsNext v items t p c.next_call.result =
    record { within = within; noted = noted; left = omega (arith, from, past); call = c.next_call.ensures } in
    let desk = c.make-made.new.self in
    let q = c.with_entry.result in
    let note : IsNoted v.desk desk p q =
    record {
      place = c.len-before.result;
      at = c.len-before.ensures ∙ ap (λ (es : List Entry). length es) c.log.ensures.log;
      is = subst (λ (es : List Entry). MatchOption (slice_get es c.len-before.result) (q ≡ p)
          (λ e. q ≡ progress_after p e.reply)) c.log-2.ensures.log c.with_entry.ensures;
    } in
    let now : AreTurns d.shape (record v { desk = desk }) (slice_set items t q) =
    goes_on d.shape v desk items t false p q c.next_call.result c.self.invariant is
    c.in_ok-made.ensures.made note in
    now.programs
