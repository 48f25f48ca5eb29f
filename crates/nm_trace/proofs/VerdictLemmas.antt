-- What a text tells, and what that says of the traces that it is or begins.
use Rattle.std.proofs.Common.{◌≡◌, ℕ, zero, suc, ◌+◌, ◌≤◌, ◌<◌, ◌^◌, ◌⊎◌, inl, inr, Bool, true, false, not}
use Rattle.std.proofs.Common.{◌&&◌, List, [], ◌∷◌, ◌++◌, length, take, Some, None, Result, Ok, Err}
use Rattle.std.proofs.Common.{refl, sym, ap, ◌∙◌, arith, append_assoc, eqb, leb, ltb}
use Rattle.std.specs.List.{list_all}
use Rattle.std.specs.Result.{IfErr, IfOk, MatchResult}
use Rattle.std.proofs.lemmas.Bool.{and_from, and_parts, eqb-false, eqb-true, ltb-false, ltb-true}
use Rattle.std.proofs.lemmas.Bool.{not-true, not_from_false}
use Rattle.std.proofs.lemmas.Bool.Decides.{nat_tests}
use Rattle.std.proofs.lemmas.List.{append-nil, length-map}
use Rattle.nm_types.specs.Sizes.{Sizes}
use Rattle.nm_report.specs.declared.records.RunRecord.{RunRecord}
use Rattle.nm_report.specs.Ends.{ends_of}
use Rattle.nm_report.specs.Lawful.{SameRun}
use Rattle.nm_script.specs.Lines.{ended_lines, is_printable}
use Rattle.nm_trace.specs.declared.faults.TraceFault.{TraceFault}
use Rattle.nm_trace.specs.declared.faults.TraceFault.TheVariants as fault
use Rattle.nm_trace.specs.Lines.{cut_lines, onto_lines, whole_lines}
use Rattle.nm_trace.specs.Machine.{Trace, Stage, Noting, Counting, Telling, Closing, Over, fed, feed, start}
use Rattle.nm_trace.specs.Outcome.{Stops, at_end, outcome, told}
use Rattle.nm_trace.specs.Texts.{trace_of}
use Rattle.nm_trace.specs.Traces.{Begins, IsFirstBad, IsTraceOf, Names}
use Rattle.nm_trace.proofs.BeginLemmas.{state_begins}
use Rattle.nm_trace.proofs.CompleteLemmas.{fed_step, trace_lines, trace_prints, trace_told}
use Rattle.nm_trace.proofs.FeedLemmas.{fed_text}
use Rattle.nm_trace.proofs.FieldLemmas.{bind_some}
use Rattle.nm_trace.proofs.OutcomeLemmas.{some_or_none}
use Rattle.nm_trace.proofs.ReportLemmas.{report_is}
use Rattle.nm_trace.proofs.SoundLemmas.{true_or_false}
use Rattle.nm_trace.proofs.WithinLemmas.{Within, fed_within}

-- no byte is a line feed
abbrev is_line : List ℕ → Bool
is_line line = list_all (λ b. not (eqb b 10)) line

abbrev Unfed : List (List ℕ) → Type 0
Unfed lines = list_all is_line lines ≡ true

print_byte : (b : ℕ) → (leb 32 b && leb b 126) ≡ true → not (eqb b 10) ≡ true
print_byte b h = grind (arith, nat_tests)

print_line : (line : List ℕ) → is_printable line ≡ true → is_line line ≡ true
print_line [] h = refl
print_line (b ∷ line) h =
    let p = and_parts (leb 32 b && leb b 126) (is_printable line) h in
    and_from _ _ (print_byte b p.0) (print_line line p.1)

print_unfed : (lines : List (List ℕ)) → list_all is_printable lines ≡ true → Unfed lines
print_unfed [] h = refl
print_unfed (line ∷ lines) h =
    let p = and_parts (is_printable line) (list_all is_printable lines) h in
    and_from _ _ (print_line line p.0) (print_unfed lines p.1)

onto_unfed : (b : ℕ) (lines : List (List ℕ)) (behind : List ℕ) → eqb b 10 ≡ false → Unfed lines
    → Unfed (onto_lines b lines behind).0
onto_unfed b [] behind other h = refl
onto_unfed b (line ∷ lines) behind other h =
    let p = and_parts (is_line line) (list_all is_line lines) h in
    and_from _ _ (and_from _ _ (not_from_false (eqb b 10) other) p.0) p.1

whole_unfed : (bytes : List ℕ) → Unfed (cut_lines bytes).0
whole_unfed [] = refl
whole_unfed (b ∷ bytes) =
    elim (true_or_false (eqb b 10)) [
      | inl e ↦ rw e (whole_unfed bytes)
      | inr e ↦ rw e (onto_unfed b (cut_lines bytes).0 (cut_lines bytes).1 e (whole_unfed bytes))
    ]

take_unfed : (n : ℕ) (lines : List (List ℕ)) → Unfed lines → Unfed (take n lines)
take_unfed zero lines h = refl
take_unfed (suc n) [] h = refl
take_unfed (suc n) (line ∷ lines) h =
    let p = and_parts (is_line line) (list_all is_line lines) h in
    and_from _ _ p.0 (take_unfed n lines p.1)

-- the bytes are their lines and what is behind them
onto_text : (b : ℕ) (lines : List (List ℕ)) (behind : List ℕ)
    → ended_lines (onto_lines b lines behind).0 ++ (onto_lines b lines behind).1
    ≡ b ∷ (ended_lines lines ++ behind)
onto_text b [] behind = refl
onto_text b (line ∷ lines) behind = refl

fed_byte : (b : ℕ) (bytes : List ℕ) → eqb b 10 ≡ true → 10 ∷ bytes ≡ b ∷ bytes
fed_byte b bytes e = ap (λ (x : ℕ). x ∷ bytes) (sym (eqb-true b 10 e))

whole_text : (bytes : List ℕ) → ended_lines (cut_lines bytes).0 ++ (cut_lines bytes).1 ≡ bytes
whole_text [] = refl
whole_text (b ∷ bytes) =
    elim (true_or_false (eqb b 10)) [
      | inl e ↦
          rw e (ap (λ (x : List ℕ). 10 ∷ x) (whole_text bytes) ∙ fed_byte b bytes e)
      | inr e ↦
          rw e (onto_text b (cut_lines bytes).0 (cut_lines bytes).1
          ∙ ap (λ (x : List ℕ). b ∷ x) (whole_text bytes))
    ]

-- lines without line feeds are cut again
cut_line : (line rest : List ℕ) → is_line line ≡ true
    → cut_lines (line ++ 10 ∷ rest) ≡ (line ∷ (cut_lines rest).0, (cut_lines rest).1)
cut_line [] rest h = refl
cut_line (b ∷ line) rest h =
    let p = and_parts (not (eqb b 10)) (is_line line) h in
    rw (not-true (eqb b 10) p.0) (rw (cut_line line rest p.1) refl)

cut_again : (lines : List (List ℕ)) (behind : List ℕ) → Unfed lines
    → cut_lines (ended_lines lines ++ behind) ≡ (lines ++ (cut_lines behind).0, (cut_lines behind).1)
cut_again [] behind h = refl
cut_again (line ∷ lines) behind h =
    let p = and_parts (is_line line) (list_all is_line lines) h in
    let text : ((line ++ 10 ∷ []) ++ ended_lines lines) ++ behind ≡ line ++ 10 ∷ (ended_lines lines ++ behind) =
    simp append_assoc in
    rw text (cut_line line (ended_lines lines ++ behind) p.0
    ∙ ap (λ (x : List (List ℕ) × List ℕ). (line ∷ x.0, x.1)) (cut_again lines behind p.1))

-- a step of an outcome
stop_none : (ranks : ℕ) (s : Stage) (line : List ℕ) (lines : List (List ℕ)) (behind : List ℕ) (number : ℕ)
    → feed ranks s line ≡ None → outcome ranks s (line ∷ lines) behind number ≡ Err number
stop_none ranks s line lines behind number none = rw none refl

stop_some : (ranks : ℕ) (s : Stage) (line : List ℕ) (lines : List (List ℕ)) (behind : List ℕ) (number : ℕ)
    (t : Stage) → feed ranks s line ≡ Some t
    → outcome ranks s (line ∷ lines) behind number ≡ outcome ranks t lines behind (number + 1)
stop_some ranks s line lines behind number t some = rw some refl

fed_none : (ranks : ℕ) (s : Stage) (line : List ℕ) (lines : List (List ℕ)) → feed ranks s line ≡ None
    → fed ranks s (line ∷ lines) ≡ None
fed_none ranks s line lines none = rw none refl

-- lines that tell a whole trace
outcome_whole : (ranks : ℕ) (s : Stage) (lines : List (List ℕ)) (number : ℕ) (t : Trace)
    → fed ranks s lines ≡ Some (Over t) → outcome ranks s lines [] number ≡ Ok t
outcome_whole ranks s [] number t h =
    let is : s ≡ Over t = cc (h) in
    rw is refl
outcome_whole ranks s (line ∷ lines) number t h =
    let b = bind_some (feed ranks s line) _ (Over t) h in
    stop_some ranks s line lines [] number b.0 b.1 ∙ outcome_whole ranks b.0 lines (number + 1) t b.2

end_whole : (s : Stage) (behind : List ℕ) (number : ℕ) (t : Trace) → at_end s behind number ≡ Ok t
    → (s ≡ Over t) × (behind ≡ [])
end_whole (Noting notes) behind number t h = cc
end_whole (Counting notes pairs) behind number t h = cc
end_whole (Telling pairs part) behind number t h = cc
end_whole (Closing pairs ends cells) behind number t h = cc
end_whole (Over x) [] number t h =
    let is : x ≡ t = cc (h) in
    (ap Over is, refl)
end_whole (Over x) (b ∷ behind) number t h = cc

outcome_ok : (ranks : ℕ) (s : Stage) (lines : List (List ℕ)) (behind : List ℕ) (number : ℕ) (t : Trace)
    → outcome ranks s lines behind number ≡ Ok t → (fed ranks s lines ≡ Some (Over t)) × (behind ≡ [])
outcome_ok ranks s [] behind number t h =
    let e = end_whole s behind number t h in
    (ap Some e.0, e.1)
outcome_ok ranks s (line ∷ lines) behind number t h =
    elim (some_or_none (feed ranks s line)) [
      | inl none ↦ let e : Err number ≡ Ok t = sym (stop_none ranks s line lines behind number none) ∙ h in cc (e)
      | inr x ↦
          let e = sym (stop_some ranks s line lines behind number x.0 x.1) ∙ h in
          let more = outcome_ok ranks x.0 lines behind (number + 1) t e in
          (fed_step ranks s x.0 line lines x.1 ∙ more.0, more.1)
    ]

-- before the line that stops a text, each line is taken
end_stops : (s : Stage) (behind : List ℕ) (number line : ℕ) → at_end s behind number ≡ Err line → number ≡ line
end_stops (Noting notes) behind number line h = cc
end_stops (Counting notes pairs) behind number line h = cc
end_stops (Telling pairs part) behind number line h = cc
end_stops (Closing pairs ends cells) behind number line h = cc
end_stops (Over x) [] number line h = cc
end_stops (Over x) (b ∷ behind) number line h = cc

outcome_before : (ranks : ℕ) (s : Stage) (lines : List (List ℕ)) (behind : List ℕ) (number line count : ℕ)
    → outcome ranks s lines behind number ≡ Err line → count + number ≤ line
    → (count ≤ length lines) × (u : Stage) × (fed ranks s (take count lines) ≡ Some u)
outcome_before ranks s lines behind number line zero h few = (omega arith, s, refl)
outcome_before ranks s [] behind number line (suc count) h few =
    absurd (omega (arith, end_stops s behind number line h, few))
outcome_before ranks s (l ∷ lines) behind number line (suc count) h few =
    elim (some_or_none (feed ranks s l)) [
      | inl none ↦
          let e : Err number ≡ Err line = sym (stop_none ranks s l lines behind number none) ∙ h in
          let is : number ≡ line = cc (e) in
          absurd (omega (arith, is, few))
      | inr x ↦
          let e = sym (stop_some ranks s l lines behind number x.0 x.1) ∙ h in
          let more = outcome_before ranks x.0 lines behind (number + 1) line count e (omega (arith, few)) in
          (omega (arith, more.0), more.1, fed_step ranks s x.0 l (take count lines) x.1 ∙ more.2)
    ]

outcome_least : (ranks : ℕ) (s : Stage) (lines : List (List ℕ)) (behind : List ℕ) (number line : ℕ)
    → outcome ranks s lines behind number ≡ Err line → number ≤ line
outcome_least ranks s [] behind number line h = omega (arith, end_stops s behind number line h)
outcome_least ranks s (l ∷ lines) behind number line h =
    elim (some_or_none (feed ranks s l)) [
      | inl none ↦
          let e : Err number ≡ Err line = sym (stop_none ranks s l lines behind number none) ∙ h in
          let is : number ≡ line = cc (e) in
          omega (arith, is)
      | inr x ↦
          let e = sym (stop_some ranks s l lines behind number x.0 x.1) ∙ h in
          let more = outcome_least ranks x.0 lines behind (number + 1) line e in
          omega (arith, more)
    ]

-- and that line is not
outcome_bad : (ranks : ℕ) (s : Stage) (lines : List (List ℕ)) (behind : List ℕ) (number line count : ℕ) (u : Stage)
    → outcome ranks s lines behind number ≡ Err line → line + 1 ≡ count + number → count ≤ length lines
    → fed ranks s (take count lines) ≡ Some u → ⊥
outcome_bad ranks s [] behind number line count u h here some taken =
    omega (arith, end_stops s behind number line h, here, some)
outcome_bad ranks s (l ∷ lines) behind number line zero u h here some taken =
    elim (some_or_none (feed ranks s l)) [
      | inl none ↦
          let e : Err number ≡ Err line = sym (stop_none ranks s l lines behind number none) ∙ h in
          let is : number ≡ line = cc (e) in
          omega (arith, is, here)
      | inr x ↦
          let e = sym (stop_some ranks s l lines behind number x.0 x.1) ∙ h in
          omega (arith, here, outcome_least ranks x.0 lines behind (number + 1) line e)
    ]
outcome_bad ranks s (l ∷ lines) behind number line (suc count) u h here some taken =
    elim (some_or_none (feed ranks s l)) [
      | inl none ↦
          let gone : None ≡ Some u = sym (fed_none ranks s l (take count lines) none) ∙ taken in
          cc (gone)
      | inr x ↦
          let e = sym (stop_some ranks s l lines behind number x.0 x.1) ∙ h in
          let more = sym (fed_step ranks s x.0 l (take count lines) x.1) ∙ taken in
          outcome_bad ranks x.0 lines behind (number + 1) line count u e (omega (arith, here))
          (omega (arith, some)) more
    ]

-- the lines that begin a longer list that is taken are taken
fed_front : (ranks : ℕ) (s : Stage) (front rest : List (List ℕ)) (t : Stage)
    → fed ranks s (front ++ rest) ≡ Some t → (u : Stage) × (fed ranks s front ≡ Some u)
fed_front ranks s [] rest t h = (s, refl)
fed_front ranks s (line ∷ front) rest t h =
    let b = bind_some (feed ranks s line) _ t h in
    let more = fed_front ranks b.0 front rest t b.2 in
    (more.0, fed_step ranks s b.0 line front b.1 ∙ more.1)

-- a record's trace
module _ (shape : Sizes) (few : shape.ranks ≤ 2 ^ 8) where
  record_within : (bytes : List ℕ) (run : RunRecord) → IsTraceOf shape bytes run → Within (Over (trace_of run))
  record_within bytes run is = (is.pairs, is.ends, is.cells)

  record_count : (bytes : List ℕ) (run : RunRecord) → IsTraceOf shape bytes run
      → length (ends_of run.ranks) ≡ shape.ranks
  record_count bytes run is = length-map run.ranks _ ∙ is.whole

  record_lines : (bytes : List ℕ) (run : RunRecord) → IsTraceOf shape bytes run
      → bytes ≡ ended_lines (trace_lines (trace_of run))
  record_lines bytes run is =
      let t = trace_of run in
      let within = record_within bytes run is in
      let count = record_count bytes run is in
      let lines = fed_text shape.ranks start (trace_lines t) (Over t) tt
      (trace_told shape.ranks t count few within) in
      is.spelled ∙ sym (report_is run) ∙ lines.1

  record_cut : (front rest : List ℕ) (run : RunRecord) → IsTraceOf shape (front ++ rest) run
      → cut_lines (front ++ rest) ≡ (trace_lines (trace_of run), [])
  record_cut front rest run is =
      let t = trace_of run in
      let lines = trace_lines t in
      let unfed = print_unfed lines (trace_prints shape.ranks t (record_count (front ++ rest) run is) few
      (record_within (front ++ rest) run is)) in
      let text : front ++ rest ≡ ended_lines lines ++ [] = record_lines (front ++ rest) run is
      ∙ sym (append-nil (ended_lines lines)) in
      ap cut_lines text ∙ cut_again lines [] unfed
      ∙ ap (λ (x : List (List ℕ)). (x, [])) (append-nil lines)

  -- it is told
  pub record_told : (bytes : List ℕ) (run : RunRecord) → IsTraceOf shape bytes run
      → told shape.ranks start bytes 1 ≡ Ok (trace_of run)
  unfolding told
  record_told bytes run is =
      let t = trace_of run in
      let whole = trace_told shape.ranks t (record_count bytes run is) few (record_within bytes run is) in
      rw (record_cut [] bytes run is) (outcome_whole shape.ranks start (trace_lines t) 1 t whole)

  -- lines with which a trace begins are taken
  begin_taken : (lines : List (List ℕ)) → Unfed lines → Begins shape (ended_lines lines)
      → (u : Stage) × (fed shape.ranks start lines ≡ Some u)
  begin_taken lines unfed b =
      let run = b.0 in
      let rest = b.1 in
      let t = trace_of run in
      let front = ended_lines lines in
      let whole = trace_told shape.ranks t (record_count (front ++ rest) run b.2) few
      (record_within (front ++ rest) run b.2) in
      let same : lines ++ (cut_lines rest).0 ≡ trace_lines t =
      ap (λ (x : List (List ℕ) × List ℕ). x.0) (sym (cut_again lines rest unfed) ∙ record_cut front rest run b.2) in
      fed_front shape.ranks start lines (cut_lines rest).0 (Over t)
      (ap (λ (x : List (List ℕ)). fed shape.ranks start x) same ∙ whole)

  -- and lines that are taken begin one
  taken_begin : (lines : List (List ℕ)) (u : Stage) → fed shape.ranks start lines ≡ Some u
      → Begins shape (ended_lines lines)
  taken_begin lines u h =
      let text = fed_text shape.ranks start lines u tt h in
      let within = fed_within shape.ranks start lines u tt tt h in
      rw (← text.1) (state_begins shape u text.0 within)

  -- a text that is told is a trace
  pub told_traces : (bytes : List ℕ) (run : RunRecord) → run.shape ≡ shape → length run.ranks ≡ shape.ranks
      → told shape.ranks start bytes 1 ≡ Ok (trace_of run) → IsTraceOf shape bytes run
  unfolding told
  told_traces bytes run shaped whole h =
      let lines = whole_lines bytes in
      let t = trace_of run in
      let all = outcome_ok shape.ranks start lines (cut_lines bytes).1 1 t h in
      let text = fed_text shape.ranks start lines (Over t) tt all.0 in
      let within = fed_within shape.ranks start lines (Over t) tt tt all.0 in
      record {
        spelled = sym (whole_text bytes) ∙ ap (λ (x : List ℕ). ended_lines lines ++ x) all.1
            ∙ append-nil (ended_lines lines) ∙ sym text.1 ∙ report_is run;
        shaped = shaped;
        whole = whole;
        ends = within.1;
        pairs = within.0;
        cells = within.2;
      }

  -- a text that is stopped stops at its first bad line
  pub stopped_bad : (bytes : List ℕ) (line : ℕ) → told shape.ranks start bytes 1 ≡ Err line
      → IsFirstBad shape bytes line
  unfolding told
  stopped_bad bytes line h =
      let lines = whole_lines bytes in
      record {
        none = λ run is. (let e : Ok (trace_of run) ≡ Err line = sym (record_told bytes run is) ∙ h in cc (e));
        before = λ count less. (
            let b = outcome_before shape.ranks start lines (cut_lines bytes).1 1 line count h
            (omega (arith, less)) in
            (b.0, taken_begin (take count lines) b.1 b.2)
            );
        bad = λ b. (
            let u = begin_taken (take line lines) (take_unfed line lines (whole_unfed bytes)) b.1 in
            outcome_bad shape.ranks start lines (cut_lines bytes).1 1 line line u.0 h refl b.0 u.1
            );
      }

less_or_more : (a b : ℕ) → (a ≡ b) ⊎ ((a < b) ⊎ (b < a))
less_or_more a b =
    elim (true_or_false (eqb a b)) [
      | inl e ↦ inl (eqb-true a b e)
      | inr e ↦
          elim (true_or_false (ltb a b)) [
            | inl l ↦ inr (inl (ltb-true a b l))
            | inr m ↦ inr (inr (omega (arith, ltb-false a b m, eqb-false a b e)))
          ]
    ]

-- a text has one first bad line
pub one_bad : (shape : Sizes) (bytes : List ℕ) (a b : ℕ) → IsFirstBad shape bytes a → IsFirstBad shape bytes b
    → a ≡ b
one_bad shape bytes a b h k =
    elim (less_or_more a b) [
      | inl same ↦ same
      | inr other ↦
          elim other [
            | inl less ↦ absurd (h.bad (k.before a less))
            | inr more ↦ absurd (k.bad (h.before b more))
          ]
    ]

module _ (shape : Sizes) (few : shape.ranks ≤ 2 ^ 8) (bytes : List ℕ) where
  pub trace_taken : (r : Result RunRecord TraceFault)
      → IfOk r (λ run. told shape.ranks start bytes 1 ≡ Ok (trace_of run)) → IfOk r (λ run. run.shape ≡ shape)
      → IfOk r (λ run. length run.ranks ≡ shape.ranks) → IfOk r (λ run. IsTraceOf shape bytes run)
  trace_taken (Ok run) tells shaped whole = told_traces shape few bytes run shaped whole tells
  trace_taken (Err f) tells shaped whole = tt

  pub trace_takes : (r : Result RunRecord TraceFault)
      → IfOk r (λ run. told shape.ranks start bytes 1 ≡ Ok (trace_of run)) → IfOk r (λ run. run.shape ≡ shape)
      → IfErr r (λ f. Stops (told shape.ranks start bytes 1) f) → (run : RunRecord) → IsTraceOf shape bytes run
      → MatchResult r (λ read. SameRun read run) (λ f. f ≡ fault.Memory)
  trace_takes (Ok read) tells shaped stops run is =
      let e : Ok (trace_of read) ≡ Ok (trace_of run) = sym tells ∙ record_told shape few bytes run is in
      let same : trace_of read ≡ trace_of run = cc (e) in
      record {
        shape = shaped ∙ sym is.shaped;
        ranks = ap (λ (t : Trace). t.ends) same;
        pairs = ap (λ (t : Trace). t.pairs) same;
        cells = ap (λ (t : Trace). t.cells) same;
        done = ap (λ (t : Trace). t.done) same;
      }
  trace_takes (Err (fault.Bad line)) tells shaped stops run is =
      let e : Ok (trace_of run) ≡ Err line = sym (record_told shape few bytes run is) ∙ stops in cc (e)
  trace_takes (Err fault.Memory) tells shaped stops run is = refl

  pub trace_bad : (r : Result RunRecord TraceFault) → IfErr r (λ f. Stops (told shape.ranks start bytes 1) f)
      → IfErr r (λ f. Names shape bytes f)
  trace_bad (Ok run) stops = tt
  trace_bad (Err (fault.Bad line)) stops = stopped_bad shape few bytes line stops
  trace_bad (Err fault.Memory) stops = tt

  pub trace_named : (r : Result RunRecord TraceFault)
      → IfOk r (λ run. told shape.ranks start bytes 1 ≡ Ok (trace_of run)) → IfOk r (λ run. run.shape ≡ shape)
      → IfOk r (λ run. length run.ranks ≡ shape.ranks)
      → IfErr r (λ f. Stops (told shape.ranks start bytes 1) f) → (line : ℕ) → IsFirstBad shape bytes line
      → MatchResult r (λ run. ⊥) (λ f. (f ≡ fault.Bad line) ⊎ (f ≡ fault.Memory))
  trace_named (Ok run) tells shaped whole stops line h =
      h.none run (told_traces shape few bytes run shaped whole tells)
  trace_named (Err (fault.Bad other)) tells shaped whole stops line h =
      inl (ap fault.Bad (one_bad shape bytes other line (stopped_bad shape few bytes other stops) h))
  trace_named (Err fault.Memory) tells shaped whole stops line h = inr refl
