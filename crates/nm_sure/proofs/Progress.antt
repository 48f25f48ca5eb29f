-- What was started since the last answer, at a front of a run, is the start of the next command.
use Rattle.std.proofs.Common.{◌≡◌, ℕ, Bool, true, false, cond, Some, List, [], ◌∷◌, ◌++◌}
use Rattle.std.proofs.Common.{length, map, refl, sym, ◌∙◌, ap, subst, arith, append-nil, append_assoc, ◌⊎◌, inl, inr}
use Rattle.std.specs.Prelude.{suc, take}
use Rattle.std.specs.List.{cons_option, filter}
use Rattle.std.proofs.lemmas.Bool.{false≢true}
use Rattle.nm_types.specs.declared.answers.Answer.{Answer}
use Rattle.nm_types.specs.declared.scripts.Command.{Command}
use Rattle.nm_types.specs.declared.scripts.Command.TheVariants as command
use Rattle.nm_types.specs.Commands.{Numbered, command_at}
use Rattle.nm_history.specs.declared.events.Event.{Event}
use Rattle.nm_history.specs.declared.events.Happened.{Happened}
use Rattle.nm_history.specs.declared.events.Happened.TheVariants as event
use Rattle.nm_history.specs.AtEach.{AtEachAfter}
use Rattle.nm_history.specs.RankRun.{AnswerAt, StartAt, is_start, ran_lines, ran_of, start_of, starts_since}
use Rattle.nm_history.specs.RankRun.{without_number}
use Rattle.nm_sure.specs.Names.{is_taken}
use Rattle.nm_sure.specs.Plain.{is_plain}
use Rattle.nm_sure.proofs.Fronts.{AreAtLines, Stood, answered, is_taken_by, no_start, start_any, started_so}
use Rattle.nm_sure.proofs.Fronts.{stood_other}
use Rattle.nm_sure.proofs.PlacedLemmas.{starts_grow}
use Rattle.nm_types.proofs.ListLemmas.{front_empty}

-- nothing, or one thing
abbrev pub AtMostOne : List Happened → Type 0
AtMostOne ys = (ys ≡ []) ⊎ ((z : Happened) × (ys ≡ z ∷ []))

nothing_mapped : (ws : List Happened) → map without_number ws ≡ [] → ws ≡ []
nothing_mapped [] none = refl
nothing_mapped (w ∷ ws) none = absurd (grind arith)

one_only : (front extra ys : List Happened) → AtMostOne ys → map without_number (front ++ extra) ≡ ys →
    (front ≡ []) ⊎ (map without_number front ≡ ys)
one_only [] extra ys few same = inl refl
one_only (w ∷ ws) extra ys (inl none) same = absurd (grind (arith, none))
one_only (w ∷ ws) extra ys (inr one) same =
    let whole : without_number w ∷ map without_number (ws ++ extra) ≡ one.0 ∷ [] = same ∙ one.1 in
    let tail : map without_number (ws ++ extra) ≡ [] = cc in
    let none : ws ≡ [] = front_empty ws extra (nothing_mapped (ws ++ extra) tail) in
    let first : without_number w ≡ one.0 = cc in
    inr (rw none (ap (λ (v : Happened). v ∷ []) first ∙ sym one.1))

few_starts : (eager l : ℕ) (commands : List Numbered) (c : Command) → is_plain c ≡ true → (b : Bool) →
    AtMostOne (cond b (start_of eager commands [] l c) [])
few_starts eager l commands (command.Send to q tag ctx sync body) plain true = inr (_, refl)
few_starts eager l commands (command.Recv q from tag ctx cap) plain true = inr (_, refl)
few_starts eager l commands (command.Wait q) plain true = inl refl
few_starts eager l commands (command.Test q) plain true = absurd (false≢true plain)
few_starts eager l commands (command.Probe from tag ctx) plain true = absurd (false≢true plain)
few_starts eager l commands (command.Await from tag ctx) plain true = absurd (false≢true plain)
few_starts eager l commands (command.Cancel q) plain true = absurd (false≢true plain)
few_starts eager l commands (command.Mprobe m from tag ctx) plain true = absurd (false≢true plain)
few_starts eager l commands (command.Mrecv q m cap) plain true = absurd (false≢true plain)
few_starts eager l commands c plain false = inl refl

-- the starts of a front are none, or the one of the next command
abbrev pub IsUnderWay : ℕ → List Numbered → List Numbered → List Numbered → List Happened → Type 0
IsUnderWay eager commands done more front =
    (front ≡ [])
    ⊎ ((c : Numbered) × (rest : List Numbered) × (more ≡ c ∷ rest)
    × (map without_number front ≡ cond (is_taken done c.command) (start_of eager commands [] c.line c.command) []))

module _ (eager : ℕ) (commands done more : List Numbered) (split : commands ≡ done ++ more)
    (lined : AreAtLines commands) (front : List Happened) where
  at_answer : (h : List Event) (extra : List Happened) (line : ℕ) (a : Answer) (lines : List ℕ) (list : List Numbered) →
      more ≡ list → Stood eager commands done h → starts_since h ≡ front ++ extra →
      AnswerAt commands h (event.Ran line a) → StartAt eager commands h (event.Ran line a) →
      line ∷ lines ≡ map (λ c. c.line) (take (suc (length lines)) list) →
      IsUnderWay eager commands done more front
  at_answer h extra line a lines [] same stood starts answer start told = absurd (grind arith)
  at_answer h extra line a lines (c ∷ list) same stood starts answer start told =
      let here : line ≡ c.line = cc in
      let at' = lined done c list (split ∙ ap (λ (ms : List Numbered). done ++ ms) same) in
      let at_line : command_at commands line ≡ Some c.command = rw here at'.0 in
      let fresh : start_of eager commands h line c.command ≡ start_of eager commands [] line c.command =
      start_any eager line commands h c.command at'.1 ∙ sym (start_any eager line commands [] c.command at'.1) in
      let taken : map without_number (starts_since h) ≡ cond (is_taken done c.command)
      (start_of eager commands [] line c.command) [] =
      started_so eager commands h line a c.command start at_line
      ∙ is_taken_by commands done h line c.command a stood.named at'.1
      (answered commands h line a c.command answer at_line)
      (start_of eager commands h line c.command) (no_start eager line commands h c.command at'.1)
      ∙ ap (λ (ws : List Happened). cond (is_taken done c.command) ws []) fresh in
      elim (one_only front extra (cond (is_taken done c.command) (start_of eager commands [] line c.command) [])
      (few_starts eager line commands c.command at'.1 (is_taken done c.command))
      (ap (λ (ws : List Happened). map without_number ws) (sym starts) ∙ taken)) [
        | inl none ↦ inl none
        | inr one ↦ inr (
          c,
          list,
          same,
          subst (λ (l : ℕ). map without_number front
              ≡ cond (is_taken done c.command) (start_of eager commands [] l c.command) []) here one,
        )
      ]

  under_way_step : (h : List Event) (extra : List Happened) (stamp : ℕ) (what : Happened) (lines : List ℕ) →
      Stood eager commands done h → starts_since h ≡ front ++ extra → AnswerAt commands h what →
      StartAt eager commands h what →
      cons_option (ran_of what) lines ≡ map (λ c. c.line) (take (length (cons_option (ran_of what) lines)) more) →
      ((extra : List Happened) → Stood eager commands done (h ++ record { stamp = stamp; what = what } ∷ []) →
      starts_since (h ++ record { stamp = stamp; what = what } ∷ []) ≡ front ++ extra →
      lines ≡ map (λ c. c.line) (take (length lines) more) → IsUnderWay eager commands done more front) →
      IsUnderWay eager commands done more front
  under_way_step h extra stamp (event.Ran line a) lines stood starts answer start told later =
      at_answer h extra line a lines more refl stood starts answer start told
  under_way_step h extra stamp what lines stood starts answer start told later =
      later (extra ++ filter is_start (what ∷ [])) (stood_other eager commands done h stamp what refl stood)
      (starts_grow h stamp what refl ∙ ap (λ (ws : List Happened). ws ++ filter is_start (what ∷ [])) starts
      ∙ append_assoc front extra (filter is_start (what ∷ []))) told

  pub under_way : (h rest : List Event) (extra : List Happened) → Stood eager commands done h →
      starts_since h ≡ front ++ extra → AtEachAfter (λ b e. AnswerAt commands b e.what) h rest →
      AtEachAfter (λ b e. StartAt eager commands b e.what) h rest →
      ran_lines rest ≡ map (λ c. c.line) (take (length (ran_lines rest)) more) → starts_since (h ++ rest) ≡ [] →
      IsUnderWay eager commands done more front
  under_way h [] extra stood starts answers starts_right told none =
      inl (front_empty front extra (sym starts ∙ (rw append-nil at none)))
  under_way h (e ∷ rest) extra stood starts answers starts_right told none =
      under_way_step h extra e.stamp e.what (ran_lines rest) stood starts answers.0 starts_right.0 told
      (λ more_extra next grown ahead. under_way (h ++ e ∷ []) rest more_extra next grown answers.1 starts_right.1 ahead
      (ap (λ (k : List Event). starts_since k) (append_assoc h (e ∷ []) rest) ∙ none))
