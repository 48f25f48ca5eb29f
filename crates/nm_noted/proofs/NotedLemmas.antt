-- A program whose calls are noted was told and gave what its program was told and gave, and its calls are these.
use Rattle.std.proofs.Common.{◌≡◌, Option, Some, None, List, [], ◌∷◌, ◌++◌, refl, sym, ◌∙◌, ap, subst, append_assoc}
use Rattle.std.specs.Prelude.{option_to_list}
use Rattle.nm_types.specs.declared.answers.Answer.{Answer}
use Rattle.nm_types.specs.declared.scripts.Command.{Command}
use Rattle.nm_process.specs.Playing.{HasPlayed, Talked}
use Rattle.nm_noted.specs.declared.noted.Noted.{Noted}
use Rattle.nm_noted.specs.Noted.{notes}

module _ {P C : Type 0} (says : P → Option Answer → Option Command → P → Type 0) (calls : C → List Command) where
  talked_on : (p : Noted P C) (now : Option Command) (answers : List Answer) (q : Noted P C) (last : Option Command)
      (given before : List Command) → Talked (notes says calls) p now answers q last given →
      calls p.calls ≡ before ++ option_to_list now →
      Talked says p.program now answers q.program last given × (calls q.calls ≡ before ++ given)
  talked_on p now [] q last given before talked noted = (
    (ap (λ (r : Noted P C). r.program) talked.0, talked.1, talked.2),
    ap (λ (r : Noted P C). calls r.calls) talked.0 ∙ noted
        ∙ ap (λ (xs : List Command). before ++ xs) (sym talked.2),
  )
  talked_on p None (a ∷ answers) q last given before talked noted = absurd talked
  talked_on p (Some c) (a ∷ answers) q last given before talked noted =
      let mid = talked.0 in
      let next = talked.1 in
      let rest = talked.2 in
      let later =
      talked_on mid next answers q last rest (before ++ c ∷ []) talked.5
      (talked.3.1 ∙ ap (λ (xs : List Command). xs ++ option_to_list next) noted) in (
        (mid.program, next, rest, talked.3.0, talked.4, later.0),
        later.1 ∙ append_assoc before (c ∷ []) rest ∙ ap (λ (xs : List Command). before ++ xs) (sym talked.4),
      )

  -- from its start on, where no call is noted
  pub played_on : (start : Noted P C) (answers : List Answer) (left : Noted P C) (last : Option Command)
      (given : List Command) → calls start.calls ≡ [] → HasPlayed (notes says calls) start answers left last given →
      HasPlayed says start.program answers left.program last given × (calls left.calls ≡ given)
  played_on start answers left last given none played =
      let on =
      talked_on played.begun played.first answers left last given [] played.talked
      (played.begins.1 ∙ ap (λ (xs : List Command). xs ++ option_to_list played.first) none) in (
        record {
          begun = played.begun.program;
          first = played.first;
          begins = played.begins.0;
          talked = on.0;
        },
        on.1,
      )
