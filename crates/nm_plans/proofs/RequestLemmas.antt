-- The requests, ends and commands of lines and one more.
use Rattle.std.proofs.Common.{◌≡◌, List, [], ◌∷◌, ◌++◌, None, sym, ap, ◌∙◌, append_assoc}
use Rattle.std.proofs.lemmas.List.{append-nil}
use Rattle.std.proofs.lemmas.List.Sums.{fold-append}
use Rattle.nm_plans.specs.declared.lines.PlanLine.{PlanLine}
use Rattle.nm_plans.specs.declared.requests.ends.End.{End}
use Rattle.nm_plans.specs.declared.requests.requests.Owner.{Owner}
use Rattle.nm_plans.specs.Ends.{parts_at, parts_behind}
use Rattle.nm_plans.specs.Expansion.{expand, expand_behind, lines_for}
use Rattle.nm_plans.specs.PlanRequests.{owner_of, request_at, request_behind}

pub request_at-more : (lines : List PlanLine) (line : PlanLine) (owner : Owner)
    → request_at (lines ++ line ∷ []) owner ≡ request_behind owner (request_at lines owner) line
unfolding request_at
request_at-more lines line owner = fold-append (request_behind owner) None lines (line ∷ [])

pub parts_at-more : (lines : List PlanLine) (line : PlanLine) (e : End)
    → parts_at (lines ++ line ∷ []) e ≡ parts_behind e (parts_at lines e) line
unfolding parts_at
parts_at-more lines line e = fold-append (parts_behind e) None lines (line ∷ [])

-- the script of lines and one more, behind lines
expand_behind-more : (before lines : List PlanLine) (line : PlanLine)
    → expand_behind before (lines ++ line ∷ [])
    ≡ expand_behind before lines ++ lines_for line (request_at (before ++ lines) (owner_of line))
expand_behind-more before [] line =
    append-nil (lines_for line (request_at before (owner_of line)))
    ∙ ap (λ bs. lines_for line (request_at bs (owner_of line))) (sym (append-nil before))
expand_behind-more before (first ∷ lines) line =
    let here = lines_for first (request_at before (owner_of first)) in
    let others = expand_behind (before ++ first ∷ []) lines in
    ap (λ ls. here ++ ls) (expand_behind-more (before ++ first ∷ []) lines line)
    ∙ sym (append_assoc here others
    (lines_for line (request_at ((before ++ first ∷ []) ++ lines) (owner_of line))))
    ∙ ap (λ bs. (here ++ others) ++ lines_for line (request_at bs (owner_of line)))
    (append_assoc before (first ∷ []) lines)

pub expand-more : (lines : List PlanLine) (line : PlanLine)
    → expand (lines ++ line ∷ []) ≡ expand lines ++ lines_for line (request_at lines (owner_of line))
unfolding expand
expand-more lines line = expand_behind-more [] lines line
