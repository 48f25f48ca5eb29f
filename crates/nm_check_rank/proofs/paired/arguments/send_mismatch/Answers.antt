use Rattle.std.proofs.Common.{ℕ, List, [], ◌∷◌, refl, subst}
use Rattle.nm_types.specs.declared.messages.TagPick.TheVariants as pick
use Rattle.nm_history.specs.declared.events.Happened.TheVariants as what
use Rattle.nm_check_rank.specs.Arguments.{IsFirstMismatch, others_of}
use Rattle.nm_check_rank.specs.declared.paired.arguments.Argument.{Argument}
use Rattle.nm_check_rank.specs.declared.paired.arguments.Argument.TheVariants as arg
use Rattle.nm_check_rank.specs.declared.paired.arguments.Sort.TheVariants as sort
use Rattle.nm_check_rank.proofs.MismatchLemmas.{mismatch_behind, no_send}
use Rattle.nm_check_rank.proofs.paired.arguments.send_mismatch.Goals as goal

pub returns-in-Send : goal.returns-in-Send
returns-in-Send c = λ how.
    let line : List Argument = arg.Line c.args.line ∷ [] in
    let line' : List Argument = arg.Line c.in-Send.at ∷ [] in
    let len : List Argument = arg.Length c.args.len ∷ line in
    let len' : List Argument = arg.Length c.in-Send.l ∷ line' in
    let ctx : List Argument = arg.Context c.args.ctx ∷ len in
    let ctx' : List Argument = arg.Context c.in-Send.x ∷ len' in
    let tag : List Argument = arg.Tag (pick.One c.args.tag) ∷ ctx in
    let tag' : List Argument = arg.Tag (pick.One c.in-Send.g) ∷ ctx' in
    let to : List Argument = arg.To c.args.to ∷ tag in
    let to' : List Argument = arg.To c.in-Send.t ∷ tag' in
    rw c.in-Send.is
    (mismatch_behind (arg.Sort sort.Send) (arg.Sort sort.Send) to to' c.before_others.result refl
    (c.before_others.ensures tag tag' (c.before_others-tags.ensures ctx ctx'
    (c.before_others-ctxs.ensures len len' (subst (λ (n : ℕ).
    IsFirstMismatch len (arg.Length n ∷ line') c.before_others-lens.result) c.from.ensures
    (c.before_others-lens.ensures line line' (c.before_others-lines.ensures [] [] refl)))))))

pub returns-in_default : goal.returns-in_default
returns-in_default c = λ how.
    c.other_sort.ensures (others_of (what.Send c.args.to 0 c.args.tag c.args.ctx c.args.len how c.args.line))
    (no_send c.args.what.now c.in_default.not-Send)
