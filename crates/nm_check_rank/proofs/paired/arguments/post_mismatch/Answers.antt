use Rattle.std.proofs.Common.{List, [], ◌∷◌, refl}
use Rattle.nm_history.specs.declared.events.Happened.TheVariants as what
use Rattle.nm_check_rank.specs.Arguments.{others_of}
use Rattle.nm_check_rank.specs.declared.paired.arguments.Argument.{Argument}
use Rattle.nm_check_rank.specs.declared.paired.arguments.Argument.TheVariants as arg
use Rattle.nm_check_rank.specs.declared.paired.arguments.Sort.TheVariants as sort
use Rattle.nm_check_rank.proofs.MismatchLemmas.{mismatch_behind, no_post}
use Rattle.nm_check_rank.proofs.paired.arguments.post_mismatch.Goals as goal

pub returns-in-Post : goal.returns-in-Post
returns-in-Post c = λ started.
    let p = c.in-Post.post in
    let line : List Argument = arg.Line c.args.line ∷ [] in
    let line' : List Argument = arg.Line c.in-Post.at ∷ [] in
    let cap : List Argument = arg.Capacity c.args.cap ∷ line in
    let cap' : List Argument = arg.Capacity p.cap ∷ line' in
    let ctx : List Argument = arg.Context c.args.ctx ∷ cap in
    let ctx' : List Argument = arg.Context p.ctx ∷ cap' in
    let tag : List Argument = arg.Tag c.args.tag ∷ ctx in
    let tag' : List Argument = arg.Tag p.tag ∷ ctx' in
    let from : List Argument = arg.From c.args.from ∷ tag in
    let from' : List Argument = arg.From p.from ∷ tag' in
    rw c.in-Post.is
    (mismatch_behind (arg.Sort sort.Receive) (arg.Sort sort.Receive) from from' c.before_others.result refl
    (c.before_others.ensures tag tag' (c.before_others-tags.ensures ctx ctx'
    (c.before_others-ctxs.ensures cap cap' (c.before_others-caps.ensures line line'
    (c.before_others-lines.ensures [] [] refl))))))

pub returns-in_default : goal.returns-in_default
returns-in_default c = λ started.
    c.other_sort.ensures (others_of (what.Post (record {
      number = 0;
      from = c.args.from;
      tag = c.args.tag;
      ctx = c.args.ctx;
      cap = c.args.cap;
    }) c.args.line))
    (no_post c.args.what.now c.in_default.not-Post started)
