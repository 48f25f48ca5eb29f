-- Both are added, one after the other.
use Rattle.std.proofs.Common.{◌∙◌}
use Rattle.nm_why.specs.declared.changes.Edit.TheVariants.{Tag}
use Rattle.nm_why.proofs.candidates.push_named.Goals as goal

pub returns-clause-kept : goal.returns-clause-kept
returns-clause-kept c = λ x at. c.in_ok-push_context.ensures.kept x (c.in_ok-push_tag.ensures.kept x at)

pub returns-clause-tag : goal.returns-clause-tag
returns-clause-tag c = λ tag is.
    c.in_ok-push_context.ensures.kept (Tag tag) (c.in_ok-push_tag.ensures.there tag (c.tag_of.ensures ∙ is))

pub returns-clause-context : goal.returns-clause-context
returns-clause-context c = λ ctx is. c.in_ok-push_context.ensures.there ctx (c.context_of.ensures ∙ is)
