-- One line more.
use Rattle.std.proofs.Common.{inl, inr, List, subst, sym}
use Rattle.std.proofs.lemmas.List.{take_all}
use Rattle.nm_types.proofs.ListLemmas.{no_item}
use Rattle.nm_types.specs.declared.scripts.Line.{Line}
use Rattle.nm_why.specs.declared.changes.Edit.TheVariants.{Context, Tag}
use Rattle.nm_why.specs.Candidates.{IsNamed, context_of, tag_of}
use Rattle.nm_why.proofs.CandidateLemmas.{named_more}
use Rattle.nm_why.proofs.candidates.push_all_named.Goals as goal

pub loop-line-init : goal.loop-line-init
loop-line-init c = record {
  kept = λ x at. at;
  tags = λ tag named. absurd (no_item named.0 named.1 named.2);
  contexts = λ ctx named. absurd (no_item named.0 named.1 named.2);
}

pub loop-line-preserved : goal.loop-line-preserved
loop-line-preserved c =
    let before = c.loop-line.invariant in
    let k = c.loop-line.line-index in
    record {
      kept = λ x at. c.in_ok-push_named.ensures.kept x (before.kept x at);
      tags = λ tag named.
          elim (named_more tag_of c.args.lines.now k c.line-item.result tag c.loop-line-test.true c.line-item.is
          named) [
            | inl front ↦ c.in_ok-push_named.ensures.kept (Tag tag) (before.tags tag front)
            | inr last ↦ c.in_ok-push_named.ensures.tag tag last
          ];
      contexts = λ ctx named.
          elim (named_more context_of c.args.lines.now k c.line-item.result ctx c.loop-line-test.true c.line-item.is
          named) [
            | inl front ↦ c.in_ok-push_named.ensures.kept (Context ctx) (before.contexts ctx front)
            | inr last ↦ c.in_ok-push_named.ensures.context ctx last
          ];
    }

pub returns-clause-kept : goal.returns-clause-kept
returns-clause-kept c = c.loop-line.invariant.kept

pub returns-clause-tags : goal.returns-clause-tags
returns-clause-tags c = λ tag named.
    c.loop-line.invariant.tags tag
    (subst (λ (ls : List Line). IsNamed tag_of ls tag)
    (sym (take_all c.loop-line.line-index c.args.lines.now c.loop-line-test.false)) named)

pub returns-clause-contexts : goal.returns-clause-contexts
returns-clause-contexts c = λ ctx named.
    c.loop-line.invariant.contexts ctx
    (subst (λ (ls : List Line). IsNamed context_of ls ctx)
    (sym (take_all c.loop-line.line-index c.args.lines.now c.loop-line-test.false)) named)
