-- The tags and contexts of the lines up to this one.
use Rattle.std.proofs.Common.{ℕ, take}
use Rattle.std.specs.Prelude.{Contains}
use Rattle.nm_types.specs.declared.messages.TagPick.{TagPick}
use Rattle.nm_why.specs.declared.changes.Edit.TheVariants.{Context, Tag}
use Rattle.nm_why.specs.Candidates.{IsNamed, context_of, tag_of}
use Rattle.nm_why.specs.Lists.{Keeps}
use Rattle.nm_why.proofs.candidates.push_all_named.Given as goal

abbrev pub invariant-loop-line : goal.invariant-loop-line
invariant-loop-line l =
    record {
      kept : Keeps l.fn.edits.items l.edits.items;
      tags : (tag : TagPick) → IsNamed tag_of (take l.line-index l.lines) tag → Contains l.edits.items (Tag tag);
      contexts : (ctx : ℕ) → IsNamed context_of (take l.line-index l.lines) ctx → Contains l.edits.items (Context ctx);
    }
