-- The script's own limits are those of its text.
use Rattle.std.proofs.Common.{rules, ◌≡◌, inl, string_bytes}
use Rattle.nm_types.specs.Text.{script_text}
use Rattle.nm_written.proofs.write.Goals as goal

pub returns-clause-spelled : goal.returns-clause-spelled
returns-clause-spelled c =
    let script = c.args.script.now in
    let text : string_bytes c.push_lines.new.out ≡ script_text script.ranks script.lines = search
    rules in
    record {
      spelled = inl text;
      limits = script.limits;
      in_part = rw c.as_slice.ensures at (c.in_ok-push_lines.ensures.of_bytes);
    }
