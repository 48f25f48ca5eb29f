use Rattle.std.proofs.Common.{◌≡◌, ◌++◌, drop, flat_map, string_bytes}
use Rattle.std.specs.List.{list_all}
use Rattle.nm_types.specs.Text.{command_line}
use Rattle.nm_script.specs.Spelled.{has_bytes}
use Rattle.nm_written.proofs.push_lines.Given as goal

-- what is written and what is still to write are all, and so are the lines
abbrev pub invariant-loop-line : goal.invariant-loop-line
invariant-loop-line l = record {
  text : string_bytes l.out ++ flat_map command_line (drop l.line-index l.lines)
      ≡ string_bytes l.fn.out ++ flat_map command_line l.lines;
  of_bytes : list_all (λ line. has_bytes line.command) (drop l.line-index l.lines)
      ≡ list_all (λ line. has_bytes line.command) l.lines;
}
