-- The limits of a script, line by line.
use Rattle.std.proofs.Common.{◌≡◌, ℕ, ◌+◌, ◌<◌, ◌^◌, ◌&&◌, true, List, [], ◌∷◌, ◌∙◌, ap, arith, codes}
use Rattle.std.proofs.Common.{decimal, flat_map, get_or, length, length-append, nat_le, nat_lt, subst, sum_by}
use Rattle.std.specs.List.{list_all}
use Rattle.std.proofs.lemmas.Bool.{leb-true}
use Rattle.std.proofs.lemmas.List.Concat.{length-flat_map}
use Rattle.std.proofs.lemmas.List.Sums.{AllPass-from_list_all}
use Rattle.std.proofs.lemmas.Option.{get_or_from_slice_get, slice_get_within}
use Rattle.nm_types.proofs.TruthLemmas.{and_right}
use Rattle.nm_types.specs.declared.limits.TheConstants.{MAX_BODY, MAX_CONTEXT, MAX_NAME, MAX_TAG}
use Rattle.nm_types.specs.declared.scripts.Command.{Command}
use Rattle.nm_types.specs.declared.scripts.Command.TheVariants as command
use Rattle.nm_types.specs.declared.scripts.Line.{Line}
use Rattle.nm_types.specs.Bodies.{body_len}
use Rattle.nm_types.specs.Limits.{is_in_range, sent_len}
use Rattle.nm_types.specs.Text.{command_line, script_text, text_line}
use Rattle.nm_why.specs.Parts.{AreShort}

-- what is in range sends no more than can be counted
short_command : (rank ranks : ℕ) (c : Command) → (nat_lt rank ranks && is_in_range ranks c) ≡ true → sent_len c < 2 ^ 32
short_command rank ranks (command.Send to q tag ctx sync body) range =
    let front = nat_le q MAX_NAME && nat_lt to ranks && nat_le tag MAX_TAG && nat_le ctx MAX_CONTEXT in
    let short = nat_le (body_len body) MAX_BODY in
    let len = leb-true (body_len body) MAX_BODY
    (and_right front short (and_right (nat_lt rank ranks) (front && short) range)) in
    omega (arith, len)
short_command rank ranks (command.Recv q from tag ctx most) range = omega arith
short_command rank ranks (command.Wait q) range = omega arith
short_command rank ranks (command.Test q) range = omega arith
short_command rank ranks (command.Probe from tag ctx) range = omega arith
short_command rank ranks (command.Await from tag ctx) range = omega arith
short_command rank ranks (command.Cancel q) range = omega arith
short_command rank ranks (command.Mprobe m from tag ctx) range = omega arith
short_command rank ranks (command.Mrecv q m most) range = omega arith

pub are_short : (ranks : ℕ) (lines : List Line) →
    list_all (λ line. nat_lt line.rank ranks && is_in_range ranks line.command) lines ≡ true → AreShort lines
are_short ranks lines all k line there =
    subst (λ (l : Line). sent_len l.command < 2 ^ 32) (get_or_from_slice_get lines k line line there)
    (short_command (get_or lines k line).rank ranks (get_or lines k line).command
    (AllPass-from_list_all (λ (l : Line). nat_lt l.rank ranks && is_in_range ranks l.command) lines all k line
    (slice_get_within lines k line there)))

-- how long the text of a script is: its first line, and those of its commands
pub text_len : (ranks : ℕ) (lines : List Line) →
    length (script_text ranks lines)
    ≡ length (text_line (codes "ranks" ∷ decimal ranks ∷ [])) + sum_by (λ line. length (command_line line)) lines
text_len ranks lines =
    length-append (text_line (codes "ranks" ∷ decimal ranks ∷ [])) (flat_map command_line lines)
    ∙ ap (λ (n : ℕ). length (text_line (codes "ranks" ∷ decimal ranks ∷ [])) + n) (length-flat_map command_line lines)
