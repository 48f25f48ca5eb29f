-- The lines that were put are those of the flood, which keep the limits of a script.
use Rattle.std.proofs.Common.{◌≡◌, sym, ◌∙◌, ap, List, [], ◌++◌, subst}
use Rattle.nm_types.specs.declared.scripts.Line.{Line}
use Rattle.nm_types.specs.Limits.{IsScript}
use Rattle.nm_script.proofs.LimitLemmas.{flood_is_script}
use Rattle.nm_script.specs.FloodScripts.{flood_lines}
use Rattle.nm_script.proofs.flood.scripts.flood_script.Goals as goal

lines_put : (start one two three four lines a b d e : List Line)
    → start ≡ [] → one ≡ start ++ a → two ≡ one ++ b → three ≡ two ++ d → four ≡ three ++ e
    → lines ≡ four → lines ≡ a ++ b ++ d ++ e
lines_put start one two three four lines a b d e none sends receives senders receivers all =
    let front = sends ∙ ap (λ (xs : List Line). xs ++ a) none in
    let more = receives ∙ ap (λ (xs : List Line). xs ++ b) front in
    let most = senders ∙ ap (λ (xs : List Line). xs ++ d) more in
    all ∙ receivers ∙ ap (λ (xs : List Line). xs ++ e) most

pub invariant_of-result : goal.invariant_of-result
unfolding flood_lines
invariant_of-result c =
    let lines = lines_put _ _ _ _ _ c.from_vec.result _ _ _ _ c.in_ok-lines.ensures.items
    c.in_ok-push_sends.ensures c.in_ok-push_receives.ensures c.in_ok-push_sender_waits.ensures
    c.in_ok-push_receiver_waits.ensures c.from_vec.ensures in
    let args = c.args in
    record {
      limits = subst (λ (ls : List Line). IsScript args.ranks ls) (sym lines)
          (flood_is_script args.key args.ranks args.messages c.requires.some_rank c.requires.few_ranks
          c.requires.few_messages);
    }

pub returns-clause-lines : goal.returns-clause-lines
unfolding flood_lines
returns-clause-lines c =
    lines_put _ _ _ _ _ c.from_vec.result _ _ _ _ c.in_ok-lines.ensures.items
    c.in_ok-push_sends.ensures c.in_ok-push_receives.ensures c.in_ok-push_sender_waits.ensures
    c.in_ok-push_receiver_waits.ensures c.from_vec.ensures
