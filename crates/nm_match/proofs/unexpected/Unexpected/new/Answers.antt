-- Nothing waits, and nothing is claimed.
use Rattle.std.proofs.Common.{List, ap, refl}
use Rattle.std.specs.Map.{lookup}
use Rattle.nm_match.specs.declared.names.Message.{Message}
use Rattle.nm_match.specs.declared.names.Standing.{Standing}
use Rattle.nm_match.specs.Names.{same_message}
use Rattle.nm_match.proofs.NameLemmas.{named_none}
use Rattle.nm_match.proofs.unexpected.Unexpected.new.Goals as goal

pub returns : goal.returns
returns c = record {
  none = λ next. record {
    named = named_none c.new.ensures.named
        (λ name. ap (λ (es : List (Message × Standing)). lookup (same_message name) es) c.new-2.ensures.empty)
        (λ name. refl);
    wildcards = rw c.new.ensures.wildcards tt;
  };
}
