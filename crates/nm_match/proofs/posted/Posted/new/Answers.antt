-- Nothing waits, and nothing is cancelled.
use Rattle.std.proofs.Common.{Option, [], ap, refl}
use Rattle.std.specs.Option.{option_map}
use Rattle.nm_match.specs.declared.names.Receive.{Receive}
use Rattle.nm_match.specs.Picks.{names_both}
use Rattle.nm_match.specs.Standings.{standing_of}
use Rattle.nm_match.proofs.NameLemmas.{named_none}
use Rattle.nm_match.proofs.WildLemmas.{either_is}
use Rattle.nm_match.proofs.posted.Posted.new.Goals as goal

pub returns : goal.returns
returns c = record {
  none = λ next. record {
    under = λ k. [];
    is = named_none (λ k. refl) (λ n. ap (λ (o : Option Receive). option_map standing_of o) (c.new-3.ensures n))
        (λ name. refl);
    rings = λ k. (either_is (names_both k) (c.new.ensures k) (c.new-2.ensures k), tt);
  };
}
