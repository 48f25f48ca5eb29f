use Rattle.std.proofs.Common.{◌≡◌, ◌∙◌, ap, sym, nat_eq, nat_lt, length, false, true}
use Rattle.std.specs.Map.{set_value}
use Rattle.std.specs.Option.{option_map_or}
use Rattle.nm_rndv.specs.Grants.{FromSender, grant_in, has_bytes, has_unfinished, is_open, is_whole}
use Rattle.nm_rndv.specs.Grants.{is_whole_in, with_grant}
use Rattle.nm_rndv.proofs.GrantLemmas.{closed_whole, open_in, open_same, unfinished_seen, whole_has_bytes}
use Rattle.nm_rndv.proofs.Places.{some_is}
use Rattle.nm_rndv.proofs.senders.Sender.take.Goals as goal

pub lift-grant-requires-clause-there : goal.lift-grant-requires-clause-there
lift-grant-requires-clause-there c =
    let whole = some_is is_whole (grant_in c.self.inside.grants.entries c.args.n)
    (ap (λ (v : FromSender). is_whole_in v.grants c.args.n) c.self.view_is ∙ c.requires) in
    ap (λ o. option_map_or has_bytes o false) whole.1 ∙ whole_has_bytes whole.0 whole.2

pub take-bytes-requires : goal.take-bytes-requires
take-bytes-requires c =
    ap (λ o. option_map_or is_whole o false) (sym c.lift-grant.ensures.value)
    ∙ ap (λ (v : FromSender). is_whole_in v.grants c.args.n) c.self.view_is ∙ c.requires

pub end-requires-clause-bytes : goal.end-requires-clause-bytes
end-requires-clause-bytes c = ap has_bytes c.take-bytes.ensures.gone

pub invariant_of-self : goal.invariant_of-self
invariant_of-self c =
    let es = c.self.inside.grants.entries in let n = c.args.n in let g = c.lift-grant.result in
    let w = c.take-bytes.new.self in
    let whole : is_whole g ≡ true = ap (λ o. option_map_or is_whole o false) (sym c.lift-grant.ensures.value)
    ∙ ap (λ (v : FromSender). is_whole_in v.grants n) c.self.view_is ∙ c.requires in
    let same : is_open w ≡ is_open g = ap is_open c.take-bytes.ensures.gone ∙ sym (closed_whole g whole) in
    let entries = c.end.ensures.entries ∙ c.lift-grant.ensures.others w in
    record {
      live = c.end.ensures.live;
      numbers = c.self.invariant.numbers
          ∙ sym (ap open_in entries ∙ open_same n w es g c.lift-grant.ensures.value same);
    }

pub returns-clause-bytes : goal.returns-clause-bytes
returns-clause-bytes c = rw (← c.self.view_is, c.lift-grant.ensures.value) c.take-bytes.ensures.bytes

pub returns-clause-gone : goal.returns-clause-gone
returns-clause-gone c =
    let es = c.self.inside.grants.entries in let n = c.args.n in
    let w = c.take-bytes.new.self in
    let entries = c.end.ensures.entries ∙ c.lift-grant.ensures.others w in
    entries ∙ rw (← c.self.view_is, c.lift-grant.ensures.value) (ap (with_grant es n) c.take-bytes.ensures.gone)

pub returns-clause-unfinished : goal.returns-clause-unfinished
returns-clause-unfinished c =
    let es = c.self.inside.grants.entries in let n = c.args.n in let g = c.lift-grant.result in
    let w = c.take-bytes.new.self in
    let whole : is_whole g ≡ true = ap (λ o. option_map_or is_whole o false) (sym c.lift-grant.ensures.value)
    ∙ ap (λ (v : FromSender). is_whole_in v.grants n) c.self.view_is ∙ c.requires in
    let same : is_open w ≡ is_open g = ap is_open c.take-bytes.ensures.gone ∙ sym (closed_whole g whole) in
    let entries = c.end.ensures.entries ∙ c.lift-grant.ensures.others w in
    ap has_unfinished entries ∙ sym (unfinished_seen (set_value (nat_eq n) es w))
    ∙ ap (λ ns. nat_lt 0 (length ns)) (open_same n w es g c.lift-grant.ensures.value same)
    ∙ unfinished_seen es ∙ ap (λ (v : FromSender). has_unfinished v.grants) c.self.view_is
