-- Three fields, one after another.
use Rattle.std.proofs.Common.{string_bytes}
use Rattle.std.proofs.lemmas.Result.{on_ok_weaker}
use Rattle.nm_why_texts.proofs.WrittenLemmas.{three_written}
use Rattle.nm_why_texts.proofs.waiting.push_misfit.Goals as goal

pub returns : goal.returns
returns c =
    on_ok_weaker c.push_unless-3.result
    (λ new. three_written (string_bytes c.args.out.now) (string_bytes c.push_unless.new.out)
    (string_bytes c.push_unless-2.new.out) (string_bytes c.push_unless-3.new.out) _ _ _ c.in_ok-push_unless.ensures
    c.in_ok-push_unless-2.ensures new)
    c.push_unless-3.ensures
