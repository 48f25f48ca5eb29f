-- Where it waits, and behind that what it needs.
use Rattle.std.proofs.Common.{codes, decimal, string_bytes}
use Rattle.std.proofs.lemmas.Result.{on_ok_weaker}
use Rattle.nm_why_texts.specs.Waiting.{need_words}
use Rattle.nm_why_texts.proofs.WrittenLemmas.{behind_five}
use Rattle.nm_why_texts.proofs.waiting.push_wait.Goals as goal

pub returns : goal.returns
returns c =
    on_ok_weaker c.push_need.result
    (λ new. behind_five (string_bytes c.args.out.now) (string_bytes c.push_wait_head.new.out)
    (string_bytes c.push_need.new.out) (codes "rank ") (decimal c.args.wait.rank) (codes " waits in line ")
    (decimal c.args.wait.line) (codes ": ") (need_words c.args.wait.need) c.in_ok-push_wait_head.ensures new)
    c.push_need.ensures
