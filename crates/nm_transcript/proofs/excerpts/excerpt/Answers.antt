-- The script and the trace of what is kept.
use Rattle.std.proofs.Common.{◌∙◌, List, refl, sym, subst}
use Rattle.std.proofs.lemmas.Result.{IfOk-weaker}
use Rattle.nm_report.specs.declared.accounts.RankAccount.{RankAccount}
use Rattle.nm_report.specs.Ends.{ends_of}
use Rattle.nm_transcript.specs.Excerpts.{AreOwn, IsExcerpt}
use Rattle.nm_transcript.specs.Transcripts.{AreEndsOf}
use Rattle.nm_transcript.proofs.PlaceLemmas.{own_ends}
use Rattle.nm_transcript.proofs.excerpts.excerpt.Goals as goal

pub arrange-requires-clause-many : goal.arrange-requires-clause-many
arrange-requires-clause-many c = c.in_ok-own.ensures.many ∙ c.requires.calls

pub arrange-requires-clause-own : goal.arrange-requires-clause-own
arrange-requires-clause-own c =
    let own = c.in_ok-own.own in
    subst (λ (accounts : List RankAccount). AreEndsOf own.given.items (ends_of accounts)) (sym c.from_vec.ensures)
    (own_ends own.given.items own.accounts.items c.in_ok-own.ensures.own)

pub returns-clause-ok : goal.returns-clause-ok
returns-clause-ok c =
    let own = c.in_ok-own.own in
    IfOk-weaker c.arrange.result _ (λ x. IsExcerpt c.args.run x.script.lines x.record)
    (λ x is. record {
      given = own.given.items;
      own = record c.args.run { ranks = c.from_vec.result };
      owns = subst (λ (accounts : List RankAccount). AreOwn own.given.items accounts) (sym c.from_vec.ensures)
          c.in_ok-own.ensures.own;
      shape = refl;
      pairs = refl;
      cells = refl;
      done = refl;
      transcript = is;
    }) c.arrange.ensures.ok
