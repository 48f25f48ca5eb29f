-- It comes last into the ring of its key.
use Rattle.std.proofs.Common.{refl}
use Rattle.nm_types.proofs.ResultLemmas.{on_err}
use Rattle.nm_match.specs.Names.{fronts_of}
use Rattle.nm_match.proofs.HeldLemmas.{all_same}
use Rattle.nm_match.proofs.PostedLemmas.{posted_kept, posted_put}
use Rattle.nm_match.proofs.posted.Posted.put.Goals as goal

pub returns-in_err-make_room-clause-err : goal.returns-in_err-make_room-clause-err
returns-in_err-make_room-clause-err c = on_err c.from_residual.result (λ posts cancelled next is.
    posted_kept is (record {
      named = c.args.self.now.named;
      wild = c.args.self.now.wild;
      standings = c.make_room.new.self;
    }) (λ k. refl) c.make_room.ensures.same)

pub returns-in_err-next-clause-err : goal.returns-in_err-next-clause-err
returns-in_err-next-clause-err c = on_err c.from_residual-in_err-next.result (λ posts cancelled next is.
    posted_kept is c.enter.new.self
    (all_same (fronts_of c.args.self.now) (fronts_of c.enter.new.self) c.of_post-key.result
    c.in_err-next.ensures.err c.in_err-next.ensures.others)
    (λ n. rw c.in_err-next.ensures.standings (c.make_room.ensures.same n)))

pub returns-clause-ok : goal.returns-clause-ok
returns-clause-ok c = λ posts cancelled two is none.
    let was = posted_kept is (record {
      named = c.args.self.now.named;
      wild = c.args.self.now.wild;
      standings = c.make_room.new.self;
    }) (λ k. refl) c.make_room.ensures.same in
    let first = rw c.of_post-key.ensures at c.in_ok-next.ensures.first in
    let own = rw c.of_post-key.ensures at c.in_ok-next.ensures.own in
    let others = rw c.of_post-key.ensures at c.in_ok-next.ensures.others in
    posted_put was (record {
      named = c.enter.new.self.named;
      wild = c.enter.new.self.wild;
      standings = c.let_in.new.self;
    }) two c.args.p none c.in_ok-next.next first own others
    (rw c.in_ok-next.ensures.standings at c.let_in.ensures)
