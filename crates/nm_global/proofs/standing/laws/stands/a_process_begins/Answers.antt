-- By the law of new ranks.
use Rattle.nm_global.proofs.standing.laws.stands.a_process_begins.Goals as goal

pub returns : goal.returns
returns c shape commands bound i v work new =
    let rank = c.new_ranks_stand.ensures.stands shape commands i v.rank new in
    record {
      work = work;
      rank = record { me = new.me; logged = rank.logged; left = rank.left };
    }
