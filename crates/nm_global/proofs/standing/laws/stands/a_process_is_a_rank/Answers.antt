-- By the law of a process that runs.
use Rattle.nm_global.proofs.standing.laws.stands.a_process_is_a_rank.Goals as goal

pub returns : goal.returns
returns c shape commands bound i v past standing right stamped =
    record {
      me = standing.rank.me;
      sizes = standing.work.sizes;
      run = c.a_process_runs.ensures shape commands bound v standing.work right stamped;
      logged = standing.rank.logged;
      left = standing.rank.left;
    }
