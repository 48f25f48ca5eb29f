use Rattle.std.proofs.Common.{[], length, sym, ap, ◌∙◌, arith}
use Rattle.nm_cells.proofs.TallyLemmas.{row_at}
use Rattle.nm_cells.proofs.closed.Closed.peer.Goals as goal
use Rattle.nm_types.proofs.ListLemmas.{map_length}

pub index-requires-2 : goal.index-requires-2
index-requires-2 g c = let s = c.args.self.now in let rows = s.counted.items in
    let n = sym (map_length (λ v. v.items) rows) ∙ s.tallied.ranks in
    let low = c.requires.0 in let far = c.requires.1 in
    let row = row_at (λ v. v.items) rows c.args.of c.index.result.now [] (omega arith)
    c.index.ensures in
    let wide = sym (ap length row) ∙ s.tallied.wide c.args.of low in
    let long = c.index.result.now.ok.0 in omega arith
