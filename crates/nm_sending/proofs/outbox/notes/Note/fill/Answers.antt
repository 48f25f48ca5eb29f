use Rattle.nm_sending.specs.Notes.{left_of, matter_of}
use Rattle.nm_sending.proofs.NoteLemmas.{fits_next, range_first}
use Rattle.nm_sending.proofs.outbox.notes.Note.fill.Goals as goal

pub fill-requires : goal.fill-requires
fill-requires c =
    let s = c.args.self.now in fits_next (left_of s.load) (matter_of s.load) c.requires s.some

pub invariant_of-into : goal.invariant_of-into
invariant_of-into c =
    let s = c.args.self.now in record {
      seq_in_range = range_first s.seq (left_of s.load) s.some s.numbers_in_range;
      stamp_in_range = s.stamp_in_range;
    }
