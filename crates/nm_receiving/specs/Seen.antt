-- The fields of a rank's receiving side as contracts see them.
use Rattle.nm_receiving.specs.declared.receivings.Receiving.TheInside.{Inside}
use Rattle.nm_receiving.specs.Receipts.{ReceivingView}
use Rattle.nm_receiving.specs.Steps.{streams_of}

-- the side as contracts see it
abbrev pub seen : Inside → ReceivingView
seen a =
    record {
      sizes = a.joiner.sizes;
      deeds = a.matcher;
      streams = streams_of a.joiner;
      grants = a.grants.grants;
      receipts = a.receipts.rows;
      receives = a.receives.items;
      drawn = a.drawn.items;
    }
