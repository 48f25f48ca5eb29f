-- A packet on its way: its header is the parcel's.
use Rattle.nm_types.specs.declared.packets.Packet.{Packet}
use Rattle.nm_chain.specs.declared.table.parcels.Parcel.{Parcel}

-- the parcel that a packet goes in
abbrev pub parcel_of : Packet → Parcel Packet
parcel_of p = record { from = p.from; seq = p.seq; item = p; seq_in_range = p.seq_in_range }

-- the packet that came in a parcel
abbrev pub packet_of : Parcel Packet → Packet
packet_of x = record x.item { from = x.from; seq = x.seq; seq_in_range = x.seq_in_range }
