use Rattle.packet_fields.proofs.+starts.Given as goal

abbrev pub decreases-starts : goal.decreases-starts
decreases-starts l = l.k
