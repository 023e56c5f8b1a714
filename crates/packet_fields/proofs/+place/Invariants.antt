use Rattle.packet_fields.proofs.+place.Given as goal

abbrev pub decreases-place : goal.decreases-place
decreases-place l = l.j
