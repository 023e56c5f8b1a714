use Rattle.mmwave_inside.proofs.+walk_inside.Given as goal

-- proposed from what the function passes where it calls itself
abbrev pub decreases-walk_inside : goal.decreases-walk_inside
decreases-walk_inside l = l.k
