use Rattle.routing_tests.proofs.ranges.has_ranges.Given as goal

abbrev pub ghosts-are_ranges : goal.ghosts-are_ranges
ghosts-are_ranges a = record { name = a.blank.name; parts = a.blank.parts }
