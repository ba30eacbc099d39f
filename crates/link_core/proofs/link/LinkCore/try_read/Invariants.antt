use Rattle.link_core.proofs.link.LinkCore.try_read.Given as goal

abbrev pub ghosts-read_piece : goal.ghosts-read_piece
ghosts-read_piece a = record { name = a.blank.name; parts = a.blank.parts }
