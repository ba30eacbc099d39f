use Rattle.resp_read.proofs.reader.Reader.next_value.Given as goal

abbrev pub ghosts-read_on : goal.ghosts-read_on
ghosts-read_on a = record { name = a.blank.name; parts = a.blank.parts }
