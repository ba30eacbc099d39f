-- The line that messages stand in.
use Rattle.std.specs.Prelude.{ℕ, List, [], ◌∷◌, ◌++◌}
use Rattle.link_core.specs.declared.message.Queued.{Queued}
use Rattle.link_core.specs.declared.message.Started.{Started}
use Rattle.link_core.specs.Link.{Starting}

-- who waits, in the order of the places
abbrev pub places : List Queued → List ℕ
places [] = []
places (q ∷ qs) = q.id ∷ places qs

-- who started, in the order of the starts
abbrev pub starts : List Started → List ℕ
starts [] = []
starts (s ∷ ss) = s.id ∷ starts ss

-- those that started, and then those that wait
abbrev pub line_up : Starting → List ℕ
line_up s = starts s.out ++ places s.link.queue
