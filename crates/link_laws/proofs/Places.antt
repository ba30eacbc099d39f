-- Messages start in the order of their places in the queue.
use Rattle.std.proofs.Common.{◌≡◌, ℕ, Bool, true, false, List, [], ◌∷◌, ◌++◌, if◌then◌else◌, refl, ap, ◌∙◌, append_assoc}
use Rattle.link_core.specs.declared.message.Queued.{Queued}
use Rattle.link_core.specs.declared.message.Started.{Started}
use Rattle.link_core.specs.Link.{LinkState, Starting, enqueued, holds_back, started_one, started_each, started_all}
use Rattle.link_laws.specs.Places.{places, starts, line_up}

places_append : (xs ys : List Queued) → places (xs ++ ys) ≡ places xs ++ places ys
places_append [] ys = refl
places_append (x ∷ xs) ys = ap (λ ns. x.id ∷ ns) (places_append xs ys)

starts_append : (xs ys : List Started) → starts (xs ++ ys) ≡ starts xs ++ starts ys
starts_append [] ys = refl
starts_append (x ∷ xs) ys = ap (λ ns. x.id ∷ ns) (starts_append xs ys)

-- a new message has the last place
pub last_place : (s : LinkState) (q : Queued) → places (enqueued s q).queue ≡ places s.queue ++ q.id ∷ []
last_place s q = places_append s.queue (q ∷ [])

line_branch : (b : Bool) (x y : Starting) (line : List ℕ) → line_up x ≡ line → line_up y ≡ line → line_up (if b then x else y) ≡ line
line_branch true x y line p q = p
line_branch false x y line p q = q

one_more : (s : Starting) (q : Queued) (qs : List Queued) → starts (started_one s q).out ++ places qs ≡ starts s.out ++ places (q ∷ qs)
one_more s q qs = ap (λ ns. ns ++ places qs) (starts_append s.out _) ∙ append_assoc (starts s.out) (q.id ∷ []) (places qs)

-- a message that starts at once stands behind those that started, and before all that wait
pub first_in_place : (s : Starting) (q : Queued) → line_up (started_one s q) ≡ starts s.out ++ q.id ∷ places s.link.queue
first_in_place s q = one_more s q s.link.queue

each_in_place : (s : Starting) (queue : List Queued) → line_up (started_each s queue) ≡ starts s.out ++ places queue
each_in_place s [] = refl
each_in_place s (q ∷ qs) =
    line_branch (holds_back s.link) (record s { link = record s.link { queue = q ∷ qs } }) (started_each (started_one s q) qs) (starts s.out ++ places (q ∷ qs)) refl
    (each_in_place (started_one s q) qs ∙ one_more s q qs)

-- the front of the queue starts, in order, and the others keep their places
pub starts_in_place : (s : Starting) → line_up (started_all s) ≡ line_up s
starts_in_place s = each_in_place s s.link.queue
