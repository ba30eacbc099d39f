-- The messages that have a place in the queue.
use Rattle.std.specs.Prelude.{ℕ, ◌==◌, Bool, ◌&&◌, List, []}
use Rattle.link_core.specs.declared.message.Queued.{Queued}
use Rattle.link_core.specs.First.{first_replaced}

-- it is that message, and its verdict is wanted
abbrev pub is_wanted : ℕ → Queued → Bool
is_wanted id q = (q.id == id) && q.awaited

-- that message, if its verdict is wanted, leaves the queue
abbrev pub without : List Queued → ℕ → List Queued
without queue id = first_replaced (is_wanted id) (λ _. []) queue
