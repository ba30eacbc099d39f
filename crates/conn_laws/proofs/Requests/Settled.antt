-- The waits of a turn are shown.
use Rattle.mux_conn.specs.Turn.{early_wait, is_from, moved_each_shown, moved_wait, wait_shown}
use Rattle.std.proofs.Common.{Bool, List, None, Some, [], ap, false, refl, true, ℕ, ◌∙◌, ◌∷◌, ◌≡◌}
use Rattle.std.specs.Prelude.{if◌then◌else◌, ◌&&◌}
use Rattle.containers.proofs.Choices.{le_test, left_if, not_both}
use Rattle.driver_model.specs.declared.action.WaitKind.{WaitKind}
use Rattle.driver_model.specs.declared.action.WaitKind.TheVariants as wait
use Rattle.link_core.specs.Link.{first_in}
use Rattle.link_core.specs.declared.message.Queued.{Queued}
use Rattle.mux_conn.specs.Connection.{Work, first_queued, is_ready, is_outstanding}
use Rattle.mux_conn.specs.Requests.{is_admitted_at, is_placed_at, is_unbegun_at}
use Rattle.mux_conn.specs.declared.life.Life.{Life}
use Rattle.mux_conn.specs.declared.life.Life.TheVariants.{Resting, Dialing, Ended, Ready, Wanting, SettingUp}
use Rattle.conn_laws.proofs.Ties.InLine.{first_is_least}
use Rattle.conn_laws.proofs.Ties.Numbers.{IsIn, Rising}
use Rattle.conn_laws.proofs.Ties.States.{AreBegun}
use Rattle.conn_laws.proofs.Ties.Tied.{link_in, queue_ids}
use Rattle.conn_laws.proofs.Internal.Repeats.{serves}
use Rattle.mux_conn.specs.declared.again.Again.{Again}

-- whoever waits for its round came in this turn, since nobody does
pub still_new : (w : Work) (newer : List ℕ) → AreBegun w.conn.rounds w.conn.again w.conn.life w.conn.requests → (p : ℕ) → w.conn.rounds ≡ true → serves w.conn.life w.conn.again ≡ true → is_unbegun_at w.conn.requests p ≡ true → IsIn p newer
still_new w newer begun p shows up u = absurd (not_both (is_unbegun_at w.conn.requests p) (begun shows up p) u)

-- those that were moved
--
-- who is in a queue is its first message, or stands behind it
pub from_first : (queue : List Queued) (lo hi p : ℕ) → Rising lo (queue_ids queue) hi → IsIn p (queue_ids queue) → is_from (first_in queue) p ≡ true
from_first [] lo hi p r i = absurd i
from_first (q ∷ qs) lo hi p r i = le_test q.id p (first_is_least lo q.id (queue_ids qs) hi p r i)

-- where nothing is in the queue, nobody waits for room there
none_from : (life : Life) (p : ℕ) (placed : Bool) → (link_in life).queue ≡ [] → (placed && is_from (first_queued life) p) ≡ false
none_from Resting p true none = refl
none_from Resting p false none = refl
none_from Dialing p true none = refl
none_from Dialing p false none = refl
none_from (Wanting link) p true none = refl
none_from (Wanting link) p false none = refl
none_from (SettingUp link greeting) p true none = refl
none_from (SettingUp link greeting) p false none = refl
none_from (Ready link) p true none = ap (λ qs. is_from (first_in qs) p) none
none_from (Ready link) p false none = refl
none_from (Ended e) p true none = refl
none_from (Ended e) p false none = refl

-- so nothing is shown where nobody waits for a place
pub unmoved : (w : Work) (ps : List ℕ) → (link_in w.conn.life).queue ≡ [] → ((p : ℕ) → is_admitted_at w.conn.requests p ≡ false) → moved_each_shown w ps ≡ w
unmoved w [] empty none = refl
unmoved w (p ∷ ps) empty none =
    let room = is_placed_at w.conn.requests p && is_from (first_queued w.conn.life) p in
    let kind_is : moved_wait w.conn p ≡ None = left_if (is_admitted_at w.conn.requests p) (Some wait.Place) (if room then Some wait.Room else None) (none p) ∙ left_if room (Some wait.Room) None (none_from w.conn.life p (is_placed_at w.conn.requests p) empty) in
    ap (λ x. moved_each_shown (wait_shown w p x) ps) kind_is ∙ unmoved w ps empty none

-- those that came in this turn, or whose connect was answered in it
--
-- which wait they show, by the life of the connection, and by what is subscribed again
abbrev pub wait_at : Life → Again → WaitKind
wait_at life a = if is_ready life && is_outstanding a then wait.Resubscribe else early_wait life

-- all waits
--
-- a connection with none that was moved, as the waits are shown
abbrev pub none_moved : Work → Work
none_moved w = record w { conn = record w.conn { moved = [] } }

-- and with none that came in this turn
abbrev pub none_fresh : Work → Work
none_fresh w = record w { conn = record w.conn { fresh = [] } }
