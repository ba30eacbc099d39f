-- A good event says no more than was offered, and names what was given out.
use Rattle.std.proofs.Common.{◌≡◌, refl, arith, ℕ, ◌<◌, ◌==◌, ◌&&◌, Bool, true, false, length, Option, Some, None}
use Rattle.std.specs.Prelude.{slice_get}
use Rattle.containers.proofs.Choices.{not_le_from, not_lt_from, or_right}
use Rattle.driver_model.specs.declared.action.Purpose.{Purpose}
use Rattle.driver_model.specs.declared.action.Purpose.TheVariants as purpose
use Rattle.driver_model.specs.declared.action.SourceUse.{SourceUse}
use Rattle.driver_model.specs.declared.action.SourceUse.TheVariants as source
use Rattle.driver_model.specs.declared.event.EventKind.{EventKind}
use Rattle.driver_model.specs.declared.event.EventKind.TheVariants as event
use Rattle.driver_model.specs.News.{News, silence, connected, refused, overdue, took, came, failed, authorized, denied, deserted, renewed, unrenewed, late, unrepeated, for_link, of_timer, of_source, news_of}
use Rattle.mux_conn.specs.declared.life.Life.{Life}
use Rattle.mux_conn.specs.declared.life.Life.TheVariants.{Resting, Dialing, Wanting, SettingUp, Ready, Ended}
use Rattle.mux_conn.specs.Effects.{IsWithin, CanTake}
use Rattle.single_session.specs.declared.core_state.Core.{Core}
use Rattle.single_session.specs.Turn.{is_bad, is_no_link, exceeds_offer, IsKnown}

can_take : (life : Life) (count : ℕ) → exceeds_offer life count ≡ false → CanTake life count
can_take Resting count f = tt
can_take Dialing count f = tt
can_take (Wanting link) count f = not_lt_from link.outbox.offered count f
can_take (SettingUp link greeting) count f = not_lt_from link.outbox.offered count f
can_take (Ready link) count f = not_lt_from link.outbox.offered count f
can_take (Ended e) count f = tt

own_take : (mine : Bool) (life : Life) (count : ℕ) → (mine && exceeds_offer life count) ≡ false → IsWithin life (for_link mine (took count))
own_take true life count f = can_take life count f
own_take false life count f = tt

either_news : (mine : Bool) (life : Life) (x : News) → IsWithin life x → IsWithin life (for_link mine x)
either_news true life x h = h
either_news false life x h = tt

timer_within : (life : Life) (n : ℕ) (slot : Option Purpose) → IsWithin life (of_timer n slot)
timer_within life n None = tt
timer_within life n (Some (purpose.Connect l)) = either_news (l == n) life overdue tt
timer_within life n (Some (purpose.Response who)) = tt
timer_within life n (Some (purpose.Renewal l k)) = either_news (l == n) life (late k) tt
timer_within life n (Some (purpose.Backoff g)) = tt
timer_within life n (Some (purpose.Resubscription l)) = either_news (l == n) life unrepeated tt

source_within : (life : Life) (n : ℕ) (slot : Option SourceUse) (first later : News) → IsWithin life first → IsWithin life later → IsWithin life (of_source n slot first later)
source_within life n None first later h k = tt
source_within life n (Some (source.Setup l)) first later h k = either_news (l == n) life first h
source_within life n (Some (source.Renewal l)) first later h k = either_news (l == n) life later k

pub news_within : (c : Core) (kind : EventKind) → is_bad c kind ≡ false → IsWithin c.single.connection.life (news_of c.timers c.sources c.single.link kind)
unfolding is_bad
news_within c (event.Submit what) good = tt
news_within c (event.Cancel n) good = tt
news_within c (event.Connected l) good = either_news (l == c.single.link) c.single.connection.life connected tt
news_within c (event.Refused l f) good = either_news (l == c.single.link) c.single.connection.life (refused f) tt
news_within c (event.Fired t) good = timer_within c.single.connection.life c.single.link (slice_get c.timers t)
news_within c (event.Timeout ms) good = tt
news_within c (event.Creds n auth) good = source_within c.single.connection.life c.single.link (slice_get c.sources n) (authorized auth) (renewed auth) tt tt
news_within c (event.CredsError n text) good = source_within c.single.connection.life c.single.link (slice_get c.sources n) (denied text) silence tt tt
news_within c (event.CredsEnd n) good = source_within c.single.connection.life c.single.link (slice_get c.sources n) deserted unrenewed tt tt
news_within c (event.Wrote l count) good = own_take (l == c.single.link) c.single.connection.life count (or_right (is_no_link c l) _ good)
news_within c (event.Bytes l piece) good = either_news (l == c.single.link) c.single.connection.life (came piece) tt
news_within c (event.Ended l) good = either_news (l == c.single.link) c.single.connection.life (failed _) tt
news_within c (event.ReadFault l kind) good = either_news (l == c.single.link) c.single.connection.life (failed _) tt
news_within c (event.WriteFault l kind) good = either_news (l == c.single.link) c.single.connection.life (failed _) tt
news_within c event.DropStream good = tt
news_within c event.Shutdown good = tt

-- a good cancel names a submission
pub known_good : (c : Core) (kind : EventKind) (count : ℕ) → count ≡ length c.table → is_bad c kind ≡ false → IsKnown count kind
unfolding is_bad
known_good c (event.Cancel n) count same good = let l : n < length c.table = not_le_from (length c.table) n good in omega (arith, same, l)
known_good c (event.Submit what) count same good = tt
known_good c (event.Connected l) count same good = tt
known_good c (event.Refused l f) count same good = tt
known_good c (event.Fired t) count same good = tt
known_good c (event.Timeout ms) count same good = tt
known_good c (event.Creds n auth) count same good = tt
known_good c (event.CredsError n text) count same good = tt
known_good c (event.CredsEnd n) count same good = tt
known_good c (event.Wrote l n) count same good = tt
known_good c (event.Bytes l piece) count same good = tt
known_good c (event.Ended l) count same good = tt
known_good c (event.ReadFault l kind) count same good = tt
known_good c (event.WriteFault l kind) count same good = tt
known_good c event.DropStream count same good = tt
known_good c event.Shutdown count same good = tt

-- the number of the turn makes no event bad
pub bad_counted : (c : Core) (turns : ℕ) (kind : EventKind) → is_bad (record c { turns = turns }) kind ≡ is_bad c kind
unfolding is_bad
bad_counted c turns (event.Submit what) = refl
bad_counted c turns (event.Cancel n) = refl
bad_counted c turns (event.Connected l) = refl
bad_counted c turns (event.Refused l f) = refl
bad_counted c turns (event.Fired t) = refl
bad_counted c turns (event.Timeout ms) = refl
bad_counted c turns (event.Creds n auth) = refl
bad_counted c turns (event.CredsError n text) = refl
bad_counted c turns (event.CredsEnd n) = refl
bad_counted c turns (event.Wrote l count) = refl
bad_counted c turns (event.Bytes l piece) = refl
bad_counted c turns (event.Ended l) = refl
bad_counted c turns (event.ReadFault l kind) = refl
bad_counted c turns (event.WriteFault l kind) = refl
bad_counted c turns event.DropStream = refl
bad_counted c turns event.Shutdown = refl
