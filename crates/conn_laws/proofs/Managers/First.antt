-- A connection of which nothing was asked: what news leave of it.
use Rattle.std.proofs.Common.{◌≡◌, ◌≢◌, ◌&&◌, [], unwrap_or, refl, sym, subst, if◌then◌else◌}
use Rattle.containers.proofs.Choices.{chosen}
use Rattle.redis_error.specs.declared.redis_error.RedisError.TheVariants as error
use Rattle.driver_model.specs.Hearing.{hears_messages}
use Rattle.driver_model.specs.News.{News, silence, connected, refused, overdue, took, came, failed, authorized, denied, deserted, renewed, unrenewed, late, unrepeated, dropped, shut as down}
use Rattle.mux_conn.specs.Connection.{Work, is_ready, is_outstanding}
use Rattle.mux_conn.specs.Effects.{applied, connected_at, dropped_at, failed_at, authorized_at, unauthorized_at, overdue_at, read_at, refused_at, taken_at, all_fresh}
use Rattle.mux_conn.specs.Renewals.{is_unanswered, none_follow, takes_more}
use Rattle.mux_conn.specs.declared.connection.MultiplexedConnection.{MultiplexedConnection}
use Rattle.mux_conn.specs.declared.life.Life.{Life}
use Rattle.mux_conn.specs.declared.life.Life.TheVariants.{Resting}
use Rattle.mux_conn.specs.declared.again.Again.TheVariants as again
use Rattle.mux_conn.specs.Repeats.{repeating}

-- nothing was asked of the connection, and it has no link
pub record IsIdle (c : MultiplexedConnection) : Type 0 where
  pub life : c.life ≡ Resting
  pub requests : c.requests ≡ []
  pub waiting : c.waiting ≡ []
  pub admitted : c.admitted ≡ []
  pub fresh : c.fresh ≡ []
  pub moved : c.moved ≡ []
  pub free : c.free ≡ unwrap_or c.limit 0

-- other new credentials are of no account
idle_renewed : (c d : MultiplexedConnection) → d ≡ record c { renewal = d.renewal } → IsIdle c → IsIdle d
idle_renewed c d same h = subst IsIdle (sym same) (record { life = h.life; requests = h.requests; waiting = h.waiting; admitted = h.admitted; fresh = h.fresh; moved = h.moved; free = h.free })

-- what news make of it
--
abbrev IsIdleAs : Work → Work → Type 0
IsIdleAs w v = IsIdle v.conn × (v.acts ≡ w.acts)

same_idle : (w : Work) → IsIdle w.conn → IsIdleAs w w
same_idle w h = (h, refl)

-- where it depends on the life
at_rest_idle : (w : Work) (f : Life → Work) → f Resting ≡ w → IsIdle w.conn → IsIdleAs w (f w.conn.life)
at_rest_idle w f same h = subst (λ (x : Life). IsIdleAs w (f x)) (sym h.life) (subst (IsIdleAs w) (sym same) (h, refl))

pub applied_idle : (w : Work) (n : News) → n ≢ down → IsIdle w.conn → IsIdleAs w (applied w n)
applied_idle w silence other h = (h, refl)
applied_idle w connected other h = at_rest_idle w (connected_at w) refl h
applied_idle w (refused f) other h = at_rest_idle w (refused_at w f) refl h
applied_idle w overdue other h = at_rest_idle w (overdue_at w) refl h
applied_idle w (took count) other h = at_rest_idle w (taken_at w count) refl h
applied_idle w (came piece) other h = at_rest_idle w (read_at w piece) refl h
applied_idle w (failed f) other h = at_rest_idle w (failed_at w f) refl h
applied_idle w (authorized c) other h = at_rest_idle w (authorized_at w c) refl h
applied_idle w (denied text) other h = at_rest_idle w (unauthorized_at w (error.Credentials text)) refl h
applied_idle w deserted other h = at_rest_idle w (unauthorized_at w (error.AuthFailed [])) refl h
applied_idle w (renewed c) other h = (chosen IsIdle (is_ready w.conn.life && takes_more w.conn.renewal) _ w.conn (λ t. idle_renewed w.conn _ refl h) (λ f. h), refl)
applied_idle w unrenewed other h = (idle_renewed w.conn (none_follow w.conn) refl h, refl)
applied_idle w (late k) other h = (chosen IsIdle (is_unanswered w.conn.renewal k) _ w.conn (λ t. idle_renewed w.conn _ refl h) (λ f. h), refl)
applied_idle w unrepeated other h = at_rest_idle w (λ x. if is_ready x && is_outstanding w.conn.again then all_fresh (repeating w again.Nothing) else w) refl h
applied_idle w dropped other h = chosen (IsIdleAs w) (hears_messages w.conn.hears) (dropped_at w w.conn.life) w (λ t. at_rest_idle w (dropped_at w) refl h) (λ f. (h, refl))
applied_idle w down other h = absurd (other refl)
