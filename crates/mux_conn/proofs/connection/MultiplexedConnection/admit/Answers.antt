use Rattle.std.proofs.Common.{◌≡◌, Bool, true, false, ◌||◌, refl, sym, ◌∙◌, ap, subst}
use Rattle.std.specs.Prelude.{OnOk}
use Rattle.containers.proofs.Choices.{taken_if}
use Rattle.redis_error.specs.declared.redis_error.RedisError.{RedisError}
use Rattle.mux_conn.specs.declared.life.Life.{Life}
use Rattle.mux_conn.specs.declared.life.Life.TheVariants.{Resting, Dialing, Wanting, SettingUp, Ready, Ended}
use Rattle.mux_conn.specs.declared.request.Waiting.{Waiting}
use Rattle.mux_conn.specs.Connection.{Work, is_outstanding, has_no_permit, admits_none_at, admits_none, is_spent_in}
use Rattle.mux_conn.specs.Requests.{is_waiting_at}
use Rattle.mux_conn.specs.Passes.{round_begun, let_in, seated_or_behind, admitted_at, admitted}
use Rattle.mux_conn.proofs.connection.MultiplexedConnection.admit.Goals as goal

-- where the link is up, a request is let in, once its round has begun
is_up : (w : Work) (q : Waiting) (life : Life) (empty : Bool) → admits_none_at life empty ≡ false → ((e : RedisError) → life ≡ Ended e → ⊥) → seated_or_behind (let_in (round_begun w q.number) q) q ≡ admitted_at w q life
is_up w q Resting empty free up = absurd (cc)
is_up w q Dialing empty free up = absurd (cc)
is_up w q (Wanting link) empty free up = absurd (cc)
is_up w q (SettingUp link greeting) empty free up = absurd (cc)
is_up w q (Ready link) empty free up = refl
is_up w q (Ended e) empty free up = absurd (up e refl)

-- a request that waits is let in
is_in : (w : Work) (q : Waiting) → is_waiting_at w.conn.requests q.number ≡ true → admits_none w.conn ≡ false → ((e : RedisError) → w.conn.life ≡ Ended e → ⊥) → seated_or_behind (let_in (round_begun w q.number) q) q ≡ admitted w q
is_in w q waits free up = is_up w q w.conn.life (is_outstanding w.conn.again || has_no_permit w.conn.limit w.conn.free) free up ∙ sym (taken_if (is_waiting_at w.conn.requests q.number) (admitted_at w q w.conn.life) w waits)

pub returns : goal.returns
returns c =
    let w : Work = record { conn = c.args.self.now; acts = c.args.out.now.items } in
    let q = c.args.request in
    let all = ap (λ (x : Work). seated_or_behind x q) c.in_ok-enter.ensures.work ∙ is_in w q (sym c.is_waiting.ensures.value ∙ c.if-not-is_waiting.false) c.requires c.in_default.not-Ended in
    record {
      work = subst (λ (x : Work). OnOk c.seat_or_put_behind.result (◌≡◌ {A = Work} (record { conn = c.seat_or_put_behind.new.self; acts = c.seat_or_put_behind.new.out.items }) x)) all c.seat_or_put_behind.ensures.work;
      spent = λ is. subst (λ (x : Work). is_spent_in x.conn.life ≡ true) all (c.seat_or_put_behind.ensures.spent is);
      count = c.seat_or_put_behind.ensures.count ∙ c.in_ok-enter.ensures.count;
      failure = c.seat_or_put_behind.ensures.failure ∙ c.in_ok-enter.ensures.failure;
    }
