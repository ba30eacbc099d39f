-- Messages of the driver's own that are settled: what all of them come to.
use Rattle.std.proofs.Common.{◌≡◌, ℕ, ◌==◌, Bool, true, false, ◌&&◌, ◌||◌, if◌then◌else◌, List, [], ◌∷◌, refl, sym, ap, ◌∙◌, subst, inl, inr}
use Rattle.containers.proofs.Choices.{by_test, eq_from, eq_test, not_both, chosen}
use Rattle.link_core.specs.declared.message.Settled.{Settled}
use Rattle.mux_conn.specs.declared.act.LinkAct.{LinkAct}
use Rattle.mux_conn.specs.declared.again.Again.{Again}
use Rattle.mux_conn.specs.declared.again.Again.TheVariants as again
use Rattle.mux_conn.specs.declared.life.Life.{Life}
use Rattle.mux_conn.specs.declared.life.Life.TheVariants.{Ended}
use Rattle.mux_conn.specs.declared.renewal.Renewal.{Renewal}
use Rattle.mux_conn.specs.declared.request.Waiting.{Waiting}
use Rattle.mux_conn.specs.Connection.{Work, acted, is_outstanding, is_ready, is_repeating}
use Rattle.mux_conn.specs.Effects.{all_fresh, numbers_of, served}
use Rattle.mux_conn.specs.Renewals.{is_done, renewal_id, renewing, replied}
use Rattle.mux_conn.specs.Repeats.{repeat_id, repeating}
use Rattle.redis_error.specs.declared.redis_error.RedisError.{RedisError}
use Rattle.link_laws.specs.Settles.{settled_ids}
use Rattle.conn_laws.proofs.Ties.Numbers.{IsIn, repeat_other}
use Rattle.conn_laws.proofs.Requests.Settle.{Leaves, own_each, replied_each}

-- the reply to what is subscribed again is one of these
abbrev pub has_repeat : List Settled → Bool
has_repeat [] = false
has_repeat (s ∷ ss) = (s.id == repeat_id) || has_repeat ss

-- where its number is
pub repeat_in : (ss : List Settled) → IsIn repeat_id (settled_ids ss) → has_repeat ss ≡ true
repeat_in [] i = absurd i
repeat_in (s ∷ ss) (inl same) = ap (λ b. b || has_repeat ss) (eq_test s.id repeat_id same)
repeat_in (s ∷ ss) (inr i) = ap (λ b. (s.id == repeat_id) || b) (repeat_in ss i) ∙ or_true (s.id == repeat_id)
  where
    or_true : (b : Bool) → (b || true) ≡ true
    or_true true = refl
    or_true false = refl

-- where that isn't answered before, nothing is to be subscribed again behind them
abbrev pub again_after : Bool → Again → List Settled → Again
again_after goes a ss = if goes && has_repeat ss then again.Nothing else a

-- and the waits of all that wait are to be shown anew
abbrev pub fresh_after : Bool → List Waiting → List ℕ → List Settled → List ℕ
fresh_after goes waiting fresh ss = if goes && has_repeat ss then numbers_of waiting else fresh

-- so they all come to this
abbrev pub own_done : Work → List Settled → Work
own_done w ss = record w {
  conn = record w.conn {
    renewal = replied_each w.conn.renewal ss;
    again = again_after (is_repeating w.conn) w.conn.again ss;
    fresh = fresh_after (is_repeating w.conn) w.conn.waiting w.conn.fresh ss;
  };
}

-- a choice of what both are
either_is : {X : Type 0} (b : Bool) (x : X) → (if b then x else x) ≡ x
either_is true x = refl
either_is false x = refl

-- where one of two doesn't hold the second is chosen
second_is : {X : Type 0} (b : Bool) (x y : X) → (if b && false then x else y) ≡ y
second_is true x y = refl
second_is false x y = refl

-- what is subscribed again is answered, where it wasn't, and then these
behind_served : (w : Work) (ss : List Settled) (goes : Bool) → is_repeating w.conn ≡ goes → ((v : Work) → own_each v ss ≡ own_done v ss)
    → own_each (if goes then all_fresh (repeating w again.Nothing) else w) ss
    ≡ record w { conn = record w.conn { renewal = replied_each w.conn.renewal ss; again = if goes && true then again.Nothing else w.conn.again; fresh = if goes && true then numbers_of w.conn.waiting else w.conn.fresh } }
behind_served w ss true goes each =
    let v = all_fresh (repeating w again.Nothing) in
    let open_is = is_repeating v.conn && has_repeat ss in
    each v ∙ (λ i. record w { conn = record w.conn { renewal = replied_each w.conn.renewal ss; again = either_is open_is again.Nothing i; fresh = either_is open_is (numbers_of w.conn.waiting) i } })
behind_served w ss false done each =
    each w ∙ (λ i. record w { conn = record w.conn { renewal = replied_each w.conn.renewal ss; again = again_after (done i) w.conn.again ss; fresh = fresh_after (done i) w.conn.waiting w.conn.fresh ss } })

-- one of them comes first
own_first : (w : Work) (r : Renewal) (ss : List Settled) (auth repeats : Bool) → (auth ≡ true → repeats ≡ false) → ((v : Work) → own_each v ss ≡ own_done v ss)
    → own_each (if auth then renewing w r else (if repeats then served w else w)) ss
    ≡ record w {
      conn = record w.conn {
        renewal = replied_each (if auth then r else w.conn.renewal) ss;
        again = if is_repeating w.conn && (repeats || has_repeat ss) then again.Nothing else w.conn.again;
        fresh = if is_repeating w.conn && (repeats || has_repeat ss) then numbers_of w.conn.waiting else w.conn.fresh;
      };
    }
own_first w r ss true true apart each = absurd (let no : true ≡ false = apart refl in cc)
own_first w r ss true false apart each = each (renewing w r)
own_first w r ss false true apart each = behind_served w ss (is_repeating w.conn) refl each
own_first w r ss false false apart each = each w

-- so they do
pub own_is : (w : Work) (ss : List Settled) → own_each w ss ≡ own_done w ss
own_is w [] =
    let goes = is_repeating w.conn in
    λ i. record w { conn = record w.conn { again = sym (second_is goes again.Nothing w.conn.again) i; fresh = sym (second_is goes (numbers_of w.conn.waiting) w.conn.fresh) i } }
own_is w (s ∷ ss) = own_first w (replied w.conn.renewal (is_done s.verdict)) ss (s.id == renewal_id) (s.id == repeat_id) apart (λ v. own_is v ss)
  where
    apart : (s.id == renewal_id) ≡ true → (s.id == repeat_id) ≡ false
    apart auth = by_test (s.id == repeat_id) ((s.id == repeat_id) ≡ false) (λ t. absurd (not_both (s.id == renewal_id) (repeat_other s.id (eq_from s.id repeat_id t)) auth)) (λ f. f)

-- where nothing is to be subscribed again, nothing is behind them
pub answered_after : (goes : Bool) (a : Again) (ss : List Settled) → is_outstanding a ≡ false → is_outstanding (again_after goes a ss) ≡ false
answered_after goes a ss none = chosen (λ x. is_outstanding x ≡ false) (goes && has_repeat ss) again.Nothing a (λ t. refl) (λ f. none)

-- what they leave
pub own_leaves : (w : Work) (ss : List Settled) → Leaves w (own_each w ss)
own_leaves w ss = subst (Leaves w) (sym (own_is w ss)) (record { size = refl; boundary = refl; life = refl; waiting = refl; admitted = refl; moved = refl; hears = refl; answered = answered_after (is_repeating w.conn) w.conn.again ss })

-- an act that is shown leaves what they come to
pub acted_own : (w : Work) (a : LinkAct) (ss : List Settled) → own_each (acted w a) ss ≡ acted (own_each w ss) a
acted_own w a ss = own_is (acted w a) ss ∙ ap (λ (x : Work). acted x a) (sym (own_is w ss))

-- on a link that has ended they come to new credentials alone
pub own_over : (w : Work) (ss : List Settled) (e : RedisError) → w.conn.life ≡ Ended e → own_each w ss ≡ renewing w (replied_each w.conn.renewal ss)
own_over w ss e over =
    let done : is_repeating w.conn ≡ false = ap (λ (x : Life). is_ready x && is_outstanding w.conn.again) over in
    own_is w ss
    ∙ (λ i. record w { conn = record w.conn { renewal = replied_each w.conn.renewal ss; again = again_after (done i) w.conn.again ss; fresh = fresh_after (done i) w.conn.waiting w.conn.fresh ss } })
