-- Those that are to be answered are, one after another.
use Rattle.std.proofs.Common.{Bool, ◌==◌, ◌||◌, if◌then◌else◌, is_some, ◌≡◌, ℕ, suc, true, false, List, [], ◌∷◌, ◌++◌, length, Option, Some, refl, sym, ap, ◌∙◌, arith}
use Rattle.containers.proofs.Choices.{by_test, chosen, left_if, not_both, taken_if}
use Rattle.redis_error.specs.declared.redis_error.RedisError.{RedisError}
use Rattle.driver_model.specs.declared.outcome.Outcome.{Outcome}
use Rattle.driver_model.specs.Shape.{outcome_of}
use Rattle.driver_model.specs.declared.outcome.Outcome.TheVariants as outcome
use Rattle.link_core.specs.declared.message.Settled.{Settled}
use Rattle.link_core.specs.Link.{LinkState}
use Rattle.mux_conn.specs.declared.act.LinkAct.TheVariants as act
use Rattle.mux_conn.specs.declared.connection.MultiplexedConnection.{MultiplexedConnection}
use Rattle.mux_conn.specs.declared.life.Life.{Life}
use Rattle.mux_conn.specs.declared.life.Life.TheVariants.{Resting, Dialing, Wanting, SettingUp, Ready, Ended}
use Rattle.mux_conn.specs.declared.request.Request.{Request}
use Rattle.mux_conn.specs.declared.request.Waiting.{Waiting}
use Rattle.mux_conn.specs.Connection.{Work, is_repeating, is_outstanding}
use Rattle.mux_conn.specs.Repeats.{repeat_id, repeating}
use Rattle.mux_conn.specs.declared.again.Again.TheVariants as again
use Rattle.mux_conn.specs.Requests.{is_open_at, name_at, closed, answered}
use Rattle.mux_conn.specs.declared.renewal.Renewal.{Renewal}
use Rattle.mux_conn.specs.Renewals.{is_done, renewal_id, renewing, replied}
use Rattle.mux_conn.specs.Effects.{all_fresh, failed_each, served, settled_each, settled_one, settled_other}
use Rattle.legal_trace.specs.Ledger.{Ledger, is_over}
use Rattle.conn_laws.proofs.Ties.Numbers.{is_own, rising_from}
use Rattle.conn_laws.proofs.Ties.Tied.{TiedLife, has_ended}
use Rattle.conn_laws.proofs.Ties.InLine.{line_of, IsInLine}

-- no request is to be answered on a link that hasn't ended, while what is subscribed again isn't answered there
abbrev pub AnswersNone : MultiplexedConnection → List ℕ → Type 0
AnswersNone c pending = has_ended c.life ≡ false → is_outstanding c.again ≡ true → pending ≡ []

-- a link that is over has ended
pub over_life : (l : Ledger) (created : ℕ) (life : Life) → TiedLife l created life → is_over l ≡ true → has_ended life ≡ true
over_life l created Resting h over = absurd (not_both (is_over l) (ap is_some h.2) over)
over_life l created Dialing h over = absurd (not_both (is_over l) (ap is_some h.2) over)
over_life l created (Wanting link) h over = absurd (not_both (is_over l) (ap is_some h.2) over)
over_life l created (SettingUp link greeting) h over = absurd (not_both (is_over l) (ap is_some h.2) over)
over_life l created (Ready link) h over = absurd (not_both (is_over l) (ap is_some h.2) over)
over_life l created (Ended e) h over = refl

-- one is answered
pub rest_in_line : (requests : List Request) (link : LinkState) (admitted waiting : List Waiting) (p : ℕ) (pending : List ℕ) → IsInLine requests link admitted waiting (p ∷ pending) → IsInLine requests link admitted waiting pending
rest_in_line requests link admitted waiting p pending line = rising_from (suc p) 0 (pending ++ line_of link admitted waiting) (length requests) (omega arith) line.1

-- a message that was settled is due what it came to, where it was open
abbrev pub IsDue : (ℕ → Option Outcome) → (ℕ → ℕ) → (ℕ → Bool) → Settled → Type 0
IsDue owes name was s = was s.id ≡ true → owes (name s.id) ≡ Some (outcome_of s.verdict)

-- a request that waits is due this error, where it was open
abbrev pub IsDueError : (ℕ → Option Outcome) → (ℕ → ℕ) → (ℕ → Bool) → RedisError → Waiting → Type 0
IsDueError owes name was e q = was q.number ≡ true → owes (name q.number) ≡ Some (outcome.Fault e)

-- what replies that are settled make of new credentials
--
abbrev pub replied_each : Renewal → List Settled → Renewal
replied_each r [] = r
replied_each r (s ∷ ss) = replied_each (if s.id == renewal_id then replied r (is_done s.verdict) else r) ss

-- neither the time, nor whether they come of sources, nor those that wait, nor how many were to be told
pub replied_keeps : (r : Renewal) (ss : List Settled) → ((replied_each r ss).within ≡ r.within) × ((replied_each r ss).wanted ≡ r.wanted) × ((replied_each r ss).waiting ≡ r.waiting) × ((replied_each r ss).asked ≡ r.asked)
replied_keeps r [] = (refl, refl, refl, refl)
replied_keeps r (s ∷ ss) =
    let next = if s.id == renewal_id then replied r (is_done s.verdict) else r in
    let rest = replied_keeps next ss in
    let one : (next.within ≡ r.within) × (next.wanted ≡ r.wanted) × (next.waiting ≡ r.waiting) × (next.asked ≡ r.asked) =
    chosen (λ (x : Renewal). (x.within ≡ r.within) × (x.wanted ≡ r.wanted) × (x.waiting ≡ r.waiting) × (x.asked ≡ r.asked)) (s.id == renewal_id) (replied r (is_done s.verdict)) r (λ t. (refl, refl, refl, refl)) (λ f. (refl, refl, refl, refl)) in
    (rest.0 ∙ one.0, rest.1 ∙ one.1, rest.2 ∙ one.2, rest.3 ∙ one.3)

-- an answer to a request leaves them
pub answered_renewal : (w : Work) (p : ℕ) (o : Outcome) → (answered w p o).conn.renewal ≡ w.conn.renewal
answered_renewal w p o = chosen (λ (x : Work). x.conn.renewal ≡ w.conn.renewal) (is_open_at w.conn.requests p) _ w (λ t. refl) (λ f. refl)

-- what a settled message of the driver's own comes to: new credentials are answered, or what is subscribed again
abbrev pub own_one : Work → Settled → Work
own_one w s = if s.id == renewal_id then renewing w (replied w.conn.renewal (is_done s.verdict)) else (if s.id == repeat_id then served w else w)

-- and all of these
abbrev pub own_each : Work → List Settled → Work
own_each w [] = w
own_each w (s ∷ ss) = own_each (own_one w s) ss

-- an answer to a request leaves what new credentials come to, whichever comes first
answered_auth : (w : Work) (p : ℕ) (o : Outcome) (done : Bool) → renewing (answered w p o) (replied (answered w p o).conn.renewal done) ≡ answered (renewing w (replied w.conn.renewal done)) p o
answered_auth w p o done = by_open (is_open_at w.conn.requests p)
  where
    closes : Work → Work
    closes v = record { conn = closed v.conn p; acts = v.acts ++ act.Outcome (name_at v.conn.requests p) o ∷ [] }

    auth : Work → Work
    auth v = renewing v (replied v.conn.renewal done)

    by_open : (b : Bool) → auth (if b then closes w else w) ≡ (if b then closes (auth w) else auth w)
    by_open true = refl
    by_open false = refl

-- and that what is subscribed again is answered
answered_again : (w : Work) (p : ℕ) (o : Outcome) → served (answered w p o) ≡ answered (served w) p o
answered_again w p o = by_test (is_repeating w.conn) (served (answered w p o) ≡ answered (served w) p o)
    (λ t. taken_if (is_repeating (answered w p o).conn) (gone (answered w p o)) (answered w p o) (same ∙ t) ∙ by_open (is_open_at w.conn.requests p) ∙ ap (λ (x : Work). answered x p o) (sym (taken_if (is_repeating w.conn) (gone w) w t)))
    (λ f. left_if (is_repeating (answered w p o).conn) (gone (answered w p o)) (answered w p o) (same ∙ f) ∙ ap (λ (x : Work). answered x p o) (sym (left_if (is_repeating w.conn) (gone w) w f)))
  where
    closes : Work → Work
    closes v = record { conn = closed v.conn p; acts = v.acts ++ act.Outcome (name_at v.conn.requests p) o ∷ [] }

    gone : Work → Work
    gone v = all_fresh (repeating v again.Nothing)

    by_open : (b : Bool) → gone (if b then closes w else w) ≡ (if b then closes (gone w) else gone w)
    by_open true = refl
    by_open false = refl

    same : is_repeating (answered w p o).conn ≡ is_repeating w.conn
    same = chosen (λ (x : Work). is_repeating x.conn ≡ is_repeating w.conn) (is_open_at w.conn.requests p) (closes w) w (λ t. refl) (λ f. refl)

-- so it leaves what a message of the driver's own comes to
answered_own : (w : Work) (p : ℕ) (o : Outcome) (s : Settled) → own_one (answered w p o) s ≡ answered (own_one w s) p o
answered_own w p o s = by_kind (s.id == renewal_id) (s.id == repeat_id)
  where
    v : Work
    v = answered w p o

    done : Bool
    done = is_done s.verdict

    by_kind : (first second : Bool) → (if first then renewing v (replied v.conn.renewal done) else (if second then served v else v)) ≡ answered (if first then renewing w (replied w.conn.renewal done) else (if second then served w else w)) p o
    by_kind true second = answered_auth w p o done
    by_kind false true = answered_again w p o
    by_kind false false = refl

-- so it leaves all of them
pub answered_owns : (w : Work) (p : ℕ) (o : Outcome) (ss : List Settled) → own_each (answered w p o) ss ≡ answered (own_each w ss) p o
answered_owns w p o [] = refl
answered_owns w p o (s ∷ ss) = ap (λ (x : Work). own_each x ss) (answered_own w p o s) ∙ answered_owns (own_one w s) p o ss

-- a message of the driver's own is settled as it says
pub own_settled : (w : Work) (s : Settled) → is_own s.id ≡ true → settled_one w s ≡ own_one w s
own_settled w s own = by_test (s.id == renewal_id) (settled_one w s ≡ own_one w s)
    (λ t. taken_if (s.id == renewal_id) (renewing w (replied w.conn.renewal (is_done s.verdict))) (settled_other w s) t ∙ sym (taken_if (s.id == renewal_id) (renewing w (replied w.conn.renewal (is_done s.verdict))) (if s.id == repeat_id then served w else w) t))
    (λ f.
    let second : (s.id == repeat_id) ≡ true = sym (ap (λ b. b || (s.id == repeat_id)) f) ∙ own in
    left_if (s.id == renewal_id) (renewing w (replied w.conn.renewal (is_done s.verdict))) (settled_other w s) f ∙ taken_if (s.id == repeat_id) (served w) (answered w s.id (outcome_of s.verdict)) second
    ∙ sym (left_if (s.id == renewal_id) (renewing w (replied w.conn.renewal (is_done s.verdict))) (if s.id == repeat_id then served w else w) f ∙ taken_if (s.id == repeat_id) (served w) w second))

-- and a request's is answered
pub request_settled : (w : Work) (s : Settled) → is_own s.id ≡ false → (settled_one w s ≡ answered w s.id (outcome_of s.verdict)) × (own_one w s ≡ w)
request_settled w s other =
    let first : (s.id == renewal_id) ≡ false = by_test (s.id == renewal_id) _ (λ t. absurd (not_both (is_own s.id) other (ap (λ b. b || (s.id == repeat_id)) t))) (λ f. f) in
    let second : (s.id == repeat_id) ≡ false = sym (ap (λ b. b || (s.id == repeat_id)) first) ∙ other in (
      left_if (s.id == renewal_id) (renewing w (replied w.conn.renewal (is_done s.verdict))) (settled_other w s) first ∙ left_if (s.id == repeat_id) (served w) (answered w s.id (outcome_of s.verdict)) second,
      left_if (s.id == renewal_id) (renewing w (replied w.conn.renewal (is_done s.verdict))) (if s.id == repeat_id then served w else w) first ∙ left_if (s.id == repeat_id) (served w) w second,
    )

-- what answers leave as it was: also that nothing is to be subscribed again, where nothing was
pub record Leaves (w v : Work) : Type 0 where
  pub size : v.conn.size ≡ w.conn.size
  pub boundary : v.conn.boundary ≡ w.conn.boundary
  pub life : v.conn.life ≡ w.conn.life
  pub waiting : v.conn.waiting ≡ w.conn.waiting
  pub admitted : v.conn.admitted ≡ w.conn.admitted
  pub moved : v.conn.moved ≡ w.conn.moved
  pub hears : v.conn.hears ≡ w.conn.hears
  pub answered : is_outstanding w.conn.again ≡ false → is_outstanding v.conn.again ≡ false

-- nothing is changed
pub leaves_all : (w : Work) → Leaves w w
leaves_all w = record { size = refl; boundary = refl; life = refl; waiting = refl; admitted = refl; moved = refl; hears = refl; answered = λ e. e }

-- one after another
pub leaves_on : (u v w : Work) → Leaves u v → Leaves v w → Leaves u w
leaves_on u v w h k = record {
  size = k.size ∙ h.size;
  boundary = k.boundary ∙ h.boundary;
  life = k.life ∙ h.life;
  waiting = k.waiting ∙ h.waiting;
  admitted = k.admitted ∙ h.admitted;
  moved = k.moved ∙ h.moved;
  hears = k.hears ∙ h.hears;
  answered = λ e. k.answered (h.answered e);
}

-- one answer leaves them
pub answered_leaves : (w : Work) (p : ℕ) (o : Outcome) → Leaves w (answered w p o)
answered_leaves w p o = chosen (Leaves w) (is_open_at w.conn.requests p) _ w (λ t. record { size = refl; boundary = refl; life = refl; waiting = refl; admitted = refl; moved = refl; hears = refl; answered = λ e. e }) (λ f. leaves_all w)

-- so does what one settled message comes to
pub one_leaves : (w : Work) (s : Settled) → Leaves w (settled_one w s)
one_leaves w s =
    chosen (Leaves w) (s.id == renewal_id) (renewing w (replied w.conn.renewal (is_done s.verdict))) (settled_other w s)
    (λ t. record { size = refl; boundary = refl; life = refl; waiting = refl; admitted = refl; moved = refl; hears = refl; answered = λ e. e })
    (λ f.
    chosen (Leaves w) (s.id == repeat_id) (served w) (answered w s.id (outcome_of s.verdict))
    (λ t. chosen (Leaves w) (is_repeating w.conn) (all_fresh (repeating w again.Nothing)) w (λ r. record { size = refl; boundary = refl; life = refl; waiting = refl; admitted = refl; moved = refl; hears = refl; answered = λ e. refl }) (λ n. leaves_all w))
    (λ n. answered_leaves w s.id (outcome_of s.verdict)))

-- so do the answers to what was settled
pub settled_leaves : (w : Work) (ss : List Settled) → Leaves w (settled_each w ss)
settled_leaves w [] = leaves_all w
settled_leaves w (s ∷ ss) =
    let v = settled_one w s in
    leaves_on w v (settled_each v ss) (one_leaves w s) (settled_leaves v ss)

-- and those to what waited
pub failed_leaves : (w : Work) (e : RedisError) (qs : List Waiting) → Leaves w (failed_each w e qs)
failed_leaves w e [] = leaves_all w
failed_leaves w e (q ∷ qs) =
    let v = answered w q.number (outcome.Fault e) in
    leaves_on w v (failed_each v e qs) (answered_leaves w q.number (outcome.Fault e)) (failed_leaves v e qs)
