-- After each turn nothing is left to do, and a turn that changes nothing shows nothing.
use Rattle.std.proofs.Common.{◌≡◌, ◌⊎◌, inl, inr, ℕ, ◌==◌, ◌&&◌, ◌||◌, not, Bool, true, false, List, [], ◌∷◌, length, Option, Some, None, refl, sym, ap, ◌∙◌, subst}
use Rattle.containers.proofs.Choices.{chosen, taken_if, left_if, not_both, or_left}
use Rattle.driver_model.specs.declared.action.WaitKind.{WaitKind}
use Rattle.resp_value.specs.declared.value.Value.TheVariants.{Nil}
use Rattle.driver_model.specs.declared.outcome.Outcome.TheVariants as outcome
use Rattle.link_core.specs.declared.message.Queued.{Queued}
use Rattle.link_core.specs.declared.message.Started.{Started}
use Rattle.link_core.specs.Link.{LinkState, Starting, holds_back, offered_of, is_up_to, started_one, started_each, started_all, started_to_each, started_to}
use Rattle.link_core.specs.Outbox.{can_offer}
use Rattle.credentials.specs.Credentials.{Credentials}
use Rattle.mux_conn.specs.declared.act.LinkAct.TheVariants as act
use Rattle.mux_conn.specs.declared.again.Again.{Again}
use Rattle.mux_conn.specs.declared.again.Again.TheVariants as again
use Rattle.mux_conn.specs.declared.connection.MultiplexedConnection.{MultiplexedConnection}
use Rattle.mux_conn.specs.declared.life.Greeting.{Greeting}
use Rattle.mux_conn.specs.declared.life.Life.{Life}
use Rattle.mux_conn.specs.declared.life.Life.TheVariants.{Resting, Dialing, Wanting, SettingUp, Ready, Ended}
use Rattle.mux_conn.specs.declared.request.Progress.TheVariants as progress
use Rattle.mux_conn.specs.declared.request.Waiting.{Waiting}
use Rattle.mux_conn.specs.declared.renewal.Renewal.{Renewal}
use Rattle.mux_conn.specs.Connection.{Work, acted, at_life, with_link, with_setup, has_no_permit, admits_none_at, admits_none, has_room, has_room_at, in_front, is_due, is_held_back, is_ready, are_some, is_outstanding, is_serving, last_queued}
use Rattle.mux_conn.specs.Renewals as renewals
use Rattle.mux_conn.specs.Renewals.{renewing, asked_next, renewal_timed, renewal_asked, started_ahead_at, started_ahead, renewal_told, renewal_moved}
use Rattle.mux_conn.specs.Requests.{is_open_at, is_waiting_at, is_admitted_at, name_at, closed, answered, is_unbegun_at, progressed}
use Rattle.mux_conn.specs.Effects.{cancelled_in, left}
use Rattle.mux_conn.specs.Starts.{shown_each, starts_with}
use Rattle.mux_conn.specs.Passes.{greets_with, started_at, started, placed_at, told_at_place, seated, still_admitted, moved_up, moved_up_each, moved_up_all, put_behind, seated_or_behind, let_in, admitted_at, admitted, still_waiting, admitted_each, admitted_all, passed, moved_all, round_begun, rounds_of, rounds_begun, said}
use Rattle.mux_conn.specs.Turn.{written_at, written, moved_wait, fresh_wait, wait_shown, moved_each_shown, moved_shown, fresh_each_shown, fresh_shown, waits_shown, flushed}
use Rattle.conn_laws.proofs.Changes.Links.{none_leaves}
use Rattle.conn_laws.proofs.Changes.Kept.{let_in_conn}
use Rattle.conn_laws.proofs.Changes.Gone.{NoneQueued}
use Rattle.mux_conn.specs.Repeats.{is_to_start, is_untimed, with_timer, repeating, repeat_timed, repeat_asked, repeat_told, repeat_moved, repeated}
use Rattle.conn_laws.proofs.Links.SetsUp.{greeted_conn as setup_shown}

-- nothing left to do
--
-- the queue of a link is empty, or it is held back
abbrev pub IsThrough : LinkState → Type 0
IsThrough l = (l.queue ≡ []) ⊎ (holds_back l ≡ true)

-- so is a link that is up
abbrev pub HasStartedAll : Life → Type 0
HasStartedAll Resting = Unit {0}
HasStartedAll Dialing = Unit {0}
HasStartedAll (Wanting l) = Unit {0}
HasStartedAll (SettingUp l greeting) = IsThrough l
HasStartedAll (Ready l) = IsThrough l
HasStartedAll (Ended e) = Unit {0}

-- all its bytes are offered, or an offer is unanswered
abbrev pub HasOffered : Life → Type 0
HasOffered Resting = Unit {0}
HasOffered Dialing = Unit {0}
HasOffered (Wanting l) = Unit {0}
HasOffered (SettingUp l greeting) = can_offer l.outbox ≡ false
HasOffered (Ready l) = can_offer l.outbox ≡ false
HasOffered (Ended e) = Unit {0}

-- where new credentials are to be told on a link that is set up, their timer was asked for, and the link is held back
abbrev pub HasRenewed : Renewal → Life → Type 0
HasRenewed r life = (is_ready life && is_due r) ≡ true → (r.pending ≡ true) × (is_held_back life ≡ true)

-- where something is to be subscribed again on such a link, its timer was asked for, and the link is held back
abbrev pub HasRepeated : Again → Life → Type 0
HasRepeated a life = (is_ready life && is_to_start a) ≡ true → (is_untimed a ≡ false) × (is_held_back life ≡ true)

-- all messages have started that may: those of requests, what is subscribed again, and those of new credentials
pub record IsStartedOn (r : Renewal) (a : Again) (life : Life) : Type 0 where
  pub queue : HasStartedAll life
  pub repeated : HasRepeated a life
  pub renewed : HasRenewed r life

-- so it is on a connection's link, and nobody waits for a place where there is one
pub record IsSeated (c : MultiplexedConnection) : Type 0 where
  pub through : IsStartedOn c.renewal c.again c.life
  pub admitted : has_room c ≡ true → c.admitted ≡ []

-- nor does anybody wait for the connection or for a permit, where requests can be moved
pub record IsMoved (c : MultiplexedConnection) : Type 0 where
  pub seated : IsSeated c
  pub waiting : admits_none c ≡ false → c.waiting ≡ []

-- all has been offered that can
pub record IsWritten (c : MultiplexedConnection) : Type 0 where
  pub moved : IsMoved c
  pub offered : HasOffered c.life

-- and all waits are shown
pub record IsIdle (c : MultiplexedConnection) : Type 0 where
  pub written : IsWritten c
  pub calm : c.moved ≡ []
  pub fresh : c.fresh ≡ []

-- how a turn comes to that
--
-- all messages of a connection have started that may
abbrev Through : MultiplexedConnection → Type 0
Through c = IsStartedOn c.renewal c.again c.life

-- what is to be subscribed again is, where that may be
abbrev HasRepeatedIn : Work → Type 0
HasRepeatedIn w = HasRepeated w.conn.again w.conn.life

-- and all new credentials are told that may be
abbrev HasRenewedIn : Work → Type 0
HasRenewedIn w = HasRenewed w.conn.renewal w.conn.life

-- both
abbrev HasSaid : Work → Type 0
HasSaid w = HasRepeatedIn w × HasRenewedIn w

-- the first of both
both_left : (a b : Bool) → (a && b) ≡ true → a ≡ true
both_left true b h = refl
both_left false b h = cc

-- and the second
both_right : (a b : Bool) → (a && b) ≡ true → b ≡ true
both_right true b h = h
both_right false b h = cc

-- where none wait, none are to be told
none_due : (r : Renewal) → r.waiting ≡ [] → is_due r ≡ true → ⊥
none_due r none due = not_both (are_some r.waiting) (ap are_some none) (both_right (not (r.unanswered || r.lost)) (are_some r.waiting) due)

-- messages start until the queue is empty or the link is held back
queue_starts : (s : Starting) (queue : List Queued) → IsThrough (started_each s queue).link
queue_starts s [] = inl refl
queue_starts s (q ∷ qs) = chosen (λ (x : Starting). IsThrough x.link) (holds_back s.link) _ _ (λ t. inr t) (λ f. queue_starts (started_one s q) qs)

-- none does on a link that is held back
held_starts : (s : Starting) (queue : List Queued) → holds_back s.link ≡ true → holds_back (started_each s queue).link ≡ true
held_starts s [] held = held
held_starts s (q ∷ qs) held = chosen (λ (x : Starting). holds_back x.link ≡ true) (holds_back s.link) _ _ (λ t. held) (λ f. absurd (not_both (holds_back s.link) f held))

-- nor any of those up to one of them
pub held_ahead : (last : Option ℕ) (s : Starting) (queue : List Queued) → holds_back s.link ≡ true → holds_back (started_to_each last s queue).link ≡ true
held_ahead last s [] held = held
held_ahead last s (q ∷ qs) held =
    chosen (λ (x : Starting). holds_back x.link ≡ true) (holds_back s.link || not (is_up_to last q.id)) _ _ (λ t. held) (λ f. absurd (not_both (holds_back s.link) (or_left (holds_back s.link) (not (is_up_to last q.id)) f) held))

-- what is shown changes no connection
pub conn_shown : (w : Work) (ss : List Started) → (shown_each w ss).conn ≡ w.conn
conn_shown w [] = refl
conn_shown w (s ∷ ss) = conn_shown (acted w (act.Start s.msg (name_at w.conn.requests s.id) s.need s.len)) ss

-- a function of the life that a connection has is looked at with a life that is known to be it
started_from : (w : Work) (life : Life) → w.conn.life ≡ life → HasRepeated w.conn.again life × HasRenewed w.conn.renewal life → Through (started_at w life).conn
started_from w (Ready l) e h =
    let s = started_all (record { link = l; out = [] }) in
    subst Through (sym (conn_shown (with_link w s.link) s.out))
    (record {
      queue = queue_starts (record { link = l; out = [] }) l.queue;
      repeated = λ t. let k = h.0 t in (k.0, held_starts (record { link = l; out = [] }) l.queue k.1);
      renewed = λ t. let k = h.1 t in (k.0, held_starts (record { link = l; out = [] }) l.queue k.1);
    })
started_from w (SettingUp l greeting) e h =
    let s = started_all (record { link = l; out = [] }) in
    subst Through (sym (setup_shown (with_setup w s.link greeting) greeting s.out)) (record { queue = queue_starts (record { link = l; out = [] }) l.queue; repeated = λ t. cc; renewed = λ t. cc })
started_from w (Wanting l) e h = subst (IsStartedOn w.conn.renewal w.conn.again) (sym e) (record { queue = tt; repeated = h.0; renewed = h.1 })
started_from w Resting e h = subst (IsStartedOn w.conn.renewal w.conn.again) (sym e) (record { queue = tt; repeated = h.0; renewed = h.1 })
started_from w Dialing e h = subst (IsStartedOn w.conn.renewal w.conn.again) (sym e) (record { queue = tt; repeated = h.0; renewed = h.1 })
started_from w (Ended x) e h = subst (IsStartedOn w.conn.renewal w.conn.again) (sym e) (record { queue = tt; repeated = h.0; renewed = h.1 })

-- all messages start on the link that the connection has
all_started : (w : Work) → HasSaid w → Through (started w).conn
all_started w h = started_from w w.conn.life refl h

-- what is subscribed again
--
-- its message starts where the link isn't held back, and else it has its timer
kept_repeated : (w : Work) (life : Life) (a : Again) → w.conn.life ≡ life → w.conn.again ≡ with_timer a → HasRepeatedIn (repeat_moved w life a)
kept_repeated w (Ready l) (again.Due packed of_shape timed) e is =
    chosen HasRepeatedIn (holds_back l) w (repeat_told w l packed of_shape) (λ held. λ t. (ap is_untimed is, ap is_held_back e ∙ held)) (λ f. λ t. cc)
kept_repeated w (Ready l) again.Nothing e is = λ t. absurd (not_both (is_to_start w.conn.again) (ap is_to_start is) (both_right (is_ready w.conn.life) (is_to_start w.conn.again) t))
kept_repeated w (Ready l) again.Sent e is = λ t. absurd (not_both (is_to_start w.conn.again) (ap is_to_start is) (both_right (is_ready w.conn.life) (is_to_start w.conn.again) t))
kept_repeated w Resting a e is = λ t. absurd (not_both (is_ready w.conn.life) (ap is_ready e) (both_left (is_ready w.conn.life) (is_to_start w.conn.again) t))
kept_repeated w Dialing a e is = λ t. absurd (not_both (is_ready w.conn.life) (ap is_ready e) (both_left (is_ready w.conn.life) (is_to_start w.conn.again) t))
kept_repeated w (Wanting l) a e is = λ t. absurd (not_both (is_ready w.conn.life) (ap is_ready e) (both_left (is_ready w.conn.life) (is_to_start w.conn.again) t))
kept_repeated w (SettingUp l greeting) a e is = λ t. absurd (not_both (is_ready w.conn.life) (ap is_ready e) (both_left (is_ready w.conn.life) (is_to_start w.conn.again) t))
kept_repeated w (Ended x) a e is = λ t. absurd (not_both (is_ready w.conn.life) (ap is_ready e) (both_left (is_ready w.conn.life) (is_to_start w.conn.again) t))

-- where its timer was asked for, asking for it changes nothing
same_again : (a : Again) → is_untimed a ≡ false → with_timer a ≡ a
same_again again.Nothing timed = refl
same_again (again.Due packed of_shape true) timed = refl
same_again (again.Due packed of_shape false) timed = cc
same_again again.Sent timed = refl

-- behind its timer its message starts as it was to
timed_repeated : (w : Work) (within : Option ℕ) (life : Life) (a : Again) → w.conn.life ≡ life → w.conn.again ≡ with_timer a → HasRepeatedIn (repeat_moved (repeat_timed w within) life a)
timed_repeated w None life a e is = kept_repeated w life a e is
timed_repeated w (Some ms) life a e is = kept_repeated (acted w (act.RepeatTimer ms)) life a e is

-- so all is subscribed again that may be
all_repeated : (w : Work) → HasRepeatedIn (repeated w)
all_repeated w =
    let a = w.conn.again in
    let d = repeating w (with_timer a) in
    chosen HasRepeatedIn (is_ready w.conn.life && is_to_start a) (repeat_moved (repeat_asked w) w.conn.life a) w
    (λ t. chosen (λ (x : Work). HasRepeatedIn (repeat_moved x w.conn.life a)) (is_untimed a) (repeat_timed d w.conn.renewal.within) d
    (λ u. timed_repeated d w.conn.renewal.within w.conn.life a refl refl)
    (λ u. kept_repeated d w.conn.life a refl refl))
    (λ f. λ t. absurd (not_both (is_ready w.conn.life && is_to_start a) f t))

-- new credentials
--
-- they are told where the link isn't held back
moved_renewed : (w : Work) (life : Life) (cs : List Credentials) → w.conn.life ≡ life → w.conn.renewal.pending ≡ true → w.conn.renewal.waiting ≡ cs → HasRenewed (renewal_moved w life cs).conn.renewal (renewal_moved w life cs).conn.life
moved_renewed w (Ready l) (c ∷ cs) e asked is =
    chosen (λ (x : Work). HasRenewed x.conn.renewal x.conn.life) (holds_back l) w (renewal_told w l c cs) (λ held. λ t. (asked, ap is_held_back e ∙ held)) (λ f. λ t. cc)
moved_renewed w (Ready l) [] e asked is = λ t. absurd (none_due w.conn.renewal is (both_right (is_ready w.conn.life) (is_due w.conn.renewal) t))
moved_renewed w Resting cs e asked is = λ t. absurd (not_both (is_ready w.conn.life) (ap is_ready e) (both_left (is_ready w.conn.life) (is_due w.conn.renewal) t))
moved_renewed w Dialing cs e asked is = λ t. absurd (not_both (is_ready w.conn.life) (ap is_ready e) (both_left (is_ready w.conn.life) (is_due w.conn.renewal) t))
moved_renewed w (Wanting l) cs e asked is = λ t. absurd (not_both (is_ready w.conn.life) (ap is_ready e) (both_left (is_ready w.conn.life) (is_due w.conn.renewal) t))
moved_renewed w (SettingUp l greeting) cs e asked is = λ t. absurd (not_both (is_ready w.conn.life) (ap is_ready e) (both_left (is_ready w.conn.life) (is_due w.conn.renewal) t))
moved_renewed w (Ended x) cs e asked is = λ t. absurd (not_both (is_ready w.conn.life) (ap is_ready e) (both_left (is_ready w.conn.life) (is_due w.conn.renewal) t))

-- their timer changes no connection
timed_conn : (w : Work) (number : ℕ) (within : Option ℕ) → (renewal_timed w number within).conn ≡ w.conn
timed_conn w number None = refl
timed_conn w number (Some ms) = refl

-- it is asked for
asked_pending : (w : Work) → (renewal_asked w).conn.renewal.pending ≡ true
asked_pending w =
    let r = w.conn.renewal in
    let d = renewing w (asked_next r (last_queued w.conn.life)) in
    chosen (λ (x : Work). x.conn.renewal.pending ≡ true) r.pending w (renewal_timed d r.asked r.within) (λ t. t) (λ f. ap (λ (c : MultiplexedConnection). c.renewal.pending) (timed_conn d r.asked r.within))

-- those before them that start leave them
ahead_renewal : (w : Work) (life : Life) → (started_ahead_at w life).conn.renewal ≡ w.conn.renewal
ahead_renewal w (Ready l) =
    let s = started_to w.conn.renewal.last (record { link = l; out = [] }) in
    ap (λ (c : MultiplexedConnection). c.renewal) (conn_shown (with_link w s.link) s.out)
ahead_renewal w Resting = refl
ahead_renewal w Dialing = refl
ahead_renewal w (Wanting l) = refl
ahead_renewal w (SettingUp l greeting) = refl
ahead_renewal w (Ended e) = refl

-- so all do that are to be told
all_renewed : (w : Work) → HasRenewedIn (renewals.renewed w)
all_renewed w =
    let r = w.conn.renewal in
    let v = renewal_asked w in
    let a = started_ahead v in
    let asked : a.conn.renewal.pending ≡ true = ap (λ (x : Renewal). x.pending) (ahead_renewal v v.conn.life) ∙ asked_pending w in
    chosen HasRenewedIn (is_ready w.conn.life && is_due r) (renewal_moved a a.conn.life a.conn.renewal.waiting) w
    (λ t. moved_renewed a a.conn.life a.conn.renewal.waiting refl asked refl)
    (λ f. λ t. absurd (not_both (is_ready w.conn.life && is_due r) f t))

-- new credentials leave what is subscribed again, and hold back what was held back
moved_keeps : (w : Work) (life : Life) (cs : List Credentials) → w.conn.life ≡ life → HasRepeatedIn w → HasRepeatedIn (renewal_moved w life cs)
moved_keeps w (Ready l) (c ∷ cs) e h =
    chosen HasRepeatedIn (holds_back l) w (renewal_told w l c cs) (λ held. h)
    (λ f. λ t. let k = subst (HasRepeated w.conn.again) e h t in absurd (not_both (holds_back l) f k.1))
moved_keeps w (Ready l) [] e h = h
moved_keeps w Resting cs e h = h
moved_keeps w Dialing cs e h = h
moved_keeps w (Wanting l) cs e h = h
moved_keeps w (SettingUp l greeting) cs e h = h
moved_keeps w (Ended x) cs e h = h

-- and so does their timer
asked_keeps : (w : Work) → HasRepeatedIn w → HasRepeatedIn (renewal_asked w)
asked_keeps w h =
    let r = w.conn.renewal in
    let d = renewing w (asked_next r (last_queued w.conn.life)) in
    chosen HasRepeatedIn r.pending w (renewal_timed d r.asked r.within) (λ t. h) (λ f. subst (λ (c : MultiplexedConnection). HasRepeated c.again c.life) (sym (timed_conn d r.asked r.within)) h)

-- and those before them
ahead_keeps : (w : Work) (life : Life) → w.conn.life ≡ life → HasRepeatedIn w → HasRepeatedIn (started_ahead_at w life)
ahead_keeps w (Ready l) e h =
    let last = w.conn.renewal.last in
    let s = started_to last (record { link = l; out = [] }) in
    subst (λ (c : MultiplexedConnection). HasRepeated c.again c.life) (sym (conn_shown (with_link w s.link) s.out))
    (λ t. let k = subst (HasRepeated w.conn.again) e h t in (k.0, held_ahead last (record { link = l; out = [] }) l.queue k.1))
ahead_keeps w Resting e h = h
ahead_keeps w Dialing e h = h
ahead_keeps w (Wanting l) e h = h
ahead_keeps w (SettingUp l greeting) e h = h
ahead_keeps w (Ended x) e h = h

renewed_keeps : (w : Work) → HasRepeatedIn w → HasRepeatedIn (renewals.renewed w)
renewed_keeps w h =
    let v = renewal_asked w in
    let a = started_ahead v in
    chosen HasRepeatedIn (is_ready w.conn.life && is_due w.conn.renewal) (renewal_moved a a.conn.life a.conn.renewal.waiting) w
    (λ t. moved_keeps a a.conn.life a.conn.renewal.waiting refl (ahead_keeps v v.conn.life refl (asked_keeps w h)))
    (λ f. h)

-- so all that the driver says itself is said that may be
all_said : (w : Work) → HasSaid (said w)
all_said w = (renewed_keeps (repeated w) (all_repeated w), all_renewed (repeated w))

-- starts leave those that wait for a place
admitted_started : (w : Work) (life : Life) → (started_at w life).conn.admitted ≡ w.conn.admitted
admitted_started w (Ready l) =
    let s = started_all (record { link = l; out = [] }) in
    ap (λ (c : MultiplexedConnection). c.admitted) (conn_shown (with_link w s.link) s.out)
admitted_started w (Wanting l) = refl
admitted_started w (SettingUp l greeting) =
    let s = started_all (record { link = l; out = [] }) in
    ap (λ (c : MultiplexedConnection). c.admitted) (setup_shown (with_setup w s.link greeting) greeting s.out)
admitted_started w Resting = refl
admitted_started w Dialing = refl
admitted_started w (Ended e) = refl

-- and so does a request that takes its place
admitted_placed : (w : Work) (q : Waiting) (life : Life) → (placed_at w q life).conn.admitted ≡ w.conn.admitted
admitted_placed w q (Ready l) = refl
admitted_placed w q (Wanting l) = refl
admitted_placed w q (SettingUp l greeting) = refl
admitted_placed w q Resting = refl
admitted_placed w q Dialing = refl
admitted_placed w q (Ended e) = refl

-- and its answer
admitted_told : (w : Work) (q : Waiting) → (told_at_place w q).conn.admitted ≡ w.conn.admitted
admitted_told w q =
    chosen (λ (x : Work). x.conn.admitted ≡ w.conn.admitted) q.awaited w (answered w q.number (outcome.One Nil)) (λ t. refl)
    (λ f. chosen (λ (x : Work). x.conn.admitted ≡ w.conn.admitted) (is_open_at w.conn.requests q.number) _ w (λ t. refl) (λ g. refl))

-- so all of it does
admitted_seated : (w : Work) (q : Waiting) → (seated w q).conn.admitted ≡ w.conn.admitted
admitted_seated w q =
    let d = placed_at w q w.conn.life in
    let e = told_at_place d q in
    admitted_started e e.conn.life ∙ admitted_told d q ∙ admitted_placed w q w.conn.life

-- those that wait for a place
--
-- a request that takes its place starts nothing
said_placed : (w : Work) (q : Waiting) (life : Life) → w.conn.life ≡ life → HasSaid w → HasSaid (placed_at w q life)
said_placed w q (Ready l) e h = (subst (HasRepeated w.conn.again) e h.0, subst (HasRenewed w.conn.renewal) e h.1)
said_placed w q Resting e h = h
said_placed w q Dialing e h = h
said_placed w q (Wanting l) e h = h
said_placed w q (SettingUp l greeting) e h = h
said_placed w q (Ended x) e h = h

-- nor does its answer
said_told : (w : Work) (q : Waiting) → HasSaid w → HasSaid (told_at_place w q)
said_told w q h =
    chosen HasSaid q.awaited w (answered w q.number (outcome.One Nil)) (λ t. h) (λ f. chosen HasSaid (is_open_at w.conn.requests q.number) _ w (λ t. h) (λ g. h))

-- so all messages have started that may where one took a place
one_seated : (w : Work) (q : Waiting) → HasSaid w → Through (seated w q).conn
one_seated w q h =
    let d = placed_at w q w.conn.life in
    all_started (told_at_place d q) (said_told d q (said_placed w q w.conn.life refl h))

-- or waits for one
one_moved_up : (w : Work) (q : Waiting) → Through w.conn → Through (moved_up w q).conn
one_moved_up w q h = chosen (λ (x : Work). Through x.conn) (is_admitted_at w.conn.requests q.number) (seated w q) w (λ t. one_seated w q (h.repeated, h.renewed)) (λ f. h)

-- and where all do that may, nobody waits where there is a place
each_moved_up : (w : Work) (qs : List Waiting) → Through w.conn → IsSeated (moved_up_each w qs).conn
each_moved_up w [] h = record { through = h; admitted = λ t. refl }
each_moved_up w (q ∷ qs) h =
    chosen (λ (x : Work). IsSeated x.conn) (has_room w.conn) _ _ (λ t. each_moved_up (moved_up w q) qs (one_moved_up w q h))
    (λ f. record { through = h; admitted = λ t. absurd (not_both (has_room w.conn) f t) })

-- those that wait for the connection
--
-- one of them takes a place, or waits for one
one_or_behind : (w : Work) (q : Waiting) → IsSeated w.conn → IsSeated (seated_or_behind w q).conn
one_or_behind w q h =
    chosen (λ (x : Work). IsSeated x.conn) (has_room w.conn) (seated w q) (put_behind w q)
    (λ t. record { through = one_seated w q (h.through.repeated, h.through.renewed); admitted = λ u. admitted_seated w q ∙ h.admitted t })
    (λ f. record { through = h.through; admitted = λ t. absurd (not_both (has_room w.conn) f t) })

-- a round that begins leaves that
round_seated : (w : Work) (q : ℕ) → IsSeated w.conn → IsSeated (round_begun w q).conn
round_seated w q h =
    chosen (λ (x : Work). IsSeated x.conn) (w.conn.rounds && is_unbegun_at w.conn.requests q) (acted (progressed w q progress.Begun) (act.Round (name_at w.conn.requests q))) w
    (λ t. record { through = h.through; admitted = h.admitted }) (λ f. h)

-- where it may take one
one_admitted_at : (w : Work) (q : Waiting) (life : Life) → IsSeated w.conn → IsSeated (admitted_at w q life).conn
one_admitted_at w q (Ready l) h =
    let v = round_begun w q.number in
    let g = round_seated w q.number h in
    one_or_behind (let_in v q) q (subst IsSeated (sym (let_in_conn v q)) (record { through = g.through; admitted = g.admitted }))
one_admitted_at w q (Ended e) h =
    chosen (λ (x : Work). IsSeated x.conn) (is_open_at w.conn.requests q.number) _ w (λ t. record { through = h.through; admitted = h.admitted }) (λ f. h)
one_admitted_at w q (Wanting l) h = h
one_admitted_at w q (SettingUp l greeting) h = h
one_admitted_at w q Resting h = h
one_admitted_at w q Dialing h = h

-- and any other stays
one_admitted : (w : Work) (q : Waiting) → IsSeated w.conn → IsSeated (admitted w q).conn
one_admitted w q h = chosen (λ (x : Work). IsSeated x.conn) (is_waiting_at w.conn.requests q.number) (admitted_at w q w.conn.life) w (λ t. one_admitted_at w q w.conn.life h) (λ f. h)

-- all that wait
each_admitted : (w : Work) (qs : List Waiting) → IsSeated w.conn → IsMoved (admitted_each w qs).conn
each_admitted w [] h = record { seated = record { through = h.through; admitted = h.admitted }; waiting = λ f. refl }
each_admitted w (q ∷ qs) h =
    chosen (λ (x : Work). IsMoved x.conn) (admits_none w.conn) _ _
    (λ t. record { seated = record { through = h.through; admitted = h.admitted }; waiting = λ f. absurd (not_both (admits_none w.conn) f t) })
    (λ f. each_admitted (admitted w q) qs (one_admitted w q h))

-- rounds that begin leave that
rounds_moved : (w : Work) (qs : List ℕ) → IsMoved w.conn → IsMoved (rounds_of w qs).conn
rounds_moved w [] h = h
rounds_moved w (q ∷ qs) h =
    rounds_moved (round_begun w q) qs
    (chosen (λ (x : Work). IsMoved x.conn) (w.conn.rounds && is_unbegun_at w.conn.requests q) (acted (progressed w q progress.Begun) (act.Round (name_at w.conn.requests q))) w
    (λ t. record { seated = record { through = h.seated.through; admitted = h.seated.admitted }; waiting = h.waiting }) (λ f. h))

-- what a turn moves
moved_before : (w : Work) → IsMoved (moved_all w).conn
moved_before w =
    let v = said w in
    let d = started v in
    let e = moved_up_all d in
    let s = each_moved_up (still_admitted d []) d.conn.admitted (all_started v (all_said w)) in
    each_admitted (still_waiting e []) e.conn.waiting (record { through = s.through; admitted = s.admitted })

-- and the rounds that begin behind that
pub all_moved : (w : Work) → IsMoved (passed w).conn
all_moved w =
    let v = moved_all w in
    chosen (λ (x : Work). IsMoved x.conn) (v.conn.rounds && is_serving v.conn) (rounds_of v v.conn.fresh) v (λ t. rounds_moved v v.conn.fresh (moved_before w)) (λ f. moved_before w)

-- where all is offered, there is nothing more to offer
offered_none : (b : Bool) → (not b && b) ≡ false
offered_none true = refl
offered_none false = refl

-- nor to start, where there was nothing to start
queue_offered : (l : LinkState) → IsThrough l → IsThrough (offered_of l)
queue_offered l (inl none) = inl none
queue_offered l (inr held) = inr held

-- whatever there is to start
through_offered : {r : Renewal} {a : Again} → (l : LinkState) → IsStartedOn r a (Ready l) → IsStartedOn r a (Ready (offered_of l))
through_offered l h = record { queue = queue_offered l h.queue; repeated = h.repeated; renewed = h.renewed }

-- also while it is set up
setup_offered_through : {r : Renewal} {a : Again} → (l : LinkState) (greeting : Greeting) → IsStartedOn r a (SettingUp l greeting) → IsStartedOn r a (SettingUp (offered_of l) greeting)
setup_offered_through l greeting h = record { queue = queue_offered l h.queue; repeated = h.repeated; renewed = h.renewed }

-- bytes are offered
written_from : (w : Work) (life : Life) → w.conn.life ≡ life → IsMoved w.conn → IsWritten (written_at w life).conn
written_from w (Ready l) e h =
    chosen (λ (x : Work). IsWritten x.conn) (can_offer l.outbox) _ w
    (λ t. record {
      moved = record {
        seated = record { through = through_offered l (subst (IsStartedOn w.conn.renewal w.conn.again) e h.seated.through); admitted = λ u. h.seated.admitted (ap (λ (x : Life). has_room_at x (in_front w.conn.renewal)) e ∙ u) };
        waiting = λ f. h.waiting (ap (λ (x : Life). admits_none_at x (is_outstanding w.conn.again || has_no_permit w.conn.limit w.conn.free)) e ∙ f);
      };
      offered = offered_none (length l.outbox.unwritten == 0);
    })
    (λ f. record { moved = h; offered = subst HasOffered (sym e) f })
written_from w (Wanting l) e h = record { moved = h; offered = subst HasOffered (sym e) tt }
written_from w (SettingUp l greeting) e h =
    chosen (λ (x : Work). IsWritten x.conn) (can_offer l.outbox) _ w
    (λ t. record {
      moved = record {
        seated = record { through = setup_offered_through l greeting (subst (IsStartedOn w.conn.renewal w.conn.again) e h.seated.through); admitted = λ u. h.seated.admitted (ap (λ (x : Life). has_room_at x (in_front w.conn.renewal)) e ∙ u) };
        waiting = λ f. h.waiting (ap (λ (x : Life). admits_none_at x (is_outstanding w.conn.again || has_no_permit w.conn.limit w.conn.free)) e ∙ f);
      };
      offered = offered_none (length l.outbox.unwritten == 0);
    })
    (λ f. record { moved = h; offered = subst HasOffered (sym e) f })
written_from w Resting e h = record { moved = h; offered = subst HasOffered (sym e) tt }
written_from w Dialing e h = record { moved = h; offered = subst HasOffered (sym e) tt }
written_from w (Ended x) e h = record { moved = h; offered = subst HasOffered (sym e) tt }

-- a wait that is shown changes no connection
pub wait_conn : (w : Work) (q : ℕ) (kind : Option WaitKind) → (wait_shown w q kind).conn ≡ w.conn
wait_conn w q None = refl
wait_conn w q (Some kind) = refl

-- nor do all those of requests that were moved
pub moved_conn : (w : Work) (qs : List ℕ) → (moved_each_shown w qs).conn ≡ w.conn
moved_conn w [] = refl
moved_conn w (q ∷ qs) = moved_conn (wait_shown w q (moved_wait w.conn q)) qs ∙ wait_conn w q (moved_wait w.conn q)

-- nor those of requests that came
pub fresh_conn : (w : Work) (qs : List ℕ) → (fresh_each_shown w qs).conn ≡ w.conn
fresh_conn w [] = refl
fresh_conn w (q ∷ qs) = fresh_conn (wait_shown w q (fresh_wait w.conn q)) qs ∙ wait_conn w q (fresh_wait w.conn q)

-- the same connection, without any that were moved or came in this turn
abbrev pub calmed : MultiplexedConnection → MultiplexedConnection
calmed c = record c { moved = []; fresh = [] }

-- so waits that are shown leave but that
pub waits_conn : (w : Work) → (waits_shown w).conn ≡ calmed w.conn
waits_conn w =
    let d = moved_shown w in
    fresh_conn (record d { conn = record d.conn { fresh = [] } }) d.conn.fresh
    ∙ ap (λ (c : MultiplexedConnection). record c { fresh = [] }) (moved_conn (record w { conn = record w.conn { moved = [] } }) w.conn.moved)

-- nor do bytes that are offered change a request
written_requests : (w : Work) (life : Life) → (written_at w life).conn.requests ≡ w.conn.requests
written_requests w (Ready l) = chosen (λ (x : Work). x.conn.requests ≡ w.conn.requests) (can_offer l.outbox) _ w (λ t. refl) (λ f. refl)
written_requests w (SettingUp l greeting) = chosen (λ (x : Work). x.conn.requests ≡ w.conn.requests) (can_offer l.outbox) _ w (λ t. refl) (λ f. refl)
written_requests w Resting = refl
written_requests w Dialing = refl
written_requests w (Wanting l) = refl
written_requests w (Ended e) = refl

-- so what a turn ends with changes none
pub flushed_requests : (w : Work) → (flushed w).conn.requests ≡ w.conn.requests
flushed_requests w = ap (λ (c : MultiplexedConnection). c.requests) (waits_conn (written w)) ∙ written_requests w w.conn.life

-- and leaves nothing to do, where all was moved
pub flushed_idle : (w : Work) → IsMoved w.conn → IsIdle (flushed w).conn
flushed_idle w h =
    let e = written w in
    let i = written_from w w.conn.life refl h in
    subst IsIdle (sym (waits_conn e))
    (record {
      written = record {
        moved = record { seated = record { through = i.moved.seated.through; admitted = i.moved.seated.admitted }; waiting = i.moved.waiting };
        offered = i.offered;
      };
      calm = refl;
      fresh = refl;
    })

-- what stays where nothing is left to do
--
-- no message starts
none_starts : (l : LinkState) (queue : List Queued) → l.queue ≡ queue → IsThrough l → started_each (record { link = l; out = [] }) queue ≡ record { link = l; out = [] }
none_starts l [] e h = ap (λ (queue : List Queued). record { link = record l { queue = queue }; out = [] }) (sym e)
none_starts l (q ∷ qs) e (inl none) = cc
none_starts l (q ∷ qs) e (inr held) =
    taken_if (holds_back l) _ _ held ∙ ap (λ (queue : List Queued). record { link = record l { queue = queue }; out = [] }) (sym e)

-- on any link
pub started_stays : (w : Work) (life : Life) → w.conn.life ≡ life → HasStartedAll life → started_at w life ≡ w
started_stays w (Ready l) e h = ap (starts_with w) (none_starts l l.queue refl h) ∙ ap (at_life w) (sym e)
started_stays w (Wanting l) e h = refl
started_stays w (SettingUp l greeting) e h = ap (greets_with w greeting) (none_starts l l.queue refl h) ∙ ap (at_life w) (sym e)
started_stays w Resting e h = refl
started_stays w Dialing e h = refl
started_stays w (Ended x) e h = refl

-- nor does one before new credentials on a link that is held back
none_ahead : (last : Option ℕ) (l : LinkState) (queue : List Queued) → l.queue ≡ queue → holds_back l ≡ true → started_to_each last (record { link = l; out = [] }) queue ≡ record { link = l; out = [] }
none_ahead last l [] e held = ap (λ (queue : List Queued). record { link = record l { queue = queue }; out = [] }) (sym e)
none_ahead last l (q ∷ qs) e held =
    taken_if (holds_back l || not (is_up_to last q.id)) _ _ (ap (λ (b : Bool). b || not (is_up_to last q.id)) held) ∙ ap (λ (queue : List Queued). record { link = record l { queue = queue }; out = [] }) (sym e)

-- whatever the link is
ahead_stays : (w : Work) (life : Life) → w.conn.life ≡ life → is_held_back life ≡ true → started_ahead_at w life ≡ w
ahead_stays w (Ready l) e held = ap (starts_with w) (none_ahead w.conn.renewal.last l l.queue refl held) ∙ ap (at_life w) (sym e)
ahead_stays w Resting e held = refl
ahead_stays w Dialing e held = refl
ahead_stays w (Wanting l) e held = refl
ahead_stays w (SettingUp l greeting) e held = refl
ahead_stays w (Ended x) e held = refl

-- no request takes a place
pub none_moved_up : (w : Work) (qs : List Waiting) → (has_room w.conn ≡ true → qs ≡ []) → moved_up_each w qs ≡ still_admitted w qs
none_moved_up w [] h = refl
none_moved_up w (q ∷ qs) h = left_if (has_room w.conn) _ _ (none_fits (has_room w.conn) (λ t. cc (h t)))
  where
    none_fits : (b : Bool) → (b ≡ true → ⊥) → b ≡ false
    none_fits true f = absurd (f refl)
    none_fits false f = refl

-- no request is moved
none_admitted : (w : Work) (qs : List Waiting) → (admits_none w.conn ≡ false → qs ≡ []) → admitted_each w qs ≡ still_waiting w qs
none_admitted w [] h = refl
none_admitted w (q ∷ qs) h = taken_if (admits_none w.conn) _ _ (none_goes (admits_none w.conn) (λ f. cc (h f)))
  where
    none_goes : (b : Bool) → (b ≡ false → ⊥) → b ≡ true
    none_goes true f = refl
    none_goes false f = absurd (f refl)

-- no new credentials are told on a link that is held back
moved_stays_held : (w : Work) (life : Life) (cs : List Credentials) → is_held_back life ≡ true → renewal_moved w life cs ≡ w
moved_stays_held w (Ready l) (c ∷ cs) held = taken_if (holds_back l) w _ held
moved_stays_held w (Ready l) [] held = refl
moved_stays_held w Resting cs held = refl
moved_stays_held w Dialing cs held = refl
moved_stays_held w (Wanting l) cs held = refl
moved_stays_held w (SettingUp l greeting) cs held = refl
moved_stays_held w (Ended e) cs held = refl

-- nor is anything subscribed again
repeat_stays_held : (w : Work) (life : Life) (a : Again) → is_held_back life ≡ true → repeat_moved w life a ≡ w
repeat_stays_held w (Ready l) (again.Due packed of_shape timed) held = taken_if (holds_back l) w _ held
repeat_stays_held w (Ready l) again.Nothing held = refl
repeat_stays_held w (Ready l) again.Sent held = refl
repeat_stays_held w Resting a held = refl
repeat_stays_held w Dialing a held = refl
repeat_stays_held w (Wanting l) a held = refl
repeat_stays_held w (SettingUp l greeting) a held = refl
repeat_stays_held w (Ended e) a held = refl

-- so nothing is
pub repeated_stays : (w : Work) → HasRepeated w.conn.again w.conn.life → repeated w ≡ w
repeated_stays w h =
    let a = w.conn.again in
    chosen (λ (x : Work). x ≡ w) (is_ready w.conn.life && is_to_start a) (repeat_moved (repeat_asked w) w.conn.life a) w
    (λ t. let k = h t in
    ap (λ (x : Work). repeat_moved x w.conn.life a) (left_if (is_untimed a) (repeat_timed (repeating w (with_timer a)) w.conn.renewal.within) (repeating w (with_timer a)) k.0 ∙ ap (repeating w) (same_again a k.0))
    ∙ repeat_stays_held w w.conn.life a k.1)
    (λ f. refl)

-- and no new credentials are
pub renewed_stays : (w : Work) → HasRenewed w.conn.renewal w.conn.life → renewals.renewed w ≡ w
renewed_stays w h =
    let r = w.conn.renewal in
    let a = started_ahead (renewal_asked w) in
    chosen (λ (x : Work). x ≡ w) (is_ready w.conn.life && is_due r) (renewal_moved a a.conn.life a.conn.renewal.waiting) w
    (λ t. let k = h t in
    let same : a ≡ w = ap started_ahead (taken_if r.pending w _ k.0) ∙ ahead_stays w w.conn.life refl k.1 in
    ap (λ (x : Work). renewal_moved x x.conn.life x.conn.renewal.waiting) same ∙ moved_stays_held w w.conn.life r.waiting k.1)
    (λ f. refl)

-- the driver says nothing more
pub said_stays : (w : Work) → HasRepeated w.conn.again w.conn.life → HasRenewed w.conn.renewal w.conn.life → said w ≡ w
said_stays w repeats renews = ap renewals.renewed (repeated_stays w repeats) ∙ renewed_stays w renews

-- no round begins where no wait is to be shown
none_begin : (w : Work) → w.conn.fresh ≡ [] → rounds_begun w ≡ w
none_begin w e = chosen (λ (x : Work). x ≡ w) (w.conn.rounds && is_serving w.conn) (rounds_of w w.conn.fresh) w (λ t. ap (rounds_of w) e) (λ f. refl)

-- so nothing is moved
passed_stays : (w : Work) → IsMoved w.conn → w.conn.fresh ≡ [] → passed w ≡ w
passed_stays w h none =
    let moves : moved_all w ≡ w =
    ap (λ (x : Work). admitted_all (moved_up_all (started x))) (said_stays w h.seated.through.repeated h.seated.through.renewed)
    ∙ ap (λ (x : Work). admitted_all (moved_up_all x)) (started_stays w w.conn.life refl h.seated.through.queue)
    ∙ ap admitted_all (none_moved_up (still_admitted w []) w.conn.admitted h.seated.admitted) ∙ none_admitted (still_waiting w []) w.conn.waiting h.waiting in
    ap rounds_begun moves ∙ none_begin w none

-- no bytes are offered
written_stays : (w : Work) (life : Life) → HasOffered life → written_at w life ≡ w
written_stays w (Ready l) h = left_if (can_offer l.outbox) _ w h
written_stays w (Wanting l) h = refl
written_stays w (SettingUp l greeting) h = left_if (can_offer l.outbox) _ w h
written_stays w Resting h = refl
written_stays w Dialing h = refl
written_stays w (Ended e) h = refl

-- no wait is shown of a request that was moved
moved_stays : (w : Work) → w.conn.moved ≡ [] → moved_shown w ≡ w
moved_stays w e =
    ap (λ (ps : List ℕ). moved_each_shown (record w { conn = record w.conn { moved = [] } }) ps) e ∙ ap (λ (ps : List ℕ). record w { conn = record w.conn { moved = ps } }) (sym e)

-- nor of one that came
fresh_stays : (w : Work) → w.conn.fresh ≡ [] → fresh_shown w ≡ w
fresh_stays w e =
    ap (λ (ps : List ℕ). fresh_each_shown (record w { conn = record w.conn { fresh = [] } }) ps) e ∙ ap (λ (ps : List ℕ). record w { conn = record w.conn { fresh = ps } }) (sym e)

-- nothing happens
pub nothing_moves : (w : Work) → IsIdle w.conn → flushed (passed w) ≡ w
nothing_moves w h =
    ap flushed (passed_stays w h.written.moved h.fresh) ∙ ap waits_shown (written_stays w w.conn.life h.written.offered) ∙ ap fresh_shown (moved_stays w h.calm) ∙ fresh_stays w h.fresh

-- a cancel of a message that isn't in the queue leaves nothing to do, where permits aren't counted
pub left_idle : (c : MultiplexedConnection) (p : ℕ) → c.limit ≡ None → NoneQueued p c.life → IsIdle c → IsIdle (left c p)
left_idle c p unlimited none h =
    let m = h.written.moved in
    chosen IsIdle (is_open_at c.requests p) _ c
    (λ t. record {
      written = record {
        moved = record {
          seated = record {
            through = record { queue = queue_left c.life none m.seated.through.queue; repeated = repeated_left c.life m.seated.through.repeated; renewed = renewed_left c.life m.seated.through.renewed };
            admitted = λ u. m.seated.admitted (sym (room_left c.life (in_front c.renewal) none) ∙ u);
          };
          waiting = λ f. m.waiting (stuck_left c.life (is_outstanding c.again) c.limit c.free (closed c p).free unlimited ∙ f);
        };
        offered = offered_left c.life h.written.offered;
      };
      calm = h.calm;
      fresh = h.fresh;
    })
    (λ f. h)
  where
    queue_left : (life : Life) → NoneQueued p life → HasStartedAll life → HasStartedAll (cancelled_in life p)
    queue_left Resting n e = e
    queue_left Dialing n e = e
    queue_left (Wanting l) n e = e
    queue_left (SettingUp l greeting) n e = e
    queue_left (Ready l) n (inl e) = inl (none_leaves p l.queue n ∙ e)
    queue_left (Ready l) n (inr held) = inr held
    queue_left (Ended x) n e = e

    repeated_left : (life : Life) → HasRepeated c.again life → HasRepeated c.again (cancelled_in life p)
    repeated_left Resting e = e
    repeated_left Dialing e = e
    repeated_left (Wanting l) e = e
    repeated_left (SettingUp l greeting) e = e
    repeated_left (Ready l) e = e
    repeated_left (Ended x) e = e

    renewed_left : (life : Life) → HasRenewed c.renewal life → HasRenewed c.renewal (cancelled_in life p)
    renewed_left Resting e = e
    renewed_left Dialing e = e
    renewed_left (Wanting l) e = e
    renewed_left (SettingUp l greeting) e = e
    renewed_left (Ready l) e = e
    renewed_left (Ended x) e = e

    room_left : (life : Life) (count : ℕ) → NoneQueued p life → has_room_at (cancelled_in life p) count ≡ has_room_at life count
    room_left Resting count n = refl
    room_left Dialing count n = refl
    room_left (Wanting l) count n = refl
    room_left (SettingUp l greeting) count n = refl
    room_left (Ready l) count n = ap (λ (queue : List Queued). has_room_at (Ready (record l { queue = queue })) count) (none_leaves p l.queue n)
    room_left (Ended x) count n = refl

    stuck_left : (life : Life) (goes : Bool) (lim : Option ℕ) (j k : ℕ) → lim ≡ None → admits_none_at life (goes || has_no_permit lim j) ≡ admits_none_at (cancelled_in life p) (goes || has_no_permit lim k)
    stuck_left Resting goes lim j k e = refl
    stuck_left Dialing goes lim j k e = refl
    stuck_left (Wanting l) goes lim j k e = refl
    stuck_left (SettingUp l greeting) goes lim j k e = refl
    stuck_left (Ready l) goes None j k e = refl
    stuck_left (Ready l) goes (Some most) j k e = cc
    stuck_left (Ended x) goes lim j k e = refl

    offered_left : (life : Life) → HasOffered life → HasOffered (cancelled_in life p)
    offered_left Resting e = e
    offered_left Dialing e = e
    offered_left (Wanting l) e = e
    offered_left (SettingUp l greeting) e = e
    offered_left (Ready l) e = e
    offered_left (Ended x) e = e
