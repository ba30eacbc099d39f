-- At most one action may stand next.
use Rattle.std.proofs.Common.{◌≡◌, ◌⊎◌, inl, inr, ℕ, zero, suc, ◌<◌, ◌≤◌, nat_lt, Bool, true, false, List, [], length, Option, Some, None, refl, sym, ◌∙◌, subst, ap, arith}
use Rattle.containers.proofs.Choices.{by_test, lt_from, not_lt_from, not_both}
use Rattle.driver_model.specs.declared.action.Action.{Action}
use Rattle.driver_model.specs.declared.action.Action.TheVariants as action
use Rattle.driver_model.specs.declared.action.Cause.TheVariants as cause
use Rattle.driver_model.specs.declared.action.Owner.TheVariants as owner
use Rattle.driver_model.specs.declared.hearing.Notice.{Notice}
use Rattle.driver_model.specs.declared.hearing.Notice.TheVariants as notice
use Rattle.driver_model.specs.declared.action.WaitKind.{WaitKind}
use Rattle.driver_model.specs.declared.action.Purpose.{Purpose}
use Rattle.driver_model.specs.declared.action.Purpose.TheVariants as purpose
use Rattle.driver_model.specs.Config.{address, connect_timeout}
use Rattle.driver_model.specs.Shape.{need_of}
use Rattle.connection_info.specs.declared.address.ConnectionInfo.{ConnectionInfo}
use Rattle.redis_error.specs.declared.redis_error.RedisError.{RedisError}
use Rattle.driver_model.specs.declared.config.Config.{Config}
use Rattle.driver_model.specs.declared.event.Event.{Event}
use Rattle.driver_model.specs.declared.outcome.Outcome.{Outcome}
use Rattle.driver_model.specs.declared.outcome.Outcome.TheVariants as outcome
use Rattle.resp_value.specs.declared.value.Value.TheVariants.{Nil}
use Rattle.resp_value.specs.declared.push_kind.PushKind.{PushKind}
use Rattle.resp_value.specs.declared.push_kind.PushKind.TheVariants.{Disconnection}
use Rattle.credentials.specs.Credentials.{Credentials}
use Rattle.driver_model.specs.Push.{is_disconnection}
use Rattle.driver_model.specs.declared.push_info.PushInfo.{PushInfo}
use Rattle.legal_trace.specs.Ledger.{Heard, IsOffered, is_over, is_cut, unwritten, ending, failure_in, next_notice, setup_due, setup_message, source_due, renewal_due, renewal_message, renewals_asked, monitor_due, monitor_message, again_due}
use Rattle.legal_trace.specs.Story.{shape, bytes_of}
use Rattle.legal_trace.specs.Owed.{owed}
use Rattle.legal_trace.specs.Book.{Book, book}
use Rattle.legal_trace.specs.Steps.{Step, waits, takes, asks, tells, starts, nothing, is_held_back, is_renewal_held, next_step, rounds}
use Rattle.manager_config.specs.Backoff.{backoff}
use Rattle.legal_trace.specs.Legal.{MayStand, MayConnect, MayTimeConnect, MayRest, MayGenerate, MayBeLazy, word_of, MayTime, MayTake, MayTimer, MayNeed, MayNotify, MayWatch, MayPart, MayPushBy, MayClose, MayBeCreated, MayFail, MayShowCreation, MayAnswer, MayTell, MayStart, MaySetUp, MayWrite, MayWait, IsOpen, IsWaiting, link_of, CanMove, MayTimeRenewal, MayRenew, MayRoundOn, MayRepeat, MayTimeRepeat}
use Rattle.legal_trace.specs.Again.{again_message}
use Rattle.legal_laws.specs.Next.{BothAnnounce, OneIsNext, OneIsNextBehind}
use Rattle.legal_trace.proofs.Moves.{teller_moves, starter_moves, taker_moves, asker_moves, same_kind, rounder_moves}
use Rattle.legal_laws.proofs.Traces.Ranks.{up_is_current, answer_rank, creation_rank, push_rank, rank, same_rank, outcome_rank, timer_rank, not_offered, not_shown}
use Rattle.legal_trace.proofs.Plain.{not_none, same_some}
use Rattle.legal_laws.proofs.Traces.Sound.{Sound, sound_behind}

-- the least number of a kind is one
least_is_one : (P : ℕ → Type 0) (m n : ℕ) → P m → P n → ((k : ℕ) → k < m → P k → ⊥) → ((k : ℕ) → k < n → P k → ⊥) → m ≡ n
least_is_one P m n p q below_m below_n = by_test (nat_lt m n) (m ≡ n)
    (λ t. absurd (below_n m (lt_from m n t) p))
    (λ f. by_test (nat_lt n m) (m ≡ n)
    (λ t. absurd (below_m n (lt_from n m t) q))
    (λ g. let i : n ≤ m = not_lt_from m n f in let k : m ≤ n = not_lt_from n m g in omega (arith, i, k)))

-- what x and y are told to be
abbrev pub AreOne : Action → Action → Type 0
AreOne x y = (x ≡ y) ⊎ BothAnnounce x y

-- an outcome is known by its submission and what it is
same_answers : (m n : ℕ) (o p : Outcome) → m ≡ n → Some o ≡ Some p → action.Outcome m o ≡ action.Outcome n p
same_answers m n o p e f = cc

-- of what is owed to open submissions whose link has ended, or has not, one is the first
one_answer : (b : Book) (m n : ℕ) (o p : Outcome) (over : Bool) → is_over (link_of b m) ≡ over → is_over (link_of b n) ≡ over → MayAnswer b m o → MayAnswer b n p → action.Outcome m o ≡ action.Outcome n p
one_answer b m n o p over of_m of_n h k =
    let e : m ≡ n = least_is_one (λ j. IsOpen b j × (is_over (link_of b j) ≡ over) × (owed b j ≡ None → ⊥)) m n
    (h.asked, of_m, λ none. not_none (owed b m) o none h.owes) (k.asked, of_n, λ none. not_none (owed b n) p none k.owes)
    (λ j i w. w.2 (h.in_order j i w.0 (w.1 ∙ sym of_m))) (λ j i w. w.2 (k.in_order j i w.0 (w.1 ∙ sym of_n))) in
    same_answers m n o p e (sym h.owes ∙ (ap (owed b) e ∙ k.owes))

-- two submissions whose messages may start next are one
one_move : (b : Book) (m n : ℕ) → CanMove b m → CanMove b n → ((k : ℕ) → k < m → CanMove b k → ⊥) → ((k : ℕ) → k < n → CanMove b k → ⊥) → m ≡ n
one_move b = least_is_one (CanMove b)

-- the action that a step of submission n is
abbrev pub move_of : Book → ℕ → Step → Action
move_of b n (waits kind) = action.Wait (owner.Try n 0) kind
move_of b n rounds = action.Round (owner.Try n 0) (Some (b.story n).link)
move_of b n (takes count) = action.Took (owner.Try n 0) (b.story n).link count
move_of b n (asks ms) = action.Timer (length b.timers) ms (purpose.Response (owner.Try n 0))
move_of b n tells = action.Outcome n (outcome.One Nil)
move_of b n starts = action.Start (b.story n).link (length (link_of b n).starts) (owner.Try n 0) (need_of (shape (b.story n))) (length (bytes_of (b.story n)))
move_of b n nothing = action.Close 0

-- it is the step of the first submission that makes one
abbrev pub IsMoving : Book → Action → Type 0
IsMoving b y = (n : ℕ) × CanMove b n × ((k : ℕ) → k < n → CanMove b k → ⊥) × (y ≡ move_of b n (next_step b n))

-- two of these are one
one_moving : (b : Book) (x y : Action) → IsMoving b x → IsMoving b y → x ≡ y
one_moving b x y p q = let e : p.0 ≡ q.0 = one_move b p.0 q.0 p.1 q.1 p.2 q.2 in p.3 ∙ (ap (λ n. move_of b n (next_step b n)) e ∙ sym q.3)

-- so is Nil that is told at its place
tell_moving : (b : Book) (n : ℕ) (o : Outcome) → MayTell b n o → IsMoving b (action.Outcome n o)
tell_moving b n o may = (n, teller_moves b n o may, may.in_order, ap (action.Outcome n) may.nil ∙ sym (ap (move_of b n) may.tells))

-- a start
start_moving : (b : Book) (l k n count len : ℕ) → MayStart b l k n count len → IsMoving b (action.Start l k (owner.Try n 0) count len)
start_moving b l k n count len may =
    let on : l ≡ (b.story n).link = may.on_its_link in
    let next : k ≡ length (link_of b n).starts = may.next ∙ ap (λ x. length (b.link x).starts) on in
    let same : action.Start l k (owner.Try n 0) count len ≡ move_of b n starts =
    ap (λ x. action.Start x k (owner.Try n 0) count len) on ∙ (ap (λ x. action.Start (b.story n).link x (owner.Try n 0) count len) next
    ∙ (ap (λ x. action.Start (b.story n).link (length (link_of b n).starts) (owner.Try n 0) x len) may.needs_its_items
    ∙ ap (λ x. action.Start (b.story n).link (length (link_of b n).starts) (owner.Try n 0) (need_of (shape (b.story n))) x) may.long_as_its_bytes)) in
    (n, starter_moves b l k n count len may, may.in_order, same ∙ sym (ap (move_of b n) may.starts))

-- a round that begins
round_moving : (b : Book) (n : ℕ) (on : Option ℕ) → MayRoundOn b n on → IsMoving b (action.Round (owner.Try n 0) on)
round_moving b n None may = absurd may
round_moving b n (Some l) may = (n, rounder_moves b n l may, may.in_order, ap (λ x. action.Round (owner.Try n 0) (Some x)) may.on_its_link ∙ sym (ap (move_of b n) may.rounds))

-- permits that are taken
take_moving : (b : Book) (n l count : ℕ) → MayTake b n l count → IsMoving b (action.Took (owner.Try n 0) l count)
take_moving b n l count may = (n, taker_moves b n l count may, may.in_order, ap (λ x. action.Took (owner.Try n 0) x count) may.on_its_link ∙ sym (ap (move_of b n) may.takes))

-- and a timer of a submission
ask_moving : (b : Book) (t ms : ℕ) (what : Purpose) → MayTime b t ms what → IsMoving b (action.Timer t ms what)
ask_moving b t ms what may = (
  may.n,
  asker_moves b t ms what may,
  may.in_order,
  ap (λ x. action.Timer x ms what) may.next ∙ (ap (action.Timer (length b.timers) ms) may.is_for ∙ sym (ap (move_of b may.n) may.asks)),
)

-- two connects are one
one_connect : (b : Book) (l m : ℕ) (host other : List ℕ) (port number : ℕ) → MayConnect b l host port → MayConnect b m other number → action.Connect l host port ≡ action.Connect m other number
one_connect b l m host other port number h k =
    let c : h.config ≡ k.config = same_some h.config k.config (sym h.told ∙ k.told) in
    let i : l ≡ m = h.next ∙ sym k.next in
    let info : h.info ≡ k.info = same_some h.info k.info (sym h.configured ∙ (ap address c ∙ k.configured)) in
    let a : host ≡ other = h.address.0 ∙ (ap (λ (x : ConnectionInfo). x.host) info ∙ sym k.address.0) in
    let p : port ≡ number = h.address.1 ∙ (ap (λ (x : ConnectionInfo). x.port) info ∙ sym k.address.1) in
    cc (i, a, p)

-- two timers of connects are one
one_timer : (b : Book) (t u ms time : ℕ) (what other : Purpose) → MayTimeConnect b t ms what → MayTimeConnect b u time other → action.Timer t ms what ≡ action.Timer u time other
one_timer b t u ms time what other h k =
    let c : h.config ≡ k.config = same_some h.config k.config (sym h.told ∙ k.told) in
    let i : t ≡ u = h.next ∙ sym k.next in
    let m : ms ≡ time = same_some ms time (sym h.bounded ∙ (ap connect_timeout c ∙ k.bounded)) in
    let w : what ≡ other = h.is_for ∙ sym k.is_for in
    cc (i, m, w)

-- two timers of waits behind an attempt are one
one_rest : (b : Book) (t u ms time : ℕ) (what other : Purpose) → MayRest b t ms what → MayRest b u time other → action.Timer t ms what ≡ action.Timer u time other
one_rest b t u ms time what other h k =
    let c : h.settings ≡ k.settings = same_some h.settings k.settings (sym h.set ∙ k.set) in
    let i : t ≡ u = h.next ∙ sym k.next in
    let m : ms ≡ time = h.long ∙ (ap (λ s. backoff s b.attempt (word_of b.running)) c ∙ sym k.long) in
    let w : what ≡ other = h.is_for ∙ sym k.is_for in
    cc (i, m, w)

-- two generations are one
one_generation : (b : Book) (g h : ℕ) → MayGenerate b g → MayGenerate b h → action.Generation g ≡ action.Generation h
one_generation b g h p q = ap action.Generation (p.next ∙ sym q.next)

-- two failures of the creation are one
one_failure : (b : Book) (d e : RedisError) → MayFail b d → MayFail b e → d ≡ e
one_failure b d e h k =
    let l : h.l ≡ k.l = least_is_one (λ j. failure_in (b.link j).end ≡ None → ⊥) h.l k.l
    (λ none. not_none (failure_in (b.link h.l).end) d none h.fails) (λ none. not_none (failure_in (b.link k.l).end) e none k.fails)
    (λ j i w. w (h.in_order j i)) (λ j i w. w (k.in_order j i)) in
    same_some d e (sym h.fails ∙ (ap (λ j. failure_in (b.link j).end) l ∙ k.fails))

-- a setup is known by its link
abbrev pub setup_on : Book → ℕ → ℕ → Action
setup_on b l k = action.Start l (length (b.link l).starts) owner.Setup (need_of (setup_message (b.link l) k).shape) (length (setup_message (b.link l) k).bytes)

-- it is that
setup_is : (b : Book) (l message count len : ℕ) (may : MaySetUp b l message count len) → action.Start l message owner.Setup count len ≡ setup_on b l may.k
setup_is b l message count len may =
    ap (λ x. action.Start l x owner.Setup count len) may.next
    ∙ (ap (λ x. action.Start l (length (b.link l).starts) owner.Setup x len) may.needs_its_items
    ∙ ap (λ x. action.Start l (length (b.link l).starts) owner.Setup (need_of (setup_message (b.link l) may.k).shape) x) may.long_as_its_bytes)

-- a setup is to start on that link, which isn't held back
abbrev pub IsSettingUp : Book → ℕ → Type 0
IsSettingUp b l = (k : ℕ) × (setup_due (b.link l) ≡ Some k) × (is_held_back b (b.link l) ≡ false)

-- two setups are one
one_setup : (b : Book) (l m message other count need len size : ℕ) → MaySetUp b l message count len → MaySetUp b m other need size → action.Start l message owner.Setup count len ≡ action.Start m other owner.Setup need size
one_setup b l m message other count need len size h k =
    let e : l ≡ m = least_is_one (IsSettingUp b) l m (h.k, h.due, h.free) (k.k, k.due, k.free)
    (λ j i w. not_both (is_held_back b (b.link j)) w.2 (h.in_order j w.0 i w.1)) (λ j i w. not_both (is_held_back b (b.link j)) w.2 (k.in_order j w.0 i w.1)) in
    let same : h.k ≡ k.k = same_some h.k k.k (sym h.due ∙ (ap (λ j. setup_due (b.link j)) e ∙ k.due)) in
    setup_is b l message count len h ∙ (ap (λ j. setup_on b j h.k) e ∙ (ap (setup_on b m) same ∙ sym (setup_is b m other need size k)))

-- new credentials are known by their link
abbrev pub renewal_on : Book → ℕ → Credentials → Action
renewal_on b l c = action.Start l (length (b.link l).starts) owner.Auth (need_of (renewal_message c).shape) (length (renewal_message c).bytes)

-- they are that
renewal_is : (b : Book) (l message count len : ℕ) (may : MayRenew b l message count len) → action.Start l message owner.Auth count len ≡ renewal_on b l may.credentials
renewal_is b l message count len may =
    ap (λ x. action.Start l x owner.Auth count len) may.next
    ∙ (ap (λ x. action.Start l (length (b.link l).starts) owner.Auth x len) may.needs_its_items
    ∙ ap (λ x. action.Start l (length (b.link l).starts) owner.Auth (need_of (renewal_message may.credentials).shape) x) may.long_as_its_bytes)

-- some are to be told on that link, and don't wait
abbrev pub IsRenewing : Book → ℕ → Type 0
IsRenewing b l = (c : Credentials) × (renewal_due (b.link l) ≡ Some c) × (is_renewal_held b l ≡ false)

-- two that are told are one
one_renewal : (b : Book) (l m message other count need len size : ℕ) → MayRenew b l message count len → MayRenew b m other need size → action.Start l message owner.Auth count len ≡ action.Start m other owner.Auth need size
one_renewal b l m message other count need len size h k =
    let e : l ≡ m = least_is_one (IsRenewing b) l m (h.credentials, h.due, h.free) (k.credentials, k.due, k.free)
    (λ j i w. not_both (is_renewal_held b j) w.2 (h.in_order j w.0 i w.1)) (λ j i w. not_both (is_renewal_held b j) w.2 (k.in_order j w.0 i w.1)) in
    let same : h.credentials ≡ k.credentials = same_some h.credentials k.credentials (sym h.due ∙ (ap (λ j. renewal_due (b.link j)) e ∙ k.due)) in
    renewal_is b l message count len h ∙ (ap (λ j. renewal_on b j h.credentials) e ∙ (ap (renewal_on b m) same ∙ sym (renewal_is b m other need size k)))

-- two timers of new credentials are one
one_renewal_timer : (b : Book) (t u ms time : ℕ) (what other : Purpose) → MayTimeRenewal b t ms what → MayTimeRenewal b u time other → action.Timer t ms what ≡ action.Timer u time other
one_renewal_timer b t u ms time what other h k =
    let e : h.l ≡ k.l = least_is_one (λ j. (b.link j).creds.timed < renewals_asked (b.link j)) h.l k.l h.asked k.asked
    (λ j i w. let all : renewals_asked (b.link j) ≤ (b.link j).creds.timed = h.in_order j i in omega (arith, all, w))
    (λ j i w. let all : renewals_asked (b.link j) ≤ (b.link j).creds.timed = k.in_order j i in omega (arith, all, w)) in
    let i : t ≡ u = h.next ∙ sym k.next in
    let m : ms ≡ time = same_some ms time (sym h.within ∙ k.within) in
    let w : what ≡ other = h.is_for ∙ (ap (λ j. purpose.Renewal j (b.link j).creds.timed) e ∙ sym k.is_for) in
    cc (i, m, w)

-- two closes are one
one_close : (b : Book) (l m : ℕ) → MayClose b l → MayClose b m → action.Close l ≡ action.Close m
one_close b l m h k =
    ap action.Close (least_is_one (λ j. ending (b.link j) ≡ None → ⊥) l m
    (λ none. not_none (ending (b.link l)) h.why none h.ends) (λ none. not_none (ending (b.link m)) k.why none k.ends)
    (λ j i w. w (h.in_order j i)) (λ j i w. w (k.in_order j i)))

-- MONITOR is known by its link
abbrev pub watch_on : Book → ℕ → Action
watch_on b l = action.Start l (length (b.link l).starts) owner.Monitor (need_of monitor_message.shape) (length monitor_message.bytes)

-- it is that
watch_is : (b : Book) (l message count len : ℕ) (may : MayWatch b l message count len) → action.Start l message owner.Monitor count len ≡ watch_on b l
watch_is b l message count len may =
    ap (λ x. action.Start l x owner.Monitor count len) may.next
    ∙ (ap (λ x. action.Start l (length (b.link l).starts) owner.Monitor x len) may.needs_its_items
    ∙ ap (λ x. action.Start l (length (b.link l).starts) owner.Monitor (need_of monitor_message.shape) x) may.long_as_its_bytes)

-- it is to start on that link, which isn't held back
abbrev pub IsWatching : Book → ℕ → Type 0
IsWatching b l = (monitor_due (b.link l) ≡ true) × (is_held_back b (b.link l) ≡ false)

-- two that start are one
one_watch : (b : Book) (l m message other count need len size : ℕ) → MayWatch b l message count len → MayWatch b m other need size → action.Start l message owner.Monitor count len ≡ action.Start m other owner.Monitor need size
one_watch b l m message other count need len size h k =
    let e : l ≡ m = least_is_one (IsWatching b) l m (h.due, h.free) (k.due, k.free)
    (λ j i w. not_both (is_held_back b (b.link j)) w.1 (h.in_order j i w.0)) (λ j i w. not_both (is_held_back b (b.link j)) w.1 (k.in_order j i w.0)) in
    watch_is b l message count len h ∙ (ap (watch_on b) e ∙ sym (watch_is b m other need size k))

-- what is subscribed again is known by its link
abbrev pub repeat_on : Book → ℕ → Action
repeat_on b l = action.Start l (length (b.link l).starts) owner.Resub (need_of (again_message b.tracked).shape) (length (again_message b.tracked).bytes)

-- it is that
repeat_is : (b : Book) (l message count len : ℕ) (may : MayRepeat b l message count len) → action.Start l message owner.Resub count len ≡ repeat_on b l
repeat_is b l message count len may =
    ap (λ x. action.Start l x owner.Resub count len) may.next
    ∙ (ap (λ x. action.Start l (length (b.link l).starts) owner.Resub x len) may.needs_its_items
    ∙ ap (λ x. action.Start l (length (b.link l).starts) owner.Resub (need_of (again_message b.tracked).shape) x) may.long_as_its_bytes)

-- it is to start on that link, which isn't held back
abbrev pub IsRepeating : Book → ℕ → Type 0
IsRepeating b l = (again_due (b.link l) ≡ true) × (is_held_back b (b.link l) ≡ false)

-- two that start are one
one_repeat : (b : Book) (l m message other count need len size : ℕ) → MayRepeat b l message count len → MayRepeat b m other need size → action.Start l message owner.Resub count len ≡ action.Start m other owner.Resub need size
one_repeat b l m message other count need len size h k =
    let e : l ≡ m = least_is_one (IsRepeating b) l m (h.due, h.free) (k.due, k.free)
    (λ j i w. not_both (is_held_back b (b.link j)) w.1 (h.in_order j i w.0)) (λ j i w. not_both (is_held_back b (b.link j)) w.1 (k.in_order j i w.0)) in
    repeat_is b l message count len h ∙ (ap (repeat_on b) e ∙ sym (repeat_is b m other need size k))

-- two timers of what is subscribed again are one
one_repeat_timer : (b : Book) (t u ms time : ℕ) (what other : Purpose) → MayTimeRepeat b t ms what → MayTimeRepeat b u time other → action.Timer t ms what ≡ action.Timer u time other
one_repeat_timer b t u ms time what other h k =
    let e : h.l ≡ k.l = least_is_one (λ j. (again_due (b.link j) ≡ true) × ((b.link j).again.timed ≡ false)) h.l k.l (h.due, h.once) (k.due, k.once)
    (λ j i w. not_both (b.link j).again.timed w.1 (h.in_order j i w.0)) (λ j i w. not_both (b.link j).again.timed w.1 (k.in_order j i w.0)) in
    let i : t ≡ u = h.next ∙ sym k.next in
    let m : ms ≡ time = same_some ms time (sym h.within ∙ k.within) in
    let w : what ≡ other = h.is_for ∙ (ap purpose.Resubscription e ∙ sym k.is_for) in
    cc (i, m, w)

-- what tells this of link l
abbrev pub telling_of : ℕ → Notice → Action
telling_of l (notice.Push info) = action.Push l info
telling_of l (notice.Message m) = action.Message m
telling_of l (notice.Monitor v) = action.Monitor v

-- two that tell what came are one
one_notice : (b : Book) (l m : ℕ) (n other : Notice) → MayNotify b l n → MayNotify b m other → telling_of l n ≡ telling_of m other
one_notice b l m n other h k =
    let e : l ≡ m = least_is_one (λ j. next_notice (b.link j) ≡ None → ⊥) l m
    (λ none. not_none (next_notice (b.link l)) h.heard none h.next) (λ none. not_none (next_notice (b.link m)) k.heard none k.next)
    (λ j i w. w (h.in_order j i)) (λ j i w. w (k.in_order j i)) in
    let p : h.heard ≡ k.heard = same_some h.heard k.heard (sym h.next ∙ (ap (λ j. next_notice (b.link j)) e ∙ k.next)) in
    ap (telling_of l) (h.says ∙ (ap (λ (x : Heard). x.what) p ∙ sym k.says)) ∙ ap (λ j. telling_of j other) e

-- two sources are one
one_need : (b : Book) (c d l m : ℕ) → MayNeed b c l → MayNeed b d m → action.NeedCreds c l ≡ action.NeedCreds d m
one_need b c d l m h k =
    let e : l ≡ m = least_is_one (λ j. source_due (b.link j) ≡ true) l m h.due k.due
    (λ j i w. not_both (source_due (b.link j)) (h.in_order j i) w) (λ j i w. not_both (source_due (b.link j)) (k.in_order j i) w) in
    let same : c ≡ d = h.next ∙ sym k.next in
    cc (e, same)

-- what tells that a link has ended is of one kind
one_kind : (kind : PushKind) → is_disconnection kind ≡ true → kind ≡ Disconnection
one_kind Disconnection e = refl
one_kind _ e = cc e

-- and one push
same_info : (info : PushInfo) → info.kind ≡ Disconnection → info.parts ≡ [] → info ≡ record { kind = Disconnection; parts = [] }
same_info info k p =
    let first : info ≡ record { kind = Disconnection; parts = info.parts } = ap (λ x. record { kind = x; parts = info.parts }) k in
    first ∙ ap (λ x. record { kind = Disconnection; parts = x }) p

-- two that tell that a link has ended are one
one_part : (b : Book) (l m : ℕ) (info other : PushInfo) → is_disconnection info.kind ≡ true → is_disconnection other.kind ≡ true → MayPart b l info → MayPart b m other → action.Push l info ≡ action.Push m other
one_part b l m info other d f h k =
    let e : l ≡ m = least_is_one (λ j. (is_cut (b.link j).end ≡ true) × ((b.link j).parted ≡ true → ⊥)) l m
    (h.ended, not_both (b.link l).parted h.once) (k.ended, not_both (b.link m).parted k.once)
    (λ j i w. w.1 (h.in_order j i w.0)) (λ j i w. w.1 (k.in_order j i w.0)) in
    let same : info ≡ other = same_info info (one_kind info.kind d) h.bare ∙ sym (same_info other (one_kind other.kind f) k.bare) in
    cc (e, same)

-- two writes are one
one_write : (b : Book) (l m : ℕ) (bytes other : List ℕ) → MayWrite b l bytes → MayWrite b m other → action.Write l bytes ≡ action.Write m other
one_write b l m bytes other h k =
    let e : l ≡ m = least_is_one (λ j. ((b.link j).up ≡ true) × (IsOffered (b.link j) → ⊥)) l m
    (h.up, not_offered b l bytes h) (k.up, not_offered b m other k)
    (λ j i w. w.1 (h.in_order j i w.0)) (λ j i w. w.1 (k.in_order j i w.0)) in
    let same : bytes ≡ other = h.all ∙ (ap (λ x. unwritten (b.link x)) e ∙ sym k.all) in
    cc (e, same)

-- two waits are one
one_wait : (b : Book) (m n : ℕ) (kind other : WaitKind) → MayWait b m kind → MayWait b n other → action.Wait (owner.Try m 0) kind ≡ action.Wait (owner.Try n 0) other
one_wait b m n kind other h k =
    let e : m ≡ n = least_is_one (λ j. IsOpen b j × ((b.story j).tries ≡ []) × (IsWaiting b j → ⊥)) m n
    (h.asked, h.unstarted, not_shown b m kind h) (k.asked, k.unstarted, not_shown b n other k)
    (λ j i w. w.2 (h.in_order j i w.0 w.1)) (λ j i w. w.2 (k.in_order j i w.0 w.1)) in
    let f : kind ≡ other = same_kind (next_step b m) kind other h.holds (ap (next_step b) e ∙ k.holds) in
    cc (e, f)

-- it is an outcome that is owed, of a link that has ended or of one that has not
abbrev pub IsAnswering : Book → Bool → Action → Type 0
IsAnswering b over y = (n : ℕ) × (o : Outcome) × (y ≡ action.Outcome n o) × (is_over (link_of b n) ≡ over) × MayAnswer b n o

-- it is that a link is ready
abbrev pub IsCreating : Book → Action → Type 0
IsCreating b y = (y ≡ action.Created None) × MayBeCreated b

-- it tells what came
abbrev pub IsTelling : Book → Action → Type 0
IsTelling b y = (l : ℕ) × (n : Notice) × (y ≡ telling_of l n) × MayNotify b l n

-- it asks for a source of credentials
abbrev pub IsNeeding : Book → Action → Type 0
IsNeeding b y = (c : ℕ) × (l : ℕ) × (y ≡ action.NeedCreds c l) × MayNeed b c l

-- it comes from values: an outcome, that a link is ready, or what else came; or it asks for a source, between these
abbrev pub IsOfValues : Book → Action → Type 0
IsOfValues b y = IsAnswering b false y ⊎ (IsCreating b y ⊎ (IsTelling b y ⊎ IsNeeding b y))

-- what an action of this rank is, and that it may stand
abbrev pub OfRank : ℕ → Book → Action → Type 0
OfRank zero b y = (k : ℕ) × (config : Config) × (word : ℕ) × (y ≡ action.Turn k (cause.Opening config word)) × (k ≡ b.turns)
OfRank (suc zero) b y = (y ≡ action.Created None) × MayBeLazy b
OfRank (suc (suc zero)) b y = IsOfValues b y
OfRank (suc (suc (suc zero))) b y = (l : ℕ) × (y ≡ action.Close l) × MayClose b l
OfRank (suc (suc (suc (suc zero)))) b y = (e : RedisError) × (y ≡ action.Created (Some e)) × MayFail b e
OfRank (suc (suc (suc (suc (suc zero))))) b y = (l : ℕ) × (info : PushInfo) × (y ≡ action.Push l info) × (is_disconnection info.kind ≡ true) × MayPart b l info
OfRank (suc (suc (suc (suc (suc (suc zero)))))) b y = IsAnswering b true y
OfRank (suc (suc (suc (suc (suc (suc (suc zero))))))) b y = (t : ℕ) × (ms : ℕ) × (what : Purpose) × (y ≡ action.Timer t ms what) × MayRest b t ms what
OfRank (suc (suc (suc (suc (suc (suc (suc (suc zero)))))))) b y = (g : ℕ) × (y ≡ action.Generation g) × MayGenerate b g
OfRank (suc (suc (suc (suc (suc (suc (suc (suc (suc zero))))))))) b y = (l : ℕ) × (host : List ℕ) × (port : ℕ) × (y ≡ action.Connect l host port) × MayConnect b l host port
OfRank (suc (suc (suc (suc (suc (suc (suc (suc (suc (suc zero)))))))))) b y = (t : ℕ) × (ms : ℕ) × (what : Purpose) × (y ≡ action.Timer t ms what) × MayTimeConnect b t ms what
OfRank (suc (suc (suc (suc (suc (suc (suc (suc (suc (suc (suc zero))))))))))) b y = (l : ℕ) × (k : ℕ) × (count : ℕ) × (len : ℕ) × (y ≡ action.Start l k owner.Setup count len) × MaySetUp b l k count len
OfRank (suc (suc (suc (suc (suc (suc (suc (suc (suc (suc (suc (suc zero)))))))))))) b y = (l : ℕ) × (k : ℕ) × (count : ℕ) × (len : ℕ) × (y ≡ action.Start l k owner.Monitor count len) × MayWatch b l k count len
OfRank (suc (suc (suc (suc (suc (suc (suc (suc (suc (suc (suc (suc (suc zero))))))))))))) b y = (t : ℕ) × (ms : ℕ) × (what : Purpose) × (y ≡ action.Timer t ms what) × MayTimeRepeat b t ms what
OfRank (suc (suc (suc (suc (suc (suc (suc (suc (suc (suc (suc (suc (suc (suc zero)))))))))))))) b y = (l : ℕ) × (k : ℕ) × (count : ℕ) × (len : ℕ) × (y ≡ action.Start l k owner.Resub count len) × MayRepeat b l k count len
OfRank (suc (suc (suc (suc (suc (suc (suc (suc (suc (suc (suc (suc (suc (suc (suc zero))))))))))))))) b y = (t : ℕ) × (ms : ℕ) × (what : Purpose) × (y ≡ action.Timer t ms what) × MayTimeRenewal b t ms what
OfRank (suc (suc (suc (suc (suc (suc (suc (suc (suc (suc (suc (suc (suc (suc (suc (suc zero)))))))))))))))) b y = (l : ℕ) × (k : ℕ) × (count : ℕ) × (len : ℕ) × (y ≡ action.Start l k owner.Auth count len) × MayRenew b l k count len
OfRank (suc (suc (suc (suc (suc (suc (suc (suc (suc (suc (suc (suc (suc (suc (suc (suc (suc zero))))))))))))))))) b y = IsMoving b y
OfRank (suc (suc (suc (suc (suc (suc (suc (suc (suc (suc (suc (suc (suc (suc (suc (suc (suc (suc zero)))))))))))))))))) b y = (l : ℕ) × (bytes : List ℕ) × (y ≡ action.Write l bytes) × MayWrite b l bytes
OfRank (suc (suc (suc (suc (suc (suc (suc (suc (suc (suc (suc (suc (suc (suc (suc (suc (suc (suc (suc zero))))))))))))))))))) b y = (n : ℕ) × (kind : WaitKind) × (y ≡ action.Wait (owner.Try n 0) kind) × MayWait b n kind
OfRank (suc (suc (suc (suc (suc (suc (suc (suc (suc (suc (suc (suc (suc (suc (suc (suc (suc (suc (suc (suc more)))))))))))))))))))) b y = (k : ℕ) × (e : Event) × (y ≡ action.Turn k (cause.Event e)) × (k ≡ b.turns)

-- an outcome that is owed is of its rank
answer_of_rank : (b : Book) (n : ℕ) (o : Outcome) (over : Bool) → is_over (link_of b n) ≡ over → MayAnswer b n o → OfRank (answer_rank over) b (action.Outcome n o)
answer_of_rank b n o false e may = inl (n, o, refl, e, may)
answer_of_rank b n o true e may = (n, o, refl, e, may)

-- so is any outcome
outcome_of_rank : (b : Book) (n : ℕ) (o : Outcome) (may : MayAnswer b n o ⊎ MayTell b n o) → OfRank (outcome_rank b n o may) b (action.Outcome n o)
outcome_of_rank b n o (inl owes) = answer_of_rank b n o (is_over (link_of b n)) refl owes
outcome_of_rank b n o (inr told) = tell_moving b n o told

-- so is the creation
creation_of_rank : (b : Book) (e : Option RedisError) (may : MayShowCreation b e) → OfRank (creation_rank b e may) b (action.Created e)
creation_of_rank b None (inl may) = inr (inl (refl, may))
creation_of_rank b None (inr may) = (refl, may)
creation_of_rank b (Some e) may = (e, refl, may)

-- and a push
push_of_rank : (b : Book) (l : ℕ) (info : PushInfo) (disconnects : Bool) → is_disconnection info.kind ≡ disconnects → MayPushBy disconnects b l info → OfRank (push_rank disconnects) b (action.Push l info)
push_of_rank b l info false e may = inr (inr (inl (l, notice.Push info, refl, may)))
push_of_rank b l info true e may = (l, info, refl, e, may)

-- and a timer
timer_of_rank : (b : Book) (t ms : ℕ) (what : Purpose) (may : MayTimer b t ms what) → OfRank (timer_rank b t ms what may) b (action.Timer t ms what)
timer_of_rank b t ms what (inl (inl may)) = (t, ms, what, refl, may)
timer_of_rank b t ms what (inl (inr may)) = (t, ms, what, refl, may)
timer_of_rank b t ms what (inr (inl may)) = ask_moving b t ms what may
timer_of_rank b t ms what (inr (inr (inl may))) = (t, ms, what, refl, may)
timer_of_rank b t ms what (inr (inr (inr may))) = (t, ms, what, refl, may)

-- each action that may stand is of its rank
pub of_rank : (b : Book) (y : Action) (may : MayStand b y) → OfRank (rank b y may) b y
of_rank b (action.Turn k (cause.Opening config word)) may = (k, config, word, refl, may.next)
of_rank b (action.Connect l host port) may = (l, host, port, refl, may)
of_rank b (action.Timer t ms what) may = timer_of_rank b t ms what may
of_rank b (action.Took owner.Setup l count) may = absurd may
of_rank b (action.Took owner.Auth l count) may = absurd may
of_rank b (action.Took owner.Resub l count) may = absurd may
of_rank b (action.Took owner.Monitor l count) may = absurd may
of_rank b (action.Took (owner.Try n round) l count) may = subst (λ r. IsMoving b (action.Took (owner.Try n r) l count)) (sym may.0) (take_moving b n l count may.1)
of_rank b (action.Outcome n o) may = outcome_of_rank b n o may
of_rank b (action.Push l info) may = push_of_rank b l info (is_disconnection info.kind) refl may
of_rank b (action.Message msg) may = inr (inr (inl (b.current, notice.Message msg, refl, may)))
of_rank b (action.Monitor v) may = inr (inr (inl (b.current, notice.Monitor v, refl, may)))
of_rank b (action.NeedCreds c l) may = inr (inr (inr (c, l, refl, may)))
of_rank b (action.Generation g) may = (g, refl, may)
of_rank b (action.Round owner.Setup on) may = absurd may
of_rank b (action.Round owner.Auth on) may = absurd may
of_rank b (action.Round owner.Resub on) may = absurd may
of_rank b (action.Round owner.Monitor on) may = absurd may
of_rank b (action.Round (owner.Try n round) on) may = subst (λ r. IsMoving b (action.Round (owner.Try n r) on)) (sym may.0) (round_moving b n on may.1)
of_rank b (action.Close l) may = (l, refl, may)
of_rank b (action.Created e) may = creation_of_rank b e may
of_rank b (action.Start l k owner.Setup count len) may = (l, k, count, len, refl, may)
of_rank b (action.Start l k owner.Auth count len) may = (l, k, count, len, refl, may)
of_rank b (action.Start l k owner.Resub count len) may = (l, k, count, len, refl, may)
of_rank b (action.Start l k owner.Monitor count len) may = (l, k, count, len, refl, may)
of_rank b (action.Start l k (owner.Try n round) count len) may = subst (λ r. IsMoving b (action.Start l k (owner.Try n r) count len)) (sym may.0) (start_moving b l k n count len may.1)
of_rank b (action.Write l bytes) may = (l, bytes, refl, may)
of_rank b (action.Wait owner.Setup kind) may = absurd may
of_rank b (action.Wait owner.Auth kind) may = absurd may
of_rank b (action.Wait owner.Resub kind) may = absurd may
of_rank b (action.Wait owner.Monitor kind) may = absurd may
of_rank b (action.Wait (owner.Try n round) kind) may = (n, kind, ap (λ r. action.Wait (owner.Try n r) kind) may.0, may.1)
of_rank b (action.Turn k (cause.Event e)) may = (k, e, refl, may.next)

-- an outcome that values gave and that a link is ready don't both stand
answer_or_created : (b : Book) (n : ℕ) (o : Outcome) → is_over (link_of b n) ≡ false → MayAnswer b n o → MayBeCreated b → ⊥
answer_or_created b n o e p q = not_none (owed b n) o (q.answered n p.asked e) p.owes

-- the current link is the one of which something waits to be told
pub told_is_current : (b : Book) (l : ℕ) (what : Notice) → Sound b → MayNotify b l what → l ≡ b.current
told_is_current b l what h q = up_is_current b l h (h.waits l q.is_heard q.heard q.next)

-- so open submissions go to it
pub on_its_link : (b : Book) (n l : ℕ) (what : Notice) → Sound b → IsOpen b n → MayNotify b l what → (b.story n).link ≡ l
on_its_link b n l what h o q = (h.goes n).open_on o ∙ sym (told_is_current b l what h q)

-- nor do an outcome and what is told
answer_or_notice : (b : Book) (n : ℕ) (o : Outcome) (l : ℕ) (what : Notice) → Sound b → MayAnswer b n o → MayNotify b l what → ⊥
answer_or_notice b n o l what h p q =
    let same : (b.story n).link ≡ l = on_its_link b n l what h p.asked q in
    q.answered n p.asked same (p.after_notices q.is_heard q.heard (ap (λ j. next_notice (b.link j)) same ∙ q.next))

-- nor that and that a link is ready
notice_or_created : (b : Book) (l : ℕ) (what : Notice) → MayNotify b l what → MayBeCreated b → ⊥
notice_or_created b l what p q = p.created q.l q.ready q.once

-- nor a source and an outcome that values gave
need_or_answer : (b : Book) (c l n : ℕ) (o : Outcome) → is_over (link_of b n) ≡ false → MayNeed b c l → MayAnswer b n o → ⊥
need_or_answer b c l n o e p q = not_none (owed b n) o (p.answered n q.asked e) q.owes

-- nor a source and that a link is ready
need_or_created : (b : Book) (c l : ℕ) → MayNeed b c l → MayBeCreated b → ⊥
need_or_created b c l p q = p.created q.l q.ready q.once

-- nor a source and what is told
need_or_notice : (b : Book) (c l m : ℕ) (what : Notice) → MayNeed b c l → MayNotify b m what → ⊥
need_or_notice b c l m what p q = not_both (source_due (b.link l)) (q.sourced l) p.due

-- beside an outcome that values gave
beside_verdict : (b : Book) (n : ℕ) (o : Outcome) (y : Action) → Sound b → is_over (link_of b n) ≡ false → MayAnswer b n o → IsOfValues b y → AreOne (action.Outcome n o) y
beside_verdict b n o y h e p (inl q) = inl (one_answer b n q.0 o q.1 false e q.3 p q.4 ∙ sym q.2)
beside_verdict b n o y h e p (inr (inl q)) = absurd (answer_or_created b n o e p q.1)
beside_verdict b n o y h e p (inr (inr (inl q))) = absurd (answer_or_notice b n o q.0 q.1 h p q.3)
beside_verdict b n o y h e p (inr (inr (inr q))) = absurd (need_or_answer b q.0 q.1 n o e q.3 p)

-- beside an outcome that is owed, another action of its rank
beside_answer : (b : Book) (n : ℕ) (o : Outcome) (y : Action) (over : Bool) → Sound b → is_over (link_of b n) ≡ over → MayAnswer b n o → OfRank (answer_rank over) b y → AreOne (action.Outcome n o) y
beside_answer b n o y false h e p q = beside_verdict b n o y h e p q
beside_answer b n o y true h e p q = inl (one_answer b n q.0 o q.1 true e q.3 p q.4 ∙ sym q.2)

-- beside any outcome
beside_outcome : (b : Book) (n : ℕ) (o : Outcome) (y : Action) (p : MayAnswer b n o ⊎ MayTell b n o) → Sound b → OfRank (outcome_rank b n o p) b y → AreOne (action.Outcome n o) y
beside_outcome b n o y (inl p) h q = beside_answer b n o y (is_over (link_of b n)) h refl p q
beside_outcome b n o y (inr p) h q = inl (one_moving b (action.Outcome n o) y (tell_moving b n o p) q)

-- beside that a link is ready
beside_ready : (b : Book) (y : Action) → MayBeCreated b → IsOfValues b y → AreOne (action.Created None) y
beside_ready b y p (inl q) = absurd (answer_or_created b q.0 q.1 q.3 q.4 p)
beside_ready b y p (inr (inl q)) = inl (sym q.0)
beside_ready b y p (inr (inr (inl q))) = absurd (notice_or_created b q.0 q.1 q.3 p)
beside_ready b y p (inr (inr (inr q))) = absurd (need_or_created b q.0 q.1 q.3 p)

-- beside what tells what came
beside_telling : (b : Book) (l : ℕ) (what : Notice) (y : Action) → Sound b → MayNotify b l what → IsOfValues b y → AreOne (telling_of l what) y
beside_telling b l what y h p (inl q) = absurd (answer_or_notice b q.0 q.1 l what h q.4 p)
beside_telling b l what y h p (inr (inl q)) = absurd (notice_or_created b l what p q.1)
beside_telling b l what y h p (inr (inr (inl q))) = inl (one_notice b l q.0 what q.1 p q.3 ∙ sym q.2)
beside_telling b l what y h p (inr (inr (inr q))) = absurd (need_or_notice b q.0 q.1 l what q.3 p)

-- beside a source of credentials
beside_need : (b : Book) (c l : ℕ) (y : Action) → MayNeed b c l → IsOfValues b y → AreOne (action.NeedCreds c l) y
beside_need b c l y p (inl q) = absurd (need_or_answer b c l q.0 q.1 q.3 p q.4)
beside_need b c l y p (inr (inl q)) = absurd (need_or_created b c l p q.1)
beside_need b c l y p (inr (inr (inl q))) = absurd (need_or_notice b c l q.0 q.1 p q.3)
beside_need b c l y p (inr (inr (inr q))) = inl (one_need b c q.0 l q.1 p q.3 ∙ sym q.2)

-- beside any push
beside_push : (b : Book) (l : ℕ) (info : PushInfo) (y : Action) (disconnects : Bool) → Sound b → is_disconnection info.kind ≡ disconnects → MayPushBy disconnects b l info → OfRank (push_rank disconnects) b y → AreOne (action.Push l info) y
beside_push b l info y false h e p q = beside_telling b l (notice.Push info) y h p q
beside_push b l info y true h e p q = inl (one_part b l q.0 info q.1 e q.3 p q.4 ∙ sym q.2)

-- beside the creation
beside_creation : (b : Book) (e : Option RedisError) (y : Action) (may : MayShowCreation b e) → OfRank (creation_rank b e may) b y → AreOne (action.Created e) y
beside_creation b None y (inl p) q = beside_ready b y p q
beside_creation b None y (inr p) q = inl (sym q.0)
beside_creation b (Some e) y p q = inl (ap (λ x. action.Created (Some x)) (one_failure b e q.0 p q.2) ∙ sym q.1)

-- beside a timer
beside_timer : (b : Book) (t ms : ℕ) (what : Purpose) (y : Action) (p : MayTimer b t ms what) → OfRank (timer_rank b t ms what p) b y → AreOne (action.Timer t ms what) y
beside_timer b t ms what y (inl (inl p)) q = inl (one_timer b t q.0 ms q.1 what q.2 p q.4 ∙ sym q.3)
beside_timer b t ms what y (inl (inr p)) q = inl (one_rest b t q.0 ms q.1 what q.2 p q.4 ∙ sym q.3)
beside_timer b t ms what y (inr (inl p)) q = inl (one_moving b (action.Timer t ms what) y (ask_moving b t ms what p) q)
beside_timer b t ms what y (inr (inr (inl p))) q = inl (one_renewal_timer b t q.0 ms q.1 what q.2 p q.4 ∙ sym q.3)
beside_timer b t ms what y (inr (inr (inr p))) q = inl (one_repeat_timer b t q.0 ms q.1 what q.2 p q.4 ∙ sym q.3)

-- beside each
pub beside : (b : Book) (x y : Action) (p : MayStand b x) → Sound b → OfRank (rank b x p) b y → AreOne x y
beside b (action.Turn j (cause.Opening config word)) y p h q = subst (AreOne (action.Turn j (cause.Opening config word))) (sym q.3) (inr (p.next ∙ sym q.4, tt))
beside b (action.Connect l host port) y p h q = inl (one_connect b l q.0 host q.1 port q.2 p q.4 ∙ sym q.3)
beside b (action.Timer t ms what) y p h q = beside_timer b t ms what y p q
beside b (action.Took owner.Setup l count) y p h q = absurd p
beside b (action.Took owner.Auth l count) y p h q = absurd p
beside b (action.Took owner.Resub l count) y p h q = absurd p
beside b (action.Took owner.Monitor l count) y p h q = absurd p
beside b (action.Took (owner.Try n round) l count) y p h q = subst (λ r. AreOne (action.Took (owner.Try n r) l count) y) (sym p.0) (inl (one_moving b (action.Took (owner.Try n 0) l count) y (take_moving b n l count p.1) q))
beside b (action.Outcome n o) y p h q = beside_outcome b n o y p h q
beside b (action.Push l info) y p h q = beside_push b l info y (is_disconnection info.kind) h refl p q
beside b (action.Message msg) y p h q = beside_telling b b.current (notice.Message msg) y h p q
beside b (action.Monitor v) y p h q = beside_telling b b.current (notice.Monitor v) y h p q
beside b (action.NeedCreds c l) y p h q = beside_need b c l y p q
beside b (action.Generation g) y p h q = inl (one_generation b g q.0 p q.2 ∙ sym q.1)
beside b (action.Round owner.Setup on) y p h q = absurd p
beside b (action.Round owner.Auth on) y p h q = absurd p
beside b (action.Round owner.Resub on) y p h q = absurd p
beside b (action.Round owner.Monitor on) y p h q = absurd p
beside b (action.Round (owner.Try n round) on) y p h q = subst (λ r. AreOne (action.Round (owner.Try n r) on) y) (sym p.0) (inl (one_moving b (action.Round (owner.Try n 0) on) y (round_moving b n on p.1) q))
beside b (action.Close l) y p h q = inl (one_close b l q.0 p q.2 ∙ sym q.1)
beside b (action.Created e) y p h q = beside_creation b e y p q
beside b (action.Start l k owner.Setup count len) y p h q = inl (one_setup b l q.0 k q.1 count q.2 len q.3 p q.5 ∙ sym q.4)
beside b (action.Start l k owner.Auth count len) y p h q = inl (one_renewal b l q.0 k q.1 count q.2 len q.3 p q.5 ∙ sym q.4)
beside b (action.Start l k owner.Resub count len) y p h q = inl (one_repeat b l q.0 k q.1 count q.2 len q.3 p q.5 ∙ sym q.4)
beside b (action.Start l k owner.Monitor count len) y p h q = inl (one_watch b l q.0 k q.1 count q.2 len q.3 p q.5 ∙ sym q.4)
beside b (action.Start l k (owner.Try n round) count len) y p h q = subst (λ r. AreOne (action.Start l k (owner.Try n r) count len) y) (sym p.0) (inl (one_moving b (action.Start l k (owner.Try n 0) count len) y (start_moving b l k n count len p.1) q))
beside b (action.Write l bytes) y p h q = inl (one_write b l q.0 bytes q.1 p q.3 ∙ sym q.2)
beside b (action.Wait owner.Setup kind) y p h q = absurd p
beside b (action.Wait owner.Auth kind) y p h q = absurd p
beside b (action.Wait owner.Resub kind) y p h q = absurd p
beside b (action.Wait owner.Monitor kind) y p h q = absurd p
beside b (action.Wait (owner.Try n round) kind) y p h q = subst (λ r. AreOne (action.Wait (owner.Try n r) kind) y) (sym p.0) (inl (one_wait b n q.0 kind q.1 p.1 q.3 ∙ sym q.2))
beside b (action.Turn j (cause.Event e)) y p h q = subst (AreOne (action.Turn j (cause.Event e))) (sym q.2) (inr (p.next ∙ sym q.3, tt))

-- so that one is next
pub one_is_next : (b : Book) → Sound b → OneIsNext b
one_is_next b h x y p q = beside b x y p h (subst (λ k. OfRank k b y) (sym (same_rank b x y p q h)) (of_rank b y q))

-- so behind actions that may stand
pub one_is_next_behind : (front : List Action) → OneIsNextBehind front
one_is_next_behind front all = one_is_next (book front) (sound_behind front all)
