-- What turns show, but for one submission's outcomes.
use Rattle.std.proofs.Common.{◌≡◌, ℕ, ◌+◌, ◌<◌, ◌==◌, Bool, true, false, List, [], ◌∷◌, ◌++◌, length, if◌then◌else◌, refl, sym, ap, ◌∙◌, append_assoc, arith, is_some, Option, Some, None}
use Rattle.driver_model.specs.declared.action.Action.{Action}
use Rattle.driver_model.specs.declared.action.Action.TheVariants as action
use Rattle.driver_model.specs.declared.action.Cause.TheVariants as cause
use Rattle.driver_model.specs.declared.event.Event.{Event}
use Rattle.driver_model.specs.declared.event.EventKind.{EventKind}
use Rattle.driver_model.specs.declared.outcome.Outcome.{Outcome}
use Rattle.mux_conn.specs.declared.act.LinkAct.{LinkAct}
use Rattle.mux_conn.specs.declared.act.LinkAct.TheVariants as act
use Rattle.single_session.specs.declared.core_state.Core.{Core}
use Rattle.single_session.specs.declared.generations.Comeback.{Comeback}
use Rattle.single_session.specs.declared.generations.Comeback.TheVariants as comeback
use Rattle.single_session.specs.declared.generations.Generations.{Generations}
use Rattle.single_session.specs.Generations.{comeback_shown_in, connect_timed}
use Rattle.single_session.specs.Turn.{Turning, work_of, counted, effect, source_of, timer_of, shown, shown_each, shown_behind, comeback_by, last_acts, actions_of, next_turn}
use Rattle.single_session.proofs.Plain.{plain_effects}
use Rattle.single_session.specs.Replay.{run_on, turns_on}
use Rattle.cancel_laws.specs.ButFor.{unnumbered, all_unnumbered, shown_of, but_for}
use Rattle.containers.proofs.Choices.{chosen}
use Rattle.conn_laws.proofs.Changes.Kept.{At}
use Rattle.cancel_laws.proofs.KeptTurns.{AtCore, effect_kept}
use Rattle.cancel_laws.proofs.Whole.{turn_silent, last_silent}
use Rattle.conn_laws.proofs.Changes.Bare.{other_acts}
use Rattle.cancel_laws.proofs.Turns.{above, more_after, AreAlike, turns_same, alike_turn, plain_too}
use Rattle.conn_laws.proofs.Changes.Silent.{IsSilent, silent_kept, silent_asks}

-- lists
--
-- actions one after another
pub but_for-append : (n : ℕ) (xs ys : List Action) → but_for n (xs ++ ys) ≡ but_for n xs ++ but_for n ys
but_for-append n [] ys = refl
but_for-append n (a ∷ xs) ys = ap (λ (zs : List Action). shown_of n a ++ zs) (but_for-append n xs ys) ∙ sym (append_assoc (shown_of n a) (but_for n xs) (but_for n ys))

-- without their numbers
pub unnumbered-append : (xs ys : List Action) → all_unnumbered (xs ++ ys) ≡ all_unnumbered xs ++ all_unnumbered ys
unnumbered-append [] ys = refl
unnumbered-append (x ∷ xs) ys = ap (λ (zs : List Action). unnumbered x ∷ zs) (unnumbered-append xs ys)

-- acts, and what they show
--
-- an outcome, which asks for no timer, and for no source of credentials
outcome_shown : (n l count c m : ℕ) (o : Outcome) (xs : List LinkAct) (b : Bool) → but_for n (shown_each l (count + 0) (c + 0) xs) ≡ shown_each l (count + 0) (c + 0) (other_acts n xs)
    → (if b then [] else action.Outcome m o ∷ []) ++ but_for n (shown_each l (count + 0) (c + 0) xs) ≡ shown_each l count c ((if b then [] else act.Outcome m o ∷ []) ++ other_acts n xs)
outcome_shown n l count c m o xs true h =
    let timers : count + 0 ≡ count = omega arith in
    let sources : c + 0 ≡ c = omega arith in
    h ∙ (λ i. shown_each l (timers i) (sources i) (other_acts n xs))
outcome_shown n l count c m o xs false h = ap (λ (ys : List Action). action.Outcome m o ∷ ys) h

-- all acts
but_for_shown : (n l count c : ℕ) (xs : List LinkAct) → but_for n (shown_each l count c xs) ≡ shown_each l count c (other_acts n xs)
but_for_shown n l count c [] = refl
but_for_shown n l count c (act.Created e ∷ xs) = ap (λ (ys : List Action). action.Created e ∷ ys) (but_for_shown n l (count + 0) (c + 0) xs)
but_for_shown n l count c (act.Round m ∷ xs) = ap (λ (ys : List Action). shown l count c (act.Round m) ∷ ys) (but_for_shown n l (count + 0) (c + 0) xs)
but_for_shown n l count c (act.Took m permits ∷ xs) = ap (λ (ys : List Action). shown l count c (act.Took m permits) ∷ ys) (but_for_shown n l (count + 0) (c + 0) xs)
but_for_shown n l count c (act.Timer m ms ∷ xs) = ap (λ (ys : List Action). shown l count c (act.Timer m ms) ∷ ys) (but_for_shown n l (count + 1) (c + 0) xs)
but_for_shown n l count c (act.RenewalTimer k ms ∷ xs) = ap (λ (ys : List Action). shown l count c (act.RenewalTimer k ms) ∷ ys) (but_for_shown n l (count + 1) (c + 0) xs)
but_for_shown n l count c (act.RepeatTimer ms ∷ xs) = ap (λ (ys : List Action). shown l count c (act.RepeatTimer ms) ∷ ys) (but_for_shown n l (count + 1) (c + 0) xs)
but_for_shown n l count c (act.Push info ∷ xs) = ap (λ (ys : List Action). action.Push l info ∷ ys) (but_for_shown n l (count + 0) (c + 0) xs)
but_for_shown n l count c (act.Message m ∷ xs) = ap (λ (ys : List Action). action.Message m ∷ ys) (but_for_shown n l (count + 0) (c + 0) xs)
but_for_shown n l count c (act.Monitor v ∷ xs) = ap (λ (ys : List Action). action.Monitor v ∷ ys) (but_for_shown n l (count + 0) (c + 0) xs)
but_for_shown n l count c (act.NeedCreds ∷ xs) = ap (λ (ys : List Action). action.NeedCreds c l ∷ ys) (but_for_shown n l (count + 0) (c + 1) xs)
but_for_shown n l count c (act.NeedRenewals ∷ xs) = ap (λ (ys : List Action). action.NeedCreds c l ∷ ys) (but_for_shown n l (count + 0) (c + 1) xs)
but_for_shown n l count c (act.Close ∷ xs) = ap (λ (ys : List Action). action.Close l ∷ ys) (but_for_shown n l (count + 0) (c + 0) xs)
but_for_shown n l count c (act.Write bytes ∷ xs) = ap (λ (ys : List Action). action.Write l bytes ∷ ys) (but_for_shown n l (count + 0) (c + 0) xs)
but_for_shown n l count c (act.Wait m kind ∷ xs) = ap (λ (ys : List Action). shown l count c (act.Wait m kind) ∷ ys) (but_for_shown n l (count + 0) (c + 0) xs)
but_for_shown n l count c (act.Start message m need len ∷ xs) = ap (λ (ys : List Action). shown l count c (act.Start message m need len) ∷ ys) (but_for_shown n l (count + 0) (c + 0) xs)
but_for_shown n l count c (act.SetUp message need len ∷ xs) = ap (λ (ys : List Action). shown l count c (act.SetUp message need len) ∷ ys) (but_for_shown n l (count + 0) (c + 0) xs)
but_for_shown n l count c (act.Renewed message need len ∷ xs) = ap (λ (ys : List Action). shown l count c (act.Renewed message need len) ∷ ys) (but_for_shown n l (count + 0) (c + 0) xs)
but_for_shown n l count c (act.Repeated message need len ∷ xs) = ap (λ (ys : List Action). shown l count c (act.Repeated message need len) ∷ ys) (but_for_shown n l (count + 0) (c + 0) xs)
but_for_shown n l count c (act.Watch message need len ∷ xs) = ap (λ (ys : List Action). shown l count c (act.Watch message need len) ∷ ys) (but_for_shown n l (count + 0) (c + 0) xs)
but_for_shown n l count c (act.Outcome m o ∷ xs) = outcome_shown n l count c m o xs (m == n) (but_for_shown n l (count + 0) (c + 0) xs)

-- no act shows the number of a turn
numberless : (l count c : ℕ) (xs : List LinkAct) → all_unnumbered (shown_each l count c xs) ≡ shown_each l count c xs
numberless l count c [] = refl
numberless l count c (a ∷ xs) =
    let more = count + length (timer_of l a) in
    let later = c + length (source_of l a) in
    ap (λ (b : Action). b ∷ all_unnumbered (shown_each l more later xs)) (one_numberless a) ∙ ap (λ (ys : List Action). shown l count c a ∷ ys) (numberless l more later xs)
  where
    one_numberless : (a : LinkAct) → unnumbered (shown l count c a) ≡ shown l count c a
    one_numberless (act.Created e) = refl
    one_numberless (act.Round m) = refl
    one_numberless (act.Took m permits) = refl
    one_numberless (act.Timer m ms) = refl
    one_numberless (act.Push info) = refl
    one_numberless (act.Message m) = refl
    one_numberless (act.Monitor v) = refl
    one_numberless act.NeedCreds = refl
    one_numberless act.NeedRenewals = refl
    one_numberless act.Close = refl
    one_numberless (act.Write bytes) = refl
    one_numberless (act.Wait m kind) = refl
    one_numberless (act.Start message m need len) = refl
    one_numberless (act.SetUp message need len) = refl
    one_numberless (act.RenewalTimer k ms) = refl
    one_numberless (act.Renewed message need len) = refl
    one_numberless (act.RepeatTimer ms) = refl
    one_numberless (act.Repeated message need len) = refl
    one_numberless (act.Watch message need len) = refl
    one_numberless (act.Outcome m o) = refl

-- alike sessions show the same
--
-- one turn
acts_alike : (n p : ℕ) (c d : Core) (e : Event) → AreAlike n p c d → but_for n (actions_of c e) ≡ but_for n (actions_of d e)
acts_alike n p c d e h =
    let xs = ap (λ (t : Turning). t.acts) (turns_same n p c d e.kind h) in
    let l = ap (λ (x : Core). x.single.link) h.same in
    let k = ap (λ (x : Core). length x.timers) h.same in
    let u = ap (λ (x : Core). length x.sources) h.same in
    ap (λ (ys : List Action). action.Turn 0 (cause.Event e) ∷ ys)
    (ap (but_for n) (plain_effects c e h.plain) ∙ but_for_shown n c.single.link (length c.timers) (length c.sources) (next_turn c e.kind).acts ∙ (λ i. shown_each (l i) (k i) (u i) (xs i))
    ∙ sym (ap (but_for n) (plain_effects d e (plain_too n p c d h)) ∙ but_for_shown n d.single.link (length d.timers) (length d.sources) (next_turn d e.kind).acts))

-- and more of them
pub shown_alike : (n p : ℕ) (c d : Core) (es : List Event) → AreAlike n p c d → but_for n (turns_on c es) ≡ but_for n (turns_on d es)
shown_alike n p c d [] h = refl
shown_alike n p c d (e ∷ es) h =
    let after = turns_on (next_turn c e.kind).core es in
    let after_too = turns_on (next_turn d e.kind).core es in
    but_for-append n (actions_of c e) after ∙ ap (λ (xs : List Action). xs ++ but_for n after) (acts_alike n p c d e h)
    ∙ ap (λ (ys : List Action). but_for n (actions_of d e) ++ ys) (shown_alike n p (next_turn c e.kind).core (next_turn d e.kind).core es (alike_turn n p c d e.kind h))
    ∙ sym (but_for-append n (actions_of d e) after_too)

-- and they stay alike
pub alike_on : (n p : ℕ) (c d : Core) (es : List Event) → AreAlike n p c d → AreAlike n p (run_on c es) (run_on d es)
alike_on n p c d [] h = h
alike_on n p c d (e ∷ es) h = alike_on n p (next_turn c e.kind).core (next_turn d e.kind).core es (alike_turn n p c d e.kind h)

-- acts without an outcome of submission n show none
acts_unshown : (n l k u : ℕ) (xs : List LinkAct) → other_acts n xs ≡ xs → but_for n (shown_each l k u xs) ≡ all_unnumbered (shown_each l k u xs)
acts_unshown n l k u xs none = but_for_shown n l k u xs ∙ ap (shown_each l k u) none ∙ sym (numberless l k u xs)

-- nor does a manager show one of its own
--
-- the timer of a connect
timed_unshown : (n l timer : ℕ) (bound : Option ℕ) → but_for n (connect_timed l timer bound) ≡ all_unnumbered (connect_timed l timer bound)
timed_unshown n l timer None = refl
timed_unshown n l timer (Some ms) = refl

-- and all of it
comeback_unshown : (n : ℕ) (m : Option Generations) (word : ℕ) (what : Comeback) → but_for n (comeback_shown_in m word what) ≡ all_unnumbered (comeback_shown_in m word what)
comeback_unshown n None word what = refl
comeback_unshown n (Some g) word comeback.Stays = refl
comeback_unshown n (Some g) word (comeback.Rests number attempt timer) = refl
comeback_unshown n (Some g) word (comeback.Dials l None timer) = ap (λ (ys : List Action). action.Connect l g.info.host g.info.port ∷ ys) (timed_unshown n l timer g.settings.connection.connection_timeout)
comeback_unshown n (Some g) word (comeback.Dials l (Some number) timer) =
    ap (λ (ys : List Action). action.Generation number ∷ action.Connect l g.info.host g.info.port ∷ ys) (timed_unshown n l timer g.settings.connection.connection_timeout)

-- where neither list shows one, both don't
both_unshown : (n : ℕ) (xs ys : List Action) → but_for n xs ≡ all_unnumbered xs → but_for n ys ≡ all_unnumbered ys → but_for n (xs ++ ys) ≡ all_unnumbered (xs ++ ys)
both_unshown n xs ys e h = but_for-append n xs ys ∙ (λ i. e i ++ h i) ∙ sym (unnumbered-append xs ys)

-- so a turn without one shows none
pub unshown_acts : (n : ℕ) (c : Core) (e : Event) → other_acts n (next_turn c e.kind).acts ≡ (next_turn c e.kind).acts → other_acts n (last_acts c e.kind) ≡ last_acts c e.kind → but_for n (actions_of c e) ≡ all_unnumbered (actions_of c e)
unshown_acts n c e none later =
    let next = (next_turn c e.kind).core in
    let acts = shown_each c.single.link (length c.timers) (length c.sources) (next_turn c e.kind).acts in
    let back = comeback_shown_in next.manager e.word (comeback_by c e.kind) in
    let last = shown_behind next (last_acts c e.kind) in
    let first : but_for n acts ≡ all_unnumbered acts = acts_unshown n c.single.link (length c.timers) (length c.sources) (next_turn c e.kind).acts none in
    ap (λ (ys : List Action). action.Turn 0 (cause.Event e) ∷ ys)
    (chosen (λ (xs : List Action). but_for n xs ≡ all_unnumbered xs) (is_some c.manager) (acts ++ (back ++ last)) acts
    (λ t. both_unshown n acts (back ++ last) first
    (both_unshown n back last (comeback_unshown n next.manager e.word (comeback_by c e.kind)) (acts_unshown n next.single.link (length next.timers) (length next.sources) (last_acts c e.kind) later)))
    (λ f. first))

-- and one in which the request is cancelled shows no outcome of its submission
--
-- it is silent behind the event
silent_effect : (n p : ℕ) (c : Core) (kind : EventKind) → n < length c.table → AtCore (IsSilent n p) c → At (IsSilent n p) (work_of (effect (counted c) kind))
silent_effect n p c kind l h = effect_kept (silent_kept n p) (counted c) (silent_asks n p (length c.table) (above n c.table l)) kind h

-- which shows no outcome of its own
silent_acts : (n p : ℕ) (c : Core) (e : Event) → n < length c.table → AtCore (IsSilent n p) c → but_for n (actions_of c e) ≡ all_unnumbered (actions_of c e)
silent_acts n p c e l h = let s = silent_effect n p c e.kind l h in unshown_acts n c e (turn_silent c e.kind n p s).unshown (last_silent c e.kind n p s)

-- so it is silent when the next one begins
silent_then : (n p : ℕ) (c : Core) (kind : EventKind) → n < length c.table → AtCore (IsSilent n p) c → AtCore (IsSilent n p) (next_turn c kind).core
silent_then n p c kind l h = let s = turn_silent c kind n p (silent_effect n p c kind l h) in record { there = s.there; own = s.own; closed = s.closed; unshown = refl }

-- and more turns show none
pub silent_shown : (n p : ℕ) (c : Core) (es : List Event) → n < length c.table → AtCore (IsSilent n p) c → but_for n (turns_on c es) ≡ all_unnumbered (turns_on c es)
silent_shown n p c [] l h = refl
silent_shown n p c (e ∷ es) l h = both_unshown n (actions_of c e) (turns_on (next_turn c e.kind).core es) (silent_acts n p c e l h) (silent_shown n p (next_turn c e.kind).core es (more_after n c e.kind l) (silent_then n p c e.kind l h))
