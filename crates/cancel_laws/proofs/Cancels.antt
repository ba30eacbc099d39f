-- Over whole histories, the cancel of a started request changes nothing but its own outcome.
use Rattle.std.proofs.Common.{◌≡◌, ◌≢◌, ℕ, ◌+◌, ◌<◌, nat_le, ◌||◌, Bool, true, false, List, [], ◌∷◌, ◌++◌, length, Option, Some, slice_get, refl, sym, ap, ◌∙◌, subst, append_assoc, arith, ◌==◌, ◌&&◌, is_some, None, inl, inr}
use Rattle.std.proofs.Math.Bool.{or-false}
use Rattle.std.proofs.lemmas.List.{append-nil}
use Rattle.containers.proofs.Choices.{chosen, not_le_test, not_both}
use Rattle.containers.proofs.Places.{get_within}
use Rattle.driver_model.specs.declared.action.Action.{Action}
use Rattle.driver_model.specs.declared.action.Action.TheVariants as action
use Rattle.driver_model.specs.declared.action.Cause.TheVariants as cause
use Rattle.driver_model.specs.declared.config.Config.{Config}
use Rattle.driver_model.specs.Config.{manager_of}
use Rattle.driver_model.specs.declared.event.Event.{Event}
use Rattle.driver_model.specs.declared.event.EventKind.{EventKind}
use Rattle.driver_model.specs.declared.event.EventKind.TheVariants as event
use Rattle.driver_model.specs.declared.outcome.Outcome.{Outcome}
use Rattle.mux_conn.specs.declared.connection.MultiplexedConnection.{MultiplexedConnection}
use Rattle.mux_conn.specs.declared.life.Life.{Life}
use Rattle.mux_conn.specs.declared.life.Life.TheVariants.{Resting, Dialing, Wanting, SettingUp, Ready, Ended}
use Rattle.mux_conn.specs.declared.request.Pending.{Pending}
use Rattle.mux_conn.specs.Requests.{if_there, is_open, is_waiting, is_admitted, is_open_at}
use Rattle.mux_conn.specs.Connection.{Work}
use Rattle.mux_conn.specs.Effects.{cancelled_in, left}
use Rattle.single_session.specs.declared.core_state.Core.{Core}
use Rattle.single_session.specs.Turn.{Turning, work_of, with_work, heard, left_by, counted, moved_on, numbered, exceeds_offer, is_bad, shown_each, actions_of, next_turn, effect}
use Rattle.single_session.specs.Replay.{opening_core, opening_actions, run_on, state_after, turns_on, trace_of, told_each, outcomes_in, outcome_at, is_bad_after}
use Rattle.single_session.proofs.Replays.{turns_after}
use Rattle.single_session.proofs.Plain.{plain_effects, plain_turn}
use Rattle.single_session.proofs.Stays.{turn_plain}
use Rattle.cancel_laws.specs.ButFor.{all_unnumbered, but_for, hushed_life}
use Rattle.cancel_laws.specs.Cancels.{cancel_of, HasStarted, GoesOn}
use Rattle.cancel_laws.specs.Laws.{HasNoLimit}
use Rattle.conn_laws.proofs.Changes.Requests.{names_count, own_closed}
use Rattle.conn_laws.proofs.Changes.Names.{own_of}
use Rattle.conn_laws.proofs.Changes.Links.{none_from}
use Rattle.conn_laws.proofs.Changes.Kept.{At, There, Unlimited, IsApart}
use Rattle.cancel_laws.proofs.KeptTurns.{AtCore, left_by_kept, turn_kept}
use Rattle.conn_laws.proofs.Changes.Gone.{NoneQueued, NoneInRow, NoneIs, IsAway, away_kept, IsHushed, hushed_kept, hushed_asks}
use Rattle.cancel_laws.proofs.Moved.{own_left}
use Rattle.conn_laws.proofs.Changes.Once.{IsOnce, silenced_once, row_once}
use Rattle.conn_laws.proofs.Changes.Rest.{nothing_moves, left_idle}
use Rattle.cancel_laws.proofs.Whole.{last_silent, turn_silent}
use Rattle.conn_laws.proofs.Changes.Silent.{IsSilent}
use Rattle.cancel_laws.proofs.Turns.{bare_core, above, more_after, AreAlike, turn_gone, turn_unlimited}
use Rattle.cancel_laws.proofs.Ready.{IsReady, ready_on, opening_ready, unlimited_after, IsNamed, named_on, opening_named, ready_named}
use Rattle.cancel_laws.proofs.Shown.{but_for-append, unnumbered-append, unshown_acts, shown_alike, alike_on, silent_shown}
use Rattle.cancel_laws.proofs.Outcomes.{told-append, all_told_unnumbered, erased, other_outcome, erased_told, none_told}
use Rattle.link_core.specs.declared.message.Entry.{Entry}
use Rattle.cancel_laws.proofs.Links.{quiet_stays}

-- the turn of the cancel
--
-- where submission n is request p, whose message isn't in the queue, and permits aren't counted, the turn of its cancel is the request's cancel
cancel_turn : (c : Core) (n : ℕ) (p : Pending) → AtCore Unlimited c → IsReady c → slice_get c.table n ≡ Some (Some p) → NoneQueued p.number c.single.connection.life
    → next_turn c (event.Cancel n) ≡ record { core = record c { turns = c.turns + 1; single = record c.single { connection = left c.single.connection p.number } }; acts = [] }
cancel_turn c n p unlimited r there none =
    let t = heard (counted c) (event.Cancel n) in
    let d = left_by t (Some (Some p)) in
    let shut = or-false c.shut in
    let timers = append-nil c.timers in
    let sources = append-nil c.sources in
    plain_turn c (event.Cancel n) r.plain
    ∙ ap (λ (who : Option (Option Pending)). numbered (moved_on (left_by t who))) there
    ∙ ap (λ (w : Work). numbered (with_work d w)) (nothing_moves (work_of d) (left_idle c.single.connection p.number unlimited none r.idle))
    ∙ (λ i. record { core = record c { turns = c.turns + 1; shut = shut i; timers = timers i; sources = sources i; single = record c.single { connection = left c.single.connection p.number } }; acts = [] })

-- a request has another number than the messages of the driver's own
started_apart : (n : ℕ) (c : Core) (h : HasStarted n c) → IsNamed c → IsApart h.pending.number
started_apart n c h r =
    let there = get_within c.single.connection.requests h.pending.number h.request h.known in
    λ q own e. elim own [
      | inl is ↦ omega (arith, e, is, there, r.named.fewer, names_count c.single.connection.requests, h.numbered)
      | inr is ↦ omega (arith, e, is, there, r.named.fewer, names_count c.single.connection.requests, h.numbered)
    ]

-- a started request is gone from the queue
started_none : (n : ℕ) (c : Core) (h : HasStarted n c) → NoneQueued h.pending.number c.single.connection.life
started_none n c h = let p = h.pending.number in subst (NoneQueued p) (sym h.up) (none_from p h.link.queue h.gone)

-- it is a submission
started_within : (n : ℕ) (c : Core) → HasStarted n c → n < length c.table
started_within n c h = get_within c.table n (Some h.pending) h.there

-- and it waits for nothing
started_away : (n : ℕ) (c : Core) (h : HasStarted n c) → IsNamed c → AtCore (IsAway n h.pending.number) c
started_away n c h r =
    let p = h.pending.number in
    record {
      gone = record {
        there = get_within c.single.connection.requests p h.request h.known;
        own = own_of n h.pending c.table _ r.named h.there;
        apart = started_apart n c h r;
        past = ap (if_there is_waiting) h.known ∙ ap is_waiting h.placed;
        seated = ap (if_there is_admitted) h.known ∙ ap is_admitted h.placed;
        none = started_none n c h;
      };
      unmoved = subst (NoneIs p) (sym r.idle.calm) tt;
    }

-- so its cancel's turn is its cancel
started_cancel : (n : ℕ) (c : Core) (h : HasStarted n c) → AtCore Unlimited c → IsReady c
    → next_turn c (event.Cancel n) ≡ record { core = record c { turns = c.turns + 1; single = record c.single { connection = left c.single.connection h.pending.number } }; acts = [] }
started_cancel n c h u r = cancel_turn c n h.pending u r h.there (started_none n c h)

-- it stays gone in the turn of its cancel
cancel_gone : (n : ℕ) (c : Core) (h : HasStarted n c) → IsReady c → AtCore (IsAway n h.pending.number) (next_turn c (event.Cancel n)).core
cancel_gone n c h r = turn_gone n h.pending.number c (event.Cancel n) r.plain (started_within n c h) (started_away n c h (ready_named c r))

-- and it is open
started_open : (n : ℕ) (c : Core) (h : HasStarted n c) → is_open_at c.single.connection.requests h.pending.number ≡ true
started_open n c h = ap (if_there is_open) h.known ∙ ap is_open h.placed

-- its cancel leads to a session that is alike
cancel_alike : (n : ℕ) (c : Core) (h : HasStarted n c) → AtCore Unlimited c → IsReady c → AreAlike n h.pending.number c (next_turn c (event.Cancel n)).core
cancel_alike n c h u r =
    let p = h.pending.number in
    let gone = started_away n c h (ready_named c r) in
    let within = started_within n c h in
    let own = own_left p c.single.connection gone.gone.none in
    record {
      plain = r.plain;
      same =
          ap (λ (x : MultiplexedConnection). record (bare_core p c) { single = record c.single { connection = x } }) (sym own)
          ∙ ap (λ (x : Turning). bare_core p x.core) (sym (started_cancel n c h u r));
      unlimited = u;
      unlimited_too = turn_unlimited c (event.Cancel n) r.plain u;
      within = within;
      within_too = more_after n c (event.Cancel n) within;
      gone = gone;
      gone_too = cancel_gone n c h r;
    }

-- a request that was left is closed
left_closed : (c : MultiplexedConnection) (p : ℕ) → is_open_at (left c p).requests p ≡ false
left_closed c p = chosen (λ (x : MultiplexedConnection). is_open_at x.requests p ≡ false) (is_open_at c.requests p) _ c (λ t. own_closed c.requests p) (λ f. f)

-- so it is silent behind its cancel
cancel_effect : (n : ℕ) (c : Core) (h : HasStarted n c) → IsNamed c → At (IsSilent n h.pending.number) (work_of (effect (counted c) (event.Cancel n)))
cancel_effect n c h r =
    let p = h.pending.number in
    let t = heard (counted c) (event.Cancel n) in
    let g : At (IsAway n p) (work_of (left_by t (Some (Some h.pending)))) = left_by_kept (away_kept n p) t (Some (Some h.pending)) (started_away n c h r) in
    let s : At (IsSilent n p) (work_of (left_by t (Some (Some h.pending)))) =
    record { there = g.gone.there; own = g.gone.own; closed = left_closed c.single.connection p; unshown = refl } in
    subst (λ (x : Option (Option Pending)). At (IsSilent n p) (work_of (left_by t x))) (sym h.there) s

-- and from then on
cancel_silent : (n : ℕ) (c : Core) (h : HasStarted n c) → IsNamed c → AtCore (IsSilent n h.pending.number) (next_turn c (event.Cancel n)).core
cancel_silent n c h r = let s = turn_silent c (event.Cancel n) n h.pending.number (cancel_effect n c h r) in record { there = s.there; own = s.own; closed = s.closed; unshown = refl }

-- nobody awaits what the link of a cancelled request has for it
left_quiet : (c : MultiplexedConnection) (p : ℕ) → is_open_at c.requests p ≡ true → NoneInRow p (cancelled_in c.life p) → NoneInRow p (left c p).life
left_quiet c p t h = chosen (λ (x : MultiplexedConnection). NoneInRow p x.life) (is_open_at c.requests p) _ c (λ u. h) (λ f. absurd (not_both (is_open_at c.requests p) f t))

-- so from the cancel on its verdict is not wanted
cancel_hushed : (n : ℕ) (c : Core) (h : HasStarted n c) → AtCore Unlimited c → IsReady c → AtCore (There (IsHushed n h.pending.number)) (next_turn c (event.Cancel n)).core
cancel_hushed n c h u r =
    let p = h.pending.number in
    let x = c.single.connection in
    let once : IsOnce p x.requests (Ready h.link) = subst (IsOnce p x.requests) h.up (r.once p (started_apart n c h (ready_named c r))) in
    let quiet : NoneInRow p (cancelled_in x.life p) =
    subst (λ (life : Life). NoneInRow p (cancelled_in life p)) (sym h.up) (silenced_once p h.link.row (row_once p x.requests h.link h.request once h.known)) in
    record {
      gone = (cancel_gone n c h r).gone;
      quiet = subst (λ (y : Turning). NoneInRow p y.core.single.connection.life) (sym (started_cancel n c h u r)) (left_quiet x p (started_open n c h) quiet);
    }

-- and never again
hushed_on : (n p : ℕ) (c : Core) (es : List Event) → is_some c.manager ≡ false → n < length c.table → AtCore (There (IsHushed n p)) c → AtCore (There (IsHushed n p)) (run_on c es)
hushed_on n p c [] plain l h = h
hushed_on n p c (e ∷ es) plain l h =
    hushed_on n p (next_turn c e.kind).core es (turn_plain c e.kind ∙ plain) (more_after n c e.kind l) (turn_kept (hushed_kept n p) c plain (hushed_asks n p (length c.table) (above n c.table l)) e.kind h)

-- the turn of the cancel shows nothing, where permits aren't counted
cancel_shows : (c : Core) (draw n : ℕ) (h : HasStarted n c) → AtCore Unlimited c → IsReady c → actions_of c (cancel_of draw n) ≡ action.Turn c.turns (cause.Event (cancel_of draw n)) ∷ []
cancel_shows c draw n h u r =
    ap (λ (xs : List Action). action.Turn c.turns (cause.Event (cancel_of draw n)) ∷ xs)
    (plain_effects c (cancel_of draw n) r.plain ∙ ap (λ (x : Turning). shown_each c.single.link (length c.timers) (length c.sources) x.acts) (started_cancel n c h u r))

-- histories
--
-- where events lead
run_on-append : (c : Core) (xs ys : List Event) → run_on c (xs ++ ys) ≡ run_on (run_on c xs) ys
run_on-append c [] ys = refl
run_on-append c (x ∷ xs) ys = run_on-append (next_turn c x.kind).core xs ys

-- and what their turns show
turns_on-append : (c : Core) (xs ys : List Event) → turns_on c (xs ++ ys) ≡ turns_on c xs ++ turns_on (run_on c xs) ys
turns_on-append c [] ys = refl
turns_on-append c (x ∷ xs) ys = ap (λ (zs : List Action). actions_of c x ++ zs) (turns_on-append (next_turn c x.kind).core xs ys) ∙ sym (append_assoc (actions_of c x) _ _)

-- where a history leads that goes on
pub state_split : (config : Config) (word : ℕ) (before after : List Event) → state_after config word (before ++ after) ≡ run_on (state_after config word before) after
unfolding state_after
state_split config word before after = run_on-append (opening_core config word) before after

-- and its trace
trace_split : (config : Config) (word : ℕ) (before after : List Event) → trace_of config word (before ++ after) ≡ trace_of config word before ++ turns_on (state_after config word before) after
unfolding state_after trace_of
trace_split config word before after =
    ap (λ (xs : List Action). opening_actions config word ++ xs) (turns_on-append (opening_core config word) before after)
    ∙ sym (append_assoc (opening_actions config word) (turns_on (opening_core config word) before) _)

-- what is true after each history
pub ready_after : (config : Config) (word : ℕ) (before : List Event) → manager_of config ≡ None → IsReady (state_after config word before)
unfolding state_after
ready_after config word before stays = ready_on (opening_core config word) before (opening_ready config word stays)

-- also where the session comes back
pub named_after : (config : Config) (word : ℕ) (before : List Event) → IsNamed (state_after config word before)
unfolding state_after
named_after config word before = named_on (opening_core config word) before (opening_named config word)

-- the number of the next turn
number_after : (config : Config) (word : ℕ) (before : List Event) → (state_after config word before).turns ≡ length before + 1
number_after config word before = omega (arith, turns_after config word before)

-- the two sessions are alike after all later events
alike_after : (config : Config) (word draw n : ℕ) (before after : List Event) → manager_of config ≡ None → HasNoLimit config → (h : HasStarted n (state_after config word before))
    → AreAlike n h.pending.number (state_after config word (before ++ after)) (state_after config word (before ++ cancel_of draw n ∷ after))
alike_after config word draw n before after stays free h =
    let c = state_after config word before in
    let p = h.pending.number in
    let d = (next_turn c (event.Cancel n)).core in
    let a = cancel_alike n c h (unlimited_after config word before stays free) (ready_after config word before stays) in
    subst (λ (x : Core). AreAlike n p x (state_after config word (before ++ cancel_of draw n ∷ after))) (sym (state_split config word before after))
    (subst (AreAlike n p (run_on c after)) (sym (state_split config word before (cancel_of draw n ∷ after))) (alike_on n p c d after a))

-- what the turns show, and what outcomes they tell
--
-- later turns show no outcome of the cancelled submission
silent_after : (config : Config) (word n : ℕ) (before after : List Event) (h : HasStarted n (state_after config word before))
    → but_for n (turns_on (next_turn (state_after config word before) (event.Cancel n)).core after) ≡ all_unnumbered (turns_on (next_turn (state_after config word before) (event.Cancel n)).core after)
silent_after config word n before after h =
    let c = state_after config word before in
    silent_shown n h.pending.number (next_turn c (event.Cancel n)).core after (more_after n c (event.Cancel n) (started_within n c h)) (cancel_silent n c h (named_after config word before))

-- nor does the turn of the cancel
silent_from : (config : Config) (word draw n : ℕ) (before after : List Event) (h : HasStarted n (state_after config word before))
    → but_for n (turns_on (state_after config word before) (cancel_of draw n ∷ after)) ≡ all_unnumbered (turns_on (state_after config word before) (cancel_of draw n ∷ after))
silent_from config word draw n before after h =
    let c = state_after config word before in
    let e = cancel_of draw n in
    let silent = cancel_effect n c h (named_after config word before) in
    let more = turns_on (next_turn c (event.Cancel n)).core after in
    but_for-append n (actions_of c e) more
    ∙ ap (λ (xs : List Action). xs ++ but_for n more) (unshown_acts n c e (turn_silent c (event.Cancel n) n h.pending.number silent).unshown (last_silent c (event.Cancel n) n h.pending.number silent))
    ∙ ap (λ (xs : List Action). all_unnumbered (actions_of c e) ++ xs) (silent_after config word n before after h) ∙ sym (unnumbered-append (actions_of c e) more)

-- the trace with the cancel goes on as the one without it
pub goes_on : (config : Config) (word draw n : ℕ) (before after : List Event) → manager_of config ≡ None → HasNoLimit config → HasStarted n (state_after config word before) → GoesOn config word n before (cancel_of draw n) after
goes_on config word draw n before after stays free h =
    let c = state_after config word before in
    let d = (next_turn c (event.Cancel n)).core in
    let u = unlimited_after config word before stays free in
    let r = ready_after config word before stays in
    let number = ap (λ (k : ℕ). action.Turn k (cause.Event (cancel_of draw n)) ∷ []) (number_after config word before) in
    record {
      later = turns_on c after;
      later_with = turns_on d after;
      plain = trace_split config word before after;
      with_more = trace_split config word before (cancel_of draw n ∷ after)
          ∙ ap (λ (xs : List Action). trace_of config word before ++ (xs ++ turns_on d after)) (cancel_shows c draw n h u r ∙ number);
      alike = shown_alike n h.pending.number c d after (cancel_alike n c h u r) ∙ silent_after config word n before after h;
    }

-- one submission's outcomes aside, a trace tells the same with the turn of the cancel and without it
same_told : (n m k draw : ℕ) (trace later later_with : List Action) → m ≢ n → but_for n later ≡ but_for n later_with
    → outcome_at (told_each [] (trace ++ later)) m ≡ outcome_at (told_each [] (trace ++ action.Turn k (cause.Event (cancel_of draw n)) ∷ later_with)) m
same_told n m k draw trace later later_with o e =
    let os = told_each [] trace in
    ap (λ (ps : List (Option Outcome)). outcome_at ps m) (told-append [] trace later) ∙ other_outcome (told_each os later) n m o
    ∙ ap (λ (ps : List (Option Outcome)). outcome_at ps m) (erased_told n os later ∙ ap (told_each (erased n os)) e ∙ sym (erased_told n os later_with))
    ∙ sym (other_outcome (told_each os later_with) n m o)
    ∙ sym (ap (λ (ps : List (Option Outcome)). outcome_at ps m) (told-append [] trace (action.Turn k (cause.Event (cancel_of draw n)) ∷ later_with)))

-- all other submissions have the same outcomes
pub same_outcomes : (config : Config) (word draw n m : ℕ) (before after : List Event) → manager_of config ≡ None → HasNoLimit config → HasStarted n (state_after config word before) → m ≢ n
    → outcome_at (outcomes_in (trace_of config word (before ++ after))) m ≡ outcome_at (outcomes_in (trace_of config word (before ++ cancel_of draw n ∷ after))) m
unfolding outcomes_in goes_on
same_outcomes config word draw n m before after stays free h o =
    let g = goes_on config word draw n before after stays free h in
    let e = g.alike ∙ sym (silent_after config word n before after h) in
    ap (λ (xs : List Action). outcome_at (told_each [] xs) m) g.plain ∙ same_told n m (length before + 1) draw (trace_of config word before) g.later g.later_with o e
    ∙ sym (ap (λ (xs : List Action). outcome_at (told_each [] xs) m) g.with_more)

-- the cancelled one has the outcome that it had before: none
pub no_outcome : (config : Config) (word draw n : ℕ) (before after : List Event) → HasStarted n (state_after config word before)
    → outcome_at (outcomes_in (trace_of config word (before ++ cancel_of draw n ∷ after))) n ≡ outcome_at (outcomes_in (trace_of config word before)) n
unfolding outcomes_in
no_outcome config word draw n before after h =
    let trace = trace_of config word before in
    let later = turns_on (state_after config word before) (cancel_of draw n ∷ after) in
    let os = told_each [] trace in
    ap (λ (xs : List Action). outcome_at (told_each [] xs) n) (trace_split config word before (cancel_of draw n ∷ after))
    ∙ ap (λ (ps : List (Option Outcome)). outcome_at ps n)
    (told-append [] trace later ∙ sym (all_told_unnumbered os later) ∙ ap (told_each os) (sym (silent_from config word draw n before after h)))
    ∙ none_told n os later

-- items, and events
--
-- where nobody awaits it, its verdict is not wanted
pub quiet_life : (p : ℕ) (life : Life) → NoneInRow p life → hushed_life p life ≡ life
quiet_life p Resting h = refl
quiet_life p Dialing h = refl
quiet_life p (Wanting l) h = refl
quiet_life p (SettingUp l greeting) h = refl
quiet_life p (Ready l) h = ap (λ (row : List Entry). Ready (record l { row = row })) (quiet_stays p l.row h)
quiet_life p (Ended e) h = refl

-- the links are the same, but for the verdict that is not wanted
pub same_items : (config : Config) (word draw n : ℕ) (before after : List Event) → manager_of config ≡ None → HasNoLimit config → (h : HasStarted n (state_after config word before))
    → hushed_life h.pending.number (state_after config word (before ++ after)).single.connection.life ≡ (state_after config word (before ++ cancel_of draw n ∷ after)).single.connection.life
same_items config word draw n before after stays free h =
    let c = state_after config word before in
    let p = h.pending.number in
    let r = ready_after config word before stays in
    let d = (next_turn c (event.Cancel n)).core in
    let s = hushed_on n p d after (turn_plain c (event.Cancel n) ∙ r.plain) (more_after n c (event.Cancel n) (started_within n c h)) (cancel_hushed n c h (unlimited_after config word before stays free) r) in
    ap (λ (x : Core). x.single.connection.life) (alike_after config word draw n before after stays free h).same
    ∙ subst (λ (x : Core). hushed_life p x.single.connection.life ≡ x.single.connection.life) (sym (state_split config word before (cancel_of draw n ∷ after)))
    (quiet_life p (run_on d after).single.connection.life s.quiet)

-- how many bytes are offered doesn't depend on the row
too_much_same : (p count : ℕ) (life : Life) → exceeds_offer life count ≡ exceeds_offer (hushed_life p life) count
too_much_same p count Resting = refl
too_much_same p count Dialing = refl
too_much_same p count (Wanting l) = refl
too_much_same p count (SettingUp l greeting) = refl
too_much_same p count (Ready l) = refl
too_much_same p count (Ended e) = refl

-- nor does it which events are bad
bare_bad : (p : ℕ) (c : Core) (kind : EventKind) → is_bad c kind ≡ is_bad (bare_core p c) kind
unfolding is_bad
bare_bad p c (event.Submit s) = refl
bare_bad p c (event.Cancel m) = refl
bare_bad p c (event.Connected l) = refl
bare_bad p c (event.Refused l f) = refl
bare_bad p c (event.Fired n) = refl
bare_bad p c (event.Timeout ms) = refl
bare_bad p c (event.Creds n auth) = refl
bare_bad p c (event.CredsError n text) = refl
bare_bad p c (event.CredsEnd n) = refl
bare_bad p c (event.Wrote l count) = ap (λ (b : Bool). nat_le c.links l || ((l == c.single.link) && b)) (too_much_same p count c.single.connection.life)
bare_bad p c (event.Bytes l piece) = refl
bare_bad p c (event.Ended l) = refl
bare_bad p c (event.ReadFault l fault) = refl
bare_bad p c (event.WriteFault l fault) = refl
bare_bad p c event.Shutdown = refl
bare_bad p c event.DropStream = refl

-- so the same events are bad
pub same_bad : (config : Config) (word draw n : ℕ) (before after : List Event) (e : Event) → manager_of config ≡ None → HasNoLimit config → HasStarted n (state_after config word before)
    → is_bad_after config word (before ++ after) e ≡ is_bad_after config word (before ++ cancel_of draw n ∷ after) e
same_bad config word draw n before after e stays free h =
    let p = h.pending.number in
    bare_bad p (state_after config word (before ++ after)) e.kind ∙ ap (λ (x : Core). is_bad x e.kind) (alike_after config word draw n before after stays free h).same
    ∙ sym (bare_bad p (state_after config word (before ++ cancel_of draw n ∷ after)) e.kind)

-- and the cancel itself is not
pub good_cancel : (config : Config) (word draw n : ℕ) (before : List Event) → HasStarted n (state_after config word before) → is_bad_after config word before (cancel_of draw n) ≡ false
unfolding is_bad
good_cancel config word draw n before h =
    let table = (state_after config word before).table in
    not_le_test (length table) n (get_within table n (Some h.pending) h.there)
