-- What is shown of a turn that was made.
use Rattle.std.proofs.Common.{◌≡◌, ℕ, ◌+◌, ◌^◌, ◌<◌, List, [], ◌++◌, length, false, Option, Some, None, refl, sym, ap, subst, ◌∙◌, append_assoc, arith}
use Rattle.std.specs.Prelude.{is_some}
use Rattle.std.proofs.lemmas.List.{append-nil}
use Rattle.containers.proofs.Choices.{by_test, taken_if, left_if}
use Rattle.driver_model.specs.declared.action.Action.{Action}
use Rattle.driver_model.specs.declared.event.Event.{Event}
use Rattle.driver_model.specs.declared.event.EventKind.{EventKind}
use Rattle.mux_conn.specs.declared.act.LinkAct.{LinkAct}
use Rattle.single_session.specs.declared.core_state.Core.{Core}
use Rattle.single_session.specs.declared.generations.Comeback.{Comeback}
use Rattle.single_session.specs.declared.generations.Comeback.TheVariants as comeback
use Rattle.single_session.specs.declared.generations.Generations.{Generations}
use Rattle.single_session.specs.declared.showing.Done.{Done}
use Rattle.single_session.specs.Done.{done_each}
use Rattle.single_session.specs.Generations.{comeback_shown_in, HasFraction}
use Rattle.single_session.specs.Turn.{Turning, turning_with, timers_of, sources_of, next_turn, comeback_by, last_acts, shown_each, return_shown, effects_of, has_run_out}
use Rattle.single_session.proofs.Quiet.{no_timers, no_sources, none_done}
use Rattle.single_session.proofs.Comebacks.{same_fraction}
use Rattle.single_session.proofs.Spent.{has_room, turn_settings}
use Rattle.single_session.proofs.Replays.{last_quiet}

-- a session that doesn't come back does nothing of its own, and shows nothing behind its acts
plain_stays : (c : Core) (kind : EventKind) → is_some c.manager ≡ false → comeback_by c kind ≡ comeback.Stays
unfolding comeback_by
plain_stays c kind plain = left_if (is_some c.manager) _ comeback.Stays plain

plain_last : (c : Core) (kind : EventKind) → is_some c.manager ≡ false → last_acts c kind ≡ []
unfolding last_acts
plain_last c kind plain = left_if (is_some c.manager) _ [] plain

stays_shown : (m : Option Generations) (word : ℕ) → comeback_shown_in m word comeback.Stays ≡ []
stays_shown None word = refl
stays_shown (Some g) word = refl

nothing_shown : (d : Core) (word : ℕ) → return_shown d word comeback.Stays [] ≡ []
nothing_shown d word = append-nil (comeback_shown_in d.manager word comeback.Stays) ∙ stays_shown d.manager word

-- what was shown is the effects of the turn
pub effects_made : (c d : Core) (e : Event) (acts last : List LinkAct) (what : Comeback) (old mid new : List Action) → ◌≡◌ {A = Turning} (turning_with d acts) (next_turn c e.kind) → what ≡ comeback_by c e.kind → last ≡ last_acts c e.kind
    → mid ≡ old ++ shown_each c.single.link (length c.timers) (length c.sources) acts → new ≡ mid ++ return_shown d e.word what last → new ≡ old ++ effects_of c e
effects_made c d e acts last what old mid new made own rest first second =
    let begin = shown_each c.single.link (length c.timers) (length c.sources) (next_turn c e.kind).acts in
    let back = return_shown (next_turn c e.kind).core e.word (comeback_by c e.kind) (last_acts c e.kind) in
    let all : new ≡ old ++ (begin ++ back) =
    second ∙ ap (λ (xs : List Action). xs ++ return_shown d e.word what last) (first ∙ ap (λ (t : Turning). old ++ shown_each c.single.link (length c.timers) (length c.sources) t.acts) made)
    ∙ ap (λ (t : Turning). (old ++ begin) ++ return_shown t.core e.word what last) made
    ∙ ap (λ w. (old ++ begin) ++ return_shown (next_turn c e.kind).core e.word w last) own
    ∙ ap (λ (xs : List LinkAct). (old ++ begin) ++ return_shown (next_turn c e.kind).core e.word (comeback_by c e.kind) xs) rest
    ∙ append_assoc old begin back in
    by_test (is_some c.manager) (new ≡ old ++ effects_of c e)
    (λ managed. all ∙ ap (λ (xs : List Action). old ++ xs) (sym (taken_if (is_some c.manager) (begin ++ back) begin managed)))
    (λ plain. all
    ∙ ap (λ (w : Comeback). old ++ (begin ++ return_shown (next_turn c e.kind).core e.word w (last_acts c e.kind))) (plain_stays c e.kind plain)
    ∙ ap (λ (xs : List LinkAct). old ++ (begin ++ return_shown (next_turn c e.kind).core e.word comeback.Stays xs)) (plain_last c e.kind plain)
    ∙ ap (λ (xs : List Action). old ++ (begin ++ xs)) (nothing_shown (next_turn c e.kind).core e.word)
    ∙ ap (λ (xs : List Action). old ++ xs) (append-nil begin)
    ∙ ap (λ (xs : List Action). old ++ xs) (sym (left_if (is_some c.manager) (begin ++ back) begin plain)))

-- the last acts have no numbers, and tell no outcomes
pub last_timers : (c d : Core) (kind : EventKind) (last : List LinkAct) → last ≡ last_acts c kind → has_run_out d ≡ false → length d.timers + length (timers_of d.single.link last) < 2 ^ 32
last_timers c d kind last is free =
    let none : length (timers_of d.single.link last) ≡ 0 = ap (λ (xs : List LinkAct). length (timers_of d.single.link xs)) is ∙ ap length (no_timers d.single.link (last_acts c kind) (last_quiet c kind)) in
    omega (arith, none, (has_room d free).timers)

pub last_sources : (c d : Core) (kind : EventKind) (last : List LinkAct) → last ≡ last_acts c kind → has_run_out d ≡ false → length d.sources + length (sources_of d.single.link last) < 2 ^ 32
last_sources c d kind last is free =
    let none : length (sources_of d.single.link last) ≡ 0 = ap (λ (xs : List LinkAct). length (sources_of d.single.link xs)) is ∙ ap length (no_sources d.single.link (last_acts c kind) (last_quiet c kind)) in
    omega (arith, none, (has_room d free).sources)

pub done_made : (c d : Core) (kind : EventKind) (acts last : List LinkAct) (old mid new : List Done) → ◌≡◌ {A = Turning} (turning_with d acts) (next_turn c kind) → last ≡ last_acts c kind
    → mid ≡ old ++ done_each acts → new ≡ mid ++ done_each last → new ≡ old ++ done_each (next_turn c kind).acts
done_made c d kind acts last old mid new made rest first second =
    second ∙ ap (λ ds. mid ++ ds) (ap done_each rest ∙ none_done (last_acts c kind) (last_quiet c kind)) ∙ append-nil mid ∙ first ∙ ap (λ (t : Turning). old ++ done_each t.acts) made

-- delays still grow by a fraction
pub grows_on : (c d : Core) (kind : EventKind) (acts : List LinkAct) → ◌≡◌ {A = Turning} (turning_with d acts) (next_turn c kind) → HasFraction c.manager → HasFraction d.manager
grows_on c d kind acts made grow = subst (λ (t : Turning). HasFraction t.core.manager) (sym made) (same_fraction (next_turn c kind).core.manager c.manager (turn_settings c kind) grow)
