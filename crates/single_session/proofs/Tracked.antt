-- What a manager knows of subscriptions: it is what the calls come to that its acts confirm.
use Rattle.std.proofs.Common.{◌≡◌, ℕ, ◌+◌, ◌==◌, Bool, ◌&&◌, not, List, [], ◌∷◌, ◌++◌, length, Option, Some, None, refl, sym, ap, ◌∙◌, append_assoc, if◌then◌else◌}
use Rattle.std.specs.Prelude.{slice_get}
use Rattle.std.proofs.lemmas.List.{append-nil}
use Rattle.containers.proofs.Choices.{by_test, taken_if, left_if}
use Rattle.resp_write.specs.Command.{CommandList}
use Rattle.sub_tracker.specs.Held.{Held, TrackerState, held_after}
use Rattle.sub_tracker.specs.Pipeline.{resubscription}
use Rattle.sub_tracker.specs.Subscribed.{Request}
use Rattle.sub_tracker.proofs.Held.{held_with_last}
use Rattle.driver_model.specs.declared.event.EventKind.{EventKind}
use Rattle.driver_model.specs.declared.event.EventKind.TheVariants as event
use Rattle.driver_model.specs.declared.outcome.Outcome.{Outcome}
use Rattle.driver_model.specs.declared.outcome.Outcome.TheVariants as outcome
use Rattle.mux_conn.specs.declared.act.LinkAct.{LinkAct}
use Rattle.mux_conn.specs.declared.act.LinkAct.TheVariants as act
use Rattle.mux_conn.specs.declared.again.Again.TheVariants as again
use Rattle.mux_conn.specs.Connection.{is_outstanding}
use Rattle.single_session.specs.declared.generations.Generations.{Generations}
use Rattle.single_session.specs.declared.subscriptions.Call.{Call}
use Rattle.single_session.specs.declared.subscriptions.Subscriptions.{Subscriptions}
use Rattle.single_session.specs.Generations.{repeat_for}
use Rattle.single_session.specs.Subscriptions.{asked_by, tracked_call, tracked_behind, tracked_by, tracked_each, informed, repeat_of, repeat_after}

-- the call that a submission is, if it is one, as a tracker is told of it
abbrev pub request_of : Option (Option Call) → List Request
request_of None = []
request_of (Some None) = []
request_of (Some (Some call)) = (call.action, call.names) ∷ []

-- those that an outcome confirms, and an act, and acts, in order
abbrev pub confirmed_behind : List (Option Call) → ℕ → Outcome → List Request
confirmed_behind calls n outcome.Done = request_of (slice_get calls n)
confirmed_behind calls n (outcome.One value) = []
confirmed_behind calls n (outcome.Many values) = []
confirmed_behind calls n (outcome.Fault e) = []

abbrev pub confirmed_by : List (Option Call) → LinkAct → List Request
confirmed_by calls (act.Outcome n o) = confirmed_behind calls n o
confirmed_by calls _ = []

abbrev pub confirmed_each : List (Option Call) → List LinkAct → List Request
confirmed_each calls [] = []
confirmed_each calls (a ∷ more) = confirmed_by calls a ++ confirmed_each calls more

-- these are the commands behind which so much is held
abbrev pub IsHeldAfter : Subscriptions → List Request → Type 0
IsHeldAfter s history = s.tracker.held ≡ held_after history

-- a call that is confirmed is the last of them
called : (t : TrackerState) (history : List Request) (call : Option (Option Call)) → t.held ≡ held_after history → (tracked_call t call).held ≡ held_after (history ++ request_of call)
called t history None h = h ∙ ap held_after (sym (append-nil history))
called t history (Some None) h = h ∙ ap held_after (sym (append-nil history))
called t history (Some (Some call)) h = held_with_last history t.held call.action call.names h

nothing_more : (s : Subscriptions) (history : List Request) → IsHeldAfter s history → IsHeldAfter s (history ++ [])
nothing_more s history h = h ∙ ap held_after (sym (append-nil history))

answered : (s : Subscriptions) (history : List Request) (n : ℕ) (o : Outcome) → IsHeldAfter s history → IsHeldAfter (tracked_behind s n o) (history ++ confirmed_behind s.calls n o)
answered s history n outcome.Done h = called s.tracker history (slice_get s.calls n) h
answered s history n (outcome.One value) h = nothing_more s history h
answered s history n (outcome.Many values) h = nothing_more s history h
answered s history n (outcome.Fault e) h = nothing_more s history h

-- one act more
pub one_tracked : (s : Subscriptions) (history : List Request) (a : LinkAct) → IsHeldAfter s history → IsHeldAfter (tracked_by s a) (history ++ confirmed_by s.calls a)
one_tracked s history (act.Outcome n o) h = answered s history n o h
one_tracked s history _ h = nothing_more s history h

calls_behind : (s : Subscriptions) (n : ℕ) (o : Outcome) → (tracked_behind s n o).calls ≡ s.calls
calls_behind s n outcome.Done = refl
calls_behind s n (outcome.One value) = refl
calls_behind s n (outcome.Many values) = refl
calls_behind s n (outcome.Fault e) = refl

calls_by : (s : Subscriptions) (a : LinkAct) → (tracked_by s a).calls ≡ s.calls
calls_by s (act.Outcome n o) = calls_behind s n o
calls_by s _ = refl

-- acts leave which submissions are calls
pub calls_each : (s : Subscriptions) (acts : List LinkAct) → (tracked_each s acts).calls ≡ s.calls
calls_each s [] = refl
calls_each s (a ∷ more) = calls_each (tracked_by s a) more ∙ calls_by s a

-- all of them, in order
pub each_tracked : (s : Subscriptions) (history : List Request) (acts : List LinkAct) → IsHeldAfter s history → IsHeldAfter (tracked_each s acts) (history ++ confirmed_each s.calls acts)
each_tracked s history [] h = nothing_more s history h
each_tracked s history (a ∷ more) h =
    each_tracked (tracked_by s a) (history ++ confirmed_by s.calls a) more (one_tracked s history a h)
    ∙ ap (λ (calls : List (Option Call)). held_after ((history ++ confirmed_by s.calls a) ++ confirmed_each calls more)) (calls_by s a)
    ∙ ap held_after (append_assoc history (confirmed_by s.calls a) (confirmed_each s.calls more))

-- so a manager that is told of an event knows what its acts confirm
pub informed_holds : (s : Subscriptions) (history : List Request) (kind : EventKind) (acts : List LinkAct) → IsHeldAfter s history → IsHeldAfter (informed s kind acts) (history ++ confirmed_each (asked_by s.calls kind) acts)
informed_holds s history kind acts h = each_tracked (record s { calls = asked_by s.calls kind }) history acts h

pub informed_calls : (s : Subscriptions) (kind : EventKind) (acts : List LinkAct) → (informed s kind acts).calls ≡ asked_by s.calls kind
informed_calls s kind acts = calls_each (record s { calls = asked_by s.calls kind }) acts

-- something is subscribed again where some command is to be sent
pub outstanding_of : (p : CommandList) → is_outstanding (repeat_of p) ≡ not (length p.commands == 0)
outstanding_of p = by_test (length p.commands == 0) (is_outstanding (repeat_of p) ≡ not (length p.commands == 0))
    (λ t. ap is_outstanding (taken_if (length p.commands == 0) again.Nothing _ t) ∙ sym (ap not t))
    (λ f. ap is_outstanding (left_if (length p.commands == 0) again.Nothing _ f) ∙ sym (ap not f))

-- and where the manager does so
pub outstanding_for : (g : Generations) (history : List Request) → IsHeldAfter g.subscribed history
    → is_outstanding (repeat_for g) ≡ (g.settings.automatic_resubscription && not (length (resubscription (held_after history)).commands == 0))
outstanding_for g history h = by_test g.settings.automatic_resubscription _
    (λ t. ap is_outstanding (taken_if g.settings.automatic_resubscription (repeat_after g.subscribed) again.Nothing t)
    ∙ outstanding_of (resubscription g.subscribed.tracker.held)
    ∙ ap (λ (k : Held). not (length (resubscription k).commands == 0)) h
    ∙ sym (ap (λ (b : Bool). b && not (length (resubscription (held_after history)).commands == 0)) t))
    (λ f. ap is_outstanding (left_if g.settings.automatic_resubscription (repeat_after g.subscribed) again.Nothing f)
    ∙ sym (ap (λ (b : Bool). b && not (length (resubscription (held_after history)).commands == 0)) f))
