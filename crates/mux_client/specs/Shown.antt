-- What a connection shows of what its machine does: an outcome is kept, and its request is named.
use Rattle.std.specs.Prelude.{ℕ, List, [], ◌∷◌, ◌++◌, Option, Some, slice_set}
use Rattle.driver_model.specs.declared.outcome.Outcome.{Outcome}
use Rattle.mux_conn.specs.declared.act.LinkAct.{LinkAct}
use Rattle.mux_conn.specs.declared.act.LinkAct.TheVariants as link_act
use Rattle.mux_conn.specs.declared.request.Pending.{Pending}
use Rattle.mux_client.specs.declared.act.ConnectionAct.{ConnectionAct}
use Rattle.mux_client.specs.declared.act.ConnectionAct.TheVariants as act
use Rattle.mux_client.specs.declared.act.ConnectionTimer.TheVariants as timer
use Rattle.mux_client.specs.declared.showing.Answer.{Answer}

abbrev pub pending : ℕ → Pending
pending p = record { number = p }

abbrev pub shown : LinkAct → ConnectionAct
shown (link_act.Created e) = act.Created e
shown (link_act.Round p) = act.Round (pending p)
shown (link_act.Took p count) = act.Took (pending p) count
shown (link_act.Timer p ms) = act.Timer (timer.Response (pending p)) ms
shown (link_act.RenewalTimer k ms) = act.Timer (timer.Renewal k) ms
shown (link_act.RepeatTimer ms) = act.Timer timer.Repeat ms
shown link_act.NeedCreds = act.NeedCreds
shown link_act.NeedRenewals = act.NeedCreds
shown (link_act.Push info) = act.Push info
shown (link_act.Message m) = act.Message m
shown (link_act.Monitor v) = act.Monitor v
shown (link_act.Watch message need len) = act.Watch message need len
shown link_act.Close = act.Close
shown (link_act.Write bytes) = act.Write bytes
shown (link_act.Wait p kind) = act.Wait (pending p) kind
shown (link_act.Start message p need len) = act.Start message (pending p) need len
shown (link_act.SetUp message need len) = act.SetUp message need len
shown (link_act.Renewed message need len) = act.Renewed message need len
shown (link_act.Repeated message need len) = act.Repeated message need len
shown (link_act.Outcome p o) = act.Answered (pending p)

abbrev pub shown_each : List LinkAct → List ConnectionAct
shown_each [] = []
shown_each (a ∷ more) = shown a ∷ shown_each more

abbrev pub kept : List (Option Outcome) → LinkAct → List (Option Outcome)
kept os (link_act.Created e) = os
kept os (link_act.Round p) = os
kept os (link_act.Took p count) = os
kept os (link_act.Timer p ms) = os
kept os (link_act.RenewalTimer k ms) = os
kept os (link_act.RepeatTimer ms) = os
kept os link_act.NeedCreds = os
kept os link_act.NeedRenewals = os
kept os (link_act.Renewed message need len) = os
kept os (link_act.Repeated message need len) = os
kept os (link_act.Push info) = os
kept os (link_act.Message m) = os
kept os (link_act.Monitor v) = os
kept os (link_act.Watch message need len) = os
kept os link_act.Close = os
kept os (link_act.Write bytes) = os
kept os (link_act.Wait p kind) = os
kept os (link_act.Start message p need len) = os
kept os (link_act.SetUp message need len) = os
kept os (link_act.Outcome p o) = slice_set os p (Some o)

abbrev pub kept_each : List (Option Outcome) → List LinkAct → List (Option Outcome)
kept_each os [] = os
kept_each os (a ∷ more) = kept_each (kept os a) more

-- the outcome that an act tells, if it tells one
abbrev pub answer_in : LinkAct → List Answer
answer_in (link_act.Outcome p o) = record { request = p; outcome = o } ∷ []
answer_in _ = []

abbrev pub answers_among : List LinkAct → List Answer
answers_among [] = []
answers_among (a ∷ more) = answer_in a ++ answers_among more

-- it is kept in its place
abbrev pub placed : List (Option Outcome) → Answer → List (Option Outcome)
placed os a = slice_set os a.request (Some a.outcome)

abbrev pub placed_each : List (Option Outcome) → List Answer → List (Option Outcome)
placed_each os [] = os
placed_each os (a ∷ more) = placed_each (placed os a) more
