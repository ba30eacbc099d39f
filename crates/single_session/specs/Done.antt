-- The outcomes of a turn, put in their places.
use Rattle.std.specs.Prelude.{List, [], ◌∷◌, ◌++◌, Option, Some, slice_set}
use Rattle.driver_model.specs.declared.outcome.Outcome.{Outcome}
use Rattle.mux_conn.specs.declared.act.LinkAct.{LinkAct}
use Rattle.mux_conn.specs.declared.act.LinkAct.TheVariants as act
use Rattle.single_session.specs.declared.showing.Done.{Done}

-- the outcome that an act tells, if it tells one
abbrev pub done_by : LinkAct → List Done
done_by (act.Outcome n o) = record { submission = n; outcome = o } ∷ []
done_by (act.Created e) = []
done_by (act.Round n) = []
done_by (act.Took n count) = []
done_by (act.Timer n ms) = []
done_by (act.RenewalTimer k ms) = []
done_by (act.RepeatTimer ms) = []
done_by act.NeedCreds = []
done_by act.NeedRenewals = []
done_by (act.Renewed message need len) = []
done_by (act.Repeated message need len) = []
done_by (act.SetUp message need len) = []
done_by (act.Push info) = []
done_by (act.Message m) = []
done_by (act.Monitor v) = []
done_by (act.Watch message need len) = []
done_by act.Close = []
done_by (act.Write bytes) = []
done_by (act.Wait n kind) = []
done_by (act.Start message n need len) = []

abbrev pub done_each : List LinkAct → List Done
done_each [] = []
done_each (a ∷ more) = done_by a ++ done_each more

abbrev pub put_each : List (Option Outcome) → List Done → List (Option Outcome)
put_each os [] = os
put_each os (d ∷ ds) = put_each (slice_set os d.submission (Some d.outcome)) ds
