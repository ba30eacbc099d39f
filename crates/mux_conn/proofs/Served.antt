-- That requests go on again shows nothing: so it is with any acts before it.
use Rattle.std.proofs.Common.{◌≡◌, Bool, true, false, List, [], Ok, Err, refl, ap, ◌∙◌, if◌then◌else◌}
use Rattle.std.specs.Prelude.{Result, OnOk}
use Rattle.mux_conn.specs.declared.act.LinkAct.{LinkAct}
use Rattle.mux_conn.specs.declared.again.Again.TheVariants as again
use Rattle.mux_conn.specs.declared.connection.MultiplexedConnection.{MultiplexedConnection}
use Rattle.mux_conn.specs.Connection.{work_with, is_repeating}
use Rattle.mux_conn.specs.Effects.{all_fresh, served}
use Rattle.mux_conn.specs.Repeats.{repeating}

-- a choice between two connections is one between them with these acts
with_acts : (b : Bool) (c d : MultiplexedConnection) (acts : List LinkAct) → work_with (if b then work_with c [] else work_with d []).conn acts ≡ (if b then work_with c acts else work_with d acts)
with_acts true c d acts = refl
with_acts false c d acts = refl

pub served_with : {T E : Type 0} (result : Result T E) (c d : MultiplexedConnection) (acts : List LinkAct) → OnOk result (d ≡ (served (work_with c [])).conn) → OnOk result (work_with d acts ≡ served (work_with c acts))
served_with (Ok x) c d acts h =
    ap (λ (e : MultiplexedConnection). work_with e acts) h
    ∙ with_acts (is_repeating c) (all_fresh (repeating (work_with c []) again.Nothing)).conn c acts
served_with (Err e) c d acts h = h
