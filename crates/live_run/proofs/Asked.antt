-- An action that asks nothing leaves an agenda as it is.
use Rattle.std.proofs.Common.{◌≡◌, false, refl}
use Rattle.driver_model.specs.declared.action.Action.{Action}
use Rattle.driver_model.specs.declared.action.Action.TheVariants as action
use Rattle.live_run.specs.declared.agenda.Agenda.{Agenda}
use Rattle.live_run.specs.Agenda.{asks, noted}

pub unasked : (a : Agenda) (x : Action) → asks x ≡ false → noted a x ≡ a
unasked a (action.Connect l host port) h = absurd (let e = h in cc)
unasked a (action.Timer t ms what) h = absurd (let e = h in cc)
unasked a (action.Close l) h = absurd (let e = h in cc)
unasked a (action.Write l bytes) h = absurd (let e = h in cc)
unasked a (action.Turn number c) h = refl
unasked a (action.Took who l count) h = refl
unasked a (action.Push l info) h = refl
unasked a (action.Message m) h = refl
unasked a (action.Monitor v) h = refl
unasked a (action.NeedCreds c l) h = refl
unasked a (action.Generation g) h = absurd (let e = h in cc)
unasked a (action.Round who l) h = refl
unasked a (action.Start l message who count len) h = refl
unasked a (action.Wait who kind) h = refl
unasked a (action.Created e) h = refl
unasked a (action.Outcome n o) h = refl
