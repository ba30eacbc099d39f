-- The links that a whole run dials, and the numbers of the connects of a session.
use Rattle.std.proofs.Common.{◌≡◌, ℕ, ◌+◌, ◌≤◌, suc, List, [], ◌∷◌, ◌++◌, Option, inr, refl, sym, ap, ◌∙◌, subst, arith}
use Rattle.std.proofs.lemmas.List.{append-nil}
use Rattle.driver_model.specs.declared.action.Action.{Action}
use Rattle.driver_model.specs.declared.action.Action.TheVariants as action
use Rattle.driver_model.specs.declared.action.Cause.TheVariants as cause
use Rattle.outside.specs.declared.world.Call.{Call}
use Rattle.outside.specs.declared.world.Call.TheVariants as call
use Rattle.legal_trace.specs.Book.{Book, blank_book, entered}
use Rattle.legal_trace.specs.Legal.{AllStand}
use Rattle.session_laws.proofs.Turn.Legality.{replay_legal}
use Rattle.shared_session.specs.History.{History}
use Rattle.single_session.specs.Replay.{IsSound}
use Rattle.live_run.specs.declared.ending.Ending.{Ending}
use Rattle.live_run.specs.Agenda.{agenda_of}
use Rattle.live_run.specs.Closing.{close_calls, times}
use Rattle.live_run.specs.Deeds.{IsGood, IsUnspent, actions_in, calls_in, traced}
use Rattle.live_run.specs.Driven.{Driven}
use Rattle.live_laws.specs.Dials.{IsPicked, Rises, connects_in, dials_in}
use Rattle.live_laws.specs.Laws.{calls_of}
use Rattle.live_laws.proofs.Dialling.{connects_append, deeds_picked, dials_append}
use Rattle.live_laws.proofs.Picked.{picked_more, rises_from, rises_picked, times_once}
use Rattle.live_laws.proofs.Runs.{ends, trace_whole}

-- what is closed dials nothing
closes_dial : (links : List ℕ) → dials_in (close_calls links) ≡ []
closes_dial [] = refl
closes_dial (l ∷ links) = closes_dial links

-- a connect has the next number
stand_rises : (xs : List Action) (b : Book) → AllStand b xs → Rises b.links (connects_in xs)
stand_rises [] b stand = tt
stand_rises (action.Turn number (cause.Opening config word) ∷ xs) b stand = stand_rises xs (entered b (action.Turn number (cause.Opening config word))) stand.1
stand_rises (action.Turn number (cause.Event e) ∷ xs) b stand = stand_rises xs (entered b (action.Turn number (cause.Event e))) stand.1
stand_rises (action.Connect l host port ∷ xs) b stand =
    let next : l ≡ b.links = stand.0.next in
    (omega (arith, next), rises_from (b.links + 1) (suc l) (connects_in xs) (omega (arith, next)) (stand_rises xs (entered b (action.Connect l host port)) stand.1))
stand_rises (action.Timer t ms what ∷ xs) b stand = stand_rises xs (entered b (action.Timer t ms what)) stand.1
stand_rises (action.Took who l count ∷ xs) b stand = stand_rises xs (entered b (action.Took who l count)) stand.1
stand_rises (action.NeedCreds c l ∷ xs) b stand = stand_rises xs (entered b (action.NeedCreds c l)) stand.1
stand_rises (action.Generation g ∷ xs) b stand = stand_rises xs (entered b (action.Generation g)) stand.1
stand_rises (action.Round who l ∷ xs) b stand = stand_rises xs (entered b (action.Round who l)) stand.1
stand_rises (action.Push l info ∷ xs) b stand = stand_rises xs (entered b (action.Push l info)) stand.1
stand_rises (action.Message m ∷ xs) b stand = stand_rises xs (entered b (action.Message m)) stand.1
stand_rises (action.Monitor v ∷ xs) b stand = stand_rises xs (entered b (action.Monitor v)) stand.1
stand_rises (action.Close l ∷ xs) b stand = stand_rises xs (entered b (action.Close l)) stand.1
stand_rises (action.Write l bytes ∷ xs) b stand = stand_rises xs (entered b (action.Write l bytes)) stand.1
stand_rises (action.Start l message who count len ∷ xs) b stand = stand_rises xs (entered b (action.Start l message who count len)) stand.1
stand_rises (action.Wait who kind ∷ xs) b stand = stand_rises xs (entered b (action.Wait who kind)) stand.1
stand_rises (action.Created e ∷ xs) b stand = stand_rises xs (entered b (action.Created e)) stand.1
stand_rises (action.Outcome n o ∷ xs) b stand = stand_rises xs (entered b (action.Outcome n o)) stand.1

pub connects_rise : (s : History) → IsSound s.config → IsGood s → IsUnspent s → Rises 0 (connects_in (traced s))
connects_rise s sound good unspent = stand_rises (traced s) blank_book (replay_legal s.config s.word s.events sound good unspent).each

pub run_picked : {old new : Option (List Call)} {before after : History} {count : ℕ} {ending : Ending} (run : Driven (traced before) old new before after count ending) → IsPicked (dials_in (calls_of run)) (connects_in (traced after))
run_picked {before} {after} run =
    let asks = connects_in (traced before) in
    let dials : dials_in (calls_of run) ≡ dials_in (calls_in run.deeds) =
    dials_append (calls_in run.deeds) (call.Word run.word ∷ close_calls run.closes) ∙ ap (λ (xs : List ℕ). dials_in (calls_in run.deeds) ++ xs) (closes_dial run.closes) ∙ append-nil (dials_in (calls_in run.deeds)) in
    let connects : connects_in (traced after) ≡ (asks ++ connects_in (actions_in run.deeds)) ++ connects_in (ends run) =
    ap connects_in (trace_whole run) ∙ connects_append (traced before ++ actions_in run.deeds) (ends run) ∙ ap (λ (xs : List ℕ). xs ++ connects_in (ends run)) (connects_append (traced before) (actions_in run.deeds)) in
    let picked = deeds_picked before.config before.word run.deeds before.events (agenda_of (traced before)) [] asks run.may run.shown (inr (traced before, refl, refl, refl)) in
    subst (λ (xs : List ℕ). IsPicked xs (connects_in (traced after))) (sym dials)
    (subst (IsPicked (dials_in (calls_in run.deeds))) (sym connects) (picked_more (dials_in (calls_in run.deeds)) (asks ++ connects_in (actions_in run.deeds)) (connects_in (ends run)) picked))

-- so none is dialled twice
pub dialled_once : {old new : Option (List Call)} {before after : History} {count : ℕ} {ending : Ending} (n : ℕ) → IsSound before.config → IsGood before → IsUnspent before → (run : Driven (traced before) old new before after count ending)
    → times n (dials_in (calls_of run)) ≤ 1
dialled_once {before} {after} n sound good unspent run =
    let rises = connects_rise after (subst IsSound (sym run.config_after) sound) (run.good good) (run.unspent unspent) in
    times_once n 0 (dials_in (calls_of run)) (rises_picked 0 (dials_in (calls_of run)) (connects_in (traced after)) (run_picked run) rises)
