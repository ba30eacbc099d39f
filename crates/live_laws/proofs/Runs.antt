-- What a link takes in a whole run.
use Rattle.std.proofs.Common.{◌≡◌, ℕ, List, [], ◌∷◌, ◌++◌, Option, Some, append_assoc, refl, sym, ap, ◌∙◌, subst, inr}
use Rattle.std.proofs.lemmas.List.{append-nil, append_cancel_left}
use Rattle.driver_model.specs.declared.action.Action.{Action}
use Rattle.driver_model.specs.declared.config.Config.{Config}
use Rattle.driver_model.specs.declared.event.Event.{Event}
use Rattle.outside.specs.declared.world.Call.{Call}
use Rattle.outside.specs.declared.world.Call.TheVariants as call
use Rattle.legal_trace.specs.Book.{Book, blank_book, book, entered_each}
use Rattle.legal_trace.specs.Legal.{AllStand}
use Rattle.legal_trace.proofs.Books.{book_append, stand_behind, stand_front}
use Rattle.legal_trace.proofs.Plain.{same_some}
use Rattle.session_laws.proofs.Turn.Legality.{replay_legal}
use Rattle.shared_session.specs.History.{History}
use Rattle.single_session.specs.Replay.{IsSound, state_after, trace_of}
use Rattle.single_session.specs.Turn.{actions_of}
use Rattle.single_session.proofs.Replays.{trace_of-more}
use Rattle.live_run.specs.declared.ending.Ending.{Ending}
use Rattle.live_run.specs.Agenda.{agenda_of}
use Rattle.live_run.specs.Closing.{close_calls}
use Rattle.live_run.specs.Deeds.{AllMay, AreShown, Deed, IsGood, IsUnspent, actions_in, after, calls_in, events_in, events_of, traced}
use Rattle.live_run.specs.Driven.{Driven, shutdown}
use Rattle.live_run.proofs.Shown.{shown_whole, turns_gained}
use Rattle.live_laws.specs.Laws.{calls_of, taken_in}
use Rattle.live_laws.specs.Taken.{AreUnwritten, taken, taken_by}
use Rattle.live_laws.proofs.Agendas.{Agenda}
use Rattle.live_laws.proofs.Taking.{none_taken, taken_of, turn_taken}
use Rattle.live_laws.proofs.Written.{Stands, deed_stands, taken_then}

pub taken_append : (n : ℕ) (xs ys : List Call) → taken n (xs ++ ys) ≡ taken n xs ++ taken n ys
taken_append n [] ys = refl
taken_append n (x ∷ xs) ys = ap (λ (more : List ℕ). taken_by n x ++ more) (taken_append n xs ys) ∙ sym (append_assoc (taken_by n x) (taken n xs) (taken n ys))

-- what is closed takes nothing
closes_taken : (n : ℕ) (links : List ℕ) → taken n (close_calls links) ≡ []
closes_taken n [] = refl
closes_taken n (l ∷ links) = closes_taken n links

-- all deeds
deeds_taken : (config : Config) (word : ℕ) (deeds : List Deed) (events : List Event) (a : Agenda) (n : ℕ) (bytes : List ℕ) → AllStand (book (trace_of config word events)) (actions_in deeds) → AllMay a deeds
    → AreShown config word events deeds → Stands (book (trace_of config word events)) a n bytes → taken_of (book (trace_of config word (events ++ events_in deeds))) n ≡ bytes ++ taken n (calls_in deeds)
deeds_taken config word [] events a n bytes stand may shown h =
    ap (λ (es : List Event). taken_of (book (trace_of config word es)) n) (append-nil events) ∙ taken_then (book (trace_of config word events)) a n bytes h ∙ sym (append-nil bytes)
deeds_taken config word (d ∷ ds) events a n bytes stand may shown h =
    let b = book (trace_of config word events) in
    let acts = Rattle.live_run.specs.Deeds.actions_of d in
    let took = taken n (Rattle.live_run.specs.Deeds.calls_of d) in
    let there : book (trace_of config word (events ++ events_of d)) ≡ entered_each b acts = ap book shown.0 ∙ book_append (trace_of config word events) acts in
    let one = deed_stands d b a (state_after config word events) n bytes may.0 (turns_gained config word events (events_of d) acts shown.0) (stand_front b acts (actions_in ds) stand) h in
    let rest = deeds_taken config word ds (events ++ events_of d) (after a d) n (bytes ++ took) (subst (λ (x : Book). AllStand x (actions_in ds)) (sym there) (stand_behind b acts (actions_in ds) stand)) may.1 shown.1
    (subst (λ (x : Book). Stands x (after a d) n (bytes ++ took)) (sym there) one) in
    ap (λ (es : List Event). taken_of (book (trace_of config word es)) n) (sym (append_assoc events (events_of d) (events_in ds)))
    ∙ rest
    ∙ append_assoc bytes took (taken n (calls_in ds))
    ∙ ap (λ (more : List ℕ). bytes ++ more) (sym (taken_append n (Rattle.live_run.specs.Deeds.calls_of d) (calls_in ds)))

book_stands : (xs ys : List Action) → AllStand blank_book (xs ++ ys) → AllStand (book xs) ys
unfolding book
book_stands xs ys stand = stand_behind blank_book xs ys stand

-- deeds whose actions may stand behind what was asked before them
opened_taken : (config : Config) (word : ℕ) (events : List Event) (early : List Action) (deeds : List Deed) (n : ℕ) → AllStand blank_book (trace_of config word events ++ actions_in deeds) → AllMay (agenda_of early) deeds
    → AreShown config word events deeds → taken_of (book (trace_of config word (events ++ events_in deeds))) n ≡ taken_of (book (trace_of config word events)) n ++ taken n (calls_in deeds)
opened_taken config word events early deeds n stand may shown =
    deeds_taken config word deeds events (agenda_of early) n (taken_of (book (trace_of config word events)) n) (book_stands (trace_of config word events) (actions_in deeds) stand) may shown (inr (early, refl, refl))

module _ {early : List Action} {old new : Option (List Call)} {before after : History} {count : ℕ} {ending : Ending} (run : Driven early old new before after count ending) where
  -- the events before the shutdown, and what the shutdown's turn asks
  abbrev pub passed : List Event
  passed = before.events ++ events_in run.deeds

  abbrev pub ends : List Action
  ends = actions_of (state_after before.config before.word passed) (shutdown run.word)

  pub trace_passed : traced after ≡ trace_of before.config before.word passed ++ ends
  trace_passed =
      (λ i. trace_of (run.config_after i) (run.opening_after i) ((run.ended ∙ ap (λ (es : List Event). es ++ shutdown run.word ∷ []) run.grown) i))
      ∙ trace_of-more before.config before.word passed (shutdown run.word)

  pub trace_whole : traced after ≡ (traced before ++ actions_in run.deeds) ++ ends
  trace_whole = trace_passed ∙ ap (λ (xs : List Action). xs ++ ends) (shown_whole before.config before.word before.events run.deeds run.shown)

  pub run_legal : IsSound before.config → IsGood before → IsUnspent before → AllStand blank_book (traced after)
  run_legal sound good unspent = (replay_legal after.config after.word after.events (subst IsSound (sym run.config_after) sound) (run.good good) (run.unspent unspent)).each

  pub run_taken : (n : ℕ) → IsSound before.config → IsGood before → IsUnspent before → taken_in after n ≡ taken_in before n ++ taken n (calls_of run)
  run_taken n sound good unspent =
      let b = book (trace_of before.config before.word passed) in
      let stand = stand_front blank_book (traced before ++ actions_in run.deeds) ends (subst (AllStand blank_book) trace_whole (run_legal sound good unspent)) in
      let all : taken n (calls_of run) ≡ taken n (calls_in run.deeds) =
      taken_append n (calls_in run.deeds) (call.Word run.word ∷ close_calls run.closes) ∙ ap (λ (xs : List ℕ). taken n (calls_in run.deeds) ++ xs) (closes_taken n run.closes) ∙ append-nil (taken n (calls_in run.deeds)) in
      ap (λ (xs : List Action). taken_of (book xs) n) trace_passed
      ∙ ap (λ (x : Book). taken_of x n) (book_append (trace_of before.config before.word passed) ends)
      ∙ turn_taken (state_after before.config before.word passed) (shutdown run.word) b n tt
      ∙ opened_taken before.config before.word before.events early run.deeds n stand run.may run.shown
      ∙ ap (λ (xs : List ℕ). taken_in before n ++ xs) (sym all)

  -- where nothing was taken before
  pub run_takes_all : (n : ℕ) → IsSound before.config → IsGood before → IsUnspent before → AreUnwritten before.events → taken_in after n ≡ taken n (calls_of run)
  run_takes_all n sound good unspent quiet = run_taken n sound good unspent ∙ ap (λ (xs : List ℕ). xs ++ taken n (calls_of run)) (none_taken before.config before.word before.events n quiet)

-- what a world told in a run are the calls of the run
pub run_told : {early : List Action} {before after : History} {count : ℕ} {ending : Ending} (told calls : List Call) (run : Driven early (Some told) (Some (told ++ calls)) before after count ending) → calls_of run ≡ calls
run_told told calls run =
    let t = run.told.before (told ++ calls) refl in
    append_cancel_left told (calls_of run) calls (ap (λ (xs : List Call). xs ++ calls_of run) (same_some told t.0 t.1) ∙ sym t.2)
