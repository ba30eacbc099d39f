-- The events that may come of what may be done are good.
use Rattle.std.proofs.Common.{◌≡◌, ℕ, ◌<◌, ◌≤◌, nat_lt, nat_le, Bool, true, false, ◌&&◌, ◌||◌, not, List, ◌++◌, length, Option, Some, is_some, refl, sym, ◌∙◌, subst, arith}
use Rattle.std.proofs.lemmas.Bool.Decides.{nat_tests}
use Rattle.containers.proofs.Choices.{not_le_test, not_both}
use Rattle.driver_model.specs.declared.config.Config.{Config}
use Rattle.driver_model.specs.declared.event.Event.{Event}
use Rattle.driver_model.specs.declared.event.EventKind.{EventKind}
use Rattle.outside.specs.declared.world.Call.{Call}
use Rattle.outside.specs.declared.world.Call.TheVariants as call
use Rattle.outside.specs.declared.world.Dialed.TheVariants as dialed
use Rattle.outside.specs.declared.world.LinkGot.TheVariants as got
use Rattle.outside.specs.declared.world.LinkPut.TheVariants as put
use Rattle.single_session.specs.Replay.{trace_of, AreGood, AreUnspent, is_bad_after}
use Rattle.legal_trace.specs.Ledger.{is_over}
use Rattle.legal_trace.specs.Book.{Book, blank_book, book}
use Rattle.legal_trace.specs.Events.{is_bad_event}
use Rattle.legal_trace.specs.Legal.{AllStand, Legal}
use Rattle.legal_trace.proofs.Books.{stand_front}
use Rattle.live_run.specs.Passes.{Each}
use Rattle.live_run.specs.declared.agenda.Agenda.{Agenda}
use Rattle.live_run.specs.declared.links.Link.{Link}
use Rattle.live_run.specs.Agenda.{agenda_of, offer_of}
use Rattle.shared_session.specs.History.{History}
use Rattle.shared_session.specs.declared.errors.StepError.TheVariants.{BadEvent}
use Rattle.live_run.specs.Deeds.{Broke, IsGood, IsUnspent, Deed, IsFirstOf, answer_of, events_in, actions_in, after_each, MayCall, AllMay, MayStep, of_call, of_timer, of_end, AreShown}
use Rattle.live_run.proofs.Shown.{shown_whole}
use Rattle.live_run.proofs.Agendas.{due, first_dialled, offering, up, each_as}
use Rattle.live_run.proofs.Standing.{IsKnownLink, Knows}
use Rattle.live_run.proofs.Early.{agenda_stands, book_stands, deeds_stand, known_of}

-- what is no event of a book's links and timers
neither : (a b : Bool) → a ≡ false → b ≡ false → (a || b) ≡ false
neither true b f g = absurd (not_both true f refl)
neither false b f g = g

within_offer : (over : Bool) (size count : ℕ) → (over ≡ false → count ≤ size) → (not over && nat_lt size count) ≡ false
within_offer true size count h = refl
within_offer false size count h = let le = h refl in grind (arith, nat_tests, le)

abbrev IsGoodKind : Book → EventKind → Type 0
IsGoodKind b kind = is_bad_event b kind ≡ false

module _ (a : Agenda) (b : Book) (h : Knows b a) where
  link_up : (l room : ℕ) → (room ≡ 65_536) × (is_some (offer_of l a.links) ≡ true) → nat_le b.links l ≡ false
  link_up l room may = not_le_test b.links l (up (λ n. n < b.links) l a.links (each_as (IsKnownLink b) (λ (x : Link). x.number < b.links) (λ x known. known.0) a.links h.links) may.1)

  link_dialled : (l : ℕ) (name : List ℕ) (port : ℕ) → IsFirstOf a.dials l name port → nat_le b.links l ≡ false
  link_dialled l name port may = not_le_test b.links l (first_dialled (λ n. n < b.links) a.dials l name port h.dials may)

  link_written : (l : ℕ) (piece : List ℕ) → offer_of l a.links ≡ Some piece → (nat_le b.links l ≡ false) × (is_over (b.link l) ≡ false → length piece ≤ length (b.link l).offer)
  link_written l piece is =
      let x = offering (IsKnownLink b) l a.links piece h.links is in
      let known = x.3 in (
        not_le_test b.links l (subst (λ n. n < b.links) x.1 known.0),
        subst (λ (bytes : List ℕ). is_over (b.link l) ≡ false → length bytes ≤ length (b.link l).offer) x.2 (subst (λ n. is_over (b.link n) ≡ false → length x.0.offer ≤ length (b.link n).offer) x.1 known.1),
      )

  call_good : (c : Call) → MayCall a c → Each (IsGoodKind b) (answer_of c)
  unfolding is_bad_event
  call_good (call.Dial l host port dialed.Yes) may = (link_dialled l host port may.0, tt)
  call_good (call.Dial l host port (dialed.Failed fault)) may = (link_dialled l host port may.0, tt)
  call_good (call.Read l room (got.Read n) bytes) may = (link_up l room may, tt)
  call_good (call.Read l room got.NotYet bytes) may = tt
  call_good (call.Read l room got.Ended bytes) may = (link_up l room may, tt)
  call_good (call.Read l room (got.Failed fault) bytes) may = (link_up l room may, tt)
  call_good (call.Write l piece (put.Took n)) may =
      let w = link_written l piece may.1 in
      (neither (nat_le b.links l) _ w.0 (within_offer (is_over (b.link l)) (length (b.link l).offer) n (λ going. omega (arith, w.1 going, may.2.1))), tt)
  call_good (call.Write l piece put.NotYet) may = tt
  call_good (call.Write l piece (put.Failed fault)) may = ((link_written l piece may.1).0, tt)
  call_good (call.Close l) may = tt
  call_good (call.Now moment) may = tt
  call_good (call.Word word) may = tt
  call_good (call.Wait ms) may = tt

  step_good : (kind : EventKind) → MayStep a kind → IsGoodKind b kind
  unfolding is_bad_event
  step_good _ (of_call c may kind is) = (subst (Each (IsGoodKind b)) is (call_good c may)).0
  step_good _ (of_timer timer is) = not_le_test (length b.timers) timer (due (λ n. n < length b.timers) a.moment a.timers timer h.timers is)
  step_good _ of_end = refl

-- where a history is legal, and its bad events are those of its book, a driver steps none of them
pub no_bad_step : (config : Config) (word : ℕ) (opened : List Event) (deeds : List Deed) (e : Event) → Legal config word (opened ++ events_in deeds) (trace_of config word (opened ++ events_in deeds))
    → is_bad_after config word (opened ++ events_in deeds) e ≡ is_bad_event (book (trace_of config word (opened ++ events_in deeds))) e.kind → AreShown config word opened deeds
    → AllMay (agenda_of (trace_of config word opened)) deeds → MayStep (after_each (agenda_of (trace_of config word opened)) deeds) e.kind → is_bad_after config word (opened ++ events_in deeds) e ≡ true → ⊥
no_bad_step config word opened deeds e legal by_book shown may step bad =
    let front = trace_of config word opened in
    let all = subst (AllStand blank_book) (shown_whole config word opened deeds shown) legal.each in
    let stands = deeds_stand config word deeds opened (agenda_of front) (book_stands front (actions_in deeds) all) may shown (agenda_stands front (stand_front blank_book front (actions_in deeds) all)) in
    let b = book (trace_of config word (opened ++ events_in deeds)) in
    let a = after_each (agenda_of front) deeds in
    not_both true (sym bad ∙ by_book ∙ step_good a b (known_of b a stands) e.kind step) refl

-- so no run breaks off for one
pub breaks_good : {old new : Option (List Call)} (before later : History)
    → ((es : List Event) → AreGood before.config before.word es → AreUnspent before.config before.word es → Legal before.config before.word es (trace_of before.config before.word es))
    → ((es : List Event) (e : Event) → AreGood before.config before.word es → AreUnspent before.config before.word es → is_bad_after before.config before.word es e ≡ is_bad_event (book (trace_of before.config before.word es)) e.kind)
    → IsGood before → IsUnspent before
    → Broke BadEvent old new before later (agenda_of (trace_of before.config before.word before.events)) → ⊥
breaks_good before later legal by_book good unspent broke =
    let last = broke.last in
    let went = broke.went in
    let whole = before.events ++ events_in broke.deeds in
    let still_good : AreGood before.config before.word whole = subst (λ (es : List Event). AreGood before.config before.word es) went.grown
    (subst (λ (word : ℕ). AreGood before.config word last.events) went.word (subst (λ (config : Config). AreGood config last.word last.events) went.config (went.good good))) in
    let still_unspent : AreUnspent before.config before.word whole = subst (λ (es : List Event). AreUnspent before.config before.word es) went.grown
    (subst (λ (word : ℕ). AreUnspent before.config word last.events) went.word (subst (λ (config : Config). AreUnspent config last.word last.events) went.config (went.unspent unspent))) in
    let e = broke.why.0 in
    let bad : is_bad_after before.config before.word whole e ≡ true = (λ i. is_bad_after (sym went.config i) (sym went.word i) (sym went.grown i) e) ∙ broke.why.2 in
    no_bad_step before.config before.word before.events broke.deeds e (legal whole still_good still_unspent) (by_book whole e still_good still_unspent) broke.shown broke.may broke.why.1 bad
