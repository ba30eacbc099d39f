-- What a legal trace tells of each link is legal.
use Rattle.std.proofs.Common.{◌≡◌, ◌≢◌, inl, inr, ℕ, ◌-◌, ◌≤◌, ◌==◌, nat_lt, Bool, true, false, ◌&&◌, not, List, [], ◌∷◌, length, ◌||◌, Option, Some, None, is_some, arith, refl, sym, ◌∙◌, subst, ap}
use Rattle.std.specs.Prelude.{slice_get}
use Rattle.containers.proofs.Choices.{by_test, chosen, eq_from, ne_from, not_both, both_right, or_right, not_lt_from}
use Rattle.driver_model.specs.declared.action.Action.{Action}
use Rattle.driver_model.specs.declared.action.Action.TheVariants as action
use Rattle.driver_model.specs.declared.action.Cause.TheVariants as cause
use Rattle.driver_model.specs.declared.action.Owner.TheVariants as owner
use Rattle.driver_model.specs.declared.config.Config.{Config}
use Rattle.driver_model.specs.declared.event.Event.{Event}
use Rattle.driver_model.specs.declared.event.EventKind.{EventKind}
use Rattle.driver_model.specs.declared.event.EventKind.TheVariants as event
use Rattle.driver_model.specs.declared.news.LinkFault.TheVariants as fault
use Rattle.driver_model.specs.declared.action.Purpose.{Purpose}
use Rattle.driver_model.specs.declared.action.Purpose.TheVariants as purpose
use Rattle.driver_model.specs.declared.action.SourceUse.{SourceUse}
use Rattle.driver_model.specs.declared.action.SourceUse.TheVariants as source
use Rattle.driver_model.specs.News.{News, silence, connected, refused, overdue, took, came, failed, authorized, denied, deserted, renewed, unrenewed, late, unrepeated, news_of, of_timer, of_source}
use Rattle.legal_trace.specs.Ledger.{Ledger, Line, asks, begins, offers, ends, is_over, IsWithin, MayNote, AllNoted, sources, times, tells, repeats_timed, again_due, is_served}
use Rattle.legal_trace.specs.Story.{is_awaited, is_no_error, bytes_of}
use Rattle.legal_trace.specs.Managers.{settings_in, is_last}
use Rattle.legal_trace.specs.Book.{Book, blank_book, entered, lines_of, lines_of_each, if_mine, push_line, info_in, message_of, wanted_in, hearing_in, timer_lines}
use Rattle.legal_trace.specs.Events.{is_bad_event, is_no_link}
use Rattle.legal_trace.specs.Legal.{MayStand, MayStart, AllStand, Legal, MayTimer}
use Rattle.legal_trace.specs.Again.{repeats_in}
use Rattle.legal_laws.specs.Links.{LinksAreLegal, TakesInOrder, lines_for}
use Rattle.legal_trace.proofs.Ledgers.{may_append}
use Rattle.legal_trace.proofs.Setups.{due_is_up, due_has_bytes}
use Rattle.legal_trace.proofs.Renewals.{renewal_is_up, renewal_has_bytes}
use Rattle.legal_trace.proofs.Moves.{has_no_tries, open_or_told, mover_is_up, starter_moves}
use Rattle.legal_laws.proofs.Links.Streams.{takes_in_order}
use Rattle.legal_laws.proofs.Traces.Sound.{Sound, stays_sound, blank_is_sound}
use Rattle.legal_laws.proofs.Submissions.Owes.{has_bytes}
use Rattle.legal_laws.proofs.Notices.Told.{push_may}
use Rattle.legal_laws.proofs.Internal.Repeats.{again_has_bytes, repeats_subscribed}
use Rattle.legal_trace.proofs.Watching.{watch_is_up, monitor_has_bytes}
use Rattle.legal_trace.proofs.Again.{again_is_up, due_repeats, repeating_is_unserved}

-- a line that is told one link alone
may_mine : (mine : Bool) (l : Ledger) (x : Line) → (mine ≡ true → MayNote l x) → AllNoted l (if_mine mine x)
may_mine true l x may = (may refl, tt)
may_mine false l x may = tt

-- of two that don't both hold, where the first does
not_the_second : (over less : Bool) → (not over && less) ≡ false → over ≡ false → less ≡ false
not_the_second true less e f = cc
not_the_second false less e f = e

-- no more bytes are taken than were offered
wrote_within : (b : Book) (l count : ℕ) → (is_no_link b l || (not (is_over (b.link l)) && nat_lt (length (b.link l).offer) count)) ≡ false → Sound b → (b.link l).up ≡ true → count ≤ length (b.link l).offer
wrote_within b l count good h up =
    let over : is_over (b.link l) ≡ false = ap is_some (h.up l up) in
    not_lt_from (length (b.link l).offer) count (not_the_second (is_over (b.link l)) (nat_lt (length (b.link l).offer) count) (or_right (is_no_link b l) (not (is_over (b.link l)) && nat_lt (length (b.link l).offer) count) good) over)

-- a timer that fires takes none
of_timer_within : (l : Ledger) (n : ℕ) (what : Option Purpose) → IsWithin l (of_timer n what)
of_timer_within l n None = tt
of_timer_within l n (Some (purpose.Connect m)) = chosen (IsWithin l) (m == n) overdue silence (λ t. tt) (λ f. tt)
of_timer_within l n (Some (purpose.Response who)) = tt
of_timer_within l n (Some (purpose.Renewal m k)) = chosen (IsWithin l) (m == n) (late k) silence (λ t. tt) (λ f. tt)
of_timer_within l n (Some (purpose.Backoff g)) = tt
of_timer_within l n (Some (purpose.Resubscription m)) = chosen (IsWithin l) (m == n) unrepeated silence (λ t. tt) (λ f. tt)

-- nor does what comes of a source
of_source_within : (l : Ledger) (n : ℕ) (what : Option SourceUse) (first later : News) → IsWithin l first → IsWithin l later → IsWithin l (of_source n what first later)
of_source_within l n None first later one two = tt
of_source_within l n (Some (source.Setup m)) first later one two = chosen (IsWithin l) (m == n) first silence (λ t. one) (λ f. tt)
of_source_within l n (Some (source.Renewal m)) first later one two = chosen (IsWithin l) (m == n) later silence (λ t. two) (λ f. tt)

-- an event that isn't bad is within what was offered
within : (b : Book) (l : ℕ) (kind : EventKind) → is_bad_event b kind ≡ false → Sound b → IsWithin (b.link l) (news_of b.timers b.sources l kind)
unfolding is_bad_event
within b l (event.Connected m) good h = chosen (IsWithin (b.link l)) (m == l) connected silence (λ t. tt) (λ f. tt)
within b l (event.Refused m f) good h = chosen (IsWithin (b.link l)) (m == l) (refused f) silence (λ t. tt) (λ e. tt)
within b l (event.Fired t) good h = of_timer_within (b.link l) l (slice_get b.timers t)
within b l (event.Wrote m count) good h =
    chosen (IsWithin (b.link l)) (m == l) (took count) silence
    (λ t. subst (λ j. (b.link j).up ≡ true → count ≤ length (b.link j).offer) (eq_from m l t) (wrote_within b m count good h))
    (λ f. tt)
within b l (event.Bytes m piece) good h = chosen (IsWithin (b.link l)) (m == l) (came piece) silence (λ t. tt) (λ f. tt)
within b l (event.Ended m) good h = chosen (IsWithin (b.link l)) (m == l) (failed fault.Ended) silence (λ t. tt) (λ f. tt)
within b l (event.ReadFault m kind) good h = chosen (IsWithin (b.link l)) (m == l) (failed (fault.Io kind)) silence (λ t. tt) (λ f. tt)
within b l (event.WriteFault m kind) good h = chosen (IsWithin (b.link l)) (m == l) (failed (fault.Io kind)) silence (λ t. tt) (λ f. tt)
within b l event.DropStream good h = tt
within b l event.Shutdown good h = tt
within b l (event.Timeout ms) good h = tt
within b l (event.Creds c auth) good h = of_source_within (b.link l) l (slice_get b.sources c) (authorized auth) (renewed auth) tt tt
within b l (event.CredsError c text) good h = of_source_within (b.link l) l (slice_get b.sources c) (denied text) silence tt tt
within b l (event.CredsEnd c) good h = of_source_within (b.link l) l (slice_get b.sources c) deserted unrenewed tt tt
within b l (event.Submit what) good h = tt
within b l (event.Cancel n) good h = tt

-- a message that may start has bytes
pub starts_with_bytes : (b : Book) (l k n count len : ℕ) → MayStart b l k n count len → Sound b → bytes_of (b.story n) ≢ []
starts_with_bytes b l k n count len may h = elim (open_or_told (b.story n) may.unstarted) [
  | inl o ↦ has_bytes b (b.story n) (may.begun.applied.shown.answered n o)
  | inr told ↦ (h.once n).told (both_right (not (is_awaited (b.story n))) (is_no_error (b.story n).outcomes) told) (has_no_tries (b.story n) may.unstarted)
]

-- the link of a connect was not asked for before
connects_new : (b : Book) (l m : ℕ) → m ≡ b.links → Sound b → (m == l) ≡ true → (b.link l).asked ≡ false
connects_new b l m next h t = let e : m ≡ l = eq_from m l t in (h.links.unasked l (omega arith)).0

-- a timer tells a link what may stand there: that one was asked for new credentials where one is to be, or for what is subscribed again
timer_may : (b : Book) (l t ms : ℕ) (what : Purpose) → MayTimer b t ms what → AllNoted (b.link l) (timer_lines l what)
timer_may b l t ms what (inl (inl may)) = subst (λ p. AllNoted (b.link l) (timer_lines l p)) (sym may.is_for) tt
timer_may b l t ms what (inl (inr may)) = subst (λ p. AllNoted (b.link l) (timer_lines l p)) (sym may.is_for) tt
timer_may b l t ms what (inr (inl may)) = subst (λ p. AllNoted (b.link l) (timer_lines l p)) (sym may.is_for) tt
timer_may b l t ms what (inr (inr (inl may))) = subst (λ p. AllNoted (b.link l) (timer_lines l p)) (sym may.is_for)
    (may_mine (may.l == l) (b.link l) times (λ e. subst (λ j. MayNote (b.link j) times) (eq_from may.l l e) may.asked))
timer_may b l t ms what (inr (inr (inr may))) = subst (λ p. AllNoted (b.link l) (timer_lines l p)) (sym may.is_for)
    (may_mine (may.l == l) (b.link l) repeats_timed (λ e. subst (λ j. MayNote (b.link j) repeats_timed) (eq_from may.l l e) (may.due, may.once)))

-- where it is to be subscribed again, something is subscribed
pub due_repeats_some : (b : Book) (l : ℕ) → Sound b → again_due (b.link l) ≡ true → repeats_in (settings_in b.config) b.tracked ≡ true
due_repeats_some b l h due =
    let unserved : is_served (b.link l) ≡ false = repeating_is_unserved (b.link l) (due_repeats (b.link l) due) in
    by_test (l == b.current) (repeats_in (settings_in b.config) b.tracked ≡ true)
    (λ t. h.repeats.holds (sym (ap (λ j. is_served (b.link j)) (eq_from l b.current t)) ∙ unserved))
    (λ f. absurd (not_both (b.link l).up (h.lives.aside l (ne_from l b.current f)).down (again_is_up (b.link l) due)))

-- what an action that may stand tells of a link may stand there
pub lines_may : (b : Book) (l : ℕ) (a : Action) → MayStand b a → Sound b → AllNoted (b.link l) (lines_of b l a)
lines_may b l (action.Turn k (cause.Opening config word)) may h = tt
lines_may b l (action.Turn k (cause.Event e)) may h = (within b l e.kind may.is_for.2 h, tt)
lines_may b l (action.Connect m host port) may h = may_mine (m == l) (b.link l) (asks (info_in b.config) (wanted_in b.config) (hearing_in b.config) (is_last (settings_in b.config) b.attempt) (repeats_in (settings_in b.config) b.tracked)) (connects_new b l m may.next h)
lines_may b l (action.Timer t ms what) may h = timer_may b l t ms what may
lines_may b l (action.Took owner.Setup m count) may h = absurd may
lines_may b l (action.Took owner.Auth m count) may h = absurd may
lines_may b l (action.Took owner.Resub m count) may h = absurd may
lines_may b l (action.Took owner.Monitor m count) may h = absurd may
lines_may b l (action.Took (owner.Try n round) m count) may h = tt
lines_may b l (action.Push m info) may h = may_mine (m == l) (b.link l) (push_line info.kind) (λ t. subst (λ j. MayNote (b.link j) (push_line info.kind)) (eq_from m l t) (push_may b m info may))
lines_may b l (action.Message msg) may h = may_mine (b.current == l) (b.link l) tells (λ t. subst (λ j. MayNote (b.link j) tells) (eq_from b.current l t) (ap is_some may.next))
lines_may b l (action.Monitor v) may h = may_mine (b.current == l) (b.link l) tells (λ t. subst (λ j. MayNote (b.link j) tells) (eq_from b.current l t) (ap is_some may.next))
lines_may b l (action.NeedCreds c m) may h = may_mine (m == l) (b.link l) sources (λ t. subst (λ j. MayNote (b.link j) sources) (eq_from m l t) may.due)
lines_may b l (action.Generation g) may h = tt
lines_may b l (action.Round who m) may h = tt
lines_may b l (action.Close m) may h = may_mine (m == l) (b.link l) (ends (b.turns - 1)) (λ t. subst (λ j. MayNote (b.link j) (ends (b.turns - 1))) (eq_from m l t) (may.why, may.ends))
lines_may b l (action.Write m bytes) may h = may_mine (m == l) (b.link l) (offers bytes) (λ t. subst (λ j. MayNote (b.link j) (offers bytes)) (eq_from m l t) (may.up, may.answered, may.all, may.some))
lines_may b l (action.Wait owner.Setup kind) may h = absurd may
lines_may b l (action.Wait owner.Auth kind) may h = absurd may
lines_may b l (action.Wait owner.Resub kind) may h = absurd may
lines_may b l (action.Wait owner.Monitor kind) may h = absurd may
lines_may b l (action.Wait (owner.Try n round) kind) may h = tt
lines_may b l (action.Start m k owner.Setup count len) may h =
    may_mine (m == l) (b.link l) (begins (message_of b m owner.Setup))
    (λ t. (subst (λ j. (b.link j).up ≡ true) (eq_from m l t) (due_is_up (b.link m) may.k may.due), due_has_bytes (b.link m) may.k may.due))
lines_may b l (action.Start m k owner.Resub count len) may h =
    may_mine (m == l) (b.link l) (begins (message_of b m owner.Resub))
    (λ t. (subst (λ j. (b.link j).up ≡ true) (eq_from m l t) (again_is_up (b.link m) may.due), again_has_bytes b.tracked (repeats_subscribed (settings_in b.config) b.tracked (due_repeats_some b m h may.due))))
lines_may b l (action.Start m k owner.Monitor count len) may h =
    may_mine (m == l) (b.link l) (begins (message_of b m owner.Monitor))
    (λ t. (subst (λ j. (b.link j).up ≡ true) (eq_from m l t) (watch_is_up (b.link m) may.due), monitor_has_bytes))
lines_may b l (action.Start m k owner.Auth count len) may h =
    may_mine (m == l) (b.link l) (begins (message_of b m owner.Auth))
    (λ t. (subst (λ j. (b.link j).up ≡ true) (eq_from m l t) (renewal_is_up (b.link m) may.credentials may.due), renewal_has_bytes (b.link m) may.credentials may.due))
lines_may b l (action.Start m k (owner.Try n round) count len) may h =
    may_mine (m == l) (b.link l) (begins (message_of b m (owner.Try n round)))
    (λ t. (subst (λ j. (b.link j).up ≡ true) (sym may.1.on_its_link ∙ eq_from m l t) (mover_is_up b n (starter_moves b m k n count len may.1)), starts_with_bytes b m k n count len may.1 h))
lines_may b l (action.Created e) may h = tt
lines_may b l (action.Outcome n o) may h = tt

-- so what actions tell that may stand, behind what is in a book
pub each_may : (b : Book) (l : ℕ) (trace : List Action) → AllStand b trace → Sound b → AllNoted (b.link l) (lines_of_each b l trace)
each_may b l [] all h = tt
each_may b l (a ∷ more) all h =
    may_append (b.link l) (lines_of b l a) (lines_of_each (entered b a) l more) (lines_may b l a all.0 h)
    (each_may (entered b a) l more all.1 (stays_sound b a all.0 h))

-- and what a legal trace tells
pub links_are_legal : (config : Config) (word : ℕ) (events : List Event) (trace : List Action) → Legal config word events trace → LinksAreLegal trace
links_are_legal config word events trace h l = each_may blank_book l trace h.each blank_is_sound

-- so the bytes of each link are in order
pub links_take_in_order : (config : Config) (word : ℕ) (events : List Event) (trace : List Action) → Legal config word events trace → (l : ℕ) → TakesInOrder (lines_for trace l)
links_take_in_order config word events trace h l = takes_in_order (lines_for trace l) (links_are_legal config word events trace h l)
