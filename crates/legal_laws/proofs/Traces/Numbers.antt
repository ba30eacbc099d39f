-- Links and submissions are numbered in order.
use Rattle.std.proofs.Common.{◌≡◌, ◌≢◌, ◌⊎◌, inl, inr, ℕ, ◌+◌, ◌-◌, ◌<◌, ◌≤◌, ◌==◌, nat_le, Bool, true, false, ◌&&◌, not, Option, Some, None, if◌then◌else◌, refl, sym, ap, ◌∙◌, subst, arith, max}
use Rattle.std.specs.Prelude.{slice_get}
use Rattle.containers.proofs.Choices.{by_test, chosen, eq_from, left_if, le_from, not_le_from, ne_test, ne_from, not_both, both_right}
use Rattle.driver_model.specs.declared.action.Action.{Action}
use Rattle.driver_model.specs.declared.action.Action.TheVariants as action
use Rattle.driver_model.specs.declared.action.Cause.TheVariants as cause
use Rattle.driver_model.specs.declared.action.Owner.TheVariants as owner
use Rattle.driver_model.specs.declared.event.EventKind.{EventKind}
use Rattle.driver_model.specs.declared.event.EventKind.TheVariants as event
use Rattle.driver_model.specs.declared.news.LinkFault.TheVariants as fault
use Rattle.driver_model.specs.declared.action.Purpose.{Purpose}
use Rattle.driver_model.specs.declared.action.Purpose.TheVariants as purpose
use Rattle.driver_model.specs.declared.action.SourceUse.{SourceUse}
use Rattle.driver_model.specs.declared.action.SourceUse.TheVariants as source
use Rattle.driver_model.specs.News.{News, silence, connected, refused, overdue, took, came, failed, authorized, denied, deserted, renewed, unrenewed, late, unrepeated, news_of, for_link, of_timer, of_source}
use Rattle.driver_model.specs.declared.outcome.Outcome.{Outcome}
use Rattle.legal_trace.specs.Ledger.{Ledger, End, asks, begins, offers, ends, is_over, ending, ending_alive, ending_asked, noted_each, sources}
use Rattle.legal_trace.specs.Story.{Story, blank_story, is_open, is_told, handed_in, carried, left, holds, clocked, rounds, fires, tried, waits, answered}
use Rattle.legal_trace.specs.Managers.{settings_in, is_last}
use Rattle.legal_trace.specs.Book.{Book, entered, lines_of, if_mine, if_own, info_in, message_of, is_clock_of, is_rest, after_event, after_timer, submitted_by, is_unspoken, wanted_in, hearing_in}
use Rattle.legal_trace.specs.Events.{is_bad_event}
use Rattle.legal_trace.specs.Legal.{MayAnswer, MayTell, MayTimer, MayStand, IsOpen, CanMove}
use Rattle.legal_trace.specs.Again.{repeats_in}
use Rattle.legal_trace.proofs.Clocks.{timer_tells}
use Rattle.legal_trace.proofs.Ledgers.{each_keeps, mine_keeps, IsAsked, asked_keeps, IsUnasked, unasked_hears}
use Rattle.legal_trace.proofs.Plain.{not_none}
use Rattle.legal_trace.proofs.Moves.{open_or_told, starter_moves, taker_moves, asker_moves}
use Rattle.legal_laws.proofs.Notices.Pushed.{push_keeps, tell_keeps}
use Rattle.legal_laws.proofs.Submissions.Rounds.{round_moves}

-- the links below that number were asked for, and no others
pub record LinksAreNumbered (links : ℕ) (link : ℕ → Ledger) : Type 0 where
  pub asked : (l : ℕ) → l < links → IsAsked (link l)
  pub unasked : (l : ℕ) → links ≤ l → IsUnasked (link l)

-- so it is in a book
abbrev pub HasLinks : Book → Type 0
HasLinks b = LinksAreNumbered b.links b.link

-- news of other kinds is no connect, for one link or for none
not_for_link : (mine : Bool) (x : News) → (x ≡ connected → ⊥) → for_link mine x ≡ connected → ⊥
not_for_link true x other e = other e
not_for_link false x other e = cc e

-- nor is a timer that fires
not_of_timer : (l : ℕ) (what : Option Purpose) → of_timer l what ≡ connected → ⊥
not_of_timer l None e = cc e
not_of_timer l (Some (purpose.Connect m)) e = not_for_link (m == l) overdue (λ x. cc x) e
not_of_timer l (Some (purpose.Response who)) e = cc e
not_of_timer l (Some (purpose.Renewal m k)) e = not_for_link (m == l) (late k) (λ x. cc x) e
not_of_timer l (Some (purpose.Backoff g)) e = cc e
not_of_timer l (Some (purpose.Resubscription m)) e = not_for_link (m == l) unrepeated (λ x. cc x) e

-- nor is what comes of a source
not_of_source : (l : ℕ) (what : Option SourceUse) (first later : News) → (first ≡ connected → ⊥) → (later ≡ connected → ⊥) → of_source l what first later ≡ connected → ⊥
not_of_source l None first later one two e = cc e
not_of_source l (Some (source.Setup m)) first later one two e = not_for_link (m == l) first one e
not_of_source l (Some (source.Renewal m)) first later one two e = not_for_link (m == l) later two e

-- the connect of a link that was not asked for can't succeed
pub not_connected : (b : Book) (l : ℕ) (kind : EventKind) → b.links ≤ l → is_bad_event b kind ≡ false → news_of b.timers b.sources l kind ≡ connected → ⊥
unfolding is_bad_event
not_connected b l (event.Connected m) i good e =
    let known : m < b.links = not_le_from b.links m good in
    let other : (m == l) ≡ false = ne_test m l (omega arith) in
    let quiet : silence ≡ connected = sym (left_if (m == l) connected silence other) ∙ e in cc quiet
not_connected b l (event.Refused m f) i good e = not_for_link (m == l) (refused f) (λ x. cc x) e
not_connected b l (event.Fired t) i good e = not_of_timer l (slice_get b.timers t) e
not_connected b l (event.Wrote m count) i good e = not_for_link (m == l) (took count) (λ x. cc x) e
not_connected b l (event.Bytes m piece) i good e = not_for_link (m == l) (came piece) (λ x. cc x) e
not_connected b l (event.Ended m) i good e = not_for_link (m == l) (failed fault.Ended) (λ x. cc x) e
not_connected b l (event.ReadFault m kind) i good e = not_for_link (m == l) (failed (fault.Io kind)) (λ x. cc x) e
not_connected b l (event.WriteFault m kind) i good e = not_for_link (m == l) (failed (fault.Io kind)) (λ x. cc x) e
not_connected b l event.DropStream i good e = cc e
not_connected b l event.Shutdown i good e = cc e
not_connected b l (event.Timeout ms) i good e = cc e
not_connected b l (event.Creds c auth) i good e = not_of_source l (slice_get b.sources c) (authorized auth) (renewed auth) (λ x. cc x) (λ x. cc x) e
not_connected b l (event.CredsError c text) i good e = not_of_source l (slice_get b.sources c) (denied text) silence (λ x. cc x) (λ x. cc x) e
not_connected b l (event.CredsEnd c) i good e = not_of_source l (slice_get b.sources c) deserted unrenewed (λ x. cc x) (λ x. cc x) e
not_connected b l (event.Submit s) i good e = cc e
not_connected b l (event.Cancel s) i good e = cc e

-- a link that was not asked for doesn't end
pub unasked_stays : (l : Ledger) → IsUnasked l → ending l ≡ None
unasked_stays l h = left_if l.up (ending_alive l) (if l.asked && not (is_over l) then ending_asked l l.heard else None) h.1 ∙ left_if (l.asked && not (is_over l)) (ending_asked l l.heard) None (ap (λ x. x && not (is_over l)) h.0)

-- a link that was not asked for is told nothing of its own
unasked_kept : (b : Book) (l : ℕ) (a : Action) → MayStand b a → (entered b a).links ≤ l → IsUnasked (b.link l) → IsUnasked (noted_each (b.link l) (lines_of b l a))
unasked_kept b l (action.Turn k (cause.Opening config word)) may i h = h
unasked_kept b l (action.Turn k (cause.Event e)) may i h = unasked_hears (b.link l) k (news_of b.timers b.sources l e.kind) (not_connected b l e.kind i may.is_for.2) h
unasked_kept b l (action.Connect m host port) may i h =
    let e : m ≡ b.links = may.next in
    let other : (m == l) ≡ false = ne_test m l (omega arith) in
    mine_keeps IsUnasked (m == l) (b.link l) (asks (info_in b.config) (wanted_in b.config) (hearing_in b.config) (is_last (settings_in b.config) b.attempt) (repeats_in (settings_in b.config) b.tracked)) (λ t. absurd (not_both (m == l) other t)) h
unasked_kept b l (action.Timer t ms what) may i h = timer_tells IsUnasked (b.link l) l what (λ on k is t. h) (λ on is t. h) h
unasked_kept b l (action.Took who m count) may i h = h
unasked_kept b l (action.Push m info) may i h = push_keeps IsUnasked (m == l) info.kind (b.link l) h h h
unasked_kept b l (action.Message msg) may i h = tell_keeps IsUnasked (b.current == l) (b.link l) h h
unasked_kept b l (action.Monitor v) may i h = tell_keeps IsUnasked (b.current == l) (b.link l) h h
unasked_kept b l (action.NeedCreds c m) may i h = mine_keeps IsUnasked (m == l) (b.link l) sources (λ t. h) h
unasked_kept b l (action.Generation g) may i h = h
unasked_kept b l (action.Round who m) may i h = h
unasked_kept b l (action.Close m) may i h =
    mine_keeps IsUnasked (m == l) (b.link l) (ends (b.turns - 1))
    (λ t. absurd (not_none (ending (b.link m)) may.why (unasked_stays (b.link m) (subst (λ j. IsUnasked (b.link j)) (sym (eq_from m l t)) h)) may.ends)) h
unasked_kept b l (action.Write m bytes) may i h = mine_keeps IsUnasked (m == l) (b.link l) (offers bytes) (λ t. h) h
unasked_kept b l (action.Wait who kind) may i h = h
unasked_kept b l (action.Start m k who count len) may i h = mine_keeps IsUnasked (m == l) (b.link l) (begins (message_of b m who)) (λ t. h) h
unasked_kept b l (action.Created e) may i h = h
unasked_kept b l (action.Outcome n o) may i h = h

-- links are never taken back
pub links_grow : (b : Book) (a : Action) → b.links ≤ (entered b a).links
links_grow b (action.Turn k (cause.Opening config word)) = omega arith
links_grow b (action.Turn k (cause.Event e)) = omega arith
links_grow b (action.Connect m host port) = omega arith
links_grow b (action.Timer t ms what) = omega arith
links_grow b (action.Took who m count) = omega arith
links_grow b (action.Push m info) = omega arith
links_grow b (action.Message msg) = omega arith
links_grow b (action.Monitor v) = omega arith
links_grow b (action.NeedCreds c m) = omega arith
links_grow b (action.Generation g) = omega arith
links_grow b (action.Round who m) = omega arith
links_grow b (action.Close m) = omega arith
links_grow b (action.Write m bytes) = omega arith
links_grow b (action.Wait who kind) = omega arith
links_grow b (action.Start m k who count len) = omega arith
links_grow b (action.Created e) = omega arith
links_grow b (action.Outcome n o) = omega arith

-- what was asked for stays so, whatever is told
asked_stays : (b : Book) (l : ℕ) (a : Action) → IsAsked (b.link l) → IsAsked (noted_each (b.link l) (lines_of b l a))
asked_stays b l a h = each_keeps IsAsked asked_keeps (b.link l) (lines_of b l a) h

-- and a connect asks for the next one
pub asked_kept : (b : Book) (l : ℕ) (a : Action) → MayStand b a → HasLinks b → l < (entered b a).links → IsAsked ((entered b a).link l)
asked_kept b l (action.Turn k (cause.Opening config word)) may h i = asked_stays b l (action.Turn k (cause.Opening config word)) (h.asked l i)
asked_kept b l (action.Turn k (cause.Event e)) may h i = asked_stays b l (action.Turn k (cause.Event e)) (h.asked l i)
asked_kept b l (action.Connect m host port) may h i =
    let e : m ≡ b.links = may.next in
    by_test (m == l) (IsAsked (noted_each (b.link l) (if_mine (m == l) (asks (info_in b.config) (wanted_in b.config) (hearing_in b.config) (is_last (settings_in b.config) b.attempt) (repeats_in (settings_in b.config) b.tracked)))))
    (λ t. subst (λ (x : Bool). IsAsked (noted_each (b.link l) (if_mine x (asks (info_in b.config) (wanted_in b.config) (hearing_in b.config) (is_last (settings_in b.config) b.attempt) (repeats_in (settings_in b.config) b.tracked))))) (sym t) refl)
    (λ f. let other : m ≢ l = ne_from m l f in mine_keeps IsAsked (m == l) (b.link l) (asks (info_in b.config) (wanted_in b.config) (hearing_in b.config) (is_last (settings_in b.config) b.attempt) (repeats_in (settings_in b.config) b.tracked)) (λ t. refl) (h.asked l (omega arith)))
asked_kept b l (action.Timer t ms what) may h i = asked_stays b l (action.Timer t ms what) (h.asked l i)
asked_kept b l (action.Took owner.Setup m count) may h i = absurd may
asked_kept b l (action.Took owner.Auth m count) may h i = absurd may
asked_kept b l (action.Took owner.Resub m count) may h i = absurd may
asked_kept b l (action.Took owner.Monitor m count) may h i = absurd may
asked_kept b l (action.Took (owner.Try n round) m count) may h i = asked_stays b l (action.Took (owner.Try n round) m count) (h.asked l i)
asked_kept b l (action.Push m info) may h i = asked_stays b l (action.Push m info) (h.asked l i)
asked_kept b l (action.Message msg) may h i = asked_stays b l (action.Message msg) (h.asked l i)
asked_kept b l (action.Monitor v) may h i = asked_stays b l (action.Monitor v) (h.asked l i)
asked_kept b l (action.NeedCreds c m) may h i = asked_stays b l (action.NeedCreds c m) (h.asked l i)
asked_kept b l (action.Generation g) may h i = asked_stays b l (action.Generation g) (h.asked l i)
asked_kept b l (action.Round who m) may h i = asked_stays b l (action.Round who m) (h.asked l i)
asked_kept b l (action.Close m) may h i = asked_stays b l (action.Close m) (h.asked l i)
asked_kept b l (action.Write m bytes) may h i = asked_stays b l (action.Write m bytes) (h.asked l i)
asked_kept b l (action.Wait owner.Setup kind) may h i = absurd may
asked_kept b l (action.Wait owner.Auth kind) may h i = absurd may
asked_kept b l (action.Wait owner.Resub kind) may h i = absurd may
asked_kept b l (action.Wait owner.Monitor kind) may h i = absurd may
asked_kept b l (action.Wait (owner.Try n round) kind) may h i = asked_stays b l (action.Wait (owner.Try n round) kind) (h.asked l i)
asked_kept b l (action.Start m k owner.Setup count len) may h i = asked_stays b l (action.Start m k owner.Setup count len) (h.asked l i)
asked_kept b l (action.Start m k owner.Auth count len) may h i = asked_stays b l (action.Start m k owner.Auth count len) (h.asked l i)
asked_kept b l (action.Start m k owner.Resub count len) may h i = asked_stays b l (action.Start m k owner.Resub count len) (h.asked l i)
asked_kept b l (action.Start m k owner.Monitor count len) may h i = asked_stays b l (action.Start m k owner.Monitor count len) (h.asked l i)
asked_kept b l (action.Start m k (owner.Try n round) count len) may h i = asked_stays b l (action.Start m k (owner.Try n round) count len) (h.asked l i)
asked_kept b l (action.Created e) may h i = asked_stays b l (action.Created e) (h.asked l i)
asked_kept b l (action.Outcome n o) may h i = asked_stays b l (action.Outcome n o) (h.asked l i)

-- links stay numbered
pub links_kept : (b : Book) (a : Action) → MayStand b a → HasLinks b → HasLinks (entered b a)
links_kept b a may h = record {
  asked = λ l i. asked_kept b l a may h i;
  unasked = λ l i. unasked_kept b l a may i (h.unasked l (omega (arith, links_grow b a)));
}

-- a link that is up is numbered, and was asked for
pub up_is_numbered : (b : Book) (l : ℕ) → HasLinks b → (b.link l).up ≡ true → l < b.links
up_is_numbered b l h up = by_test (nat_le b.links l) (l < b.links)
    (λ t. absurd (not_both (b.link l).up (h.unasked l (le_from b.links l t)).1 up))
    (λ f. not_le_from b.links l f)

-- so is one that has ended
pub over_is_numbered : (b : Book) (l : ℕ) (end : End) → HasLinks b → (b.link l).end ≡ Some end → l < b.links
over_is_numbered b l end h over = by_test (nat_le b.links l) (l < b.links)
    (λ t. absurd (not_none (b.link l).end end (h.unasked l (le_from b.links l t)).2 over))
    (λ f. not_le_from b.links l f)

-- so is one that was asked for
pub asked_is_numbered : (b : Book) (l : ℕ) → HasLinks b → (b.link l).asked ≡ true → l < b.links
asked_is_numbered b l h asked = by_test (nat_le b.links l) (l < b.links)
    (λ t. absurd (not_both (b.link l).asked (h.unasked l (le_from b.links l t)).0 asked))
    (λ f. not_le_from b.links l f)

-- and one that is up was asked for
pub up_is_asked : (b : Book) (l : ℕ) → HasLinks b → (b.link l).up ≡ true → IsAsked (b.link l)
up_is_asked b l h up = h.asked l (up_is_numbered b l h up)

-- the submissions from that number on were not handed in
abbrev pub StoriesAreNumbered : ℕ → (ℕ → Story) → Type 0
StoriesAreNumbered submissions story = (n : ℕ) → submissions ≤ n → story n ≡ blank_story

-- so it is in a book
abbrev pub HasStories : Book → Type 0
HasStories b = StoriesAreNumbered b.submissions b.story

-- a submission that is open, or was told, is numbered
pub open_is_numbered : (b : Book) (n : ℕ) → HasStories b → IsOpen b n → n < b.submissions
open_is_numbered b n h o = by_test (nat_le b.submissions n) (n < b.submissions)
    (λ t. absurd (let e : false ≡ true = subst (λ (s : Story). is_open s ≡ true) (h n (le_from b.submissions n t)) o in cc e))
    (λ f. not_le_from b.submissions n f)

-- so is one that was told
told_is_numbered : (b : Book) (n : ℕ) → HasStories b → is_told (b.story n) ≡ true → n < b.submissions
told_is_numbered b n h o = by_test (nat_le b.submissions n) (n < b.submissions)
    (λ t. absurd (let e : false ≡ true = subst (λ (s : Story). is_told s ≡ true) (h n (le_from b.submissions n t)) o in cc e))
    (λ f. not_le_from b.submissions n f)

-- so is one that makes a step
pub mover_is_numbered : (b : Book) (n : ℕ) → HasStories b → CanMove b n → n < b.submissions
mover_is_numbered b n h moves = elim (open_or_told (b.story n) moves.unstarted) [ inl o ↦ open_is_numbered b n h o | inr told ↦ told_is_numbered b n h told ]

-- what happens to a numbered submission leaves the others blank
others_blank : (b : Book) (m n : ℕ) (changed : Story) → HasStories b → b.submissions ≤ n → m < b.submissions → (if m == n then changed else b.story n) ≡ blank_story
others_blank b m n changed h i k = left_if (m == n) changed (b.story n) (ne_test m n (omega arith)) ∙ h n i

-- a timer that fires is nothing to it
fires_blank : (s : Story) → s ≡ blank_story → fires s ≡ blank_story
fires_blank s e = ap fires e

-- nor is one that is asked for of another
clock_leaves_blank : (b : Book) (t ms : ℕ) (what : Purpose) (n : ℕ) → MayTimer b t ms what → HasStories b → b.submissions ≤ n → if_own (is_clock_of n (Some what)) (clocked (b.story n) t) (b.story n) ≡ blank_story
clock_leaves_blank b t ms what n (inl (inl may)) h i = ap (λ x. if_own (is_clock_of n (Some x)) (clocked (b.story n) t) (b.story n)) may.is_for ∙ h n i
clock_leaves_blank b t ms what n (inl (inr may)) h i = ap (λ x. if_own (is_clock_of n (Some x)) (clocked (b.story n) t) (b.story n)) may.is_for ∙ h n i
clock_leaves_blank b t ms what n (inr (inr (inl may))) h i = ap (λ x. if_own (is_clock_of n (Some x)) (clocked (b.story n) t) (b.story n)) may.is_for ∙ h n i
clock_leaves_blank b t ms what n (inr (inr (inr may))) h i = ap (λ x. if_own (is_clock_of n (Some x)) (clocked (b.story n) t) (b.story n)) may.is_for ∙ h n i
clock_leaves_blank b t ms what n (inr (inl may)) h i = ap (λ x. if_own (is_clock_of n (Some x)) (clocked (b.story n) t) (b.story n)) may.is_for ∙ others_blank b may.n n (clocked (b.story n) t) h i (mover_is_numbered b may.n h (asker_moves b t ms what may))

-- so whichever it is for
timer_leaves_blank : (b : Book) (t ms : ℕ) (what : Purpose) (n : ℕ) → MayTimer b t ms what → HasStories b → b.submissions ≤ n → after_timer b n t what ≡ blank_story
timer_leaves_blank b t ms what n may h i =
    chosen (λ s. s ≡ blank_story) (is_rest what && is_open (b.story n)) (carried (b.story n) b.links) (if_own (is_clock_of n (Some what)) (clocked (b.story n) t) (b.story n))
    (λ e. absurd (let numbered : n < b.submissions = open_is_numbered b n h (both_right (is_rest what) (is_open (b.story n)) e) in omega (arith, numbered, i)))
    (λ f. clock_leaves_blank b t ms what n may h i)

-- an event that isn't bad is nothing to a submission that was not handed in
event_leaves_blank : (b : Book) (n : ℕ) (kind : EventKind) → is_bad_event b kind ≡ false → HasStories b → b.submissions + submitted_by kind ≤ n → after_event b n kind ≡ blank_story
unfolding is_bad_event
event_leaves_blank b n (event.Submit what) good h i = left_if (b.submissions == n) (handed_in (b.story n) what b.shut (is_unspoken b what) (max 1 b.generation) b.current b.timeout) (b.story n) (ne_test b.submissions n (omega arith)) ∙ h n (omega arith)
event_leaves_blank b n (event.Cancel m) good h i = others_blank b m n (left (b.story n)) h (omega arith) (not_le_from b.submissions m good)
event_leaves_blank b n (event.Connected l) good h i = h n (omega arith)
event_leaves_blank b n (event.Refused l f) good h i = h n (omega arith)
event_leaves_blank b n (event.Fired t) good h i = chosen (λ s. s ≡ blank_story) (is_clock_of n (slice_get b.timers t)) (fires (b.story n)) (b.story n) (λ e. fires_blank (b.story n) (h n (omega arith))) (λ f. h n (omega arith))
event_leaves_blank b n (event.Timeout ms) good h i = h n (omega arith)
event_leaves_blank b n (event.Creds c auth) good h i = h n (omega arith)
event_leaves_blank b n (event.CredsError c text) good h i = h n (omega arith)
event_leaves_blank b n (event.CredsEnd c) good h i = h n (omega arith)
event_leaves_blank b n (event.Wrote l count) good h i = h n (omega arith)
event_leaves_blank b n (event.Bytes l piece) good h i = h n (omega arith)
event_leaves_blank b n (event.Ended l) good h i = h n (omega arith)
event_leaves_blank b n (event.ReadFault l kind) good h i = h n (omega arith)
event_leaves_blank b n (event.WriteFault l kind) good h i = h n (omega arith)
event_leaves_blank b n event.DropStream good h i = h n (omega arith)
event_leaves_blank b n event.Shutdown good h i = h n (omega arith)

-- an outcome is of a numbered submission
outcome_is_numbered : (b : Book) (n : ℕ) (o : Outcome) → HasStories b → MayAnswer b n o ⊎ MayTell b n o → n < b.submissions
outcome_is_numbered b n o h (inl owed) = open_is_numbered b n h owed.asked
outcome_is_numbered b n o h (inr told) = open_is_numbered b n h told.asked

-- submissions stay numbered
pub stories_kept : (b : Book) (a : Action) → MayStand b a → HasStories b → HasStories (entered b a)
stories_kept b (action.Turn k (cause.Opening config word)) may h n i = h n i
stories_kept b (action.Turn k (cause.Event e)) may h n i = event_leaves_blank b n e.kind may.is_for.2 h i
stories_kept b (action.Connect l host port) may h n i = h n i
stories_kept b (action.Timer t ms what) may h n i = timer_leaves_blank b t ms what n may h i
stories_kept b (action.Took owner.Setup l count) may h n i = absurd may
stories_kept b (action.Took owner.Auth l count) may h n i = absurd may
stories_kept b (action.Took owner.Resub l count) may h n i = absurd may
stories_kept b (action.Took owner.Monitor l count) may h n i = absurd may
stories_kept b (action.Took (owner.Try m round) l count) may h n i = others_blank b m n (holds (b.story n) count) h i (mover_is_numbered b m h (taker_moves b m l count may.1))
stories_kept b (action.Push l info) may h n i = h n i
stories_kept b (action.Message msg) may h n i = h n i
stories_kept b (action.Monitor v) may h n i = h n i
stories_kept b (action.NeedCreds c l) may h n i = h n i
stories_kept b (action.Generation g) may h n i = h n i
stories_kept b (action.Round owner.Setup on) may h n i = absurd may
stories_kept b (action.Round owner.Auth on) may h n i = absurd may
stories_kept b (action.Round owner.Resub on) may h n i = absurd may
stories_kept b (action.Round owner.Monitor on) may h n i = absurd may
stories_kept b (action.Round (owner.Try m round) on) may h n i = others_blank b m n (rounds (b.story n)) h i (mover_is_numbered b m h (round_moves b m on may.1))
stories_kept b (action.Close l) may h n i = h n i
stories_kept b (action.Write l bytes) may h n i = h n i
stories_kept b (action.Wait owner.Setup kind) may h n i = absurd may
stories_kept b (action.Wait owner.Auth kind) may h n i = absurd may
stories_kept b (action.Wait owner.Resub kind) may h n i = absurd may
stories_kept b (action.Wait owner.Monitor kind) may h n i = absurd may
stories_kept b (action.Wait (owner.Try m round) kind) may h n i = others_blank b m n (waits (b.story n) kind) h i (open_is_numbered b m h may.1.asked)
stories_kept b (action.Start l k owner.Setup count len) may h n i = h n i
stories_kept b (action.Start l k owner.Auth count len) may h n i = h n i
stories_kept b (action.Start l k owner.Resub count len) may h n i = h n i
stories_kept b (action.Start l k owner.Monitor count len) may h n i = h n i
stories_kept b (action.Start l k (owner.Try m round) count len) may h n i = others_blank b m n (tried (b.story n) l k) h i (mover_is_numbered b m h (starter_moves b l k m count len may.1))
stories_kept b (action.Created e) may h n i = h n i
stories_kept b (action.Outcome m o) may h n i = others_blank b m n (answered (b.story n) o) h i (outcome_is_numbered b m o h may)
