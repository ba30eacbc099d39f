-- Submissions go to the current link, or went to one before it, in any trace whose actions may stand.
use Rattle.std.proofs.Common.{◌≡◌, ◌≢◌, inl, inr, ℕ, ◌+◌, ◌-◌, ◌≤◌, ◌==◌, nat_lt, Bool, true, false, ◌&&◌, ◌||◌, not, List, [], ◌∷◌, ◌++◌, length, Option, Some, None, is_none, is_some, slice_get, if◌then◌else◌, refl, sym, ap, ◌∙◌, subst, arith}
use Rattle.std.proofs.Math.Nat.{le_refl}
use Rattle.containers.proofs.Choices.{both_left, by_test, chosen, lt_from, not_both, taken_if}
use Rattle.driver_model.specs.declared.action.Action.{Action}
use Rattle.driver_model.specs.declared.action.Action.TheVariants as action
use Rattle.driver_model.specs.declared.action.Cause.TheVariants as cause
use Rattle.driver_model.specs.declared.action.Owner.TheVariants as owner
use Rattle.driver_model.specs.declared.action.Purpose.{Purpose}
use Rattle.driver_model.specs.declared.action.Purpose.TheVariants as purpose
use Rattle.driver_model.specs.declared.config.Config.{Config}
use Rattle.driver_model.specs.declared.event.EventKind.{EventKind}
use Rattle.driver_model.specs.declared.event.EventKind.TheVariants as event
use Rattle.resp_value.specs.declared.push_kind.PushKind.{PushKind}
use Rattle.driver_model.specs.News.{news_of}
use Rattle.driver_model.specs.Push.{is_disconnection}
use Rattle.legal_trace.specs.Ledger.{Ledger, Line, End, ends, hears, is_over, noted, noted_each, offers, parts, sources, tells}
use Rattle.legal_trace.specs.Story.{Story, answered, carried, clocked, fires, holds, is_open, left, rounds, tried, waits}
use Rattle.legal_trace.specs.Book.{Book, after_event, blank_book, book, entered, entered_each, has_generations, if_mine, if_own, is_clock_of, lines_of, push_line, rest_after}
use Rattle.legal_trace.specs.Legal.{AllStand, MayStand, MayTimer, current_link, link_due}
use Rattle.legal_trace.proofs.Clocks.{timer_tells}
use Rattle.legal_trace.proofs.Ledgers.{each_keeps, mine_keeps}
use Rattle.legal_trace.proofs.Plain.{item_stays, last_item, same_some}
use Rattle.legal_trace.proofs.Books.{book_more, of_each_front}
use Rattle.session_laws.proofs.Managers.Reopen.{ArePast}
use Rattle.conn_laws.proofs.Ties.Past.{EndsBefore, OverOnce, SameLink, fires_link, hears_before, left_link, once_kept}

-- so it is, and the current link is one that was asked for, or the next one
pub record IsPast (b : Book) : Type 0 where
  pub behind : ArePast b
  pub near : b.current ≤ b.links

-- where one is changed that goes on to it
own_link : (own : Bool) (changed s : Story) → changed.link ≡ s.link → SameLink s (if_own own changed s)
own_link true changed s e = e
own_link false changed s e = refl

-- no further than the current link
abbrev Within : Book → Story → Type 0
Within b s = s.link ≤ b.current

within_same : (b : Book) (s r : Story) → SameLink s r → Within b s → Within b r
within_same b s r same h = omega (arith, same, h)

-- an event hands it to the current link, or leaves it
event_within : (b : Book) (n : ℕ) (kind : EventKind) → Within b (b.story n) → Within b (after_event b n kind)
event_within b n (event.Submit what) h = chosen (Within b) (b.submissions == n) _ (b.story n) (λ t. le_refl b.current) (λ f. h)
event_within b n (event.Cancel m) h = within_same b (b.story n) (if_own (m == n) (left (b.story n)) (b.story n)) (own_link (m == n) (left (b.story n)) (b.story n) (left_link (b.story n))) h
event_within b n (event.Connected l) h = h
event_within b n (event.Refused l f) h = h
event_within b n (event.Wrote l count) h = h
event_within b n (event.Bytes l piece) h = h
event_within b n (event.Ended l) h = h
event_within b n (event.ReadFault l kind) h = h
event_within b n (event.WriteFault l kind) h = h
event_within b n (event.Fired t) h = within_same b (b.story n) (if_own (is_clock_of n (slice_get b.timers t)) (fires (b.story n)) (b.story n)) (own_link (is_clock_of n (slice_get b.timers t)) (fires (b.story n)) (b.story n) (fires_link (b.story n))) h
event_within b n (event.Timeout ms) h = h
event_within b n (event.Creds c auth) h = h
event_within b n (event.CredsError c text) h = h
event_within b n (event.CredsEnd c) h = h
event_within b n event.DropStream h = h
event_within b n event.Shutdown h = h

-- a timer
timer_past : (b : Book) (t ms : ℕ) (what : Purpose) → IsPast b → IsPast (entered b (action.Timer t ms what))
timer_past b t ms (purpose.Connect l) h = record { behind = h.behind; near = h.near }
timer_past b t ms (purpose.Response who) h = record { behind = λ n. within_same b (b.story n) (if_own (is_clock_of n (Some (purpose.Response who))) (clocked (b.story n) t) (b.story n)) (own_link (is_clock_of n (Some (purpose.Response who))) (clocked (b.story n) t) (b.story n) refl) (h.behind n); near = h.near }
timer_past b t ms (purpose.Renewal l k) h = record { behind = h.behind; near = h.near }
timer_past b t ms (purpose.Backoff g) h = record {
  behind = λ n. chosen (λ (s : Story). s.link ≤ b.links) (is_open (b.story n)) (carried (b.story n) b.links) (b.story n) (λ o. le_refl b.links) (λ f. (let le = h.behind n in let near = h.near in omega (arith, le, near)));
  near = le_refl b.links;
}
timer_past b t ms (purpose.Resubscription l) h = record { behind = h.behind; near = h.near }

-- where no action changes where they go
same_past : (b : Book) (a : Action) → (entered b a).current ≡ b.current → (entered b a).links ≡ b.links → ((n : ℕ) → SameLink (b.story n) ((entered b a).story n)) → IsPast b → IsPast (entered b a)
same_past b a current links same h = record {
  behind = λ n. (let le = h.behind n in let here = same n in omega (arith, le, here, current));
  near = (let near = h.near in omega (arith, near, current, links));
}

-- each action keeps it
past_kept : (b : Book) (a : Action) → MayStand b a → IsPast b → IsPast (entered b a)
past_kept b (action.Turn k (cause.Opening config word)) may h = record { behind = h.behind; near = h.near }
past_kept b (action.Turn k (cause.Event e)) may h = record { behind = λ n. event_within b n e.kind (h.behind n); near = h.near }
past_kept b (action.Connect l host port) may h = record { behind = λ n. (let le = h.behind n in let near = h.near in let next = may.next in omega (arith, le, near, next)); near = (let next = may.next in omega (arith, next)) }
past_kept b (action.Timer t ms what) may h = timer_past b t ms what h
past_kept b (action.Took (owner.Try m round) l count) may h = same_past b (action.Took (owner.Try m round) l count) refl refl (λ n. own_link (m == n) (holds (b.story n) count) (b.story n) refl) h
past_kept b (action.Took owner.Setup l count) may h = absurd may
past_kept b (action.Took owner.Auth l count) may h = absurd may
past_kept b (action.Took owner.Resub l count) may h = absurd may
past_kept b (action.Took owner.Monitor l count) may h = absurd may
past_kept b (action.Push l info) may h = record { behind = h.behind; near = h.near }
past_kept b (action.Message m) may h = record { behind = h.behind; near = h.near }
past_kept b (action.Monitor v) may h = record { behind = h.behind; near = h.near }
past_kept b (action.NeedCreds c l) may h = record { behind = h.behind; near = h.near }
past_kept b (action.Generation g) may h = record { behind = λ n. (let le = h.behind n in let near = h.near in omega (arith, le, near)); near = le_refl b.links }
past_kept b (action.Round (owner.Try m round) l) may h = same_past b (action.Round (owner.Try m round) l) refl refl (λ n. own_link (m == n) (rounds (b.story n)) (b.story n) refl) h
past_kept b (action.Round owner.Setup l) may h = absurd may
past_kept b (action.Round owner.Auth l) may h = absurd may
past_kept b (action.Round owner.Resub l) may h = absurd may
past_kept b (action.Round owner.Monitor l) may h = absurd may
past_kept b (action.Close l) may h = record { behind = h.behind; near = h.near }
past_kept b (action.Write l bytes) may h = record { behind = h.behind; near = h.near }
past_kept b (action.Wait (owner.Try m round) kind) may h = same_past b (action.Wait (owner.Try m round) kind) refl refl (λ n. own_link (m == n) (waits (b.story n) kind) (b.story n) refl) h
past_kept b (action.Wait owner.Setup kind) may h = absurd may
past_kept b (action.Wait owner.Auth kind) may h = absurd may
past_kept b (action.Wait owner.Resub kind) may h = absurd may
past_kept b (action.Wait owner.Monitor kind) may h = absurd may
past_kept b (action.Start l k (owner.Try m round) count len) may h = same_past b (action.Start l k (owner.Try m round) count len) refl refl (λ n. own_link (m == n) (tried (b.story n) l k) (b.story n) refl) h
past_kept b (action.Start l k owner.Setup count len) may h = record { behind = h.behind; near = h.near }
past_kept b (action.Start l k owner.Auth count len) may h = record { behind = h.behind; near = h.near }
past_kept b (action.Start l k owner.Resub count len) may h = record { behind = h.behind; near = h.near }
past_kept b (action.Start l k owner.Monitor count len) may h = record { behind = h.behind; near = h.near }
past_kept b (action.Created e) may h = record { behind = h.behind; near = h.near }
past_kept b (action.Outcome m o) may h = same_past b (action.Outcome m o) refl refl (λ n. own_link (m == n) (answered (b.story n) o) (b.story n) refl) h

-- so it is of any trace whose actions may stand
blank_past : IsPast (book [])
unfolding book
blank_past = record { behind = λ n. omega arith; near = omega arith }

pub is_past : (trace : List Action) → AllStand blank_book trace → IsPast (book trace)
is_past trace stands = of_each_front (λ t. IsPast (book t)) trace (λ t a all may h. subst IsPast (sym (book_more t a)) (past_kept (book t) a may h)) stands blank_past

-- the first generation
--
-- no link is asked for before it, and before the opening nothing is told
pub record IsFounded (b : Book) : Type 0 where
  pub first : has_generations b ≡ true → b.generation ≡ 0 → b.links ≡ 0
  pub start : b.turns ≡ 0 → (b.config ≡ None) × (b.links ≡ 0)

-- a link that is to be asked for is one of a generation, where there are any
due_begun : (b : Book) → link_due b ≡ true → has_generations b ≡ true → b.generation ≢ 0
due_begun b due has none =
    let all : (nat_lt 0 b.generation && (not (current_link b).asked && (is_none b.rest && not b.shut))) ≡ true =
    sym (taken_if (has_generations b) (nat_lt 0 b.generation && (not (current_link b).asked && (is_none b.rest && not b.shut))) (b.links == 0) has) ∙ due in
    let some = lt_from 0 b.generation (both_left (nat_lt 0 b.generation) (not (current_link b).asked && (is_none b.rest && not b.shut)) all) in
    omega (arith, some, none)

-- what a configuration that is told says
told_some : (b : Book) (config : Config) → b.config ≡ Some config → b.config ≡ None → ⊥
told_some b config told none = let no : Some config ≡ None = sym told ∙ none in cc

-- each action keeps it
founded_kept : (b : Book) (a : Action) → MayStand b a → IsFounded b → IsFounded (entered b a)
founded_kept b (action.Turn k (cause.Opening config word)) may h = record { first = λ has none. (h.start may.is_for).1; start = λ none. absurd (omega (arith, none)) }
founded_kept b (action.Turn k (cause.Event e)) may h = record { first = h.first; start = λ none. absurd (omega (arith, none)) }
founded_kept b (action.Connect l host port) may h = record { first = λ has none. absurd (due_begun b may.due has none); start = λ none. absurd (told_some b may.config may.told (h.start none).0) }
founded_kept b (action.Generation g) may h = record { first = λ has none. absurd (let next = may.next in omega (arith, next, none)); start = h.start }
founded_kept b (action.Timer t ms what) may h = record { first = h.first; start = h.start }
founded_kept b (action.Took who l count) may h = record { first = h.first; start = h.start }
founded_kept b (action.Push l info) may h = record { first = h.first; start = h.start }
founded_kept b (action.Message m) may h = record { first = h.first; start = h.start }
founded_kept b (action.Monitor v) may h = record { first = h.first; start = h.start }
founded_kept b (action.NeedCreds c l) may h = record { first = h.first; start = h.start }
founded_kept b (action.Round who l) may h = record { first = h.first; start = h.start }
founded_kept b (action.Close l) may h = record { first = h.first; start = h.start }
founded_kept b (action.Write l bytes) may h = record { first = h.first; start = h.start }
founded_kept b (action.Wait who kind) may h = record { first = h.first; start = h.start }
founded_kept b (action.Start l k who count len) may h = record { first = h.first; start = h.start }
founded_kept b (action.Created e) may h = record { first = h.first; start = h.start }
founded_kept b (action.Outcome n o) may h = record { first = h.first; start = h.start }

blank_founded : IsFounded (book [])
unfolding book
blank_founded = record { first = λ has none. refl; start = λ none. (refl, refl) }

pub is_founded : (trace : List Action) → AllStand blank_book trace → IsFounded (book trace)
is_founded trace stands = of_each_front (λ t. IsFounded (book t)) trace (λ t a all may h. subst IsFounded (sym (book_more t a)) (founded_kept (book t) a may h)) stands blank_founded

-- the turns of ends
--
-- and so do lines that don't begin a turn
line_before : (turns : ℕ) (l : Ledger) (mine : Bool) (line : Line) → EndsBefore turns (noted l line) → EndsBefore turns l → EndsBefore turns (noted_each l (if_mine mine line))
line_before turns l mine line own h = mine_keeps (EndsBefore turns) mine l line (λ m. own) h

-- all links do
abbrev pub EndBefore : Book → Type 0
EndBefore b = (l : ℕ) → EndsBefore b.turns (b.link l)

-- a push tells, or parts
push_before : (turns : ℕ) (l : Ledger) (kind : PushKind) → EndsBefore turns l → EndsBefore turns (noted l (push_line kind))
push_before turns l kind h = chosen (λ line. EndsBefore turns (noted l line)) (is_disconnection kind) parts tells (λ t. h) (λ f. h)

-- each action keeps it
before_kept : (b : Book) (a : Action) → MayStand b a → EndBefore b → EndBefore (entered b a)
before_kept b (action.Turn k (cause.Opening config word)) may h l = λ e is. (let le = h l e is in omega (arith, le))
before_kept b (action.Turn k (cause.Event e)) may h l = subst (λ n. EndsBefore (b.turns + 1) (noted (b.link l) (hears n (news_of b.timers b.sources l e.kind)))) (sym may.next) (hears_before b.turns (b.link l) (news_of b.timers b.sources l e.kind) (h l))
before_kept b (action.Connect m host port) may h l = line_before b.turns (b.link l) (m == l) _ (h l) (h l)
before_kept b (action.Timer t ms what) may h l = timer_tells (EndsBefore b.turns) (b.link l) l what (λ m k is e. h l) (λ m is e. h l) (h l)
before_kept b (action.Took who m count) may h l = h l
before_kept b (action.Push m info) may h l = line_before b.turns (b.link l) (m == l) (push_line info.kind) (push_before b.turns (b.link l) info.kind (h l)) (h l)
before_kept b (action.Message m) may h l = line_before b.turns (b.link l) (b.current == l) tells (h l) (h l)
before_kept b (action.Monitor v) may h l = line_before b.turns (b.link l) (b.current == l) tells (h l) (h l)
before_kept b (action.NeedCreds c m) may h l = line_before b.turns (b.link l) (m == l) sources (h l) (h l)
before_kept b (action.Generation g) may h l = h l
before_kept b (action.Round who m) may h l = h l
before_kept b (action.Close m) may h l = line_before b.turns (b.link l) (m == l) (ends (b.turns - 1)) (λ e is. (let here = ap (λ (x : End). x.turn) (same_some _ e is) in omega (arith, here))) (h l)
before_kept b (action.Write m bytes) may h l = line_before b.turns (b.link l) (m == l) (offers bytes) (h l) (h l)
before_kept b (action.Wait who kind) may h l = h l
before_kept b (action.Start m k who count len) may h l = line_before b.turns (b.link l) (m == l) _ (h l) (h l)
before_kept b (action.Created e) may h l = h l
before_kept b (action.Outcome n o) may h l = h l

blank_before : EndBefore (book [])
unfolding book
blank_before = λ l e is. cc

pub ends_before : (trace : List Action) → AllStand blank_book trace → EndBefore (book trace)
ends_before trace stands = of_each_front (λ t. EndBefore (book t)) trace (λ t a all may h. subst EndBefore (sym (book_more t a)) (before_kept (book t) a may h)) stands blank_before

-- a source that gives no more
--
-- so do any actions
once_each : (b : Book) (l : ℕ) (actions : List Action) → OverOnce (b.link l) → OverOnce ((entered_each b actions).link l)
once_each b l [] h = h
once_each b l (a ∷ actions) h = once_each (entered b a) l actions (each_keeps OverOnce once_kept (b.link l) (lines_of b l a) h)

-- so of a link that isn't up, and has not ended, it gives more
pub unended_over : (trace : List Action) (l : ℕ) → ((book trace).link l).up ≡ false → ((book trace).link l).end ≡ None → ((book trace).link l).creds.over ≡ false
unfolding book
unended_over trace l down alive =
    let m = (entered_each blank_book trace).link l in
    by_test m.creds.over _
    (λ t. absurd (not_both (m.up || is_over m) ((λ i. down i || is_some (alive i))) (once_each blank_book l trace (λ over. cc) t)))
    (λ f. f)

-- the wait behind a failed attempt
--
-- its timer was asked for that
abbrev pub RestIsTimed : Book → Type 0
RestIsTimed b = (t : ℕ) → b.rest ≡ Some t → (g : ℕ) × (slice_get b.timers t ≡ Some (purpose.Backoff g))

-- an event ends it, or leaves it
rest_once : (rest : Option ℕ) (kind : EventKind) (t : ℕ) → rest_after rest kind ≡ Some t → rest ≡ Some t
rest_once None kind t e = cc
rest_once (Some s) (event.Fired k) t e = by_own (k == s) e
  where
    by_own : (x : Bool) → ◌≡◌ {A = Option ℕ} (if x then None else Some s) (Some t) → ◌≡◌ {A = Option ℕ} (Some s) (Some t)
    by_own true e = cc
    by_own false e = e
rest_once (Some s) (event.Submit what) t e = e
rest_once (Some s) (event.Cancel n) t e = e
rest_once (Some s) (event.Connected l) t e = e
rest_once (Some s) (event.Refused l f) t e = e
rest_once (Some s) (event.Wrote l count) t e = e
rest_once (Some s) (event.Bytes l piece) t e = e
rest_once (Some s) (event.Ended l) t e = e
rest_once (Some s) (event.ReadFault l kind) t e = e
rest_once (Some s) (event.WriteFault l kind) t e = e
rest_once (Some s) (event.Timeout ms) t e = e
rest_once (Some s) (event.Creds c auth) t e = e
rest_once (Some s) (event.CredsError c text) t e = e
rest_once (Some s) (event.CredsEnd c) t e = e
rest_once (Some s) event.DropStream t e = e
rest_once (Some s) event.Shutdown t e = e

-- a timer gets the next number
timer_next : (b : Book) (t ms : ℕ) (what : Purpose) → MayTimer b t ms what → t ≡ length b.timers
timer_next b t ms what (inl (inl may)) = may.next
timer_next b t ms what (inl (inr may)) = may.next
timer_next b t ms what (inr (inl may)) = may.next
timer_next b t ms what (inr (inr (inl may))) = may.next
timer_next b t ms what (inr (inr (inr may))) = may.next

-- where none begins another one goes on
later_timed : (b : Book) (what : Purpose) (t : ℕ) → RestIsTimed b → b.rest ≡ Some t → (g : ℕ) × (slice_get (b.timers ++ what ∷ []) t ≡ Some (purpose.Backoff g))
later_timed b what t h is = let k = h t is in (k.0, item_stays b.timers (what ∷ []) (purpose.Backoff k.0) t k.1)

timer_timed : (b : Book) (t ms : ℕ) (what : Purpose) → t ≡ length b.timers → RestIsTimed b → RestIsTimed (entered b (action.Timer t ms what))
timer_timed b t ms (purpose.Backoff g) next h s is =
    let same : t ≡ s = same_some t s is in
    (g, ap (slice_get (b.timers ++ purpose.Backoff g ∷ [])) (sym same ∙ next) ∙ last_item b.timers (purpose.Backoff g))
timer_timed b t ms (purpose.Connect l) next h s is = later_timed b (purpose.Connect l) s h is
timer_timed b t ms (purpose.Response who) next h s is = later_timed b (purpose.Response who) s h is
timer_timed b t ms (purpose.Renewal l k) next h s is = later_timed b (purpose.Renewal l k) s h is
timer_timed b t ms (purpose.Resubscription l) next h s is = later_timed b (purpose.Resubscription l) s h is

timed_kept : (b : Book) (a : Action) → MayStand b a → RestIsTimed b → RestIsTimed (entered b a)
timed_kept b (action.Turn k (cause.Opening config word)) may h = h
timed_kept b (action.Turn k (cause.Event e)) may h = λ t is. h t (rest_once b.rest e.kind t is)
timed_kept b (action.Timer t ms what) may h = timer_timed b t ms what (timer_next b t ms what may) h
timed_kept b (action.Generation g) may h = λ t is. cc
timed_kept b (action.Connect l host port) may h = h
timed_kept b (action.Took who l count) may h = h
timed_kept b (action.Push l info) may h = h
timed_kept b (action.Message m) may h = h
timed_kept b (action.Monitor v) may h = h
timed_kept b (action.NeedCreds c l) may h = h
timed_kept b (action.Round who l) may h = h
timed_kept b (action.Close l) may h = h
timed_kept b (action.Write l bytes) may h = h
timed_kept b (action.Wait who kind) may h = h
timed_kept b (action.Start l k who count len) may h = h
timed_kept b (action.Created e) may h = h
timed_kept b (action.Outcome n o) may h = h

blank_timed : RestIsTimed (book [])
unfolding book
blank_timed = λ t is. cc

pub rest_timed : (trace : List Action) → AllStand blank_book trace → RestIsTimed (book trace)
rest_timed trace stands = of_each_front (λ t. RestIsTimed (book t)) trace (λ t a all may h. subst RestIsTimed (sym (book_more t a)) (timed_kept (book t) a may h)) stands blank_timed
