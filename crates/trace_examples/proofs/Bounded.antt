-- What is true of all numbers that weren't given out: no submission has one, nor has any link.
use Rattle.std.proofs.Common.{◌≡◌, ℕ, ◌+◌, ◌-◌, ◌<◌, ◌≤◌, ◌≢◌, ◌==◌, nat_lt, Bool, true, false, ◌&&◌, List, [], ◌∷◌, Option, Some, None, refl, arith}
use Rattle.std.specs.Prelude.{slice_get}
use Rattle.containers.proofs.Choices.{by_test, chosen, if_false, ne_test, eq_from, lt_from, not_lt_from, both_left, both_right}
use Rattle.driver_model.specs.declared.action.Action.{Action}
use Rattle.driver_model.specs.declared.action.Action.TheVariants as action
use Rattle.driver_model.specs.declared.action.Cause.TheVariants as cause
use Rattle.driver_model.specs.declared.action.Owner.TheVariants as owner
use Rattle.driver_model.specs.declared.event.EventKind.{EventKind}
use Rattle.driver_model.specs.declared.event.EventKind.TheVariants as event
use Rattle.driver_model.specs.declared.action.Purpose.{Purpose}
use Rattle.driver_model.specs.declared.action.Purpose.TheVariants as purpose
use Rattle.driver_model.specs.declared.action.SourceUse.{SourceUse}
use Rattle.driver_model.specs.declared.action.SourceUse.TheVariants as source
use Rattle.resp_value.specs.declared.push_kind.PushKind.{PushKind}
use Rattle.driver_model.specs.Push.{is_disconnection}
use Rattle.driver_model.specs.News.{News, refused, overdue, took, came, failed, authorized, denied, deserted, renewed, unrenewed, late, unrepeated, silence, for_link, of_timer, of_source, news_of}
use Rattle.legal_trace.specs.Ledger.{Ledger, Line, asks, hears, begins, tells, sources, ends, parts, dials, awaits_credentials, may_renew, is_renewal_open, is_repeating, with_news, noted, noted_each}
use Rattle.legal_trace.specs.Story.{Story, is_open}
use Rattle.legal_trace.specs.Managers.{settings_in, is_last}
use Rattle.legal_trace.specs.Again.{repeats_in}
use Rattle.legal_trace.proofs.Ledgers.{unasked_dials_not}
use Rattle.legal_trace.proofs.Clocks.{timer_tells}
use Rattle.legal_trace.specs.Book.{Book, blank_book, info_in, wanted_in, hearing_in, if_mine, message_of, push_line, lines_of, is_clock_of, is_rest, after_event, story_after, submitted_by, entered, entered_each}

-- a link is connected that was asked for, where so many were
abbrev pub connects_asked : ℕ → EventKind → Bool
connects_asked links (event.Connected l) = nat_lt l links
connects_asked links (event.Refused l f) = true
connects_asked links (event.Fired t) = true
connects_asked links (event.Timeout ms) = true
connects_asked links (event.Submit what) = true
connects_asked links (event.Cancel m) = true
connects_asked links (event.Wrote l count) = true
connects_asked links (event.Bytes l piece) = true
connects_asked links (event.Ended l) = true
connects_asked links (event.ReadFault l kind) = true
connects_asked links (event.WriteFault l kind) = true
connects_asked links (event.Creds c auth) = true
connects_asked links (event.CredsError c text) = true
connects_asked links (event.CredsEnd c) = true
connects_asked links event.DropStream = true
connects_asked links event.Shutdown = true

-- each link is asked for with the next number, and those alone are connected or closed, or start messages
abbrev pub is_numbered : Book → Action → Bool
is_numbered b (action.Turn k (cause.Opening config word)) = true
is_numbered b (action.Turn k (cause.Event e)) = connects_asked b.links e.kind
is_numbered b (action.Connect l host port) = l == b.links
is_numbered b (action.Timer t ms what) = true
is_numbered b (action.Took who l count) = true
is_numbered b (action.Push l info) = true
is_numbered b (action.Message m) = true
is_numbered b (action.Monitor v) = true
is_numbered b (action.NeedCreds c l) = true
is_numbered b (action.Generation g) = true
is_numbered b (action.Round who l) = true
is_numbered b (action.Close l) = nat_lt l b.links
is_numbered b (action.Write l bytes) = true
is_numbered b (action.Wait who kind) = true
is_numbered b (action.Start l k who count len) = nat_lt l b.links
is_numbered b (action.Created e) = true
is_numbered b (action.Outcome n o) = true

-- a link that wasn't asked for, on which nothing came that is to be told and no message started
pub record IsIdle (l : Ledger) : Type 0 where
  pub down : l.up ≡ false
  pub unasked : l.asked ≡ false
  pub lives : l.end ≡ None
  pub mute : l.notices ≡ []
  pub quiet : l.starts ≡ []

-- no submission has a number that wasn't given out, and every link that wasn't asked for is idle
pub record IsBounded (b : Book) : Type 0 where
  pub absent : (n : ℕ) → b.submissions ≤ n → (b.story n).submission ≡ None
  pub idle : (l : ℕ) → b.links ≤ l → IsIdle (b.link l)

-- at first
pub blank_bounded : IsBounded blank_book
blank_bounded = record { absent = λ n l. refl; idle = λ l new. record { down = refl; unasked = refl; lives = refl; mute = refl; quiet = refl } }

-- a change of one link is no change of another
mine_idle : (b : Book) (n l : ℕ) (x : Line) → l ≢ n → IsIdle (b.link n) → IsIdle (noted_each (b.link n) (if_mine (l == n) x))
mine_idle b n l x apart h = rw (ne_test l n apart) h

-- a line of a link that leaves it idle leaves it so, whosever it is
any_idle : (l : Ledger) (mine : Bool) (x : Line) → IsIdle l → IsIdle (noted l x) → IsIdle (noted_each l (if_mine mine x))
any_idle l true x h g = g
any_idle l false x h g = h

-- news that reach an idle link leave it so
hears_idle : (l : Ledger) (turn : ℕ) (mine : Bool) (x : News) → IsIdle l → IsIdle (with_news l turn x) → IsIdle (noted l (hears turn (for_link mine x)))
hears_idle l turn true x h g = record { down = g.down; unasked = g.unasked; lives = g.lives; mute = g.mute; quiet = g.quiet }
hears_idle l turn false x h g = record { down = h.down; unasked = h.unasked; lives = h.lives; mute = h.mute; quiet = h.quiet }

-- so does a timer that fires
fired_idle : (l : Ledger) (turn n : ℕ) (what : Option Purpose) → IsIdle l → IsIdle (noted l (hears turn (of_timer n what)))
fired_idle l turn n None h = record { down = h.down; unasked = h.unasked; lives = h.lives; mute = h.mute; quiet = h.quiet }
fired_idle l turn n (Some (purpose.Connect m)) h = hears_idle l turn (m == n) overdue h h
fired_idle l turn n (Some (purpose.Renewal m k)) h = hears_idle l turn (m == n) (late k) h (chosen IsIdle (l.up && is_renewal_open l k) _ l (λ t. record { down = h.down; unasked = h.unasked; lives = h.lives; mute = h.mute; quiet = h.quiet }) (λ t. h))
fired_idle l turn n (Some (purpose.Backoff g)) h = record { down = h.down; unasked = h.unasked; lives = h.lives; mute = h.mute; quiet = h.quiet }
fired_idle l turn n (Some (purpose.Resubscription m)) h = hears_idle l turn (m == n) unrepeated h (chosen IsIdle (is_repeating l) _ l (λ t. record { down = h.down; unasked = h.unasked; lives = h.lives; mute = h.mute; quiet = h.quiet }) (λ t. h))
fired_idle l turn n (Some (purpose.Response who)) h = record { down = h.down; unasked = h.unasked; lives = h.lives; mute = h.mute; quiet = h.quiet }

-- so does a source of credentials
sourced_idle : (l : Ledger) (turn n : ℕ) (what : Option SourceUse) (first later : News) → IsIdle l → IsIdle (with_news l turn first) → IsIdle (with_news l turn later) → IsIdle (noted l (hears turn (of_source n what first later)))
sourced_idle l turn n None first later h f g = record { down = h.down; unasked = h.unasked; lives = h.lives; mute = h.mute; quiet = h.quiet }
sourced_idle l turn n (Some (source.Setup m)) first later h f g = hears_idle l turn (m == n) first h f
sourced_idle l turn n (Some (source.Renewal m)) first later h f g = hears_idle l turn (m == n) later h g

-- so do the news of an event that doesn't connect it
event_idle : (l : Ledger) (turn : ℕ) (timers : List Purpose) (given : List SourceUse) (n links : ℕ) (kind : EventKind) → links ≤ n → connects_asked links kind ≡ true → IsIdle l → IsIdle (noted l (hears turn (news_of timers given n kind)))
event_idle l turn timers given n links (event.Connected m) new asked h = rw (ne_test m n (λ e. omega (arith, e, new, lt_from m links asked))) (record { down = h.down; unasked = h.unasked; lives = h.lives; mute = h.mute; quiet = h.quiet })
event_idle l turn timers given n links (event.Refused m f) new asked h = hears_idle l turn (m == n) (refused f) h (if_false IsIdle (dials l) _ l (unasked_dials_not l h.unasked) h)
event_idle l turn timers given n links (event.Fired t) new asked h = fired_idle l turn n (slice_get timers t) h
event_idle l turn timers given n links (event.Wrote m count) new asked h = hears_idle l turn (m == n) (took count) h (chosen IsIdle l.up _ l (λ t. record { down = h.down; unasked = h.unasked; lives = h.lives; mute = h.mute; quiet = h.quiet }) (λ t. h))
event_idle l turn timers given n links (event.Bytes m piece) new asked h = hears_idle l turn (m == n) (came piece) h (if_false IsIdle l.up _ l h.down h)
event_idle l turn timers given n links (event.Ended m) new asked h = hears_idle l turn (m == n) (failed _) h h
event_idle l turn timers given n links (event.ReadFault m kind) new asked h = hears_idle l turn (m == n) (failed _) h h
event_idle l turn timers given n links (event.WriteFault m kind) new asked h = hears_idle l turn (m == n) (failed _) h h
event_idle l turn timers given n links (event.Creds c auth) new asked h = sourced_idle l turn n (slice_get given c) (authorized auth) (renewed auth) h
    (chosen IsIdle (awaits_credentials l) _ l (λ t. record { down = h.down; unasked = h.unasked; lives = h.lives; mute = h.mute; quiet = h.quiet }) (λ t. h)) (chosen IsIdle (may_renew l) _ l (λ t. record { down = h.down; unasked = h.unasked; lives = h.lives; mute = h.mute; quiet = h.quiet }) (λ t. h))
event_idle l turn timers given n links (event.CredsError c text) new asked h = sourced_idle l turn n (slice_get given c) (denied text) silence h h h
event_idle l turn timers given n links (event.CredsEnd c) new asked h = sourced_idle l turn n (slice_get given c) deserted unrenewed h h (chosen IsIdle l.up _ l (λ t. record { down = h.down; unasked = h.unasked; lives = h.lives; mute = h.mute; quiet = h.quiet }) (λ t. h))
event_idle l turn timers given n links event.DropStream new asked h = record { down = h.down; unasked = h.unasked; lives = h.lives; mute = h.mute; quiet = h.quiet }
event_idle l turn timers given n links event.Shutdown new asked h = record { down = h.down; unasked = h.unasked; lives = h.lives; mute = h.mute; quiet = h.quiet }
event_idle l turn timers given n links (event.Timeout ms) new asked h = record { down = h.down; unasked = h.unasked; lives = h.lives; mute = h.mute; quiet = h.quiet }
event_idle l turn timers given n links (event.Submit what) new asked h = record { down = h.down; unasked = h.unasked; lives = h.lives; mute = h.mute; quiet = h.quiet }
event_idle l turn timers given n links (event.Cancel m) new asked h = record { down = h.down; unasked = h.unasked; lives = h.lives; mute = h.mute; quiet = h.quiet }

-- so does a push that is told
pushed_idle : (l : Ledger) (kind : PushKind) → IsIdle l → IsIdle (noted l (push_line kind))
pushed_idle l kind h = chosen (λ x. IsIdle (noted l x)) (is_disconnection kind) parts tells
    (λ d. record { down = h.down; unasked = h.unasked; lives = h.lives; mute = h.mute; quiet = h.quiet }) (λ d. record { down = h.down; unasked = h.unasked; lives = h.lives; mute = h.mute; quiet = h.quiet })

-- and so does what else is told
told_idle : (l : Ledger) → IsIdle l → IsIdle (noted l tells)
told_idle l h = record { down = h.down; unasked = h.unasked; lives = h.lives; mute = h.mute; quiet = h.quiet }

-- a link that still isn't asked for stays idle
still_idle : (b : Book) (n : ℕ) (a : Action) → (entered b a).links ≤ n → is_numbered b a ≡ true → IsIdle (b.link n) → IsIdle (noted_each (b.link n) (lines_of b n a))
still_idle b n (action.Turn k (cause.Opening config word)) new numbered h = h
still_idle b n (action.Turn k (cause.Event e)) new numbered h = event_idle (b.link n) k b.timers b.sources n b.links e.kind new numbered h
still_idle b n (action.Connect l host port) new numbered h =
    mine_idle b n l (asks (info_in b.config) (wanted_in b.config) (hearing_in b.config) (is_last (settings_in b.config) b.attempt) (repeats_in (settings_in b.config) b.tracked)) (λ e. omega (arith, e, new, eq_from l b.links numbered)) h
still_idle b n (action.Timer t ms what) new numbered h = timer_tells IsIdle (b.link n) n what (λ m k e mine. record { down = h.down; unasked = h.unasked; lives = h.lives; mute = h.mute; quiet = h.quiet }) (λ m e mine. record { down = h.down; unasked = h.unasked; lives = h.lives; mute = h.mute; quiet = h.quiet }) h
still_idle b n (action.Took who l count) new numbered h = h
still_idle b n (action.Push l info) new numbered h = any_idle (b.link n) (l == n) _ h (pushed_idle (b.link n) info.kind h)
still_idle b n (action.Message m) new numbered h = any_idle (b.link n) (b.current == n) tells h (told_idle (b.link n) h)
still_idle b n (action.Monitor v) new numbered h = any_idle (b.link n) (b.current == n) tells h (told_idle (b.link n) h)
still_idle b n (action.NeedCreds c l) new numbered h = any_idle (b.link n) (l == n) sources h (record { down = h.down; unasked = h.unasked; lives = h.lives; mute = h.mute; quiet = h.quiet })
still_idle b n (action.Generation g) new numbered h = h
still_idle b n (action.Round who l) new numbered h = h
still_idle b n (action.Close l) new numbered h = mine_idle b n l (ends (b.turns - 1)) (λ e. omega (arith, e, new, lt_from l b.links numbered)) h
still_idle b n (action.Write l bytes) new numbered h = any_idle (b.link n) (l == n) _ h (record { down = h.down; unasked = h.unasked; lives = h.lives; mute = h.mute; quiet = h.quiet })
still_idle b n (action.Wait who kind) new numbered h = h
still_idle b n (action.Start l k who count len) new numbered h = mine_idle b n l (begins (message_of b l who)) (λ e. omega (arith, e, new, lt_from l b.links numbered)) h
still_idle b n (action.Created e) new numbered h = h
still_idle b n (action.Outcome m o) new numbered h = h

-- links are only added
links_grow : (b : Book) (a : Action) → b.links ≤ (entered b a).links
links_grow b (action.Turn k (cause.Opening config word)) = omega arith
links_grow b (action.Turn k (cause.Event e)) = omega arith
links_grow b (action.Connect l host port) = omega arith
links_grow b (action.Timer t ms what) = omega arith
links_grow b (action.Took who l count) = omega arith
links_grow b (action.Push l info) = omega arith
links_grow b (action.Message m) = omega arith
links_grow b (action.Monitor v) = omega arith
links_grow b (action.NeedCreds c l) = omega arith
links_grow b (action.Generation g) = omega arith
links_grow b (action.Round who l) = omega arith
links_grow b (action.Close l) = omega arith
links_grow b (action.Write l bytes) = omega arith
links_grow b (action.Wait who kind) = omega arith
links_grow b (action.Start l k who count len) = omega arith
links_grow b (action.Created e) = omega arith
links_grow b (action.Outcome n o) = omega arith

-- nothing is handed in under this number
abbrev IsAbsent : Story → Type 0
IsAbsent s = s.submission ≡ None

-- what an event hands in has the next number
event_absent : (b : Book) (n : ℕ) (kind : EventKind) → b.submissions + submitted_by kind ≤ n → IsAbsent (b.story n) → IsAbsent (after_event b n kind)
event_absent b n (event.Submit what) l h = rw (ne_test b.submissions n (λ e. absurd (omega arith))) h
event_absent b n (event.Cancel m) l h = chosen IsAbsent (m == n) _ _ (λ t. chosen IsAbsent (is_open (b.story n)) _ _ (λ u. h) (λ u. h)) (λ t. h)
event_absent b n (event.Connected m) l h = h
event_absent b n (event.Refused m f) l h = h
event_absent b n (event.Fired t) l h = chosen IsAbsent (is_clock_of n (slice_get b.timers t)) _ _ (λ e. chosen IsAbsent (is_open (b.story n)) _ _ (λ u. h) (λ u. h)) (λ f. h)
event_absent b n (event.Timeout ms) l h = h
event_absent b n (event.Wrote m count) l h = h
event_absent b n (event.Bytes m piece) l h = h
event_absent b n (event.Ended m) l h = h
event_absent b n (event.ReadFault m kind) l h = h
event_absent b n (event.WriteFault m kind) l h = h
event_absent b n (event.Creds c auth) l h = h
event_absent b n (event.CredsError c text) l h = h
event_absent b n (event.CredsEnd c) l h = h
event_absent b n event.DropStream l h = h
event_absent b n event.Shutdown l h = h

-- so an action hands nothing in beyond it
still_absent : (b : Book) (n : ℕ) (a : Action) → (entered b a).submissions ≤ n → ((m : ℕ) → b.submissions ≤ m → IsAbsent (b.story m)) → IsAbsent (story_after b n a)
still_absent b n (action.Turn k (cause.Opening config word)) l h = h n l
still_absent b n (action.Turn k (cause.Event e)) l h = event_absent b n e.kind l (h n (omega arith))
still_absent b n (action.Start m k owner.Setup count len) l h = h n l
still_absent b n (action.Start m k owner.Auth count len) l h = h n l
still_absent b n (action.Start m k owner.Resub count len) l h = h n l
still_absent b n (action.Start m k owner.Monitor count len) l h = h n l
still_absent b n (action.Start m k (owner.Try i round) count len) l h = chosen IsAbsent (i == n) _ _ (λ t. h n l) (λ t. h n l)
still_absent b n (action.Wait owner.Setup kind) l h = h n l
still_absent b n (action.Wait owner.Auth kind) l h = h n l
still_absent b n (action.Wait owner.Resub kind) l h = h n l
still_absent b n (action.Wait owner.Monitor kind) l h = h n l
still_absent b n (action.Wait (owner.Try i round) kind) l h = chosen IsAbsent (i == n) _ _ (λ t. h n l) (λ t. h n l)
still_absent b n (action.Outcome m o) l h = chosen IsAbsent (m == n) _ _ (λ t. h n l) (λ t. h n l)
still_absent b n (action.Connect m host port) l h = h n l
still_absent b n (action.Timer t ms what) l h = chosen IsAbsent (is_rest what && is_open (b.story n)) _ _ (λ e. h n l) (λ f. chosen IsAbsent (is_clock_of n (Some what)) _ _ (λ e. h n l) (λ e. h n l))
still_absent b n (action.Took owner.Setup m count) l h = h n l
still_absent b n (action.Took owner.Auth m count) l h = h n l
still_absent b n (action.Took owner.Resub m count) l h = h n l
still_absent b n (action.Took owner.Monitor m count) l h = h n l
still_absent b n (action.Took (owner.Try i round) m count) l h = chosen IsAbsent (i == n) _ _ (λ t. h n l) (λ t. h n l)
still_absent b n (action.Push m info) l h = h n l
still_absent b n (action.Message m) l h = h n l
still_absent b n (action.Monitor v) l h = h n l
still_absent b n (action.NeedCreds c m) l h = h n l
still_absent b n (action.Generation g) l h = h n l
still_absent b n (action.Round owner.Setup m) l h = h n l
still_absent b n (action.Round owner.Auth m) l h = h n l
still_absent b n (action.Round owner.Resub m) l h = h n l
still_absent b n (action.Round owner.Monitor m) l h = h n l
still_absent b n (action.Round (owner.Try i round) m) l h = chosen IsAbsent (i == n) _ _ (λ t. h n l) (λ t. h n l)
still_absent b n (action.Close m) l h = h n l
still_absent b n (action.Write m bytes) l h = h n l
still_absent b n (action.Created e) l h = h n l

-- the book of one more action
pub still_bounded : (b : Book) (a : Action) → is_numbered b a ≡ true → IsBounded b → IsBounded (entered b a)
still_bounded b a numbered h = record {
  absent = λ n l. still_absent b n a l h.absent;
  idle = λ n new. let grow : b.links ≤ (entered b a).links = links_grow b a in still_idle b n a new numbered (h.idle n (omega (arith, new, grow)));
}

-- these actions are numbered so
abbrev pub all_numbered : Book → List Action → Bool
all_numbered b [] = true
all_numbered b (a ∷ more) = is_numbered b a && all_numbered (entered b a) more

-- their book
pub bounded_behind : (b : Book) (t : List Action) → all_numbered b t ≡ true → IsBounded b → IsBounded (entered_each b t)
bounded_behind b [] e h = h
bounded_behind b (a ∷ more) e h =
    bounded_behind (entered b a) more (both_right (is_numbered b a) (all_numbered (entered b a) more) e) (still_bounded b a (both_left (is_numbered b a) (all_numbered (entered b a) more) e) h)

-- a fact of every link that was asked for, and of every idle one
pub of_links : (b : Book) (P : ℕ → Type 0) (l : ℕ) → IsBounded b → (l < b.links → P l) → (IsIdle (b.link l) → P l) → P l
of_links b P l bounded asked idle = by_test (nat_lt l b.links) (P l) (λ t. asked (lt_from l b.links t)) (λ f. idle (bounded.idle l (not_lt_from l b.links f)))
