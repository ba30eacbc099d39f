-- What the turn of an event adds: one submission, one link that comes up, new credentials of one link, or the end of one wait, at most.
use Rattle.std.proofs.Common.{◌≡◌, ℕ, ◌+◌, ◌≤◌, ◌==◌, Bool, true, false, Option, Some, None, slice_get, is_some, is_none, if◌then◌else◌, refl, sym, ap, arith}
use Rattle.containers.proofs.Choices.{chosen, ne_test}
use Rattle.driver_model.specs.declared.action.Purpose.{Purpose}
use Rattle.driver_model.specs.declared.action.Purpose.TheVariants as purpose
use Rattle.driver_model.specs.declared.action.SourceUse.{SourceUse}
use Rattle.driver_model.specs.declared.action.SourceUse.TheVariants as source
use Rattle.driver_model.specs.declared.event.EventKind.{EventKind}
use Rattle.driver_model.specs.declared.event.EventKind.TheVariants as event
use Rattle.driver_model.specs.declared.news.LinkFault.TheVariants as fault
use Rattle.driver_model.specs.News.{News, silence, connected, refused, overdue, took, came, failed, authorized, denied, deserted, renewed, unrenewed, late, unrepeated, news_of, for_link, of_timer, of_source}
use Rattle.legal_trace.specs.Ledger.{with_news}
use Rattle.legal_trace.specs.Book.{Book, submitted_by, rest_after}
use Rattle.legal_laws.proofs.Counts.Sums.{sum_below, sum_less, sum_but_one}
use Rattle.legal_laws.proofs.Counts.Weights.{one_for, one_most, rose, brought, is_connected, is_renewed, news_weighs}

-- 1 where an event is of this sort, else 0
abbrev pub connects : EventKind → ℕ
connects (event.Connected l) = 1
connects _ = 0

abbrev pub brings : EventKind → ℕ
brings (event.Creds c auth) = 1
brings _ = 0

abbrev pub fires : EventKind → ℕ
fires (event.Fired t) = 1
fires _ = 0

-- it is of one of them at most
pub one_sort : (kind : EventKind) → submitted_by kind + connects kind + brings kind + fires kind ≤ 1
one_sort (event.Submit what) = omega arith
one_sort (event.Cancel n) = omega arith
one_sort (event.Connected l) = omega arith
one_sort (event.Refused l f) = omega arith
one_sort (event.Wrote l count) = omega arith
one_sort (event.Bytes l piece) = omega arith
one_sort (event.Ended l) = omega arith
one_sort (event.ReadFault l kind) = omega arith
one_sort (event.WriteFault l kind) = omega arith
one_sort (event.Fired t) = omega arith
one_sort (event.Timeout ms) = omega arith
one_sort (event.Creds c auth) = omega arith
one_sort (event.CredsError c text) = omega arith
one_sort (event.CredsEnd c) = omega arith
one_sort event.DropStream = omega arith
one_sort event.Shutdown = omega arith

-- what one link alone sees fails a test that silence fails, where it fails it
link_fails : (test : News → Bool) → test silence ≡ false → (mine : Bool) (x : News) → test x ≡ false → test (for_link mine x) ≡ false
link_fails test quiet true x fails = fails
link_fails test quiet false x fails = quiet

-- so of a timer
timer_fails : (test : News → Bool) → test silence ≡ false → test overdue ≡ false → ((k : ℕ) → test (late k) ≡ false) → test unrepeated ≡ false → (n : ℕ) (what : Option Purpose) → test (of_timer n what) ≡ false
timer_fails test quiet due lates repeats n None = quiet
timer_fails test quiet due lates repeats n (Some (purpose.Connect l)) = link_fails test quiet (l == n) overdue due
timer_fails test quiet due lates repeats n (Some (purpose.Response who)) = quiet
timer_fails test quiet due lates repeats n (Some (purpose.Renewal l k)) = link_fails test quiet (l == n) (late k) (lates k)
timer_fails test quiet due lates repeats n (Some (purpose.Backoff g)) = quiet
timer_fails test quiet due lates repeats n (Some (purpose.Resubscription l)) = link_fails test quiet (l == n) unrepeated repeats

-- and of a source
source_fails : (test : News → Bool) → test silence ≡ false → (n : ℕ) (what : Option SourceUse) (first later : News) → test first ≡ false → test later ≡ false → test (of_source n what first later) ≡ false
source_fails test quiet n None first later one two = quiet
source_fails test quiet n (Some (source.Setup l)) first later one two = link_fails test quiet (l == n) first one
source_fails test quiet n (Some (source.Renewal l)) first later one two = link_fails test quiet (l == n) later two

-- where a link isn't connected, it rises no higher
rose_at : (b : Book) (turn l : ℕ) (x : News) → is_connected x ≡ false → rose (with_news (b.link l) turn x) ≤ rose (b.link l)
rose_at b turn l x quiet = let w = (news_weighs (b.link l) turn x).rises in let none : one_for (is_connected x) ≡ 0 = ap one_for quiet in omega (arith, w, none)

-- with an event
abbrev roses : Book → ℕ → EventKind → ℕ → ℕ
roses b turn kind l = rose (with_news (b.link l) turn (news_of b.timers b.sources l kind))

abbrev rises_once : Book → ℕ → EventKind → Type 0
rises_once b turn kind = (n : ℕ) → sum_below (roses b turn kind) n ≤ sum_below (λ l. rose (b.link l)) n + connects kind

none_rises : (b : Book) (turn : ℕ) (kind : EventKind) → ((l : ℕ) → is_connected (news_of b.timers b.sources l kind) ≡ false) → (n : ℕ) → sum_below (roses b turn kind) n ≤ sum_below (λ l. rose (b.link l)) n + 0
none_rises b turn kind quiet n = let less = sum_less (roses b turn kind) (λ l. rose (b.link l)) n (λ l i. rose_at b turn l (news_of b.timers b.sources l kind) (quiet l)) in omega (arith, less)

pub event_rises : (b : Book) (turn : ℕ) (kind : EventKind) → rises_once b turn kind
event_rises b turn (event.Connected m) = λ n. sum_but_one (roses b turn (event.Connected m)) (λ l. rose (b.link l)) m 1 n
    (λ l apart. rose_at b turn l (for_link (m == l) connected) (ap (λ t. is_connected (for_link t connected)) (ne_test m l (λ e. apart (sym e)))))
    (let w = (news_weighs (b.link m) turn (for_link (m == m) connected)).rises in let most = one_most (is_connected (for_link (m == m) connected)) in omega (arith, w, most))
event_rises b turn (event.Submit what) = none_rises b turn (event.Submit what) (λ l. refl)
event_rises b turn (event.Cancel n) = none_rises b turn (event.Cancel n) (λ l. refl)
event_rises b turn (event.Refused m f) = none_rises b turn (event.Refused m f) (λ l. link_fails is_connected refl (m == l) (refused f) refl)
event_rises b turn (event.Wrote m count) = none_rises b turn (event.Wrote m count) (λ l. link_fails is_connected refl (m == l) (took count) refl)
event_rises b turn (event.Bytes m piece) = none_rises b turn (event.Bytes m piece) (λ l. link_fails is_connected refl (m == l) (came piece) refl)
event_rises b turn (event.Ended m) = none_rises b turn (event.Ended m) (λ l. link_fails is_connected refl (m == l) (failed fault.Ended) refl)
event_rises b turn (event.ReadFault m kind) = none_rises b turn (event.ReadFault m kind) (λ l. link_fails is_connected refl (m == l) (failed (fault.Io kind)) refl)
event_rises b turn (event.WriteFault m kind) = none_rises b turn (event.WriteFault m kind) (λ l. link_fails is_connected refl (m == l) (failed (fault.Io kind)) refl)
event_rises b turn (event.Fired t) = none_rises b turn (event.Fired t) (λ l. timer_fails is_connected refl refl (λ k. refl) refl l (slice_get b.timers t))
event_rises b turn (event.Timeout ms) = none_rises b turn (event.Timeout ms) (λ l. refl)
event_rises b turn (event.Creds c auth) = none_rises b turn (event.Creds c auth) (λ l. source_fails is_connected refl l (slice_get b.sources c) (authorized auth) (renewed auth) refl refl)
event_rises b turn (event.CredsError c text) = none_rises b turn (event.CredsError c text) (λ l. source_fails is_connected refl l (slice_get b.sources c) (denied text) silence refl refl)
event_rises b turn (event.CredsEnd c) = none_rises b turn (event.CredsEnd c) (λ l. source_fails is_connected refl l (slice_get b.sources c) deserted unrenewed refl refl)
event_rises b turn event.DropStream = none_rises b turn event.DropStream (λ l. refl)
event_rises b turn event.Shutdown = none_rises b turn event.Shutdown (λ l. refl)

-- where news brings no new credentials, a link has no more
brought_at : (b : Book) (turn l : ℕ) (x : News) → is_renewed x ≡ false → brought (with_news (b.link l) turn x) ≤ brought (b.link l)
brought_at b turn l x quiet = let w = (news_weighs (b.link l) turn x).brings in let none : one_for (is_renewed x) ≡ 0 = ap one_for quiet in omega (arith, w, none)

abbrev bringing : Book → ℕ → EventKind → ℕ → ℕ
bringing b turn kind l = brought (with_news (b.link l) turn (news_of b.timers b.sources l kind))

abbrev brings_once : Book → ℕ → EventKind → Type 0
brings_once b turn kind = (n : ℕ) → sum_below (bringing b turn kind) n ≤ sum_below (λ l. brought (b.link l)) n + brings kind

none_brings : (b : Book) (turn : ℕ) (kind : EventKind) → ((l : ℕ) → is_renewed (news_of b.timers b.sources l kind) ≡ false) → (n : ℕ) → sum_below (bringing b turn kind) n ≤ sum_below (λ l. brought (b.link l)) n + 0
none_brings b turn kind quiet n = let less = sum_less (bringing b turn kind) (λ l. brought (b.link l)) n (λ l i. brought_at b turn l (news_of b.timers b.sources l kind) (quiet l)) in omega (arith, less)

-- credentials come for one link at most
source_brings : (b : Book) (turn : ℕ) (first later : News) → is_renewed first ≡ false → (what : Option SourceUse) (n : ℕ)
    → sum_below (λ l. brought (with_news (b.link l) turn (of_source l what first later))) n ≤ sum_below (λ l. brought (b.link l)) n + 1
source_brings b turn first later plain None n =
    let less = sum_less (λ l. brought (with_news (b.link l) turn silence)) (λ l. brought (b.link l)) n (λ l i. brought_at b turn l silence refl) in omega (arith, less)
source_brings b turn first later plain (Some (source.Setup m)) n =
    let less = sum_less (λ l. brought (with_news (b.link l) turn (for_link (m == l) first))) (λ l. brought (b.link l)) n (λ l i. brought_at b turn l (for_link (m == l) first) (link_fails is_renewed refl (m == l) first plain)) in
    omega (arith, less)
source_brings b turn first later plain (Some (source.Renewal m)) n = sum_but_one (λ l. brought (with_news (b.link l) turn (for_link (m == l) later))) (λ l. brought (b.link l)) m 1 n
    (λ l apart. brought_at b turn l (for_link (m == l) later) (ap (λ t. is_renewed (for_link t later)) (ne_test m l (λ e. apart (sym e)))))
    (let w = (news_weighs (b.link m) turn (for_link (m == m) later)).brings in let most = one_most (is_renewed (for_link (m == m) later)) in omega (arith, w, most))

pub event_brings : (b : Book) (turn : ℕ) (kind : EventKind) → brings_once b turn kind
event_brings b turn (event.Creds c auth) = source_brings b turn (authorized auth) (renewed auth) refl (slice_get b.sources c)
event_brings b turn (event.Connected m) = none_brings b turn (event.Connected m) (λ l. link_fails is_renewed refl (m == l) connected refl)
event_brings b turn (event.Submit what) = none_brings b turn (event.Submit what) (λ l. refl)
event_brings b turn (event.Cancel n) = none_brings b turn (event.Cancel n) (λ l. refl)
event_brings b turn (event.Refused m f) = none_brings b turn (event.Refused m f) (λ l. link_fails is_renewed refl (m == l) (refused f) refl)
event_brings b turn (event.Wrote m count) = none_brings b turn (event.Wrote m count) (λ l. link_fails is_renewed refl (m == l) (took count) refl)
event_brings b turn (event.Bytes m piece) = none_brings b turn (event.Bytes m piece) (λ l. link_fails is_renewed refl (m == l) (came piece) refl)
event_brings b turn (event.Ended m) = none_brings b turn (event.Ended m) (λ l. link_fails is_renewed refl (m == l) (failed fault.Ended) refl)
event_brings b turn (event.ReadFault m kind) = none_brings b turn (event.ReadFault m kind) (λ l. link_fails is_renewed refl (m == l) (failed (fault.Io kind)) refl)
event_brings b turn (event.WriteFault m kind) = none_brings b turn (event.WriteFault m kind) (λ l. link_fails is_renewed refl (m == l) (failed (fault.Io kind)) refl)
event_brings b turn (event.Fired t) = none_brings b turn (event.Fired t) (λ l. timer_fails is_renewed refl refl (λ k. refl) refl l (slice_get b.timers t))
event_brings b turn (event.Timeout ms) = none_brings b turn (event.Timeout ms) (λ l. refl)
event_brings b turn (event.CredsError c text) = none_brings b turn (event.CredsError c text) (λ l. source_fails is_renewed refl l (slice_get b.sources c) (denied text) silence refl refl)
event_brings b turn (event.CredsEnd c) = none_brings b turn (event.CredsEnd c) (λ l. source_fails is_renewed refl l (slice_get b.sources c) deserted unrenewed refl refl)
event_brings b turn event.DropStream = none_brings b turn event.DropStream (λ l. refl)
event_brings b turn event.Shutdown = none_brings b turn event.Shutdown (λ l. refl)

-- how many links there are to be, of so many, where a wait goes on or not
abbrev pub reach : Option ℕ → ℕ → ℕ → ℕ
reach rest current links = if is_none rest then current + 1 else links

-- one wait ends at most
pub event_reaches : (rest : Option ℕ) (kind : EventKind) (current links : ℕ) → current ≤ links → reach (rest_after rest kind) current links ≤ reach rest current links + fires kind
event_reaches None kind current links i = omega arith
event_reaches (Some t) (event.Fired s) current links i = chosen (λ (o : Option ℕ). reach o current links ≤ links + 1) (s == t) None (Some t) (λ e. omega (arith, i)) (λ e. omega arith)
event_reaches (Some t) _ current links i = omega arith

-- and none begins
pub event_rests : (rest : Option ℕ) (kind : EventKind) → is_some (rest_after rest kind) ≡ true → is_some rest ≡ true
event_rests None kind e = e
event_rests (Some t) kind e = refl
