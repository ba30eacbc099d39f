-- What a book knows of links and timers only grows, but for an offer that is taken.
use Rattle.std.proofs.Common.{◌≡◌, ℕ, ◌≤◌, ◌==◌, Bool, true, false, ◌&&◌, List, [], ◌∷◌, length, Option, Some, None, slice_get, refl, ap, subst, arith, length-append}
use Rattle.containers.proofs.Choices.{chosen, eq_from, not_both}
use Rattle.redis_error.specs.declared.redis_error.RedisError.TheVariants as error
use Rattle.driver_model.specs.declared.action.Action.{Action}
use Rattle.driver_model.specs.declared.action.Action.TheVariants as action
use Rattle.driver_model.specs.declared.action.Cause.TheVariants as cause
use Rattle.driver_model.specs.declared.action.Purpose.{Purpose}
use Rattle.driver_model.specs.declared.action.Purpose.TheVariants as purpose
use Rattle.driver_model.specs.declared.action.SourceUse.{SourceUse}
use Rattle.driver_model.specs.declared.event.EventKind.{EventKind}
use Rattle.driver_model.specs.declared.event.EventKind.TheVariants as event
use Rattle.driver_model.specs.declared.news.LinkFault.TheVariants as fault
use Rattle.resp_value.specs.declared.push_kind.PushKind.{PushKind}
use Rattle.driver_model.specs.Push.{is_disconnection}
use Rattle.driver_model.specs.News.{News, silence, connected, refused, overdue, took, came, failed, authorized, denied, deserted, renewed, unrenewed, late, unrepeated, dropped, shut, for_link, of_timer, of_source, is_source_of, renews, news_of}
use Rattle.legal_trace.specs.Ledger.{Ledger, Line, hears, offers, tells, times, parts, noted, is_over, dials, refused_in, bytes_came, awaits_credentials, authorized_by, may_renew, renewed_by, unrenewed_by, is_renewal_open, lost_by, is_repeating, unrepeated_by}
use Rattle.legal_trace.specs.Book.{Book, push_line, entered}
use Rattle.legal_trace.specs.Legal.{MayStand}
use Rattle.legal_trace.proofs.Came.{holds_bytes}
use Rattle.legal_trace.proofs.Clocks.{timer_tells}
use Rattle.legal_trace.proofs.Ledgers.{mine_keeps}

-- a link that has not ended had not before, and offers no less
abbrev pub Keeps : Ledger → Ledger → Type 0
Keeps l m = is_over m ≡ false → (is_over l ≡ false) × (length l.offer ≤ length m.offer)

abbrev pub IsNoTook : News → Type 0
IsNoTook (took count) = ⊥
IsNoTook _ = Unit {0}

pub hears_keeps : (l : Ledger) (turn : ℕ) (news : News) → IsNoTook news → Keeps l (noted l (hears turn news))
hears_keeps l turn silence quiet = λ going. (going, omega arith)
hears_keeps l turn connected quiet = chosen (λ (m : Ledger). Keeps l (record m { heard = connected })) (is_over l) l (record l { up = true }) (λ t going. (going, omega arith)) (λ f going. (going, omega arith))
hears_keeps l turn (refused f) quiet =
    chosen (λ (m : Ledger). Keeps l (record m { heard = refused f })) (dials l) (refused_in l turn (error.Io f)) l (λ t going. absurd (not_both true going refl)) (λ f going. (going, omega arith))
hears_keeps l turn overdue quiet = λ going. (going, omega arith)
hears_keeps l turn (took count) quiet = absurd quiet
hears_keeps l turn (came piece) quiet =
    chosen (λ (m : Ledger). Keeps l (record m { heard = came piece })) l.up (bytes_came l piece) l
    (λ t. holds_bytes (λ (m : Ledger). Keeps l (record m { heard = came piece })) l piece (λ rest strange told more going. (going, omega arith))) (λ f going. (going, omega arith))
hears_keeps l turn (failed f) quiet = λ going. (going, omega arith)
hears_keeps l turn (authorized c) quiet =
    chosen (λ (m : Ledger). Keeps l (record m { heard = authorized c })) (awaits_credentials l) (authorized_by l c) l (λ t going. (going, omega arith)) (λ f going. (going, omega arith))
hears_keeps l turn (denied text) quiet = λ going. (going, omega arith)
hears_keeps l turn deserted quiet = λ going. (going, omega arith)
hears_keeps l turn (renewed c) quiet = chosen (λ (m : Ledger). Keeps l (record m { heard = renewed c })) (may_renew l) (renewed_by l c) l (λ t going. (going, omega arith)) (λ f going. (going, omega arith))
hears_keeps l turn unrenewed quiet = chosen (λ (m : Ledger). Keeps l (record m { heard = unrenewed })) l.up (unrenewed_by l) l (λ t going. (going, omega arith)) (λ f going. (going, omega arith))
hears_keeps l turn (late k) quiet =
    chosen (λ (m : Ledger). Keeps l (record m { heard = late k })) (l.up && is_renewal_open l k) (lost_by l) l (λ t going. (going, omega arith)) (λ f going. (going, omega arith))
hears_keeps l turn unrepeated quiet =
    chosen (λ (m : Ledger). Keeps l (record m { heard = unrepeated })) (is_repeating l) (unrepeated_by l) l (λ t going. (going, omega arith)) (λ f going. (going, omega arith))
hears_keeps l turn dropped quiet = λ going. (going, omega arith)
hears_keeps l turn shut quiet = λ going. (going, omega arith)

-- an offer of another link is taken
pub other_keeps : (mine : Bool) (l : Ledger) (turn count : ℕ) → mine ≡ false → Keeps l (noted l (hears turn (for_link mine (took count))))
other_keeps true l turn count other = absurd (not_both true other refl)
other_keeps false l turn count other = λ going. (going, omega arith)

abbrev pub IsNoWrote : EventKind → Type 0
IsNoWrote (event.Wrote l count) = ⊥
IsNoWrote _ = Unit {0}

not_took : (mine : Bool) (news : News) → IsNoTook news → IsNoTook (for_link mine news)
not_took mine news h = chosen IsNoTook mine news silence (λ t. h) (λ f. tt)

timer_not_took : (n : ℕ) (what : Option Purpose) → IsNoTook (of_timer n what)
timer_not_took n None = tt
timer_not_took n (Some (purpose.Connect l)) = not_took (l == n) overdue tt
timer_not_took n (Some (purpose.Response who)) = tt
timer_not_took n (Some (purpose.Renewal l k)) = not_took (l == n) (late k) tt
timer_not_took n (Some (purpose.Backoff g)) = tt
timer_not_took n (Some (purpose.Resubscription l)) = not_took (l == n) unrepeated tt

source_not_took : (n : ℕ) (what : Option SourceUse) (first later : News) → IsNoTook first → IsNoTook later → IsNoTook (of_source n what first later)
source_not_took n what first later h k = chosen IsNoTook (is_source_of n what) first (for_link (renews n what) later) (λ t. h) (λ f. not_took (renews n what) later k)

event_not_took : (timers : List Purpose) (sources : List SourceUse) (n : ℕ) (kind : EventKind) → IsNoWrote kind → IsNoTook (news_of timers sources n kind)
event_not_took timers sources n (event.Connected l) quiet = not_took (l == n) connected tt
event_not_took timers sources n (event.Refused l f) quiet = not_took (l == n) (refused f) tt
event_not_took timers sources n (event.Wrote l count) quiet = absurd quiet
event_not_took timers sources n (event.Bytes l piece) quiet = not_took (l == n) (came piece) tt
event_not_took timers sources n (event.Ended l) quiet = not_took (l == n) (failed fault.Ended) tt
event_not_took timers sources n (event.ReadFault l kind) quiet = not_took (l == n) (failed (fault.Io kind)) tt
event_not_took timers sources n (event.WriteFault l kind) quiet = not_took (l == n) (failed (fault.Io kind)) tt
event_not_took timers sources n (event.Fired t) quiet = timer_not_took n (slice_get timers t)
event_not_took timers sources n (event.Timeout ms) quiet = tt
event_not_took timers sources n (event.Creds c auth) quiet = source_not_took n (slice_get sources c) (authorized auth) (renewed auth) tt tt
event_not_took timers sources n (event.CredsError c text) quiet = source_not_took n (slice_get sources c) (denied text) silence tt tt
event_not_took timers sources n (event.CredsEnd c) quiet = source_not_took n (slice_get sources c) deserted unrenewed tt tt
event_not_took timers sources n event.DropStream quiet = tt
event_not_took timers sources n event.Shutdown quiet = tt
event_not_took timers sources n (event.Submit s) quiet = tt
event_not_took timers sources n (event.Cancel s) quiet = tt

-- more links and timers were asked for, or as many, and each link is kept
pub record Grows (b c : Book) : Type 0 where
  pub links : b.links ≤ c.links
  pub timers : length b.timers ≤ length c.timers
  pub keeps : (n : ℕ) → Keeps (b.link n) (c.link n)

-- the turn of an event
abbrev pub turn_of : ℕ → ℕ → EventKind → Action
turn_of number word kind = action.Turn number (cause.Event (record { word = word; kind = kind }))

pub turn_grows : (b : Book) (number word : ℕ) (kind : EventKind) → IsNoWrote kind → Grows b (entered b (turn_of number word kind))
turn_grows b number word kind quiet = record {
  links = omega arith;
  timers = omega arith;
  keeps = λ n. hears_keeps (b.link n) number (news_of b.timers b.sources n kind) (event_not_took b.timers b.sources n kind quiet);
}

abbrev pub IsNoTurn : Action → Type 0
IsNoTurn (action.Turn number c) = ⊥
IsNoTurn _ = Unit {0}

-- what leaves the links alone
stays : (b c : Book) → b.links ≤ c.links → length b.timers ≤ length c.timers → ((n : ℕ) → Keeps (b.link n) (c.link n)) → Grows b c
stays b c links timers keeps = record { links = links; timers = timers; keeps = keeps }

same_keeps : (l : Ledger) → Keeps l l
same_keeps l = λ going. (going, omega arith)

-- what holds of a link of which a push is told, or its end as one
pub push_noted : (P : Ledger → Type 0) (g : Ledger) (kind : PushKind) → P (noted g tells) → P (noted g parts) → P (noted g (push_line kind))
push_noted P g kind told gone = chosen (λ (x : Line). P (noted g x)) (is_disconnection kind) parts tells (λ t. gone) (λ f. told)

pub action_grows : (b : Book) (x : Action) → IsNoTurn x → MayStand b x → Grows b (entered b x)
action_grows b (action.Turn number c) quiet may = absurd quiet
action_grows b (action.Connect l host port) quiet may =
    stays b (entered b (action.Connect l host port)) (omega arith) (omega arith) (λ n. mine_keeps (Keeps (b.link n)) (l == n) (b.link n) _ (λ t going. (going, omega arith)) (same_keeps (b.link n)))
action_grows b (action.Timer t ms what) quiet may =
    stays b (entered b (action.Timer t ms what)) (omega arith) (omega (arith, length-append b.timers (what ∷ [])))
    (λ n. timer_tells (Keeps (b.link n)) (b.link n) n what (λ l k is mine going. (going, omega arith)) (λ l is mine going. (going, omega arith)) (same_keeps (b.link n)))
action_grows b (action.Close l) quiet may =
    stays b (entered b (action.Close l)) (omega arith) (omega arith) (λ n. mine_keeps (Keeps (b.link n)) (l == n) (b.link n) _ (λ t going. absurd (not_both true going refl)) (same_keeps (b.link n)))
action_grows b (action.Write l bytes) quiet may =
    stays b (entered b (action.Write l bytes)) (omega arith) (omega arith)
    (λ n. mine_keeps (Keeps (b.link n)) (l == n) (b.link n) (offers bytes) (λ t going. (going, none_before n (eq_from l n t))) (same_keeps (b.link n)))
  where
    none_before : (n : ℕ) → l ≡ n → length (b.link n).offer ≤ length bytes
    none_before n is = let e : length (b.link n).offer ≡ 0 = ap length (subst (λ (m : ℕ). (b.link m).offer ≡ []) is may.answered) in omega arith
action_grows b (action.Start l message who count len) quiet may =
    stays b (entered b (action.Start l message who count len)) (omega arith) (omega arith) (λ n. mine_keeps (Keeps (b.link n)) (l == n) (b.link n) _ (λ t going. (going, omega arith)) (same_keeps (b.link n)))
action_grows b (action.Took who l count) quiet may = stays b (entered b (action.Took who l count)) (omega arith) (omega arith) (λ n. same_keeps (b.link n))
action_grows b (action.Push l info) quiet may =
    stays b (entered b (action.Push l info)) (omega arith) (omega arith) (λ n. mine_keeps (Keeps (b.link n)) (l == n) (b.link n) (push_line info.kind)
    (λ t. push_noted (Keeps (b.link n)) (b.link n) info.kind (same_keeps (b.link n)) (same_keeps (b.link n))) (same_keeps (b.link n)))
action_grows b (action.NeedCreds c l) quiet may =
    stays b (entered b (action.NeedCreds c l)) (omega arith) (omega arith) (λ n. mine_keeps (Keeps (b.link n)) (l == n) (b.link n) _ (λ t going. (going, omega arith)) (same_keeps (b.link n)))
action_grows b (action.Generation g) quiet may = stays b (entered b (action.Generation g)) (omega arith) (omega arith) (λ n. same_keeps (b.link n))
action_grows b (action.Round who l) quiet may = stays b (entered b (action.Round who l)) (omega arith) (omega arith) (λ n. same_keeps (b.link n))
action_grows b (action.Message m) quiet may =
    stays b (entered b (action.Message m)) (omega arith) (omega arith) (λ n. mine_keeps (Keeps (b.link n)) (b.current == n) (b.link n) tells (λ t going. (going, omega arith)) (same_keeps (b.link n)))
action_grows b (action.Monitor v) quiet may =
    stays b (entered b (action.Monitor v)) (omega arith) (omega arith) (λ n. mine_keeps (Keeps (b.link n)) (b.current == n) (b.link n) tells (λ t going. (going, omega arith)) (same_keeps (b.link n)))
action_grows b (action.Wait who kind) quiet may = stays b (entered b (action.Wait who kind)) (omega arith) (omega arith) (λ n. same_keeps (b.link n))
action_grows b (action.Created e) quiet may = stays b (entered b (action.Created e)) (omega arith) (omega arith) (λ n. same_keeps (b.link n))
action_grows b (action.Outcome n o) quiet may = stays b (entered b (action.Outcome n o)) (omega arith) (omega arith) (λ m. same_keeps (b.link m))
