-- What a link hears, and what it leaves of what it has taken and is offered.
use Rattle.std.proofs.Common.{◌≡◌, ℕ, ◌==◌, if◌then◌else◌, Bool, true, false, ◌&&◌, List, [], ◌++◌, take, Option, Some, None, slice_get, refl, sym, ap}
use Rattle.std.proofs.lemmas.List.{append-nil}
use Rattle.containers.proofs.Choices.{chosen, if_true, not_both}
use Rattle.redis_error.specs.declared.redis_error.RedisError.TheVariants as error
use Rattle.driver_model.specs.declared.action.Purpose.{Purpose}
use Rattle.driver_model.specs.declared.action.Purpose.TheVariants as purpose
use Rattle.driver_model.specs.declared.action.SourceUse.{SourceUse}
use Rattle.driver_model.specs.declared.event.EventKind.{EventKind}
use Rattle.driver_model.specs.declared.event.EventKind.TheVariants as event
use Rattle.driver_model.specs.declared.news.LinkFault.TheVariants as fault
use Rattle.driver_model.specs.News.{News, silence, connected, refused, overdue, took, came, failed, authorized, denied, deserted, renewed, unrenewed, late, unrepeated, dropped, shut, for_link, of_timer, of_source, is_source_of, renews, news_of}
use Rattle.legal_trace.specs.Ledger.{Ledger, Line, hears, offers, noted, noted_each, is_over, dials, refused_in, bytes_came, awaits_credentials, authorized_by, may_renew, renewed_by, unrenewed_by, is_renewal_open, lost_by, is_repeating, unrepeated_by}
use Rattle.legal_trace.specs.Book.{if_mine}
use Rattle.legal_trace.proofs.Came.{holds_bytes}
use Rattle.live_laws.specs.Taken.{IsNoWrote}

abbrev pub IsNoTook : News → Type 0
IsNoTook (took count) = ⊥
IsNoTook _ = Unit {0}

-- a link that was up is, offers what it offered, and has taken what it had
abbrev pub Stays : Ledger → Ledger → Type 0
Stays g h = (g.up ≡ true → h.up ≡ true) × (h.offer ≡ g.offer) × (h.taken ≡ g.taken)

pub stays_same : (g : Ledger) → Stays g g
stays_same g = (λ u. u, refl, refl)

pub hears_stays : (g : Ledger) (turn : ℕ) (news : News) → IsNoTook news → Stays g (noted g (hears turn news))
hears_stays g turn silence quiet = (λ u. u, refl, refl)
hears_stays g turn connected quiet = chosen (λ (m : Ledger). Stays g (record m { heard = connected })) (is_over g) g (record g { up = true }) (λ t. (λ u. u, refl, refl)) (λ f. (λ u. refl, refl, refl))
hears_stays g turn (refused f) quiet =
    chosen (λ (m : Ledger). Stays g (record m { heard = refused f })) (dials g) (refused_in g turn (error.Io f)) g (λ t. (λ u. u, refl, refl)) (λ e. (λ u. u, refl, refl))
hears_stays g turn overdue quiet = (λ u. u, refl, refl)
hears_stays g turn (took count) quiet = absurd quiet
hears_stays g turn (came piece) quiet =
    chosen (λ (m : Ledger). Stays g (record m { heard = came piece })) g.up (bytes_came g piece) g
    (λ t. holds_bytes (λ (m : Ledger). Stays g (record m { heard = came piece })) g piece (λ rest strange told more. (λ u. u, refl, refl)))
    (λ f. (λ u. u, refl, refl))
hears_stays g turn (failed f) quiet = (λ u. u, refl, refl)
hears_stays g turn (authorized c) quiet =
    chosen (λ (m : Ledger). Stays g (record m { heard = authorized c })) (awaits_credentials g) (authorized_by g c) g (λ t. (λ u. u, refl, refl)) (λ f. (λ u. u, refl, refl))
hears_stays g turn (denied text) quiet = (λ u. u, refl, refl)
hears_stays g turn deserted quiet = (λ u. u, refl, refl)
hears_stays g turn (renewed c) quiet = chosen (λ (m : Ledger). Stays g (record m { heard = renewed c })) (may_renew g) (renewed_by g c) g (λ t. (λ u. u, refl, refl)) (λ f. (λ u. u, refl, refl))
hears_stays g turn unrenewed quiet = chosen (λ (m : Ledger). Stays g (record m { heard = unrenewed })) g.up (unrenewed_by g) g (λ t. (λ u. u, refl, refl)) (λ f. (λ u. u, refl, refl))
hears_stays g turn (late k) quiet =
    chosen (λ (m : Ledger). Stays g (record m { heard = late k })) (g.up && is_renewal_open g k) (lost_by g) g (λ t. (λ u. u, refl, refl)) (λ f. (λ u. u, refl, refl))
hears_stays g turn unrepeated quiet = chosen (λ (m : Ledger). Stays g (record m { heard = unrepeated })) (is_repeating g) (unrepeated_by g) g (λ t. (λ u. u, refl, refl)) (λ f. (λ u. u, refl, refl))
hears_stays g turn dropped quiet = (λ u. u, refl, refl)
hears_stays g turn shut quiet = (λ u. u, refl, refl)

not_took : (mine : Bool) (news : News) → IsNoTook news → IsNoTook (for_link mine news)
not_took mine news h = chosen IsNoTook mine news silence (λ t. h) (λ f. tt)

timer_not_took : (n : ℕ) (what : Option Purpose) → IsNoTook (of_timer n what)
timer_not_took n None = tt
timer_not_took n (Some (purpose.Connect l)) = not_took (l == n) overdue tt
timer_not_took n (Some (purpose.Response who)) = tt
timer_not_took n (Some (purpose.Renewal l k)) = not_took (l == n) (late k) tt
timer_not_took n (Some (purpose.Backoff g)) = tt
timer_not_took n (Some (purpose.Resubscription l)) = not_took (l == n) unrepeated tt

source_not_took : (n : ℕ) (what : Option SourceUse) (first later : News) → IsNoTook first → IsNoTook later → IsNoTook (of_source n what first later)
source_not_took n what first later h k = chosen IsNoTook (is_source_of n what) first (for_link (renews n what) later) (λ t. h) (λ f. not_took (renews n what) later k)

pub event_not_took : (timers : List Purpose) (sources : List SourceUse) (n : ℕ) (kind : EventKind) → IsNoWrote kind → IsNoTook (news_of timers sources n kind)
event_not_took timers sources n (event.Connected l) quiet = not_took (l == n) connected tt
event_not_took timers sources n (event.Refused l f) quiet = not_took (l == n) (refused f) tt
event_not_took timers sources n (event.Wrote l count) quiet = absurd quiet
event_not_took timers sources n (event.Bytes l piece) quiet = not_took (l == n) (came piece) tt
event_not_took timers sources n (event.Ended l) quiet = not_took (l == n) (failed fault.Ended) tt
event_not_took timers sources n (event.ReadFault l kind) quiet = not_took (l == n) (failed (fault.Io kind)) tt
event_not_took timers sources n (event.WriteFault l kind) quiet = not_took (l == n) (failed (fault.Io kind)) tt
event_not_took timers sources n (event.Fired t) quiet = timer_not_took n (slice_get timers t)
event_not_took timers sources n (event.Timeout ms) quiet = tt
event_not_took timers sources n (event.Creds c auth) quiet = source_not_took n (slice_get sources c) (authorized auth) (renewed auth) tt tt
event_not_took timers sources n (event.CredsError c text) quiet = source_not_took n (slice_get sources c) (denied text) silence tt tt
event_not_took timers sources n (event.CredsEnd c) quiet = source_not_took n (slice_get sources c) deserted unrenewed tt tt
event_not_took timers sources n event.DropStream quiet = tt
event_not_took timers sources n event.Shutdown quiet = tt
event_not_took timers sources n (event.Submit s) quiet = tt
event_not_took timers sources n (event.Cancel s) quiet = tt

-- an offer of another link is taken
pub other_stays : (mine : Bool) (g : Ledger) (turn count : ℕ) → mine ≡ false → Stays g (noted g (hears turn (for_link mine (took count))))
other_stays true g turn count other = absurd (not_both true other refl)
other_stays false g turn count other = (λ u. u, refl, refl)

-- bytes are taken of what a link that is up is offered
pub mine_takes : (mine : Bool) (g : Ledger) (turn count : ℕ) (piece : List ℕ) → (mine ≡ true → (g.up ≡ true) × (g.offer ≡ piece))
    → (noted g (hears turn (for_link mine (took count)))).taken ≡ g.taken ++ (if mine then take count piece else [])
mine_takes true g turn count piece h =
    let k = h refl in
    if_true (λ (m : Ledger). m.taken ≡ g.taken ++ take count piece) g.up (record g { taken = g.taken ++ take count g.offer; offer = [] }) g k.0 (ap (λ (bytes : List ℕ). g.taken ++ take count bytes) k.1)
mine_takes false g turn count piece h = sym (append-nil g.taken)

-- a line of another link
pub not_mine : (mine : Bool) (g : Ledger) (x : Line) → mine ≡ false → Stays g (noted_each g (if_mine mine x))
not_mine true g x other = absurd (not_both true other refl)
not_mine false g x other = stays_same g

-- an offer of the link's own
pub mine_offers : (mine : Bool) (g : Ledger) (bytes : List ℕ) → mine ≡ true → g.up ≡ true → ((noted_each g (if_mine mine (offers bytes))).up ≡ true) × ((noted_each g (if_mine mine (offers bytes))).offer ≡ bytes)
mine_offers true g bytes t up = (up, refl)
mine_offers false g bytes t up = absurd (not_both false refl t)
