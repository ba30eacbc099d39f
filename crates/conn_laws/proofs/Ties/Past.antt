-- Submissions stay with their link, and a link ends in one turn.
use Rattle.std.proofs.Common.{◌≡◌, inl, inr, ℕ, ◌+◌, ◌-◌, ◌≤◌, Bool, true, false, ◌&&◌, ◌||◌, [], ◌++◌, Some, take, refl, sym, ap, ◌∙◌, arith}
use Rattle.containers.proofs.Choices.{chosen}
use Rattle.redis_error.specs.declared.redis_error.RedisError.TheVariants as error
use Rattle.driver_model.specs.News.{News, silence, connected, refused, overdue, took, came, failed, authorized, denied, deserted, renewed, unrenewed, late, unrepeated, dropped, shut}
use Rattle.legal_trace.specs.Ledger.{Ledger, Line, End, asks, authorized_by, awaits_credentials, begins, bytes_came, dials, ends, hears, is_over, is_renewal_open, is_repeating, lost_by, may_renew, noted, offers, parts, refused_in, renewed_by, repeats_timed, sources, tells, times, unrenewed_by, unrepeated_by, with_news}
use Rattle.legal_trace.specs.Story.{Story, fires, is_open, left}
use Rattle.legal_trace.proofs.Came.{holds_bytes}
use Rattle.legal_trace.proofs.Plain.{same_some}
use Rattle.conn_laws.proofs.Links.Lost.{news_end}

-- a story goes to the same link
abbrev pub SameLink : Story → Story → Type 0
SameLink s r = r.link ≡ s.link

-- whoever goes does
pub left_link : (s : Story) → SameLink s (left s)
left_link s = chosen (SameLink s) (is_open s) _ s (λ t. refl) (λ f. refl)

pub fires_link : (s : Story) → SameLink s (fires s)
fires_link s = chosen (SameLink s) (is_open s) _ s (λ t. refl) (λ f. refl)

-- the turns of ends
--
-- a link has ended in a turn that has begun, if it has
abbrev pub EndsBefore : ℕ → Ledger → Type 0
EndsBefore turns l = (e : End) → l.end ≡ Some e → e.turn ≤ turns - 1

-- news end it in their turn, if they do
pub hears_before : (turns : ℕ) (l : Ledger) (news : News) → EndsBefore turns l → EndsBefore (turns + 1) (noted l (hears turns news))
hears_before turns l news h e is = elim (news_end l turns news) [
  | inl same ↦ (let le = h e (sym same ∙ is) in omega (arith, le))
  | inr new ↦ (let here = ap (λ (x : End). x.turn) (same_some _ e (sym new.1 ∙ is)) in omega (arith, here))
]

-- a source that gives no more
--
-- so it is of a link that is up, or was
abbrev pub OverOnce : Ledger → Type 0
OverOnce l = l.creds.over ≡ true → (l.up || is_over l) ≡ true

-- of a link whose connect succeeded, or that has ended
either_true : (x : Bool) → (x || true) ≡ true
either_true true = refl
either_true false = refl

once_hears : (l : Ledger) (turn : ℕ) (news : News) → OverOnce l → OverOnce (with_news l turn news)
once_hears l turn silence h = h
once_hears l turn connected h = chosen OverOnce (is_over l) l (record l { up = true }) (λ t. h) (λ f over. refl)
once_hears l turn (refused f) h = chosen OverOnce (dials l) (refused_in l turn (error.Io f)) l (λ t over. either_true l.up) (λ d. h)
once_hears l turn overdue h = h
once_hears l turn (took count) h = chosen OverOnce l.up (record l { taken = l.taken ++ take count l.offer; offer = [] }) l (λ t. h) (λ f. h)
once_hears l turn (came piece) h = chosen OverOnce l.up (bytes_came l piece) l (λ t. holds_bytes OverOnce l piece (λ rest strange told more. h)) (λ f. h)
once_hears l turn (failed f) h = h
once_hears l turn (authorized c) h = chosen OverOnce (awaits_credentials l) (authorized_by l c) l (λ t. h) (λ f. h)
once_hears l turn (denied text) h = h
once_hears l turn deserted h = h
once_hears l turn (renewed c) h = chosen OverOnce (may_renew l) (renewed_by l c) l (λ t. h) (λ f. h)
once_hears l turn unrenewed h = chosen OverOnce l.up (unrenewed_by l) l (λ t over. ap (λ u. u || is_over l) t) (λ f. h)
once_hears l turn (late k) h = chosen OverOnce (l.up && is_renewal_open l k) (lost_by l) l (λ t. h) (λ f. h)
once_hears l turn unrepeated h = chosen OverOnce (is_repeating l) (unrepeated_by l) l (λ t. h) (λ f. h)
once_hears l turn dropped h = h
once_hears l turn shut h = h

-- each line keeps it
pub once_kept : (l : Ledger) (x : Line) → OverOnce l → OverOnce (noted l x)
once_kept l (asks info wanted hearing last again) h = λ over. cc
once_kept l (hears turn news) h = once_hears l turn news h
once_kept l (begins s) h = h
once_kept l (offers bytes) h = h
once_kept l tells h = h
once_kept l sources h = h
once_kept l times h = h
once_kept l repeats_timed h = h
once_kept l (ends turn) h = λ over. refl
once_kept l parts h = h
