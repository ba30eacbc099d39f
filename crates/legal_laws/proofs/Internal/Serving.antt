-- Links that take requests: they do until they end.
use Rattle.std.proofs.Common.{◌≡◌, ◌⊎◌, inl, inr, ℕ, ◌-◌, ◌==◌, ◌&&◌, true, false, [], ◌++◌, take, refl, sym, ◌∙◌, subst, arith}
use Rattle.containers.proofs.Choices.{chosen, eq_from, not_both}
use Rattle.redis_error.specs.declared.redis_error.RedisError.TheVariants as error
use Rattle.driver_model.specs.declared.action.Action.{Action}
use Rattle.driver_model.specs.declared.action.Action.TheVariants as action
use Rattle.driver_model.specs.declared.action.Cause.TheVariants as cause
use Rattle.driver_model.specs.declared.action.Owner.TheVariants as owner
use Rattle.driver_model.specs.News.{News, silence, connected, refused, overdue, took, came, failed, authorized, denied, deserted, renewed, unrenewed, late, unrepeated, dropped, shut, news_of}
use Rattle.legal_trace.specs.Ledger.{Ledger, Line, asks, hears, begins, offers, tells, sources, times, repeats_timed, ends, parts, noted, with_news, refused_in, bytes_came, is_over, dials, awaits_credentials, authorized_by, may_renew, renewed_by, unrenewed_by, is_renewal_open, lost_by, is_repeating, unrepeated_by, is_set_up, is_ready}
use Rattle.legal_trace.specs.Managers.{settings_in, is_last}
use Rattle.legal_trace.specs.Again.{repeats_in}
use Rattle.legal_trace.specs.Book.{Book, entered, lines_of, info_in, wanted_in, hearing_in, message_of}
use Rattle.legal_trace.specs.Legal.{MayStand}
use Rattle.legal_trace.proofs.Came.{holds_bytes}
use Rattle.legal_trace.proofs.Clocks.{timer_tells}
use Rattle.legal_trace.proofs.Ledgers.{each_keeps, mine_keeps, IsAsked, asked_keeps}
use Rattle.legal_trace.proofs.Moves.{up_and_set}
use Rattle.legal_trace.proofs.Setups.{set_begins, set_is_given, set_is_undue, set_more}
use Rattle.legal_trace.proofs.Sources.{awaits_lacks}
use Rattle.legal_laws.proofs.Internal.Repeats.{served_on}
use Rattle.legal_laws.proofs.Internal.Served.{IsServed}
use Rattle.legal_laws.proofs.Links.Shaped.{IsShaped}
use Rattle.legal_laws.proofs.Notices.Pushed.{push_keeps, tell_keeps}
use Rattle.legal_laws.proofs.Traces.Sound.{Sound}

-- a link is up, or has ended
abbrev pub Stood : Ledger → Type 0
Stood l = (l.up ≡ true) ⊎ (is_over l ≡ true)

-- so with any news
stood_hears : (l : Ledger) (turn : ℕ) (news : News) → Stood l → Stood (with_news l turn news)
stood_hears l turn silence h = h
stood_hears l turn connected h = chosen Stood (is_over l) l (record l { up = true }) (λ t. h) (λ e. inl refl)
stood_hears l turn (refused f) h = chosen Stood (dials l) (refused_in l turn (error.Io f)) l (λ t. inr refl) (λ e. h)
stood_hears l turn overdue h = h
stood_hears l turn (took count) h = chosen Stood l.up (record l { taken = l.taken ++ take count l.offer; offer = [] }) l (λ t. h) (λ e. h)
stood_hears l turn (came piece) h = chosen Stood l.up (bytes_came l piece) l (λ t. holds_bytes Stood l piece (λ rest strange told more. h)) (λ e. h)
stood_hears l turn (failed f) h = h
stood_hears l turn (authorized c) h = chosen Stood (awaits_credentials l) (authorized_by l c) l (λ t. h) (λ e. h)
stood_hears l turn (denied text) h = h
stood_hears l turn deserted h = h
stood_hears l turn (renewed c) h = chosen Stood (may_renew l) (renewed_by l c) l (λ t. h) (λ e. h)
stood_hears l turn unrenewed h = chosen Stood l.up (unrenewed_by l) l (λ t. h) (λ e. h)
stood_hears l turn (late k) h = chosen Stood (l.up && is_renewal_open l k) (lost_by l) l (λ t. h) (λ e. h)
stood_hears l turn unrepeated h = chosen Stood (is_repeating l) (unrepeated_by l) l (λ t. h) (λ e. h)
stood_hears l turn dropped h = h
stood_hears l turn shut h = h

-- and with any line
stood_keeps : (l : Ledger) (x : Line) → Stood l → Stood (noted l x)
stood_keeps l (asks info wanted hearing last again) h = h
stood_keeps l (hears turn news) h = stood_hears l turn news h
stood_keeps l (begins s) h = h
stood_keeps l (offers bytes) h = h
stood_keeps l tells h = h
stood_keeps l sources h = h
stood_keeps l times h = h
stood_keeps l repeats_timed h = h
stood_keeps l (ends turn) h = inr refl
stood_keeps l parts h = h

-- it is set up
abbrev pub IsSet : Ledger → Type 0
IsSet l = is_set_up l ≡ true

-- so with any news
set_hears : (l : Ledger) (turn : ℕ) (news : News) → IsShaped l → IsSet l → IsSet (with_news l turn news)
set_hears l turn silence shaped h = h
set_hears l turn connected shaped h = chosen IsSet (is_over l) l (record l { up = true }) (λ t. h) (λ e. h)
set_hears l turn (refused f) shaped h = chosen IsSet (dials l) (refused_in l turn (error.Io f)) l (λ t. h) (λ e. h)
set_hears l turn overdue shaped h = h
set_hears l turn (took count) shaped h = chosen IsSet l.up (record l { taken = l.taken ++ take count l.offer; offer = [] }) l (λ t. h) (λ e. h)
set_hears l turn (came piece) shaped h = chosen IsSet l.up (bytes_came l piece) l (λ t. holds_bytes IsSet l piece (λ rest strange told more. set_more l rest more shaped.are h)) (λ e. h)
set_hears l turn (failed f) shaped h = h
set_hears l turn (authorized c) shaped h = chosen IsSet (awaits_credentials l) (authorized_by l c) l (λ t. absurd (let x : false ≡ true = sym (set_is_given l h) ∙ awaits_lacks l t in cc x)) (λ e. h)
set_hears l turn (denied text) shaped h = h
set_hears l turn deserted shaped h = h
set_hears l turn (renewed c) shaped h = chosen IsSet (may_renew l) (renewed_by l c) l (λ t. h) (λ e. h)
set_hears l turn unrenewed shaped h = chosen IsSet l.up (unrenewed_by l) l (λ t. h) (λ e. h)
set_hears l turn (late k) shaped h = chosen IsSet (l.up && is_renewal_open l k) (lost_by l) l (λ t. h) (λ e. h)
set_hears l turn unrepeated shaped h = chosen IsSet (is_repeating l) (unrepeated_by l) l (λ t. h) (λ e. h)
set_hears l turn dropped shaped h = h
set_hears l turn shut shaped h = h

-- and behind each action that may stand
set_kept : (b : Book) (a : Action) (l : ℕ) → MayStand b a → Sound b → IsAsked (b.link l) → IsSet (b.link l) → IsSet ((entered b a).link l)
set_kept b (action.Turn k (cause.Opening config word)) l may sound asked h = h
set_kept b (action.Turn k (cause.Event e)) l may sound asked h = set_hears (b.link l) k (news_of b.timers b.sources l e.kind) (sound.shaped l) h
set_kept b (action.Connect m host port) l may sound asked h = mine_keeps IsSet (m == l) (b.link l) (asks (info_in b.config) (wanted_in b.config) (hearing_in b.config) (is_last (settings_in b.config) b.attempt) (repeats_in (settings_in b.config) b.tracked))
    (λ t. let same : m ≡ l = eq_from m l t in let next : m ≡ b.links = may.next in absurd (not_both (b.link l).asked (sound.links.unasked l (omega (arith, same, next))).0 asked)) h
set_kept b (action.Timer t ms what) l may sound asked h = timer_tells IsSet (b.link l) l what (λ on k is e. h) (λ on is e. h) h
set_kept b (action.Took who m count) l may sound asked h = h
set_kept b (action.Push m info) l may sound asked h = push_keeps IsSet (m == l) info.kind (b.link l) h h h
set_kept b (action.Message msg) l may sound asked h = tell_keeps IsSet (b.current == l) (b.link l) h h
set_kept b (action.Monitor v) l may sound asked h = tell_keeps IsSet (b.current == l) (b.link l) h h
set_kept b (action.NeedCreds c m) l may sound asked h = mine_keeps IsSet (m == l) (b.link l) sources (λ e. h) h
set_kept b (action.Generation g) l may sound asked h = h
set_kept b (action.Round who m) l may sound asked h = h
set_kept b (action.Close m) l may sound asked h = mine_keeps IsSet (m == l) (b.link l) (ends (b.turns - 1)) (λ t. h) h
set_kept b (action.Write m bytes) l may sound asked h = mine_keeps IsSet (m == l) (b.link l) (offers bytes) (λ t. h) h
set_kept b (action.Wait who kind) l may sound asked h = h
set_kept b (action.Start m k owner.Setup count len) l may sound asked h = mine_keeps IsSet (m == l) (b.link l) (begins (message_of b m owner.Setup))
    (λ t. absurd (set_is_undue (b.link m) may.k (subst (λ j. IsSet (b.link j)) (sym (eq_from m l t)) h) may.due)) h
set_kept b (action.Start m k owner.Auth count len) l may sound asked h = mine_keeps IsSet (m == l) (b.link l) (begins (message_of b m owner.Auth)) (λ t. set_begins (b.link l) (message_of b m owner.Auth) refl h) h
set_kept b (action.Start m k owner.Resub count len) l may sound asked h = mine_keeps IsSet (m == l) (b.link l) (begins (message_of b m owner.Resub)) (λ t. set_begins (b.link l) (message_of b m owner.Resub) refl h) h
set_kept b (action.Start m k owner.Monitor count len) l may sound asked h = mine_keeps IsSet (m == l) (b.link l) (begins (message_of b m owner.Monitor)) (λ t. set_begins (b.link l) (message_of b m owner.Monitor) refl h) h
set_kept b (action.Start m k (owner.Try n round) count len) l may sound asked h = mine_keeps IsSet (m == l) (b.link l) (begins (message_of b m (owner.Try n round))) (λ t. set_begins (b.link l) (message_of b m (owner.Try n round)) refl h) h
set_kept b (action.Created e) l may sound asked h = h
set_kept b (action.Outcome n o) l may sound asked h = h

-- it takes requests, or did until it ended
pub record TakesRequests (l : Ledger) : Type 0 where
  pub asked : IsAsked l
  pub stood : Stood l
  pub set : IsSet l
  pub served : IsServed l

-- so behind each action that may stand
pub takes_kept : (b : Book) (a : Action) (l : ℕ) → MayStand b a → Sound b → TakesRequests (b.link l) → TakesRequests ((entered b a).link l)
takes_kept b a l may sound h = record {
  asked = each_keeps IsAsked asked_keeps (b.link l) (lines_of b l a) h.asked;
  stood = each_keeps Stood stood_keeps (b.link l) (lines_of b l a) h.stood;
  set = set_kept b a l may sound h.asked h.set;
  served = served_on b a l may sound.links h.asked h.served;
}

-- while it is up, it is ready
pub takes_ready : (l : Ledger) → TakesRequests l → l.up ≡ true → is_ready l ≡ true
takes_ready l h up = up_and_set l up h.set
