-- How a link ended stays as it was.
use Rattle.std.proofs.Common.{◌≡◌, ℕ, ◌-◌, ◌==◌, true, ◌&&◌, [], ◌++◌, take, Option, Some, None, is_some, refl, sym, ◌∙◌, ap}
use Rattle.containers.proofs.Choices.{chosen, eq_from}
use Rattle.redis_error.specs.declared.redis_error.RedisError.TheVariants as error
use Rattle.driver_model.specs.declared.action.Action.{Action}
use Rattle.driver_model.specs.declared.action.Action.TheVariants as action
use Rattle.driver_model.specs.declared.action.Cause.TheVariants as cause
use Rattle.driver_model.specs.News.{News, silence, connected, refused, overdue, took, came, failed, authorized, denied, deserted, renewed, unrenewed, late, unrepeated, dropped, shut, news_of}
use Rattle.legal_trace.specs.Ledger.{Ledger, End, asks, begins, offers, ends, with_news, refused_in, bytes_came, is_over, dials, ending, sources, awaits_credentials, authorized_by, may_renew, renewed_by, unrenewed_by, is_renewal_open, lost_by, is_repeating, unrepeated_by}
use Rattle.legal_trace.specs.Managers.{settings_in, is_last}
use Rattle.legal_trace.specs.Book.{Book, entered, info_in, message_of, wanted_in, hearing_in}
use Rattle.legal_trace.specs.Legal.{MayStand}
use Rattle.legal_trace.specs.Again.{repeats_in}
use Rattle.legal_trace.proofs.Clocks.{timer_tells}
use Rattle.legal_trace.proofs.Ledgers.{mine_keeps, dials_from, UpIsNotOver}
use Rattle.legal_trace.proofs.Plain.{none_from, not_none}
use Rattle.legal_trace.proofs.Came.{holds_bytes}
use Rattle.legal_laws.proofs.Notices.Pushed.{push_keeps, tell_keeps}
use Rattle.legal_laws.proofs.Links.Quiet.{over_stays}

-- a link ended so
abbrev pub EndedSo : End → Ledger → Type 0
EndedSo end l = l.end ≡ Some end

-- news leave it so
end_hears : (end : End) (l : Ledger) (turn : ℕ) (news : News) → EndedSo end l → EndedSo end (with_news l turn news)
end_hears end l turn silence h = h
end_hears end l turn connected h = chosen (EndedSo end) (is_over l) l (record l { up = true }) (λ t. h) (λ f. h)
end_hears end l turn (refused f) h = chosen (EndedSo end) (dials l) (refused_in l turn (error.Io f)) l (λ t. absurd (not_none l.end end (none_from l.end (dials_from l t).2) h)) (λ e. h)
end_hears end l turn overdue h = h
end_hears end l turn (took count) h = chosen (EndedSo end) l.up (record l { taken = l.taken ++ take count l.offer; offer = [] }) l (λ t. h) (λ f. h)
end_hears end l turn (came piece) h = chosen (EndedSo end) l.up (bytes_came l piece) l (λ t. holds_bytes (EndedSo end) l piece (λ rest strange told more. h)) (λ f. h)
end_hears end l turn (failed f) h = h
end_hears end l turn (authorized c) h = chosen (EndedSo end) (awaits_credentials l) (authorized_by l c) l (λ t. h) (λ f. h)
end_hears end l turn (denied text) h = h
end_hears end l turn deserted h = h
end_hears end l turn (renewed c) h = chosen (EndedSo end) (may_renew l) (renewed_by l c) l (λ t. h) (λ f. h)
end_hears end l turn unrenewed h = chosen (EndedSo end) l.up (unrenewed_by l) l (λ t. h) (λ f. h)
end_hears end l turn (late k) h = chosen (EndedSo end) (l.up && is_renewal_open l k) (lost_by l) l (λ t. h) (λ f. h)
end_hears end l turn unrepeated h = chosen (EndedSo end) (is_repeating l) (unrepeated_by l) l (λ t. h) (λ f. h)
end_hears end l turn dropped h = h
end_hears end l turn shut h = h

-- and so does each action that may stand
pub end_kept : (b : Book) (a : Action) (l : ℕ) (end : End) → MayStand b a → UpIsNotOver (b.link l) → (b.link l).end ≡ Some end → ((entered b a).link l).end ≡ Some end
end_kept b (action.Turn k (cause.Opening config word)) l end may up h = h
end_kept b (action.Turn k (cause.Event e)) l end may up h = end_hears end (b.link l) k (news_of b.timers b.sources l e.kind) h
end_kept b (action.Connect m host port) l end may up h = mine_keeps (EndedSo end) (m == l) (b.link l) (asks (info_in b.config) (wanted_in b.config) (hearing_in b.config) (is_last (settings_in b.config) b.attempt) (repeats_in (settings_in b.config) b.tracked)) (λ t. h) h
end_kept b (action.Timer t ms what) l end may up h = timer_tells (EndedSo end) (b.link l) l what (λ on k is e. h) (λ on is e. h) h
end_kept b (action.Took who m count) l end may up h = h
end_kept b (action.Push m info) l end may up h = push_keeps (EndedSo end) (m == l) info.kind (b.link l) h h h
end_kept b (action.Message msg) l end may up h = tell_keeps (EndedSo end) (b.current == l) (b.link l) h h
end_kept b (action.Monitor v) l end may up h = tell_keeps (EndedSo end) (b.current == l) (b.link l) h h
end_kept b (action.NeedCreds c m) l end may up h = mine_keeps (EndedSo end) (m == l) (b.link l) sources (λ e. h) h
end_kept b (action.Generation g) l end may up h = h
end_kept b (action.Round who m) l end may up h = h
end_kept b (action.Close m) l end may up h =
    mine_keeps (EndedSo end) (m == l) (b.link l) (ends (b.turns - 1)) (λ t. absurd (not_none (ending (b.link l)) may.why (over_stays (b.link l) end up h) (ap (λ j. ending (b.link j)) (sym (eq_from m l t)) ∙ may.ends))) h
end_kept b (action.Write m bytes) l end may up h = mine_keeps (EndedSo end) (m == l) (b.link l) (offers bytes) (λ t. h) h
end_kept b (action.Wait who kind) l end may up h = h
end_kept b (action.Start m k who count len) l end may up h = mine_keeps (EndedSo end) (m == l) (b.link l) (begins (message_of b m who)) (λ t. h) h
end_kept b (action.Created e) l end may up h = h
end_kept b (action.Outcome n o) l end may up h = h

-- what is some
pub some_end : (o : Option End) → is_some o ≡ true → (end : End) × (o ≡ Some end)
some_end None e = absurd (cc e)
some_end (Some end) e = (end, refl)

-- so what has ended has
pub over_kept : (b : Book) (a : Action) (l : ℕ) → MayStand b a → UpIsNotOver (b.link l) → is_over (b.link l) ≡ true → is_over ((entered b a).link l) ≡ true
over_kept b a l may up over = let end = some_end (b.link l).end over in ap is_some (end_kept b a l end.0 may up end.1)
