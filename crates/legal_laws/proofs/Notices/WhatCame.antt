-- What a trace tells of a link is what the values say that came on it once it was set up.
use Rattle.std.proofs.Common.{◌≡◌, ℕ, ◌-◌, ◌==◌, Bool, true, false, ◌&&◌, List, [], ◌∷◌, ◌++◌, take, if◌then◌else◌, refl, sym, ◌∙◌, ap, subst, append_assoc, arith}
use Rattle.std.proofs.lemmas.List.{append-nil}
use Rattle.containers.proofs.Choices.{by_test, chosen, eq_from, not_both}
use Rattle.redis_error.specs.declared.redis_error.RedisError.TheVariants as error
use Rattle.resp_value.specs.Data.{Data}
use Rattle.resp_read.specs.Values.{values, left_over}
use Rattle.driver_model.specs.declared.action.Action.{Action}
use Rattle.driver_model.specs.declared.action.Action.TheVariants as action
use Rattle.driver_model.specs.declared.action.Cause.TheVariants as cause
use Rattle.driver_model.specs.declared.hearing.Hearing.{Hearing}
use Rattle.driver_model.specs.News.{News, silence, connected, refused, overdue, took, came, failed, dropped, shut, news_of, authorized, denied, deserted, renewed, unrenewed, late, unrepeated}
use Rattle.legal_trace.specs.Ledger.{Ledger, asks, hears, begins, offers, ends, sources, noted, with_news, refused_in, bytes_came, is_over, dials, awaits_credentials, authorized_by, may_renew, renewed_by, unrenewed_by, is_renewal_open, lost_by, is_repeating, unrepeated_by}
use Rattle.legal_trace.specs.Managers.{settings_in, is_last}
use Rattle.legal_trace.specs.Book.{Book, blank_book, book, entered, entered_each, hearing_in, info_in, message_of, wanted_in}
use Rattle.legal_trace.specs.Legal.{MayStand, AllStand}
use Rattle.legal_trace.specs.Again.{repeats_in}
use Rattle.legal_trace.proofs.Clocks.{timer_tells}
use Rattle.legal_trace.proofs.Came.{holds_bytes}
use Rattle.legal_trace.proofs.Ledgers.{mine_keeps}
use Rattle.legal_laws.specs.Notices.{said_by}
use Rattle.legal_laws.specs.Values.{notices_in, heard_of, heard_in, heard_by, heard_each, values_heard}
use Rattle.legal_laws.proofs.Traces.Numbers.{HasLinks, up_is_asked}
use Rattle.legal_laws.proofs.Notices.Pushed.{push_keeps, tell_keeps}
use Rattle.legal_laws.proofs.Traces.Sound.{Sound, stays_sound, blank_is_sound}
use Rattle.legal_laws.proofs.Notices.Values.{values_say, notices_append}

-- what is to be told of a link is what these values say, which it heard; it hears what it is to, once it was asked for, and nothing
-- before
pub record HeardWell (wanted : Hearing) (l : Ledger) (vs : List Data) : Type 0 where
  pub says : said_by l.notices ≡ notices_in l.hearing vs
  pub hears : l.asked ≡ true → l.hearing ≡ wanted
  pub none : l.asked ≡ false → vs ≡ []

-- where a link is told nothing of it, so it stays
same_heard : (wanted : Hearing) (l m : Ledger) (vs : List Data) → m.notices ≡ l.notices → m.hearing ≡ l.hearing → m.asked ≡ l.asked → HeardWell wanted l vs → HeardWell wanted m (vs ++ [])
same_heard wanted l m vs notices hearing asked h = record {
  says = ap said_by notices ∙ (h.says ∙ (ap (λ heard. notices_in heard vs) (sym hearing) ∙ ap (notices_in m.hearing) (sym (append-nil vs))));
  hears = λ a. hearing ∙ h.hears (sym asked ∙ a);
  none = λ a. append-nil vs ∙ h.none (sym asked ∙ a);
}

-- bytes that come on a link that is up, or isn't
came_by : (wanted : Hearing) (l : Ledger) (piece : List ℕ) (vs : List Data) (up : Bool) → l.up ≡ up → (l.asked ≡ false → l.up ≡ false) → HeardWell wanted l vs
    → HeardWell wanted (if up then bytes_came l piece else l) (vs ++ (if up then heard_of (record l { rest = left_over (l.rest ++ piece) }) (values (l.rest ++ piece)) else []))
came_by wanted l piece vs false e down h = same_heard wanted l l vs refl refl refl h
came_by wanted l piece vs true e down h =
    let m : Ledger = record l { rest = left_over (l.rest ++ piece) } in
    let heard : List Data = heard_of m (values (l.rest ++ piece)) in
    let still : (bytes_came l piece).hearing ≡ l.hearing = holds_bytes (λ (x : Ledger). x.hearing ≡ l.hearing) l piece (λ rest strange told more. refl) in
    record {
      says = values_say m (values (l.rest ++ piece))
          ∙ (ap (λ ns. ns ++ notices_in l.hearing heard) h.says
          ∙ (sym (notices_append l.hearing vs heard) ∙ ap (λ hearing. notices_in hearing (vs ++ heard)) (sym still)));
      hears = holds_bytes (λ (x : Ledger). x.asked ≡ true → x.hearing ≡ wanted) l piece (λ rest strange told more. h.hears);
      none = holds_bytes (λ (x : Ledger). x.asked ≡ false → vs ++ heard ≡ []) l piece (λ rest strange told more unasked. absurd (not_both l.up (down unasked) e));
    }

-- so with any news
news_well : (wanted : Hearing) (l : Ledger) (turn : ℕ) (news : News) (vs : List Data) → (l.asked ≡ false → l.up ≡ false) → HeardWell wanted l vs → HeardWell wanted (with_news l turn news) (vs ++ heard_in l news)
news_well wanted l turn silence vs down h = same_heard wanted l l vs refl refl refl h
news_well wanted l turn connected vs down h = chosen (λ x. HeardWell wanted x (vs ++ [])) (is_over l) l (record l { up = true }) (λ t. same_heard wanted l l vs refl refl refl h) (λ e. same_heard wanted l _ vs refl refl refl h)
news_well wanted l turn (refused f) vs down h = chosen (λ x. HeardWell wanted x (vs ++ [])) (dials l) (refused_in l turn (error.Io f)) l (λ t. same_heard wanted l _ vs refl refl refl h) (λ e. same_heard wanted l l vs refl refl refl h)
news_well wanted l turn overdue vs down h = same_heard wanted l l vs refl refl refl h
news_well wanted l turn (took count) vs down h = chosen (λ x. HeardWell wanted x (vs ++ [])) l.up (record l { taken = l.taken ++ take count l.offer; offer = [] }) l (λ t. same_heard wanted l _ vs refl refl refl h) (λ e. same_heard wanted l l vs refl refl refl h)
news_well wanted l turn (came piece) vs down h = came_by wanted l piece vs l.up refl down h
news_well wanted l turn (failed f) vs down h = same_heard wanted l l vs refl refl refl h
news_well wanted l turn (authorized c) vs down h = chosen (λ x. HeardWell wanted x (vs ++ [])) (awaits_credentials l) (authorized_by l c) l (λ t. same_heard wanted l _ vs refl refl refl h) (λ e. same_heard wanted l l vs refl refl refl h)
news_well wanted l turn (denied text) vs down h = same_heard wanted l l vs refl refl refl h
news_well wanted l turn deserted vs down h = same_heard wanted l l vs refl refl refl h
news_well wanted l turn (renewed c) vs down h = chosen (λ x. HeardWell wanted x (vs ++ [])) (may_renew l) (renewed_by l c) l (λ t. same_heard wanted l _ vs refl refl refl h) (λ e. same_heard wanted l l vs refl refl refl h)
news_well wanted l turn unrenewed vs down h = chosen (λ x. HeardWell wanted x (vs ++ [])) l.up (unrenewed_by l) l (λ t. same_heard wanted l _ vs refl refl refl h) (λ e. same_heard wanted l l vs refl refl refl h)
news_well wanted l turn (late k) vs down h = chosen (λ x. HeardWell wanted x (vs ++ [])) (l.up && is_renewal_open l k) (lost_by l) l (λ t. same_heard wanted l _ vs refl refl refl h) (λ e. same_heard wanted l l vs refl refl refl h)
news_well wanted l turn unrepeated vs down h = chosen (λ x. HeardWell wanted x (vs ++ [])) (is_repeating l) (unrepeated_by l) l (λ t. same_heard wanted l _ vs refl refl refl h) (λ e. same_heard wanted l l vs refl refl refl h)
news_well wanted l turn dropped vs down h = same_heard wanted l l vs refl refl refl h
news_well wanted l turn shut vs down h = same_heard wanted l l vs refl refl refl h

-- and with a turn
hears_well : (wanted : Hearing) (l : Ledger) (turn : ℕ) (news : News) (vs : List Data) → (l.asked ≡ false → l.up ≡ false) → HeardWell wanted l vs → HeardWell wanted (noted l (hears turn news)) (vs ++ heard_in l news)
hears_well wanted l turn news vs down h = let m = news_well wanted l turn news vs down h in record { says = m.says; hears = m.hears; none = m.none }

-- with the connect of a link that was not asked for
asks_well : (b : Book) (l : Ledger) (vs : List Data) → l.asked ≡ false → HeardWell (hearing_in b.config) l vs → HeardWell (hearing_in b.config) (noted l (asks (info_in b.config) (wanted_in b.config) (hearing_in b.config) (is_last (settings_in b.config) b.attempt) (repeats_in (settings_in b.config) b.tracked))) (vs ++ [])
asks_well b l vs unasked h =
    let nothing : vs ≡ [] = h.none unasked in
    record {
      says = h.says ∙ (ap (notices_in l.hearing) nothing ∙ sym (ap (λ (ws : List Data). notices_in (hearing_in b.config) (ws ++ [])) nothing));
      hears = λ a. refl;
      none = λ a. cc a;
    }

-- a link that was not asked for is down
unasked_is_down : (b : Book) (l : ℕ) → HasLinks b → (b.link l).asked ≡ false → (b.link l).up ≡ false
unasked_is_down b l links unasked = by_test (b.link l).up ((b.link l).up ≡ false) (λ t. absurd (not_both (b.link l).asked unasked (up_is_asked b l links t))) (λ f. f)

-- so with each action that may stand
step_well : (b : Book) (l : ℕ) (vs : List Data) (a : Action) → MayStand b a → Sound b → HeardWell (hearing_in b.config) (b.link l) vs → HeardWell (hearing_in (entered b a).config) ((entered b a).link l) (vs ++ heard_by b l a)
step_well b l vs (action.Turn k (cause.Opening config word)) may s h =
    let none : b.links ≡ 0 = s.opens.no_links may.is_for in
    let unasked : (b.link l).asked ≡ false = (s.links.unasked l (omega (arith, none))).0 in
    record {
      says = h.says ∙ ap (notices_in (b.link l).hearing) (sym (append-nil vs));
      hears = λ asked. absurd (not_both (b.link l).asked unasked asked);
      none = λ e. append-nil vs ∙ h.none e;
    }
step_well b l vs (action.Turn k (cause.Event e)) may s h = hears_well (hearing_in b.config) (b.link l) k (news_of b.timers b.sources l e.kind) vs (unasked_is_down b l s.links) h
step_well b l vs (action.Connect m host port) may s h = mine_keeps (λ x. HeardWell (hearing_in b.config) x (vs ++ [])) (m == l) (b.link l) (asks (info_in b.config) (wanted_in b.config) (hearing_in b.config) (is_last (settings_in b.config) b.attempt) (repeats_in (settings_in b.config) b.tracked))
    (λ t. let same : m ≡ l = eq_from m l t in let next : m ≡ b.links = may.next in asks_well b (b.link l) vs (s.links.unasked l (omega (arith, same, next))).0 h) (same_heard (hearing_in b.config) (b.link l) (b.link l) vs refl refl refl h)
step_well b l vs (action.Timer t ms what) may s h = timer_tells (λ x. HeardWell (hearing_in b.config) x (vs ++ [])) (b.link l) l what (λ on k is e. same_heard (hearing_in b.config) (b.link l) _ vs refl refl refl h) (λ on is e. same_heard (hearing_in b.config) (b.link l) _ vs refl refl refl h) (same_heard (hearing_in b.config) (b.link l) (b.link l) vs refl refl refl h)
step_well b l vs (action.Took who m count) may s h = same_heard (hearing_in b.config) (b.link l) (b.link l) vs refl refl refl h
step_well b l vs (action.Push m info) may s h = push_keeps (λ x. HeardWell (hearing_in b.config) x (vs ++ [])) (m == l) info.kind (b.link l) (same_heard (hearing_in b.config) (b.link l) _ vs refl refl refl h) (same_heard (hearing_in b.config) (b.link l) _ vs refl refl refl h) (same_heard (hearing_in b.config) (b.link l) (b.link l) vs refl refl refl h)
step_well b l vs (action.Message msg) may s h = tell_keeps (λ x. HeardWell (hearing_in b.config) x (vs ++ [])) (b.current == l) (b.link l) (same_heard (hearing_in b.config) (b.link l) _ vs refl refl refl h) (same_heard (hearing_in b.config) (b.link l) (b.link l) vs refl refl refl h)
step_well b l vs (action.Monitor v) may s h = tell_keeps (λ x. HeardWell (hearing_in b.config) x (vs ++ [])) (b.current == l) (b.link l) (same_heard (hearing_in b.config) (b.link l) _ vs refl refl refl h) (same_heard (hearing_in b.config) (b.link l) (b.link l) vs refl refl refl h)
step_well b l vs (action.NeedCreds c m) may s h = mine_keeps (λ x. HeardWell (hearing_in b.config) x (vs ++ [])) (m == l) (b.link l) sources (λ t. same_heard (hearing_in b.config) (b.link l) _ vs refl refl refl h) (same_heard (hearing_in b.config) (b.link l) (b.link l) vs refl refl refl h)
step_well b l vs (action.Generation g) may s h = same_heard (hearing_in b.config) (b.link l) (b.link l) vs refl refl refl h
step_well b l vs (action.Round who m) may s h = same_heard (hearing_in b.config) (b.link l) (b.link l) vs refl refl refl h
step_well b l vs (action.Close m) may s h = mine_keeps (λ x. HeardWell (hearing_in b.config) x (vs ++ [])) (m == l) (b.link l) (ends (b.turns - 1)) (λ t. same_heard (hearing_in b.config) (b.link l) _ vs refl refl refl h) (same_heard (hearing_in b.config) (b.link l) (b.link l) vs refl refl refl h)
step_well b l vs (action.Write m bytes) may s h = mine_keeps (λ x. HeardWell (hearing_in b.config) x (vs ++ [])) (m == l) (b.link l) (offers bytes) (λ t. same_heard (hearing_in b.config) (b.link l) _ vs refl refl refl h) (same_heard (hearing_in b.config) (b.link l) (b.link l) vs refl refl refl h)
step_well b l vs (action.Wait who kind) may s h = same_heard (hearing_in b.config) (b.link l) (b.link l) vs refl refl refl h
step_well b l vs (action.Start m k who count len) may s h = mine_keeps (λ x. HeardWell (hearing_in b.config) x (vs ++ [])) (m == l) (b.link l) (begins (message_of b m who)) (λ t. same_heard (hearing_in b.config) (b.link l) _ vs refl refl refl h) (same_heard (hearing_in b.config) (b.link l) (b.link l) vs refl refl refl h)
step_well b l vs (action.Created e) may s h = same_heard (hearing_in b.config) (b.link l) (b.link l) vs refl refl refl h
step_well b l vs (action.Outcome n o) may s h = same_heard (hearing_in b.config) (b.link l) (b.link l) vs refl refl refl h

-- and with many
each_well : (b : Book) (l : ℕ) (vs : List Data) (trace : List Action) → AllStand b trace → Sound b → HeardWell (hearing_in b.config) (b.link l) vs → HeardWell (hearing_in (entered_each b trace).config) ((entered_each b trace).link l) (vs ++ heard_each b l trace)
each_well b l vs [] all s h = subst (HeardWell (hearing_in b.config) (b.link l)) (sym (append-nil vs)) h
each_well b l vs (a ∷ more) all s h =
    subst (HeardWell (hearing_in (entered_each (entered b a) more).config) ((entered_each (entered b a) more).link l)) (append_assoc vs (heard_by b l a) (heard_each (entered b a) l more))
    (each_well (entered b a) l (vs ++ heard_by b l a) more all.1 (stays_sound b a all.0 s) (step_well b l vs a all.0 s h))

-- so behind actions that may stand
pub heard_behind : (l : ℕ) (front : List Action) → AllStand blank_book front → HeardWell (hearing_in (book front).config) ((book front).link l) (values_heard l front)
unfolding book
heard_behind l front all = each_well blank_book l [] front all blank_is_sound (record { says = refl; hears = λ a. cc; none = λ a. refl })

-- what is to be told is what the values say, which the link heard
pub heard_says : (wanted : Hearing) (l : Ledger) (vs : List Data) → HeardWell wanted l vs → said_by l.notices ≡ notices_in wanted vs
heard_says wanted l vs h = by_test l.asked (said_by l.notices ≡ notices_in wanted vs)
    (λ t. h.says ∙ ap (λ hearing. notices_in hearing vs) (h.hears t))
    (λ f. let nothing : vs ≡ [] = h.none f in h.says ∙ (ap (notices_in l.hearing) nothing ∙ sym (ap (notices_in wanted) nothing)))
