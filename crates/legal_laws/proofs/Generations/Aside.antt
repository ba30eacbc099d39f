-- Links that submissions no longer go to, or don't go to yet: none of them is up, and nothing of them is to be shown.
use Rattle.std.proofs.Common.{◌≡◌, ◌≢◌, ℕ, ◌-◌, ◌≤◌, ◌==◌, nat_le, Bool, true, false, ◌&&◌, not, [], ◌+◌, ◌++◌, take, Some, None, if◌then◌else◌, refl, sym, ◌∙◌, ap, arith}
use Rattle.containers.proofs.Choices.{by_test, chosen, if_false, left_if, le_from, not_le_from, eq_from, not_both}
use Rattle.redis_error.specs.declared.redis_error.RedisError.{RedisError}
use Rattle.redis_error.specs.declared.redis_error.RedisError.TheVariants as error
use Rattle.driver_model.specs.declared.action.Action.{Action}
use Rattle.driver_model.specs.declared.action.Action.TheVariants as action
use Rattle.driver_model.specs.declared.action.Cause.TheVariants as cause
use Rattle.driver_model.specs.News.{News, silence, connected, refused, overdue, took, came, failed, authorized, denied, deserted, renewed, unrenewed, late, unrepeated, dropped, shut, news_of}
use Rattle.legal_trace.specs.Ledger.{Ledger, asks, hears, begins, offers, ends, noted, with_news, refused_in, bytes_came, is_over, is_cut, dials, ending, ending_alive, ending_asked, failure_in, sources, awaits_credentials, authorized_by, may_renew, renewed_by, unrenewed_by, is_renewal_open, lost_by, is_repeating, unrepeated_by}
use Rattle.legal_trace.specs.Managers.{settings_in, is_last}
use Rattle.legal_trace.specs.Book.{Book, entered, info_in, message_of, wanted_in, hearing_in}
use Rattle.legal_trace.specs.Legal.{MayStand, are_pushes_heard}
use Rattle.legal_trace.specs.Again.{repeats_in}
use Rattle.legal_trace.proofs.Clocks.{timer_tells}
use Rattle.legal_trace.proofs.Ledgers.{mine_keeps}
use Rattle.legal_trace.proofs.Plain.{not_none}
use Rattle.legal_laws.proofs.Traces.Numbers.{HasLinks, not_connected}
use Rattle.legal_laws.proofs.Links.Opens.{IsOpening}
use Rattle.legal_laws.proofs.Notices.Pushed.{push_keeps, tell_keeps}

-- a link is not up, its connect isn't open, its end was told as a push where pushes are heard, and that its opening failed was shown
pub record IsAside (heard : Bool) (created : ℕ) (l : Ledger) : Type 0 where
  pub down : l.up ≡ false
  pub still : dials l ≡ false
  pub parted : heard ≡ true → is_cut l.end ≡ true → l.parted ≡ true
  pub shown : (e : RedisError) → failure_in l.end ≡ Some e → created ≢ 0

-- what was asked for, is not up, and whose connect isn't open has ended
over_by : (asked up over : Bool) → asked ≡ true → up ≡ false → (asked && not up && not over) ≡ false → over ≡ true
over_by true false true a u e = refl
over_by true false false a u e = absurd (cc e)
over_by true true over a u e = absurd (cc u)
over_by false up over a u e = absurd (cc a)

-- so such a link has
pub aside_over : (heard : Bool) (created : ℕ) (l : Ledger) → l.asked ≡ true → IsAside heard created l → is_over l ≡ true
aside_over heard created l asked h = over_by l.asked l.up (is_over l) asked h.down h.still

-- a connect that isn't open
not_open_by : (asked up over : Bool) → up ≡ false → (asked && not up && not over) ≡ false → (asked && not over) ≡ false
not_open_by asked true over u e = absurd (cc u)
not_open_by true false true u e = refl
not_open_by true false false u e = absurd (cc e)
not_open_by false false over u e = refl

-- it ends no more
pub aside_stays : (heard : Bool) (created : ℕ) (l : Ledger) → IsAside heard created l → ending l ≡ None
aside_stays heard created l h =
    left_if l.up (ending_alive l) (if l.asked && not (is_over l) then ending_asked l l.heard else None) h.down
    ∙ left_if (l.asked && not (is_over l)) (ending_asked l l.heard) None (not_open_by l.asked l.up (is_over l) h.down h.still)

-- news leave it so, where none is that the connect of one that has not ended succeeded
aside_hears : (heard : Bool) (created : ℕ) (l : Ledger) (turn : ℕ) (news : News) → (news ≡ connected → is_over l ≡ true) → IsAside heard created l → IsAside heard created (with_news l turn news)
aside_hears heard created l turn silence over h = h
aside_hears heard created l turn connected over h = chosen (IsAside heard created) (is_over l) l (record l { up = true }) (λ t. h) (λ f. absurd (not_both (is_over l) f (over refl)))
aside_hears heard created l turn (refused f) over h = if_false (IsAside heard created) (dials l) (refused_in l turn (error.Io f)) l h.still h
aside_hears heard created l turn overdue over h = h
aside_hears heard created l turn (took count) over h = if_false (IsAside heard created) l.up (record l { taken = l.taken ++ take count l.offer; offer = [] }) l h.down h
aside_hears heard created l turn (came piece) over h = if_false (IsAside heard created) l.up (bytes_came l piece) l h.down h
aside_hears heard created l turn (failed f) over h = h
aside_hears heard created l turn (authorized c) over h = chosen (IsAside heard created) (awaits_credentials l) (authorized_by l c) l (λ t. record { down = h.down; still = h.still; parted = h.parted; shown = h.shown }) (λ f. h)
aside_hears heard created l turn (denied text) over h = h
aside_hears heard created l turn deserted over h = h
aside_hears heard created l turn (renewed c) over h = chosen (IsAside heard created) (may_renew l) (renewed_by l c) l (λ t. record { down = h.down; still = h.still; parted = h.parted; shown = h.shown }) (λ f. h)
aside_hears heard created l turn unrenewed over h = if_false (IsAside heard created) l.up (unrenewed_by l) l h.down h
aside_hears heard created l turn (late k) over h = chosen (IsAside heard created) (l.up && is_renewal_open l k) (lost_by l) l (λ t. record { down = h.down; still = h.still; parted = h.parted; shown = h.shown }) (λ f. h)
aside_hears heard created l turn unrepeated over h = chosen (IsAside heard created) (is_repeating l) (unrepeated_by l) l (λ t. record { down = h.down; still = h.still; parted = h.parted; shown = h.shown }) (λ f. h)
aside_hears heard created l turn dropped over h = h
aside_hears heard created l turn shut over h = h

-- so is a turn with these news
aside_turn : (heard : Bool) (created : ℕ) (l : Ledger) (turn : ℕ) (news : News) → (news ≡ connected → is_over l ≡ true) → IsAside heard created l → IsAside heard created (noted l (hears turn news))
aside_turn heard created l turn news over h =
    let k = aside_hears heard created l turn news over h in record { down = k.down; still = k.still; parted = k.parted; shown = k.shown }

-- it is so of any other count of creations that isn't none where the first isn't
later_aside : (heard : Bool) (created later : ℕ) (l : Ledger) → (created ≢ 0 → later ≢ 0) → IsAside heard created l → IsAside heard later l
later_aside heard created later l more h = record { down = h.down; still = h.still; parted = h.parted; shown = λ e fails. more (h.shown e fails) }

-- a link that isn't numbered is so
pub unnumbered_aside : (b : Book) (l : ℕ) → HasLinks b → b.links ≤ l → (heard : Bool) → IsAside heard b.created (b.link l)
unnumbered_aside b l h i heard =
    let none = h.unasked l i in
    record {
      down = none.1;
      still = ap (λ (asked : Bool). asked && not (b.link l).up && not (is_over (b.link l))) none.0;
      parted = λ heard cut. absurd (let x : false ≡ true = sym (ap is_cut none.2) ∙ cut in cc x);
      shown = λ e fails. absurd (let x : None ≡ Some e = sym (ap failure_in none.2) ∙ fails in cc x);
    }

-- each action that may stand leaves it so, but for the link that submissions go to then
pub aside_kept : (b : Book) (a : Action) (l : ℕ) → MayStand b a → IsOpening b → HasLinks b → l ≢ (entered b a).current → IsAside (are_pushes_heard b) b.created (b.link l) → IsAside (are_pushes_heard (entered b a)) (entered b a).created ((entered b a).link l)
aside_kept b (action.Turn k (cause.Opening config word)) l may opens links apart h =
    let none : b.links ≡ 0 = opens.no_links may.is_for in
    unnumbered_aside b l links (omega (arith, none)) (are_pushes_heard (entered b (action.Turn k (cause.Opening config word))))
aside_kept b (action.Turn k (cause.Event e)) l may opens links apart h =
    aside_turn (are_pushes_heard b) b.created (b.link l) k (news_of b.timers b.sources l e.kind)
    (λ connects. by_test (nat_le b.links l) (is_over (b.link l) ≡ true)
    (λ t. absurd (not_connected b l e.kind (le_from b.links l t) may.is_for.2 connects))
    (λ f. aside_over (are_pushes_heard b) b.created (b.link l) (links.asked l (not_le_from b.links l f)) h)) h
aside_kept b (action.Connect m host port) l may opens links apart h =
    mine_keeps (IsAside (are_pushes_heard b) b.created) (m == l) (b.link l) (asks (info_in b.config) (wanted_in b.config) (hearing_in b.config) (is_last (settings_in b.config) b.attempt) (repeats_in (settings_in b.config) b.tracked)) (λ t. absurd (apart (sym (eq_from m l t)))) h
aside_kept b (action.Timer t ms what) l may opens links apart h = timer_tells (IsAside (are_pushes_heard b) b.created) (b.link l) l what (λ on k is e. record { down = h.down; still = h.still; parted = h.parted; shown = h.shown }) (λ on is e. record { down = h.down; still = h.still; parted = h.parted; shown = h.shown }) h
aside_kept b (action.Took who m count) l may opens links apart h = h
aside_kept b (action.Push m info) l may opens links apart h =
    push_keeps (IsAside (are_pushes_heard b) b.created) (m == l) info.kind (b.link l) (record { down = h.down; still = h.still; parted = h.parted; shown = h.shown }) (record { down = h.down; still = h.still; parted = λ heard cut. refl; shown = h.shown }) h
aside_kept b (action.Message msg) l may opens links apart h = tell_keeps (IsAside (are_pushes_heard b) b.created) (b.current == l) (b.link l) (record { down = h.down; still = h.still; parted = h.parted; shown = h.shown }) h
aside_kept b (action.Monitor v) l may opens links apart h = tell_keeps (IsAside (are_pushes_heard b) b.created) (b.current == l) (b.link l) (record { down = h.down; still = h.still; parted = h.parted; shown = h.shown }) h
aside_kept b (action.NeedCreds c m) l may opens links apart h = mine_keeps (IsAside (are_pushes_heard b) b.created) (m == l) (b.link l) sources (λ e. record { down = h.down; still = h.still; parted = h.parted; shown = h.shown }) h
aside_kept b (action.Generation g) l may opens links apart h = h
aside_kept b (action.Round who m) l may opens links apart h = h
aside_kept b (action.Close m) l may opens links apart h =
    mine_keeps (IsAside (are_pushes_heard b) b.created) (m == l) (b.link l) (ends (b.turns - 1))
    (λ t. absurd (not_none (ending (b.link l)) may.why (aside_stays (are_pushes_heard b) b.created (b.link l) h) (ap (λ j. ending (b.link j)) (sym (eq_from m l t)) ∙ may.ends))) h
aside_kept b (action.Write m bytes) l may opens links apart h = mine_keeps (IsAside (are_pushes_heard b) b.created) (m == l) (b.link l) (offers bytes) (λ t. record { down = h.down; still = h.still; parted = h.parted; shown = h.shown }) h
aside_kept b (action.Wait who kind) l may opens links apart h = h
aside_kept b (action.Start m k who count len) l may opens links apart h = mine_keeps (IsAside (are_pushes_heard b) b.created) (m == l) (b.link l) (begins (message_of b m who)) (λ t. record { down = h.down; still = h.still; parted = h.parted; shown = h.shown }) h
aside_kept b (action.Created e) l may opens links apart h = later_aside (are_pushes_heard b) b.created (b.created + 1) (b.link l) (λ some none. omega (arith, none)) h
aside_kept b (action.Outcome n o) l may opens links apart h = h
