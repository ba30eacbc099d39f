-- Behind the passes of a turn the session and the book of its trace see the same causes for the next generation.
use Rattle.std.proofs.Common.{◌≡◌, ◌≢◌, ℕ, ◌+◌, ◌-◌, ◌==◌, Bool, true, false, ◌&&◌, ◌||◌, not, List, [], ◌∷◌, ◌++◌, length, Option, Some, None, is_some, slice_get, refl, sym, ap, ◌∙◌, subst, arith}
use Rattle.containers.proofs.Choices.{chosen, eq_test, ne_test, or_right}
use Rattle.connection_info.specs.Protocol.{is_resp3}
use Rattle.redis_error.specs.declared.redis_error.RedisError.{RedisError}
use Rattle.driver_model.specs.declared.action.Action.{Action}
use Rattle.driver_model.specs.declared.action.Purpose.{Purpose}
use Rattle.driver_model.specs.declared.action.Purpose.TheVariants as purpose
use Rattle.driver_model.specs.declared.action.SourceUse.{SourceUse}
use Rattle.driver_model.specs.declared.event.EventKind.{EventKind}
use Rattle.driver_model.specs.declared.event.EventKind.TheVariants as event
use Rattle.driver_model.specs.declared.outcome.Outcome.TheVariants as outcome
use Rattle.driver_model.specs.News.{News, for_link, is_source_of, news_of, of_source, of_timer, renews, silence, shut as down}
use Rattle.mux_conn.specs.declared.act.LinkAct.{LinkAct}
use Rattle.mux_conn.specs.declared.life.Life.{Life}
use Rattle.mux_conn.specs.declared.life.Life.TheVariants.{Resting, Dialing, Wanting, SettingUp, Ready, Ended}
use Rattle.single_session.specs.declared.core_state.Core.{Core}
use Rattle.single_session.specs.Generations as machine
use Rattle.single_session.specs.Turn.{shown_each}
use Rattle.legal_trace.specs.Book.{Book, blank_book, book, entered, entered_each, shuts}
use Rattle.legal_trace.specs.Ledger.{End, Ledger, is_fault, is_over}
use Rattle.legal_trace.specs.Legal.{AllStand, current_link, is_caused}
use Rattle.legal_trace.specs.Owed.{owed_unstarted}
use Rattle.legal_trace.proofs.Plain.{same_some}
use Rattle.session_laws.proofs.Turn.Announce.{turn_of}
use Rattle.session_laws.proofs.Managers.Causes.{AreAdded, acts_add, acts_end, acts_stay, caused_is}
use Rattle.session_laws.proofs.Ties.Entered.{all_stand_behind, book-append, book_more}
use Rattle.conn_laws.proofs.Links.Lost.{IsNewEnd, IsOldEnd, new_heard}
use Rattle.conn_laws.proofs.Ties.Owes.{lives}
use Rattle.session_laws.proofs.Ties.Past.{ends_before}
use Rattle.session_laws.proofs.Ties.States.{Between}
use Rattle.conn_laws.proofs.Ties.Tied.{IsOver, TiedLife, has_ended}
use Rattle.session_laws.proofs.Ties.Tied.{HasCourse, TurnState, Tied}
use Rattle.conn_laws.proofs.Internal.Repeats.{HasServed, TiedRepeat}
use Rattle.mux_conn.specs.Connection.{is_outstanding}
use Rattle.session_laws.proofs.Internal.Informed.{HasInformed, IsInformed, event_informed}
use Rattle.single_session.specs.declared.generations.Generations.{Generations}
use Rattle.conn_laws.proofs.Managers.Judge.{by_fault_alone, failed_so, old_heard, over_life}

-- no shutdown is heard
--
-- of an event that is none
else_shut : (mine : Bool) (n : News) → n ≢ down → for_link mine n ≢ down
else_shut mine n other = chosen (λ (x : News). x ≢ down) mine n silence (λ t. other) (λ f e. cc)

timer_shut : (m : ℕ) (x : Option Purpose) → of_timer m x ≢ down
timer_shut m None = λ e. cc
timer_shut m (Some (purpose.Connect l)) = else_shut (l == m) _ (λ e. cc)
timer_shut m (Some (purpose.Response who)) = λ e. cc
timer_shut m (Some (purpose.Renewal l k)) = else_shut (l == m) _ (λ e. cc)
timer_shut m (Some (purpose.Backoff g)) = λ e. cc
timer_shut m (Some (purpose.Resubscription l)) = else_shut (l == m) _ (λ e. cc)

source_shut : (m : ℕ) (x : Option SourceUse) (first later : News) → first ≢ down → later ≢ down → of_source m x first later ≢ down
source_shut m x first later one other = chosen (λ (y : News). y ≢ down) (is_source_of m x) first (for_link (renews m x) later) (λ t. one) (λ f. else_shut (renews m x) later other)

pub news_not_shut : (timers : List Purpose) (sources : List SourceUse) (m : ℕ) (kind : EventKind) → shuts kind ≡ false → news_of timers sources m kind ≢ down
news_not_shut timers sources m (event.Submit what) other = λ e. cc
news_not_shut timers sources m (event.Cancel n) other = λ e. cc
news_not_shut timers sources m (event.Connected l) other = else_shut (l == m) _ (λ e. cc)
news_not_shut timers sources m (event.Refused l f) other = else_shut (l == m) _ (λ e. cc)
news_not_shut timers sources m (event.Wrote l count) other = else_shut (l == m) _ (λ e. cc)
news_not_shut timers sources m (event.Bytes l piece) other = else_shut (l == m) _ (λ e. cc)
news_not_shut timers sources m (event.Ended l) other = else_shut (l == m) _ (λ e. cc)
news_not_shut timers sources m (event.ReadFault l kind) other = else_shut (l == m) _ (λ e. cc)
news_not_shut timers sources m (event.WriteFault l kind) other = else_shut (l == m) _ (λ e. cc)
news_not_shut timers sources m (event.Fired t) other = timer_shut m (slice_get timers t)
news_not_shut timers sources m (event.Timeout ms) other = λ e. cc
news_not_shut timers sources m (event.Creds c auth) other = source_shut m (slice_get sources c) _ _ (λ e. cc) (λ e. cc)
news_not_shut timers sources m (event.CredsError c text) other = source_shut m (slice_get sources c) _ _ (λ e. cc) (λ e. cc)
news_not_shut timers sources m (event.CredsEnd c) other = source_shut m (slice_get sources c) _ _ (λ e. cc) (λ e. cc)
news_not_shut timers sources m event.DropStream other = λ e. cc
news_not_shut timers sources m event.Shutdown other = cc

-- how a link ended
--
-- it has ended for both
ended_so : (l : Ledger) (created : ℕ) (life : Life) → TiedLife l created life → is_over l ≡ machine.has_ended life
ended_so l created Resting h = ap is_some h.2
ended_so l created Dialing h = ap is_some h.2
ended_so l created (Wanting link) h = ap is_some h.2
ended_so l created (SettingUp link greeting) h = ap is_some h.2
ended_so l created (Ready link) h = ap is_some h.2
ended_so l created (Ended e) h = by_end l.end h.1
  where
    by_end : (x : Option End) → owed_unstarted x ≡ Some (outcome.Fault e) → is_some x ≡ true
    by_end None owes = cc
    by_end (Some end) owes = refl

-- a life has ended for both
same_ended : (life : Life) → machine.has_ended life ≡ has_ended life
same_ended Resting = refl
same_ended Dialing = refl
same_ended (Wanting link) = refl
same_ended (SettingUp link greeting) = refl
same_ended (Ready link) = refl
same_ended (Ended e) = refl

-- a turn of a session between two turns
--
-- its book behind its first action
abbrev pub turn_book : List Action → Core → ℕ → EventKind → Book
turn_book before c word kind = entered (book before) (turn_of c word kind)

-- and behind the acts of its event
pub record HasActed (before : List Action) (c : Core) (word : ℕ) (kind : EventKind) (b : Book) (acts : List LinkAct) : Type 0 where
  pub stands : AllStand (turn_book before c word kind) (shown_each c.single.link (length c.timers) (length c.sources) acts)
  pub is : entered_each (turn_book before c word kind) (shown_each c.single.link (length c.timers) (length c.sources) acts) ≡ b

-- so it has come to it
pub has_acted : (before : List Action) (c : Core) (word : ℕ) (kind : EventKind) (acts : List LinkAct) → AllStand blank_book ((before ++ turn_of c word kind ∷ []) ++ shown_each c.single.link (length c.timers) (length c.sources) acts)
    → HasActed before c word kind (book ((before ++ turn_of c word kind ∷ []) ++ shown_each c.single.link (length c.timers) (length c.sources) acts)) acts
has_acted before c word kind acts stands =
    let a = turn_of c word kind in
    let shown = shown_each c.single.link (length c.timers) (length c.sources) acts in
    let first : book (before ++ a ∷ []) ≡ entered (book before) a = book_more before a in
    record {
      stands = subst (λ (x : Book). AllStand x shown) first (all_stand_behind (before ++ a ∷ []) shown stands);
      is = sym (book-append (before ++ a ∷ []) shown ∙ ap (λ (x : Book). entered_each x shown) first);
    }

-- what the acts have added
pub acted_adds : (before : List Action) (c : Core) (word : ℕ) (kind : EventKind) (b : Book) (acts : List LinkAct) → HasActed before c word kind b acts → AreAdded (turn_book before c word kind) b acts
acted_adds before c word kind b acts h = subst (λ (x : Book). AreAdded (turn_book before c word kind) x acts) h.is (acts_add (turn_book before c word kind) c.single.link (length c.timers) (length c.sources) acts)

-- what is known of subscriptions then
pub acted_informed : (before : List Action) (c : Core) (word : ℕ) (kind : EventKind) (b : Book) (acts : List LinkAct) (g : Generations) → HasActed before c word kind b acts → c.manager ≡ Some g → IsInformed (book before) c.manager → HasInformed b (machine.heeded g kind acts).subscribed
acted_informed before c word kind b acts g h is informed =
    subst (λ (x : Book). HasInformed x (machine.heeded g kind acts).subscribed) h.is
    (event_informed (book before) c.turns word kind c.single.link (length c.timers) (length c.sources) g.subscribed acts (subst (IsInformed (book before)) is informed))

-- where everything wasn't shut down, its event is no shutdown
pub runs_on : (before : List Action) (c : Core) (word : ℕ) (kind : EventKind) (b : Book) (acts : List LinkAct) → HasActed before c word kind b acts → b.shut ≡ false → shuts kind ≡ false
runs_on before c word kind b acts h runs = or_right (book before).shut (shuts kind) (sym (acted_adds before c word kind b acts h).shut ∙ runs)

-- the end of a life
life_end : (l : Ledger) (created : ℕ) (life : Life) → machine.has_ended life ≡ true → TiedLife l created life → (l.up ≡ false) × ((end : End) × (l.end ≡ Some end))
life_end l created Resting over h = cc
life_end l created Dialing over h = cc
life_end l created (Wanting link) over h = cc
life_end l created (SettingUp link greeting) over h = cc
life_end l created (Ready link) over h = cc
life_end l created (Ended e) over h = (h.0, by_end l.end refl h.1)
  where
    by_end : (x : Option End) → l.end ≡ x → owed_unstarted x ≡ Some (outcome.Fault e) → (end : End) × (l.end ≡ Some end)
    by_end None same owes = cc
    by_end (Some end) same owes = (end, same)

-- a session behind the acts of a turn in which everything wasn't shut down
pub record IsActed (before : List Action) (c : Core) (started : List ℕ) (word : ℕ) (kind : EventKind) (b : Book) (acts : List LinkAct) (t : TurnState) : Type 0 where
  pub between : Between before c started
  pub acted : HasActed before c word kind b acts
  pub tied : Tied b t
  pub here : t.link ≡ c.single.link
  pub runs : b.shut ≡ false

-- its link had not ended before, and ends in this turn, if it does
new_so : (before : List Action) (c : Core) (started : List ℕ) (word : ℕ) (kind : EventKind) (b : Book) (acts : List LinkAct) (t : TurnState) → IsActed before c started word kind b acts t → machine.has_ended c.single.connection.life ≡ false → IsNewEnd c.turns (b.link c.single.link)
new_so before c started word kind b acts t h alive =
    let was = h.between.sound.tied in
    let mine = c.single.link in
    let l = (book before).link mine in
    let none : l.end ≡ None = lives l (book before).created c.single.connection.life was.life (sym (same_ended c.single.connection.life) ∙ alive) in
    let turns = was.numbers.turns in
    let now : (book before).turns + 1 - 1 ≡ c.turns = omega (arith, turns) in
    subst (λ (x : Book). IsNewEnd c.turns (x.link mine)) h.acted.is
    (acts_end (turn_book before c word kind) mine (length c.timers) (length c.sources) c.turns acts h.acted.stands now
    (new_heard l c.turns (news_of (book before).timers (book before).sources mine kind) (news_not_shut (book before).timers (book before).sources mine kind (runs_on before c word kind b acts h.acted h.runs)) none))

-- or it had, in a turn before
old_so : (before : List Action) (c : Core) (started : List ℕ) (word : ℕ) (kind : EventKind) (b : Book) (acts : List LinkAct) (t : TurnState) → IsActed before c started word kind b acts t → machine.has_ended c.single.connection.life ≡ true → (end : End) → (b.link c.single.link).end ≡ Some end → (end.turn == (b.turns - 1)) ≡ false
old_so before c started word kind b acts t h over end is =
    let was = h.between.sound.tied in
    let mine = c.single.link in
    let l = (book before).link mine in
    let k = life_end l (book before).created c.single.connection.life over was.life in
    let e = k.1 in
    let old : IsOldEnd e.0 (b.link mine) =
    subst (λ (x : Book). IsOldEnd e.0 (x.link mine)) h.acted.is
    (acts_stay (turn_book before c word kind) mine (length c.timers) (length c.sources) e.0 acts h.acted.stands (old_heard l c.turns (news_of (book before).timers (book before).sources mine kind) e.0 k.0 e.1)) in
    let same : e.0.turn ≡ end.turn = ap (λ (x : End). x.turn) (same_some e.0 end (sym old.was ∙ is)) in
    let past = ends_before before h.between.sound.stands mine e.0 e.1 in
    let turns = (acted_adds before c word kind b acts h.acted).turns in
    let began = h.between.began in
    let first = was.numbers.turns in
    ne_test end.turn (b.turns - 1) (λ x. absurd (began (omega (arith, same, past, turns, first, x))))

-- so whether it was lost is the same for both
lost_so : (before : List Action) (c : Core) (started : List ℕ) (word : ℕ) (kind : EventKind) (b : Book) (acts : List LinkAct) (t : TurnState) → IsActed before c started word kind b acts t → (end : End) → (b.link t.link).end ≡ Some end → (e : RedisError) → t.life ≡ Ended e
    → ((end.turn == (b.turns - 1)) && (is_fault end.why && end.served)) ≡ (not (machine.has_ended c.single.connection.life) && (t.opened && not (is_outstanding t.again)))
lost_so before c started word kind b acts t h end is e over = by_before (machine.has_ended c.single.connection.life) refl
  where
    own : (b.link c.single.link).end ≡ Some end
    own = ap (λ k. (b.link k).end) (sym h.here) ∙ is

    life : TiedLife (b.link t.link) b.created (Ended e)
    life = subst (TiedLife (b.link t.link) b.created) over h.tied.life

    course : IsOver (b.link t.link).end t.shut t.opened
    course = (subst (HasCourse (b.link t.link).last (b.link t.link).end t.links t.link t.shut t.manager t.last t.opened t.info t.address) over h.tied.course).2

    serving : HasServed (b.link t.link).end t.again
    serving = subst (TiedRepeat (b.link t.link) b.tracked t.renewal.within t.again) over h.tied.repeat

    by_before : (x : Bool) → machine.has_ended c.single.connection.life ≡ x → ((end.turn == (b.turns - 1)) && (is_fault end.why && end.served)) ≡ (not x && (t.opened && not (is_outstanding t.again)))
    by_before true is_over = ap (λ (y : Bool). y && (is_fault end.why && end.served)) (old_so before c started word kind b acts t h is_over end own)
    by_before false alive =
        let ends = (new_so before c started word kind b acts t h alive).end end own in
        let turns = (acted_adds before c word kind b acts h.acted).turns in
        let first = h.between.sound.tied.numbers.turns in
        let here = ends.turn_is in
        (λ i. eq_test end.turn (b.turns - 1) (omega (arith, here, turns, first)) i && (is_fault end.why && end.served))
        ∙ by_fault_alone c.turns end e t.opened t.shut t.again (sym h.tied.numbers.shut ∙ h.runs) ends (subst (λ o. HasServed o t.again) is serving) (subst (λ o. owed_unstarted o ≡ Some (outcome.Fault e)) is life.1) (subst (λ o. IsOver o t.shut t.opened) is course)

-- and so is what is a cause
pub judged : (before : List Action) (c : Core) (started : List ℕ) (word : ℕ) (kind : EventKind) (b : Book) (acts : List LinkAct) (t : TurnState) → IsActed before c started word kind b acts t
    → is_caused b ≡ (machine.has_ended t.life && (((not (machine.has_ended c.single.connection.life) && (t.opened && not (is_outstanding t.again))) && is_resp3 t.info.protocol) || machine.has_cause t.opened acts))
judged before c started word kind b acts t h =
    let tied = h.tied in
    let l = b.link t.link in
    let here : current_link b ≡ l = ap b.link tied.numbers.current_is in
    caused_is b (machine.has_ended c.single.connection.life) t.opened (t.opened && not (is_outstanding t.again)) (machine.has_ended t.life) (is_resp3 t.info.protocol) acts (record {
      errors_are = (acted_adds before c word kind b acts h.acted).errors;
      ended_is = ap is_over here ∙ ended_so l b.created t.life tied.life;
      speaks = ap is_resp3 tied.numbers.speaks;
      calm = λ alive. tied.calm (sym (same_ended t.life) ∙ sym (ended_so l b.created t.life tied.life) ∙ ap is_over (sym here) ∙ alive) stopped;
      failed_is = λ end is. by_life end (ap (λ (x : Ledger). x.end) (sym here) ∙ is) (λ e over. failed_so end t.opened t.shut stopped (subst (λ o. IsOver o t.shut t.opened) (ap (λ (x : Ledger). x.end) (sym here) ∙ is) (course e over)));
      lost_is = λ end is. by_life end (ap (λ (x : Ledger). x.end) (sym here) ∙ is) (λ e over. lost_so before c started word kind b acts t h end (ap (λ (x : Ledger). x.end) (sym here) ∙ is) e over);
    })
  where
    stopped : t.shut ≡ false
    stopped = sym h.tied.numbers.shut ∙ h.runs

    course : (e : RedisError) → t.life ≡ Ended e → IsOver (b.link t.link).end t.shut t.opened
    course e over = (subst (HasCourse (b.link t.link).last (b.link t.link).end t.links t.link t.shut t.manager t.last t.opened t.info t.address) over h.tied.course).2

    none_ended : (end : End) → (b.link t.link).end ≡ Some end → (b.link t.link).end ≡ None → ⊥
    none_ended end is none = let no : ◌≡◌ {A = Option End} None (Some end) = sym none ∙ is in cc

    by_life : {P : Type 0} (end : End) → (b.link t.link).end ≡ Some end → ((e : RedisError) → t.life ≡ Ended e → P) → P
    by_life end is own = let k = over_life (b.link t.link) b.created t.life h.tied.life (none_ended end is) in own k.0 k.1
