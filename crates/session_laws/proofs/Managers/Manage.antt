-- What a manager does of its own behind the passes of a turn.
use Rattle.std.proofs.Common.{◌≡◌, ◌≢◌, ◌⊎◌, inl, inr, ℕ, ◌+◌, ◌-◌, ◌^◌, ◌<◌, ◌≤◌, ◌==◌, nat_le, nat_lt, Bool, true, false, ◌&&◌, ◌||◌, not, List, [], ◌∷◌, ◌++◌, length, Option, Some, None, is_none, is_some, slice_get, if◌then◌else◌, refl, sym, ap, ◌∙◌, subst, append_assoc, arith}
use Rattle.std.specs.Prelude.{unwrap_or}
use Rattle.std.proofs.lemmas.List.{append-nil}
use Rattle.std.proofs.lemmas.Bool.{not-true}
use Rattle.containers.proofs.Choices.{both_left, both_right, by_test, chosen, eq_from, eq_test, left_if, lt_from, ne_from, ne_test, not_both, not_le_from, or_left, or_right, taken_if}
use Rattle.redis_error.specs.declared.redis_error.RedisError.{RedisError}
use Rattle.driver_model.specs.declared.action.Action.{Action}
use Rattle.driver_model.specs.declared.action.Action.TheVariants as action
use Rattle.driver_model.specs.declared.action.Purpose.{Purpose}
use Rattle.driver_model.specs.declared.action.Purpose.TheVariants as purpose
use Rattle.driver_model.specs.declared.action.SourceUse.{SourceUse}
use Rattle.driver_model.specs.declared.action.SourceUse.TheVariants as source
use Rattle.driver_model.specs.declared.event.EventKind.{EventKind}
use Rattle.driver_model.specs.declared.event.EventKind.TheVariants as event
use Rattle.driver_model.specs.declared.event.Submission.{Submission}
use Rattle.driver_model.specs.News.{News, for_link, news_of, of_source, of_timer, silence}
use Rattle.mux_conn.specs.Connection.{in_front, is_resting, is_spent_in, is_used_up, is_ready}
use Rattle.mux_conn.specs.Requests.{is_open_at}
use Rattle.mux_conn.specs.declared.act.LinkAct.{LinkAct}
use Rattle.mux_conn.specs.declared.life.Life.{Life}
use Rattle.mux_conn.specs.declared.life.Life.TheVariants.{Resting, Dialing, Wanting, SettingUp, Ready, Ended}
use Rattle.mux_conn.specs.declared.request.Waiting.{Waiting}
use Rattle.single_session.specs.declared.core_state.Core.{Core}
use Rattle.single_session.specs.declared.generations.Comeback.{Comeback}
use Rattle.single_session.specs.declared.generations.Comeback.TheVariants as comeback
use Rattle.single_session.specs.declared.generations.Generations.{Generations}
use Rattle.single_session.specs.Generations as machine
use Rattle.single_session.specs.Generations.{came_back, comeback_of, comeback_shown, creation_fails, heeded, is_due, rests, wakes}
use Rattle.single_session.specs.Turn.{is_bad}
use Rattle.legal_trace.specs.Book.{Book, book, entered, has_generations, rest_after, shuts}
use Rattle.legal_trace.specs.Story.{is_open}
use Rattle.legal_trace.proofs.Moves.{lt_test}
use Rattle.legal_trace.specs.Ledger.{End}
use Rattle.legal_trace.specs.Legal.{NoneEnds, begins_first, current_link, generation_due, is_caused, link_due}
use Rattle.conn_laws.proofs.Ties.Ahead.{HasSeats}
use Rattle.session_laws.proofs.Managers.Causes.{acts_hear}
use Rattle.session_laws.proofs.Managers.Comes.{NoneComes, has_begun, has_links}
use Rattle.session_laws.proofs.Managers.Generate.{begun_in, first_begins, over_begins}
use Rattle.session_laws.proofs.Requests.Going.{shown_over, shown_resting}
use Rattle.conn_laws.proofs.Ties.InLine.{kept_ids}
use Rattle.session_laws.proofs.Managers.Judge.{HasActed, IsActed, acted_adds, judged, runs_on, turn_book, acted_informed}
use Rattle.conn_laws.proofs.Ties.Numbers.{IsIn}
use Rattle.conn_laws.proofs.Ties.Owes.{is_asked}
use Rattle.session_laws.proofs.Ties.Owes.{open_request}
use Rattle.session_laws.proofs.Ties.Past.{is_past, rest_timed, unended_over}
use Rattle.conn_laws.proofs.Managers.Regenerate.{IsHarmless}
use Rattle.session_laws.proofs.Managers.Regenerate.{manager_is}
use Rattle.session_laws.proofs.Managers.Reopen.{rest_tied}
use Rattle.session_laws.proofs.Managers.Return.{HasReturned, at_next, begins_returned, dials_returned}
use Rattle.conn_laws.proofs.Ties.States.{IsFitIn, IsStill}
use Rattle.session_laws.proofs.Ties.States.{Between, IsHushed}
use Rattle.conn_laws.proofs.Links.Server.{HasSaid}
use Rattle.conn_laws.proofs.Ties.Tied.{IsUse, TiedLife, TiedLines, has_ended, link_in, waiting_ids}
use Rattle.session_laws.proofs.Ties.Tied.{ComesBack, HasCourse, HasHeeded, TurnState, IsAim, IsHeeded, Sound, Tied, inner, is_begun}
use Rattle.conn_laws.proofs.Internal.Serving.{unready_serves}
use Rattle.session_laws.proofs.Internal.Informed.{HasInformed, IsInformed}

-- what a link hears that isn't asked for yet
--
-- nothing of another one
else_silent : (l m : ℕ) (n : News) → l ≢ m → for_link (l == m) n ≡ silence
else_silent l m n other = left_if (l == m) n silence (ne_test l m other)

timer_harmless : (m count link : ℕ) (x : Option Purpose) → link < m → ((what : Purpose) → x ≡ Some what → IsAim what link count) → IsHarmless (of_timer m x)
timer_harmless m count link None less aim = inl refl
timer_harmless m count link (Some (purpose.Connect l)) less aim = inl (else_silent l m _ (λ e. absurd (let le = aim (purpose.Connect l) refl in omega (arith, le, less, e))))
timer_harmless m count link (Some (purpose.Response who)) less aim = inl refl
timer_harmless m count link (Some (purpose.Renewal l k)) less aim = inl (else_silent l m _ (λ e. absurd (let le = aim (purpose.Renewal l k) refl in omega (arith, le, less, e))))
timer_harmless m count link (Some (purpose.Backoff g)) less aim = inl refl
timer_harmless m count link (Some (purpose.Resubscription l)) less aim = inl (else_silent l m _ (λ e. absurd (let le = aim (purpose.Resubscription l) refl in omega (arith, le, less, e))))

source_harmless : (m link : ℕ) (asked renewed : Bool) (x : Option SourceUse) (first later : News) → link < m → ((what : SourceUse) → x ≡ Some what → IsUse what link asked renewed) → IsHarmless (of_source m x first later)
source_harmless m link asked renewed None first later less used = inl refl
source_harmless m link asked renewed (Some (source.Setup l)) first later less used =
    let other : (l == m) ≡ false = ne_test l m (λ e. absurd (let le = (used (source.Setup l) refl).0 in omega (arith, le, less, e))) in
    inl (left_if (l == m) first silence other)
source_harmless m link asked renewed (Some (source.Renewal l)) first later less used =
    inl (else_silent l m later (λ e. absurd (let le = (used (source.Renewal l) refl).0 in omega (arith, le, less, e))))

-- no event names it, but that the stream of messages is dropped, or that everything is shut down
next_harmless : (c : Core) (m : ℕ) (kind : EventKind) (asked renewed : Bool) → is_bad c kind ≡ false → c.links ≤ m → c.single.link < m → shuts kind ≡ false → ((k : ℕ) (what : Purpose) → slice_get c.timers k ≡ Some what → IsAim what c.single.link (length c.table))
    → ((k : ℕ) (what : SourceUse) → slice_get c.sources k ≡ Some what → IsUse what c.single.link asked renewed) → IsHarmless (news_of c.timers c.sources m kind)
unfolding is_bad
next_harmless c m (event.Submit what) asked renewed good far less runs aims uses = inl refl
next_harmless c m (event.Cancel n) asked renewed good far less runs aims uses = inl refl
next_harmless c m (event.Connected l) asked renewed good far less runs aims uses = inl (else_silent l m _ (λ e. absurd (let near = not_le_from c.links l good in omega (arith, near, far, e))))
next_harmless c m (event.Refused l f) asked renewed good far less runs aims uses = inl (else_silent l m _ (λ e. absurd (let near = not_le_from c.links l good in omega (arith, near, far, e))))
next_harmless c m (event.Wrote l count) asked renewed good far less runs aims uses = inl (else_silent l m _ (λ e. absurd (let near = not_le_from c.links l (or_left (nat_le c.links l) _ good) in omega (arith, near, far, e))))
next_harmless c m (event.Bytes l piece) asked renewed good far less runs aims uses = inl (else_silent l m _ (λ e. absurd (let near = not_le_from c.links l good in omega (arith, near, far, e))))
next_harmless c m (event.Ended l) asked renewed good far less runs aims uses = inl (else_silent l m _ (λ e. absurd (let near = not_le_from c.links l good in omega (arith, near, far, e))))
next_harmless c m (event.ReadFault l f) asked renewed good far less runs aims uses = inl (else_silent l m _ (λ e. absurd (let near = not_le_from c.links l good in omega (arith, near, far, e))))
next_harmless c m (event.WriteFault l f) asked renewed good far less runs aims uses = inl (else_silent l m _ (λ e. absurd (let near = not_le_from c.links l good in omega (arith, near, far, e))))
next_harmless c m (event.Fired t) asked renewed good far less runs aims uses = timer_harmless m (length c.table) c.single.link (slice_get c.timers t) less (λ what e. aims t what e)
next_harmless c m (event.Timeout ms) asked renewed good far less runs aims uses = inl refl
next_harmless c m (event.Creds n auth) asked renewed good far less runs aims uses = source_harmless m c.single.link asked renewed (slice_get c.sources n) _ _ less (λ what e. uses n what e)
next_harmless c m (event.CredsError n text) asked renewed good far less runs aims uses = source_harmless m c.single.link asked renewed (slice_get c.sources n) _ _ less (λ what e. uses n what e)
next_harmless c m (event.CredsEnd n) asked renewed good far less runs aims uses = source_harmless m c.single.link asked renewed (slice_get c.sources n) _ _ less (λ what e. uses n what e)
next_harmless c m event.DropStream asked renewed good far less runs aims uses = inr refl
next_harmless c m event.Shutdown asked renewed good far less runs aims uses = cc

-- a connection without a link has that for its next
pub rests_links : (life : Life) (is_last : Bool) (end : Option End) (t : TurnState) → is_resting life ≡ true → HasCourse is_last end t.links t.link t.shut t.manager t.last t.opened t.info t.address life → t.links ≡ t.link
rests_links Resting is_last end t rests h = h.0
rests_links Dialing is_last end t rests h = cc
rests_links (Wanting link) is_last end t rests h = cc
rests_links (SettingUp link greeting) is_last end t rests h = cc
rests_links (Ready link) is_last end t rests h = cc
rests_links (Ended e) is_last end t rests h = cc

resting_is : (life : Life) → is_resting life ≡ true → life ≡ Resting
resting_is Resting rests = refl
resting_is Dialing rests = cc
resting_is (Wanting link) rests = cc
resting_is (SettingUp link greeting) rests = cc
resting_is (Ready link) rests = cc
resting_is (Ended e) rests = cc

-- a life that has ended has an error
ended_is : (life : Life) → machine.has_ended life ≡ true → (e : RedisError) × (life ≡ Ended e)
ended_is Resting over = cc
ended_is Dialing over = cc
ended_is (Wanting link) over = cc
ended_is (SettingUp link greeting) over = cc
ended_is (Ready link) over = cc
ended_is (Ended e) over = (e, refl)

-- what is heeded of an event
--
-- a number is the same either way
eq_turned : (a b : ℕ) → (a == b) ≡ (b == a)
eq_turned a b = by_test (a == b) _ (λ t. t ∙ sym (eq_test b a (sym (eq_from a b t)))) (λ f. f ∙ sym (ne_test b a (λ e. ne_from a b f (sym e))))

-- the wait is over for both
rest_heeded : (g : Generations) (kind : EventKind) → rest_after g.rest kind ≡ (if wakes g kind then None else g.rest)
rest_heeded g kind = by_rest g.rest kind
  where
    by_rest : (rest : Option ℕ) (k : EventKind) → rest_after rest k ≡ (if wakes (record g { rest = rest }) k then None else rest)
    by_rest None (event.Fired s) = refl
    by_rest (Some t) (event.Fired s) = ap (λ (x : Bool). if x then None else Some t) (eq_turned s t)
    by_rest None (event.Submit what) = refl
    by_rest None (event.Cancel n) = refl
    by_rest None (event.Connected l) = refl
    by_rest None (event.Refused l f) = refl
    by_rest None (event.Wrote l count) = refl
    by_rest None (event.Bytes l piece) = refl
    by_rest None (event.Ended l) = refl
    by_rest None (event.ReadFault l f) = refl
    by_rest None (event.WriteFault l f) = refl
    by_rest None (event.Timeout ms) = refl
    by_rest None (event.Creds c auth) = refl
    by_rest None (event.CredsError c text) = refl
    by_rest None (event.CredsEnd c) = refl
    by_rest None event.DropStream = refl
    by_rest None event.Shutdown = refl
    by_rest (Some t) (event.Submit what) = refl
    by_rest (Some t) (event.Cancel n) = refl
    by_rest (Some t) (event.Connected l) = refl
    by_rest (Some t) (event.Refused l f) = refl
    by_rest (Some t) (event.Wrote l count) = refl
    by_rest (Some t) (event.Bytes l piece) = refl
    by_rest (Some t) (event.Ended l) = refl
    by_rest (Some t) (event.ReadFault l f) = refl
    by_rest (Some t) (event.WriteFault l f) = refl
    by_rest (Some t) (event.Timeout ms) = refl
    by_rest (Some t) (event.Creds c auth) = refl
    by_rest (Some t) (event.CredsError c text) = refl
    by_rest (Some t) (event.CredsEnd c) = refl
    by_rest (Some t) event.DropStream = refl
    by_rest (Some t) event.Shutdown = refl

-- what wakes it is its timer
pub woken_by : (g : Generations) (kind : EventKind) → wakes g kind ≡ true → (t : ℕ) × (kind ≡ event.Fired t) × (g.rest ≡ Some t)
woken_by g kind e = by_rest g.rest refl kind e
  where
    by_rest : (rest : Option ℕ) → g.rest ≡ rest → (k : EventKind) → wakes (record g { rest = rest }) k ≡ true → (t : ℕ) × (k ≡ event.Fired t) × (g.rest ≡ Some t)
    by_rest None is (event.Fired s) w = cc
    by_rest (Some t) is (event.Fired s) w = (s, refl, is ∙ ap Some (eq_from t s w))
    by_rest rest is (event.Submit what) w = cc
    by_rest rest is (event.Cancel n) w = cc
    by_rest rest is (event.Connected l) w = cc
    by_rest rest is (event.Refused l f) w = cc
    by_rest rest is (event.Wrote l count) w = cc
    by_rest rest is (event.Bytes l piece) w = cc
    by_rest rest is (event.Ended l) w = cc
    by_rest rest is (event.ReadFault l f) w = cc
    by_rest rest is (event.WriteFault l f) w = cc
    by_rest rest is (event.Timeout ms) w = cc
    by_rest rest is (event.Creds c auth) w = cc
    by_rest rest is (event.CredsError c text) w = cc
    by_rest rest is (event.CredsEnd c) w = cc
    by_rest rest is event.DropStream w = cc
    by_rest rest is event.Shutdown w = cc

-- whether a generation is due
--
-- none is once the creation failed, or everything was shut down, or where there is no cause
undue : (b : Book) → (b.failed ≡ true) ⊎ ((b.shut ≡ true) ⊎ ((if b.generation == 0 then begins_first b else is_caused b) ≡ false)) → generation_due b ≡ false
undue b why = any_false (has_generations b) b.failed b.shut (if b.generation == 0 then begins_first b else is_caused b) why
  where
    any_false : (x y z w : Bool) → (y ≡ true) ⊎ ((z ≡ true) ⊎ (w ≡ false)) → (x && (not y && (not z && w))) ≡ false
    any_false false y z w why = refl
    any_false true true z w why = refl
    any_false true false true w why = refl
    any_false true false false w why = elim why [ inl e ↦ cc | inr k ↦ elim k [ inl e ↦ cc | inr e ↦ e ] ]

-- and else one is
due : (b : Book) → has_generations b ≡ true → b.failed ≡ false → b.shut ≡ false → (if b.generation == 0 then begins_first b else is_caused b) ≡ true → generation_due b ≡ true
due b has well runs first = λ i. has i && (not (well i) && (not (runs i) && first i))

-- no link is to be asked for before the first generation, or one that was, or while the session waits, or once everything was shut down
unasked : (b : Book) → has_generations b ≡ true → (nat_lt 0 b.generation ≡ false) ⊎ (((current_link b).asked ≡ true) ⊎ ((is_none b.rest ≡ false) ⊎ (b.shut ≡ true))) → link_due b ≡ false
unasked b has why =
    taken_if (has_generations b) (nat_lt 0 b.generation && (not (current_link b).asked && (is_none b.rest && not b.shut))) (b.links == 0) has
    ∙ any_false (nat_lt 0 b.generation) (current_link b).asked (is_none b.rest) b.shut why
  where
    any_false : (x y z w : Bool) → (x ≡ false) ⊎ ((y ≡ true) ⊎ ((z ≡ false) ⊎ (w ≡ true))) → (x && (not y && (z && not w))) ≡ false
    any_false false y z w why = refl
    any_false true true z w why = refl
    any_false true false false w why = refl
    any_false true false true true why = refl
    any_false true false true false why = elim why [ inl e ↦ cc | inr k ↦ elim k [ inl e ↦ cc | inr m ↦ elim m [ inl e ↦ cc | inr e ↦ cc ] ] ]

-- where none is to be while its link isn't asked for, it waits
awaits : (b : Book) → has_generations b ≡ true → nat_lt 0 b.generation ≡ true → (current_link b).asked ≡ false → b.shut ≡ false → link_due b ≡ false → is_none b.rest ≡ false
awaits b has some alone runs none = by_test (is_none b.rest) _
    (λ t. absurd (not_both (link_due b) none
    (taken_if (has_generations b) (nat_lt 0 b.generation && (not (current_link b).asked && (is_none b.rest && not b.shut))) (b.links == 0) has
    ∙ (λ i. some i && (not (alone i) && (t i && not (runs i)))))))
    (λ f. f)

-- the first submission of a session that waits for it: none has come, or one has in this turn
pub record HasCome (b : Book) (k : Core) (kind : EventKind) : Type 0 where
  pub what : Submission
  pub submits : kind ≡ event.Submit what
  pub free : k.single.connection.free ≡ unwrap_or k.single.connection.limit 0
  pub moved : k.single.connection.moved ≡ []
  pub fresh : k.single.connection.fresh ≡ waiting_ids k.single.connection.waiting
  pub some : (length k.single.connection.waiting == 0) ≡ false
  pub opens : is_open (b.story (b.submissions - 1)) ≡ true

pub record NoneCame (k : Core) : Type 0 where
  pub requests : k.single.connection.requests ≡ []
  pub waiting : k.single.connection.waiting ≡ []

-- a session behind the passes of a turn, which has heeded what was shown
pub record HasHeard (before : List Action) (c : Core) (started : List ℕ) (g : Generations) (word : ℕ) (kind : EventKind) (trace : List Action) (k : Core) (acts : List LinkAct) : Type 0 where
  pub managed : c.manager ≡ Some g
  pub between : Between before c started
  pub good : is_bad c kind ≡ false
  pub acted : HasActed before c word kind (book trace) acts
  pub now : List ℕ
  pub sound : Sound trace (inner k now)
  pub ended : NoneEnds (book trace)
  pub fit : IsFitIn k.single.connection
  pub still : IsStill k.single.connection
  pub seats : HasSeats k.single.connection.moved (in_front k.single.connection.renewal) (link_in k.single.connection.life) k.single.connection.size
  pub hushed : IsHushed k
  pub heeds : k.manager ≡ Some (heeded g kind acts)
  pub link : k.single.link ≡ c.single.link
  pub links : k.links ≡ c.links

module _ (before : List Action) (c : Core) (started : List ℕ) (g : Generations) (word : ℕ) (kind : EventKind) (trace : List Action) (k : Core) (acts : List LinkAct) (h : HasHeard before c started g word kind trace k acts) where
  abbrev b0 : Book
  b0 = book before

  abbrev b : Book
  b = book trace

  abbrev q : Generations
  q = heeded g kind acts

  abbrev t : TurnState
  t = inner k h.now

  tied : Tied b t
  tied = h.sound.tied

  was : Tied b0 (inner c started)
  was = h.between.sound.tied

  back : ComesBack b.config b.generation b.attempt q
  back = manager_is b t q h.heeds tied

  heed : HasHeeded b0.rest b0.failed c.single.connection.life g
  heed = subst (IsHeeded b0.rest b0.failed c.single.connection.life) h.managed h.between.heeded

  has : has_generations b ≡ true
  has = ap is_some back.settings_are

  -- the wait that goes on is the book's
  rest_is : b.rest ≡ q.rest
  rest_is = (acted_adds before c word kind b acts h.acted).rest ∙ ap (λ (o : Option ℕ). rest_after o kind) heed.rest_is ∙ rest_heeded g kind

  -- and whether the creation failed
  failed_is : b.failed ≡ q.halted
  failed_is = (acted_adds before c word kind b acts h.acted).failed ∙ ap (λ (x : Bool). x || creation_fails acts) heed.failed_is

  -- and so is what is known of subscriptions
  informs : HasInformed b q.subscribed
  informs = acted_informed before c word kind b acts g h.acted h.managed h.between.informed

  -- it rests only where it did before
  rested_before : is_resting k.single.connection.life ≡ true → is_resting c.single.connection.life ≡ true
  rested_before rests = by_test (is_resting c.single.connection.life) _ (λ r. r)
      (λ there. absurd (
      let one = has_links c.single.connection.life (b0.link c.single.link).last (b0.link c.single.link).end (inner c started) there was.course in
      let none = rests_links k.single.connection.life (b.link k.single.link).last (b.link k.single.link).end t rests tied.course in
      let link = h.link in
      let links = h.links in
      omega (arith, one, none, link, links)))

  -- and so it does where a wait goes on
  rests_on_wait : g.rest ≢ None → k.single.connection.life ≡ Resting
  rests_on_wait waits = rests_again
    where
      before_links : c.links ≡ c.single.link
      before_links = rests_links c.single.connection.life (b0.link c.single.link).last (b0.link c.single.link).end (inner c started) (ap is_resting (heed.rests waits).0) was.course

      rests_again : k.single.connection.life ≡ Resting
      rests_again = by_test (is_resting k.single.connection.life) _ (λ r. resting_is k.single.connection.life r)
          (λ there. absurd (
          let one = has_links k.single.connection.life (b.link k.single.link).last (b.link k.single.link).end t there tied.course in
          let none = before_links in
          let link = h.link in
          let links = h.links in
          omega (arith, one, none, link, links)))

  -- what is heard of any link
  heard_is : (m : ℕ) → (b.link m).heard ≡ news_of b0.timers b0.sources m kind
  heard_is m = subst (λ (x : Book). (x.link m).heard ≡ news_of b0.timers b0.sources m kind) h.acted.is (acts_hear (turn_book before c word kind) c.single.link m (length c.timers) (length c.sources) (news_of b0.timers b0.sources m kind) acts h.acted.stands refl)

  -- it was shut down for both
  shut_is : b.shut ≡ k.shut
  shut_is = tied.numbers.shut

  -- where it was, it does nothing more
  shut_comes : k.shut ≡ true → NoneComes b
  shut_comes over = (undue b (inr (inl (shut_is ∙ over))), unasked b has (inr (inr (inr (shut_is ∙ over)))))

  -- a first generation has begun where there is a link
  begun_there : is_resting k.single.connection.life ≡ false → g.number ≢ 0
  begun_there there none =
      let begun : is_begun (Some q) ≡ true = subst (λ (m : Option Generations). is_begun m ≡ true) h.heeds (has_begun k.single.connection.life (b.link k.single.link).last (b.link k.single.link).end t there tied.course) in
      not_both (not (g.number == 0)) (ap not (eq_test g.number 0 none)) begun

  generation_is : b.generation ≡ g.number
  generation_is = back.number_is

  asked_there : is_resting k.single.connection.life ≡ false → (current_link b).asked ≡ true
  asked_there there = ap (λ l. (b.link l).asked) tied.numbers.current_is ∙ is_asked (b.link k.single.link) b.created k.single.connection.life there tied.life

  -- the wait is over: its next link is asked for
  wakes_returned : wakes g kind ≡ true → k.shut ≡ false → HasReturned (trace ++ comeback_shown q word (comeback.Dials k.links None (length k.timers))) (came_back k (comeback.Dials k.links None (length k.timers)))
  wakes_returned w runs =
      let by = woken_by g kind w in
      let waits : g.rest ≢ None = λ none. (let no : ◌≡◌ {A = Option ℕ} None (Some by.0) = sym none ∙ by.2 in cc) in
      let life = rests_on_wait waits in
      let over : q.rest ≡ None = taken_if (wakes g kind) None g.rest w in
      let here : k.single.link ≡ k.links = sym (rests_links k.single.connection.life (b.link k.single.link).last (b.link k.single.link).end t (ap is_resting life) tied.course) in
      let said : HasSaid (b.link k.single.link) h.now Resting = subst (HasSaid (b.link k.single.link) h.now) life tied.setup.said in
      let same : inner k h.now ≡ inner (at_next k) [] = λ i. record (inner (at_next k) []) { link = here i; started = said.1 i } in
      let timer = rest_timed before h.between.sound.stands by.0 (heed.rest_is ∙ by.2) in
      dials_returned trace k q
      (record { sound = subst (Sound trace) same h.sound; ended = h.ended; rests = life; settled = refl; nobody = h.fit.none (unready_serves k.single.connection.life k.single.connection.again (ap is_ready life)); told = (refl, refl) })
      h.heeds (heed.rests waits).1 (rest_is ∙ over) failed_is informs over runs
      (inl (heard_is k.links ∙ ap (news_of b0.timers b0.sources k.links) by.1 ∙ ap (of_timer k.links) timer.1))

  acted : k.shut ≡ false → IsActed before c started word kind b acts t
  acted runs = record { between = h.between; acted = h.acted; tied = tied; here = h.link; runs = shut_is ∙ runs }

  -- nobody is open on a link that has ended
  pub none_open_over : (e : RedisError) → k.single.connection.life ≡ Ended e → (p : ℕ) → is_open_at k.single.connection.requests p ≡ true → ⊥
  none_open_over e over p o =
      let admitted = h.fit.none (unready_serves k.single.connection.life k.single.connection.again (ap is_ready over)) in
      let waiting = h.still.none_waits (ap has_ended over) in
      let lines = subst (λ (x : Life). TiedLines b.story k.single.connection.requests (link_in x) k.single.connection.waiting k.single.connection.admitted [] h.now) over tied.lines in
      elim (lines.there p o) [
        | inl i ↦ i
        | inr j ↦ elim j [ inl a ↦ subst (λ ws. IsIn p (waiting_ids ws)) admitted a.1 | inr a ↦ subst (λ ws. IsIn p (waiting_ids ws)) waiting a.1 ]
      ]

  -- another generation begins behind a link that has ended
  caused_returned : is_used_up k.single.connection ≡ false → (e : RedisError) → k.single.connection.life ≡ Ended e → k.shut ≡ false → g.number ≢ 0 → q.halted ≡ false → is_caused b ≡ true
      → HasReturned (trace ++ comeback_shown q word (comeback.Dials k.links (Some (q.number + 1)) (length k.timers))) (came_back k (comeback.Dials k.links (Some (q.number + 1)) (length k.timers)))
  caused_returned unspent e over runs some well caused =
      let there : is_resting k.single.connection.life ≡ false = ap is_resting over in
      let one : k.links ≡ k.single.link + 1 = has_links k.single.connection.life (b.link k.single.link).last (b.link k.single.link).end t there tied.course in
      let number = q.number + 1 in
      let admitted = h.fit.none (unready_serves k.single.connection.life k.single.connection.again (ap is_ready over)) in
      let waiting = h.still.none_waits (ap has_ended over) in
      let few : k.single.connection.renewal.asked < 2 ^ 32 = not_le_from (2 ^ 32) k.single.connection.renewal.asked (or_right (is_spent_in k.single.connection.life) _ unspent) in
      let is_due : generation_due b ≡ true = due b has (failed_is ∙ well) (shut_is ∙ runs) (left_if (b.generation == 0) (begins_first b) (is_caused b) (ne_test b.generation 0 (λ none. some (sym generation_is ∙ none))) ∙ caused) in
      let shown = shown_over b t (Ended e) refl tied refl (refl, refl) over (λ i. kept_ids (admitted i) (waiting i)) h.ended in
      let near = h.link in
      let all = begins_returned trace k h.now q number h.sound shown h.heeds refl is_due
      (rest_tied (entered b (action.Generation number)) (begun_in t number) (over_begins b t e number tied over refl refl few (ap is_some h.heeds) one waiting (none_open_over e over) (λ none. absurd (omega (arith, none))) (is_past trace h.sound.stands).behind))
      failed_is informs runs (harmless_next (λ x. absurd (omega (arith, one, x))) (shut_is ∙ runs)) in
      subst (λ (x : List Action). HasReturned x (came_back k (comeback.Dials k.links (Some number) (length k.timers)))) (append_assoc trace (action.Generation number ∷ []) _) all
    where
      harmless_next : (k.links ≡ k.single.link → ⊥) → b.shut ≡ false → IsHarmless (b.link k.links).heard
      harmless_next apart runs =
          let near = h.link in
          let same = h.links in
          let one : k.links ≡ k.single.link + 1 = has_links k.single.connection.life (b.link k.single.link).last (b.link k.single.link).end t (ap is_resting over) tied.course in
          subst IsHarmless (sym (heard_is k.links))
          (subst (λ (ts : List Purpose). IsHarmless (news_of ts b0.sources k.links kind)) (sym was.numbers.timers)
          (subst (λ (ss : List SourceUse). IsHarmless (news_of c.timers ss k.links kind)) (sym was.numbers.sources)
          (next_harmless c k.links kind _ _ h.good (omega (arith, same)) (omega (arith, near, one)) (runs_on before c word kind b acts h.acted runs) was.numbers.aims was.uses)))

  -- the first begins with the first submission
  first_returned : (come : HasCome b k kind) → k.shut ≡ false → g.number ≡ 0 → q.halted ≡ false
      → HasReturned (trace ++ comeback_shown q word (comeback.Dials k.links (Some (q.number + 1)) (length k.timers))) (came_back k (comeback.Dials k.links (Some (q.number + 1)) (length k.timers)))
  first_returned come runs none well =
      let number = q.number + 1 in
      let life : k.single.connection.life ≡ Resting = by_test (is_resting k.single.connection.life) _ (λ r. resting_is k.single.connection.life r) (λ there. absurd (begun_there there none)) in
      let admitted = h.fit.none (unready_serves k.single.connection.life k.single.connection.again (ap is_ready life)) in
      let down : TiedLife (b.link k.single.link) b.created Resting = subst (TiedLife (b.link k.single.link) b.created) life tied.life in
      let begins : begins_first b ≡ true = ap (λ x. not x || is_open (b.story (b.submissions - 1))) (back.first none) ∙ come.opens in
      let is_due : generation_due b ≡ true = due b has (failed_is ∙ well) (shut_is ∙ runs) (taken_if (b.generation == 0) (begins_first b) (is_caused b) (eq_test b.generation 0 (generation_is ∙ none)) ∙ begins) in
      let shown = shown_resting b t tied (λ over rests. absurd (not_both k.shut runs over)) refl (refl, refl) life admitted h.ended in
      let all = begins_returned trace k h.now q number h.sound shown h.heeds refl is_due
      (first_begins b t number tied life refl refl come.moved admitted refl refl come.free come.fresh (unended_over trace k.single.link down.1 down.2) (λ no. absurd (omega (arith, no))))
      failed_is informs runs (inl (heard_is k.links ∙ ap (news_of b0.timers b0.sources k.links) come.submits)) in
      subst (λ (x : List Action). HasReturned x (came_back k (comeback.Dials k.links (Some number) (length k.timers)))) (append_assoc trace (action.Generation number ∷ []) _) all

  -- where it does nothing
  pub stays_returned : NoneComes b → HasReturned (trace ++ comeback_shown q word comeback.Stays) k
  stays_returned comes = subst (λ (x : List Action). HasReturned x k) (sym (append-nil trace)) (record {
    started = h.now;
    sound = h.sound;
    ended = h.ended;
    fit = h.fit;
    still = h.still;
    seats = h.seats;
    hushed = h.hushed;
    comes = comes;
    heeded = subst (IsHeeded b.rest b.failed k.single.connection.life) (sym h.heeds) (record {
      rest_is = rest_is;
      failed_is = failed_is;
      rests = λ waits.
          let waited : g.rest ≢ None = λ none. waits (by_test (wakes g kind) _ (λ w. taken_if (wakes g kind) None g.rest w) (λ w. left_if (wakes g kind) None g.rest w ∙ none)) in
          (rests_on_wait waited, (heed.rests waited).1);
    });
    informed = subst (IsInformed b) (sym h.heeds) informs;
  })

  -- its wait goes on
  waits_still : wakes g kind ≡ false → k.shut ≡ false → is_resting k.single.connection.life ≡ true → g.number ≢ 0 → is_none b.rest ≡ false
  waits_still asleep runs rests some =
      let back0 = manager_is b0 (inner c started) g h.managed was in
      let life0 = resting_is c.single.connection.life (rested_before rests) in
      let down : TiedLife (b0.link c.single.link) b0.created Resting = subst (TiedLife (b0.link c.single.link) b0.created) life0 was.life in
      let runs0 : b0.shut ≡ false = or_left b0.shut (shuts kind) (sym (acted_adds before c word kind b acts h.acted).shut ∙ shut_is ∙ runs) in
      let none = awaits b0 (ap is_some back0.settings_are) (ap (nat_lt 0) back0.number_is ∙ lt_test 0 g.number (above g.number some)) (ap (λ l. (b0.link l).asked) was.numbers.current_is ∙ down.0) runs0 h.between.settled.written.moved.begun.applied.linked in
      ap (λ (o : Option ℕ). is_none o) (rest_is ∙ left_if (wakes g kind) None g.rest asleep ∙ sym heed.rest_is) ∙ none
    where
      above : (n : ℕ) → n ≢ 0 → 0 < n
      above n other = omega (arith, other)

  -- before its first generation no submission has come, or the first has in this turn
  abbrev IsFirst : Type 0
  IsFirst = g.number ≡ 0 → k.shut ≡ false → NoneCame k ⊎ HasCome (book trace) k kind

  -- nothing comes where it neither wakes nor has a cause
  none_comes : IsFirst → k.shut ≡ false → wakes g kind ≡ false → is_due q (machine.has_ended c.single.connection.life) k.single.connection acts ≡ false → NoneComes b
  none_comes first_of runs asleep idle = (
    undue b generation_why,
    by_test (is_resting k.single.connection.life) _
        (λ rests. by_test (g.number == 0) _
        (λ none. unasked b has (inl (ap (nat_lt 0) (generation_is ∙ eq_from g.number 0 none))))
        (λ some. unasked b has (inr (inr (inl (waits_still asleep runs rests (ne_from g.number 0 some)))))))
        (λ there. unasked b has (inr (inl (asked_there there)))),
  )
    where
      over : Bool
      over = machine.has_ended c.single.connection.life

      first : Bool
      first = if g.number == 0 then not (length k.single.connection.waiting == 0) else machine.is_caused over k.single.connection acts

      generation_why : (b.failed ≡ true) ⊎ ((b.shut ≡ true) ⊎ ((if b.generation == 0 then begins_first b else is_caused b) ≡ false))
      generation_why = by_halted q.halted refl idle
        where
          opens_not : NoneCame k → is_open (b.story (b.submissions - 1)) ≡ false
          opens_not none = by_test (is_open (b.story (b.submissions - 1))) _
              (λ o.
              let r = open_request b t (b.submissions - 1) tied o in
              absurd (let no : is_open_at [] r.number ≡ true = ap (λ rs. is_open_at rs r.number) (sym none.requests) ∙ r.open_at in cc no))
              (λ f. f)

          by_first : (x : Bool) → (g.number == 0) ≡ x → (if x then not (length k.single.connection.waiting == 0) else machine.is_caused over k.single.connection acts) ≡ false → (if b.generation == 0 then begins_first b else is_caused b) ≡ false
          by_first true none e =
              let zero = eq_from g.number 0 none in
              taken_if (b.generation == 0) (begins_first b) (is_caused b) (eq_test b.generation 0 (generation_is ∙ zero))
              ∙ ap (λ x. not x || is_open (b.story (b.submissions - 1))) (back.first zero)
              ∙ elim (first_of zero runs) [
                | inl nobody ↦ opens_not nobody
                | inr come ↦ absurd (let no : not false ≡ false = ap not (sym come.some) ∙ e in cc no)
              ]
          by_first false some e =
              left_if (b.generation == 0) (begins_first b) (is_caused b) (ap (λ n. n == 0) generation_is ∙ some)
              ∙ judged before c started word kind b acts t (acted runs) ∙ e

          by_halted : (x : Bool) → q.halted ≡ x → (not x && first) ≡ false → (b.failed ≡ true) ⊎ ((b.shut ≡ true) ⊎ ((if b.generation == 0 then begins_first b else is_caused b) ≡ false))
          by_halted true is e = inl (failed_is ∙ is)
          by_halted false is e = inr (inr (by_first (g.number == 0) refl e))

  -- a generation begins that is due
  due_returned : is_used_up k.single.connection ≡ false → IsFirst → k.shut ≡ false → is_due q (machine.has_ended c.single.connection.life) k.single.connection acts ≡ true
      → HasReturned (trace ++ comeback_shown q word (comeback.Dials k.links (Some (q.number + 1)) (length k.timers))) (came_back k (comeback.Dials k.links (Some (q.number + 1)) (length k.timers)))
  due_returned unspent first_of runs now = by_first (g.number == 0) refl (both_right (not q.halted) (if g.number == 0 then not (length k.single.connection.waiting == 0) else machine.is_caused over k.single.connection acts) now)
    where
      over : Bool
      over = machine.has_ended c.single.connection.life

      well : q.halted ≡ false
      well = not-true q.halted (both_left (not q.halted) (if g.number == 0 then not (length k.single.connection.waiting == 0) else machine.is_caused over k.single.connection acts) now)

      by_first : (x : Bool) → (g.number == 0) ≡ x → (if x then not (length k.single.connection.waiting == 0) else machine.is_caused over k.single.connection acts) ≡ true
          → HasReturned (trace ++ comeback_shown q word (comeback.Dials k.links (Some (q.number + 1)) (length k.timers))) (came_back k (comeback.Dials k.links (Some (q.number + 1)) (length k.timers)))
      by_first true none e = elim (first_of (eq_from g.number 0 none) runs) [
        | inl nobody ↦ absurd (let no : not true ≡ true = ap (λ (ws : List Waiting). not (length ws == 0)) (sym nobody.waiting) ∙ e in cc no)
        | inr come ↦ first_returned come runs (eq_from g.number 0 none) well
      ]
      by_first false some e =
          let life = ended_is k.single.connection.life (both_left (machine.has_ended k.single.connection.life) _ e) in
          caused_returned unspent life.0 life.1 runs (ne_from g.number 0 some) well (judged before c started word kind b acts t (acted runs) ∙ e)

  -- so whatever it does of its own
  pub returned : is_used_up k.single.connection ≡ false → IsFirst → let what = comeback_of q (wakes g kind) (machine.has_ended c.single.connection.life) k acts in HasReturned (trace ++ comeback_shown q word what) (came_back k what)
  returned unspent first_of =
      let over = machine.has_ended c.single.connection.life in
      let so = λ (what : Comeback). HasReturned (trace ++ comeback_shown q word what) (came_back k what) in
      let dials = comeback.Dials k.links (Some (q.number + 1)) (length k.timers) in
      let again = if is_due q over k.single.connection acts then dials else comeback.Stays in
      let awake = if wakes g kind then comeback.Dials k.links None (length k.timers) else again in
      let open_still = if k.shut then comeback.Stays else awake in
      chosen so (is_used_up k.single.connection) comeback.Stays (if rests k then comeback.Rests q.number q.attempt (length k.timers) else open_still)
      (λ used. absurd (not_both (is_used_up k.single.connection) unspent used))
      (λ unused. chosen so (rests k) (comeback.Rests q.number q.attempt (length k.timers)) open_still
      (λ waits. absurd (
      let none = rests_links k.single.connection.life (b.link k.single.link).last (b.link k.single.link).end t (both_left (is_resting k.single.connection.life) (nat_lt k.single.link k.links) waits) tied.course in
      let less = lt_from k.single.link k.links (both_right (is_resting k.single.connection.life) (nat_lt k.single.link k.links) waits) in
      omega (arith, none, less)))
      (λ there. chosen so k.shut comeback.Stays awake
      (λ over_now. stays_returned (shut_comes over_now))
      (λ runs. chosen so (wakes g kind) (comeback.Dials k.links None (length k.timers)) again
      (λ w. wakes_returned w runs)
      (λ asleep. chosen so (is_due q over k.single.connection acts) dials comeback.Stays
      (λ now. due_returned unspent first_of runs now)
      (λ idle. stays_returned (none_comes first_of runs asleep idle))))))
