-- All requests of a connection are moved.
use Rattle.std.proofs.Common.{List, [], ap, false, inl, inr, length, refl, subst, sym, true, ℕ, ◌++◌, ◌∙◌, ◌≡◌, ◌⊎◌}
use Rattle.std.specs.Prelude.{◌&&◌, ◌||◌}
use Rattle.containers.proofs.Choices.{by_test, chosen, not_both, both_left, both_right}
use Rattle.redis_error.specs.declared.redis_error.RedisError.{RedisError}
use Rattle.driver_model.specs.declared.action.Action.{Action}
use Rattle.link_core.specs.Link.{LinkState, holds_back}
use Rattle.link_laws.specs.Settles.{awaited_ids, wanted}
use Rattle.mux_conn.specs.Repeats.{repeated}
use Rattle.session_laws.proofs.Internal.RepeatsTold.{repeated_on}
use Rattle.conn_laws.proofs.Internal.SaysAlone.{said_alone}
use Rattle.mux_conn.specs.Connection.{Work, is_serving, admits_none_at, has_no_permit, with_link, in_front, is_ready, is_outstanding}
use Rattle.mux_conn.specs.Effects.{waiting_failed}
use Rattle.mux_conn.specs.Passes.{said, admitted_all, admitted_each, moved_up_all, moved_up_each, passed, started_at, still_admitted, still_waiting, rounds_begun, rounds_of}
use Rattle.mux_conn.specs.declared.life.Greeting.{Greeting}
use Rattle.mux_conn.specs.declared.life.Life.{Life}
use Rattle.mux_conn.specs.declared.life.Life.TheVariants.{Resting, Dialing, Ended, Ready, Wanting, SettingUp}
use Rattle.mux_conn.specs.declared.request.Waiting.{Waiting}
use Rattle.single_session.specs.declared.core_state.Core.{Core}
use Rattle.legal_trace.specs.Book.{Book, book}
use Rattle.legal_trace.specs.Legal.{NoneEnds}
use Rattle.session_laws.proofs.Requests.Answer.{after_end}
use Rattle.session_laws.proofs.Links.Close.{waiting_ends}
use Rattle.conn_laws.proofs.Ties.Ahead.{HasSeats}
use Rattle.session_laws.proofs.Ties.Ordered.{StaysOrdered}
use Rattle.session_laws.proofs.Internal.Renews.{HasTold, renewed_told}
use Rattle.conn_laws.proofs.Requests.Going.{HasRenewed}
use Rattle.session_laws.proofs.Requests.Going.{IsGoing}
use Rattle.conn_laws.proofs.Ties.InLine.{kept_ids}
use Rattle.conn_laws.proofs.Ties.Numbers.{IsIn, Rising, rising_right, requests_in}
use Rattle.conn_laws.proofs.Requests.Passes.{moved_up_waits, started_keeps, found_full}
use Rattle.session_laws.proofs.Requests.Passes.{IsDone, IsSeated, IsUp, admitted_done, moved_up_seated, moving, started_up, rounds_done}
use Rattle.session_laws.proofs.Links.Watches.{setting_begun}
use Rattle.session_laws.proofs.Requests.Settle.{Holds, seen, trace_of_acts}
use Rattle.conn_laws.proofs.Ties.States.{IsFit, IsFitIn, IsStill, AreBegun, IsStopped}
use Rattle.conn_laws.proofs.Ties.Tied.{has_ended, link_in, queue_ids, waiting_ids}
use Rattle.session_laws.proofs.Ties.Tied.{TurnState, Sound, Tied}
use Rattle.conn_laws.proofs.Internal.Repeats.{serves}
use Rattle.conn_laws.proofs.Internal.Serving.{unready_serves, outstanding_serves, answered_serves, serves_ready}
use Rattle.conn_laws.proofs.Internal.RepeatsDue.{served_repeated, down_repeated}
use Rattle.conn_laws.proofs.Requests.Moved.{IsStuck, OpenWaits, dialing_stuck, no_rounds, none_moved_up, not_both_lives, not_wanting_too, one_link, passed_over_is, repeating_same, resting_stuck, set_awake, stuck_same, stuck_stays, unready_said, up_awake, wanting_stuck}

-- the event has had its effect, and nothing moves any more; where everything is shut down, no link goes on
pub record HasMoved (before : List Action) (f : Core) (w : Work) : Type 0 where
  pub started : List ℕ
  pub holds : Holds before f w [] started
  pub ended : NoneEnds (book (trace_of_acts before f w.acts))
  pub fit : IsFitIn w.conn
  pub still : IsStill w.conn
  pub hushed : f.shut ≡ true → IsStopped w.conn.life w.conn.waiting
  pub seats : HasSeats w.conn.moved (in_front w.conn.renewal) (link_in w.conn.life) w.conn.size

-- of the requests that are to start behind it, and behind what is subscribed again, it is known which are ahead of new credentials
abbrev pub ComesOrdered : List Action → Core → Work → Type 0
ComesOrdered before f w =
    (started : List ℕ) (link : LinkState) → (repeated w).conn.life ≡ Ready link → (repeated w).conn.moved ≡ [] → Holds before f (repeated w) [] started
    → StaysOrdered (book (trace_of_acts before f (repeated w).acts)) f.single.link f.table (repeated w).conn.renewal

-- what an applied event gives: none was moved in its turn
pub record IsReady (before : List Action) (f : Core) (w : Work) (started : List ℕ) : Type 0 where
  pub holds : Holds before f w [] started
  pub ended : NoneEnds (book (trace_of_acts before f w.acts))
  pub fit : IsFitIn w.conn
  pub moved : w.conn.moved ≡ []
  pub hushed : f.shut ≡ true → IsStopped w.conn.life w.conn.waiting
  pub ordered : ComesOrdered before f w

-- on a link that is up and set up
--
-- nothing moves there any more, where rounds have begun
up_moved : (before : List Action) (f : Core) (w : Work) → (f.shut ≡ true → ⊥) → IsDone before f w → AreBegun w.conn.rounds w.conn.again w.conn.life w.conn.requests → HasMoved before f w
up_moved before f w awake done begun =
    let h = done.seated.up in
    let c = w.conn in
    let served = h.going.served (ap is_ready h.life) in
    record {
      started = h.started;
      holds = h.going.sound;
      ended = h.going.ended;
      fit = record { wanting = λ link e. absurd (not_wanting_too c.life h.link link h.life e); setup = λ link u e. absurd (not_both_lives c.life h.link link u h.life e); link = λ link e. subst (IsFit c.size c.boundary) (one_link c.life h.link link h.life e) h.fit; none = λ down. absurd (not_both (serves c.life c.again) down (answered_serves c.life c.again (ap is_ready h.life) served)) };
      still = record {
        setup = λ link u e. absurd (not_both_lives c.life h.link link u h.life e);
        held = λ link e. subst (λ (x : LinkState). (x.queue ≡ []) ⊎ (holds_back x ≡ true)) (one_link c.life h.link link h.life e) h.held;
        full = λ link e. found_full c link e done.seated.full;
        repeated = served_repeated c.again c.life served;
        renewed = h.going.renewed;
        waiting = λ link e none. done.none;
        begun = begun;
        none_waits = λ over. absurd (not_both (has_ended c.life) (ap has_ended h.life) over);
      };
      hushed = λ over. absurd (awake over);
      seats = subst (λ (x : LinkState). HasSeats c.moved (in_front c.renewal) x c.size) (sym (ap link_in h.life)) h.seats;
    }

-- so it is where the rounds of all that go on waiting have begun
rounds_moved : (before : List Action) (f : Core) (w : Work) → (f.shut ≡ true → ⊥) → IsDone before f w → HasMoved before f (rounds_begun w)
rounds_moved before f w awake done =
    let h = done.seated.up in
    let up = is_serving w.conn in
    let tied = h.going.sound.tied in
    chosen (HasMoved before f) (w.conn.rounds && up) (rounds_of w w.conn.fresh) w
    (λ t.
    let shows = both_left w.conn.rounds up t in
    let all = rounds_done before f w 0 w.conn.fresh (record { done = done; shows = shows; among = λ p u. tied.rounds.new p shows (both_right w.conn.rounds up t) u; rises = tied.waits.newer }) in
    up_moved before f (rounds_of w w.conn.fresh) awake all.done (λ x y. all.begun))
    (λ none. up_moved before f w awake done (λ shows ready. absurd (not_both (w.conn.rounds && up) none (λ i. shows i && ready i))))

-- all are moved there, once new credentials are told
told_moved : (before : List Action) (f : Core) (w : Work) → (f.shut ≡ true → ⊥) → is_outstanding w.conn.again ≡ false → HasTold before f w → HasMoved before f (rounds_begun (admitted_all (moved_up_all (started_at w w.conn.life))))
told_moved before f w awake served h =
    let started = h.started in
    let link = h.link in
    let life = h.life in
    let places = w.conn.admitted in
    let waits = w.conn.waiting in
    let kept = kept_ids places waits in
    let hi = length w.conn.requests in
    let queue = queue_ids (link_in w.conn.life).queue in
    let v = started_at w (Ready link) in
    let keeps = started_keeps w (Ready link) in
    let line = rising_right 0 queue kept hi (rising_right 0 (requests_in started) (queue ++ kept) hi h.holds.tied.lines.line) in
    let seats : HasSeats w.conn.moved (in_front w.conn.renewal) link w.conn.size = λ p i. absurd (subst (IsIn p) h.moved i) in
    let going : IsGoing (trace_of_acts before f w.acts) (moving f w.acts (with_link w link).conn places waits started) = record {
      sound = subst (λ (x : Life). Sound (trace_of_acts before f w.acts) (record (seen f w.acts w.conn [] started) { life = x })) life h.holds;
      ended = h.ended;
      renewed = subst (HasRenewed w.conn.renewal) life h.renewed;
      served = λ up. served;
    } in
    let up : IsUp before f v places waits [] kept = started_up before f w link places waits kept started h.fit seats going (subst (λ ns. Rising 0 (ns ++ kept) hi) (sym h.moved) line) in
    let first : IsUp before f (still_admitted v []) places waits [] kept = record { link = up.link; life = up.life; fit = up.fit; seats = up.seats; held = up.held; started = up.started; going = up.going; order = up.order } in
    let u = moved_up_each (still_admitted v []) places in
    let seated : IsSeated before f u waits = moved_up_seated before f (still_admitted v []) places waits first in
    let s = seated.up in
    let second : IsSeated before f (still_waiting u []) waits = record {
      up = record { link = s.link; life = s.life; fit = s.fit; seats = s.seats; held = s.held; started = s.started; going = s.going; order = s.order };
      full = seated.full;
    } in
    let same : u.conn.waiting ≡ waits = moved_up_waits (still_admitted v []) places ∙ keeps.waiting in
    let all = rounds_moved before f (admitted_each (still_waiting u []) waits) awake (admitted_done before f (still_waiting u []) waits second) in
    subst (λ (x : Life). HasMoved before f (rounds_begun (admitted_all (moved_up_all (started_at w x))))) (sym life)
    (subst (λ (x : List Waiting). HasMoved before f (rounds_begun (admitted_all (moved_up_each (still_admitted v []) x)))) (sym keeps.admitted)
    (subst (λ (x : List Waiting). HasMoved before f (rounds_begun (admitted_each (still_waiting u []) x))) (sym same) all))

-- while the connect isn't answered, or credentials are to come
--
repeating_moved : (before : List Action) (f : Core) (w : Work) → (f.shut ≡ true → ⊥) → w.conn.admitted ≡ [] → is_outstanding w.conn.again ≡ true → HasTold before f (said w) → HasMoved before f (passed w)
repeating_moved before f w awake none open_is h =
    let v = said w in
    let c = v.conn in
    let alone = said_alone w in
    let goes : is_outstanding c.again ≡ true = alone.goes ∙ open_is in
    let nobody : c.admitted ≡ [] = alone.admitted ∙ none in
    let early = h.holds.tied.early (outstanding_serves c.life c.again goes) (ap has_ended h.life) in
    let empty : h.link.queue ≡ [] = ap (λ (x : Life). (link_in x).queue) (sym h.life) ∙ early.empty in
    subst (HasMoved before f) (sym (repeating_same w v h.link refl h.life empty nobody goes)) (record {
      started = h.started;
      holds = h.holds;
      ended = h.ended;
      fit = record {
        wanting = λ x e. absurd (not_wanting_too c.life h.link x h.life e);
        setup = λ x u e. absurd (not_both_lives c.life h.link x u h.life e);
        link = λ x e. subst (IsFit c.size c.boundary) (one_link c.life h.link x h.life e) h.fit;
        none = λ down. nobody;
      };
      still = record {
        setup = λ x u e. absurd (not_both_lives c.life h.link x u h.life e);
        held = λ x e. inl (ap (λ (y : LinkState). y.queue) (sym (one_link c.life h.link x h.life e)) ∙ empty);
        full = λ x e. inl nobody;
        repeated = h.repeated;
        renewed = h.renewed;
        waiting = λ x e served. absurd (not_both (is_outstanding c.again) served goes);
        begun = λ shows up. absurd (not_both (serves c.life c.again) (outstanding_serves c.life c.again goes) up);
        none_waits = λ over. absurd (not_both (has_ended c.life) (ap has_ended h.life) over);
      };
      hushed = λ over. absurd (awake over);
      seats = λ p i. absurd (subst (IsIn p) h.moved i);
    })

-- so new credentials are told on a link that is set up
pub ready_told : (before : List Action) (f : Core) (w : Work) (started : List ℕ) (link : LinkState) → w.conn.life ≡ Ready link → IsReady before f w started → HasTold before f (said w)
ready_told before f w started link life h =
    let r = repeated_on before f w started link life h.holds h.ended (h.fit.link link life) h.moved in
    renewed_told before f (repeated w) r.started r.link r.life r.holds r.ended r.fit r.moved r.repeated (h.ordered r.started r.link r.life r.moved r.holds)

-- and all are moved there
pub ready_moved : (before : List Action) (f : Core) (w : Work) (started : List ℕ) (link : LinkState) → w.conn.life ≡ Ready link → IsReady before f w started → HasMoved before f (passed w)
ready_moved before f w started link life h =
    let awake : f.shut ≡ true → ⊥ = λ over. up_awake w.conn.life w.conn.waiting link life (h.hushed over) in
    let told = ready_told before f w started link life h in
    by_test (is_outstanding w.conn.again) (HasMoved before f (passed w))
    (λ goes. repeating_moved before f w awake (h.fit.none (outstanding_serves w.conn.life w.conn.again goes)) goes told)
    (λ served. told_moved before f (said w) awake ((said_alone w).goes ∙ served) told)

-- all stays there
stuck_moved : (before : List Action) (f : Core) (w : Work) (started : List ℕ) → IsStuck w → IsReady before f w started → HasMoved before f (passed w)
stuck_moved before f w started stuck h =
    subst (HasMoved before f) (sym (stuck_same w stuck (h.fit.none (unready_serves w.conn.life w.conn.again stuck.unready)))) (record {
      started = started;
      holds = h.holds;
      ended = h.ended;
      fit = h.fit;
      still = record {
        setup = λ link u e. absurd (stuck.unset link u e);
        held = λ link e. absurd (stuck.down link e);
        full = λ link e. absurd (stuck.down link e);
        repeated = down_repeated w.conn.again w.conn.life stuck.unready;
        renewed = λ link e. absurd (stuck.down link e);
        waiting = λ link e none. absurd (stuck.down link e);
        begun = λ shows up. absurd (not_both (is_ready w.conn.life) stuck.unready (serves_ready w.conn.life w.conn.again up));
        none_waits = λ over. absurd (not_both (has_ended w.conn.life) stuck.alive over);
      };
      hushed = h.hushed;
      seats = λ p i. absurd (subst (IsIn p) h.moved i);
    })

-- while the link is set up
--
-- the setup starts, and all else stays
setting_moved : (before : List Action) (f : Core) (w : Work) (started : List ℕ) (link : LinkState) (greeting : Greeting) → w.conn.life ≡ SettingUp link greeting → IsReady before f w started → HasMoved before f (passed w)
setting_moved before f w started link greeting life h =
    let none = h.fit.none (unready_serves w.conn.life w.conn.again (ap is_ready life)) in
    let v = started_at w (SettingUp link greeting) in
    let begun = setting_begun before f w started link greeting life (h.fit.setup link greeting life) none (record { sound = h.holds; ended = h.ended; renewed = λ x e. absurd (not_both_lives w.conn.life x link greeting e life); served = λ up. absurd (not_both (is_ready w.conn.life) (ap is_ready life) up) }) in
    let c = v.conn in
    let down : (x : LinkState) → c.life ≡ Ready x → ⊥ = λ x e. not_both_lives c.life x begun.link greeting e begun.life in
    let same : passed w ≡ v =
    ap (λ (x : Work). rounds_begun (admitted_all (moved_up_all (started_at x x.conn.life)))) (unready_said w (ap is_ready life))
    ∙ ap (λ (x : Life). rounds_begun (admitted_all (moved_up_all (started_at w x)))) life ∙ ap (λ (x : Work). rounds_begun (admitted_all x)) (none_moved_up v begun.admitted)
    ∙ ap rounds_begun (stuck_stays (still_waiting v []) c.waiting (ap (λ (x : Life). admits_none_at x (is_outstanding c.again || has_no_permit c.limit c.free)) begun.life)) ∙ no_rounds v (unready_serves c.life c.again (ap is_ready begun.life)) in
    subst (HasMoved before f) (sym same) (record {
      started = started;
      holds = begun.going.sound;
      ended = begun.going.ended;
      fit = record {
        wanting = λ x e. absurd (let no : SettingUp begun.link greeting ≡ Wanting x = sym begun.life ∙ e in cc);
        setup = λ x u e. subst (IsFit c.size c.boundary) (one_setting c.life begun.link x greeting u begun.life e) begun.fit;
        link = λ x e. absurd (down x e);
        none = λ down. begun.admitted;
      };
      still = record {
        setup = λ x u e. subst (λ (y : LinkState). (y.queue ≡ []) ⊎ (holds_back y ≡ true)) (one_setting c.life begun.link x greeting u begun.life e) begun.held;
        held = λ x e. absurd (down x e);
        full = λ x e. absurd (down x e);
        repeated = down_repeated c.again c.life (ap is_ready begun.life);
        renewed = λ x e. absurd (down x e);
        waiting = λ x e none. absurd (down x e);
        begun = λ shows up. absurd (not_both (is_ready c.life) (ap is_ready begun.life) (serves_ready c.life c.again up));
        none_waits = λ over. absurd (not_both (has_ended c.life) (ap has_ended begun.life) over);
      };
      hushed = λ over. absurd (set_awake w.conn.life w.conn.waiting link greeting life (h.hushed over));
      seats = λ p i k. absurd (subst (λ (x : Life). IsIn p (queue_ids (link_in x).queue)) begun.life k);
    })
  where
    one_setting : (life : Life) (link link' : LinkState) (u u' : Greeting) → life ≡ SettingUp link u → life ≡ SettingUp link' u' → link ≡ link'
    one_setting life link link' u u' e k = let both : SettingUp link u ≡ SettingUp link' u' = sym e ∙ k in cc

-- on a link that has ended
--
-- so it is on a link that has ended, where none waits for a place
open_waits : (b : Book) (t : TurnState) (error : RedisError) → Tied b t → t.pending ≡ [] → t.life ≡ Ended error → t.admitted ≡ [] → OpenWaits t.requests
open_waits b t error h none over empty p e = elim (h.lines.there p e) [
  | inl i ↦ absurd (subst (λ (x : Life). IsIn p ([] ++ (requests_in (wanted (link_in x).row) ++ awaited_ids (link_in x).queue))) over (subst (λ ns. IsIn p (ns ++ (requests_in (wanted (link_in t.life).row) ++ awaited_ids (link_in t.life).queue))) none i))
  | inr k ↦ elim k [ inl a ↦ absurd (subst (λ ws. IsIn p (waiting_ids ws)) empty a.1) | inr w ↦ w.0 ]
]

-- all are moved there
over_moved : (before : List Action) (f : Core) (w : Work) (e : RedisError) (started : List ℕ) → w.conn.life ≡ Ended e → IsReady before f w started → HasMoved before f (passed w)
over_moved before f w e started over h =
    let t = seen f w.acts w.conn [] started in
    let u = waiting_failed w e in
    let done = waiting_ends before f w e started h.holds over in
    let ends = after_end (book (trace_of_acts before f u.acts)) (seen f u.acts u.conn [] started) done.holds.tied (ap has_ended done.over) in
    let empty = h.fit.none (unready_serves w.conn.life w.conn.again (ap is_ready over)) in
    let down : (link : LinkState) → u.conn.life ≡ Ready link → ⊥ = λ link r. (let no : Ended e ≡ Ready link = sym done.over ∙ r in cc) in
    subst (HasMoved before f) (sym (passed_over_is w e over empty (open_waits (book (trace_of_acts before f w.acts)) t e h.holds.tied refl over empty))) (record {
      started = started;
      holds = done.holds;
      ended = ends.0;
      fit = record { wanting = λ link r. absurd (over_wanting link (sym done.over ∙ r)); setup = λ link u r. absurd (over_setting link u (sym done.over ∙ r)); link = λ link r. absurd (down link r); none = λ no. done.none_admitted };
      still = record { setup = λ link u r. absurd (over_setting link u (sym done.over ∙ r)); held = λ link r. absurd (down link r); full = λ link r. absurd (down link r); repeated = down_repeated u.conn.again u.conn.life (ap is_ready done.over); renewed = λ link r. absurd (down link r); waiting = λ link r none. absurd (down link r); begun = λ shows up. absurd (not_both (is_ready u.conn.life) (ap is_ready done.over) (serves_ready u.conn.life u.conn.again up)); none_waits = λ no. done.none_waits };
      hushed = λ shut. subst (λ (x : Life). IsStopped x u.conn.waiting) (sym done.over) tt;
      seats = λ p i k. absurd (subst (λ (x : Life). IsIn p (queue_ids (link_in x).queue)) done.over k);
    })
  where
    over_setting : (link : LinkState) (greeting : Greeting) → Ended e ≡ SettingUp link greeting → ⊥
    over_setting link greeting same = cc

    over_wanting : (link : LinkState) → Ended e ≡ Wanting link → ⊥
    over_wanting link same = cc

-- all requests are moved
pub passed_moved : (before : List Action) (f : Core) (w : Work) (started : List ℕ) → IsReady before f w started → HasMoved before f (passed w)
passed_moved before f w started h = by_life w.conn.life refl
  where
    by_life : (life : Life) → w.conn.life ≡ life → HasMoved before f (passed w)
    by_life Resting e = stuck_moved before f w started (resting_stuck w e) h
    by_life Dialing e = stuck_moved before f w started (dialing_stuck w e) h
    by_life (Wanting link) e = stuck_moved before f w started (wanting_stuck w link e) h
    by_life (SettingUp link greeting) e = setting_moved before f w started link greeting e h
    by_life (Ready link) e = ready_moved before f w started link e h
    by_life (Ended x) e = over_moved before f w x started e h
