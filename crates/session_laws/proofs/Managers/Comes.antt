-- What a session does of its own: while its link goes on, no generation begins, and no link is asked for.
use Rattle.std.proofs.Common.{◌≡◌, ◌≢◌, ℕ, ◌+◌, ◌-◌, ◌==◌, nat_lt, if◌then◌else◌, Bool, true, false, not, ◌&&◌, ◌||◌, Option, Some, None, is_none, is_some, refl, sym, ap, ◌∙◌, subst, arith}
use Rattle.std.proofs.Math.Bool.{and-false}
use Rattle.std.specs.List.{list_any}
use Rattle.containers.proofs.Choices.{chosen, left_if, ne_test, not_both, taken_if}
use Rattle.redis_error.specs.declared.redis_error.RedisError.{RedisError}
use Rattle.connection_info.specs.declared.address.RedisConnectionInfo.{RedisConnectionInfo}
use Rattle.connection_info.specs.Protocol.{is_resp3}
use Rattle.driver_model.specs.declared.action.Action.TheVariants as action
use Rattle.driver_model.specs.declared.action.Owner.TheVariants as owner
use Rattle.driver_model.specs.declared.action.WaitKind.{WaitKind}
use Rattle.driver_model.specs.declared.outcome.Outcome.TheVariants as outcome
use Rattle.mux_conn.specs.Connection.{is_resting, is_ready}
use Rattle.mux_conn.specs.declared.life.Life.{Life}
use Rattle.mux_conn.specs.declared.life.Life.TheVariants.{Resting, Dialing, Wanting, SettingUp, Ready, Ended}
use Rattle.single_session.specs.declared.generations.Generations.{Generations}
use Rattle.legal_trace.specs.Book.{Book, entered, has_generations, info_in}
use Rattle.legal_trace.specs.Ledger.{End, Ending, Ledger, by_shutdown, by_fault, by_opening, by_attempt}
use Rattle.legal_trace.specs.Legal.{begins_first, current_link, generation_due, is_attempt, is_by_attempt, is_cause, is_caused, is_lost, is_lost_in, link_due, rest_due}
use Rattle.legal_trace.specs.Managers.{is_lazy}
use Rattle.legal_trace.specs.Owed.{owed_by, owed_unstarted}
use Rattle.legal_trace.specs.Story.{Story, is_open, waits}
use Rattle.conn_laws.proofs.Ties.Owes.{is_asked, lives}
use Rattle.conn_laws.proofs.Ties.Tied.{IsOver, TiedLife, has_ended}
use Rattle.session_laws.proofs.Ties.Tied.{NoReconnectCause, HasCourse, TurnState, Tied, TiedManager, is_begun}
use Rattle.link_core.specs.Link.{LinkState}

-- no generation begins, and no link is asked for
abbrev pub NoneComes : Book → Type 0
NoneComes b = (generation_due b ≡ false) × (link_due b ≡ false)

-- of what doesn't come back
--
-- no generation begins
plain_generated : (b : Book) → has_generations b ≡ false → generation_due b ≡ false
plain_generated b plain = ap (λ g. g && (not b.failed && (not b.shut && (if b.generation == 0 then begins_first b else is_caused b)))) plain

-- and its only link was asked for
plain_comes : (b : Book) → has_generations b ≡ false → b.links ≢ 0 → NoneComes b
plain_comes b plain some = (plain_generated b plain, left_if (has_generations b) _ (b.links == 0) plain ∙ ne_test b.links 0 some)

-- of what does
--
-- what is false in any case
both_false : (x y z : Bool) → z ≡ false → (x && (y && z)) ≡ false
both_false true true z e = e
both_false true false z e = refl
both_false false y z e = refl

-- a link was asked for of a generation, where there are any
pub has_begun : (life : Life) (is_last : Bool) (end : Option End) (t : TurnState) → is_resting life ≡ false → HasCourse is_last end t.links t.link t.shut t.manager t.last t.opened t.info t.address life → is_begun t.manager ≡ true
has_begun Resting is_last end t there h = cc
has_begun Dialing is_last end t there h = h.1
has_begun (Wanting link) is_last end t there h = h.1
has_begun (SettingUp link greeting) is_last end t there h = h.1
has_begun (Ready link) is_last end t there h = h.1
has_begun (Ended e) is_last end t there h = h.1

-- and is the last of all
pub has_links : (life : Life) (is_last : Bool) (end : Option End) (t : TurnState) → is_resting life ≡ false → HasCourse is_last end t.links t.link t.shut t.manager t.last t.opened t.info t.address life → t.links ≡ t.link + 1
has_links Resting is_last end t there h = cc
has_links Dialing is_last end t there h = h.0
has_links (Wanting link) is_last end t there h = h.0
has_links (SettingUp link greeting) is_last end t there h = h.0
has_links (Ready link) is_last end t there h = h.0
has_links (Ended e) is_last end t there h = h.0

-- it stays where everything is shut down later
pub course_later : (life : Life) (is_last : Bool) (end : Option End) (links link : ℕ) (shut next : Bool) (manager : Option Generations) (last opened : Bool) (info address : RedisConnectionInfo) → (next ≡ false → shut ≡ false) → HasCourse is_last end links link shut manager last opened info address life
    → HasCourse is_last end links link next manager last opened info address life
course_later Resting is_last end links link shut next manager last opened info address later h = h
course_later Dialing is_last end links link shut next manager last opened info address later h = h
course_later (Wanting state) is_last end links link shut next manager last opened info address later h = h
course_later (SettingUp state greeting) is_last end links link shut next manager last opened info address later h = h
course_later (Ready state) is_last end links link shut next manager last opened info address later h = h
course_later (Ended e) is_last end links link shut next manager last opened info address later h = (h.0, h.1, record { failed = λ new awake. h.2.failed new (later awake); unfailed = h.2.unfailed })

-- and where the ledger says the same of other attempts, and the link ended so before, if it did
pub course_alike : (life : Life) (is_last same : Bool) (end after : Option End) (links link : ℕ) (shut : Bool) (manager : Option Generations) (last opened : Bool) (info address : RedisConnectionInfo) → same ≡ is_last → (has_ended life ≡ true → after ≡ end) → HasCourse is_last end links link shut manager last opened info address life
    → HasCourse same after links link shut manager last opened info address life
course_alike Resting is_last same end after links link shut manager last opened info address e over h = h
course_alike Dialing is_last same end after links link shut manager last opened info address e over h = (h.0, h.1, h.2, e ∙ h.3, h.4)
course_alike (Wanting state) is_last same end after links link shut manager last opened info address e over h = (h.0, h.1, h.2, e ∙ h.3)
course_alike (SettingUp state greeting) is_last same end after links link shut manager last opened info address e over h = (h.0, h.1, h.2, e ∙ h.3)
course_alike (Ready state) is_last same end after links link shut manager last opened info address e over h = (h.0, h.1, h.2, e ∙ h.3)
course_alike (Ended x) is_last same end after links link shut manager last opened info address e over h = (h.0, h.1, subst (λ (y : Option End). IsOver y shut opened) (sym (over refl)) h.2)

-- what is known of a connection whose link goes on: it is the last of all, in a generation, and it says of other attempts what the ledger
-- does
pub record IsLive (is_last : Bool) (t : TurnState) : Type 0 where
  pub links : t.links ≡ t.link + 1
  pub begun : is_begun t.manager ≡ true
  pub lasts : is_last ≡ t.last

pub tied_live : (b : Book) (t : TurnState) → Tied b t → is_resting t.life ≡ false → has_ended t.life ≡ false → IsLive (b.link t.link).last t
tied_live b t h there up = by_life t.life there up h.course
  where
    by_life : (life : Life) → is_resting life ≡ false → has_ended life ≡ false → HasCourse (b.link t.link).last (b.link t.link).end t.links t.link t.shut t.manager t.last t.opened t.info t.address life → IsLive (b.link t.link).last t
    by_life Resting z u k = cc
    by_life Dialing z u k = record { links = k.0; begun = k.1; lasts = k.3 }
    by_life (Wanting link) z u k = record { links = k.0; begun = k.1; lasts = k.3 }
    by_life (SettingUp link greeting) z u k = record { links = k.0; begun = k.1; lasts = k.3 }
    by_life (Ready link) z u k = record { links = k.0; begun = k.1; lasts = k.3 }
    by_life (Ended e) z u k = cc

-- a link that isn't set up wasn't
pub tied_unopened : (b : Book) (t : TurnState) → Tied b t → is_ready t.life ≡ false → has_ended t.life ≡ false → t.opened ≡ false
tied_unopened b t h unready up = by_life t.life unready up h.course
  where
    by_life : (life : Life) → is_ready life ≡ false → has_ended life ≡ false → HasCourse (b.link t.link).last (b.link t.link).end t.links t.link t.shut t.manager t.last t.opened t.info t.address life → t.opened ≡ false
    by_life Resting z u k = k.2
    by_life Dialing z u k = k.2
    by_life (Wanting link) z u k = k.2
    by_life (SettingUp link greeting) z u k = k.2
    by_life (Ready link) z u k = cc
    by_life (Ended e) z u k = cc

-- and one that is was
pub tied_opened : (b : Book) (t : TurnState) (link : LinkState) → Tied b t → t.life ≡ Ready link → t.opened ≡ true
tied_opened b t link h e = (subst (λ (x : Life). HasCourse (b.link t.link).last (b.link t.link).end t.links t.link t.shut t.manager t.last t.opened t.info t.address x) e h.course).2

-- what owes something is no attempt that another one follows
owing_attempt : (end : Option End) (e : RedisError) → owed_unstarted end ≡ Some (outcome.Fault e) → is_attempt end ≡ false
owing_attempt None e h = refl
owing_attempt (Some end) e h = by_why end.why h
  where
    by_why : (why : Ending) → owed_by why ≡ Some (outcome.Fault e) → is_by_attempt why ≡ false
    by_why by_shutdown k = refl
    by_why (by_fault f) k = refl
    by_why (by_opening x) k = refl
    by_why (by_attempt x) k = cc

-- so no wait is to be asked for behind one
no_attempt : (l : Ledger) (created : ℕ) (life : Life) → TiedLife l created life → is_attempt l.end ≡ false
no_attempt l created Resting h = ap is_attempt h.2
no_attempt l created Dialing h = ap is_attempt h.2
no_attempt l created (Wanting link) h = ap is_attempt h.2
no_attempt l created (SettingUp link greeting) h = ap is_attempt h.2
no_attempt l created (Ready link) h = ap is_attempt h.2
no_attempt l created (Ended e) h = owing_attempt l.end e h.1

pub none_rests : (b : Book) (t : TurnState) → Tied b t → rest_due b ≡ false
none_rests b t h = ap (λ x. has_generations b && x) (ap (λ l. is_attempt (b.link l).end) h.numbers.current_is ∙ no_attempt (b.link t.link) b.created t.life h.life) ∙ and-false (has_generations b)

-- nothing of this turn is a cause for the next generation
pub none_caused : (b : Book) → (current_link b).end ≡ None → NoReconnectCause b.errors → is_caused b ≡ false
none_caused b alive calm =
    let lost : is_lost b ≡ false = ap (λ (end : Option End). is_resp3 (info_in b.config).protocol && is_lost_in (b.turns - 1) end) alive ∙ and-false (is_resp3 (info_in b.config).protocol) in
    (λ i. lost i || list_any (is_cause (alive i)) b.errors) ∙ calm

-- while its link goes on
pub live_comes : (b : Book) (t : TurnState) → Tied b t → is_resting t.life ≡ false → has_ended t.life ≡ false → NoneComes b
live_comes b t h there up = by_manager t.manager h.numbers.comes_back (has_begun t.life (b.link t.link).last (b.link t.link).end t there h.course)
  where
    alive : (current_link b).end ≡ None
    alive = ap (λ l. (b.link l).end) h.numbers.current_is ∙ lives (b.link t.link) b.created t.life h.life up

    asked : (current_link b).asked ≡ true
    asked = ap (λ l. (b.link l).asked) h.numbers.current_is ∙ is_asked (b.link t.link) b.created t.life there h.life

    first : Bool
    first = if b.generation == 0 then begins_first b else is_caused b

    generates : (shut : Bool) → b.shut ≡ shut → (b.generation == 0) ≡ false → generation_due b ≡ false
    generates true is some = both_false (has_generations b) (not b.failed) (not b.shut && first) (ap (λ s. not s && first) is)
    generates false is some =
        both_false (has_generations b) (not b.failed) (not b.shut && first)
        (ap (λ s. not s && first) is ∙ left_if (b.generation == 0) (begins_first b) (is_caused b) some ∙ none_caused b alive (h.calm up (sym h.numbers.shut ∙ is)))

    by_manager : (m : Option Generations) → TiedManager b.config b.generation b.attempt m → is_begun m ≡ true → NoneComes b
    by_manager None k begun = plain_comes b (ap is_some k.0) (λ none. let links = h.numbers.links in let one = has_links t.life (b.link t.link).last (b.link t.link).end t there h.course in omega arith)
    by_manager (Some g) k begun =
        let some : (b.generation == 0) ≡ false = ap (λ n. n == 0) k.number_is ∙ not_true (g.number == 0) begun in (
          generates b.shut refl some,
          taken_if (has_generations b) (nat_lt 0 b.generation && (not (current_link b).asked && (is_none b.rest && not b.shut))) (b.links == 0) (ap is_some k.settings_are) ∙ and_first (nat_lt 0 b.generation) (is_none b.rest && not b.shut),
        )
      where
        not_true : (x : Bool) → not x ≡ true → x ≡ false
        not_true true e = cc
        not_true false e = refl

        and_first : (x y : Bool) → (x && (not (current_link b).asked && y)) ≡ false
        and_first x y = ap (λ a. x && (not a && y)) asked ∙ and-false x

-- what doesn't come back has a link
pub plain_there : (b : Book) (t : TurnState) → Tied b t → is_some t.manager ≡ false → is_resting t.life ≡ false
plain_there b t h plain = by_life t.life h.course
  where
    by_life : (life : Life) → HasCourse (b.link t.link).last (b.link t.link).end t.links t.link t.shut t.manager t.last t.opened t.info t.address life → is_resting life ≡ false
    by_life Resting k = absurd (not_both (is_some t.manager) plain k.1)
    by_life Dialing k = refl
    by_life (Wanting link) k = refl
    by_life (SettingUp link greeting) k = refl
    by_life (Ready link) k = refl
    by_life (Ended e) k = refl

-- and stays as it is
pub plain_put : (b : Book) (t : TurnState) → Tied b t → is_some t.manager ≡ false → NoneComes b
plain_put b t h plain = plain_comes b (plain_has t.manager plain h.numbers.comes_back)
    (λ none. let links = h.numbers.links in let one = has_links t.life (b.link t.link).last (b.link t.link).end t (plain_there b t h plain) h.course in omega arith)
  where
    plain_has : (m : Option Generations) → is_some m ≡ false → TiedManager b.config b.generation b.attempt m → has_generations b ≡ false
    plain_has None none k = ap is_some k.0
    plain_has (Some g) none k = cc

-- a wait that is shown changes nothing of that
pub wait_comes : (b : Book) (n : ℕ) (kind : WaitKind) → NoneComes b → NoneComes (entered b (action.Wait (owner.Try n 0) kind))
wait_comes b n kind h = (ap (λ o. has_generations b && (not b.failed && (not b.shut && (if b.generation == 0 then not (is_lazy b.config) || o else is_caused b)))) opens ∙ h.0, h.1)
  where
    m : ℕ
    m = b.submissions - 1

    opens : is_open ((entered b (action.Wait (owner.Try n 0) kind)).story m) ≡ is_open (b.story m)
    opens = chosen (λ (s : Story). is_open s ≡ is_open (b.story m)) (n == m) (waits (b.story m) kind) (b.story m) (λ t. refl) (λ f. refl)
