-- When numbers run out.
use Rattle.std.proofs.Common.{Bool, List, [], ap, arith, false, inl, inr, length, nat_le, refl, subst, sym, true, ℕ, ◌++◌, ◌+◌, ◌<◌, ◌∙◌, ◌∷◌, ◌≡◌, ◌≤◌, ◌⊎◌, Option, is_some, if◌then◌else◌}
use Rattle.std.specs.Prelude.{◌==◌, ◌^◌, ◌||◌}
use Rattle.std.proofs.lemmas.List.{length_push}
use Rattle.containers.proofs.Choices.{by_test, eq_from, le_from, le_test, ne_from, not_both, not_le_from, or_left, or_right}
use Rattle.driver_model.specs.declared.config.Config.{Config}
use Rattle.driver_model.specs.declared.event.Event.{Event}
use Rattle.driver_model.specs.declared.action.Purpose.{Purpose}
use Rattle.driver_model.specs.declared.action.SourceUse.{SourceUse}
use Rattle.link_laws.proofs.TiedLink.{TiedLink}
use Rattle.mux_conn.specs.Connection.{is_spent_in, started_in, is_due, is_ready, is_used_up}
use Rattle.mux_conn.specs.declared.life.Life.{Life}
use Rattle.mux_conn.specs.declared.life.Life.TheVariants.{Resting, Dialing, Ended, Ready, Wanting, SettingUp}
use Rattle.single_session.specs.Replay.{AreGood, AreGoodOn, is_bad_after, is_spent_after, opening_core, run_on, state_after, trace_of, IsSound, AreUnspent, AreUnspentOn}
use Rattle.single_session.specs.Turn.{is_bad, has_run_out, spends, next_turn}
use Rattle.single_session.specs.declared.core_state.Core.{Core}
use Rattle.legal_trace.specs.Book.{Book, book}
use Rattle.legal_trace.specs.Events.{HasRunOut}
use Rattle.single_session.proofs.Replays.{state_after-more, trace_of-more, turns_after}
use Rattle.session_laws.proofs.Turn.Legality.{turn_behind}
use Rattle.session_laws.proofs.Turn.Opening.{opening_unasked}
use Rattle.conn_laws.proofs.Links.Server.{AreRenewed, NoneRenewed, TiedRenewal}
use Rattle.conn_laws.proofs.Ties.Tied.{TiedLife, carried, has_ended, whole_link}
use Rattle.session_laws.proofs.Ties.Tied.{TurnState, Tied, inner}
use Rattle.driver_model.specs.declared.action.Action.{Action}
use Rattle.conn_laws.proofs.Ties.Grown.{IsGrown}
use Rattle.session_laws.proofs.Ties.Grown.{turn_grown}
use Rattle.conn_laws.proofs.Internal.Renewals.{due_is, down_renewed_due, none_renewed_due}
use Rattle.legal_trace.specs.Ledger.{Ledger, renewal_count, renewal_due, renewals_asked}
use Rattle.credentials.specs.Credentials.{Credentials}
use Rattle.mux_conn.specs.declared.connection.MultiplexedConnection.{MultiplexedConnection}
use Rattle.mux_conn.specs.declared.renewal.Renewal.{Renewal}
use Rattle.link_core.specs.Link.{LinkState}

-- one event more
--
-- a good event behind good ones
good_more : (c : Core) (es : List Event) (e : Event) → AreGoodOn c es → is_bad (run_on c es) e.kind ≡ false → AreGoodOn c (es ++ e ∷ [])
good_more c [] e h good = (good, tt)
good_more c (x ∷ es) e h good = (h.0, good_more (next_turn c x.kind).core es e h.1 good)

-- a history is good with a good event more
pub are_good_more : (config : Config) (word : ℕ) (events : List Event) (e : Event) → AreGood config word events → is_bad_after config word events e ≡ false → AreGood config word (events ++ e ∷ [])
unfolding state_after AreGood
are_good_more config word events e h good = good_more (opening_core config word) events e h good

-- a turn counts one
turn_counted : (config : Config) (word : ℕ) (events : List Event) (e : Event) → (next_turn (state_after config word events) e.kind).core.turns ≡ (state_after config word events).turns + 1
turn_counted config word events e =
    let one_more : (state_after config word (events ++ e ∷ [])).turns ≡ (state_after config word events).turns + 1 = omega (arith, turns_after config word (events ++ e ∷ []), turns_after config word events, length_push events e) in
    ap (λ (c : Core). c.turns) (sym (state_after-more config word events e)) ∙ one_more

-- where the session is spent, numbers have run out
--
-- the link of a session that is spent is up
spent_up : (b : Book) (t : TurnState) → Tied b t → is_spent_in t.life ≡ true → (b.link t.link).up ≡ true
spent_up b t h e = by_life t.life h.life e
  where
    by_life : (life : Life) → TiedLife (b.link t.link) b.created life → is_spent_in life ≡ true → (b.link t.link).up ≡ true
    by_life Resting k s = absurd (let far = le_from (2 ^ 32) 0 s in omega arith)
    by_life Dialing k s = absurd (let far = le_from (2 ^ 32) 0 s in omega arith)
    by_life (Wanting link) k s = k.1
    by_life (SettingUp link greeting) k s = k.1
    by_life (Ready link) k s = k.1
    by_life (Ended x) k s = absurd (let far = le_from (2 ^ 32) 0 s in omega arith)

-- and a link that is up has started as many messages
up_started : (b : Book) (t : TurnState) → Tied b t → (b.link t.link).up ≡ true → started_in t.life ≡ length (b.link t.link).starts
up_started b t h up = by_life t.life h.life h.link
  where
    by_life : (life : Life) → TiedLife (b.link t.link) b.created life → (has_ended life ≡ false → TiedLink (carried life t.requests) (b.link t.link) (whole_link life)) → started_in life ≡ length (b.link t.link).starts
    by_life Resting k tied = absurd (not_both (b.link t.link).up k.1 up)
    by_life Dialing k tied = absurd (not_both (b.link t.link).up k.1 up)
    by_life (Wanting link) k tied = (tied refl).started
    by_life (SettingUp link greeting) k tied = (tied refl).started
    by_life (Ready link) k tied = (tied refl).started
    by_life (Ended x) k tied = absurd (not_both (b.link t.link).up k.0 up)

-- one of six tests
either_true : (a b c d e f : Bool) → (a || (b || (c || (d || (e || f))))) ≡ true → (a ≡ true) ⊎ ((b ≡ true) ⊎ ((c ≡ true) ⊎ ((d ≡ true) ⊎ ((e ≡ true) ⊎ (f ≡ true)))))
either_true true b c d e f is = inl refl
either_true false true c d e f is = inr (inl refl)
either_true false false true d e f is = inr (inr (inl refl))
either_true false false false true e f is = inr (inr (inr (inl refl)))
either_true false false false false true f is = inr (inr (inr (inr (inl refl))))
either_true false false false false false f is = inr (inr (inr (inr (inr is))))

-- one of two
one_of : (a b : Bool) → (a || b) ≡ true → (a ≡ true) ⊎ (b ≡ true)
one_of true b e = inl refl
one_of false b e = inr e

-- the first of two
or_first : (a b : Bool) → a ≡ true → (a || b) ≡ true
or_first true b e = refl
or_first false b e = cc

-- or the second
or_second : (a b : Bool) → b ≡ true → (a || b) ≡ true
or_second true b e = refl
or_second false b e = e

-- over any bound
turns_out : (bound turns now next : ℕ) → bound ≤ turns → now ≡ next → next ≡ turns + 1 → bound < now
turns_out bound turns now next l e i = omega arith

-- what is as many
as_many : (bound n m : ℕ) → bound ≤ n → m ≡ n → bound ≤ m
as_many bound n m l e = omega arith

-- a session that has begun so many turns before this one has given out the last number of a sort
abbrev IsSpentBy : ℕ → TurnState → Bool
IsSpentBy turns t =
    nat_le (2 ^ 32) turns
    || (nat_le (2 ^ 32) t.links || ((is_spent_in t.life || nat_le (2 ^ 32) t.renewal.asked) || (nat_le (2 ^ 32) (length t.table) || (nat_le (2 ^ 32) (length t.timers) || nat_le (2 ^ 32) (length t.sources)))))

-- by the numbers of the session
pub run_out_of : (b : Book) (t : TurnState) (turns : ℕ) → Tied b t → t.turns ≡ turns + 1 → (2 ^ 32 ≤ t.renewal.asked → 2 ^ 32 ≤ renewals_asked (b.link t.link)) → IsSpentBy turns t ≡ true → HasRunOut b
run_out_of b t turns h count renewals e =
    elim (either_true (nat_le (2 ^ 32) turns) (nat_le (2 ^ 32) t.links) (is_spent_in t.life || nat_le (2 ^ 32) t.renewal.asked) (nat_le (2 ^ 32) (length t.table)) (nat_le (2 ^ 32) (length t.timers)) (nat_le (2 ^ 32) (length t.sources)) e) [
      | inl x ↦ inl (turns_out (2 ^ 32) turns b.turns t.turns (le_from (2 ^ 32) turns x) h.numbers.turns count)
      | inr v ↦ elim v [
        | inl many ↦ inr (inr (inl (as_many (2 ^ 32) t.links b.links (le_from (2 ^ 32) t.links many) h.numbers.links)))
        | inr x ↦ elim x [
          | inl both ↦ elim (one_of (is_spent_in t.life) (nat_le (2 ^ 32) t.renewal.asked) both) [
            | inl y ↦ let up = spent_up b t h y in inr (inr (inr (inr (inr (inl (t.link, up, as_many (2 ^ 32) (started_in t.life) (length (b.link t.link).starts) (le_from (2 ^ 32) (started_in t.life) y) (sym (up_started b t h up))))))))
            | inr y ↦ inr (inr (inr (inr (inr (inr (t.link, renewals (le_from (2 ^ 32) t.renewal.asked y)))))))
          ]
          | inr y ↦ elim y [
            | inl z ↦ inr (inl (as_many (2 ^ 32) (length t.table) b.submissions (le_from (2 ^ 32) (length t.table) z) h.numbers.submissions))
            | inr z ↦ elim z [
              | inl w ↦ inr (inr (inr (inl (subst (λ (ts : List Purpose). 2 ^ 32 ≤ length ts) (sym h.numbers.timers) (le_from (2 ^ 32) (length t.timers) w)))))
              | inr w ↦ inr (inr (inr (inr (inl (subst (λ (ss : List SourceUse). 2 ^ 32 ≤ length ss) (sym h.numbers.sources) (le_from (2 ^ 32) (length t.sources) w))))))
            ]
          ]
        ]
      ]
    ]

-- and where they have, it is
--
first_true : (a b c d e f : Bool) → a ≡ true → (a || (b || (c || (d || (e || f))))) ≡ true
first_true true b c d e f is = refl
first_true false b c d e f is = cc

-- the second of six tests
second_true : (a b c d e f : Bool) → b ≡ true → (a || (b || (c || (d || (e || f))))) ≡ true
second_true a b c d e f is = or_second a (b || (c || (d || (e || f)))) (or_first b (c || (d || (e || f))) is)

-- the third
third_true : (a b c d e f : Bool) → c ≡ true → (a || (b || (c || (d || (e || f))))) ≡ true
third_true a b c d e f is = or_second a (b || (c || (d || (e || f)))) (or_second b (c || (d || (e || f))) (or_first c (d || (e || f)) is))

-- the fourth
fourth_true : (a b c d e f : Bool) → d ≡ true → (a || (b || (c || (d || (e || f))))) ≡ true
fourth_true a b c d e f is = or_second a (b || (c || (d || (e || f)))) (or_second b (c || (d || (e || f))) (or_second c (d || (e || f)) (or_first d (e || f) is)))

-- the fifth
fifth_true : (a b c d e f : Bool) → e ≡ true → (a || (b || (c || (d || (e || f))))) ≡ true
fifth_true a b c d e f is = or_second a (b || (c || (d || (e || f)))) (or_second b (c || (d || (e || f))) (or_second c (d || (e || f)) (or_second d (e || f) (or_first e f is))))

-- and the last
last_true : (a b c d e f : Bool) → f ≡ true → (a || (b || (c || (d || (e || f))))) ≡ true
last_true a b c d e f is = or_second a (b || (c || (d || (e || f)))) (or_second b (c || (d || (e || f))) (or_second c (d || (e || f)) (or_second d (e || f) (or_second e f is))))

-- the turn before
turns_then : (bound turns now next : ℕ) → bound < now → now ≡ next → next ≡ turns + 1 → bound ≤ turns
turns_then bound turns now next l e i = omega arith

-- by the numbers of the session
pub spent_of : (b : Book) (t : TurnState) (turns : ℕ) → Tied b t → t.turns ≡ turns + 1 → (2 ^ 32 ≤ renewals_asked (b.link t.link) → 2 ^ 32 ≤ t.renewal.asked) → HasRunOut b → IsSpentBy turns t ≡ true
spent_of b t turns h count renewals out =
    let first = nat_le (2 ^ 32) turns in
    let second = nat_le (2 ^ 32) t.links in
    let third = is_spent_in t.life || nat_le (2 ^ 32) t.renewal.asked in
    let fourth = nat_le (2 ^ 32) (length t.table) in
    let fifth = nat_le (2 ^ 32) (length t.timers) in
    let last = nat_le (2 ^ 32) (length t.sources) in
    elim out [
      | inl l ↦ first_true first second third fourth fifth last (le_test (2 ^ 32) turns (turns_then (2 ^ 32) turns b.turns t.turns l h.numbers.turns count))
      | inr x ↦ elim x [
        | inl l ↦ fourth_true first second third fourth fifth last (le_test (2 ^ 32) (length t.table) (as_many (2 ^ 32) b.submissions (length t.table) l (sym h.numbers.submissions)))
        | inr y ↦ elim y [
          | inl l ↦ second_true first second third fourth fifth last (le_test (2 ^ 32) t.links (as_many (2 ^ 32) b.links t.links l (sym h.numbers.links)))
          | inr z ↦ elim z [
            | inl l ↦ fifth_true first second third fourth fifth last (le_test (2 ^ 32) (length t.timers) (subst (λ (ts : List Purpose). 2 ^ 32 ≤ length ts) h.numbers.timers l))
            | inr w ↦ elim w [
              | inl l ↦ last_true first second third fourth fifth last (le_test (2 ^ 32) (length t.sources) (subst (λ (ss : List SourceUse). 2 ^ 32 ≤ length ss) h.numbers.sources l))
              | inr x ↦ elim x [
                | inl m ↦ by_test (m.0 == t.link) _
                    (λ e.
                    let same = eq_from m.0 t.link e in
                    let up = subst (λ l. (b.link l).up ≡ true) same m.1 in
                    let here = subst (λ l. 2 ^ 32 ≤ length (b.link l).starts) same m.2 in
                    third_true first second third fourth fifth last (or_first (is_spent_in t.life) (nat_le (2 ^ 32) t.renewal.asked) (le_test (2 ^ 32) (started_in t.life) (as_many (2 ^ 32) (length (b.link t.link).starts) (started_in t.life) here (up_started b t h up)))))
                    (λ o. absurd (not_both (b.link m.0).up (h.others m.0 (ne_from m.0 t.link o)).down m.1))
                | inr m ↦ by_test (m.0 == t.link) _
                    (λ e.
                    let here = subst (λ l. 2 ^ 32 ≤ renewals_asked (b.link l)) (eq_from m.0 t.link e) m.1 in
                    third_true first second third fourth fifth last (or_second (is_spent_in t.life) (nat_le (2 ^ 32) t.renewal.asked) (le_test (2 ^ 32) t.renewal.asked (renewals here))))
                    (λ o. absurd (let few = (h.others m.0 (ne_from m.0 t.link o)).few in let many = m.1 in omega arith))
              ]
            ]
          ]
        ]
      ]
    ]

-- the last number
--
-- the session behind one more event, and the book of its trace
next_between : (config : Config) (word : ℕ) (events : List Event) (e : Event) → IsSound config → AreGood config word events → AreUnspent config word events → is_bad_after config word events e ≡ false
    → (let after = (next_turn (state_after config word events) e.kind).core in
    (started : List ℕ) × Tied (book (trace_of config word (events ++ e ∷ []))) (inner after started) × ((link : LinkState) → after.single.connection.life ≡ Ready link → is_due after.single.connection.renewal ≡ true → after.single.connection.renewal.pending ≡ true))
next_between config word events e sound good unspent fine =
    let after = (next_turn (state_after config word events) e.kind).core in
    let h = turn_behind config word events e sound good unspent fine in
    (h.started, subst (λ (x : List Action). Tied (book x) (inner after h.started)) (sym (trace_of-more config word events e)) h.tied, h.renewed)

-- new credentials that were to be told have not run out before
asked_next_few : (c : Core) (e : Event) → spends c e ≡ false → (next_turn c e.kind).core.single.connection.renewal.asked < 2 ^ 32
unfolding spends has_run_out
asked_next_few c e unspent =
    let conn = (next_turn c e.kind).core.single.connection in
    not_le_from (2 ^ 32) conn.renewal.asked (or_right (is_spent_in conn.life) _ (or_left (is_used_up conn) _ (or_right (nat_le (2 ^ 32) (next_turn c e.kind).core.links) _ (or_right (nat_le (2 ^ 32) c.turns) _ unspent))))

-- nor behind a history
asked_on : (c : Core) (es : List Event) → c.single.connection.renewal.asked < 2 ^ 32 → AreUnspentOn c es → (run_on c es).single.connection.renewal.asked < 2 ^ 32
asked_on c [] few unspent = few
asked_on c (e ∷ es) few unspent = asked_on (next_turn c e.kind).core es (asked_next_few c e unspent.0) unspent.1

-- from the opening on
asked_behind : (config : Config) (word : ℕ) (events : List Event) → AreUnspent config word events → (state_after config word events).single.connection.renewal.asked < 2 ^ 32
unfolding state_after AreUnspent
asked_behind config word events unspent = asked_on (opening_core config word) events (let none = (opening_unasked config word).told in omega arith) unspent

-- so where they have, they have in its book
last_asked : (b : Book) (t : TurnState) (n : ℕ) (conn : MultiplexedConnection) → t.life ≡ conn.life → t.renewal ≡ conn.renewal → Tied b t → n < 2 ^ 32 → IsGrown n conn → 2 ^ 32 ≤ t.renewal.asked → 2 ^ 32 ≤ renewals_asked (b.link t.link)
last_asked b t n conn life renewal h few (inr dialing) many = absurd (let none = (subst (TiedRenewal (b.link t.link) t.renewal) (life ∙ dialing) h.renewal).unasked in omega (arith, many, none))
last_asked b t n conn life renewal h few (inl (inl same)) many = absurd (let so = ap (λ (r : Renewal). r.asked) renewal in omega (arith, few, so, same, many))
last_asked b t n conn life renewal h few (inl (inr more)) many = by_life t.life refl
  where
    ready : is_ready t.life ≡ true
    ready = ap is_ready life ∙ more.0

    at_most_one : (x : Bool) (asked n : ℕ) → asked ≡ n + (if x then 1 else 0) → asked ≤ n + 1
    at_most_one true asked n e = omega arith
    at_most_one false asked n e = omega arith

    told : (t.renewal.pending ≡ false) ⊎ (is_due t.renewal ≡ true)
    told = subst (λ (r : Renewal). (r.pending ≡ false) ⊎ (is_due r ≡ true)) (sym renewal) more.1

    by_life : (x : Life) → t.life ≡ x → 2 ^ 32 ≤ renewals_asked (b.link t.link)
    by_life Resting e = absurd (not_both (is_ready t.life) (ap is_ready e) ready)
    by_life Dialing e = absurd (not_both (is_ready t.life) (ap is_ready e) ready)
    by_life (Wanting link) e = absurd (not_both (is_ready t.life) (ap is_ready e) ready)
    by_life (SettingUp link greeting) e = absurd (not_both (is_ready t.life) (ap is_ready e) ready)
    by_life (Ended x) e = absurd (not_both (is_ready t.life) (ap is_ready e) ready)
    by_life (Ready link) e =
        let l = b.link t.link in
        let tied : AreRenewed l t.renewal = subst (TiedRenewal l t.renewal) e h.renewal in
        let up = (subst (TiedLife l b.created) e h.life).1 in
        let count = tied.asked_is in
        elim told [
          | inl none ↦ let all = count ∙ ap (λ (x : Bool). renewal_count l.starts + (if x then 1 else 0)) none in omega (arith, many, all)
          | inr due ↦
              let all : renewals_asked l ≡ renewal_count l.starts + 1 = ap (λ (x : Bool). renewal_count l.starts + (if x then 1 else 0)) (due_is l t.renewal up tied ∙ due) in
              let most : t.renewal.asked ≤ renewal_count l.starts + 1 = at_most_one t.renewal.pending t.renewal.asked (renewal_count l.starts) count in
              omega (arith, many, all, most)
        ]

-- and the other way round
book_asked : (b : Book) (t : TurnState) → Tied b t → ((link : LinkState) → t.life ≡ Ready link → is_due t.renewal ≡ true → t.renewal.pending ≡ true) → 2 ^ 32 ≤ renewals_asked (b.link t.link) → 2 ^ 32 ≤ t.renewal.asked
book_asked b t h waits many = by_life t.life refl
  where
    l : Ledger
    l = b.link t.link

    too_few : (n : ℕ) → n ≡ 0 → 2 ^ 32 ≤ n → ⊥
    too_few n e l = omega arith

    none : NoneRenewed l t.renewal → ⊥
    none r = too_few (renewals_asked l) (ap (λ n. n + (if is_some (renewal_due l) then 1 else 0)) r.unstarted ∙ ap (λ (o : Option Credentials). 0 + (if is_some o then 1 else 0)) (none_renewed_due l t.renewal r)) many

    by_life : (x : Life) → t.life ≡ x → 2 ^ 32 ≤ t.renewal.asked
    by_life Resting e = absurd (none (subst (TiedRenewal l t.renewal) e h.renewal))
    by_life Dialing e = absurd (none (subst (TiedRenewal l t.renewal) e h.renewal))
    by_life (Wanting link) e = absurd (none (subst (TiedRenewal l t.renewal) e h.renewal))
    by_life (SettingUp link greeting) e = absurd (none (subst (TiedRenewal l t.renewal) e h.renewal))
    by_life (Ended x) e =
        let few = (subst (TiedRenewal l t.renewal) e h.renewal).1 in
        let down = (subst (TiedLife l b.created) e h.life).0 in
        let all : renewals_asked l ≡ renewal_count l.starts + 0 = ap (λ (o : Option Credentials). renewal_count l.starts + (if is_some o then 1 else 0)) (down_renewed_due l down) in
        omega (arith, few, all, many)
    by_life (Ready link) e =
        let tied : AreRenewed l t.renewal = subst (TiedRenewal l t.renewal) e h.renewal in
        let up = (subst (TiedLife l b.created) e h.life).1 in
        let count = tied.asked_is in
        by_test (is_due t.renewal) (2 ^ 32 ≤ t.renewal.asked)
        (λ due.
        let all : renewals_asked l ≡ renewal_count l.starts + 1 = ap (λ (x : Bool). renewal_count l.starts + (if x then 1 else 0)) (due_is l t.renewal up tied ∙ due) in
        let so = count ∙ ap (λ (x : Bool). renewal_count l.starts + (if x then 1 else 0)) (waits link e due) in
        omega (arith, all, so, many))
        (λ f.
        let all : renewals_asked l ≡ renewal_count l.starts + 0 = ap (λ (x : Bool). renewal_count l.starts + (if x then 1 else 0)) (due_is l t.renewal up tied ∙ f) in
        omega (arith, all, count, many))

-- a spent step gives out the last number
pub spent_run_out : (config : Config) (word : ℕ) (events : List Event) (e : Event) → IsSound config → AreGood config word events → AreUnspent config word events → is_bad_after config word events e ≡ false → is_spent_after config word events e ≡ true
    → HasRunOut (book (trace_of config word (events ++ e ∷ [])))
unfolding spends has_run_out
spent_run_out config word events e sound good unspent fine spent =
    let c = state_after config word events in
    let h = next_between config word events e sound good unspent fine in
    let b = book (trace_of config word (events ++ e ∷ [])) in
    let t = inner (next_turn c e.kind).core h.0 in
    run_out_of b t c.turns h.1 (turn_counted config word events e)
    (last_asked b t c.single.connection.renewal.asked (next_turn c e.kind).core.single.connection refl refl h.1 (asked_behind config word events unspent) (turn_grown c e.kind)) spent

-- and one that gives it out is spent
pub run_out_spent : (config : Config) (word : ℕ) (events : List Event) (e : Event) → IsSound config → AreGood config word events → AreUnspent config word events → is_bad_after config word events e ≡ false → HasRunOut (book (trace_of config word (events ++ e ∷ [])))
    → is_spent_after config word events e ≡ true
unfolding spends has_run_out
run_out_spent config word events e sound good unspent fine out =
    let c = state_after config word events in
    let h = next_between config word events e sound good unspent fine in
    let b = book (trace_of config word (events ++ e ∷ [])) in
    let t = inner (next_turn c e.kind).core h.0 in
    spent_of b t c.turns h.1 (turn_counted config word events e) (book_asked b t h.1 h.2) out
