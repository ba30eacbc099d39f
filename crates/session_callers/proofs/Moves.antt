-- Each step of one seat keeps the rule.
use Rattle.std.proofs.Common.{◌≡◌, ◌≢◌, ◌⊎◌, ℕ, suc, ◌+◌, ◌%◌, ◌^◌, ◌<◌, ◌≤◌, List, [], ◌∷◌, ◌++◌, length, set, Option, Some, refl, sym, ap, ◌∙◌, subst, ⊎_elim, inl, inr, arith, zero-le, length-append, eqb, eq-eqb, ne_eqb, Bool}
use Rattle.std.specs.Prelude.{slice_index, if◌then◌else◌}
use mathlib.Core.Logic.{dite}
use Rattle.driver_model.specs.declared.config.Config.{Config}
use Rattle.driver_model.specs.declared.event.Event.{Event}
use Rattle.shared_session.specs.declared.session.Failure.{Failure}
use mathlib.Core.Option.{none, some, some-ne-none, some-injective}
use mathlib.Core.List.{IsPrefix}
use native.Mathlib.Decide.{ℕ_discrete, dec_le}
use prog.Atomic.{either}
use lib.ListN.{get_elem?}
use Rattle.atomic_table.specs.Table.{State, Act, keeps, takes, gives, stepped, put_back, Allows, Valid, carried_after, rest}
use Rattle.atomic_table.proofs.Lists.{set_again, one_turn}
use Rattle.session_callers.specs.declared.board.Home.{Home}
use Rattle.session_callers.specs.declared.board.View.{View}
use Rattle.session_callers.specs.declared.board.Ended.{Ended}
use Rattle.session_callers.specs.declared.board.Stage.{Stage}
use Rattle.session_callers.specs.declared.board.Stage.TheVariants.{Idle, Waiting, Served, Holding, Split}
use Rattle.session_callers.specs.Rule.{total, same, below, between, times, has, draws, out, more, numbered, callers, makes, Now, KnowsAll, InTurn, Ascends, Each, Fits, MaySpend, IsPlaced, words_of, Ruled, Sat, At, ticket_of, in_hand, history, submissions_in, waiting, served, MayGive, given, drew, looked, took, gave, raised, dialled}
use Rattle.session_callers.proofs.Totals.{total_set, total_at, total_two, total_gap, total_le, prefix_all, prefix_more, prefix_length, times_last, ascends_up, ascends_last, below_up, same_self, each_up, each_counted}
use Rattle.session_callers.proofs.Counts.{Delta, counted_set, each_set, Later, ended_later, fronts_later, fits_later, makes_up}

abbrev St : Type 0
St = State (Option Home) View

abbrev Homes : Type 0
Homes = List (mathlib.Core.Option.Option (Option Home))

pub later_same : (now : Now) → Later now now
later_same now = record { log = prefix_all now.log; config = (refl, refl, refl); mark = λ _. refl; made = omega arith; dial = omega arith }

-- a seat that isn't idle has one caller
pub single_if : (v : View) (x : Stage) → (2 ≤ length v.number → v.stage ≡ Idle) → draws v.stage ≡ 1 → 2 ≤ length v.number → x ≡ Idle
single_if v x single busy many = absurd (let e : draws v.stage ≡ 0 = ap draws (single many) in omega arith)

-- a step of one seat: each part of the rule, as far as it changes
pub moves_to : (s : St) (r : Ruled s) (id : ℕ) (v w : View) → get_elem? s.views id ≡ some v → (ticket' : ℕ) (now' : Now) (words' : List ℕ) (homes' : Homes)
    → Delta r.ticket r.now ticket' now' v w → words' ≡ words_of ticket' now' → MaySpend now'.config now'.word now'.log now'.mark
    → (total (λ (v : View). out v.stage) (set s.views id w) + out v.stage ≡ total (λ (v : View). out v.stage) s.views + out w.stage → IsPlaced now' homes' (total (λ (v : View). out v.stage) (set s.views id w)))
    → Fits now' w → Later r.now now' → ((j : ℕ) (u : View) → j ≢ id → get_elem? s.views j ≡ some u → InTurn now' u u.stage)
    → Ruled record { words = words'; homes = homes'; views = set s.views id w }
moves_to s r id v w at ticket' now' words' homes' delta words_are spent place mine later turns = record {
  ticket = ticket';
  now = now';
  words = words_are;
  counted = counted_set r.ticket r.now s.views r.counted id v w at ticket' now' later.config.2 delta;
  spent = spent;
  place = place (total_set (λ (v : View). out v.stage) s.views id v w at);
  each = each_set (Fits now') s.views id w mine (λ j u apart e. fits_later r.now now' u later (r.each j u e) (turns j u apart e));
}

module _ (s : St) (r : Ruled s) where
  -- the number of tickets that are out
  pub short : r.ticket < r.now.serving + 2 ^ 64
  short =
      let a = total_le (λ (v : View). draws v.stage) callers s.views (λ j u e. let b = (r.each j u e).caller in omega arith) in
      let b = r.counted.drawn in let c = r.counted.callers in let d = r.counted.few in let e = r.counted.limit in omega arith

  -- the one that is served has one seat
  one : total (λ (v : View). has r.now.serving v.stage) s.views ≤ 1
  one = let a = r.counted.tickets r.now.serving in omega arith

  out_least : (j : ℕ) (u : View) → get_elem? s.views j ≡ some u → out u.stage ≤ has r.now.serving u.stage
  out_least j u e = go u.stage (r.each j u e).turn
    where
      go : (x : Stage) → InTurn r.now u x → out x ≤ has r.now.serving x
      go Idle h = omega arith
      go (Waiting t) h = omega arith
      go (Served t) h = omega arith
      go (Holding t) h = let e = h.0 in omega arith
      go (Split t) h = let e = h.0 in omega arith

  -- where a seat has the ticket that is served, and has the session not out, it is at home
  pub at_home : (id : ℕ) (v : View) → get_elem? s.views id ≡ some v → has r.now.serving v.stage ≡ 1 → out v.stage ≡ 0
      → (h : Home) × (s.homes ≡ some (Some h) ∷ []) × (h.session ≡ history r.now.config r.now.word r.now.log r.now.mark) × (h.made ≡ r.now.made) × (h.submissions ≡ submissions_in r.now.log) × (total (λ (v : View). out v.stage) s.views ≡ 0)
  at_home id v at has_it not_out = ⊎_elim
      (λ p. p)
      (λ p. let gap = total_gap (λ (v : View). out v.stage) (λ (v : View). has r.now.serving v.stage) s.views id v at out_least in let u = one in let q = p.1 in absurd (omega arith))
      r.place

  pub away : (id : ℕ) (v : View) → get_elem? s.views id ≡ some v → out v.stage ≡ 1 → (s.homes ≡ none ∷ []) × (total (λ (v : View). out v.stage) s.views ≡ 1)
  away id v at is_out = let least = total_at (λ (v : View). out v.stage) s.views id v at in ⊎_elim (λ p. let q = p.5 in absurd (omega arith)) (λ p. p) r.place

  -- a seat with the ticket that is served is the only one
  pub alone : (id : ℕ) (v : View) → get_elem? s.views id ≡ some v → has r.now.serving v.stage ≡ 1 → (now' : Now) (j : ℕ) (u : View) → j ≢ id → get_elem? s.views j ≡ some u → InTurn now' u u.stage
  alone id v at has_it now' j u apart there = go u.stage (r.each j u there).turn two
    where
      two : has r.now.serving u.stage ≡ 0
      two = let a = total_two (λ (v : View). has r.now.serving v.stage) s.views j id u v apart there at in let u = one in omega arith

      go : (x : Stage) → InTurn r.now u x → has r.now.serving x ≡ 0 → InTurn now' u x
      go Idle h n = tt
      go (Waiting t) h n = tt
      go (Served t) h n = let e = h.0 in absurd (omega arith)
      go (Holding t) h n = let e = h.0 in absurd (omega arith)
      go (Split t) h n = let e = h.0 in absurd (omega arith)

  -- a seat whose turn it is, while the session is at home, was made
  pub numbers_below : (id : ℕ) (v : View) → get_elem? s.views id ≡ some v → has r.now.serving v.stage ≡ 1 → out v.stage ≡ 0 → Each (λ (n : ℕ). n < r.now.made) v.number
  numbers_below id v at has_it not_out = each_counted v.number r.now.made (λ n.
      let home = (at_home id v at has_it not_out).5 in
      let a = total_le (λ (v : View). more v.stage) (λ (v : View). out v.stage) s.views (λ j u e. more_out u.stage) in
      let none_more : total (λ (v : View). more v.stage) s.views ≡ 0 = omega arith in
      let b = r.counted.numbers n in
      let c = total_at (numbered n) s.views id v at in
      let d : below n (r.now.made + total (λ (v : View). more v.stage) s.views) ≡ below n r.now.made = ap (λ (k : ℕ). below n (r.now.made + k)) none_more ∙ omega arith in
      omega arith)
    where
      more_out : (x : Stage) → more x ≤ out x
      more_out Idle = omega arith
      more_out (Waiting t) = omega arith
      more_out (Served t) = omega arith
      more_out (Holding t) = omega arith
      more_out (Split t) = omega arith

  -- the seat that is served knows all
  pub served_one : (id : ℕ) (v : View) (t : ℕ) (x : Stage) → get_elem? s.views id ≡ some v → v.stage ≡ x → (InTurn r.now v x → KnowsAll r.now v t) → ((n : ℕ) → has n x ≡ same n t) → KnowsAll r.now v t × (has r.now.serving v.stage ≡ 1)
  served_one id v t x at is knows has_t =
      let k : KnowsAll r.now v t = knows (subst (InTurn r.now v) is (r.each id v at).turn) in
      (k, ap (has r.now.serving) is ∙ has_t r.now.serving ∙ ap (same r.now.serving) k.0 ∙ same_self r.now.serving)

-- draw ticket
pub draws_next : (slots id : ℕ) (me : Sat) (st : At) → me.0.stage ≡ Idle → length me.0.number ≡ 1 → Allows Ruled slots id me 0 (λ n. (n + 1) % 2 ^ 64) (drew st me)
draws_next slots id me st idle caller s r deep at fits =
    let v = me.0 in
    let t = r.ticket in
    let w : View = waiting v t in
    let mine = r.each id v at in (
      w,
      keeps,
      tt,
      moves_to s r id v w at (t + 1) r.now _ s.homes
          (record {
            drawn = let b = ap draws idle in omega arith;
            tickets = λ n. let b : has n v.stage ≡ 0 = ap (has n) idle in omega (arith, below_up n t);
            callers_stay = refl;
            numbers_stay = λ n. refl;
            count_stays = let b = ap more idle in omega arith;
            makers = λ m to. inl (to, omega arith);
            positions = λ p. refl;
            claims = λ g. refl;
            no_claim = refl;
          })
          (ap (λ ws. set ws 0 ((slice_index ws 0 + 1) % 2 ^ 64)) r.words ∙ ap (λ (x : ℕ). x ∷ r.now.serving % 2 ^ 64 ∷ r.now.dial ∷ []) (omega arith))
          r.spent
          (λ a. subst (IsPlaced r.now s.homes) (let b = ap out idle in omega arith) r.place)
          (record { seen = mine.seen; turn = tt; mine = mine.mine; config = mine.config; failure = mine.failure; made = mine.made; dial = mine.dial; caller = omega arith; single = λ many. absurd (omega (arith, many, caller)); ended = mine.ended; nothing = mine.nothing; fronts = mine.fronts })
          (later_same r.now)
          (λ j u _ e. (r.each j u e).turn),
      (t, ap (λ ws. slice_index ws 0) r.words, refl),
    )

-- load serving
pub looks : (slots id : ℕ) (me : Sat) (st : At) (t : ℕ) → me.0.stage ≡ Waiting t → Allows Ruled slots id me 1 (λ n. n) (looked st me)
looks slots id me st t is s r deep at fits = dite (ℕ_discrete (slice_index s.words 1) (ticket_of v.stage % 2 ^ 64)) hit miss
  where
    v : View
    v = me.0

    mine : Fits r.now v
    mine = r.each id v at

    same_words : set s.words 1 (slice_index s.words 1) ≡ words_of r.ticket r.now
    same_words = ap (λ ws. set ws 1 (slice_index ws 1)) r.words

    Goal : Type 0
    Goal = (w : View) × (a : Act (Option Home)) × Valid s.homes me.1 a × Ruled (stepped s 1 (slice_index s.words 1) id me.1 w a) × looked st me (slice_index s.words 1) (w, carried_after me.1 a)

    hit : slice_index s.words 1 ≡ ticket_of v.stage % 2 ^ 64 → Goal
    hit e =
        let is_t : ticket_of v.stage ≡ t = ap ticket_of is in
        let found : r.now.serving % 2 ^ 64 ≡ t % 2 ^ 64 = sym (ap (λ ws. slice_index ws 1) r.words) ∙ e ∙ ap (λ n. n % 2 ^ 64) is_t in
        let range = total_at (λ (v : View). has t v.stage) s.views id v at in
        let has_t : has t v.stage ≡ 1 = ap (has t) is ∙ same_self t in
        let window = r.counted.tickets t in
        let low : r.now.serving ≤ t = omega arith in
        let high : t < r.now.serving + 2 ^ 64 = let c = short s r in omega arith in
        let now : r.now.serving ≡ t = one_turn r.now.serving t (2 ^ 64) low high found in
        let w : View = served v r.now.log r.now.mark r.now.made in (
          w,
          keeps,
          tt,
          moves_to s r id v w at r.ticket r.now _ s.homes
              (record {
                drawn = let b : draws v.stage ≡ 1 = ap draws is in omega arith;
                tickets = λ n. let b : has n v.stage ≡ same n t = ap (has n) is in let d : has n w.stage ≡ same n t = ap (same n) is_t in omega arith;
                callers_stay = refl;
                numbers_stay = λ n. refl;
                count_stays = let b : more v.stage ≡ 0 = ap more is in omega arith;
                makers = λ m to. inl (to, makes_up m v r.now.made mine.made);
                positions = λ p. refl;
                claims = λ g. refl;
                no_claim = refl;
              })
              same_words
              r.spent
              (λ a. subst (IsPlaced r.now s.homes) (let b : out v.stage ≡ 0 = ap out is in omega arith) r.place)
              (record {
                seen = prefix_all r.now.log;
                turn = (is_t ∙ sym now, refl, refl, refl, numbers_below s r id v at (ap (has r.now.serving) is ∙ ap (λ n. same n t) now ∙ same_self t) (ap out is));
                mine = ascends_up 0 v.mine (length v.seen) (length r.now.log) (prefix_length v.seen r.now.log mine.seen) mine.mine;
                config = mine.config;
                failure = λ _. refl;
                made = omega arith;
                dial = mine.dial;
                caller = subst (λ x. draws x ≤ length v.number) is mine.caller;
                single = single_if v (Served (ticket_of v.stage)) mine.single (ap draws is);
                ended = mine.ended;
                nothing = mine.nothing;
                fronts = mine.fronts;
              })
              (later_same r.now)
              (λ j u _ e. (r.each j u e).turn),
          ((λ _. (r.now.log, r.now.mark, r.now.made, mine.seen, refl)), (λ n. absurd (n e))),
        )

    miss : slice_index s.words 1 ≢ ticket_of v.stage % 2 ^ 64 → Goal
    miss n = (
      v,
      keeps,
      tt,
      subst (λ (l : List View). Ruled record { words = set s.words 1 (slice_index s.words 1); homes = s.homes; views = l }) (sym (set_again s.views id v at))
          record { ticket = r.ticket; now = r.now; words = same_words; counted = r.counted; spent = r.spent; place = r.place; each = r.each },
      ((λ e. absurd (n e)), (λ _. refl)),
    )

-- exchange out
pub takes_out : (slots id : ℕ) (me : Sat) (st : At) (t : ℕ) → me.0.stage ≡ Served t → Allows Ruled slots id me 0 (λ n. n) (took st me)
takes_out slots id me st t is s r deep at fits =
    let v = me.0 in
    let mine = r.each id v at in
    let all = served_one s r id v t (Served t) at is (λ k. k) (λ n. refl) in
    let k = all.0 in
    let is_t : ticket_of v.stage ≡ t = ap ticket_of is in
    let home = at_home s r id v at all.1 (ap out is) in
    let w : View = record v { stage = Holding (ticket_of v.stage) } in
    let seen : Home = record { session = history v.config v.word v.seen v.failure; made = v.made; submissions = submissions_in v.seen } in
    let one_caller : 1 ≤ length v.number = let a = mine.caller in let b : draws v.stage ≡ 1 = ap draws is in omega arith in
    let c = mine.config one_caller in
    let was : home.0 ≡ seen = λ i. record {
      session = (home.2 ∙ (λ j. history (sym c.0 j) (sym c.1 j) (sym k.1 j) (sym k.2 j))) i;
      made = (home.3 ∙ sym k.3) i;
      submissions = (home.4 ∙ ap submissions_in (sym k.1)) i;
    } in
    let homes_are : s.homes ≡ some (Some seen) ∷ [] = home.1 ∙ ap (λ h. some (Some h) ∷ []) was in (
      w,
      takes 0 (Some seen),
      ap (λ l. get_elem? l 0) homes_are,
      moves_to s r id v w at r.ticket r.now _ _
          (record {
            drawn = let b : draws v.stage ≡ 1 = ap draws is in omega arith;
            tickets = λ n. let b : has n v.stage ≡ same n t = ap (has n) is in let d : has n w.stage ≡ same n t = ap (same n) is_t in omega arith;
            callers_stay = refl;
            numbers_stay = λ n. refl;
            count_stays = let b : more v.stage ≡ 0 = ap more is in omega arith;
            makers = λ m to. inl (to, omega arith);
            positions = λ p. refl;
            claims = λ g. refl;
            no_claim = refl;
          })
          (ap (λ ws. set ws 0 (slice_index ws 0)) r.words)
          r.spent
          (λ a. inr (ap (λ l. set l 0 none) homes_are, (let b : out v.stage ≡ 0 = ap out is in let z = home.5 in omega arith)))
          (record { seen = mine.seen; turn = (is_t ∙ k.0, k.1, k.2, k.3, k.4); mine = mine.mine; config = mine.config; failure = mine.failure; made = mine.made; dial = mine.dial; caller = subst (λ x. draws x ≤ length v.number) is mine.caller; single = single_if v w.stage mine.single (ap draws is); ended = mine.ended; nothing = mine.nothing; fronts = mine.fronts })
          (later_same r.now)
          (λ j u _ e. (r.each j u e).turn),
      (refl, subst (λ (x : Config × ℕ × List Event × Failure). MaySpend x.0 x.1 x.2 x.3) (λ i. (sym c.0 i, sym c.1 i, sym k.1 i, sym k.2 i)) r.spent, (let a = k.3 in let b = r.counted.few in let d = c.2 in omega arith)),
    )

-- raise serving
pub raises : (slots id : ℕ) (me : Sat) (st : At) (t : ℕ) → me.0.stage ≡ Served t → Allows Ruled slots id me 1 (λ n. (n + 1) % 2 ^ 64) (raised st me)
raises slots id me st t is s r deep at fits =
    let v = me.0 in
    let mine = r.each id v at in
    let all = served_one s r id v t (Served t) at is (λ k. k) (λ n. refl) in
    let now = all.0.0 in
    let w : View = record v { stage = Idle } in
    let now' : Now = record r.now { serving = r.now.serving + 1 } in (
      w,
      keeps,
      tt,
      moves_to s r id v w at r.ticket now' _ s.homes
          (record {
            drawn = let b : draws v.stage ≡ 1 = ap draws is in omega arith;
            tickets = λ n. let b : has n v.stage ≡ same n r.now.serving = ap (has n) is ∙ ap (same n) now in omega (arith, below_up n r.now.serving);
            callers_stay = refl;
            numbers_stay = λ n. refl;
            count_stays = let b : more v.stage ≡ 0 = ap more is in omega arith;
            makers = λ m to. inl (to, omega arith);
            positions = λ p. refl;
            claims = λ g. refl;
            no_claim = refl;
          })
          (ap (λ ws. set ws 1 ((slice_index ws 1 + 1) % 2 ^ 64)) r.words ∙ ap (λ (x : ℕ). r.ticket % 2 ^ 64 ∷ x ∷ r.now.dial ∷ []) (omega arith))
          r.spent
          (λ a. subst (IsPlaced now' s.homes) (let b : out v.stage ≡ 0 = ap out is in omega arith) r.place)
          (record { seen = mine.seen; turn = tt; mine = mine.mine; config = mine.config; failure = mine.failure; made = mine.made; dial = mine.dial; caller = zero-le; single = λ _. refl; ended = ended_later r.now now' (later_as now') v.ended mine.ended; nothing = mine.nothing; fronts = mine.fronts })
          (later_as now')
          (alone s r id v at all.1 now'),
      refl,
    )
  where
    later_as : (n : Now) → Later r.now (record r.now { serving = n.serving })
    later_as n = record { log = prefix_all r.now.log; config = (refl, refl, refl); mark = λ _. refl; made = omega arith; dial = omega arith }

-- compare-exchange of dial
pub dials : (slots id : ℕ) (me : Sat) (said : Option Home) (g : ℕ) → length me.0.number ≡ 1 → g + 1 < 2 ^ 64 → (st : At) → st.first ≡ g → st.second ≡ g + 1 → Allows Ruled slots id me 2 (λ n. either (eqb n g) (g + 1) n) (dialled st me)
dials slots id me said g caller fits_in st first second s r deep at fits = dite (ℕ_discrete (slice_index s.words 2) g) hit miss
  where
    v : View
    v = me.0

    mine : Fits r.now v
    mine = r.each id v at

    one : length v.number ≡ 1
    one = caller

    found : slice_index s.words 2 ≡ r.now.dial
    found = ap (λ ws. slice_index ws 2) r.words

    Goal : Type 0
    Goal = (w : View) × (a : Act (Option Home)) × Valid s.homes me.1 a × Ruled (stepped s 2 (either (eqb (slice_index s.words 2) g) (g + 1) (slice_index s.words 2)) id me.1 w a) × dialled st me (slice_index s.words 2) (w, carried_after me.1 a)

    turns : (dial : ℕ) (u : View) (x : Stage) → InTurn r.now u x → InTurn (record r.now { dial = dial }) u x
    turns dial u Idle h = h
    turns dial u (Waiting t) h = h
    turns dial u (Served t) h = h
    turns dial u (Holding t) h = h
    turns dial u (Split t) h = h

    turns_of : (dial : ℕ) (w u : View) (x : Stage) → u.seen ≡ w.seen → u.failure ≡ w.failure → u.made ≡ w.made → w.number ≡ u.number → InTurn r.now u x → InTurn (record r.now { dial = dial }) w x
    turns_of dial w u Idle a b c d h = h
    turns_of dial w u (Waiting t) a b c d h = h
    turns_of dial w u (Served t) a b c d h = (h.0, sym a ∙ h.1, sym b ∙ h.2, sym c ∙ h.3, subst (λ (x : ℕ × List ℕ). Each (λ (n : ℕ). n < x.0) x.1) (λ i. (c i, sym d i)) h.4)
    turns_of dial w u (Holding t) a b c d h = (h.0, sym a ∙ h.1, sym b ∙ h.2, sym c ∙ h.3, subst (λ (x : ℕ × List ℕ). Each (λ (n : ℕ). n < x.0) x.1) (λ i. (c i, sym d i)) h.4)
    turns_of dial w u (Split t) a b c d h = (h.0, sym a ∙ h.1, sym b ∙ h.2, sym c ∙ h.3, subst (λ (x : ℕ × List ℕ). Each (λ (n : ℕ). n < x.0) x.1) (λ i. (c i, sym d i)) h.4)

    hit : slice_index s.words 2 ≡ g → Goal
    hit e =
        let now : r.now.dial ≡ g = sym found ∙ e in
        let n : Now = record r.now { dial = g + 1 } in
        let w : View = record v { dial = st.second; claims = v.claims ++ st.second ∷ [] } in
        let later : Later r.now n = record { log = prefix_all r.now.log; config = (refl, refl, refl); mark = λ _. refl; made = omega arith; dial = omega arith } in
        let new : either (eqb (slice_index s.words 2) g) (g + 1) (slice_index s.words 2) ≡ g + 1 = ap (λ b. either b (g + 1) (slice_index s.words 2)) (eq-eqb (slice_index s.words 2) g e) in (
          w,
          keeps,
          tt,
          moves_to s r id v w at r.ticket n _ s.homes
              (record {
                drawn = omega arith;
                tickets = λ n. omega arith;
                callers_stay = refl;
                numbers_stay = λ n. refl;
                count_stays = refl;
                makers = λ m to. inl (to, omega arith);
                positions = λ p. refl;
                claims = λ k. let a = times_last (suc k) v.claims st.second in let b : same (suc k) st.second ≡ same k g = ap (same (suc k)) second ∙ omega arith in omega (arith, below_up k g);
                no_claim = let a = times_last 0 v.claims st.second in let b : same 0 st.second ≡ 0 = ap (same 0) second ∙ omega arith in omega arith;
              })
              (ap (λ x. set s.words 2 x) new ∙ ap (λ ws. set ws 2 (g + 1)) r.words)
              r.spent
              (λ a. subst (IsPlaced n s.homes) (omega arith) r.place)
              (record { seen = mine.seen; turn = turns_of (g + 1) w v v.stage refl refl refl refl mine.turn; mine = mine.mine; config = mine.config; failure = mine.failure; made = mine.made; dial = omega arith; caller = mine.caller; single = mine.single; ended = ended_later r.now n later v.ended mine.ended; nothing = λ e. absurd (let none : length v.number ≡ 0 = e in omega (arith, none, one)); fronts = mine.fronts })
              later
              (λ j u _ e. turns (g + 1) u u.stage (r.each j u e).turn),
          ((λ _. refl), (λ other. absurd (other (e ∙ sym first))), (let a = mine.dial in let b = found in omega arith)),
        )

    miss : slice_index s.words 2 ≢ g → Goal
    miss other =
        let w : View = record v { dial = slice_index s.words 2 } in
        let old : either (eqb (slice_index s.words 2) g) (g + 1) (slice_index s.words 2) ≡ slice_index s.words 2 = ap (λ b. either b (g + 1) (slice_index s.words 2)) (ne_eqb (slice_index s.words 2) g other) in (
          w,
          keeps,
          tt,
          moves_to s r id v w at r.ticket r.now _ s.homes
              (record {
                drawn = omega arith;
                tickets = λ n. omega arith;
                callers_stay = refl;
                numbers_stay = λ n. refl;
                count_stays = refl;
                makers = λ m to. inl (to, omega arith);
                positions = λ p. refl;
                claims = λ k. refl;
                no_claim = refl;
              })
              (ap (λ x. set s.words 2 x) old ∙ ap (λ ws. set ws 2 (slice_index ws 2)) r.words)
              r.spent
              (λ a. subst (IsPlaced r.now s.homes) (omega arith) r.place)
              (record { seen = mine.seen; turn = turns_of r.now.dial w v v.stage refl refl refl refl mine.turn; mine = mine.mine; config = mine.config; failure = mine.failure; made = mine.made; dial = (let f = found in omega arith); caller = mine.caller; single = mine.single; ended = mine.ended; nothing = mine.nothing; fronts = mine.fronts })
              (later_same r.now)
              (λ j u _ e. (r.each j u e).turn),
          ((λ e. absurd (other (e ∙ first))), (λ _. refl), (let a = mine.dial in let b = found in omega arith)),
        )

-- exchange in, at a seat that has the session out
gives_by : (slots id : ℕ) (me : Sat) (st : At) (t : ℕ) (h : Home) (x : Stage) → me.0.stage ≡ x → ((n : Now) → InTurn n me.0 x → KnowsAll n me.0 t) → ((n : ℕ) → has n x ≡ same n t) → draws x ≡ 1 → out x ≡ 1 → more x ≤ 1 → ticket_of x ≡ t
    → me.1 ≡ (0, Some h) ∷ [] → MayGive me.0 h → (mine' : List ℕ) → (given me.0 h).mine ≡ mine'
    → IsPrefix me.0.seen h.session.events → Ascends 0 mine' (length h.session.events)
    → ((p : ℕ) → times p mine' + below p (length me.0.seen) ≡ times p me.0.mine + below p (length h.session.events))
    → Allows Ruled slots id me 0 (λ n. n) (gave st me)
gives_by slots id me st t h x is knows has_t draws_one out_one more_most ticket_t held may mine' mine_is longer ascends adds s r deep at fits =
    let all = served_one s r id v t x at is (knows r.now) has_t in
    let k = all.0 in
    let is_t : ticket_of v.stage ≡ t = ap ticket_of is ∙ ticket_t in
    let lengths : length v.seen ≡ length r.now.log = ap length k.1 in
    let is_out : out v.stage ≡ 1 = ap out is ∙ out_one in
    let is_away = away s r id v at is_out in
    let was_made : v.made ≡ r.now.made = k.3 in
    let may_made = may.made in
    let more_is : more v.stage ≡ more x = ap more is in
    let later : Later r.now n = record {
      log = subst (λ l. IsPrefix l events) k.1 longer;
      config = (refl, refl, refl);
      mark = λ m. (may.kept (λ e. m (sym k.2 ∙ e))).0 ∙ k.2;
      made = omega arith;
      dial = omega arith;
    } in
    let caller_one : 1 ≤ length v.number = let a = (r.each id v at).caller in let b : draws v.stage ≡ 1 = ap draws is ∙ draws_one in omega arith in
    let own = (r.each id v at).config caller_one in
    let session_is : h.session ≡ history r.now.config r.now.word events h.session.failure
    = λ i. history ((may.config.0 ∙ own.0) i) ((may.config.1 ∙ own.1) i) events h.session.failure in
    subst (λ (y : View × List (ℕ × Option Home)). (w : View) × (a : Act (Option Home)) × Valid s.homes me.1 a × Ruled (stepped s 0 (slice_index s.words 0) id me.1 w a) × ((w, carried_after me.1 a) ≡ y)) (λ i. (given v (in_hand (sym held i)), [])) (
      given v h,
      gives,
      tt,
      moves_to s r id v (given v h) at r.ticket n _ _
          (record {
            drawn = let b : draws v.stage ≡ 1 = ap draws is ∙ draws_one in omega arith;
            tickets = λ n. let b : has n v.stage ≡ same n t = ap (has n) is ∙ has_t n in let d : same n (ticket_of v.stage) ≡ same n t = ap (same n) is_t in omega arith;
            callers_stay = refl;
            numbers_stay = λ n. refl;
            count_stays = omega arith;
            makers = λ m to. makers_now r caller_one was_made k.4 (let a = more_is in let b = more_most in omega arith) m to;
            positions = λ p. let c = adds p in let d : times p (given v h).mine ≡ times p mine' = ap (times p) mine_is in let e : below p (length v.seen) ≡ below p (length r.now.log) = ap (below p) lengths in omega arith;
            claims = λ g. refl;
            no_claim = refl;
          })
          (ap (λ ws. set ws 0 (slice_index ws 0)) r.words)
          (subst (λ (x : Config × ℕ). MaySpend x.0 x.1 events h.session.failure) (λ i. (own.0 i, own.1 i)) may.spent)
          (λ a. inl (h, (ap (put_back s.homes) held ∙ ap (λ l. set l 0 (some (Some h))) is_away.0), session_is, refl, may.submissions, (let c = is_away.1 in omega arith)))
          (record {
            seen = prefix_all events;
            turn = (is_t ∙ k.0, refl, refl, refl, each_up v.number v.made h.made (omega arith) k.4);
            mine = subst (λ l. Ascends 0 l (length events)) (sym mine_is) ascends;
            config = (r.each id v at).config;
            failure = λ _. refl;
            made = omega arith;
            dial = (r.each id v at).dial;
            caller = caller_one;
            single = single_if v (Served (ticket_of v.stage)) (r.each id v at).single (ap draws is ∙ draws_one);
            ended = ended_later r.now n later v.ended (r.each id v at).ended;
            nothing = λ e. absurd (omega arith);
            fronts = fronts_later r.now n later v.fronts (r.each id v at).fronts;
          })
          later
          (alone s r id v at all.1 n),
      ap (λ l. (given v h, rest l)) held,
    )
  where
    v : View
    v = me.0

    events : List Event
    events = h.session.events

    n : Now
    n = record { serving = r.now.serving; config = r.now.config; word = r.now.word; most = r.now.most; log = events; mark = h.session.failure; made = h.made; dial = r.now.dial }

    -- the caller that was made now was made by this seat
    one_more : (ns : List ℕ) (b m : ℕ) → 1 ≤ length ns → Each (λ (k : ℕ). k < b) ns → b ≤ m → total (λ (k : ℕ). between k m b) ns + 1 ≤ total (λ (k : ℕ). between k m (m + 1)) ns
    one_more [] b m any each le = absurd (omega arith)
    one_more (k ∷ ks) b m any each le = let e = each.0 in let rest = total_le (λ (k : ℕ). between k m b) (λ (k : ℕ). between k m (m + 1)) ks (λ j k e. omega arith) in omega arith

    ended_up : (m a b : ℕ) → total (λ (e : Ended). between e.number m e.made) v.ended ≤ total (λ (e : Ended). between e.number m e.made) v.ended
    ended_up m a b = omega arith

    makers_now : (r : Ruled s) → 1 ≤ length v.number → v.made ≡ r.now.made → Each (λ (n : ℕ). n < v.made) v.number → more v.stage ≤ 1 → (m : ℕ) → m < h.made → ((m < r.now.made) × (makes m v ≤ makes m (given v h))) ⊎ (makes m v + 1 ≤ makes m (given v h))
    makers_now r caller made own most m to = go (dec_le (suc m) r.now.made)
      where
        may_made : h.made ≡ v.made + more v.stage
        may_made = may.made

        go : Dec (suc m ≤ r.now.made) → ((m < r.now.made) × (makes m v ≤ makes m (given v h))) ⊎ (makes m v + 1 ≤ makes m (given v h))
        go (yes le) = inl (le, makes_up m v h.made (omega arith))
        go (no gt) =
            let top : h.made ≡ m + 1 = omega arith in
            let a = one_more v.number v.made m caller own (omega arith) in
            let b : total (λ (k : ℕ). between k m (m + 1)) v.number ≡ total (λ (k : ℕ). between k m h.made) v.number = ap (λ (b : ℕ). total (λ (k : ℕ). between k m b) v.number) (sym top) in
            inr (omega arith)

-- exchange in
gives_at : (slots id : ℕ) (me : Sat) (st : At) (t : ℕ) (h : Home) (x : Stage) → me.0.stage ≡ x → ((n : Now) → InTurn n me.0 x → KnowsAll n me.0 t) → ((n : ℕ) → has n x ≡ same n t) → draws x ≡ 1 → out x ≡ 1 → more x ≤ 1 → ticket_of x ≡ t
    → me.1 ≡ (0, Some h) ∷ [] → MayGive me.0 h → Ascends 0 me.0.mine (length me.0.seen) → Allows Ruled slots id me 0 (λ n. n) (gave st me)
gives_at slots id me st t h x is knows has_t draws_one out_one more_most ticket_t held may ascends = ⊎_elim as_many one_more may.grows
  where
    v : View
    v = me.0

    mine_if : Bool → List ℕ
    mine_if b = if b then v.mine else (v.mine ++ length v.seen ∷ [])

    as_many : h.session.events ≡ v.seen → Allows Ruled slots id me 0 (λ n. n) (gave st me)
    as_many e =
        let same_length : length v.seen ≡ length h.session.events = ap length (sym e) in
        gives_by slots id me st t h x is knows has_t draws_one out_one more_most ticket_t held may v.mine (ap mine_if (eq-eqb (length v.seen) (length h.session.events) same_length)) (subst (IsPrefix v.seen) (sym e) (prefix_all v.seen)) (subst (Ascends 0 v.mine) same_length ascends) (λ p. let b : below p (length v.seen) ≡ below p (length h.session.events) = ap (below p) same_length in omega arith)

    one_more : (x : Event) × (h.session.events ≡ v.seen ++ x ∷ []) → Allows Ruled slots id me 0 (λ n. n) (gave st me)
    one_more m =
        let more_length : length h.session.events ≡ length v.seen + 1 = ap length m.1 ∙ length-append v.seen (m.0 ∷ []) in
        gives_by slots id me st t h x is knows has_t draws_one out_one more_most ticket_t held may (v.mine ++ length v.seen ∷ []) (ap mine_if (ne_eqb (length v.seen) (length h.session.events) (λ e. omega arith))) (subst (IsPrefix v.seen) (sym m.1) (prefix_more v.seen v.seen (m.0 ∷ []) (prefix_all v.seen)))
        (subst (Ascends 0 (v.mine ++ length v.seen ∷ [])) (omega arith) (ascends_last 0 v.mine (length v.seen) ascends))
        (λ p. let a = times_last p v.mine (length v.seen) in let b : below p (length h.session.events) ≡ below p (length v.seen + 1) = ap (below p) more_length in omega (arith, below_up p (length v.seen)))

pub gives_holding : (slots id : ℕ) (me : Sat) (st : At) (t : ℕ) (h : Home) → me.0.stage ≡ Holding t → me.1 ≡ (0, Some h) ∷ [] → MayGive me.0 h → Allows Ruled slots id me 0 (λ n. n) (gave st me)
gives_holding slots id me st t h is held may s r deep at fits = gives_at slots id me st t h (Holding t) is (λ n k. k) (λ n. refl) refl refl zero-le refl held may (r.each id me.0 at).mine s r deep at fits

pub gives_split : (slots id : ℕ) (me : Sat) (st : At) (t : ℕ) (h : Home) → me.0.stage ≡ Split t → me.1 ≡ (0, Some h) ∷ [] → MayGive me.0 h → Allows Ruled slots id me 0 (λ n. n) (gave st me)
gives_split slots id me st t h is held may s r deep at fits = gives_at slots id me st t h (Split t) is (λ n k. k) (λ n. refl) refl refl (omega arith) refl held may (r.each id me.0 at).mine s r deep at fits
