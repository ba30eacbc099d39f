-- What callers have submitted, said of the lines.
use Rattle.std.proofs.Common.{◌≡◌, ℕ, ◌+◌, ◌<◌, ◌≤◌, List, [], ◌∷◌, ◌++◌, length, refl, sym, ap, ◌∙◌, subst, arith, zero-add}
use mathlib.Core.List.{IsPrefix}
use Rattle.driver_model.specs.Config.{kind_of}
use Rattle.driver_model.specs.declared.action.Action.{Action}
use Rattle.driver_model.specs.declared.config.Config.{Config}
use Rattle.driver_model.specs.declared.event.Event.{Event}
use Rattle.atomic_table.specs.Seated.{TableId}
use Rattle.session_callers.specs.Calls.{Known}
use Rattle.session_callers.specs.Rule.{Each, MaySpend, total, times, same, below}
use Rattle.caller_threads.specs.declared.job.Turn.{Turn}
use Rattle.caller_threads.specs.Each.{EachAt}
use Rattle.caller_threads.specs.Lines.{share, share_from}
use Rattle.caller_threads.specs.Submits.{Line, IsAllowed, AreAllowed, IsTurnOf, AreTurnsOf, places_of, numbers_of, HasSubmitted, HasTried, HaveRun, HaveStopped, HaveSubmitted, IsTold}
use Rattle.session_callers.specs.Rule.{Ascends}
use Rattle.session_callers.proofs.Totals.{prefix_length}
use Rattle.caller_threads.proofs.Places.{each_length, each_with}
use Rattle.caller_threads.proofs.Submitting.{ascends_within, ascends_anyhow}
use Rattle.session_callers.specs.Closes.{AreEnough, AreUndialled, IsShared, IsUndialled}
use Rattle.shared_session.specs.History.{History}
use Rattle.shared_session.specs.declared.errors.StepError.{StepError}
use Rattle.single_session.specs.Replay.{opening_actions}
use Rattle.live_lines.specs.Flights.{IsBare, AreSubmitted, callers_of}
use Rattle.live_lines.specs.declared.planning.Plan.{Plan}
use Rattle.live_lines.proofs.Orders.{IsWell, told_well}
use Rattle.live_lines.proofs.Dealt.{pair_at, whole, total_by_place, total_shares}

-- how often a place is that of a turn
times_places : (p : ℕ) (ts : List Turn) → times p (places_of ts) ≡ total (λ (t : Turn). same p t.place) ts
times_places p [] = refl
times_places p (t ∷ ts) = let r = times_places p ts in omega arith

-- what holds of the second ones
second_ones : {A B : Type 0} (P : ℕ → A → B → Type 0) (Q : B → Type 0) → ((c : ℕ) (x : A) (y : B) → P c x y → Q y) → (n : ℕ) (xs : List A) (ys : List B) → EachAt P n xs ys → Each Q ys
second_ones P Q f n [] [] h = tt
second_ones P Q f n [] (y ∷ ys) h = absurd h
second_ones P Q f n (x ∷ xs) [] h = absurd h
second_ones P Q f n (x ∷ xs) (y ∷ ys) h = (f n x y h.0, second_ones P Q f (n + 1) xs ys h.1)

-- callers of a table for no more than they are
most_below : (m n : ℕ) → m ≤ n → (cs : List Known) → Each (λ (c : Known). c.view.most ≡ m) cs → Each (λ (c : Known). c.view.most ≤ n) cs
most_below m n le [] h = tt
most_below m n le (c ∷ cs) h = (subst (λ (x : ℕ). x ≤ n) (sym h.0) le, most_below m n le cs h.1)

enough_of : (m n : ℕ) (cs : List Known) → m ≤ n → 1 ≤ n → length cs ≡ n → Each (λ (c : Known). c.view.most ≡ m) cs → AreEnough cs
enough_of m n cs all some count of = subst (λ (k : ℕ). (1 ≤ k) × Each (λ (c : Known). c.view.most ≤ k) cs) (sym count) (some, most_below m n all cs of)

module _ (config : Config) (word : ℕ) (vs ws : List Known) (lines : List Line) (turns : List Turn) (bare : Each (IsBare config word) vs) (run : HaveRun vs ws lines turns) where
  -- a caller that had submitted nothing, and its share
  abbrev HasShare : ℕ → Known → Known → Type 0
  HasShare c v w = IsBare config word v × HasSubmitted v w (share (length vs) c lines) (share (length vs) c turns)

  have_shares : EachAt HasShare 0 vs ws
  have_shares = each_with (IsBare config word) (λ c v w. HasSubmitted v w (share (length vs) c lines) (share (length vs) c turns)) 0 vs ws bare run.each

  -- the callers share the session still
  pub shared_still : Each (λ (c : Known). (c.view.config ≡ config) × (c.view.word ≡ word)) ws
  shared_still = second_ones HasShare (λ (c : Known). (c.view.config ≡ config) × (c.view.word ≡ word)) (λ c v w h. (h.1.same.config.0 ∙ h.0.0, h.1.same.config.1 ∙ h.0.1)) 0 vs ws have_shares

  -- and are callers of its table still
  pub tables_still : (z : TableId) → Each (λ (c : Known). c.table ≡ z) vs → Each (λ (c : Known). c.table ≡ z) ws
  tables_still z of =
      let share = λ (c : ℕ) (v w : Known). HasSubmitted v w (share (length vs) c lines) (share (length vs) c turns) in
      second_ones (λ c v w. (v.table ≡ z) × share c v w) (λ (c : Known). c.table ≡ z) (λ c v w h. h.1.same.table ∙ h.0) 0 vs ws (each_with (λ (c : Known). c.table ≡ z) share 0 vs ws of run.each)

  -- and have neither read nor claimed a number of the dial
  pub undialled_still : AreUndialled ws
  undialled_still = second_ones HasShare IsUndialled (λ c v w h. (h.1.same.dial.0 ∙ h.0.3.0, h.1.same.dial.1 ∙ h.0.3.1)) 0 vs ws have_shares

  -- and are of a table for as many
  pub most_still : (m : ℕ) → Each (λ (c : Known). c.view.most ≡ m) vs → Each (λ (c : Known). c.view.most ≡ m) ws
  most_still m of =
      let share = λ (c : ℕ) (v w : Known). HasSubmitted v w (share (length vs) c lines) (share (length vs) c turns) in
      second_ones (λ c v w. (v.view.most ≡ m) × share c v w) (λ (c : Known). c.view.most ≡ m) (λ c v w h. h.1.same.most ∙ h.0) 0 vs ws (each_with (λ (c : Known). c.view.most ≡ m) share 0 vs ws of run.each)

  -- so they are all that may be
  pub enough_still : (m : ℕ) → m ≤ length vs → 1 ≤ length vs → Each (λ (c : Known). c.view.most ≡ m) vs → AreEnough ws
  enough_still m all some of = enough_of m (length vs) ws all some (each_length (λ c v w. HasSubmitted v w (share (length vs) c lines) (share (length vs) c turns)) 0 vs ws run.each) (most_still m of)

  -- each line has its turn in whatever begins with what the callers have seen
  pub lines_stand : (log : List Event) → 0 < length vs → Each (λ (c : Known). IsPrefix c.view.seen log) ws → AreTurnsOf config word log lines turns
  lines_stand log some seen = whole (IsTurnOf config word log) (length vs) 0 0 some lines turns run.count (λ c less. of_share c (pair_at HasShare (λ (c : Known). IsPrefix c.view.seen log) 0 vs ws have_shares seen c less))
    where
      of_share : (c : ℕ) → (v : Known) × (w : Known) × HasShare (0 + c) v w × IsPrefix w.view.seen log → EachAt (λ (i : ℕ). IsTurnOf config word log) 0 (share_from (length vs) c 0 lines) (share_from (length vs) c 0 turns)
      of_share c r =
          let h = subst (λ (m : ℕ). HasShare m r.0 r.1) (zero-add c) r.2 in
          subst (λ (x : ℕ). AreTurnsOf config x log (share (length vs) c lines) (share (length vs) c turns)) (h.1.same.config.1 ∙ h.0.1)
          (subst (λ (x : Config). AreTurnsOf x r.1.view.word log (share (length vs) c lines) (share (length vs) c turns)) (h.1.same.config.0 ∙ h.0.0) (h.1.told log r.3))

  -- the turns of one caller stand there in their order
  pub share_rises : (log : List Event) → Each (λ (c : Known). IsPrefix c.view.seen log) ws → (c : ℕ) → c < length vs → Ascends 0 (places_of (share (length vs) c turns)) (length log)
  share_rises log seen c less =
      let r = pair_at HasShare (λ (c : Known). IsPrefix c.view.seen log) 0 vs ws have_shares seen c less in
      let h = subst (λ (m : ℕ). HasShare m r.0 r.1) (zero-add c) r.2 in
      let places = places_of (share (length vs) c turns) in
      ascends_within 0 (length r.1.view.seen) (length log) places (prefix_length r.1.view.seen log r.3) (ascends_anyhow (length r.0.view.seen) (length r.1.view.seen) places h.1.rises)

  -- a place that is one caller's own is that of one line
  pub lines_once : (p top : ℕ) → 0 < length vs → total (λ (c : Known). times p c.view.mine) ws ≡ below p top → times p (places_of turns) ≡ below p top
  lines_once p top some counted =
      let k = length vs in
      let f = λ (t : Turn). same p t.place in
      let own : (c : ℕ) (v w : Known) → HasShare c v w → times p w.view.mine ≡ total f (share_from k c 0 turns) = λ c v w h.
      ap (times p) (h.1.mine ∙ ap (λ (xs : List ℕ). xs ++ places_of (share k c turns)) h.0.2) ∙ times_places p (share k c turns) in
      times_places p turns ∙ sym (total_shares f k 0 some turns) ∙ sym (total_by_place HasShare (λ (c : Known). times p c.view.mine) (λ (c : ℕ). total f (share_from k c 0 turns)) 0 vs ws own have_shares) ∙ counted

-- callers that were stopped are all that may be, where they were
pub enough_tried : (vs ws : List Known) (lines : List Line) (error : StepError) → HaveStopped error vs ws lines → (m : ℕ) → m ≤ length vs → 1 ≤ length vs → Each (λ (c : Known). c.view.most ≡ m) vs → AreEnough ws
enough_tried vs ws lines error stopped m all some of =
    let tried = λ (c : ℕ) (v w : Known). HasTried v w (share (length vs) c lines) in
    enough_of m (length vs) ws all some (each_length tried 0 vs ws stopped.each)
    (second_ones (λ c v w. (v.view.most ≡ m) × tried c v w) (λ (c : Known). c.view.most ≡ m) (λ c v w h. h.1.same.most ∙ h.0) 0 vs ws (each_with (λ (c : Known). c.view.most ≡ m) tried 0 vs ws of stopped.each))

-- callers that were stopped are callers of its table still
pub tables_tried : (config : Config) (word : ℕ) (vs ws : List Known) (lines : List Line) (error : StepError) → Each (IsBare config word) vs → HaveStopped error vs ws lines → (z : TableId) → Each (λ (c : Known). c.table ≡ z) vs → Each (λ (c : Known). c.table ≡ z) ws
tables_tried config word vs ws lines error bare stopped z of =
    let tried = λ (c : ℕ) (v w : Known). HasTried v w (share (length vs) c lines) in
    second_ones (λ c v w. (v.table ≡ z) × tried c v w) (λ (c : Known). c.table ≡ z) (λ c v w h. h.1.same.table ∙ h.0) 0 vs ws (each_with (λ (c : Known). c.table ≡ z) tried 0 vs ws of stopped.each)

-- what the session of a plan has forms for, each of its callers may submit
pub allowed_to : (config : Config) (word : ℕ) (lines : List Line) (vs : List Known) → Each (IsAllowed (kind_of config)) lines → Each (IsBare config word) vs → Each (AreAllowed lines) vs
allowed_to config word lines [] allowed bare = tt
allowed_to config word lines (v ∷ vs) allowed bare = (subst (λ (c : Config). Each (IsAllowed (kind_of c)) lines) (sym bare.0.0) allowed, allowed_to config word lines vs allowed bare.1)

-- what was asked is the trace of the history, and all is well with its events
pub asked_well : (plan : Plan) (word : ℕ) (vs ws : List Known) (lines : List Line) (given numbers : List ℕ) (s : History) (shown actions : List Action) → Each (IsAllowed (kind_of plan.config)) lines → Each (IsBare plan.config word) vs
    → length vs ≡ callers_of plan → HaveSubmitted vs ws lines given numbers shown actions → shown ≡ opening_actions plan.config word → Each (λ (c : Known). IsPrefix c.view.seen s.events) ws
    → ((p : ℕ) → total (λ (c : Known). times p c.view.mine) ws ≡ below p (length s.events)) → IsWell plan.config word s.events actions
asked_well plan word vs ws lines given numbers s shown actions allowed bare count h opened seen once =
    let some : 0 < length vs = omega (arith, count) in
    told_well plan.config word s.events lines h.turns actions allowed (lines_stand plan.config word vs ws lines h.turns bare h.run s.events some seen)
    (λ p. lines_once plan.config word vs ws lines h.turns bare h.run p (length s.events) some (once p)) (subst (λ (xs : List Action). IsTold h.turns xs actions) opened h.told)

-- all of it
pub are_submitted : (plan : Plan) (word : ℕ) (vs ws : List Known) (lines : List Line) (given numbers : List ℕ) (s : History) (shown actions : List Action) → Each (IsAllowed (kind_of plan.config)) lines → Each (IsBare plan.config word) vs
    → length vs ≡ callers_of plan → HaveSubmitted vs ws lines given numbers shown actions → given ≡ [] → shown ≡ opening_actions plan.config word → Each (λ (c : Known). IsPrefix c.view.seen s.events) ws
    → ((p : ℕ) → total (λ (c : Known). times p c.view.mine) ws ≡ below p (length s.events)) → IsShared ws s.config s.word → MaySpend s.config s.word s.events s.failure → AreSubmitted plan word lines numbers s
are_submitted plan word vs ws lines given numbers s shown actions allowed bare count h none opened seen once shared spent =
    let some : 0 < length vs = omega (arith, count) in
    let is = shared plan.config word (shared_still plan.config word vs ws lines h.turns bare h.run) in
    let well = asked_well plan word vs ws lines given numbers s shown actions allowed bare count h opened seen once in
    record {
      config = is;
      turns = h.turns;
      each = lines_stand plan.config word vs ws lines h.turns bare h.run s.events some seen;
      given = h.gained ∙ ap (λ (xs : List ℕ). xs ++ numbers_of h.turns) none;
      once = λ p. lines_once plan.config word vs ws lines h.turns bare h.run p (length s.events) some (once p);
      order = λ c less. subst (λ (k : ℕ). Ascends 0 (places_of (share k c h.turns)) (length s.events)) count (share_rises plan.config word vs ws lines h.turns bare h.run s.events seen c (subst (λ (k : ℕ). c < k) (sym count) less));
      only = well.only;
      good = well.good;
      unspent = well.unspent;
      spent = rw (← is.0, ← is.1) spent;
    }
