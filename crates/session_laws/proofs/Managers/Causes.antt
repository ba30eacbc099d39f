-- Whether there is a cause for the next generation: what the acts of a turn say of it, and what their book does.
use Rattle.std.proofs.Common.{◌≡◌, ℕ, ◌+◌, ◌-◌, ◌==◌, Bool, true, false, ◌&&◌, ◌||◌, not, List, [], ◌∷◌, ◌++◌, length, Option, Some, None, is_some, if◌then◌else◌, refl, sym, ap, ◌∙◌, subst, append_assoc}
use Rattle.std.specs.List.{list_any}
use Rattle.std.proofs.lemmas.List.{append-nil}
use Rattle.std.proofs.lemmas.List.Folds.{list_any-append}
use Rattle.connection_info.specs.Protocol.{is_resp3}
use Rattle.redis_error.specs.declared.redis_error.RedisError.{RedisError}
use Rattle.redis_error.specs.Errors.{is_io}
use Rattle.driver_model.specs.declared.outcome.Outcome.{Outcome}
use Rattle.driver_model.specs.declared.outcome.Outcome.TheVariants as outcome
use Rattle.driver_model.specs.News.{News}
use Rattle.mux_conn.specs.declared.act.LinkAct.{LinkAct}
use Rattle.mux_conn.specs.declared.act.LinkAct.TheVariants as act
use Rattle.single_session.specs.Generations as machine
use Rattle.single_session.specs.Generations.{creation_fails, fails_creation, has_cause, is_cause_in, shows_cause}
use Rattle.single_session.specs.Turn.{shown, shown_each, source_of, timer_of}
use Rattle.legal_trace.specs.Ledger.{End, failure_in, is_fault, is_over}
use Rattle.legal_trace.specs.Book.{Book, entered, entered_each, faults_in, info_in}
use Rattle.legal_trace.specs.Legal.{AllStand, current_link, is_cause, is_caused, is_lost_in}
use Rattle.legal_trace.proofs.Causes.{needs_link}
use Rattle.conn_laws.proofs.Links.Lost.{IsNewEnd, IsOldEnd}
use Rattle.session_laws.proofs.Links.Lost.{heard_kept, new_kept, old_kept}
use Rattle.session_laws.proofs.Ties.Tied.{NoReconnectCause}

-- the errors of a turn
--
-- those that an act shows
abbrev pub fault_of : LinkAct → List RedisError
fault_of (act.Outcome n o) = faults_in o
fault_of (act.Created e) = []
fault_of (act.Round n) = []
fault_of (act.Took n count) = []
fault_of (act.Timer n ms) = []
fault_of (act.RenewalTimer k ms) = []
fault_of (act.RepeatTimer ms) = []
fault_of act.NeedCreds = []
fault_of act.NeedRenewals = []
fault_of (act.SetUp message need len) = []
fault_of (act.Renewed message need len) = []
fault_of (act.Repeated message need len) = []
fault_of (act.Push info) = []
fault_of (act.Message m) = []
fault_of (act.Monitor v) = []
fault_of (act.Watch message need len) = []
fault_of act.Close = []
fault_of (act.Write bytes) = []
fault_of (act.Wait n kind) = []
fault_of (act.Start message n need len) = []

-- and those that acts show
abbrev pub faults_of : List LinkAct → List RedisError
faults_of [] = []
faults_of (a ∷ acts) = fault_of a ++ faults_of acts

-- what an act adds to a book
pub record IsAdded (b c : Book) (a : LinkAct) : Type 0 where
  pub errors : c.errors ≡ b.errors ++ fault_of a
  pub failed : c.failed ≡ (b.failed || fails_creation a)
  pub turns : c.turns ≡ b.turns
  pub shut : c.shut ≡ b.shut
  pub running : c.running ≡ b.running
  pub rest : c.rest ≡ b.rest

-- neither an error nor a failed creation
quiet : (errors : List RedisError) (failed : Bool) → (errors ≡ errors ++ []) × (failed ≡ (failed || false))
quiet errors failed = (sym (append-nil errors), or_none failed)
  where
    or_none : (b : Bool) → b ≡ (b || false)
    or_none true = refl
    or_none false = refl

-- each act adds so
act_adds : (b : Book) (l t c : ℕ) (a : LinkAct) → IsAdded b (entered b (shown l t c a)) a
act_adds b l t c (act.Outcome n o) = record { errors = refl; failed = (quiet b.errors b.failed).1; turns = refl; shut = refl; running = refl; rest = refl }
act_adds b l t c (act.Created e) = record { errors = (quiet b.errors b.failed).0; failed = refl; turns = refl; shut = refl; running = refl; rest = refl }
act_adds b l t c (act.Round n) = record { errors = (quiet b.errors b.failed).0; failed = (quiet b.errors b.failed).1; turns = refl; shut = refl; running = refl; rest = refl }
act_adds b l t c (act.Took n count) = record { errors = (quiet b.errors b.failed).0; failed = (quiet b.errors b.failed).1; turns = refl; shut = refl; running = refl; rest = refl }
act_adds b l t c (act.Timer n ms) = record { errors = (quiet b.errors b.failed).0; failed = (quiet b.errors b.failed).1; turns = refl; shut = refl; running = refl; rest = refl }
act_adds b l t c (act.RenewalTimer k ms) = record { errors = (quiet b.errors b.failed).0; failed = (quiet b.errors b.failed).1; turns = refl; shut = refl; running = refl; rest = refl }
act_adds b l t c (act.RepeatTimer ms) = record { errors = (quiet b.errors b.failed).0; failed = (quiet b.errors b.failed).1; turns = refl; shut = refl; running = refl; rest = refl }
act_adds b l t c act.NeedCreds = record { errors = (quiet b.errors b.failed).0; failed = (quiet b.errors b.failed).1; turns = refl; shut = refl; running = refl; rest = refl }
act_adds b l t c act.NeedRenewals = record { errors = (quiet b.errors b.failed).0; failed = (quiet b.errors b.failed).1; turns = refl; shut = refl; running = refl; rest = refl }
act_adds b l t c (act.SetUp message need len) = record { errors = (quiet b.errors b.failed).0; failed = (quiet b.errors b.failed).1; turns = refl; shut = refl; running = refl; rest = refl }
act_adds b l t c (act.Renewed message need len) = record { errors = (quiet b.errors b.failed).0; failed = (quiet b.errors b.failed).1; turns = refl; shut = refl; running = refl; rest = refl }
act_adds b l t c (act.Repeated message need len) = record { errors = (quiet b.errors b.failed).0; failed = (quiet b.errors b.failed).1; turns = refl; shut = refl; running = refl; rest = refl }
act_adds b l t c (act.Push info) = record { errors = (quiet b.errors b.failed).0; failed = (quiet b.errors b.failed).1; turns = refl; shut = refl; running = refl; rest = refl }
act_adds b l t c (act.Message m) = record { errors = (quiet b.errors b.failed).0; failed = (quiet b.errors b.failed).1; turns = refl; shut = refl; running = refl; rest = refl }
act_adds b l t c (act.Monitor v) = record { errors = (quiet b.errors b.failed).0; failed = (quiet b.errors b.failed).1; turns = refl; shut = refl; running = refl; rest = refl }
act_adds b l t c (act.Watch message need len) = record { errors = (quiet b.errors b.failed).0; failed = (quiet b.errors b.failed).1; turns = refl; shut = refl; running = refl; rest = refl }
act_adds b l t c act.Close = record { errors = (quiet b.errors b.failed).0; failed = (quiet b.errors b.failed).1; turns = refl; shut = refl; running = refl; rest = refl }
act_adds b l t c (act.Write bytes) = record { errors = (quiet b.errors b.failed).0; failed = (quiet b.errors b.failed).1; turns = refl; shut = refl; running = refl; rest = refl }
act_adds b l t c (act.Wait n kind) = record { errors = (quiet b.errors b.failed).0; failed = (quiet b.errors b.failed).1; turns = refl; shut = refl; running = refl; rest = refl }
act_adds b l t c (act.Start message n need len) = record { errors = (quiet b.errors b.failed).0; failed = (quiet b.errors b.failed).1; turns = refl; shut = refl; running = refl; rest = refl }

-- one of three
or_assoc : (x y z : Bool) → ((x || y) || z) ≡ (x || (y || z))
or_assoc true y z = refl
or_assoc false y z = refl

-- and so do all
pub record AreAdded (b c : Book) (acts : List LinkAct) : Type 0 where
  pub errors : c.errors ≡ b.errors ++ faults_of acts
  pub failed : c.failed ≡ (b.failed || creation_fails acts)
  pub turns : c.turns ≡ b.turns
  pub shut : c.shut ≡ b.shut
  pub running : c.running ≡ b.running
  pub rest : c.rest ≡ b.rest

pub acts_add : (b : Book) (l t c : ℕ) (acts : List LinkAct) → AreAdded b (entered_each b (shown_each l t c acts)) acts
acts_add b l t c [] = record { errors = (quiet b.errors b.failed).0; failed = (quiet b.errors b.failed).1; turns = refl; shut = refl; running = refl; rest = refl }
acts_add b l t c (a ∷ acts) =
    let d : Book = entered b (shown l t c a) in
    let one = act_adds b l t c a in
    let more = acts_add d l (t + length (timer_of l a)) (c + length (source_of l a)) acts in
    record {
      errors = more.errors ∙ ap (λ (es : List RedisError). es ++ faults_of acts) one.errors ∙ append_assoc b.errors (fault_of a) (faults_of acts);
      failed = more.failed ∙ ap (λ (f : Bool). f || creation_fails acts) one.failed ∙ or_assoc b.failed (fails_creation a) (creation_fails acts);
      turns = more.turns ∙ one.turns;
      shut = more.shut ∙ one.shut;
      running = more.running ∙ one.running;
      rest = more.rest ∙ one.rest;
    }

-- an outcome is a cause where one of its errors is
outcome_causes : (opened : Bool) (o : Outcome) → list_any (machine.is_cause opened) (faults_in o) ≡ is_cause_in opened o
outcome_causes opened (outcome.One value) = refl
outcome_causes opened (outcome.Many values) = refl
outcome_causes opened outcome.Done = refl
outcome_causes opened (outcome.Fault e) = or_none (machine.is_cause opened e)
  where
    or_none : (b : Bool) → (b || false) ≡ b
    or_none true = refl
    or_none false = refl

-- an act shows one where one of its errors is one
act_causes : (opened : Bool) (a : LinkAct) → list_any (machine.is_cause opened) (fault_of a) ≡ shows_cause opened a
act_causes opened (act.Outcome n o) = outcome_causes opened o
act_causes opened (act.Created e) = refl
act_causes opened (act.Round n) = refl
act_causes opened (act.Took n count) = refl
act_causes opened (act.Timer n ms) = refl
act_causes opened (act.RenewalTimer k ms) = refl
act_causes opened (act.RepeatTimer ms) = refl
act_causes opened act.NeedCreds = refl
act_causes opened act.NeedRenewals = refl
act_causes opened (act.SetUp message need len) = refl
act_causes opened (act.Renewed message need len) = refl
act_causes opened (act.Repeated message need len) = refl
act_causes opened (act.Push info) = refl
act_causes opened (act.Message m) = refl
act_causes opened (act.Monitor v) = refl
act_causes opened (act.Watch message need len) = refl
act_causes opened act.Close = refl
act_causes opened (act.Write bytes) = refl
act_causes opened (act.Wait n kind) = refl
act_causes opened (act.Start message n need len) = refl

-- so acts have a cause where one of their errors is one
pub acts_cause : (opened : Bool) (acts : List LinkAct) → list_any (machine.is_cause opened) (faults_of acts) ≡ has_cause opened acts
acts_cause opened [] = refl
acts_cause opened (a ∷ acts) =
    list_any-append (machine.is_cause opened) (fault_of a) (faults_of acts)
    ∙ (λ i. act_causes opened a i || acts_cause opened acts i)

-- how the link ends in a turn
--
-- a link that had not ended ends in this turn, if it does
pub acts_end : (b : Book) (l t c turn : ℕ) (acts : List LinkAct) → AllStand b (shown_each l t c acts) → b.turns - 1 ≡ turn → IsNewEnd turn (b.link l) → IsNewEnd turn ((entered_each b (shown_each l t c acts)).link l)
acts_end b l t c turn [] stands now h = h
acts_end b l t c turn (a ∷ acts) stands now h =
    acts_end (entered b (shown l t c a)) l (t + length (timer_of l a)) (c + length (source_of l a)) turn acts stands.1 (ap (λ k. k - 1) (act_adds b l t c a).turns ∙ now) (new_kept b l t c turn a now stands.0 h)

-- and one that had ended has ended so
pub acts_stay : (b : Book) (l t c : ℕ) (end : End) (acts : List LinkAct) → AllStand b (shown_each l t c acts) → IsOldEnd end (b.link l) → IsOldEnd end ((entered_each b (shown_each l t c acts)).link l)
acts_stay b l t c end [] stands h = h
acts_stay b l t c end (a ∷ acts) stands h = acts_stay (entered b (shown l t c a)) l (t + length (timer_of l a)) (c + length (source_of l a)) end acts stands.1 (old_kept b l t c end a stands.0 h)

-- and no link has heard anything else
pub acts_hear : (b : Book) (l m t c : ℕ) (n : News) (acts : List LinkAct) → AllStand b (shown_each l t c acts) → (b.link m).heard ≡ n → ((entered_each b (shown_each l t c acts)).link m).heard ≡ n
acts_hear b l m t c n [] stands h = h
acts_hear b l m t c n (a ∷ acts) stands h = acts_hear (entered b (shown l t c a)) l m (t + length (timer_of l a)) (c + length (source_of l a)) n acts stands.1 (heard_kept b l m t c n a stands.0 h)

-- the cause for the next generation
--
-- where these come to the same, also whether the link took requests, the book has a cause exactly where the session does
pub record IsJudged (b : Book) (over opened took ended resp3 : Bool) (acts : List LinkAct) : Type 0 where
  pub errors_are : b.errors ≡ faults_of acts
  pub ended_is : is_over (current_link b) ≡ ended
  pub speaks : is_resp3 (info_in b.config).protocol ≡ resp3
  pub calm : is_over (current_link b) ≡ false → NoReconnectCause b.errors
  pub failed_is : (end : End) → (current_link b).end ≡ Some end → is_some (failure_in (Some end)) ≡ not opened
  pub lost_is : (end : End) → (current_link b).end ≡ Some end → ((end.turn == (b.turns - 1)) && (is_fault end.why && end.served)) ≡ (not over && took)

-- of lists whose items pass one test where they pass the other
any_same : {X : Type 0} (p q : X → Bool) (xs : List X) → ((x : X) → p x ≡ q x) → list_any p xs ≡ list_any q xs
any_same p q [] same = refl
any_same p q (x ∷ xs) same = λ i. same x i || any_same p q xs same i

-- a test and none
none_of : (x : Bool) → (x && false) ≡ false
none_of true = refl
none_of false = refl

-- two tests, in either order
and_turned : (x y : Bool) → (x && y) ≡ (y && x)
and_turned true true = refl
and_turned true false = refl
and_turned false true = refl
and_turned false false = refl

-- an error is a cause for both where the link was set up for both
cause_same : (end : End) (opened : Bool) → is_some (failure_in (Some end)) ≡ not opened → (e : RedisError) → is_cause (Some end) e ≡ machine.is_cause opened e
cause_same end opened failed e = ap (λ (f : Bool). if f then is_io e else needs_link e) failed ∙ by_opened opened
  where
    by_opened : (x : Bool) → (if not x then is_io e else needs_link e) ≡ machine.is_cause x e
    by_opened true = refl
    by_opened false = refl

-- so there is one for both
pub caused_is : (b : Book) (over opened took ended resp3 : Bool) (acts : List LinkAct) → IsJudged b over opened took ended resp3 acts → is_caused b ≡ (ended && (((not over && took) && resp3) || has_cause opened acts))
caused_is b over opened took ended resp3 acts h = by_end (current_link b).end refl
  where
    goal : Bool → Type 0
    goal x = is_caused b ≡ (x && (((not over && took) && resp3) || has_cause opened acts))

    by_end : (x : Option End) → (current_link b).end ≡ x → goal ended
    by_end None is =
        let going : is_over (current_link b) ≡ false = ap is_some is in
        subst goal (sym going ∙ h.ended_is)
        ((λ i. (is_resp3 (info_in b.config).protocol && is_lost_in (b.turns - 1) (is i)) || list_any (is_cause (is i)) b.errors)
        ∙ ap (λ x. x || list_any needs_link b.errors) (none_of (is_resp3 (info_in b.config).protocol)) ∙ h.calm going)
    by_end (Some end) is =
        let over_is : is_over (current_link b) ≡ true = ap is_some is in
        let same : (e : RedisError) → is_cause (Some end) e ≡ machine.is_cause opened e = cause_same end opened (h.failed_is end is) in
        subst goal (sym over_is ∙ h.ended_is)
        ((λ i. (is_resp3 (info_in b.config).protocol && is_lost_in (b.turns - 1) (is i)) || list_any (is_cause (is i)) b.errors)
        ∙ (λ i. (h.speaks i && h.lost_is end is i) || any_same (is_cause (Some end)) (machine.is_cause opened) b.errors same i)
        ∙ (λ i. (resp3 && (not over && took)) || list_any (machine.is_cause opened) (h.errors_are i))
        ∙ (λ i. and_turned resp3 (not over && took) i || acts_cause opened acts i))
