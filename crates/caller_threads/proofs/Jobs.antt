-- What the steps of the call come to, over all jobs.
use Rattle.std.proofs.Common.{◌≡◌, ℕ, suc, ◌+◌, ◌%◌, ◌<◌, ◌≤◌, ◌==◌, Bool, true, false, List, [], ◌∷◌, ◌++◌, length, get_or, set, Option, Some, None, MatchOption, ◌⊎◌, All, refl, sym, ap, ◌∙◌, subst, inl, inr, arith, append_assoc, append-nil, length-append, mod-lt, ne_eqb, eq-eqb}
use Rattle.atomic_table.specs.Seated.{TableId}
use Rattle.shared_session.specs.declared.errors.StepError.{StepError}
use Rattle.shared_session.specs.declared.errors.StepError.TheVariants.{BadEvent, Spent, NoMemory}
use Rattle.session_callers.specs.Calls.{Known}
use Rattle.session_callers.specs.Rule.{Each}
use Rattle.session_callers.proofs.Totals.{prefix_all}
use Rattle.caller_threads.specs.declared.job.Job.{Job}
use Rattle.caller_threads.specs.declared.job.Turn.{Turn}
use Rattle.caller_threads.specs.Each.{EachAt, AnyAt}
use Rattle.caller_threads.specs.Lines.{one_if, share, count_from}
use Rattle.caller_threads.specs.Submits.{Line, IsAllowed, AreAllowed, HasSubmitted, HasTried, IsCause, HaveRun, HaveStopped, HasCause, IsTurnOf}
use Rattle.caller_threads.specs.Jobs.{callers_of, IsOfTable, IsNew, Fed, WasFed, IsReady, HasRun, Took, HasTurns, first_of, first_error_of}
use Rattle.caller_threads.proofs.Shares.{share_more, length_share, each_share, count_less}
use Rattle.caller_threads.proofs.Places.{each_length, each_map, any_map, each_then, each_same, each_set, each_with, all_from, each_first, each_second, each_after, each_before, any_after, any_never, some_at}
use Rattle.caller_threads.proofs.Submitting.{submitted_none, tried_so_far}
use Rattle.driver_model.specs.Config.{kind_of}

no_items : {A : Type 0} (xs : List A) → length xs ≡ 0 → xs ≡ []
no_items [] e = refl
no_items (x ∷ xs) e = absurd (omega arith)

-- Callers of jobs

pub length_callers : (js : List Job) → length (callers_of js) ≡ length js
length_callers [] = refl
length_callers (j ∷ js) = ap suc (length_callers js)

pub callers_append : (js ks : List Job) → callers_of (js ++ ks) ≡ callers_of js ++ callers_of ks
callers_append [] ks = refl
callers_append (j ∷ js) ks = ap (λ l. j.caller ∷ l) (callers_append js ks)

each_caller : (P : ℕ → Known → Known → Type 0) (n : ℕ) (js ks : List Job) → EachAt (λ c j k. P c j.caller k.caller) n js ks → EachAt P n (callers_of js) (callers_of ks)
each_caller P n [] [] h = tt
each_caller P n [] (k ∷ ks) h = absurd h
each_caller P n (j ∷ js) [] h = absurd h
each_caller P n (j ∷ js) (k ∷ ks) h = (h.0, each_caller P (n + 1) js ks h.1)

any_caller : (P : ℕ → Known → Known → Type 0) (n : ℕ) (js ks : List Job) → AnyAt (λ c j k. P c j.caller k.caller) n js ks → AnyAt P n (callers_of js) (callers_of ks)
any_caller P n [] ks h = absurd h
any_caller P n (j ∷ js) [] h = absurd h
any_caller P n (j ∷ js) (k ∷ ks) (inl h) = inl h
any_caller P n (j ∷ js) (k ∷ ks) (inr h) = inr (any_caller P (n + 1) js ks h)

-- Dealing

pub fed_none : (k : ℕ) (js : List Job) → EachAt (λ c. Fed (share k c [])) 0 js js
fed_none k js = each_same (λ c. Fed (share k c [])) 0 js (λ c j l. record { caller = refl; lines = sym (append-nil j.lines); turns = refl; error = refl })

fed_then : (a b : List Line) (x y z : Job) → Fed a x y → Fed b y z → Fed (a ++ b) x z
fed_then a b x y z h k = record {
  caller = k.caller ∙ h.caller;
  lines = k.lines ∙ ap (λ l. l ++ b) h.lines ∙ append_assoc x.lines a b;
  turns = k.turns ∙ h.turns;
  error = k.error ∙ h.error;
}

-- one line more was dealt
pub fed_more : (k i : ℕ) (done : List Line) (line : Line) (js ks ls : List Job) → i ≡ length done → EachAt (λ c. Fed (share k c done)) 0 js ks → EachAt (λ c. Fed (one_if (i % k == c) line)) 0 ks ls → EachAt (λ c. Fed (share k c (done ++ line ∷ []))) 0 js ls
fed_more k i done line js ks ls e =
    each_then (λ c. Fed (share k c done)) (λ c. Fed (one_if (i % k == c) line)) (λ c. Fed (share k c (done ++ line ∷ []))) (λ c x y z h g.
    subst (λ (l : List Line). Fed l x z)
    (ap (λ m. share k c done ++ one_if (m % k == c) line) e ∙ sym (share_more k c done line))
    (fed_then (share k c done) (one_if (i % k == c) line) x y z h g))
    0 js ks ls

-- the line was not taken
pub fed_no_more : (k : ℕ) (done : List Line) (js ks ls : List Job) → EachAt (λ c. Fed (share k c done)) 0 js ks → EachAt (λ c. Fed []) 0 ks ls → EachAt (λ c. WasFed) 0 js ls
fed_no_more k done js ks ls =
    each_then (λ c. Fed (share k c done)) (λ c. Fed []) (λ c. WasFed) (λ c x y z h g. record { caller = g.caller ∙ h.caller }) 0 js ks ls

other_place : (at c : ℕ) → (c ≡ 0 + at → ⊥) → (at == c) ≡ false
other_place at c f = ne_eqb at c (λ e. f (omega (arith, e)))

same_place : (at : ℕ) → (at == 0 + at) ≡ true
same_place at = eq-eqb at (0 + at) (omega arith)

-- the job at one place was fed
pub fed_at : (at : ℕ) (line : Line) (js : List Job) (k d : Job) → at < length js → Fed (line ∷ []) (get_or js at d) k → EachAt (λ c. Fed (one_if (at == c) line)) 0 js (set js at k)
fed_at at line js k d lt here =
    each_set (λ c. Fed (one_if (at == c) line)) 0 at js k d lt
    (subst (λ (b : Bool). Fed (one_if b line) (get_or js at d) k) (sym (same_place at)) here)
    (λ c x far. subst (λ (b : Bool). Fed (one_if b line) x x) (sym (other_place at c far)) (record { caller = refl; lines = sym (append-nil x.lines); turns = refl; error = refl }))

pub unfed_at : (at : ℕ) (js : List Job) (k d : Job) → at < length js → Fed [] (get_or js at d) k → EachAt (λ c. Fed []) 0 js (set js at k)
unfed_at at js k d lt here =
    each_set (λ c. Fed []) 0 at js k d lt here
    (λ c x far. record { caller = refl; lines = sym (append-nil x.lines); turns = refl; error = refl })

pub all_dealt : (k : ℕ) (lines done rest : List Line) (js ks : List Job) → lines ≡ done ++ rest → length lines ≤ length done → EachAt (λ c. Fed (share k c done)) 0 js ks → EachAt (λ c. Fed (share k c lines)) 0 js ks
all_dealt k lines done rest js ks whole le h =
    let a = ap length whole in
    let b = length-append done rest in
    let none : rest ≡ [] = no_items rest (omega arith) in
    subst (λ (l : List Line). EachAt (λ c. Fed (share k c l)) 0 js ks) (sym (whole ∙ ap (λ r. done ++ r) none ∙ append-nil done)) h

-- Gathering

pub took_at : (at : ℕ) (turn : Option Turn) (js : List Job) (k d : Job) → at < length js → k.caller ≡ (get_or js at d).caller → MatchOption turn (((get_or js at d).turns ≡ []) × (k.turns ≡ [])) (λ t. (get_or js at d).turns ≡ t ∷ k.turns) → EachAt (Took at turn) 0 js (set js at k)
took_at at None js k d lt caller here =
    each_set (Took at None) 0 at js k d lt
    (record { caller = caller; turns = (λ e. here.0, here.1 ∙ sym here.0) })
    (λ c x far. record { caller = refl; turns = (λ e. absurd (far (omega (arith, e))), refl) })
took_at at (Some t) js k d lt caller here =
    each_set (Took at (Some t)) 0 at js k d lt
    (record { caller = caller; turns = here ∙ ap (λ b. one_if b t ++ k.turns) (sym (same_place at)) })
    (λ c x far. record { caller = refl; turns = ap (λ b. one_if b t ++ x.turns) (sym (other_place at c far)) })

-- what was gathered of a job's turns, and what is left of them
pub record Left (count : ℕ) (done : List Turn) (c : ℕ) (j k : Job) : Type 0 where
  pub caller : k.caller ≡ j.caller
  pub turns : j.turns ≡ share count c done ++ k.turns

pub left_all : (count : ℕ) (js : List Job) → EachAt (Left count []) 0 js js
left_all count js = each_same (Left count []) 0 js (λ c j l. record { caller = refl; turns = refl })

pub left_more : (k i : ℕ) (done : List Turn) (t : Turn) (js ks ls : List Job) → length done ≡ i → EachAt (Left k done) 0 js ks → EachAt (Took (i % k) (Some t)) 0 ks ls → EachAt (Left k (done ++ t ∷ [])) 0 js ls
left_more k i done t js ks ls e =
    each_then (Left k done) (Took (i % k) (Some t)) (Left k (done ++ t ∷ [])) (λ c x y z h g.
    record {
      caller = g.caller ∙ h.caller;
      turns =
          h.turns ∙ ap (λ l. share k c done ++ l) g.turns
          ∙ sym (append_assoc (share k c done) (one_if (i % k == c) t) z.turns)
          ∙ ap (λ l. l ++ z.turns) (ap (λ m. share k c done ++ one_if (m % k == c) t) (sym e) ∙ sym (share_more k c done t));
    })
    0 js ks ls

abbrev Empties : ℕ → List Turn → ℕ → ℕ → Job → Type 0
Empties k done at c j = at ≡ c → length j.turns ≡ length (share k c done)

-- a job has a turn left, as long as lines are left
pub turn_left : (k i total : ℕ) (done : List Turn) (js ks ls : List Job) → k ≡ length js → 0 < k → i < total → length done ≡ i → EachAt (HasTurns k total) 0 js js → EachAt (Left k done) 0 js ks → EachAt (Took (i % k) None) 0 ks ls → ⊥
turn_left k i total done js ks ls same some lt e has left took =
    let empties : EachAt (λ c j m. Empties k done (i % k) c j) 0 js ls =
    each_then (Left k done) (Took (i % k) None) (λ c j m. Empties k done (i % k) c j)
    (λ c x y z h g e. ap length (h.turns ∙ ap (λ l. share k c done ++ l) (g.turns.0 e) ∙ append-nil (share k c done)))
    0 js ks ls left took in
    let both : EachAt (λ c j m. (length j.turns ≡ count_from k c 0 total) × Empties k done (i % k) c j) 0 js ls =
    each_before (λ c j. length j.turns ≡ count_from k c 0 total) (λ c j m. Empties k done (i % k) c j) 0 js js ls has empties in
    let z : 0 + i % k ≡ i % k = omega arith in
    let below : i % k < length js = (let m = mod-lt i some in omega arith) in
    let f = some_at (λ c j m. (length j.turns ≡ count_from k c 0 total) × Empties k done (i % k) c j) 0 js ls both (i % k) below in
    let a : length f.0.turns ≡ count_from k (i % k) 0 total = f.2.0 ∙ ap (λ m. count_from k m 0 total) z in
    let b : length f.0.turns ≡ count_from k (i % k) 0 i = f.2.1 (sym z) ∙ length_share k (0 + i % k) 0 done ∙ ap (λ m. count_from k m 0 (length done)) z ∙ ap (λ m. count_from k (i % k) 0 m) e in
    let l = count_less k i total lt in
    omega arith

-- all turns were gathered
pub all_left : (k total : ℕ) (all : List Turn) (js ks : List Job) → length all ≡ total → EachAt (HasTurns k total) 0 js js → EachAt (Left k all) 0 js ks → EachAt (λ c j m. j.turns ≡ share k c all) 0 js js
all_left k total all js ks e has left =
    each_first (λ c j. j.turns ≡ share k c all) 0 js ks
    (each_map (λ c x z. (length x.turns ≡ count_from k c 0 total) × Left k all c x z) (λ c x z. x.turns ≡ share k c all) (λ c x z h.
    let l = length-append (share k c all) z.turns in
    let s : length (share k c all) ≡ count_from k c 0 (length all) = length_share k c 0 all in
    let t = ap (λ m. count_from k c 0 m) e in
    let u = ap length h.1.turns in
    let v = h.0 in
    let n : z.turns ≡ [] = no_items z.turns (omega arith) in
    h.1.turns ∙ ap (λ m. share k c all ++ m) n ∙ append-nil (share k c all))
    0 js ks (each_before (λ c j. length j.turns ≡ count_from k c 0 total) (Left k all) 0 js js ks has left))

pub callers_left : (k : ℕ) (all : List Turn) (js ks : List Job) → EachAt (Left k all) 0 js ks → EachAt (λ c j m. m.caller ≡ j.caller) 0 js ks
callers_left k all = each_map (Left k all) (λ c j m. m.caller ≡ j.caller) (λ c x y h. h.caller) 0

-- All together

-- what is said of each caller of jobs is said of each job's
each_job : (P : Known → Type 0) (js : List Job) → Each P (callers_of js) → Each (λ (j : Job). P j.caller) js
each_job P [] h = tt
each_job P (j ∷ js) h = (h.0, each_job P js h.1)

-- a new job that was fed
record IsFed (z : TableId) (lines share : List Line) (j m : Job) : Type 0 where
  of : IsOfTable z j
  allowed : AreAllowed lines j.caller
  new : IsNew j
  fed : Fed share j m

-- it may run
fed_ready : (z : TableId) (k c : ℕ) (lines : List Line) (j m : Job) → IsFed z lines (share k c lines) j m → IsReady z m
fed_ready z k c lines j m h =
    let its : Each (IsAllowed (kind_of j.caller.view.config)) (share k c lines) = each_share (IsAllowed (kind_of j.caller.view.config)) k c 0 lines h.allowed in
    let given : AreAllowed m.lines j.caller = subst (Each (IsAllowed (kind_of j.caller.view.config))) (sym (h.fed.lines ∙ ap (λ l. l ++ share k c lines) h.new.lines)) its in
    record {
      of = ap (λ (v : Known). v.table) h.fed.caller ∙ h.of;
      allowed = subst (AreAllowed m.lines) (sym h.fed.caller) given;
      turns = h.fed.turns ∙ h.new.turns;
      error = h.fed.error ∙ h.new.error;
    }

pub all_ready : (z : TableId) (k : ℕ) (lines : List Line) (js ks : List Job) → Each IsNew js → Each (IsOfTable z) js → Each (AreAllowed lines) (callers_of js) → EachAt (λ c. Fed (share k c lines)) 0 js ks → All (IsReady z) ks
all_ready z k lines js ks new of allowed fed =
    let told = each_job (AreAllowed lines) js allowed in
    all_from (IsReady z) 0 js ks
    (each_map (λ c j m. AreAllowed lines j.caller × (IsOfTable z j × (IsNew j × Fed (share k c lines) j m))) (λ c j m. IsReady z m)
    (λ c j m h. fed_ready z k c lines j m (record { of = h.1.0; allowed = h.0; new = h.1.1.0; fed = h.1.1.1 }))
    0 js ks
    (each_with (λ (j : Job). AreAllowed lines j.caller) (λ c j m. IsOfTable z j × (IsNew j × Fed (share k c lines) j m)) 0 js ks told
    (each_with (IsOfTable z) (λ c j m. IsNew j × Fed (share k c lines) j m) 0 js ks of (each_with IsNew (λ c. Fed (share k c lines)) 0 js ks new fed))))

-- a job that was dealt its lines, and has run
pub record Ran (lines : List Line) (j k : Job) : Type 0 where
  pub is : MatchOption k.error (HasSubmitted j.caller k.caller lines k.turns) (λ error. HasTried j.caller k.caller lines × IsCause error j.caller k.caller)

pub all_ran : (k : ℕ) (lines : List Line) (js ks ls : List Job) → Each IsNew js → EachAt (λ c. Fed (share k c lines)) 0 js ks → EachAt (λ c. HasRun) 0 ks ls → EachAt (λ c. Ran (share k c lines)) 0 js ls
all_ran k lines js ks ls new fed run =
    each_then (λ c j m. IsNew j × Fed (share k c lines) j m) (λ c. HasRun) (λ c. Ran (share k c lines)) (λ c x y z h g.
    let own : y.lines ≡ share k c lines = h.1.lines ∙ ap (λ l. l ++ share k c lines) h.0.lines in
    record {
      is =
          subst (λ (l : List Line). MatchOption z.error (HasSubmitted x.caller z.caller l z.turns) (λ error. HasTried x.caller z.caller l × IsCause error x.caller z.caller)) own
          (subst (λ (v : Known). MatchOption z.error (HasSubmitted v z.caller y.lines z.turns) (λ error. HasTried v z.caller y.lines × IsCause error v z.caller)) h.1.caller g);
    })
    0 js ks ls (each_with IsNew (λ c. Fed (share k c lines)) 0 js ks new fed) run

submitted_where : (lines : List Line) (j k : Job) → Ran lines j k → k.error ≡ None → HasSubmitted j.caller k.caller lines k.turns
submitted_where lines j k h e = subst (λ (o : Option StepError). MatchOption o (HasSubmitted j.caller k.caller lines k.turns) (λ error. HasTried j.caller k.caller lines × IsCause error j.caller k.caller)) e h.is

cause_where : (lines : List Line) (error : StepError) (j k : Job) → Ran lines j k → k.error ≡ Some error → IsCause error j.caller k.caller
cause_where lines error j k h e = (subst (λ (o : Option StepError). MatchOption o (HasSubmitted j.caller k.caller lines k.turns) (λ error. HasTried j.caller k.caller lines × IsCause error j.caller k.caller)) e h.is).1

tried_where : (lines : List Line) (j k : Job) → Ran lines j k → HasTried j.caller k.caller lines
tried_where lines j k h = go k.error h.is
  where
    go : (o : Option StepError) → MatchOption o (HasSubmitted j.caller k.caller lines k.turns) (λ error. HasTried j.caller k.caller lines × IsCause error j.caller k.caller) → HasTried j.caller k.caller lines
    go None s = tried_so_far j.caller k.caller lines lines [] k.turns (sym (append-nil lines)) s
    go (Some e) s = s.0

-- where no job has an error, each has a turn for each of its lines
pub all_have_turns : (k : ℕ) (lines : List Line) (js ls : List Job) → EachAt (λ c. Ran (share k c lines)) 0 js ls → EachAt (λ c j m. j.error ≡ None) 0 ls ls → EachAt (HasTurns k (length lines)) 0 ls ls
all_have_turns k lines js ls ran none =
    each_second (λ c j. length j.turns ≡ count_from k c 0 (length lines)) 0 js ls
    (each_map (λ c x y. Ran (share k c lines) x y × (y.error ≡ None)) (λ c x y. length y.turns ≡ count_from k c 0 (length lines)) (λ c x y h.
    let s = submitted_where (share k c lines) x y h.0 h.1 in
    each_length (λ i. IsTurnOf y.caller.view.config y.caller.view.word y.caller.view.seen) 0 (share k c lines) y.turns (s.told y.caller.view.seen (prefix_all y.caller.view.seen))
    ∙ length_share k c 0 lines)
    0 js ls (each_after (λ c. Ran (share k c lines)) (λ c j. j.error ≡ None) 0 js ls ls ran none))

pub all_submitted : (lines : List Line) (turns : List Turn) (js ls ms : List Job) → length turns ≡ length lines → EachAt (λ c. Ran (share (length js) c lines)) 0 js ls → EachAt (λ c j m. j.error ≡ None) 0 ls ls → EachAt (λ c j m. j.turns ≡ share (length ls) c turns) 0 ls ls → EachAt (λ c j m. m.caller ≡ j.caller) 0 ls ms → HaveRun (callers_of js) (callers_of ms) lines turns
all_submitted lines turns js ls ms count ran none own same = record {
  count = count;
  each =
      let k : ℕ = length js in
      let mine : EachAt (λ c j m. j.turns ≡ share k c turns) 0 ls ls = subst (λ (n : ℕ). EachAt (λ c j m. j.turns ≡ share n c turns) 0 ls ls) (each_length (λ c. Ran (share k c lines)) 0 js ls ran) own in
      let all =
      each_after (λ c x y. Ran (share k c lines) x y × (y.error ≡ None)) (λ c j. j.turns ≡ share k c turns) 0 js ls ls
      (each_after (λ c. Ran (share k c lines)) (λ c j. j.error ≡ None) 0 js ls ls ran none) mine in
      let done : EachAt (λ c x z. HasSubmitted x.caller z.caller (share k c lines) (share k c turns)) 0 js ms =
      each_then (λ c x y. (Ran (share k c lines) x y × (y.error ≡ None)) × (y.turns ≡ share k c turns)) (λ c j m. m.caller ≡ j.caller) (λ c x z. HasSubmitted x.caller z.caller (share k c lines) (share k c turns))
      (λ c x y z h g.
      subst (λ (w : Known). HasSubmitted x.caller w (share k c lines) (share k c turns)) (sym g)
      (subst (HasSubmitted x.caller y.caller (share k c lines)) h.1 (submitted_where (share k c lines) x y h.0.0 h.0.1)))
      0 js ls ms all same in
      subst (λ (n : ℕ). EachAt (λ c v w. HasSubmitted v w (share n c lines) (share n c turns)) 0 (callers_of js) (callers_of ms)) (sym (length_callers js))
      (each_caller (λ c v w. HasSubmitted v w (share k c lines) (share k c turns)) 0 js ms done);
}

all_tried : (lines : List Line) (js ms : List Job) → EachAt (λ c j m. HasTried j.caller m.caller (share (length js) c lines)) 0 js ms → EachAt (λ c v w. HasTried v w (share (length (callers_of js)) c lines)) 0 (callers_of js) (callers_of ms)
all_tried lines js ms h =
    subst (λ (n : ℕ). EachAt (λ c v w. HasTried v w (share n c lines)) 0 (callers_of js) (callers_of ms)) (sym (length_callers js))
    (each_caller (λ c v w. HasTried v w (share (length js) c lines)) 0 js ms h)

pub all_stopped : (error : StepError) (lines : List Line) (js ls : List Job) → EachAt (λ c. Ran (share (length js) c lines)) 0 js ls → AnyAt (λ c j m. j.error ≡ Some error) 0 ls ls → HaveStopped error (callers_of js) (callers_of ls) lines
all_stopped error lines js ls ran any = record {
  each = all_tried lines js ls (each_map (λ c. Ran (share (length js) c lines)) (λ c j m. HasTried j.caller m.caller (share (length js) c lines)) (λ c x y h. tried_where (share (length js) c lines) x y h) 0 js ls ran);
  cause = why error (any_caller (λ c. IsCause error) 0 js ls (any_map (λ c x y. Ran (share (length js) c lines) x y × (y.error ≡ Some error)) (λ c x y. IsCause error x.caller y.caller) (λ c x y h. cause_where (share (length js) c lines) error x y h.0 h.1) 0 js ls
      (any_after (λ c. Ran (share (length js) c lines)) (λ c j. j.error ≡ Some error) 0 js ls ls ran any)));
}
  where
    why : (e : StepError) → AnyAt (λ c. IsCause e) 0 (callers_of js) (callers_of ls) → HasCause e (callers_of js) (callers_of ls)
    why BadEvent h = any_never (λ c. IsCause BadEvent) 0 (callers_of js) (callers_of ls) (λ c x y p. p) h
    why (Spent n) h = h
    why NoMemory h = tt

-- memory was refused to the call itself
pub all_refused : (lines : List Line) (js ls ms : List Job) → EachAt (λ c. Ran (share (length js) c lines)) 0 js ls → EachAt (λ c j m. m.caller ≡ j.caller) 0 ls ms → HaveStopped NoMemory (callers_of js) (callers_of ms) lines
all_refused lines js ls ms ran same = record {
  each = all_tried lines js ms (each_then (λ c. Ran (share (length js) c lines)) (λ c j m. m.caller ≡ j.caller) (λ c j m. HasTried j.caller m.caller (share (length js) c lines)) (λ c x y z h g.
      subst (λ (w : Known). HasTried x.caller w (share (length js) c lines)) (sym g) (tried_where (share (length js) c lines) x y h)) 0 js ls ms ran same);
  cause = tt;
}

-- nothing was submitted
pub none_submitted : (lines : List Line) (vs : List Known) → HaveStopped NoMemory vs vs lines
none_submitted lines vs = record {
  each = each_same (λ c v w. HasTried v w (share (length vs) c lines)) 0 vs (λ c v l. tried_so_far v v (share (length vs) c lines) [] (share (length vs) c lines) [] refl (submitted_none v));
  cause = tt;
}

pub none_dealt : (lines : List Line) (js ks : List Job) → EachAt (λ c. WasFed) 0 js ks → HaveStopped NoMemory (callers_of js) (callers_of ks) lines
none_dealt lines js ks fed = record {
  each = all_tried lines js ks (each_map (λ c. WasFed) (λ c j m. HasTried j.caller m.caller (share (length js) c lines)) (λ c x y h.
      subst (λ (w : Known). HasTried x.caller w (share (length js) c lines)) (sym h.caller)
      (tried_so_far x.caller x.caller (share (length js) c lines) [] (share (length js) c lines) [] refl (submitted_none x.caller))) 0 js ks fed);
  cause = tt;
}

-- memory was refused at the end
pub run_and_refused : (vs ws : List Known) (lines : List Line) (turns : List Turn) → HaveRun vs ws lines turns → HaveStopped NoMemory vs ws lines
run_and_refused vs ws lines turns h = record {
  each = each_map (λ c v w. HasSubmitted v w (share (length vs) c lines) (share (length vs) c turns)) (λ c v w. HasTried v w (share (length vs) c lines))
      (λ c v w s. tried_so_far v w (share (length vs) c lines) (share (length vs) c lines) [] (share (length vs) c turns) (sym (append-nil (share (length vs) c lines))) s) 0 vs ws h.each;
  cause = tt;
}

pub none_failed : (n : ℕ) (js : List Job) → first_error_of js ≡ None → EachAt (λ c j m. j.error ≡ None) n js js
none_failed n [] e = tt
none_failed n (j ∷ js) e = go j.error refl (none_failed (n + 1) js) e
  where
    go : (o : Option StepError) → j.error ≡ o → (first_error_of js ≡ None → EachAt (λ c j m. j.error ≡ None) (n + 1) js js) → first_of o (first_error_of js) ≡ None → (j.error ≡ None) × EachAt (λ c j m. j.error ≡ None) (n + 1) js js
    go None q rest h = (q, rest h)
    go (Some x) q rest h = cc

pub one_failed : (n : ℕ) (js : List Job) (error : StepError) → first_error_of js ≡ Some error → AnyAt (λ c j m. j.error ≡ Some error) n js js
one_failed n [] error e = cc
one_failed n (j ∷ js) error e = go j.error refl (one_failed (n + 1) js error) e
  where
    go : (o : Option StepError) → j.error ≡ o → (first_error_of js ≡ Some error → AnyAt (λ c j m. j.error ≡ Some error) (n + 1) js js) → first_of o (first_error_of js) ≡ Some error → (j.error ≡ Some error) ⊎ AnyAt (λ c j m. j.error ≡ Some error) (n + 1) js js
    go None q rest h = inr (rest h)
    go (Some x) q rest h = inl (q ∙ h)

-- One job

done_where : (j k : Job) (o : Option StepError) → k.error ≡ o → MatchOption o (HasSubmitted j.caller k.caller j.lines k.turns) (λ error. HasTried j.caller k.caller j.lines × IsCause error j.caller k.caller) → HasRun j k
done_where j k o e h = subst (λ (x : Option StepError). MatchOption x (HasSubmitted j.caller k.caller j.lines k.turns) (λ error. HasTried j.caller k.caller j.lines × IsCause error j.caller k.caller)) (sym e) h

pub run_through : (z : TableId) (j k : Job) → IsReady z j → k.error ≡ j.error → HasSubmitted j.caller k.caller j.lines k.turns → HasRun j k
run_through z j k ready e h = done_where j k None (e ∙ ready.error) h

pub run_into : (j k : Job) (error : StepError) → k.error ≡ Some error → HasTried j.caller k.caller j.lines × IsCause error j.caller k.caller → HasRun j k
run_into j k error e h = done_where j k (Some error) e h

pub nothing_to_run : (z : TableId) (j : Job) → IsReady z j → length j.lines ≡ 0 → HasRun j j
nothing_to_run z j ready e =
    run_through z j j ready refl
    (subst (λ (l : List Line). HasSubmitted j.caller j.caller l j.turns) (sym (no_items j.lines e))
    (subst (HasSubmitted j.caller j.caller []) (sym ready.turns) (submitted_none j.caller)))

-- Seating

pub seated_more : (js ks : List Job) (j : Job) (rest left all : List Known) → ks ≡ js ++ j ∷ [] → rest ≡ j.caller ∷ left → callers_of js ++ rest ≡ all → callers_of ks ++ left ≡ all
seated_more js ks j rest left all e r h =
    ap (λ l. callers_of l ++ left) e ∙ ap (λ l. l ++ left) (callers_append js (j ∷ []))
    ∙ append_assoc (callers_of js) (j.caller ∷ []) left ∙ sym (ap (λ l. callers_of js ++ l) r) ∙ h

pub each_of : (z : TableId) (js : List Job) → Each (λ (v : Known). v.table ≡ z) (callers_of js) → Each (IsOfTable z) js
each_of z [] h = tt
each_of z (j ∷ js) h = (h.0, each_of z js h.1)
