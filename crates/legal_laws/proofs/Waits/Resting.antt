-- Whoever waits for the next attempt does so until a timer fires that was asked for.
use Rattle.std.proofs.Common.{◌≡◌, ◌≢◌, ℕ, ◌==◌, nat_lt, Bool, true, false, ◌&&◌, not, List, [], ◌∷◌, ◌++◌, Option, Some, None, is_none, if◌then◌else◌, refl, sym, ◌∙◌, ap, subst, arith}
use Rattle.std.specs.List.{AllByRecursion}
use Rattle.std.proofs.lemmas.List.{append_assoc}
use Rattle.containers.proofs.Choices.{by_test, taken_if, left_if, ne_from}
use Rattle.driver_model.specs.declared.action.Action.{Action}
use Rattle.driver_model.specs.declared.action.Action.TheVariants as action
use Rattle.driver_model.specs.declared.action.Cause.TheVariants as cause
use Rattle.driver_model.specs.declared.action.Purpose.{Purpose}
use Rattle.driver_model.specs.declared.action.Purpose.TheVariants as purpose
use Rattle.driver_model.specs.declared.event.EventKind.{EventKind}
use Rattle.driver_model.specs.declared.event.EventKind.TheVariants as event
use Rattle.legal_trace.specs.Book.{Book, blank_book, book, entered, has_generations, is_rest, rest_after}
use Rattle.legal_trace.specs.Legal.{AllStand, IsApplied, IsOpen, current_link, link_of}
use Rattle.legal_trace.proofs.Books.{Grows, of_each_front, book_more}
use Rattle.legal_trace.proofs.Moves.{lt_test}
use Rattle.legal_trace.proofs.Plain.{same_some}
use Rattle.legal_laws.specs.Waits.{IsResting, LeavesTimer}
use Rattle.legal_laws.proofs.Generations.Lives.{unasked_is_next}
use Rattle.legal_laws.proofs.Links.Opens.{applied_has_link}
use Rattle.legal_laws.proofs.Traces.Sound.{Sound}
use Rattle.legal_laws.proofs.Waits.Firsts.{Firsts, none_first, unshut}

-- a timer that is to be waited for was asked for, and has not fired
abbrev Runs : List Action → Type 0
Runs front = (t : ℕ) → (book front).rest ≡ Some t → (r : IsResting front) × (r.t ≡ t)

-- one action more that leaves it
left_more : (t : ℕ) (after : List Action) (a : Action) → AllByRecursion (LeavesTimer t) after → LeavesTimer t a → AllByRecursion (LeavesTimer t) (after ++ a ∷ [])
left_more t [] a all leaves = (leaves, tt)
left_more t (x ∷ after) a all leaves = (all.0, left_more t after a all.1 leaves)

-- so it runs on
runs_on : (front : List Action) (a : Action) (t : ℕ) (r : IsResting front) → r.t ≡ t → LeavesTimer t a → (s : IsResting (front ++ a ∷ [])) × (s.t ≡ t)
runs_on front a t r same leaves = (
  record {
    before = r.before;
    after = r.after ++ a ∷ [];
    t = r.t;
    ms = r.ms;
    g = r.g;
    asked = ap (λ (xs : List Action). xs ++ a ∷ []) r.asked ∙ append_assoc r.before (action.Timer r.t r.ms (purpose.Backoff r.g) ∷ r.after) (a ∷ []);
    runs = left_more r.t r.after a r.runs (subst (λ x. LeavesTimer x a) (sym same) leaves);
  },
  same,
)

-- an event behind which a timer is waited for leaves it
rest_before : (old : Option ℕ) (kind : EventKind) (t : ℕ) → rest_after old kind ≡ Some t → (old ≡ Some t) × (kind ≢ event.Fired t)
rest_before None kind t e = absurd (cc e)
rest_before (Some x) (event.Fired s) t e = by_test (s == x) _
    (λ same. absurd (let gone : None ≡ Some t = sym (taken_if (s == x) None (Some x) same) ∙ e in cc gone))
    (λ other.
    let stays : Some x ≡ Some t = sym (left_if (s == x) None (Some x) other) ∙ e in
    (stays, λ fires. ne_from s x other (same_fired s t fires ∙ sym (same_some x t stays))))
  where
    same_fired : (m n : ℕ) → event.Fired m ≡ event.Fired n → m ≡ n
    same_fired m n e = cc e
rest_before (Some x) (event.Submit what) t e = (e, λ same. cc)
rest_before (Some x) (event.Cancel n) t e = (e, λ same. cc)
rest_before (Some x) (event.Connected l) t e = (e, λ same. cc)
rest_before (Some x) (event.Refused l f) t e = (e, λ same. cc)
rest_before (Some x) (event.Wrote l count) t e = (e, λ same. cc)
rest_before (Some x) (event.Bytes l piece) t e = (e, λ same. cc)
rest_before (Some x) (event.Ended l) t e = (e, λ same. cc)
rest_before (Some x) (event.ReadFault l kind) t e = (e, λ same. cc)
rest_before (Some x) (event.WriteFault l kind) t e = (e, λ same. cc)
rest_before (Some x) (event.Timeout ms) t e = (e, λ same. cc)
rest_before (Some x) (event.Creds c auth) t e = (e, λ same. cc)
rest_before (Some x) (event.CredsError c text) t e = (e, λ same. cc)
rest_before (Some x) (event.CredsEnd c) t e = (e, λ same. cc)
rest_before (Some x) event.DropStream t e = (e, λ same. cc)
rest_before (Some x) event.Shutdown t e = (e, λ same. cc)

-- what a timer is for that is waited for
rest_is : (what : Purpose) → is_rest what ≡ true → (g : ℕ) × (what ≡ purpose.Backoff g)
rest_is (purpose.Backoff g) e = (g, refl)
rest_is (purpose.Connect l) e = absurd (cc e)
rest_is (purpose.Response who) e = absurd (cc e)
rest_is (purpose.Renewal l k) e = absurd (cc e)
rest_is (purpose.Resubscription l) e = absurd (cc e)

-- where a timer is asked for
timer_runs : (front : List Action) (t ms : ℕ) (what : Purpose) → Runs front → (x : ℕ) → (if is_rest what then Some t else (book front).rest) ≡ Some x → (r : IsResting (front ++ action.Timer t ms what ∷ [])) × (r.t ≡ x)
timer_runs front t ms what h x e = by_test (is_rest what) _
    (λ rest.
    let g = rest_is what rest in
    let same : t ≡ x = same_some t x (sym (taken_if (is_rest what) (Some t) (book front).rest rest) ∙ e) in
    (record { before = front; after = []; t = t; ms = ms; g = g.0; asked = ap (λ p. front ++ action.Timer t ms p ∷ []) g.1; runs = tt }, same))
    (λ other.
    let old = h x (sym (left_if (is_rest what) (Some t) (book front).rest other) ∙ e) in
    runs_on front (action.Timer t ms what) x old.0 old.1 tt)

-- so with each action more
runs_more : (front : List Action) (a : Action) → Runs front → (t : ℕ) → (entered (book front) a).rest ≡ Some t → (r : IsResting (front ++ a ∷ [])) × (r.t ≡ t)
runs_more front (action.Turn k (cause.Opening config word)) h t e = let old = h t e in runs_on front (action.Turn k (cause.Opening config word)) t old.0 old.1 tt
runs_more front (action.Turn k (cause.Event x)) h t e =
    let before = rest_before (book front).rest x.kind t e in
    let old = h t before.0 in
    runs_on front (action.Turn k (cause.Event x)) t old.0 old.1 before.1
runs_more front (action.Timer s ms what) h t e = timer_runs front s ms what h t e
runs_more front (action.Generation g) h t e = absurd (cc e)
runs_more front (action.Connect l host port) h t e = let old = h t e in runs_on front (action.Connect l host port) t old.0 old.1 tt
runs_more front (action.Took who l count) h t e = let old = h t e in runs_on front (action.Took who l count) t old.0 old.1 tt
runs_more front (action.Push l info) h t e = let old = h t e in runs_on front (action.Push l info) t old.0 old.1 tt
runs_more front (action.Message m) h t e = let old = h t e in runs_on front (action.Message m) t old.0 old.1 tt
runs_more front (action.Monitor v) h t e = let old = h t e in runs_on front (action.Monitor v) t old.0 old.1 tt
runs_more front (action.NeedCreds c l) h t e = let old = h t e in runs_on front (action.NeedCreds c l) t old.0 old.1 tt
runs_more front (action.Round who l) h t e = let old = h t e in runs_on front (action.Round who l) t old.0 old.1 tt
runs_more front (action.Close l) h t e = let old = h t e in runs_on front (action.Close l) t old.0 old.1 tt
runs_more front (action.Write l bytes) h t e = let old = h t e in runs_on front (action.Write l bytes) t old.0 old.1 tt
runs_more front (action.Wait who kind) h t e = let old = h t e in runs_on front (action.Wait who kind) t old.0 old.1 tt
runs_more front (action.Start l k who count len) h t e = let old = h t e in runs_on front (action.Start l k who count len) t old.0 old.1 tt
runs_more front (action.Created x) h t e = let old = h t e in runs_on front (action.Created x) t old.0 old.1 tt
runs_more front (action.Outcome n o) h t e = let old = h t e in runs_on front (action.Outcome n o) t old.0 old.1 tt

runs_grow : Grows Runs
runs_grow front a all may h t e = runs_more front a h t (sym (ap (λ (b : Book). b.rest) (book_more front a)) ∙ e)

none_runs : Runs []
unfolding book
none_runs t e = absurd (cc e)

-- where a timer is to be waited for, the trace asked for it, and it has not fired
pub rest_runs : (front : List Action) → AllStand blank_book front → (t : ℕ) → (book front).rest ≡ Some t → IsResting front
rest_runs front all t e = (of_each_front Runs front runs_grow all none_runs t e).0

-- what isn't none
some_from : (o : Option ℕ) → is_none o ≡ false → (t : ℕ) × (o ≡ Some t)
some_from None e = absurd (cc e)
some_from (Some t) e = (t, refl)

-- where no link is to be asked for though there is a generation, and the current one isn't, a timer is waited for
rest_from : (begun asked none shut : Bool) → (begun && (not asked && (none && not shut))) ≡ false → begun ≡ true → asked ≡ false → shut ≡ false → none ≡ false
rest_from true false false false e b a s = refl
rest_from true false true false e b a s = absurd (cc e)
rest_from true false none true e b a s = absurd (cc s)
rest_from true true none shut e b a s = absurd (cc a)
rest_from false asked none shut e b a s = absurd (cc b)

-- so it is where an open submission waits for a link that isn't asked for
pub unasked_rests : (b : Book) (n : ℕ) → Sound b → Firsts b → IsApplied b → IsOpen b n → (b.story n).tries ≡ [] → (link_of b n).asked ≡ false → (t : ℕ) × (b.rest ≡ Some t)
unasked_rests b n sound firsts applied o none unasked =
    let on : (b.story n).link ≡ b.current = (sound.goes n).open_on o in
    let idle : (current_link b).asked ≡ false = sym (ap (λ l. (b.link l).asked) on) ∙ unasked in
    by_test (has_generations b) _
    (λ has.
    let some : b.generation ≢ 0 = λ zero_yet. none_first b n sound firsts applied has zero_yet o none in
    let begun : nat_lt 0 b.generation ≡ true = lt_test 0 b.generation (omega (arith, some)) in
    some_from b.rest (rest_from (nat_lt 0 b.generation) (current_link b).asked (is_none b.rest) b.shut
    (sym (taken_if (has_generations b) (nat_lt 0 b.generation && (not (current_link b).asked && (is_none b.rest && not b.shut))) (b.links == 0) has) ∙ applied.linked)
    begun idle (unshut b n sound applied o none unasked)))
    (λ plain. absurd (applied_has_link b applied.linked plain (sym (unasked_is_next b sound.lives sound.links idle) ∙ firsts.plain plain)))
