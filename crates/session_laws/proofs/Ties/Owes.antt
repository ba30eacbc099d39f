-- What submissions are owed, by the requests that they are.
use Rattle.std.proofs.Common.{◌≡◌, ◌≢◌, inl, inr, ℕ, zero, suc, ◌+◌, ◌<◌, ◌==◌, true, false, List, [], ◌∷◌, ◌++◌, length, Option, Some, None, slice_get, refl, sym, ap, ◌∙◌, subst, arith}
use Rattle.std.specs.List.{AllByRecursion}
use Rattle.std.proofs.lemmas.List.{nil_from_length}
use Rattle.containers.proofs.Choices.{by_test, left_if, eq_from, ne_from, ne_test, not_both}
use Rattle.driver_model.specs.declared.outcome.Outcome.TheVariants as outcome
use Rattle.driver_model.specs.declared.outcome.Shape.{Shape}
use Rattle.driver_model.specs.Shape.{outcome_of}
use Rattle.link_core.specs.declared.message.Entry.{Entry}
use Rattle.link_core.specs.declared.message.Settled.{Settled}
use Rattle.link_laws.specs.Settles.{wanted, StandsAs, IsOwed}
use Rattle.link_laws.proofs.Started.{OpenFrom, row_open, open_unowed}
use Rattle.mux_conn.specs.declared.life.Life.{Life}
use Rattle.mux_conn.specs.declared.life.Life.TheVariants.{Resting, Dialing, Wanting, SettingUp, Ready, Ended}
use Rattle.mux_conn.specs.declared.request.Pending.{Pending}
use Rattle.mux_conn.specs.Connection.{is_resting}
use Rattle.mux_conn.specs.Requests.{name_at, is_open_at}
use Rattle.legal_trace.specs.Ledger.{full_count, Ledger, is_cut, is_of_setup, next_notice, setup_count}
use Rattle.legal_trace.specs.Story.{bytes_of, shape, last_of, is_open}
use Rattle.legal_trace.specs.Book.{Book}
use Rattle.legal_trace.specs.Owed.{owed, owed_to_message, owed_unstarted, owed_to_try, owed_waiting}
use Rattle.legal_trace.specs.Legal.{IsOpen, NoneIsOwed, IsCreated, FailuresAreShown, NoticesAreTold, EndsAreTold}
use Rattle.conn_laws.proofs.Ties.Numbers.{Rising, IsIn, in_either, rising_in, rising_left, rising_right, rising_apart, requests_in, request_in, request_of, is_own}
use Rattle.session_laws.proofs.Links.Said.{ready_shown}
use Rattle.conn_laws.proofs.Ties.Tied.{IsEntry, link_in, owner_of, queue_ids, IsRequest, TiedStory, FailureIsShown, has_ended, is_of_greeting}
use Rattle.session_laws.proofs.Ties.Tied.{TurnState, Tied}
use Rattle.conn_laws.proofs.Ties.Names.{get_some, open_within, name_of_some, name_placed, same_name, owner_no_setup, request_owner}
use Rattle.session_laws.proofs.Ties.Names.{request_not, asked_unwatched}
use Rattle.conn_laws.proofs.Ties.InLine.{AtPlaces, IsInLine, wanted_rises, places_rise, row_ids, wanted_in, kept_ids, line_of, open_in_line}
use Rattle.driver_model.specs.Hearing.{is_watching, hears_something, hears_pushes}
use Rattle.conn_laws.proofs.Ties.Owes.{answered_closed, failure_shown, get_behind, is_asked, lives, owed_asked, own_number, own_ungreeted, row_link, started_at, wanted_entry}

-- each request is a submission
pub request_story : (b : Book) (t : TurnState) (p : ℕ) → Tied b t → p < length t.requests → IsRequest (b.story (name_at t.requests p)) t.requests t.link p
request_story b t p h l = subst (TiedStory (b.story (name_at t.requests p)) t.requests t.link) (name_placed t.table t.requests p h.names l) (h.story (name_at t.requests p))

-- an open submission is an open request
pub record IsOpenRequest (t : TurnState) (n : ℕ) : Type 0 where
  pub number : ℕ
  pub named : name_at t.requests number ≡ n
  pub open_at : is_open_at t.requests number ≡ true

-- and the other way round: it is one that is open
pub open_request : (b : Book) (t : TurnState) (n : ℕ) → Tied b t → IsOpen b n → IsOpenRequest t n
open_request b t n h o = by_entry (slice_get t.table n) refl (h.story n)
  where
    by_entry : (x : Option (Option Pending)) → slice_get t.table n ≡ x → TiedStory (b.story n) t.requests t.link x → IsOpenRequest t n
    by_entry None e s = absurd (let f : is_open (b.story n) ≡ false = ap is_open s in not_both (is_open (b.story n)) f o)
    by_entry (Some None) e s = absurd (not_both (is_open (b.story n)) (answered_closed (b.story n) [] (outcome.Fault s.error) s.answered) o)
    by_entry (Some (Some p)) e s = let k = h.names.kept n p e in record { number = p.number; named = name_of_some t.requests p.number k.0 k.1 ∙ k.2; open_at = sym s.open_is ∙ o }

-- the request of a started message
--
-- what started is one of the line
pub get_in : (xs : List ℕ) (k n : ℕ) → slice_get xs k ≡ Some n → IsIn n xs
get_in [] k n e = cc
get_in (x ∷ xs) zero n e = inl cc
get_in (x ∷ xs) (suc k) n e = inr (get_in xs k n e)

-- and a request, where it isn't AUTH
pub started_within : (b : Book) (t : TurnState) (k p : ℕ) → Tied b t → is_own p ≡ false → slice_get t.started k ≡ Some p → p < length t.requests
started_within b t k p h other e =
    let asked = requests_in t.started in
    let r = rising_in 0 asked (length t.requests) p (rising_left 0 asked (queue_ids (link_in t.life).queue ++ kept_ids t.admitted t.waiting) (length t.requests) h.lines.line) (request_in p t.started other (get_in t.started k p e)) in
    r.1

-- the message of a request that stands as number k is the one that started so, behind the setups
pub stands_started : (b : Book) (t : TurnState) (p k : ℕ) (of_shape : Shape) → Tied b t → p < length t.requests → StandsAs (b.link t.link).starts (owner_of t.requests p) of_shape k
    → (j : ℕ) × (k ≡ setup_count (b.link t.link).starts + j) × (slice_get t.started j ≡ Some p)
stands_started b t p k of_shape h l place =
    let starts = (b.link t.link).starts in
    let s = started_at starts t.requests t.started (setup_count starts) k place.start (h.tries.owners (asked_unwatched b t p h l)) place.stands (ap is_of_setup place.owned ∙ owner_no_setup t.requests p) in
    let named = request_owner t.requests s.2 p (request_not b t p h l) (s.4 ∙ place.owned) in
    let same = same_name t.table t.requests s.2 p h.names (started_within b t s.0 s.2 h named.0 s.3) l named.1 in
    (s.0, s.1, s.3 ∙ ap Some same)

-- and so are the driver's own
own_started : (b : Book) (t : TurnState) (e : Entry) (k : ℕ) → Tied b t → is_own e.id ≡ true → StandsAs (b.link t.link).starts (owner_of t.requests e.id) e.shape k
    → (j : ℕ) × (k ≡ setup_count (b.link t.link).starts + j) × (slice_get t.started j ≡ Some e.id)
own_started b t e k h is place =
    let starts = (b.link t.link).starts in
    let plain : is_watching (b.link t.link).hearing ≡ false = by_test (is_watching (b.link t.link).hearing) _
    (λ w. absurd (not_both (is_of_greeting place.start.owner) (ap is_of_greeting place.owned ∙ own_ungreeted t.requests e.id is) ((h.tries.greeted w).greets k place.start place.stands)))
    (λ f. f) in
    let s = started_at starts t.requests t.started (setup_count starts) k place.start (h.tries.owners plain) place.stands (ap is_of_setup place.owned ∙ owner_no_setup t.requests e.id) in
    (s.0, s.1, s.3 ∙ ap Some (own_number t.requests s.2 e.id is (s.4 ∙ place.owned)))

-- what takes items started so
entry_started : (b : Book) (t : TurnState) (e : Entry) (k : ℕ) → Tied b t → IsEntry t.requests e → StandsAs (b.link t.link).starts (owner_of t.requests e.id) e.shape k
    → (j : ℕ) × (k ≡ setup_count (b.link t.link).starts + j) × (slice_get t.started j ≡ Some e.id)
entry_started b t e k h (inl r) place = stands_started b t e.id k e.shape h r.below place
entry_started b t e k h (inr a) place = own_started b t e k h a.is place

-- what a request is owed
--
-- what is not empty has a length
pub not_empty : (bytes : List ℕ) → bytes ≢ [] → (length bytes == 0) ≡ false
not_empty bytes some = ne_test (length bytes) 0 (λ e. some (nil_from_length bytes e))

-- by its last try
owed_by_try : (b : Book) (n : ℕ) → (b.story n).late ≡ false → (b.story n).unspoken ≡ false → bytes_of (b.story n) ≢ [] → (b.story n).overdue ≡ false → owed b n ≡ owed_to_try b (b.story n) (last_of (b.story n).tries)
owed_by_try b n early spoken some in_time = left_if (b.story n).late _ _ early ∙ left_if (b.story n).unspoken _ _ spoken ∙ left_if (length (bytes_of (b.story n)) == 0) _ _ (not_empty (bytes_of (b.story n)) some) ∙ left_if (b.story n).overdue _ _ in_time

-- where its message started as number k
pub owed_started : (b : Book) (t : TurnState) (p k : ℕ) (of_shape : Shape) → Tied b t → p < length t.requests → (b.story (name_at t.requests p)).overdue ≡ false → StandsAs (b.link t.link).starts (owner_of t.requests p) of_shape k
    → owed b (name_at t.requests p) ≡ owed_to_message (b.link t.link) k of_shape
owed_started b t p k of_shape h l in_time place =
    let n = name_at t.requests p in
    let r = request_story b t p h l in
    let starts = (b.link t.link).starts in
    let e = stands_started b t p k of_shape h l place in
    let same : shape (b.story n) ≡ of_shape = sym (h.tries.shapes e.0 p place.start l e.2 (ap (slice_get starts) (sym e.1) ∙ place.stands)) ∙ place.shaped in
    owed_by_try b n r.in_time r.spoken r.some in_time
    ∙ ap (λ ts. owed_to_try b (b.story n) (last_of ts)) (h.tries.tried e.0 p l e.2 ∙ ap (λ m. record { link = t.link; message = m } ∷ []) (sym e.1))
    ∙ ap (owed_to_message (b.link t.link) k) same

-- an open request goes to the link of the connection
pub open_on : (b : Book) (t : TurnState) (p : ℕ) → Tied b t → is_open_at t.requests p ≡ true → (b.story (name_at t.requests p)).link ≡ t.link
open_on b t p h o = (request_story b t p h (open_within t.requests p o)).on o

-- and so does what is in the queue
pub queue_on : (b : Book) (t : TurnState) (p : ℕ) → Tied b t → IsIn p (queue_ids (link_in t.life).queue) → (b.story (name_at t.requests p)).link ≡ t.link
queue_on b t p h i = by_test (has_ended t.life) _ (λ over. absurd (none_over t.life over i)) (λ up. (h.told up).here p i)
  where
    none_over : (life : Life) → has_ended life ≡ true → IsIn p (queue_ids (link_in life).queue) → ⊥
    none_over Resting over j = j
    none_over Dialing over j = j
    none_over (Wanting link) over j = j
    none_over (SettingUp link greeting) over j = j
    none_over (Ready link) over j = cc
    none_over (Ended e) over j = j

-- what it is owed where it has no message
pub owed_none_started : (b : Book) (t : TurnState) (p : ℕ) → Tied b t → is_open_at t.requests p ≡ true → (b.story (name_at t.requests p)).overdue ≡ false → (IsIn p t.started → ⊥) → owed b (name_at t.requests p) ≡ owed_waiting b.shut (b.link t.link)
owed_none_started b t p h o in_time not_started =
    let l = open_within t.requests p o in
    let n = name_at t.requests p in
    let r = request_story b t p h l in
    let g = get_some t.requests p l in
    let named : n ≡ g.0.name = name_of_some t.requests p g.0 g.1 in
    let untried : (b.story n).tries ≡ [] = ap (λ m. (b.story m).tries) named ∙ h.tries.untried p g.0 g.1 not_started (sym (ap (λ m. (b.story m).link) named) ∙ r.on o) in
    owed_by_try b n r.in_time r.spoken r.some in_time ∙ ap (λ ts. owed_to_try b (b.story n) (last_of ts)) untried ∙ ap (λ m. owed_waiting b.shut (b.link m)) (r.on o)

-- what a link has settled is what its submissions are owed
pub settled_owed : (b : Book) (t : TurnState) (s : Settled) → Tied b t → s.id < length t.requests → (b.story (name_at t.requests s.id)).overdue ≡ false → IsOwed (owner_of t.requests) (b.link t.link) s → owed b (name_at t.requests s.id) ≡ Some (outcome_of s.verdict)
settled_owed b t s h l in_time o = owed_started b t s.id o.number o.of_shape h l in_time o.place ∙ o.owes

-- a link that isn't over owes nothing
--
-- those of the queue, and those that wait, have not started
pub later_unstarted : (b : Book) (t : TurnState) (p : ℕ) → Tied b t → IsIn p (queue_ids (link_in t.life).queue ++ kept_ids t.admitted t.waiting) → IsIn p t.started → ⊥
later_unstarted b t p h i j =
    let later = queue_ids (link_in t.life).queue ++ kept_ids t.admitted t.waiting in
    let within = rising_in 0 later (length t.requests) p (rising_right 0 (requests_in t.started) later (length t.requests) h.lines.line) i in
    let k = rising_apart 0 (requests_in t.started) later (length t.requests) p p h.lines.line (request_in p t.started (request_not b t p h within.1) j) i in
    omega arith

-- nothing is owed to a message that takes items
row_unowed : (b : Book) (t : TurnState) (p : ℕ) → Tied b t → has_ended t.life ≡ false → p < length t.requests → (b.story (name_at t.requests p)).overdue ≡ false → IsIn p (row_ids (link_in t.life).row) → owed b (name_at t.requests p) ≡ None
row_unowed b t p h n l in_time i =
    let ledger = b.link t.link in
    let alive = lives ledger b.created t.life h.life n in
    let w = wanted_entry (owner_of t.requests) ledger _ (link_in t.life).row p (row_open (owner_of t.requests) ledger (link_in t.life) alive (row_link ledger t.requests t.life p i (h.link n))) i in
    let place = subst (λ m. StandsAs ledger.starts (owner_of t.requests m) w.entry.shape w.number) w.is w.open_as.place in
    owed_started b t p w.number w.entry.shape h l in_time place ∙ open_unowed (owner_of t.requests) ledger w.number w.entry alive w.open_as

-- nor to one that waits, unless everything was shut down while the connection has no link
--
abbrev pub IsAwake : TurnState → Type 0
IsAwake t = is_resting t.life ≡ true → t.shut ≡ false

-- so nothing is owed to who has no message
waiting_unowed : (b : Book) (t : TurnState) → Tied b t → IsAwake t → has_ended t.life ≡ false → owed_waiting b.shut (b.link t.link) ≡ None
waiting_unowed b t h awake n = by_test (is_resting t.life) _ (λ rests. ap (λ s. owed_waiting s l) (h.numbers.shut ∙ awake rests) ∙ alive) (λ there. owed_asked b.shut l (is_asked l b.created t.life there h.life) ∙ alive)
  where
    l : Ledger
    l = b.link t.link

    alive : owed_unstarted l.end ≡ None
    alive = ap owed_unstarted (lives l b.created t.life h.life n)

later_unowed : (b : Book) (t : TurnState) (p : ℕ) → Tied b t → IsAwake t → has_ended t.life ≡ false → is_open_at t.requests p ≡ true → (b.story (name_at t.requests p)).overdue ≡ false → IsIn p (queue_ids (link_in t.life).queue ++ kept_ids t.admitted t.waiting) → owed b (name_at t.requests p) ≡ None
later_unowed b t p h awake n o in_time i = owed_none_started b t p h o in_time (later_unstarted b t p h i) ∙ waiting_unowed b t h awake n

-- and so to none of the line
pub line_unowed : (b : Book) (t : TurnState) (p : ℕ) → Tied b t → IsAwake t → has_ended t.life ≡ false → is_open_at t.requests p ≡ true → (b.story (name_at t.requests p)).overdue ≡ false → IsIn p (line_of (link_in t.life) t.admitted t.waiting) → owed b (name_at t.requests p) ≡ None
line_unowed b t p h awake n o in_time i = elim (in_either p (requests_in (wanted (link_in t.life).row)) (queue_ids (link_in t.life).queue ++ kept_ids t.admitted t.waiting) i) [
  | inl j ↦ row_unowed b t p h n (open_within t.requests p o) in_time (wanted_in p (link_in t.life).row (request_of p (wanted (link_in t.life).row) j))
  | inr j ↦ later_unowed b t p h awake n o in_time j
]

-- an open request that is not to be answered is in time
pub in_time : (b : Book) (t : TurnState) (p : ℕ) → Tied b t → is_open_at t.requests p ≡ true → (IsIn p t.pending → ⊥) → (b.story (name_at t.requests p)).overdue ≡ false
in_time b t p h o apart = by_test (b.story (name_at t.requests p)).overdue _ (λ late. absurd (apart (h.late p o late))) (λ f. f)

-- where nothing is to be answered, no open submission is owed an outcome
pub none_owed : (b : Book) (t : TurnState) → Tied b t → IsAwake t → t.pending ≡ [] → has_ended t.life ≡ false → NoneIsOwed b
none_owed b t h awake none n m o =
    let r = open_request b t m h o in
    let i = open_in_line b.story t.requests (link_in t.life) t.waiting t.admitted t.pending t.started r.number h.lines r.open_at in
    let j = subst (λ ns. IsIn r.number (ns ++ line_of (link_in t.life) t.admitted t.waiting)) none i in
    ap (owed b) (sym r.named) ∙ line_unowed b t r.number h awake n r.open_at (in_time b t r.number h r.open_at (λ k. subst (IsIn r.number) none k)) j

-- without a link, or on one that has ended, where none waits, none is open
pub none_open : (b : Book) (t : TurnState) (life : Life) (n : ℕ) → line_of (link_in life) t.admitted t.waiting ≡ kept_ids t.admitted t.waiting → Tied b t → t.pending ≡ [] → t.life ≡ life → kept_ids t.admitted t.waiting ≡ [] → IsOpen b n → ⊥
none_open b t life m bare h none over empty o =
    let r = open_request b t m h o in
    let i = open_in_line b.story t.requests (link_in t.life) t.waiting t.admitted t.pending t.started r.number h.lines r.open_at in
    let j = subst (λ ns. IsIn r.number (ns ++ line_of (link_in t.life) t.admitted t.waiting)) none i in
    let k = subst (λ life. IsIn r.number (line_of (link_in life) t.admitted t.waiting)) over j in
    subst (IsIn r.number) (bare ∙ empty) k

-- where the opening of a link failed, this was shown
--
-- of any link
pub failures_shown : (b : Book) (t : TurnState) → Tied b t → FailuresAreShown b
failures_shown b t h m = by_test (m == t.link) (FailureIsShown (b.link m).end b.created)
    (λ same. subst (λ k. FailureIsShown (b.link k).end b.created) (sym (eq_from m t.link same)) (failure_shown (b.link t.link) b.created t.life h.life))
    (λ other. (h.others m (ne_from m t.link other)).shown)

-- where a link is ready, or its opening failed, the creation was shown
pub created_is : (b : Book) (t : TurnState) → Tied b t → IsCreated b
created_is b t h = record {
  shown = ready_shown b t h;
  failed = failures_shown b t h;
  lazy = h.numbers.lazy;
}

-- all notices that came were told, where none is still to be
pub notices_told : (b : Book) (t : TurnState) → Tied b t → t.untold ≡ [] → NoticesAreTold b
notices_told b t h none m heard = by_test (m == t.link) _
    (λ same. subst (λ k. next_notice (b.link k) ≡ None) (sym (eq_from m t.link same)) (get_behind (b.link t.link).told (b.link t.link).notices (h.notices.untold_is (ap hears_something (sym h.notices.heard_is) ∙ heard) ∙ none)))
    (λ other. (h.others m (ne_from m t.link other)).told (ap hears_something (sym h.notices.heard_is) ∙ heard))

-- and so was the end of each link, where none is
pub ends_told : (b : Book) (t : TurnState) → Tied b t → t.parting ≡ false → EndsAreTold b
ends_told b t h none m heard cut = by_test (m == t.link) _
    (λ same. let e = eq_from m t.link same in subst (λ k. (b.link k).parted ≡ true) (sym e) (h.notices.parts (ap hears_pushes (sym h.notices.heard_is) ∙ heard) none (subst (λ k. is_cut (b.link k).end ≡ true) e cut)))
    (λ other. (h.others m (ne_from m t.link other)).parts (ap hears_pushes (sym h.notices.heard_is) ∙ heard) cut)

-- the entries of a row are started one after another
row_places : (b : Book) (t : TurnState) (k j : ℕ) (row : List Entry) → Tied b t → k ≡ setup_count (b.link t.link).starts + j → AllByRecursion (IsEntry t.requests) row → OpenFrom (owner_of t.requests) (b.link t.link) k row → AtPlaces t.started j (row_ids row)
row_places b t k j [] h at all open_all = tt
row_places b t k j (e ∷ es) h at all open_all =
    let s = entry_started b t e k h all.0 open_all.0.place in
    let same : s.0 ≡ j = (let other = s.1 in omega arith) in
    (ap (slice_get t.started) (sym same) ∙ s.2, row_places b t (suc k) (suc j) es h (omega arith) all.1 open_all.1)

-- the entries of requests and all behind them rise, on a link that has not ended
pub row_in_line : (b : Book) (t : TurnState) → Tied b t → has_ended t.life ≡ false → Rising 0 (requests_in (row_ids (link_in t.life).row) ++ (queue_ids (link_in t.life).queue ++ kept_ids t.admitted t.waiting)) (length t.requests)
row_in_line b t h n = by_row (link_in t.life).row refl
  where
    later : List ℕ
    later = queue_ids (link_in t.life).queue ++ kept_ids t.admitted t.waiting

    by_row : (row : List Entry) → (link_in t.life).row ≡ row → Rising 0 (requests_in (row_ids row) ++ later) (length t.requests)
    by_row [] e = rising_right 0 (requests_in t.started) later (length t.requests) h.lines.line
    by_row (x ∷ xs) e =
        let l = b.link t.link in
        let from = full_count l.starts l.dealt in
        let i : IsIn x.id (row_ids (link_in t.life).row) = subst (λ (row : List Entry). IsIn x.id (row_ids row)) (sym e) (inl refl) in
        let all = subst (λ (row : List Entry). OpenFrom (owner_of t.requests) l from row) e (row_open (owner_of t.requests) l (link_in t.life) (lives l b.created t.life h.life n) (row_link l t.requests t.life x.id i (h.link n))) in
        let entries = subst (AllByRecursion (IsEntry t.requests)) e h.lines.entries in
        let first = entry_started b t x from h entries.0 all.0.place in
        places_rise 0 t.started first.0 (row_ids (x ∷ xs)) later (length t.requests) (row_places b t from first.0 (x ∷ xs) h first.1 entries all) h.lines.line

-- and so does the line
pub in_line : (b : Book) (t : TurnState) → Tied b t → has_ended t.life ≡ false → IsInLine t.requests (link_in t.life) t.admitted t.waiting []
in_line b t h n = wanted_rises 0 (link_in t.life).row (queue_ids (link_in t.life).queue ++ kept_ids t.admitted t.waiting) (length t.requests) (row_in_line b t h n)
