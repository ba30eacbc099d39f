-- How many stand in line before a submission.
use Rattle.std.proofs.Common.{List, [], ap, arith, false, inl, inr, length, refl, subst, sym, true, zero, suc, ℕ, ◌+◌, ◌<◌, ◌≤◌, ◌∙◌, ◌∷◌, ◌≡◌, ◌≢◌, ◌⊎◌}
use Rattle.std.specs.List.{AllByRecursion}
use Rattle.std.specs.Prelude.{Bool, Option, None, Some, is_none, is_some, slice_get, if◌then◌else◌, not, nat_lt, ◌==◌, ◌&&◌, ◌||◌}
use Rattle.containers.proofs.Choices.{by_test, lt_from, eq_from, left_if, ne_from, taken_if}
use Rattle.sub_tracker.specs.Subscribed.{Request as Call}
use Rattle.driver_model.specs.declared.action.WaitKind.{WaitKind}
use Rattle.driver_model.specs.declared.action.WaitKind.TheVariants as wait
use Rattle.link_core.specs.Link.{LinkState}
use Rattle.link_core.specs.declared.message.Queued.{Queued}
use Rattle.link_laws.proofs.TiedLink.{TiedLink}
use Rattle.link_laws.specs.Settles.{awaited_ids}
use Rattle.mux_conn.specs.Connection.{is_ready}
use Rattle.mux_conn.specs.Requests.{if_there, is_admitted, is_admitted_at, is_open as is_open_progress, is_open_at, is_placed, is_placed_at, is_waiting, is_waiting_at, name_at}
use Rattle.mux_conn.specs.declared.life.Life.{Life}
use Rattle.mux_conn.specs.declared.life.Life.TheVariants.{Resting, Dialing, Ended, Ready, Wanting, SettingUp}
use Rattle.mux_conn.specs.declared.request.Pending.{Pending}
use Rattle.mux_conn.specs.declared.request.Progress.{Progress}
use Rattle.mux_conn.specs.declared.request.Progress.TheVariants as progress
use Rattle.mux_conn.specs.declared.request.Request.{Request}
use Rattle.legal_trace.specs.Ledger.{Ledger, dials, is_over, is_set_up}
use Rattle.legal_trace.specs.Steps.{Step, is_in_line, line_before, step_holding, step_rounding, step_timed}
use Rattle.legal_trace.specs.Story.{Story, is_awaited, is_room, is_told}
use Rattle.conn_laws.proofs.Ties.Behind.{nil_told}
use Rattle.conn_laws.proofs.Ties.Names.{names_rise}
use Rattle.conn_laws.proofs.Ties.Numbers.{IsIn, Rising, in_left, in_right, rising_within}
use Rattle.conn_laws.proofs.Links.Server.{HasSaid}
use Rattle.conn_laws.proofs.Ties.Tied.{IsQueued, TiedLife, TiedNames, carried, has_ended, link_in, owner_of, queue_ids, whole_link}
use Rattle.conn_laws.proofs.Internal.Repeats.{TiedRepeat, IsRepeated}
use Rattle.mux_conn.specs.declared.again.Again.{Again}

-- counts
--
-- all but this number
abbrev others : ℕ → List ℕ → List ℕ
others n [] = []
others n (x ∷ xs) = if x == n then others n xs else x ∷ others n xs

-- they are no more
others_fewer : (n : ℕ) (xs : List ℕ) → length (others n xs) ≤ length xs
others_fewer n [] = omega arith
others_fewer n (x ∷ xs) =
    let rest = others_fewer n xs in
    by_test (x == n) _
    (λ t. let e : others n (x ∷ xs) ≡ others n xs = taken_if (x == n) (others n xs) (x ∷ others n xs) t in let k : length (others n (x ∷ xs)) ≡ length (others n xs) = ap length e in omega arith)
    (λ f. let e : others n (x ∷ xs) ≡ x ∷ others n xs = left_if (x == n) (others n xs) (x ∷ others n xs) f in let k : length (others n (x ∷ xs)) ≡ suc (length (others n xs)) = ap length e in omega arith)

-- and fewer where it is one of them
others_less : (n : ℕ) (xs : List ℕ) → IsIn n xs → length (others n xs) < length xs
others_less n [] i = absurd i
others_less n (x ∷ xs) i =
    by_test (x == n) _
    (λ t. let e : others n (x ∷ xs) ≡ others n xs = taken_if (x == n) (others n xs) (x ∷ others n xs) t in let k : length (others n (x ∷ xs)) ≡ length (others n xs) = ap length e in let rest = others_fewer n xs in omega arith)
    (λ f.
    let e : others n (x ∷ xs) ≡ x ∷ others n xs = left_if (x == n) (others n xs) (x ∷ others n xs) f in
    let k : length (others n (x ∷ xs)) ≡ suc (length (others n xs)) = ap length e in
    elim i [ inl same ↦ absurd (ne_from x n f same) | inr j ↦ let rest = others_less n xs j in omega arith ])

-- any other is one of them still
others_in : (n m : ℕ) (xs : List ℕ) → m ≢ n → IsIn m xs → IsIn m (others n xs)
others_in n m [] other i = absurd i
others_in n m (x ∷ xs) other i =
    by_test (x == n) _
    (λ t. subst (IsIn m) (sym (taken_if (x == n) (others n xs) (x ∷ others n xs) t)) (elim i [ inl same ↦ absurd (other (sym same ∙ eq_from x n t)) | inr j ↦ others_in n m xs other j ]))
    (λ f. subst (IsIn m) (sym (left_if (x == n) (others n xs) (x ∷ others n xs) f)) (elim i [ inl same ↦ inl same | inr j ↦ inr (others_in n m xs other j) ]))

-- one more in line
pub line_next : (limit : Option ℕ) (story : ℕ → Story) (l n : ℕ) → is_in_line limit l (story n) ≡ true → line_before limit story l (suc n) ≡ line_before limit story l n + 1
line_next limit story l n e = ap (λ k. line_before limit story l n + k) (taken_if (is_in_line limit l (story n)) 1 0 e)

-- and one that isn't
line_same : (limit : Option ℕ) (story : ℕ → Story) (l n : ℕ) → is_in_line limit l (story n) ≡ false → line_before limit story l (suc n) ≡ line_before limit story l n + 0
line_same limit story l n e = ap (λ k. line_before limit story l n + k) (left_if (is_in_line limit l (story n)) 1 0 e)

-- where each that stands in line before n is one of these, they are no fewer than the line
pub line_most : (limit : Option ℕ) (story : ℕ → Story) (l n : ℕ) (ns : List ℕ) → ((m : ℕ) → m < n → is_in_line limit l (story m) ≡ true → IsIn m ns) → line_before limit story l n ≤ length ns
line_most limit story l zero ns all = omega arith
line_most limit story l (suc n) ns all =
    by_test (is_in_line limit l (story n)) _
    (λ t.
    let next = line_next limit story l n t in
    let rest = line_most limit story l n (others n ns) (λ m less e. others_in n m ns (λ same. absurd (omega arith)) (all m (omega arith) e)) in
    let less = others_less n ns (all n (omega arith) t) in
    omega arith)
    (λ f.
    let same = line_same limit story l n f in
    let rest = line_most limit story l n ns (λ m less e. all m (omega arith) e) in
    omega arith)

-- the line grows
line_grows : (limit : Option ℕ) (story : ℕ → Story) (l lo n : ℕ) → lo ≤ n → line_before limit story l lo ≤ line_before limit story l n
line_grows limit story l lo zero le = let e : lo ≡ 0 = omega arith in let k = ap (line_before limit story l) e in omega arith
line_grows limit story l lo (suc n) le =
    by_test (lo == suc n) _
    (λ t. let k = ap (line_before limit story l) (eq_from lo (suc n) t) in omega arith)
    (λ f.
    let other = ne_from lo (suc n) f in
    let rest = line_grows limit story l lo n (omega arith) in
    by_test (is_in_line limit l (story n)) _ (λ t. let next = line_next limit story l n t in omega arith) (λ g. let same = line_same limit story l n g in omega arith))

-- where each of these stands in line, the line is no shorter
pub line_least : (limit : Option ℕ) (story : ℕ → Story) (l lo : ℕ) (ns : List ℕ) (n : ℕ) → Rising lo ns n → ((m : ℕ) → IsIn m ns → is_in_line limit l (story m) ≡ true) → length ns + line_before limit story l lo ≤ line_before limit story l n
line_least limit story l lo [] n h all = let k = line_grows limit story l lo n h in omega arith
line_least limit story l lo (x ∷ xs) n h all =
    let rest = line_least limit story l (suc x) xs n h.1 (λ m i. all m (inr i)) in
    let next = line_next limit story l x (all x (inl refl)) in
    let grown = line_grows limit story l lo x h.0 in
    omega arith

-- names of requests
--
abbrev pub names_of : List Request → List ℕ → List ℕ
names_of requests [] = []
names_of requests (p ∷ ps) = name_at requests p ∷ names_of requests ps

-- there are as many
pub names_length : (requests : List Request) (qs : List Queued) → length (names_of requests (queue_ids qs)) ≡ length qs
names_length requests [] = refl
names_length requests (q ∷ qs) = ap suc (names_length requests qs)

-- the name of one of them is one
pub names_in : (requests : List Request) (ps : List ℕ) (p : ℕ) → IsIn p ps → IsIn (name_at requests p) (names_of requests ps)
names_in requests [] p i = absurd i
names_in requests (x ∷ xs) p (inl e) = inl (ap (name_at requests) e)
names_in requests (x ∷ xs) p (inr i) = inr (names_in requests xs p i)

-- and the other way round
pub names_from : (requests : List Request) (ps : List ℕ) (m : ℕ) → IsIn m (names_of requests ps) → (p : ℕ) × IsIn p ps × (name_at requests p ≡ m)
names_from requests [] m i = absurd i
names_from requests (x ∷ xs) m (inl e) = (x, inl refl, e)
names_from requests (x ∷ xs) m (inr i) = let k = names_from requests xs m i in (k.0, inr k.1, k.2)

-- they rise as the requests do
pub names_rising : (table : List (Option Pending)) (requests : List Request) (lo low : ℕ) (ps : List ℕ) (q : ℕ) → TiedNames table requests → q < length requests → ((p : ℕ) → lo ≤ p → p ≤ q → low ≤ name_at requests p) → Rising lo ps q
    → Rising low (names_of requests ps) (name_at requests q)
names_rising table requests lo low [] q h l bound rises = bound q rises (omega arith)
names_rising table requests lo low (p ∷ ps) q h l bound rises =
    let within = rising_within (suc p) ps q rises.1 in (
      bound p rises.0 (omega arith),
      names_rising table requests (suc p) (suc (name_at requests p)) ps q h l (λ r after upto. names_rise table requests p r h (omega arith) (omega arith)) rises.1,
    )

-- the step of a submission on a link that is up
--
-- where one of these is in the queue of a link, it holds no more than this size, with so many before it
abbrev pub HasSeats : List ℕ → ℕ → LinkState → ℕ → Type 0
HasSeats moved front link size = (p : ℕ) → IsIn p moved → IsIn p (queue_ids link.queue) → front + length link.queue ≤ size

-- a link that is up has not ended
pub ready_alive : (life : Life) → is_ready life ≡ true → has_ended life ≡ false
ready_alive Resting e = refl
ready_alive Dialing e = refl
ready_alive (Wanting link) e = refl
ready_alive (SettingUp link greeting) e = refl
ready_alive (Ready link) e = refl
ready_alive (Ended x) e = cc

-- its life is that of its link
pub ready_is : (life : Life) → is_ready life ≡ true → life ≡ Ready (link_in life)
ready_is Resting e = cc
ready_is Dialing e = cc
ready_is (Wanting link) e = cc
ready_is (SettingUp link greeting) e = cc
ready_is (Ready link) e = refl
ready_is (Ended x) e = cc

-- and its ledger says that it is up
pub ready_up : (l : Ledger) (created : ℕ) (life : Life) → is_ready life ≡ true → TiedLife l created life → l.up ≡ true
ready_up l created Resting e h = cc
ready_up l created Dialing e h = cc
ready_up l created (Wanting link) e h = cc
ready_up l created (SettingUp link greeting) e h = cc
ready_up l created (Ready link) e h = h.1
ready_up l created (Ended x) e h = cc

-- and that it is set up
pub ready_set : (l : Ledger) (started : List ℕ) (life : Life) → is_ready life ≡ true → HasSaid l started life → is_set_up l ≡ true
ready_set l started Resting e h = cc
ready_set l started Dialing e h = cc
ready_set l started (Wanting link) e h = cc
ready_set l started (SettingUp link greeting) e h = cc
ready_set l started (Ready link) e h = h.well
ready_set l started (Ended x) e h = cc

-- it carries the messages of requests
pub ready_link : (l : Ledger) (requests : List Request) (life : Life) → is_ready life ≡ true → TiedLink (carried life requests) l (whole_link life) → TiedLink (owner_of requests) l (link_in life)
ready_link l requests Resting e h = cc
ready_link l requests Dialing e h = cc
ready_link l requests (Wanting link) e h = cc
ready_link l requests (SettingUp link greeting) e h = cc
ready_link l requests (Ready link) e h = h
ready_link l requests (Ended x) e h = cc

-- what is up doesn't dial
pub up_dials : (l : Ledger) → l.up ≡ true → dials l ≡ false
up_dials l up = (λ i. l.asked && not (up i) && not (is_over l)) ∙ none_of l.asked (not (is_over l))
  where
    none_of : (a c : Bool) → (a && false && c) ≡ false
    none_of true c = refl
    none_of false c = refl

-- what is subscribed again is tied so on a link that is up and set up
pub ready_repeated : (l : Ledger) (calls : List Call) (within : Option ℕ) (a : Again) (life : Life) → is_ready life ≡ true → TiedRepeat l calls within a life → IsRepeated l calls within a
ready_repeated l calls within a Resting e h = cc
ready_repeated l calls within a Dialing e h = cc
ready_repeated l calls within a (Wanting link) e h = cc
ready_repeated l calls within a (SettingUp link greeting) e h = cc
ready_repeated l calls within a (Ready link) e h = h
ready_repeated l calls within a (Ended x) e h = cc

-- of one whose round has begun, where rounds are shown
pub rounded_next : (comes rounded : Bool) (next : Step) → (comes ≡ true → rounded ≡ true) → step_rounding comes rounded next ≡ next
rounded_next true true next e = refl
rounded_next true false next e = cc (e refl)
rounded_next false rounded next e = refl

-- who holds its permits takes none
pub holding_next : (limit : Option ℕ) (held : ℕ) (taking : ℕ → Step) (next : Step) → (is_none limit || nat_lt 0 held) ≡ true → step_holding limit held taking next ≡ next
holding_next None held taking next e = refl
holding_next (Some k) zero taking next e = absurd (let no = lt_from 0 0 e in omega arith)
holding_next (Some k) (suc held) taking next e = refl

-- whose timer was asked for, or who has no time, asks for none
pub timed_next : (timeout clock : Option ℕ) (next : Step) → (is_none timeout || is_some clock) ≡ true → step_timed timeout clock next ≡ next
timed_next None clock next e = refl
timed_next (Some ms) None next e = cc
timed_next (Some ms) (Some t) next e = refl

-- what was shown of its wait is no room
pub not_room : (shown : Option WaitKind) → shown ≢ Some wait.Room → is_room shown ≡ false
not_room None other = refl
not_room (Some wait.Room) other = absurd (other refl)
not_room (Some wait.Connect) other = refl
not_room (Some wait.Creds) other = refl
not_room (Some wait.Setup) other = refl
not_room (Some wait.Resubscribe) other = refl
not_room (Some wait.Backoff) other = refl
not_room (Some wait.Permit) other = refl
not_room (Some wait.Place) other = refl

-- a message of the queue is awaited there, or was told
pub queue_awaited : (story : ℕ → Story) (requests : List Request) (qs : List Queued) (p : ℕ) → AllByRecursion (IsQueued story requests) qs → IsIn p (queue_ids qs) → IsIn p (awaited_ids qs) ⊎ (is_told (story (name_at requests p)) ≡ true)
queue_awaited story requests [] p all i = absurd i
queue_awaited story requests (q ∷ qs) p all (inl e) =
    by_test q.awaited _
    (λ t. inl (in_left p (if q.awaited then q.id ∷ [] else []) (awaited_ids qs) (subst (IsIn p) (sym (taken_if q.awaited (q.id ∷ []) [] t)) (inl e))))
    (λ f. inr (subst (λ m. is_told (story (name_at requests m)) ≡ true) e (nil_told (story (name_at requests q.id)) (sym all.0.is_of.awaited_is ∙ f) (all.0.told f))))
queue_awaited story requests (q ∷ qs) p all (inr i) =
    elim (queue_awaited story requests qs p all.1 i) [ inl j ↦ inl (in_right p (if q.awaited then q.id ∷ [] else []) (awaited_ids qs) j) | inr e ↦ inr e ]

-- a message of the queue has its place while its reply is awaited, and else it was told
pub queue_alive : (story : ℕ → Story) (requests : List Request) (qs : List Queued) (p : ℕ) → AllByRecursion (IsQueued story requests) qs → IsIn p (queue_ids qs)
    → ((is_awaited (story (name_at requests p)) ≡ true) × (is_placed_at requests p ≡ true)) ⊎ (is_told (story (name_at requests p)) ≡ true)
queue_alive story requests [] p all i = absurd i
queue_alive story requests (q ∷ qs) p all (inl e) =
    subst (λ m. ((is_awaited (story (name_at requests m)) ≡ true) × (is_placed_at requests m ≡ true)) ⊎ (is_told (story (name_at requests m)) ≡ true)) e
    (by_test q.awaited _
    (λ t. inl (sym all.0.is_of.awaited_is ∙ t, all.0.placed_at t))
    (λ f. inr (nil_told (story (name_at requests q.id)) (sym all.0.is_of.awaited_is ∙ f) (all.0.told f))))
queue_alive story requests (q ∷ qs) p all (inr i) = queue_alive story requests qs p all.1 i

-- one that has its place is open
pub placed_open : (requests : List Request) (p : ℕ) → is_placed_at requests p ≡ true → is_open_at requests p ≡ true
placed_open requests p e = by_request (slice_get requests p) e
  where
    by_progress : (r : Progress) → is_placed r ≡ true → is_open_progress r ≡ true
    by_progress progress.Waiting e = cc
    by_progress progress.Begun e = cc
    by_progress progress.Admitted e = cc
    by_progress progress.Placed e = refl
    by_progress progress.Closed e = cc

    by_request : (r : Option Request) → if_there is_placed r ≡ true → if_there is_open_progress r ≡ true
    by_request None e = cc
    by_request (Some r) e = by_progress r.progress e

-- one that waits for a place is open, and has none
pub admitted_open : (requests : List Request) (p : ℕ) → is_admitted_at requests p ≡ true → (is_open_at requests p ≡ true) × (is_placed_at requests p ≡ false)
admitted_open requests p e = by_request (slice_get requests p) e
  where
    by_progress : (r : Progress) → is_admitted r ≡ true → (is_open_progress r ≡ true) × (is_placed r ≡ false)
    by_progress progress.Waiting e = cc
    by_progress progress.Begun e = cc
    by_progress progress.Admitted e = (refl, refl)
    by_progress progress.Placed e = cc
    by_progress progress.Closed e = cc

    by_request : (r : Option Request) → if_there is_admitted r ≡ true → (if_there is_open_progress r ≡ true) × (if_there is_placed r ≡ false)
    by_request None e = cc
    by_request (Some r) e = by_progress r.progress e

-- and so is one that waits for the connection
pub early_open : (requests : List Request) (p : ℕ) → is_waiting_at requests p ≡ true → (is_open_at requests p ≡ true) × (is_placed_at requests p ≡ false)
early_open requests p e = by_request (slice_get requests p) e
  where
    by_progress : (r : Progress) → is_waiting r ≡ true → (is_open_progress r ≡ true) × (is_placed r ≡ false)
    by_progress progress.Waiting e = (refl, refl)
    by_progress progress.Begun e = (refl, refl)
    by_progress progress.Admitted e = cc
    by_progress progress.Placed e = cc
    by_progress progress.Closed e = cc

    by_request : (r : Option Request) → if_there is_waiting r ≡ true → (if_there is_open_progress r ≡ true) × (if_there is_placed r ≡ false)
    by_request None e = cc
    by_request (Some r) e = by_progress r.progress e

-- the step of a submission while the connect isn't answered
--
pub dialing_dials : (l : Ledger) (created : ℕ) (life : Life) → life ≡ Dialing → TiedLife l created life → dials l ≡ true
dialing_dials l created Resting e h = cc
dialing_dials l created Dialing e h = λ i. h.0 i && not (h.1 i) && not (is_some (h.2 i))
dialing_dials l created (Wanting link) e h = cc
dialing_dials l created (SettingUp link greeting) e h = cc
dialing_dials l created (Ready link) e h = cc
dialing_dials l created (Ended x) e h = cc
