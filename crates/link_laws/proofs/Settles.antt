-- What a link settles is what its ledger owes.
use Rattle.std.proofs.Common.{◌≡◌, ℕ, suc, ◌+◌, ◌-◌, ◌<◌, ◌≤◌, ◌==◌, nat_le, Bool, true, false, List, [], ◌∷◌, length, take, drop, Some, None, slice_get, refl, sym, ap, ◌∙◌, subst, arith, add-one, length-drop}
use Rattle.std.specs.List.{AllByRecursion}
use Rattle.containers.proofs.Choices.{chosen, taken_if, left_if, le_from, not_le_from, le_test, not_le_test, eq_test, ne_test}
use Rattle.resp_value.specs.Data.{Data}
use Rattle.redis_error.specs.declared.redis_error.RedisError.{RedisError}
use Rattle.redis_error.specs.declared.redis_error.RedisError.TheVariants as error
use Rattle.driver_model.specs.declared.action.Owner.{Owner}
use Rattle.driver_model.specs.declared.hearing.Hearing.{Hearing}
use Rattle.driver_model.specs.declared.news.LinkFault.{LinkFault}
use Rattle.driver_model.specs.declared.news.LinkFault.TheVariants as fault
use Rattle.driver_model.specs.declared.outcome.Outcome.TheVariants as outcome
use Rattle.driver_model.specs.declared.outcome.Verdict.{Verdict}
use Rattle.driver_model.specs.declared.outcome.Shape.{Shape}
use Rattle.driver_model.specs.declared.outcome.Shape.TheVariants.{Single, Pipeline, Confirmation}
use Rattle.driver_model.specs.Shape.{need_of, verdict_of, outcome_of}
use Rattle.driver_model.specs.News.{came}
use Rattle.link_core.specs.declared.message.Entry.{Entry}
use Rattle.link_core.specs.declared.message.Queued.{Queued}
use Rattle.link_core.specs.declared.message.Settled.{Settled}
use Rattle.link_core.specs.Ends.{failed_by, error_of, hit_by, row_closed, row_hit, queue_closed}
use Rattle.link_core.specs.Link.{LinkState, Reading, piece_read}
use Rattle.link_core.specs.Row.{lack_of, lack_of_row}
use Rattle.legal_trace.specs.Ledger.{Start, fault_error, hears, noted, End, Ending, by_shutdown, by_fault, Ledger, reach, ending, ending_or_shutdown, lasting, is_ready, full_count, ended, cut, is_full}
use Rattle.legal_trace.proofs.Endings.{lasting_oldest}
use Rattle.legal_trace.specs.Owed.{oldest_error, owed_by, cut_off, owed_to_message, owed_unstarted}
use Rattle.link_laws.specs.Settles.{StandsAs, IsOwed, IsOwedUnstarted}
use Rattle.link_laws.proofs.Rows.{Open, untouched_each, open_rows, open_list, StandFrom, rows_stand, unfilled}
use Rattle.link_laws.proofs.Dealt.{IsCutOf, AreCuts, all_append}
use Rattle.link_laws.proofs.TiedLink.{ReadsAlike, reads_on, read_taken, heard_is, TiedLink, has_heard, deals}

-- items
--
-- the message that started as number k has its items where its start and those before it reach no further than was dealt
pub is_full_from : (l : Ledger) (k : ℕ) → reach (take (suc k) l.starts) l.dealt ≤ length l.dealt → is_full l k ≡ true
is_full_from l k far = le_test _ _ (subst (λ (n : ℕ). reach (take n l.starts) l.dealt ≤ length l.dealt) (sym (add-one k)) far)

-- a full message is owed the verdict of its cut
pub full_owes : (l : Ledger) (k : ℕ) (of_shape : Shape) (got : List Data) (v : Verdict) → reach (take (suc k) l.starts) l.dealt ≤ length l.dealt → got ≡ cut l k of_shape → v ≡ verdict_of of_shape got → owed_to_message l k of_shape ≡ Some (outcome_of v)
full_owes l k of_shape got v far cut_is verdict_is =
    taken_if (is_full l k) (Some (outcome_of (verdict_of of_shape (cut l k of_shape)))) _ (is_full_from l k far)
    ∙ ap (λ (items : List Data). Some (outcome_of (verdict_of of_shape items))) (sym cut_is)
    ∙ ap (λ x. Some (outcome_of x)) (sym verdict_is)

-- so it is owed what it settled
pub cut_owed : (name : ℕ → Owner) (l : Ledger) (s : Settled) → IsCutOf name l.starts l.dealt s → IsOwed name l s
cut_owed name l s h = record {
  number = h.cut.number;
  of_shape = h.of_shape;
  place = h.cut.place;
  owes = full_owes l h.cut.number h.of_shape h.got s.verdict h.cut.full h.cut.cut_is h.verdict_is;
}

-- and so is each of them
pub cuts_owed : (name : ℕ → Owner) (l : Ledger) (out : List Settled) → AreCuts name l.starts l.dealt out → AllByRecursion (IsOwed name l) out
cuts_owed name l [] all = tt
cuts_owed name l (s ∷ ss) all = (cut_owed name l s all.0, cuts_owed name l ss all.1)

-- what bytes settle is owed
pub read_owed : (name : ℕ → Owner) (h : Hearing) (ready : Bool) (l : Ledger) (s : LinkState) (piece : List ℕ) → l.end ≡ None → ReadsAlike h ready l s piece → TiedLink name l s → AllByRecursion (IsOwed name (has_heard l piece)) (deals h ready s piece).out
read_owed name h ready l s piece lives alike k = cuts_owed name (has_heard l piece) (deals h ready s piece).out (read_taken name h ready l s piece lives alike k).deals.cuts

-- what a call with bytes settles is owed, where the link is up, has not ended, and is not broken
pub came_owed : (name : ℕ → Owner) (h : Hearing) (ready : Bool) (l : Ledger) (s : LinkState) (turn : ℕ) (piece : List ℕ) → l.up ≡ true → l.end ≡ None → s.broken ≡ false → ReadsAlike h ready l s piece → TiedLink name l s
    → AllByRecursion (IsOwed name (noted l (hears turn (came piece)))) (piece_read h ready s piece).out
came_owed name h ready l s turn piece up lives sound alike k =
    subst (λ (x : Reading). AllByRecursion (IsOwed name (noted l (hears turn (came piece)))) x.out) (sym (reads_on h ready s piece sound))
    (subst (λ (x : Ledger). AllByRecursion (IsOwed name x) (deals h ready s piece).out) (sym (heard_is l turn piece up)) (read_owed name h ready l s piece lives alike k))

-- the end
--
pub is_not_full : (l : Ledger) (k : ℕ) → length l.dealt < reach (take (suc k) l.starts) l.dealt → is_full l k ≡ false
is_not_full l k far = not_le_test _ _ (subst (λ (n : ℕ). length l.dealt < reach (take n l.starts) l.dealt) (sym (add-one k)) far)

-- how a link ends
abbrev pub end_of : Ledger → ℕ → End
end_of l turn = record { turn = turn; why = lasting l.last (ending_or_shutdown (ending l)); oldest = full_count l.starts l.dealt; served = is_ready l }

-- a message that wasn't full when its link ended is cut off
cut_off_owed : (l : Ledger) (turn k : ℕ) (s : Start) (of_shape : Shape) (e : RedisError) → slice_get l.starts k ≡ Some s → full_count l.starts l.dealt ≤ k → cut_off (end_of l turn) k of_shape ≡ e
    → owed_to_message (ended l turn) k of_shape ≡ Some (outcome.Fault e)
cut_off_owed l turn k s of_shape e stands late is =
    left_if (is_full (ended l turn) k) _ _ (is_not_full (ended l turn) k (unfilled l.starts l.dealt k s stands late)) ∙ ap (λ x. Some (outcome.Fault x)) is

-- what a message that is awaited gets, if that is owed to it
failed_owed : (name : ℕ → Owner) (l : Ledger) (awaited : Bool) (id k : ℕ) (of_shape : Shape) (e : RedisError) → StandsAs l.starts (name id) of_shape k → owed_to_message l k of_shape ≡ Some (outcome.Fault e)
    → AllByRecursion (IsOwed name l) (failed_by awaited id e)
failed_owed name l true id k of_shape e place owes = (record { number = k; of_shape = of_shape; place = place; owes = owes }, tt)
failed_owed name l false id k of_shape e place owes = tt

-- all but the oldest get the closed connection
later_owed : (name : ℕ → Owner) (l : Ledger) (turn k : ℕ) (es : List Entry) → full_count l.starts l.dealt < k → StandFrom l.starts k (open_list name es) → AllByRecursion (IsOwed name (ended l turn)) (row_closed es)
later_owed name l turn k [] late all = tt
later_owed name l turn k (e ∷ es) late all =
    let apart : (k == full_count l.starts l.dealt) ≡ false = ne_test _ _ (λ same. absurd (omega arith)) in
    let off : cut_off (end_of l turn) k e.shape ≡ error.Closed = left_if (k == full_count l.starts l.dealt) _ _ apart in
    all_append (IsOwed name (ended l turn)) (failed_by e.awaited e.id error.Closed) (row_closed es)
    (failed_owed name (ended l turn) e.awaited e.id k e.shape error.Closed all.0 (cut_off_owed l turn k all.0.start e.shape error.Closed all.0.stands (omega arith) off))
    (later_owed name l turn (suc k) es (omega arith) all.1)

-- the oldest gets what ends the link
first_owed : (name : ℕ → Owner) (l : Ledger) (turn : ℕ) (why : Ending) (e : Entry) (x : RedisError) → ending l ≡ Some why → oldest_error why e.shape ≡ x → StandsAs l.starts (name e.id) e.shape (full_count l.starts l.dealt)
    → AllByRecursion (IsOwed name (ended l turn)) (failed_by e.awaited e.id x)
first_owed name l turn why e x ends is place =
    let k = full_count l.starts l.dealt in
    let off : cut_off (end_of l turn) k e.shape ≡ x = taken_if (k == k) _ _ (eq_test k k refl) ∙ ap (λ w. oldest_error (lasting l.last (ending_or_shutdown w)) e.shape) ends ∙ lasting_oldest l.last why e.shape ∙ is in
    failed_owed name (ended l turn) e.awaited e.id k e.shape x place (cut_off_owed l turn k place.start e.shape x place.stands (omega arith) off)

-- a fault is the same error to a link and in a trace
pub same_error : (f : LinkFault) → fault_error f ≡ error_of f
same_error fault.Ended = refl
same_error (fault.Io kind) = refl
same_error fault.Parse = refl

-- the oldest gets the same of a link and in a trace
oldest_hit : (f : LinkFault) (of_shape : Shape) → oldest_error (by_fault f) of_shape ≡ hit_by f of_shape
oldest_hit f Single = same_error f
oldest_hit f (Pipeline offset count transaction) = refl
oldest_hit f Confirmation = same_error f

-- the row of a link stands from the oldest on that is not full
pub rows_from : (name : ℕ → Owner) (l : Ledger) (row : List Entry) → open_list name row ≡ open_rows l.starts l.dealt → StandFrom l.starts (full_count l.starts l.dealt) (open_list name row)
rows_from name l row is = subst (StandFrom l.starts (full_count l.starts l.dealt)) (sym is) (rows_stand l.starts l.dealt)

-- the started messages of a link that ends by a fault
hit_owed : (name : ℕ → Owner) (l : Ledger) (turn : ℕ) (f : LinkFault) (row : List Entry) → ending l ≡ Some (by_fault f) → StandFrom l.starts (full_count l.starts l.dealt) (open_list name row)
    → AllByRecursion (IsOwed name (ended l turn)) (row_hit f row)
hit_owed name l turn f [] ends all = tt
hit_owed name l turn f (e ∷ es) ends all =
    all_append (IsOwed name (ended l turn)) (failed_by e.awaited e.id (hit_by f e.shape)) (row_closed es)
    (first_owed name l turn (by_fault f) e (hit_by f e.shape) ends (oldest_hit f e.shape) all.0)
    (later_owed name l turn (suc (full_count l.starts l.dealt)) es (omega arith) all.1)

-- and of one that is shut down
closed_owed : (name : ℕ → Owner) (l : Ledger) (turn : ℕ) (row : List Entry) → ending l ≡ Some by_shutdown → StandFrom l.starts (full_count l.starts l.dealt) (open_list name row)
    → AllByRecursion (IsOwed name (ended l turn)) (row_closed row)
closed_owed name l turn [] ends all = tt
closed_owed name l turn (e ∷ es) ends all =
    all_append (IsOwed name (ended l turn)) (failed_by e.awaited e.id error.Closed) (row_closed es)
    (first_owed name l turn by_shutdown e error.Closed ends refl all.0)
    (later_owed name l turn (suc (full_count l.starts l.dealt)) es (omega arith) all.1)

-- the started messages of a link that a fault ends
pub row_hit_owed : (name : ℕ → Owner) (l : Ledger) (s : LinkState) (turn : ℕ) (f : LinkFault) → ending l ≡ Some (by_fault f) → l.end ≡ None → TiedLink name l s → AllByRecursion (IsOwed name (ended l turn)) (row_hit f s.row)
row_hit_owed name l s turn f ends lives h = hit_owed name l turn f s.row ends (rows_from name l s.row (h.row lives))

-- and of one that the shutdown ends
pub row_closed_owed : (name : ℕ → Owner) (l : Ledger) (s : LinkState) (turn : ℕ) → ending l ≡ Some by_shutdown → l.end ≡ None → TiedLink name l s → AllByRecursion (IsOwed name (ended l turn)) (row_closed s.row)
row_closed_owed name l s turn ends lives h = closed_owed name l turn s.row ends (rows_from name l s.row (h.row lives))

-- a message that waits is owed what the end of its link owes it
waiting_owed : (l : Ledger) (turn : ℕ) (why : Ending) (e : RedisError) → ending l ≡ Some why → owed_by (lasting l.last why) ≡ Some (outcome.Fault e) → owed_unstarted (ended l turn).end ≡ Some (outcome.Fault e)
waiting_owed l turn why e ends is = ap (λ w. owed_by (lasting l.last (ending_or_shutdown w))) ends ∙ is

-- those that wait for a link that was up get the closed connection
pub queue_owed : (l : Ledger) (turn : ℕ) (why : Ending) (queue : List Queued) → ending l ≡ Some why → owed_by (lasting l.last why) ≡ Some (outcome.Fault error.Closed) → AllByRecursion (IsOwedUnstarted (ended l turn)) (queue_closed queue)
queue_owed l turn why [] ends is = tt
queue_owed l turn why (q ∷ qs) ends is =
    all_append (IsOwedUnstarted (ended l turn)) (failed_by q.awaited q.id error.Closed) (queue_closed qs)
    (chosen (AllByRecursion (IsOwedUnstarted (ended l turn))) q.awaited _ _ (λ t. (waiting_owed l turn why error.Closed ends is, tt)) (λ f. tt))
    (queue_owed l turn why qs ends is)

-- how many more items the started messages take
--
abbrev open_lacks : List Open → ℕ
open_lacks [] = 0
open_lacks (o ∷ os) = (need_of o.shape - length o.got) + open_lacks os

-- what a row lacks, by what each has got
lacks_open : (name : ℕ → Owner) (row : List Entry) → lack_of_row row ≡ open_lacks (open_list name row)
lacks_open name [] = refl
lacks_open name (e ∷ es) = ap (λ n. lack_of e + n) (lacks_open name es)

-- what is untouched lacks all that it takes
untouched_lack : (ss : List Start) (items : List Data) → open_lacks (untouched_each ss) ≡ reach ss items
untouched_lack [] items = refl
untouched_lack (s ∷ ss) items = omega (arith, untouched_lack ss (drop (need_of s.shape) items))

-- what the rows of starts lack
rows_lack : (ss : List Start) (items : List Data) → open_lacks (open_rows ss items) ≡ reach ss items - length items
rows_lack [] items = omega arith
rows_lack (s ∷ ss) items =
    let n = need_of s.shape in
    chosen (λ (os : List Open). open_lacks os ≡ (n + reach ss (drop n items)) - length items) (nat_le n (length items)) _ _
    (λ t. omega (arith, le_from _ _ t, rows_lack ss (drop n items), length-drop n items))
    (λ f. omega (arith, not_le_from _ _ f, untouched_lack ss (drop n items)))

-- as many as the starts take and were not dealt
pub lacks_are : (name : ℕ → Owner) (l : Ledger) (s : LinkState) → l.end ≡ None → TiedLink name l s → lack_of_row s.row ≡ reach l.starts l.dealt - length l.dealt
lacks_are name l s lives h = lacks_open name s.row ∙ ap open_lacks (h.row lives) ∙ rows_lack l.starts l.dealt
