-- A request has at most one message on its link.
use Rattle.std.proofs.Common.{◌≡◌, ℕ, zero, suc, ◌+◌, ◌≤◌, ◌==◌, nat_lt, ◌&&◌, Bool, true, List, [], ◌∷◌, ◌++◌, length, Option, Some, None, slice_get, if◌then◌else◌, refl, ap, subst, arith}
use Rattle.std.proofs.Math.Bool.{and-false}
use Rattle.containers.proofs.Choices.{by_test, chosen, taken_if, left_if, eq_from, ne_test}
use Rattle.resp_value.specs.Data.{Data}
use Rattle.resp_read.specs.Values.{values}
use Rattle.driver_model.specs.Shape.{need_of}
use Rattle.driver_model.specs.declared.hearing.Hearing.{Hearing}
use Rattle.link_core.specs.declared.message.Entry.{Entry}
use Rattle.link_core.specs.declared.message.Queued.{Queued}
use Rattle.link_core.specs.Dealing.{Dealing, dealing_with, with_item, dealt_to, dealt, noticed_behind, taking_in, taken_as, taken, taken_each}
use Rattle.link_core.specs.Link.{LinkState, Reading, entry_of, nothing_read, came_all}
use Rattle.link_core.specs.Row.{silenced}
use Rattle.link_core.specs.Waiting.{is_wanted, without}
use Rattle.mux_conn.specs.declared.life.Life.{Life}
use Rattle.mux_conn.specs.declared.life.Life.TheVariants.{Resting, Dialing, Wanting, SettingUp, Ready, Ended}
use Rattle.mux_conn.specs.declared.request.Progress.{Progress}
use Rattle.mux_conn.specs.declared.request.Progress.TheVariants as progress
use Rattle.mux_conn.specs.declared.request.Request.{Request}
use Rattle.mux_conn.specs.Requests.{is_waiting, is_admitted, is_waiting_at, is_admitted_at, permits_at, with_permits, at_progress}
use Rattle.mux_conn.specs.Effects.{cancelled_in}
use Rattle.mux_conn.specs.Passes.{message_of}
use Rattle.conn_laws.proofs.Changes.Counts.{count_on, count_push}
use Rattle.conn_laws.proofs.Changes.Links.{NoneWanted}
use Rattle.conn_laws.proofs.Changes.Kept.{IsKept, IsKeptThere, There, kept_there, IsApart}
use Rattle.conn_laws.proofs.Changes.Requests.{unbegun_waits}
use Rattle.conn_laws.proofs.Changes.KeptTurns.{CanAsk}

-- 1 for that message, and 0 for any other
abbrev pub one : ℕ → ℕ → ℕ
one p m = if m == p then 1 else 0

-- one message at most
one_at_most : (p m : ℕ) → one p m ≤ 1
one_at_most p m = chosen (λ (k : ℕ). k ≤ 1) (m == p) 1 0 (λ t. omega arith) (λ f. omega arith)

-- how often a message stands in a row, and in a queue
abbrev pub times : ℕ → List Entry → ℕ
times p [] = 0
times p (e ∷ es) = one p e.id + times p es

-- and in a queue
abbrev pub places : ℕ → List Queued → ℕ
places p [] = 0
places p (q ∷ qs) = one p q.id + places p qs

-- and on a link
abbrev pub all_of : ℕ → Life → ℕ
all_of p Resting = 0
all_of p Dialing = 0
all_of p (Wanting l) = 0
all_of p (SettingUp l greeting) = 0
all_of p (Ready l) = times p l.row + places p l.queue
all_of p (Ended e) = 0

-- how often it may, by its progress
abbrev pub share_by : Progress → ℕ
share_by progress.Waiting = 0
share_by progress.Begun = 0
share_by progress.Admitted = 0
share_by progress.Placed = 1
share_by progress.Closed = 1

-- and where there is no such request, it may not
abbrev pub share_of : Option Request → ℕ
share_of None = 0
share_of (Some r) = share_by r.progress

-- of request p
abbrev pub share : List Request → ℕ → ℕ
share r p = share_of (slice_get r p)

-- a link that waits for credentials has no message, and one that is set up has one at most, that of the setup
abbrev pub HasOne : Life → Type 0
HasOne Resting = Unit {0}
HasOne Dialing = Unit {0}
HasOne (Wanting l) = count_on l ≤ 0
HasOne (SettingUp l greeting) = count_on l ≤ 1
HasOne (Ready l) = Unit {0}
HasOne (Ended e) = Unit {0}

-- request p has no more messages on its link than it may have
pub record IsOnce (p : ℕ) (r : List Request) (life : Life) : Type 0 where
  pub within : all_of p life ≤ share r p
  pub alone : HasOne life

-- progress
--
-- no request may have more than one
share_most : (x : Progress) → share_by x ≤ 1
share_most progress.Waiting = omega arith
share_most progress.Begun = omega arith
share_most progress.Admitted = omega arith
share_most progress.Placed = omega arith
share_most progress.Closed = omega arith

-- one that waits for a place may have none
share_least : (x : Progress) → is_admitted x ≡ true → share_by x ≡ 0
share_least progress.Waiting e = cc
share_least progress.Begun e = cc
share_least progress.Admitted e = refl
share_least progress.Placed e = cc
share_least progress.Closed e = cc

-- nor may one that waits for the connection
share_first : (x : Progress) → is_waiting x ≡ true → share_by x ≡ 0
share_first progress.Waiting e = refl
share_first progress.Begun e = refl
share_first progress.Admitted e = cc
share_first progress.Placed e = cc
share_first progress.Closed e = cc

-- a request that goes on to where it may have one may have no less
share_set : (r : List Request) (p q : ℕ) (x : Progress) (count : ℕ) → share_by x ≡ 1 → share r p ≤ share (with_permits r q x count) p
share_set [] p q x count e = omega arith
share_set (y ∷ r) zero zero x count e = omega (arith, share_most y.progress, e)
share_set (y ∷ r) zero (suc q) x count e = omega arith
share_set (y ∷ r) (suc p) zero x count e = omega arith
share_set (y ∷ r) (suc p) (suc q) x count e = share_set r p q x count e

-- nor where it has waited for the connection
share_admit : (r : List Request) (p q : ℕ) (x : Progress) (count : ℕ) → is_waiting_at r q ≡ true → share r p ≤ share (with_permits r q x count) p
share_admit [] p q x count t = omega arith
share_admit (y ∷ r) zero zero x count t = omega (arith, share_first y.progress t)
share_admit (y ∷ r) zero (suc q) x count t = omega arith
share_admit (y ∷ r) (suc p) zero x count t = omega arith
share_admit (y ∷ r) (suc p) (suc q) x count t = share_admit r p q x count t

-- one more request takes nothing away
share_push : (r : List Request) (p : ℕ) (x : Request) → share r p ≤ share (r ++ x ∷ []) p
share_push [] p x = omega arith
share_push (y ∷ r) zero x = omega arith
share_push (y ∷ r) (suc p) x = share_push r p x

-- one that has waited for a place may have one more
share_waits : (r : List Request) (p : ℕ) (x : Progress) (count : ℕ) → share_by x ≡ 1 → is_admitted_at r p ≡ true → share r p + 1 ≤ share (with_permits r p x count) p
share_waits [] p x count e t = cc
share_waits (y ∷ r) zero x count e t = omega (arith, e, share_least y.progress t)
share_waits (y ∷ r) (suc p) x count e t = share_waits r p x count e t

-- the row and the queue
--
-- one more entry
times_push : (p : ℕ) (row : List Entry) (e : Entry) → times p (row ++ e ∷ []) ≡ times p row + one p e.id
times_push p [] e = omega arith
times_push p (x ∷ row) e = omega (arith, times_push p row e)

-- one more message
places_push : (p : ℕ) (queue : List Queued) (q : Queued) → places p (queue ++ q ∷ []) ≡ places p queue + one p q.id
places_push p [] q = omega arith
places_push p (x ∷ queue) q = omega (arith, places_push p queue q)

-- all entries stay where one's verdict is not wanted
times_silenced : (p m : ℕ) (row : List Entry) → times p (silenced row m) ≡ times p row
times_silenced p m [] = refl
times_silenced p m (e ∷ es) = chosen (λ (xs : List Entry). times p xs ≡ times p (e ∷ es)) (e.id == m) _ _ (λ t. refl) (λ f. ap (λ (k : ℕ). one p e.id + k) (times_silenced p m es))

-- no message comes where one leaves
places_without : (p m : ℕ) (queue : List Queued) → places p (without queue m) ≤ places p queue
places_without p m [] = omega arith
places_without p m (q ∷ qs) = chosen (λ (xs : List Queued). places p xs ≤ places p (q ∷ qs)) (is_wanted m q) _ _ (λ t. omega arith) (λ f. omega (arith, places_without p m qs))

-- nor where an item is dealt
times_dealt_to : (p : ℕ) (d : Dealing) (item : Data) (row : List Entry) → times p d.row ≤ times p row → times p (dealt_to d item row).row ≤ times p row
times_dealt_to p d item [] l = l
times_dealt_to p d item (e ∷ es) l =
    chosen (λ (x : Dealing). times p x.row ≤ times p (e ∷ es)) (nat_lt (length (with_item e item).got) (need_of e.shape)) _ _ (λ t. omega arith) (λ f. omega arith)

-- nor where a value comes
times_taken : (p : ℕ) (what : Hearing) (d : Dealing) (v : Data) → times p (taken what true d v).row ≤ times p d.row
times_taken p what d v =
    let t = taking_in what true d v in
    let m : Dealing = record d { notices = d.notices ++ noticed_behind (length d.out) t.told; strange = t.ends } in
    chosen (λ (x : Dealing). times p x.row ≤ times p d.row) d.strange d (taken_as d t v) (λ y. omega arith)
    (λ n. chosen (λ (x : Dealing). times p x.row ≤ times p d.row) t.dealt (dealt m v) m (λ y. times_dealt_to p m v d.row (omega arith)) (λ y. omega arith))

-- nor where more do
times_values : (p : ℕ) (what : Hearing) (d : Dealing) (vs : List Data) → times p (taken_each what true d vs).row ≤ times p d.row
times_values p what d [] = omega arith
times_values p what d (v ∷ vs) = omega (arith, times_values p what (taken what true d v) vs, times_taken p what d v)

-- a cancel brings no message
cancelled_once : (p q : ℕ) (life : Life) → all_of p (cancelled_in life q) ≤ all_of p life
cancelled_once p q Resting = omega arith
cancelled_once p q Dialing = omega arith
cancelled_once p q (Wanting l) = omega arith
cancelled_once p q (SettingUp l greeting) = omega arith
cancelled_once p q (Ready l) = omega (arith, times_silenced p q l.row, places_without p q l.queue)
cancelled_once p q (Ended e) = omega arith

-- it changes nothing of a setup
cancelled_alone : (q : ℕ) (life : Life) → HasOne life → HasOne (cancelled_in life q)
cancelled_alone q Resting h = h
cancelled_alone q Dialing h = h
cancelled_alone q (Wanting l) h = h
cancelled_alone q (SettingUp l greeting) h = h
cancelled_alone q (Ready l) h = tt
cancelled_alone q (Ended e) h = h

-- no message stands in a row more often than the row is long
times_count : (p : ℕ) (row : List Entry) → times p row ≤ length row
times_count p [] = omega arith
times_count p (e ∷ es) = omega (arith, times_count p es, one_at_most p e.id)

-- nor in a queue
places_count : (p : ℕ) (queue : List Queued) → places p queue ≤ length queue
places_count p [] = omega arith
places_count p (q ∷ qs) = omega (arith, places_count p qs, one_at_most p q.id)

-- a request that takes its place brings one, and may have it
placed_once : (p q : ℕ) (r : List Request) (before : ℕ) → is_admitted_at r q ≡ true → before ≤ share r p → before + one p q ≤ share (at_progress r q progress.Placed) p
placed_once p q r before t l =
    by_test (q == p) _
    (λ e.
    let same = eq_from q p e in
    let k : share r p + 1 ≤ share (at_progress r q progress.Placed) p = subst (λ (j : ℕ). share r j + 1 ≤ share (at_progress r q progress.Placed) j) same (share_waits r q progress.Placed (permits_at r q) refl t) in
    omega (arith, one_at_most p q))
    (λ f. let z : one p q ≡ 0 = left_if (q == p) 1 0 f in omega (arith, share_set r p q progress.Placed (permits_at r q) refl))

-- each single change keeps that, of a number that requests have
once_there : (p : ℕ) → IsApart p → IsKeptThere (IsOnce p)
once_there p apart = record {
  answer = λ r life q h. record { within = omega (arith, h.within, share_set r p q progress.Closed 0 refl); alone = h.alone };
  hush = λ r life q h. record { within = omega (arith, h.within, cancelled_once p q life); alone = cancelled_alone q life h.alone };
  want = λ r size bound h. record { within = omega arith; alone = omega arith };
  wait_on = λ r l k few h. record { within = omega arith; alone = omega (arith, few, h.alone) };
  connect = λ r l h. record { within = omega (arith, h.alone, times_count p l.row, places_count p l.queue); alone = tt };
  set_up = λ r l q greeting h. record { within = omega arith; alone = omega (arith, h.alone, count_push l q) };
  go_on = λ r l k greeting few h. record { within = omega arith; alone = omega (arith, few, h.alone) };
  repeat = λ r l k q greeting next few h. record { within = omega arith; alone = omega (arith, few, h.alone, count_push k q) };
  ready = λ r l k greeting few h. record { within = omega (arith, few, h.alone, times_count p k.row, places_count p k.queue); alone = tt };
  round = λ r life q t h. record { within = omega (arith, h.within, share_admit r p q progress.Begun (permits_at r q) (unbegun_waits r q t)); alone = h.alone };
  admit = λ r life q count t h. record { within = omega (arith, h.within, share_admit r p q progress.Admitted count t); alone = h.alone };
  place = λ r l q t h. record { within = omega (arith, placed_once p q.number r (all_of p (Ready l)) t h.within, places_push p l.queue (message_of q)); alone = tt };
  start = λ r l q qs h. record { within = omega (arith, h.within, times_push p l.row (entry_of q)); alone = tt };
  say = λ r l q own h.
      let other : one p q.id ≡ 0 = left_if (q.id == p) 1 0 (ne_test q.id p (apart q.id own)) in
      record { within = omega (arith, h.within, times_push p l.row (entry_of q), other); alone = tt };
  offer = λ r l h. record { within = h.within; alone = tt };
  write = λ r l k h. record { within = h.within; alone = tt };
  come = λ r l what piece h. chosen (λ (x : Reading). IsOnce p r (Ready x.link)) l.broken (nothing_read l) (came_all what true l (l.rest ++ piece)) (λ t. h)
      (λ f. record { within = omega (arith, h.within, times_values p what (dealing_with l.row) (values (l.rest ++ piece))); alone = tt });
  end = λ r life e h. record { within = omega arith; alone = tt };
  rest = λ r life h. record { within = omega arith; alone = tt };
}

-- so each part of a turn does
pub once_kept : (p : ℕ) → IsApart p → IsKept (There (IsOnce p))
once_kept p apart = kept_there (once_there p apart)

-- and one more submission does
pub once_asks : (p m : ℕ) → CanAsk (There (IsOnce p)) m
once_asks p m = record {
  ask = λ lim r life ms xs h. record { within = omega (arith, h.within, share_push r p (record { name = m; progress = progress.Waiting; permits = 0 })); alone = h.alone };
  refuse = λ lim r life ms xs o h. h;
}

-- a cancel silences all that there is of the message
--
-- where it has no entry, nobody awaits one
none_left : (p : ℕ) (row : List Entry) → times p row ≡ 0 → NoneWanted p row
none_left p [] z = tt
none_left p (e ∷ es) z =
    by_test (e.id == p) _ (λ t. absurd (let k : one p e.id ≡ 1 = taken_if (e.id == p) 1 0 t in omega arith))
    (λ f. (ap (λ (b : Bool). b && e.awaited) f, none_left p es (omega arith)))

-- so after the cancel nobody awaits its message
pub silenced_once : (p : ℕ) (row : List Entry) → times p row ≤ 1 → NoneWanted p (silenced row p)
silenced_once p [] l = tt
silenced_once p (e ∷ es) l =
    chosen (NoneWanted p) (e.id == p) _ _
    (λ t. let k : one p e.id ≡ 1 = taken_if (e.id == p) 1 0 t in (and-false (e.id == p), none_left p es (omega arith)))
    (λ f. (ap (λ (b : Bool). b && e.awaited) f, silenced_once p es (omega arith)))

-- a request has one entry at most
pub row_once : (p : ℕ) (r : List Request) (l : LinkState) (x : Request) → IsOnce p r (Ready l) → slice_get r p ≡ Some x → times p l.row ≤ 1
row_once p r l x h e = let k : share r p ≡ share_by x.progress = ap share_of e in omega (arith, h.within, share_most x.progress)
