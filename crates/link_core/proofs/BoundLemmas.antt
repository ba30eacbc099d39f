-- Starts in the order of the queue, up to a message.
use Rattle.std.proofs.Common.{◌≡◌, ℕ, length, ◌+◌, ◌^◌, ◌≤◌, ◌&&◌, ◌||◌, not, List, [], ◌∷◌, Bool, true, false, Option, Some, refl, sym, ap, subst, ◌∙◌, arith}
use Rattle.std.proofs.Math.Nat.{le_refl}
use Rattle.std.specs.Prelude.{if◌then◌else◌, slice_get}
use Rattle.std.proofs.lemmas.Option.{same_Some}
use Rattle.containers.proofs.Choices.{chosen, taken_if, left_if}
use Rattle.link_core.specs.declared.message.Queued.{Queued}
use Rattle.link_core.specs.Link.{LinkState, Starting, started_one, started_each, started_all, started_to_each, started_to, is_up_to, is_first_up_to, last_in, last_behind, holds_back, is_spent}
use Rattle.link_core.proofs.StartLemmas.{with_queue, queue_unread, free_one}

-- a test that goes on, and the one that stops
goes_on : (held up : Bool) → (not held && up) ≡ true → (held || not up) ≡ false
goes_on true up h = cc
goes_on false true h = refl
goes_on false false h = cc

stops : (held up : Bool) → (not held && up) ≡ false → (held || not up) ≡ true
stops true up h = refl
stops false true h = cc
stops false false h = refl

free_in : (held up : Bool) → (held || not up) ≡ false → held ≡ false
free_in true up h = cc
free_in false up h = refl

stays_so : (held up : Bool) → (held || not up) ≡ true → (not held && up) ≡ false
stays_so true up h = refl
stays_so false true h = cc
stays_so false false h = refl

module _ (last : Option ℕ) where
  -- the first of the queue starts
  abbrev pub goes : LinkState → Bool
  goes s = not (holds_back s) && is_first_up_to last s.queue

  abbrev stops_at : Starting → Queued → Bool
  stops_at s q = holds_back s.link || not (is_up_to last q.id)

  -- what starts is the list that is given, whatever the link's own queue is
  pub queue_unread_to : (s : Starting) (before qs : List Queued) → started_to_each last (with_queue s before) qs ≡ started_to_each last s qs
  queue_unread_to s before [] = refl
  queue_unread_to s before (q ∷ qs) =
      ap (λ (x : Starting). if stops_at s q then with_queue s (q ∷ qs) else x) (queue_unread_to (started_one s q) before qs)

  -- one message starts, and then the others
  pub one_more_to : (s : Starting) (q : Queued) (qs : List Queued) → s.link.queue ≡ q ∷ qs → goes s.link ≡ true → started_to last s ≡ started_to last (started_one (with_queue s qs) q)
  one_more_to s q qs e free =
      let free_one : (not (holds_back s.link) && is_up_to last q.id) ≡ true = subst (λ (xs : List Queued). (not (holds_back s.link) && is_first_up_to last xs) ≡ true) e free in
      ap (started_to_each last s) e
      ∙ left_if (stops_at s q) (with_queue s (q ∷ qs)) (started_to_each last (started_one s q) qs) (goes_on (holds_back s.link) (is_up_to last q.id) free_one)
      ∙ sym (queue_unread_to (started_one s q) qs qs)

  stays : (s : Starting) (queue : List Queued) → (not (holds_back s.link) && is_first_up_to last queue) ≡ false → started_to_each last s queue ≡ with_queue s queue
  stays s [] h = refl
  stays s (q ∷ qs) h =
      taken_if (stops_at s q) (with_queue s (q ∷ qs)) (started_to_each last (started_one s q) qs) (stops (holds_back s.link) (is_up_to last q.id) h)

  -- nothing starts where it is held back, or nothing up to that message waits
  pub none_more_to : (s : Starting) → goes s.link ≡ false → s ≡ started_to last s
  none_more_to s h = sym (stays s s.link.queue h)

  pub none_waits_to : (s t : Starting) → s.link.queue ≡ [] → t ≡ with_queue s [] → t ≡ started_to last s
  none_waits_to s t e same = same ∙ sym (ap (started_to_each last s) e)

  not_held : (held : Bool) → (not held && false) ≡ false
  not_held true = refl
  not_held false = refl

  -- so it is behind all those that start
  pub none_goes : (s : Starting) (qs : List Queued) → goes (started_to_each last s qs).link ≡ false
  none_goes s [] = not_held (holds_back s.link)
  none_goes s (q ∷ qs) =
      chosen (λ (x : Starting). goes x.link ≡ false) (stops_at s q) (with_queue s (q ∷ qs)) (started_to_each last (started_one s q) qs)
      (stays_so (holds_back s.link) (is_up_to last q.id)) (λ free. none_goes (started_one s q) qs)

  -- all that can start do, whether those up to that message start before them or not
  each_follow : (s : Starting) (qs : List Queued) → started_all (started_to_each last s qs) ≡ started_each s qs
  each_follow s [] = refl
  each_follow s (q ∷ qs) =
      chosen (λ (x : Starting). started_all x ≡ started_each s (q ∷ qs)) (stops_at s q) (with_queue s (q ∷ qs)) (started_to_each last (started_one s q) qs)
      (λ held. queue_unread s (q ∷ qs) (q ∷ qs))
      (λ free. each_follow (started_one s q) qs ∙ sym (free_one s q qs (holds_back s.link) refl (free_in (holds_back s.link) (is_up_to last q.id) free)))

  pub all_follow : (s : Starting) → started_all (started_to last s) ≡ started_all s
  all_follow s = each_follow s s.link.queue

  -- more starts give no smaller numbers
  pub numbers_rise_to : (s : Starting) (qs : List Queued) → s.link.started ≤ (started_to_each last s qs).link.started
  numbers_rise_to s [] = le_refl s.link.started
  numbers_rise_to s (q ∷ qs) =
      let more = numbers_rise_to (started_one s q) qs in
      chosen (λ (x : Starting). s.link.started ≤ x.link.started) (stops_at s q) (with_queue s (q ∷ qs)) (started_to_each last (started_one s q) qs)
      (λ held. le_refl s.link.started) (λ free. omega (arith, more))

  -- a start whose number has run out makes the whole call run out
  pub spent_on_to : (s : Starting) (q : Queued) (qs : List Queued) → s.link.queue ≡ q ∷ qs → goes s.link ≡ true → is_spent (started_one (with_queue s qs) q).link ≡ true → is_spent (started_to last s).link ≡ true
  spent_on_to s q qs e free h =
      let n = numbers_rise_to (started_one (with_queue s qs) q) qs in
      let all = one_more_to s q qs e free in
      let high : 2 ^ 32 ≤ (started_one (with_queue s qs) q).link.started = grind arith in
      let more : 2 ^ 32 ≤ (started_to last s).link.started = omega (arith, n, high, ap (λ (t : Starting). t.link.started) all) in
      grind arith

-- the last of a queue
last_behind_is : (first q : Queued) (qs : List Queued) → slice_get (first ∷ qs) (length qs) ≡ Some q → q.id ≡ last_behind first.id qs
last_behind_is first q [] is = ap (λ (x : Queued). x.id) (sym (same_Some first q is))
last_behind_is first q (next ∷ qs) is = last_behind_is next q qs is

pub last_at : (qs : List Queued) (q : Queued) (n : ℕ) → n + 1 ≡ length qs → slice_get qs n ≡ Some q → Some q.id ≡ last_in qs
last_at [] q n at is = absurd (omega (arith, at))
last_at (first ∷ qs) q n at is =
    let here : n ≡ length qs = omega (arith, at) in
    ap Some (last_behind_is first q qs (subst (λ (k : ℕ). slice_get (first ∷ qs) k ≡ Some q) here is))
