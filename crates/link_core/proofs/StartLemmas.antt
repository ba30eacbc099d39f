-- Starts in the order of the queue.
use Rattle.std.proofs.Common.{◌≡◌, ℕ, length, ◌++◌, ◌+◌, ◌^◌, ◌≤◌, List, [], ◌∷◌, Bool, true, false, refl, sym, ap, ◌∙◌, arith}
use Rattle.std.proofs.Math.Nat.{le_refl}
use Rattle.std.specs.Prelude.{if◌then◌else◌, slice_set}
use Rattle.std.proofs.lemmas.List.{set_at}
use Rattle.link_core.specs.declared.message.Queued.{Queued}
use Rattle.link_core.specs.Link.{Starting, started_one, started_each, started_all, holds_back, is_spent}

-- the same starting, with another queue
abbrev pub with_queue : Starting → List Queued → Starting
with_queue s queue = record s { link = record s.link { queue = queue } }

chosen : (held : Bool) (a b c : Starting) → b ≡ c → (if held then a else b) ≡ (if held then a else c)
chosen true a b c e = refl
chosen false a b c e = e

-- what starts is the list that is given, whatever the link's own queue is
pub queue_unread : (s : Starting) (before qs : List Queued) → started_each (with_queue s before) qs ≡ started_each s qs
queue_unread s before [] = refl
queue_unread s before (q ∷ qs) =
    chosen (holds_back s.link) (with_queue s (q ∷ qs)) (started_each (with_queue (started_one s q) before) qs) (started_each (started_one s q) qs) (queue_unread (started_one s q) before qs)

pub free_one : (s : Starting) (q : Queued) (qs : List Queued) (held : Bool) → holds_back s.link ≡ held → held ≡ false → started_each s (q ∷ qs) ≡ started_each (started_one s q) qs
free_one s q qs true is e = cc
free_one s q qs false is e = rw is refl

-- one message starts, and then the others
pub one_more : (s : Starting) (q : Queued) (qs : List Queued) → s.link.queue ≡ q ∷ qs → holds_back s.link ≡ false → started_all s ≡ started_all (started_one (with_queue s qs) q)
one_more s q qs e free = ap (started_each s) e ∙ free_one s q qs (holds_back s.link) refl free ∙ sym (queue_unread (started_one s q) qs qs)

held_none : (s : Starting) (queue : List Queued) (held : Bool) → holds_back s.link ≡ held → held ≡ true → started_each s queue ≡ with_queue s queue
held_none s [] held is e = refl
held_none s (q ∷ qs) true is e = rw is refl
held_none s (q ∷ qs) false is e = cc

-- nothing starts where it is held back, or nothing waits
pub none_more : (s : Starting) → holds_back s.link ≡ true → s ≡ started_all s
none_more s held = sym (held_none s s.link.queue (holds_back s.link) refl held)

pub none_waits : (s t : Starting) → s.link.queue ≡ [] → t ≡ with_queue s [] → t ≡ started_all s
none_waits s t e same = same ∙ sym (ap (started_each s) e)

-- more starts give no smaller numbers
numbers_rise_by : (s : Starting) (q : Queued) (qs : List Queued) (held : Bool) → holds_back s.link ≡ held → s.link.started + 1 ≤ (started_each (started_one s q) qs).link.started → s.link.started ≤ (started_each s (q ∷ qs)).link.started
numbers_rise_by s q qs true is h = rw is (le_refl s.link.started)
numbers_rise_by s q qs false is h = rw is (omega arith)

pub numbers_rise : (s : Starting) (qs : List Queued) → s.link.started ≤ (started_each s qs).link.started
numbers_rise s [] = le_refl s.link.started
numbers_rise s (q ∷ qs) = numbers_rise_by s q qs (holds_back s.link) refl (numbers_rise (started_one s q) qs)

-- a start whose number has run out makes the whole call run out
pub spent_on : (s : Starting) (q : Queued) (qs : List Queued) → s.link.queue ≡ q ∷ qs → holds_back s.link ≡ false → is_spent (started_one (with_queue s qs) q).link ≡ true → is_spent (started_all s).link ≡ true
spent_on s q qs e free h =
    let n = numbers_rise (started_one (with_queue s qs) q) qs in
    let all = one_more s q qs e free in
    let high : 2 ^ 32 ≤ (started_one (with_queue s qs) q).link.started = grind arith in
    let more : 2 ^ 32 ≤ (started_all s).link.started = omega (arith, n, high, ap (λ (t : Starting). t.link.started) all) in
    grind arith

-- a message in the place of the last one
pub last_set : (queue now : List Queued) (q next : Queued) (n : ℕ) → n ≡ length queue → now ≡ queue ++ q ∷ [] → slice_set now n next ≡ queue ++ next ∷ []
last_set queue now q next n e is = ap (λ (qs : List Queued). slice_set qs n next) is ∙ set_at queue q [] next n (sym e)
