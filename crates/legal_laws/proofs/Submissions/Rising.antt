-- Messages of a link start in the order of their submissions.
use Rattle.std.proofs.Common.{◌≡◌, inl, inr, ℕ, suc, ◌+◌, ◌<◌, ◌≤◌, ◌==◌, nat_lt, nat_le, Bool, true, false, ◌&&◌, ◌||◌, not, Option, is_some, if◌then◌else◌, List, ◌∷◌, ◌++◌, refl, ◌∙◌, ap, subst, arith}
use Rattle.containers.proofs.Choices.{by_test, chosen, taken_if, eq_test, eq_from, ne_from, lt_from, not_lt_from, not_le_test, both_left, both_right}
use Rattle.driver_model.specs.declared.action.Action.{Action}
use Rattle.driver_model.specs.declared.action.Action.TheVariants as action
use Rattle.driver_model.specs.declared.action.Owner.TheVariants as owner
use Rattle.driver_model.specs.declared.config.Config.{Config}
use Rattle.driver_model.specs.declared.event.Event.{Event}
use Rattle.legal_trace.specs.Ledger.{dials, is_ready, renewal_due, is_served}
use Rattle.legal_trace.specs.Story.{has_place, is_told, is_unstarted, tried}
use Rattle.legal_trace.specs.Book.{Book, blank_book, book, entered, entered_each}
use Rattle.legal_trace.specs.Steps.{queue_size, is_held_back, permits_in, is_let_in, is_in_line, line_before, renewals_in_line, is_outside, is_due, next_step}
use Rattle.legal_trace.specs.Legal.{MayStand, MayStart, AllStand, link_of, Legal}
use Rattle.legal_trace.proofs.Books.{stand_front, stand_behind}
use Rattle.legal_trace.proofs.Plain.{not_empty}
use Rattle.legal_laws.specs.Starts.{IsStart, StartsRise}
use Rattle.legal_laws.proofs.Links.Bounds.{start_of, starter_has_room}
use Rattle.legal_laws.proofs.Submissions.InLine.{is_to_start, second_holds, submissions_grow, stays_out, starter_to_start, earlier}
use Rattle.legal_trace.proofs.Moves.{both_hold, holder_is_timed, ready_is_up, has_no_tries, holds_some, is_timed, starts_mean, told_is_due, free_is_due, starter_moves, mover_is_served}
use Rattle.legal_laws.proofs.Traces.Held.{starts_ready}
use Rattle.legal_laws.proofs.Traces.Numbers.{links_grow, mover_is_numbered, up_is_numbered}
use Rattle.legal_laws.proofs.Submissions.Seated.{IsSeated, holds_like, seated_behind, told_place}
use Rattle.legal_laws.proofs.Traces.Sound.{Sound, sound_behind}

-- of two the second doesn't hold
neither_of : (p q : Bool) → q ≡ false → (p && q) ≡ false
neither_of true q e = e
neither_of false q e = refl

-- at most one place in a queue is that of new credentials
few_renewals : (some : Bool) → (if some then 1 else 0) ≤ 1
few_renewals true = omega arith
few_renewals false = omega arith

-- where one has room, so has each that stands in line before it on the same link, also behind new credentials
pub room_before : (b : Book) (n m : ℕ) → (b.story n).link ≡ (b.story m).link → n < m → is_in_line (permits_in b.config) (b.story n).link (b.story n) ≡ true → line_before (permits_in b.config) b.story (b.story m).link m < queue_size b
    → renewals_in_line (link_of b n) + line_before (permits_in b.config) b.story (b.story n).link n < queue_size b
room_before b n m same i stands room =
    let limit : Option ℕ = permits_in b.config in
    let l : ℕ = (b.story n).link in
    let own : ℕ = if is_in_line limit l (b.story n) then 1 else 0 in
    let counts : own ≡ 1 = taken_if (is_in_line limit l (b.story n)) 1 0 stands in
    let less : line_before limit b.story l (suc n) ≤ line_before limit b.story l m = earlier limit b.story l (suc n) m (omega (arith, i)) in
    let on : line_before limit b.story l m ≡ line_before limit b.story (b.story m).link m = ap (λ x. line_before limit b.story x m) same in
    let few : renewals_in_line (link_of b n) ≤ 1 = few_renewals (is_some (renewal_due (link_of b n))) in
    omega (arith, room, less, on, few, counts)

-- so it isn't outside
inside_before : (b : Book) (n m : ℕ) → (b.story n).link ≡ (b.story m).link → n < m → is_in_line (permits_in b.config) (b.story n).link (b.story n) ≡ true → line_before (permits_in b.config) b.story (b.story m).link m < queue_size b → is_outside b n ≡ false
inside_before b n m same i stands room =
    let before : ℕ = renewals_in_line (link_of b n) + line_before (permits_in b.config) b.story (b.story n).link n in
    neither_of (not (has_place (b.story n))) (nat_le (queue_size b) before) (not_le_test (queue_size b) before (room_before b n m same i stands room))

-- where the first of two doesn't hold, the second does
the_other : (p q : Bool) → p ≡ false → (p || q) ≡ true → q ≡ true
the_other true q e h = cc e
the_other false q e h = h

-- before whoever starts all hold their permits that are to start on its link and weren't told
holds_before : (b : Book) (l k m count len : ℕ) → Sound b → IsSeated b → MayStart b l k m count len → (n : ℕ) → n < m → is_to_start (b.story m).link (b.story n) ≡ true → is_told (b.story n) ≡ false
    → holds_some (permits_in b.config) (b.story n).permits ≡ true
holds_before b l k m count len sound seated may n i t untold =
    let numbered : m < b.submissions = mover_is_numbered b m sound.stories (starter_moves b l k m count len may) in
    elim ((starts_mean b m may.starts).3) [
      | inl told ↦
          both_left (holds_some (permits_in b.config) (b.story n).permits) (is_timed (b.story n).timeout (b.story n).clock)
          (the_other (is_told (b.story n)) (is_let_in (permits_in b.config) (b.story n)) untold ((seated.kept m numbered may.unstarted (told_place (b.story m) told)).ahead n i t))
      | inr placed ↦
          holds_like (permits_in b.config) (b.story m).permits (b.story n).permits
          (both_left (holds_some (permits_in b.config) (b.story m).permits) (is_timed (b.story m).timeout (b.story m).clock) placed.0) (seated.holders n m i numbered t untold)
    ]

-- before whoever starts nobody is to start on its link
first_to_start : (b : Book) (l k m count len : ℕ) → Sound b → IsSeated b → MayStart b l k m count len → (n : ℕ) → n < m → is_to_start l (b.story n) ≡ true → ⊥
first_to_start b l k m count len sound seated may n i e =
    let same : (b.story n).link ≡ (b.story m).link = eq_from (b.story n).link l (both_left ((b.story n).link == l) (is_unstarted (b.story n)) e) ∙ may.on_its_link in
    let s = starts_mean b m may.starts in
    let dialing : dials (link_of b n) ≡ false = ap (λ x. dials (b.link x)) same ∙ s.0 in
    let up : is_ready (link_of b n) ≡ true = ap (λ x. is_ready (b.link x)) same ∙ s.1 in
    let served : is_served (link_of b n) ≡ true = ap (λ x. is_served (b.link x)) same ∙ mover_is_served b m (starter_moves b l k m count len may) in
    let free : is_held_back b (link_of b n) ≡ false = ap (λ x. is_held_back b (b.link x)) same ∙ s.2 in
    let unstarted : is_unstarted (b.story n) ≡ true = both_right ((b.story n).link == l) (is_unstarted (b.story n)) e in
    let idle : is_due (next_step b n) ≡ true → ⊥ = λ due. may.in_order n i (record { unstarted = unstarted; due = due }) in
    by_test (is_told (b.story n)) ⊥ (λ told. idle (told_is_due b n dialing up served free told))
    (λ untold.
    let holds : holds_some (permits_in b.config) (b.story n).permits ≡ true = holds_before b l k m count len sound seated may n i (subst (λ x. is_to_start x (b.story n) ≡ true) may.on_its_link e) untold in
    let timed : is_timed (b.story n).timeout (b.story n).clock ≡ true = holder_is_timed b n dialing up served untold holds idle in
    let let_in : is_let_in (permits_in b.config) (b.story n) ≡ true = both_hold (holds_some (permits_in b.config) (b.story n).permits) (is_timed (b.story n).timeout (b.story n).clock) holds timed in
    let stands : is_in_line (permits_in b.config) (b.story n).link (b.story n) ≡ true =
    both_hold ((b.story n).link == (b.story n).link) (is_unstarted (b.story n) && (is_told (b.story n) || is_let_in (permits_in b.config) (b.story n))) (eq_test (b.story n).link (b.story n).link refl)
    (both_hold (is_unstarted (b.story n)) (is_told (b.story n) || is_let_in (permits_in b.config) (b.story n)) unstarted (second_holds (is_told (b.story n)) (is_let_in (permits_in b.config) (b.story n)) let_in)) in
    idle (free_is_due b n dialing up served free untold holds (inside_before b n m same i stands (starter_has_room b l k m count len sound seated may))))

-- behind a start neither whoever started nor anyone before it does
out_behind : (b : Book) (a : Action) (l m : ℕ) → Sound b → IsSeated b → MayStand b a → IsStart l m a → (n : ℕ) → n ≤ m → is_to_start l ((entered b a).story n) ≡ true → ⊥
out_behind b (action.Start j k (owner.Try i round) count len) l m sound seated may is n below =
    let its : MayStart b l k m count len = subst (λ x. MayStart b x k m count len) is.0 (subst (λ x. MayStart b j k x count len) is.1 may.1) in
    chosen (λ s. is_to_start l s ≡ true → ⊥) (i == n) (tried (b.story n) j k) (b.story n)
    (λ t e. not_empty (b.story n).tries (record { link = j; message = k }) (has_no_tries (tried (b.story n) j k) (both_right ((b.story n).link == l) (is_unstarted (tried (b.story n) j k)) e)))
    (λ f e. let apart = ne_from i n f in let who : i ≡ m = is.1 in first_to_start b l k m count len sound seated its n (omega (arith, apart, who, below)) e)
out_behind b _ l m sound seated may is n below = absurd is

-- whoever starts is numbered
start_is_numbered : (b : Book) (a : Action) (l m : ℕ) → Sound b → MayStand b a → IsStart l m a → m < b.submissions
start_is_numbered b a l m sound may is = let s = start_of b a l m may is in mover_is_numbered b m sound.stories (starter_moves b l s.0 m s.1 s.2 s.3)

-- and does so on a link that was asked for
start_is_asked : (b : Book) (a : Action) (l m : ℕ) → Sound b → MayStand b a → IsStart l m a → l < b.links
start_is_asked b a l m sound may is =
    let s = start_of b a l m may is in
    up_is_numbered b l sound.links (ready_is_up (b.link l) (starts_ready b l s.0 m s.1 s.2 s.3))

-- of two starts on a link, behind actions that may stand
pub rise_behind : (b : Book) (middle more : List Action) (a c : Action) (l m n : ℕ) → Sound b → IsSeated b → AllStand b (a ∷ (middle ++ c ∷ more)) → IsStart l m a → IsStart l n c → m < n
rise_behind b middle more a c l m n sound seated all first second = by_test (nat_lt m n) (m < n) (λ t. lt_from m n t)
    (λ f.
    let below : n ≤ m = not_lt_from m n f in
    let after : Book = entered b a in
    let grows : b.submissions ≤ after.submissions = submissions_grow b a in
    let numbered : m < b.submissions = start_is_numbered b a l m sound all.0 first in
    let asked : l < b.links = start_is_asked b a l m sound all.0 first in
    let longer : b.links ≤ after.links = links_grow b a in
    let s = start_of (entered_each after middle) c l n (stand_behind after middle (c ∷ more) all.1).0 second in
    absurd (stays_out after middle (stand_front after middle (c ∷ more) all.1) l n (omega (arith, longer, asked)) (omega (arith, below, grows, numbered)) (out_behind b a l m sound seated all.0 first n below)
    (starter_to_start (entered_each after middle) l s.0 n s.1 s.2 s.3)))

-- so it is in a legal trace
pub starts_rise : (config : Config) (word : ℕ) (events : List Event) (trace : List Action) → Legal config word events trace → StartsRise trace
unfolding book
starts_rise config word events trace h front middle more a c l m n is first second =
    let all : AllStand blank_book (front ++ a ∷ (middle ++ c ∷ more)) = subst (AllStand blank_book) is h.each in
    let before : AllStand blank_book front = stand_front blank_book front (a ∷ (middle ++ c ∷ more)) all in
    rise_behind (book front) middle more a c l m n (sound_behind front before) (seated_behind front before) (stand_behind blank_book front (a ∷ (middle ++ c ∷ more)) all) first second
