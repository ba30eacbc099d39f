-- What is done to the lists of an agenda keeps facts of their items.
use Rattle.std.proofs.Common.{◌≡◌, ℕ, ◌==◌, nat_le, true, false, List, [], ◌∷◌, ◌++◌, Option, Some, None, is_some, refl, sym, ◌∙◌, subst}
use Rattle.containers.proofs.Choices.{by_test, chosen, eq_from, ne_from, taken_if, left_if, not_both}
use Rattle.legal_trace.proofs.Plain.{same_some, not_none}
use Rattle.live_run.specs.Passes.{Each}
use Rattle.live_run.specs.declared.agenda.Target.{Target}
use Rattle.live_run.specs.declared.links.Link.{Link}
use Rattle.live_run.specs.declared.timers.Pending.{Pending}
use Rattle.live_run.specs.Agenda.{behind, without, offered, offer_of, undialled, all_later, timed, due_in}
use Rattle.live_run.specs.Deeds.{IsFirstOf}

pub each_as : {T : Type 0} (P Q : T → Type 0) → ((x : T) → P x → Q x) → (xs : List T) → Each P xs → Each Q xs
each_as P Q f [] h = tt
each_as P Q f (x ∷ xs) h = (f x h.0, each_as P Q f xs h.1)

pub each_both : {T : Type 0} (P Q R : T → Type 0) → ((x : T) → P x → Q x → R x) → (xs : List T) → Each P xs → Each Q xs → Each R xs
each_both P Q R f [] h k = tt
each_both P Q R f (x ∷ xs) h k = (f x h.0 k.0, each_both P Q R f xs h.1 k.1)

pub each_last : {T : Type 0} (P : T → Type 0) (xs : List T) (y : T) → Each P xs → P y → Each P (xs ++ y ∷ [])
each_last P [] y h p = (p, tt)
each_last P (x ∷ xs) y h p = (h.0, each_last P xs y h.1 p)

pub each_behind : {T : Type 0} (P : T → Type 0) (xs : List T) → Each P xs → Each P (behind xs)
each_behind P [] h = tt
each_behind P (x ∷ xs) h = h.1

pub each_undialled : (P : Target → Type 0) (l : ℕ) (ts : List Target) → Each P ts → Each P (undialled l ts)
each_undialled P l [] h = tt
each_undialled P l (t ∷ ts) h = chosen (Each P) (t.link == l) ts (t ∷ undialled l ts) (λ same. h.1) (λ other. (h.0, each_undialled P l ts h.1))

pub each_timed : (P : Pending → Type 0) (t : Pending) (xs : List Pending) → P t → Each P xs → Each P (timed t xs)
each_timed P t [] p h = (p, tt)
each_timed P t (x ∷ xs) p h = chosen (Each P) (all_later t.due (x ∷ xs)) (t ∷ x ∷ xs) (x ∷ timed t xs) (λ later. (p, h)) (λ sooner. (h.0, each_timed P t xs p h.1))

pub each_without : (P : Link → Type 0) (l : ℕ) (xs : List Link) → Each P xs → Each P (without l xs)
each_without P l [] h = tt
each_without P l (x ∷ xs) h = chosen (Each P) (x.number == l) xs (x ∷ without l xs) (λ same. h.1) (λ other. (h.0, each_without P l xs h.1))

pub each_offered : (P : Link → Type 0) (l : ℕ) (bytes : List ℕ) (xs : List Link) → ((x : Link) → x.number ≡ l → P x → P (record x { offer = bytes })) → Each P xs → Each P (offered l bytes xs)
each_offered P l bytes [] f h = tt
each_offered P l bytes (x ∷ xs) f h =
    chosen (Each P) (x.number == l) (record x { offer = bytes } ∷ xs) (x ∷ offered l bytes xs) (λ same. (f x (eq_from x.number l same) h.0, h.1)) (λ other. (h.0, each_offered P l bytes xs f h.1))

-- a link offers nothing if it has this number
abbrev pub OffersNothing : ℕ → Link → Type 0
OffersNothing l x = x.number ≡ l → x.offer ≡ []

-- of the links of one number the first alone offers something
abbrev pub AreSingle : List Link → Type 0
AreSingle [] = Unit {0}
AreSingle (x ∷ xs) = Each (OffersNothing x.number) xs × AreSingle xs

pub single_last : (xs : List Link) (y : Link) → y.offer ≡ [] → AreSingle xs → AreSingle (xs ++ y ∷ [])
single_last [] y none h = (tt, tt)
single_last (x ∷ xs) y none h = (each_last (OffersNothing x.number) xs y h.0 (λ same. none), single_last xs y none h.1)

pub single_without : (l : ℕ) (xs : List Link) → AreSingle xs → AreSingle (without l xs)
single_without l [] h = tt
single_without l (x ∷ xs) h = chosen AreSingle (x.number == l) xs (x ∷ without l xs) (λ same. h.1) (λ other. (each_without (OffersNothing x.number) l xs h.0, single_without l xs h.1))

pub single_offered : (l : ℕ) (bytes : List ℕ) (xs : List Link) → AreSingle xs → AreSingle (offered l bytes xs)
single_offered l bytes [] h = tt
single_offered l bytes (x ∷ xs) h =
    chosen AreSingle (x.number == l) (record x { offer = bytes } ∷ xs) (x ∷ offered l bytes xs) (λ same. h)
    (λ other. (each_offered (OffersNothing x.number) l bytes xs (λ y is none same. absurd (ne_from x.number l other (sym same ∙ is))) h.0, single_offered l bytes xs h.1))

-- where the first of a number offers nothing, none of it does
pub none_offered : (l : ℕ) (xs : List Link) → AreSingle xs → Each (OffersNothing l) (offered l [] xs)
none_offered l [] h = tt
none_offered l (x ∷ xs) h =
    chosen (Each (OffersNothing l)) (x.number == l) (record x { offer = [] } ∷ xs) (x ∷ offered l [] xs)
    (λ same. (λ is. refl, each_as (OffersNothing x.number) (OffersNothing l) (λ y none is. none (is ∙ sym (eq_from x.number l same))) xs h.0))
    (λ other. (λ is. absurd (ne_from x.number l other is), none_offered l xs h.1))

-- the link whose offer it is
pub offering : (P : Link → Type 0) (l : ℕ) (xs : List Link) (piece : List ℕ) → Each P xs → offer_of l xs ≡ Some piece → (x : Link) × (x.number ≡ l) × (x.offer ≡ piece) × P x
offering P l [] piece h is = absurd (not_none None piece refl is)
offering P l (x ∷ xs) piece h is =
    by_test (x.number == l) ((y : Link) × (y.number ≡ l) × (y.offer ≡ piece) × P y)
    (λ same. (x, eq_from x.number l same, same_some x.offer piece (sym (taken_if (x.number == l) (Some x.offer) (offer_of l xs) same) ∙ is), h.0))
    (λ other. offering P l xs piece h.1 (sym (left_if (x.number == l) (Some x.offer) (offer_of l xs) other) ∙ is))

pub some_from : {X : Type 0} (o : Option X) → is_some o ≡ true → (x : X) × (o ≡ Some x)
some_from None h = absurd (not_both false refl h)
some_from (Some x) h = (x, refl)

-- a link that is up
pub up : (P : ℕ → Type 0) (l : ℕ) (xs : List Link) → Each (λ (x : Link). P x.number) xs → is_some (offer_of l xs) ≡ true → P l
up P l xs h is =
    let some = some_from (offer_of l xs) is in
    let x = offering (λ (x : Link). P x.number) l xs some.0 h some.1 in
    subst P x.1 x.3

-- the link that is dialled first
pub first_dialled : (P : ℕ → Type 0) (ts : List Target) (l : ℕ) (name : List ℕ) (port : ℕ) → Each (λ (t : Target). P t.link) ts → IsFirstOf ts l name port → P l
first_dialled P [] l name port h first = absurd first
first_dialled P (t ∷ ts) l name port h first = subst P (sym first.0) h.0

-- the timer that is due
pub due : (P : ℕ → Type 0) (moment : ℕ) (ts : List Pending) (timer : ℕ) → Each (λ (t : Pending). P t.timer) ts → due_in moment ts ≡ Some timer → P timer
due P moment [] timer h is = absurd (not_none None timer refl is)
due P moment (t ∷ ts) timer h is =
    by_test (nat_le t.due moment) (P timer) (λ now. subst P (same_some t.timer timer (sym (taken_if (nat_le t.due moment) (Some t.timer) None now) ∙ is)) h.0)
    (λ later. absurd (not_none (due_in moment (t ∷ ts)) timer (left_if (nat_le t.due moment) (Some t.timer) None later) is))
