-- The book of a trace that grows, and that its actions stand where they may.
use Rattle.std.proofs.Common.{◌≡◌, List, [], ◌∷◌, ◌++◌, refl, sym, subst}
use Rattle.std.proofs.lemmas.List.{append-nil, append_assoc}
use Rattle.driver_model.specs.declared.action.Action.{Action}
use Rattle.legal_trace.specs.Book.{Book, blank_book, book, entered, entered_each}
use Rattle.legal_trace.specs.Legal.{MayStand, AllStand}

-- actions behind actions come to what the second make of the book of the first
pub entered_append : (b : Book) (front more : List Action) → entered_each b (front ++ more) ≡ entered_each (entered_each b front) more
entered_append b [] more = refl
entered_append b (a ∷ front) more = entered_append (entered b a) front more

-- actions behind actions that may stand
pub stand_append : (b : Book) (front more : List Action) → AllStand b front → AllStand (entered_each b front) more → AllStand b (front ++ more)
stand_append b [] more h k = k
stand_append b (a ∷ front) more h k = (h.0, stand_append (entered b a) front more h.1 k)

-- the front of actions that may stand
pub stand_front : (b : Book) (front more : List Action) → AllStand b (front ++ more) → AllStand b front
stand_front b [] more h = tt
stand_front b (a ∷ front) more h = (h.0, stand_front (entered b a) front more h.1)

-- and what stands behind it
pub stand_behind : (b : Book) (front more : List Action) → AllStand b (front ++ more) → AllStand (entered_each b front) more
stand_behind b [] more h = h
stand_behind b (a ∷ front) more h = stand_behind (entered b a) front more h.1

-- a further action that may stand
pub stand_more_behind : (b : Book) (t : List Action) (a : Action) → AllStand b t → MayStand (entered_each b t) a → AllStand b (t ++ a ∷ [])
stand_more_behind b t a h may = stand_append b t (a ∷ []) h (may, tt)

-- the book of a trace and of more actions
pub book_append : (t more : List Action) → book (t ++ more) ≡ entered_each (book t) more
unfolding book
book_append t more = entered_append blank_book t more

-- of a trace and one action more
pub book_more : (t : List Action) (a : Action) → book (t ++ a ∷ []) ≡ entered (book t) a
book_more t a = book_append t (a ∷ [])

-- a trace whose actions may stand, and an action that may stand behind it
pub stand_more : (t : List Action) (a : Action) → AllStand blank_book t → MayStand (book t) a → AllStand blank_book (t ++ a ∷ [])
unfolding book
stand_more t a h may = stand_more_behind blank_book t a h may

-- what is asked of one action more
abbrev pub Grows : (List Action → Type 0) → Type 0
Grows P = (t : List Action) (a : Action) → AllStand blank_book t → MayStand (book t) a → P t → P (t ++ a ∷ [])

-- what stands behind a book of one action more
stands_behind : (t : List Action) (a : Action) (more : List Action) → AllStand (entered (book t) a) more → AllStand (book (t ++ a ∷ [])) more
stands_behind t a more h = subst (λ b. AllStand b more) (sym (book_more t a)) h

-- what holds of a front, and stays with each action more, holds behind more
along : (P : List Action → Type 0) (t more : List Action) → Grows P → AllStand blank_book t → AllStand (book t) more → P t → P (t ++ more)
along P t [] step all stand h = subst P (sym (append-nil t)) h
along P t (a ∷ more) step all stand h =
    subst P (append_assoc t (a ∷ []) more) (along P (t ++ a ∷ []) more step (stand_more t a all stand.0) (stands_behind t a more stand.1) (step t a all stand.0 h))

-- so what holds of the empty trace, and stays with each action more, holds of each trace whose actions may stand
pub of_each_front : (P : List Action → Type 0) (front : List Action) → Grows P → AllStand blank_book front → P [] → P front
unfolding book
of_each_front P front step all h = along P [] front step tt all h
