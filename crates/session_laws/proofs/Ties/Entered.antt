-- One more action of a trace, and one more act of a connection.
use Rattle.std.proofs.Common.{◌≡◌, ℕ, ◌+◌, List, [], ◌∷◌, ◌++◌, length, refl, sym, ap, ◌∙◌, subst, append_assoc, length-append, arith}
use Rattle.std.proofs.lemmas.List.{append-nil}
use Rattle.driver_model.specs.declared.action.Action.{Action}
use Rattle.mux_conn.specs.declared.act.LinkAct.{LinkAct}
use Rattle.single_session.specs.Turn.{shown, shown_each, source_of, sources_of, timer_of, timers_of}
use Rattle.legal_trace.specs.Book.{Book, blank_book, book, entered, entered_each}
use Rattle.legal_trace.specs.Legal.{MayStand, AllStand}
use Rattle.session_laws.proofs.Ties.Tied.{TurnState, Tied, Sound}

-- actions, and then others
pub entered_each-append : (b : Book) (xs ys : List Action) → entered_each b (xs ++ ys) ≡ entered_each (entered_each b xs) ys
entered_each-append b [] ys = refl
entered_each-append b (x ∷ xs) ys = entered_each-append (entered b x) xs ys

-- the book of a trace, and of what comes behind it
pub book-append : (xs ys : List Action) → book (xs ++ ys) ≡ entered_each (book xs) ys
unfolding book
book-append xs ys = entered_each-append blank_book xs ys

-- one more action
pub book_more : (t : List Action) (a : Action) → book (t ++ a ∷ []) ≡ entered (book t) a
book_more t a = book-append t (a ∷ [])

-- actions that may stand behind those that do
stand-append : (b : Book) (xs ys : List Action) → AllStand b xs → AllStand (entered_each b xs) ys → AllStand b (xs ++ ys)
stand-append b [] ys h k = k
stand-append b (x ∷ xs) ys h k = (h.0, stand-append (entered b x) xs ys h.1 k)

-- what comes behind may stand behind what came before
stand_behind : (b : Book) (xs ys : List Action) → AllStand b (xs ++ ys) → AllStand (entered_each b xs) ys
stand_behind b [] ys h = h
stand_behind b (x ∷ xs) ys h = stand_behind (entered b x) xs ys h.1

-- the same from the beginning
pub all_stand-append : (xs ys : List Action) → AllStand blank_book xs → AllStand (book xs) ys → AllStand blank_book (xs ++ ys)
unfolding book
all_stand-append xs ys h k = stand-append blank_book xs ys h k

-- and back
pub all_stand_behind : (xs ys : List Action) → AllStand blank_book (xs ++ ys) → AllStand (book xs) ys
unfolding book
all_stand_behind xs ys h = stand_behind blank_book xs ys h

-- one more action that may stand, with what ties the session to its book
pub sound_more : (t : List Action) (a : Action) (p : TurnState) → AllStand blank_book t → MayStand (book t) a → Tied (entered (book t) a) p → Sound (t ++ a ∷ []) p
sound_more t a p h may tied = record {
  stands = all_stand-append t (a ∷ []) h (may, tt);
  tied = subst (λ (b : Book). Tied b p) (sym (book_more t a)) tied;
}

-- the timers that acts ask for, and then others
pub timers_of-append : (l : ℕ) (xs ys : List LinkAct) → timers_of l (xs ++ ys) ≡ timers_of l xs ++ timers_of l ys
timers_of-append l [] ys = refl
timers_of-append l (x ∷ xs) ys = ap (λ ts. timer_of l x ++ ts) (timers_of-append l xs ys) ∙ sym (append_assoc (timer_of l x) (timers_of l xs) (timers_of l ys))

-- one more act asks for one timer more, or for none
pub timers_more : (l : ℕ) (acts : List LinkAct) (a : LinkAct) → timers_of l (acts ++ a ∷ []) ≡ timers_of l acts ++ timer_of l a
timers_more l acts a = timers_of-append l acts (a ∷ []) ∙ ap (λ ts. timers_of l acts ++ ts) (append-nil (timer_of l a))

-- the sources of credentials that acts ask for, and then others
pub sources_of-append : (l : ℕ) (xs ys : List LinkAct) → sources_of l (xs ++ ys) ≡ sources_of l xs ++ sources_of l ys
sources_of-append l [] ys = refl
sources_of-append l (x ∷ xs) ys = ap (λ ss. source_of l x ++ ss) (sources_of-append l xs ys) ∙ sym (append_assoc (source_of l x) (sources_of l xs) (sources_of l ys))

-- one more act asks for one source more, or for none
pub sources_more : (l : ℕ) (acts : List LinkAct) (a : LinkAct) → sources_of l (acts ++ a ∷ []) ≡ sources_of l acts ++ source_of l a
sources_more l acts a = sources_of-append l acts (a ∷ []) ∙ ap (λ ss. sources_of l acts ++ ss) (append-nil (source_of l a))

-- an act that asks for none
pub quiet_timers : (l : ℕ) (acts : List LinkAct) (a : LinkAct) → timer_of l a ≡ [] → timers_of l (acts ++ a ∷ []) ≡ timers_of l acts
quiet_timers l acts a e = timers_more l acts a ∙ ap (λ ts. timers_of l acts ++ ts) e ∙ append-nil (timers_of l acts)

-- nor for a source
pub quiet_sources : (l : ℕ) (acts : List LinkAct) (a : LinkAct) → source_of l a ≡ [] → sources_of l (acts ++ a ∷ []) ≡ sources_of l acts
quiet_sources l acts a e = sources_more l acts a ∙ ap (λ ss. sources_of l acts ++ ss) e ∙ append-nil (sources_of l acts)

-- the actions that acts show, and then others
pub shown_each-append : (l t c : ℕ) (xs ys : List LinkAct) → shown_each l t c (xs ++ ys) ≡ shown_each l t c xs ++ shown_each l (t + length (timers_of l xs)) (c + length (sources_of l xs)) ys
shown_each-append l t c [] ys = let same : t ≡ t + 0 = omega arith in let still : c ≡ c + 0 = omega arith in λ i. shown_each l (same i) (still i) ys
shown_each-append l t c (x ∷ xs) ys =
    let next = t + length (timer_of l x) in
    let source = c + length (source_of l x) in
    let far : next + length (timers_of l xs) ≡ t + length (timers_of l (x ∷ xs)) = omega (arith, length-append (timer_of l x) (timers_of l xs)) in
    let behind : source + length (sources_of l xs) ≡ c + length (sources_of l (x ∷ xs)) = omega (arith, length-append (source_of l x) (sources_of l xs)) in
    ap (λ more. shown l t c x ∷ more) (shown_each-append l next source xs ys ∙ (λ i. shown_each l next source xs ++ shown_each l (far i) (behind i) ys))

-- one more act shows one more action
pub shown_more : (before : List Action) (l t c : ℕ) (acts : List LinkAct) (a : LinkAct)
    → before ++ shown_each l t c (acts ++ a ∷ []) ≡ (before ++ shown_each l t c acts) ++ shown l (t + length (timers_of l acts)) (c + length (sources_of l acts)) a ∷ []
shown_more before l t c acts a =
    ap (λ more. before ++ more) (shown_each-append l t c acts (a ∷ []))
    ∙ sym (append_assoc before (shown_each l t c acts) (shown l (t + length (timers_of l acts)) (c + length (sources_of l acts)) a ∷ []))
