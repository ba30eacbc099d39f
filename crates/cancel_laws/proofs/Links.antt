-- A link does the same where the verdict of one message is not wanted.
use Rattle.std.proofs.Common.{◌≡◌, ◌≢◌, ℕ, ◌==◌, ◌&&◌, ◌||◌, not, Bool, true, false, List, [], ◌∷◌, ◌++◌, Option, refl, sym, ap, ◌∙◌, inl, inr}
use Rattle.std.proofs.Math.Bool.{and-false}
use Rattle.containers.proofs.Choices.{by_test, either, eq_from, eq_test, ne_test}
use Rattle.driver_model.specs.declared.hearing.Hearing.{Hearing}
use Rattle.link_core.specs.declared.message.Entry.{Entry}
use Rattle.link_core.specs.declared.message.Queued.{Queued}
use Rattle.link_core.specs.Link.{LinkState, Starting, entry_of, begun, holds_back, is_up_to, started_one, started_all, started_to_each, cancelled, piece_read}
use Rattle.link_core.specs.Row.{silent}
use Rattle.link_core.specs.Waiting.{is_wanted, without}
use Rattle.link_laws.specs.Alike.{SameEntry, SameRow, SameLink}
use Rattle.link_laws.proofs.Cancels.{cancel_stays, cancel_alike, start_alike, bytes_alike}
use Rattle.cancel_laws.specs.ButFor.{hushed, hushed_each, hushed_link}
use Rattle.conn_laws.proofs.Changes.Links.{NoneOf, NoneWanted, quiet_came, quiet_silenced, quiet_starts}

-- an entry, and a row, whose verdict is not wanted
--
-- not wanted and wanted
unwanted : (t b : Bool) → (t && (b && not t)) ≡ false
unwanted true true = refl
unwanted true false = refl
unwanted false b = refl

-- where the verdict of message p is not wanted, nobody awaits it
hushed_quiet : (p : ℕ) (row : List Entry) → NoneWanted p (hushed_each p row)
hushed_quiet p [] = tt
hushed_quiet p (e ∷ es) = (unwanted (e.id == p) e.awaited, hushed_quiet p es)

-- wanted, where it is not that message's
wanted_still : (t b : Bool) → (t && b) ≡ false → (b && not t) ≡ b
wanted_still true true e = cc
wanted_still true false e = refl
wanted_still false true e = refl
wanted_still false false e = refl

-- where nobody awaits it, nothing changes
pub quiet_stays : (p : ℕ) (row : List Entry) → NoneWanted p row → hushed_each p row ≡ row
quiet_stays p [] h = refl
quiet_stays p (e ∷ es) h =
    ap (λ (b : Bool). record e { awaited = b } ∷ hushed_each p es) (wanted_still (e.id == p) e.awaited h.0) ∙ ap (λ (xs : List Entry). e ∷ xs) (quiet_stays p es h.1)

-- its own entry is silent
own_silent : (p : ℕ) (e : Entry) → (e.id == p) ≡ true → hushed p e ≡ silent e
own_silent p e t = ap (λ (b : Bool). record e { awaited = e.awaited && not b }) t ∙ ap (λ (b : Bool). record e { awaited = b }) (and-false e.awaited)

-- any other stays
other_stays : (p : ℕ) (e : Entry) → (e.id == p) ≡ false → hushed p e ≡ e
other_stays p e f = ap (λ (b : Bool). record e { awaited = b }) (wanted_still (e.id == p) e.awaited (ap (λ (b : Bool). b && e.awaited) f))

-- so the entries are the same in the sense of the laws of links
same_entry : (p : ℕ) (e : Entry) → SameEntry p e (hushed p e)
same_entry p e = by_test (e.id == p) (SameEntry p e (hushed p e)) (λ t. inr (eq_from e.id p t, own_silent p e t)) (λ f. inl (sym (other_stays p e f)))

-- and so are the rows
same_row : (p : ℕ) (row : List Entry) → SameRow p row (hushed_each p row)
same_row p [] = tt
same_row p (e ∷ es) = (same_entry p e, same_row p es)

-- what is the same in that sense is so without the verdict
hushed_entry : (p : ℕ) (e f : Entry) → SameEntry p e f → hushed p e ≡ hushed p f
hushed_entry p e f (inl s) = ap (hushed p) s
hushed_entry p e f (inr s) = own_silent p e (eq_test e.id p s.0) ∙ ap (hushed p) (sym s.1)

-- and so are rows
hushed_row : (p : ℕ) (row row' : List Entry) → SameRow p row row' → hushed_each p row ≡ hushed_each p row'
hushed_row p [] [] h = refl
hushed_row p (e ∷ es) (f ∷ fs) h = ap (λ (x : Entry). x ∷ hushed_each p es) (hushed_entry p e f h.0) ∙ ap (λ (xs : List Entry). hushed p f ∷ xs) (hushed_row p es fs h.1)
hushed_row p [] (f ∷ fs) h = absurd h
hushed_row p (e ∷ es) [] h = absurd h

-- whole links
--
-- a link is alike to itself without the verdict
pub alike_hushed : (p : ℕ) (l : LinkState) → SameLink p l (hushed_link p l)
alike_hushed p l = record { row = same_row p l.row; rest = refl }

-- links that are alike are the same without it
both_hushed : (p : ℕ) (s t : LinkState) → SameLink p s t → hushed_link p s ≡ hushed_link p t
both_hushed p s t h = ap (λ (row : List Entry). record s { row = row }) (hushed_row p s.row t.row h.row) ∙ ap (hushed_link p) (sym h.rest)

-- a link that is alike, and in which the verdict is not wanted
hushed_is : (p : ℕ) (s t : LinkState) → SameLink p s t → NoneWanted p t.row → hushed_link p s ≡ t
hushed_is p s t h q = both_hushed p s t h ∙ ap (λ (row : List Entry). record t { row = row }) (quiet_stays p t.row q)

-- messages start
pub hushed_started : (p : ℕ) (l : LinkState) → NoneOf p l.queue → hushed_link p (started_all (record { link = l; out = [] })).link ≡ (started_all (record { link = hushed_link p l; out = [] })).link
hushed_started p l none =
    hushed_is p _ _ (start_alike p l (hushed_link p l) [] (alike_hushed p l)).link (quiet_starts p (record { link = hushed_link p l; out = [] }) l.queue none (hushed_quiet p l.row))

-- one more entry, of a message that isn't that one
behind_hushed : (p : ℕ) (row : List Entry) (q : Queued) → is_wanted p q ≡ false → hushed_each p (row ++ entry_of q ∷ []) ≡ hushed_each p row ++ entry_of q ∷ []
behind_hushed p [] q none = ap (λ (b : Bool). record (entry_of q) { awaited = b } ∷ []) (wanted_still (q.id == p) q.awaited none)
behind_hushed p (e ∷ row) q none = ap (λ (xs : List Entry). hushed p e ∷ xs) (behind_hushed p row q none)

-- it starts
one_hushed : (p : ℕ) (l : LinkState) (q : Queued) → is_wanted p q ≡ false → hushed_link p (begun l q) ≡ begun (hushed_link p l) q
one_hushed p l q none = ap (λ (row : List Entry). record (begun l q) { row = row }) (behind_hushed p l.row q none)

-- another message starts before the queue
pub hushed_begun : (p : ℕ) (l : LinkState) (q : Queued) → q.id ≢ p → hushed_link p (begun l q) ≡ begun (hushed_link p l) q
hushed_begun p l q apart = one_hushed p l q (ap (λ (b : Bool). b && q.awaited) (ne_test q.id p apart))

-- the starts of one call on the link in which the verdict is not wanted
abbrev pub hushed_starting : ℕ → Starting → Starting
hushed_starting p s = record s { link = hushed_link p s.link }

-- messages start up to one of them
pub hushed_ahead : (p : ℕ) (last : Option ℕ) (s : Starting) (queue : List Queued) → NoneOf p queue → hushed_starting p (started_to_each last s queue) ≡ started_to_each last (hushed_starting p s) queue
hushed_ahead p last s [] none = refl
hushed_ahead p last s (q ∷ qs) none =
    let t = hushed_starting p s in
    either (hushed_starting p) (holds_back s.link || not (is_up_to last q.id)) (record s { link = record s.link { queue = q ∷ qs } }) (started_to_each last (started_one s q) qs)
    (record t { link = record t.link { queue = q ∷ qs } }) (started_to_each last (started_one t q) qs) (λ u. refl)
    (λ f. hushed_ahead p last (started_one s q) qs none.1 ∙ ap (λ (l : LinkState). started_to_each last (record (started_one s q) { link = l }) qs) (one_hushed p s.link q none.0))

-- bytes come
pub hushed_came : (p : ℕ) (what : Hearing) (l : LinkState) (piece : List ℕ) → hushed_link p (piece_read what true l piece).link ≡ (piece_read what true (hushed_link p l) piece).link
hushed_came p what l piece =
    hushed_is p (piece_read what true l piece).link (piece_read what true (hushed_link p l) piece).link
    (bytes_alike p what true l (hushed_link p l) piece (alike_hushed p l) (inl refl)).0.link
    (quiet_came p what (hushed_link p l) piece (hushed_quiet p l.row))

-- the caller of another message goes
pub hushed_cancelled : (p m : ℕ) (l : LinkState) → hushed_link p (cancelled l m) ≡ cancelled (hushed_link p l) m
hushed_cancelled p m l = hushed_is p _ _ (cancel_alike p m l (hushed_link p l) (alike_hushed p l)) (quiet_silenced p m (hushed_each p l.row) (hushed_quiet p l.row))

-- and that of message p itself
pub own_cancelled : (p : ℕ) (l : LinkState) → without l.queue p ≡ l.queue → hushed_link p (cancelled l p) ≡ hushed_link p l
own_cancelled p l gone = sym (both_hushed p l (cancelled l p) (cancel_stays p l gone))
