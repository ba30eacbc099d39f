-- Since when submissions have their places, and new credentials are due, behind actions that may stand.
use Rattle.std.proofs.Common.{◌≡◌, inl, inr, ℕ, ◌-◌, ◌<◌, ◌≤◌, ◌==◌, nat_lt, true, false, List, [], ◌∷◌, Option, Some, None, refl, sym, ◌∙◌, arith}
use Rattle.containers.proofs.Choices.{by_test, eq_from, lt_from, not_lt_from, not_both, both_left, both_right}
use Rattle.driver_model.specs.declared.action.Action.{Action}
use Rattle.legal_trace.specs.Book.{Book, blank_book, book, entered, entered_each}
use Rattle.legal_trace.specs.Legal.{MayStand, AllStand}
use Rattle.legal_trace.specs.Story.{has_place, is_unstarted}
use Rattle.legal_laws.proofs.Internal.Since.{SinceBegun, since_each}
use Rattle.legal_laws.proofs.Submissions.ByPlace.{placed_is_numbered}
use Rattle.legal_laws.proofs.Submissions.InLine.{is_to_start, follows, stays_out, submissions_grow}
use Rattle.legal_laws.proofs.Submissions.Places.{Knows, blank_knows, knows_each, knows_kept, place_kept, placed_again, placed_step, turns_grow}
use Rattle.legal_laws.proofs.Traces.Numbers.{links_grow}
use Rattle.conn_laws.proofs.Ties.Places.{StaysOrComes}

-- one after another
stays_on : (turn later : ℕ) (old mid new : Option ℕ) → turn ≤ later → StaysOrComes turn old mid → StaysOrComes later mid new → StaysOrComes turn old new
stays_on turn later old mid new less (inl same) (inl still) = inl (still ∙ same)
stays_on turn later old mid new less (inl same) (inr k) = inr (record { none = sym same ∙ k.none; at = k.at; is = k.is; late = (let i = k.late in omega (arith, less, i)) })
stays_on turn later old mid new less (inr h) (inl still) = inr (record { none = h.none; at = h.at; is = still ∙ h.is; late = h.late })
stays_on turn later old mid new less (inr h) (inr k) = absurd (let no : ◌≡◌ {A = Option ℕ} None (Some h.at) = sym k.none ∙ h.is in cc no)

-- without a place none was taken
pub untaken : (b : Book) (n : ℕ) → Knows b → has_place (b.story n) ≡ false → b.placed n ≡ None
untaken b n k none = by_place (b.placed n) refl
  where
    by_place : (o : Option ℕ) → b.placed n ≡ o → o ≡ None
    by_place None e = refl
    by_place (Some t) e = absurd (not_both (has_place (b.story n)) none (k.places.has n t e))

-- so it is of one that isn't handed in
pub unnumbered : (b : Book) (n : ℕ) → Knows b → (n < b.submissions → ⊥) → b.placed n ≡ None
unnumbered b n k out = by_place (b.placed n) refl
  where
    by_place : (o : Option ℕ) → b.placed n ≡ o → o ≡ None
    by_place None e = refl
    by_place (Some t) e = absurd (out (placed_is_numbered b n t k e))

-- behind an action who is to start on a link that was asked for has its place as it had, or takes it
place_step : (b : Book) (a : Action) (l n : ℕ) → MayStand b a → Knows b → l < b.links → is_to_start l ((entered b a).story n) ≡ true → StaysOrComes (b.turns - 1) (b.placed n) ((entered b a).placed n)
place_step b a l n may k asked to = by_test (has_place (b.story n)) (StaysOrComes (b.turns - 1) (b.placed n) ((entered b a).placed n))
    (λ p.
    let had = k.places.since n p in
    let i : n < b.submissions = placed_is_numbered b n had.0 k had.1 in
    let u : is_unstarted ((entered b a).story n) ≡ true = both_right (((entered b a).story n).link == l) (is_unstarted ((entered b a).story n)) to in
    let on : ((entered b a).story n).link ≡ l = eq_from ((entered b a).story n).link l (both_left (((entered b a).story n).link == l) (is_unstarted ((entered b a).story n)) to) in
    elim (place_kept b a may n i (k.sit n i ((follows b a may n i).unstarted u) p) p u) [
      | inl stays ↦ inl (placed_again b a n had.0 stays had.1 ∙ sym had.1)
      | inr goes ↦ absurd (omega (arith, asked, on, goes))
    ])
    (λ f. by_place (untaken b n k f) ((entered b a).placed n) refl)
  where
    by_place : b.placed n ≡ None → (o : Option ℕ) → (entered b a).placed n ≡ o → StaysOrComes (b.turns - 1) (b.placed n) ((entered b a).placed n)
    by_place none None e = inl (e ∙ sym none)
    by_place none (Some t) e = elim (placed_step b a n t e) [
      | inl old ↦ absurd (let no : ◌≡◌ {A = Option ℕ} None (Some t) = sym none ∙ old in cc no)
      | inr now ↦ inr (record { none = none; at = t; is = e; late = omega (arith, now) })
    ]

-- and behind many
pub places_stay : (b : Book) (front : List Action) (l n : ℕ) → AllStand b front → Knows b → l < b.links → is_to_start l ((entered_each b front).story n) ≡ true → StaysOrComes (b.turns - 1) (b.placed n) ((entered_each b front).placed n)
places_stay b [] l n all k asked to = inl refl
places_stay b (a ∷ more) l n all k asked to =
    let c : Book = entered b a in
    let known : Knows c = knows_kept b a all.0 k in
    let turns : b.turns ≤ c.turns = turns_grow b a in
    let links : b.links ≤ c.links = links_grow b a in
    let later : l < c.links = omega (arith, asked, links) in
    let rest = places_stay c more l n all.1 known later to in
    stays_on (b.turns - 1) (c.turns - 1) (b.placed n) (c.placed n) ((entered_each c more).placed n) (omega (arith, turns)) (by_test (nat_lt n c.submissions) (StaysOrComes (b.turns - 1) (b.placed n) (c.placed n))
    (λ t.
    let before : is_to_start l (c.story n) ≡ true = by_test (is_to_start l (c.story n)) (is_to_start l (c.story n) ≡ true) (λ x. x)
    (λ f. absurd (stays_out c more all.1 l n later (lt_from n c.submissions t) (λ x. not_both (is_to_start l (c.story n)) f x) to)) in
    place_step b a l n all.0 k asked before)
    (λ f.
    let out : c.submissions ≤ n = not_lt_from n c.submissions f in
    let grows : b.submissions ≤ c.submissions = submissions_grow b a in
    inl (unnumbered c n known (λ i. omega (arith, out, i)) ∙ sym (unnumbered b n k (λ i. omega (arith, out, grows, i)))))) rest

-- what is known of the book of actions that may stand
pub known : (trace : List Action) → AllStand blank_book trace → Knows (book trace)
unfolding book
known trace all = knows_each blank_book trace all blank_knows

pub since_begun : (trace : List Action) → AllStand blank_book trace → SinceBegun (book trace)
unfolding book
since_begun trace all = since_each blank_book trace all (λ l. omega arith)
