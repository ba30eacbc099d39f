-- What is heard on a link stands in order among the items that are dealt.
use Rattle.std.proofs.Common.{◌≡◌, ◌⊎◌, inl, inr, ℕ, zero, suc, ◌+◌, ◌-◌, ◌≤◌, true, ◌&&◌, List, [], ◌∷◌, ◌++◌, length, take, Some, sym, ◌∙◌, subst, arith, length-append, Option, None}
use Rattle.std.specs.Prelude.{slice_get}
use Rattle.containers.proofs.Choices.{chosen}
use Rattle.redis_error.specs.declared.redis_error.RedisError.TheVariants as error
use Rattle.resp_value.specs.Data.{Data}
use Rattle.driver_model.specs.Hearing.{Taking}
use Rattle.driver_model.specs.declared.hearing.Notice.{Notice}
use Rattle.driver_model.specs.declared.action.Action.{Action}
use Rattle.driver_model.specs.News.{News, silence, connected, refused, overdue, took, came, failed, dropped, shut, authorized, denied, deserted, renewed, unrenewed, late, unrepeated}
use Rattle.legal_trace.specs.Ledger.{Ledger, Heard, Line, asks, hears, begins, offers, tells, ends, parts, blank_ledger, noted, with_news, refused_in, bytes_came, items_came, value_came, heard_at, taking_of, value_by, is_over, dials, reach, sources, awaits_credentials, authorized_by, times, may_renew, renewed_by, unrenewed_by, is_renewal_open, lost_by, is_repeating, unrepeated_by, repeats_timed}
use Rattle.legal_trace.specs.Book.{book}
use Rattle.legal_trace.proofs.Ledgers.{each_keeps, FewAreDealt, few_keeps}
use Rattle.legal_trace.proofs.Plain.{same_some}
use Rattle.legal_trace.proofs.Came.{Came, holds_came, bytes_keep}
use Rattle.legal_laws.specs.Links.{lines_for}
use Rattle.legal_laws.proofs.Links.Lines.{ledgers_are_told}

-- each of these came behind so many items at least, and so many at most, and none behind fewer than the one before it
abbrev pub Between : ℕ → List Heard → ℕ → Type 0
Between low [] high = low ≤ high
Between low (h ∷ hs) high = (low ≤ h.after) × Between h.after hs high

-- so behind fewer
between_lower : (a b : ℕ) (hs : List Heard) (c : ℕ) → a ≤ b → Between b hs c → Between a hs c
between_lower a b [] c i h = omega (arith, i, h)
between_lower a b (x ∷ hs) c i h = let first : b ≤ x.after = h.0 in (omega (arith, i, first), h.1)

-- and up to more
between_upper : (a : ℕ) (hs : List Heard) (b c : ℕ) → Between a hs b → b ≤ c → Between a hs c
between_upper a [] b c h i = omega (arith, i, h)
between_upper a (x ∷ hs) b c h i = (h.0, between_upper x.after hs b c h.1 i)

-- these and then those
between_append : (a : ℕ) (xs : List Heard) (b : ℕ) (ys : List Heard) (c : ℕ) → Between a xs b → Between b ys c → Between a (xs ++ ys) c
between_append a [] b ys c h k = between_lower a b ys c h k
between_append a (x ∷ xs) b ys c h k = (h.0, between_append x.after xs b ys c h.1 k)

-- the bounds themselves
between_le : (a : ℕ) (xs : List Heard) (b : ℕ) → Between a xs b → a ≤ b
between_le a [] b h = h
between_le a (x ∷ xs) b h =
    let first : a ≤ x.after = h.0 in
    let rest : x.after ≤ b = between_le x.after xs b h.1 in omega (arith, first, rest)

-- each is within them
pub between_at : (a : ℕ) (xs : List Heard) (b i : ℕ) (p : Heard) → Between a xs b → slice_get xs i ≡ Some p → (a ≤ p.after) × (p.after ≤ b)
between_at a [] b i p h e = absurd (cc e)
between_at a (x ∷ xs) b zero p h e = subst (λ (q : Heard). (a ≤ q.after) × (q.after ≤ b)) (same_some x p e) (h.0, between_le x.after xs b h.1)
between_at a (x ∷ xs) b (suc i) p h e =
    let r = between_at x.after xs b i p h.1 e in
    let low : a ≤ x.after = h.0 in
    let more : x.after ≤ p.after = r.0 in (omega (arith, low, more), r.1)

-- one that stands behind another came no earlier
pub between_behind : (a : ℕ) (xs : List Heard) (b i j : ℕ) (p q : Heard) → i ≤ j → Between a xs b → slice_get xs i ≡ Some p → slice_get xs j ≡ Some q → p.after ≤ q.after
between_behind a [] b i j p q le h e f = absurd (cc e)
between_behind a (x ∷ xs) b zero zero p q le h e f = subst (λ (r : Heard). p.after ≤ r.after) (sym (same_some x p e) ∙ same_some x q f) (omega arith)
between_behind a (x ∷ xs) b zero (suc j) p q le h e f = subst (λ (r : Heard). r.after ≤ q.after) (same_some x p e) (between_at x.after xs b j q h.1 f).0
between_behind a (x ∷ xs) b (suc i) zero p q le h e f = absurd (omega (arith, le))
between_behind a (x ∷ xs) b (suc i) (suc j) p q le h e f = between_behind x.after xs b i j p q (omega (arith, le)) h.1 e f

-- what is told of a value came behind the items dealt so far
at_between : (l : Ledger) (told : Option Notice) (high : ℕ) → length l.dealt ≤ high → Between (length l.dealt) (heard_at l told) high
at_between l None high i = i
at_between l (Some n) high i = (omega arith, i)

-- no item is taken back where something comes
pub came_grows : (l m : Ledger) → Came l m → length l.dealt ≤ length m.dealt
came_grows l m grew = holds_came (λ (x : Ledger). length l.dealt ≤ length x.dealt) l m grew
    (λ rest strange told more. let long : length (l.dealt ++ more) ≡ length l.dealt + length more = length-append l.dealt more in omega (arith, long))

-- no more items are dealt than messages take, and what is told came in order, behind no more items than are dealt
pub record InRow (l : Ledger) : Type 0 where
  pub few : FewAreDealt l
  pub rise : Between 0 l.notices (length l.dealt)

-- the order alone
abbrev Rises : Ledger → Type 0
Rises l = Between 0 l.notices (length l.dealt)

-- so with each value
value_rises : (l : Ledger) (v : Data) → Rises l → Rises (value_came l v)
value_rises l v h =
    let t : Taking = taking_of l v in
    let m : Ledger = record l { notices = l.notices ++ heard_at l t.told; strange = t.ends } in
    let long : length (items_came m (v ∷ [])).dealt ≡ length l.dealt + length (take (reach l.starts l.dealt - length l.dealt) (v ∷ [])) = length-append l.dealt (take (reach l.starts l.dealt - length l.dealt) (v ∷ [])) in
    chosen Rises l.strange l (value_by l t v) (λ e. h) (λ f. chosen Rises t.dealt (items_came m (v ∷ [])) m
    (λ d. between_append 0 l.notices (length l.dealt) (heard_at l t.told) (length (items_came m (v ∷ [])).dealt) h (at_between l t.told (length (items_came m (v ∷ [])).dealt) (omega (arith, long))))
    (λ d. between_append 0 l.notices (length l.dealt) (heard_at l t.told) (length l.dealt) h (at_between l t.told (length l.dealt) (omega arith))))

-- so with any news
rises_hears : (l : Ledger) (turn : ℕ) (news : News) → InRow l → Rises (with_news l turn news)
rises_hears l turn silence h = h.rise
rises_hears l turn connected h = chosen Rises (is_over l) l (record l { up = true }) (λ t. h.rise) (λ e. h.rise)
rises_hears l turn (refused f) h = chosen Rises (dials l) (refused_in l turn (error.Io f)) l (λ t. h.rise) (λ e. h.rise)
rises_hears l turn overdue h = h.rise
rises_hears l turn (took count) h = chosen Rises l.up (record l { taken = l.taken ++ take count l.offer; offer = [] }) l (λ t. h.rise) (λ e. h.rise)
rises_hears l turn (came piece) h = chosen Rises l.up (bytes_came l piece) l (λ t. bytes_keep Rises value_rises l piece h.rise) (λ e. h.rise)
rises_hears l turn (failed f) h = h.rise
rises_hears l turn (authorized c) h = chosen Rises (awaits_credentials l) (authorized_by l c) l (λ t. h.rise) (λ e. h.rise)
rises_hears l turn (denied text) h = h.rise
rises_hears l turn deserted h = h.rise
rises_hears l turn (renewed c) h = chosen Rises (may_renew l) (renewed_by l c) l (λ t. h.rise) (λ e. h.rise)
rises_hears l turn unrenewed h = chosen Rises l.up (unrenewed_by l) l (λ t. h.rise) (λ e. h.rise)
rises_hears l turn (late k) h = chosen Rises (l.up && is_renewal_open l k) (lost_by l) l (λ t. h.rise) (λ e. h.rise)
rises_hears l turn unrepeated h = chosen Rises (is_repeating l) (unrepeated_by l) l (λ t. h.rise) (λ e. h.rise)
rises_hears l turn dropped h = h.rise
rises_hears l turn shut h = h.rise

-- and with any line
rises_keeps : (l : Ledger) (x : Line) → InRow l → Rises (noted l x)
rises_keeps l (asks info wanted hearing last again) h = h.rise
rises_keeps l (hears turn news) h = rises_hears l turn news h
rises_keeps l (begins s) h = h.rise
rises_keeps l (offers bytes) h = h.rise
rises_keeps l tells h = h.rise
rises_keeps l (ends turn) h = h.rise
rises_keeps l sources h = h.rise
rises_keeps l times h = h.rise
rises_keeps l repeats_timed h = h.rise
rises_keeps l parts h = h.rise

row_keeps : (l : Ledger) (x : Line) → InRow l → InRow (noted l x)
row_keeps l x h = record { few = few_keeps l x h.few; rise = rises_keeps l x h }

-- so it is of each link of a trace
pub in_row : (trace : List Action) (l : ℕ) → InRow ((book trace).link l)
in_row trace l = subst InRow (sym (ledgers_are_told trace l)) (each_keeps InRow row_keeps blank_ledger (lines_for trace l) (record { few = omega arith; rise = omega arith }))

-- so many items were dealt, and nothing that waits to be told came behind fewer
pub record IsBeyond (count : ℕ) (l : Ledger) : Type 0 where
  pub dealt : count ≤ length l.dealt
  pub waits : (i : ℕ) (p : Heard) → l.told ≤ i → slice_get l.notices i ≡ Some p → count ≤ p.after

-- what stands in two lists stands in one of them
get_append : (xs ys : List Heard) (i : ℕ) (p : Heard) → slice_get (xs ++ ys) i ≡ Some p → (slice_get xs i ≡ Some p) ⊎ ((j : ℕ) × (slice_get ys j ≡ Some p))
get_append [] ys i p e = inr (i, e)
get_append (x ∷ xs) ys zero p e = inl e
get_append (x ∷ xs) ys (suc i) p e = get_append xs ys i p e

-- so where a value comes
value_beyond : (count : ℕ) (l : Ledger) (v : Data) → IsBeyond count l → IsBeyond count (value_came l v)
value_beyond count l v h =
    let t : Taking = taking_of l v in
    let m : Ledger = record l { notices = l.notices ++ heard_at l t.told; strange = t.ends } in
    let before : count ≤ length l.dealt = h.dealt in
    let waits : (i : ℕ) (p : Heard) → l.told ≤ i → slice_get (l.notices ++ heard_at l t.told) i ≡ Some p → count ≤ p.after =
    λ i p told at. elim (get_append l.notices (heard_at l t.told) i p at) [
      | inl old ↦ h.waits i p told old
      | inr new ↦
          let low : length l.dealt ≤ p.after = (between_at (length l.dealt) (heard_at l t.told) (length l.dealt) new.0 p (at_between l t.told (length l.dealt) (omega arith)) new.1).0 in
          omega (arith, low, before)
    ] in
    let long : length (items_came m (v ∷ [])).dealt ≡ length l.dealt + length (take (reach l.starts l.dealt - length l.dealt) (v ∷ [])) = length-append l.dealt (take (reach l.starts l.dealt - length l.dealt) (v ∷ [])) in
    chosen (IsBeyond count) l.strange l (value_by l t v) (λ e. h) (λ f. chosen (IsBeyond count) t.dealt (items_came m (v ∷ [])) m
    (λ d. record { dealt = omega (arith, long, before); waits = waits }) (λ d. record { dealt = h.dealt; waits = waits }))

-- with any news
beyond_hears : (count : ℕ) (l : Ledger) (turn : ℕ) (news : News) → IsBeyond count l → IsBeyond count (with_news l turn news)
beyond_hears count l turn silence h = h
beyond_hears count l turn connected h = chosen (IsBeyond count) (is_over l) l (record l { up = true }) (λ t. h) (λ e. record { dealt = h.dealt; waits = h.waits })
beyond_hears count l turn (refused f) h = chosen (IsBeyond count) (dials l) (refused_in l turn (error.Io f)) l (λ t. record { dealt = h.dealt; waits = h.waits }) (λ e. h)
beyond_hears count l turn overdue h = h
beyond_hears count l turn (took n) h = chosen (IsBeyond count) l.up (record l { taken = l.taken ++ take n l.offer; offer = [] }) l (λ t. record { dealt = h.dealt; waits = h.waits }) (λ e. h)
beyond_hears count l turn (came piece) h = chosen (IsBeyond count) l.up (bytes_came l piece) l (λ t. bytes_keep (IsBeyond count) (value_beyond count) l piece (record { dealt = h.dealt; waits = h.waits })) (λ e. h)
beyond_hears count l turn (failed f) h = h
beyond_hears count l turn (authorized c) h = chosen (IsBeyond count) (awaits_credentials l) (authorized_by l c) l (λ t. record { dealt = h.dealt; waits = h.waits }) (λ e. h)
beyond_hears count l turn (denied text) h = h
beyond_hears count l turn deserted h = h
beyond_hears count l turn (renewed c) h = chosen (IsBeyond count) (may_renew l) (renewed_by l c) l (λ t. record { dealt = h.dealt; waits = h.waits }) (λ e. h)
beyond_hears count l turn unrenewed h = chosen (IsBeyond count) l.up (unrenewed_by l) l (λ t. record { dealt = h.dealt; waits = h.waits }) (λ e. h)
beyond_hears count l turn (late k) h = chosen (IsBeyond count) (l.up && is_renewal_open l k) (lost_by l) l (λ t. record { dealt = h.dealt; waits = h.waits }) (λ e. h)
beyond_hears count l turn unrepeated h = chosen (IsBeyond count) (is_repeating l) (unrepeated_by l) l (λ t. record { dealt = h.dealt; waits = h.waits }) (λ e. h)
beyond_hears count l turn dropped h = h
beyond_hears count l turn shut h = h

-- and with any line
pub beyond_keeps : (count : ℕ) (l : Ledger) (x : Line) → IsBeyond count l → IsBeyond count (noted l x)
beyond_keeps count l (asks info wanted hearing last again) h = record { dealt = h.dealt; waits = h.waits }
beyond_keeps count l (hears turn news) h = let k = beyond_hears count l turn news h in record { dealt = k.dealt; waits = k.waits }
beyond_keeps count l (begins s) h = record { dealt = h.dealt; waits = h.waits }
beyond_keeps count l (offers bytes) h = record { dealt = h.dealt; waits = h.waits }
beyond_keeps count l tells h = record { dealt = h.dealt; waits = λ i p told at. h.waits i p (omega (arith, told)) at }
beyond_keeps count l (ends turn) h = record { dealt = h.dealt; waits = h.waits }
beyond_keeps count l sources h = record { dealt = h.dealt; waits = h.waits }
beyond_keeps count l times h = record { dealt = h.dealt; waits = h.waits }
beyond_keeps count l repeats_timed h = record { dealt = h.dealt; waits = h.waits }
beyond_keeps count l parts h = record { dealt = h.dealt; waits = h.waits }
