-- What holds of any ledger, and what lines do to it.
use Rattle.std.proofs.Common.{◌≡◌, ◌≢◌, ℕ, ◌+◌, ◌-◌, ◌<◌, ◌≤◌, ◌==◌, min, if◌then◌else◌, Bool, true, false, ◌&&◌, not, List, [], ◌∷◌, ◌++◌, length, take, drop, None, refl, sym, ap, ◌∙◌, subst, arith, append_assoc, length-append}
use Rattle.containers.proofs.Choices.{chosen, if_false, ne_from, not_both}
use Rattle.std.proofs.lemmas.List.{append-nil, length-take, take-append-le}
use Rattle.resp_value.specs.Data.{Data}
use Rattle.redis_error.specs.declared.redis_error.RedisError.TheVariants as error
use Rattle.driver_model.specs.News.{News, silence, connected, refused, overdue, took, came, failed, authorized, denied, deserted, renewed, unrenewed, late, unrepeated, dropped, shut}
use Rattle.driver_model.specs.declared.outcome.Shape.{Shape}
use Rattle.driver_model.specs.declared.outcome.Shape.TheVariants.{Single, Pipeline, Confirmation}
use Rattle.driver_model.specs.Shape.{need_of}
use Rattle.legal_trace.specs.Ledger.{Ledger, Line, Start, asks, hears, begins, offers, tells, sources, times, repeats_timed, ends, parts, noted, noted_each, with_news, refused_in, bytes_came, value_came, items_came, awaits_credentials, authorized_by, may_renew, renewed_by, unrenewed_by, is_renewal_open, lost_by, is_repeating, unrepeated_by, is_over, dials, reach, joined, reached, AllNoted}
use Rattle.legal_trace.specs.Book.{if_mine}
use Rattle.legal_trace.proofs.Plain.{none_from}
use Rattle.legal_trace.proofs.Came.{holds_bytes, value_keeps, bytes_keep}

-- a fact that each line keeps is kept by any lines
pub each_keeps : (P : Ledger → Type 0) → ((l : Ledger) (x : Line) → P l → P (noted l x)) → (l : Ledger) (lines : List Line) → P l → P (noted_each l lines)
each_keeps P keeps l [] h = h
each_keeps P keeps l (x ∷ more) h = each_keeps P keeps (noted l x) more (keeps l x h)

-- a fact of a link that is told a line, if it is told it
pub mine_keeps : (P : Ledger → Type 0) (mine : Bool) (l : Ledger) (x : Line) → (mine ≡ true → P (noted l x)) → P l → P (noted_each l (if_mine mine x))
mine_keeps P true l x t h = t refl
mine_keeps P false l x t h = h

-- lines behind lines come to what the second make of the first
pub noted_append : (l : Ledger) (xs ys : List Line) → noted_each l (xs ++ ys) ≡ noted_each (noted_each l xs) ys
noted_append l [] ys = refl
noted_append l (x ∷ xs) ys = noted_append (noted l x) xs ys

-- lines behind lines that may stand
pub may_append : (l : Ledger) (xs ys : List Line) → AllNoted l xs → AllNoted (noted_each l xs) ys → AllNoted l (xs ++ ys)
may_append l [] ys h k = k
may_append l (x ∷ xs) ys h k = (h.0, may_append (noted l x) xs ys h.1 k)

-- of three that all hold, each does
three_hold : (asked up over : Bool) → (asked && not up && not over) ≡ true → (asked ≡ true) × (up ≡ false) × (over ≡ false)
three_hold true false false e = (refl, refl, refl)
three_hold true false true e = cc
three_hold true true over e = cc
three_hold false up over e = cc

-- a link whose connect isn't answered was asked for, is not up, and has not ended
pub dials_from : (l : Ledger) → dials l ≡ true → (l.asked ≡ true) × (l.up ≡ false) × (is_over l ≡ false)
dials_from l h = three_hold l.asked l.up (is_over l) h

-- so one that was not asked for doesn't dial
pub unasked_dials_not : (l : Ledger) → l.asked ≡ false → dials l ≡ false
unasked_dials_not l h = ap (λ asked. asked && not l.up && not (is_over l)) h

-- a link that is up has not ended
abbrev pub UpIsNotOver : Ledger → Type 0
UpIsNotOver l = l.up ≡ true → l.end ≡ None

-- news brings up no link that has ended
up_hears : (l : Ledger) (turn : ℕ) (news : News) → UpIsNotOver l → UpIsNotOver (with_news l turn news)
up_hears l turn silence h = h
up_hears l turn connected h = chosen UpIsNotOver (is_over l) l (record l { up = true }) (λ t. h) (λ e u. none_from l.end e)
up_hears l turn (refused f) h = chosen UpIsNotOver (dials l) (refused_in l turn (error.Io f)) l (λ t u. absurd (not_both l.up (dials_from l t).1 u)) (λ e. h)
up_hears l turn overdue h = h
up_hears l turn (took count) h = chosen UpIsNotOver l.up (record l { taken = l.taken ++ take count l.offer; offer = [] }) l (λ t. h) (λ e. h)
up_hears l turn (came piece) h = chosen UpIsNotOver l.up (bytes_came l piece) l (λ t. holds_bytes UpIsNotOver l piece (λ rest strange told more. h)) (λ e. h)
up_hears l turn (failed f) h = h
up_hears l turn (authorized c) h = chosen UpIsNotOver (awaits_credentials l) (authorized_by l c) l (λ t. h) (λ e. h)
up_hears l turn (denied text) h = h
up_hears l turn deserted h = h
up_hears l turn (renewed c) h = chosen UpIsNotOver (may_renew l) (renewed_by l c) l (λ t. h) (λ e. h)
up_hears l turn unrenewed h = chosen UpIsNotOver l.up (unrenewed_by l) l (λ t. h) (λ e. h)
up_hears l turn (late k) h = chosen UpIsNotOver (l.up && is_renewal_open l k) (lost_by l) l (λ t. h) (λ e. h)
up_hears l turn unrepeated h = chosen UpIsNotOver (is_repeating l) (unrepeated_by l) l (λ t. h) (λ e. h)
up_hears l turn dropped h = h
up_hears l turn shut h = h

-- nor does any line
pub up_keeps : (l : Ledger) (x : Line) → UpIsNotOver l → UpIsNotOver (noted l x)
up_keeps l (asks info wanted hearing last again) h = h
up_keeps l (hears turn news) h = up_hears l turn news h
up_keeps l (begins s) h = h
up_keeps l (offers bytes) h = h
up_keeps l tells h = h
up_keeps l sources h = h
up_keeps l times h = h
up_keeps l repeats_timed h = h
up_keeps l (ends turn) h = λ u. cc
up_keeps l parts h = h

-- a link that was asked for has been
abbrev pub IsAsked : Ledger → Type 0
IsAsked l = l.asked ≡ true

-- of a second ledger: it was asked for, hears and has started messages as the first, and where it has not ended, nor has the first
pub record SamePast (l m : Ledger) : Type 0 where
  pub asked : m.asked ≡ l.asked
  pub hearing : m.hearing ≡ l.hearing
  pub end : m.end ≡ None → l.end ≡ None
  pub starts : m.starts ≡ l.starts

-- each has its own past
same_past : (l : Ledger) → SamePast l l
same_past l = record { asked = refl; hearing = refl; end = λ e. e; starts = refl }

-- news leaves these as they are
pub hears_past : (l : Ledger) (turn : ℕ) (news : News) → SamePast l (with_news l turn news)
hears_past l turn silence = same_past l
hears_past l turn connected = chosen (SamePast l) (is_over l) l (record l { up = true }) (λ t. same_past l) (λ e. record { asked = refl; hearing = refl; end = λ n. n; starts = refl })
hears_past l turn (refused f) = chosen (SamePast l) (dials l) (refused_in l turn (error.Io f)) l (λ t. record { asked = refl; hearing = refl; end = λ n. none_from l.end (dials_from l t).2; starts = refl }) (λ e. same_past l)
hears_past l turn overdue = same_past l
hears_past l turn (took count) = chosen (SamePast l) l.up (record l { taken = l.taken ++ take count l.offer; offer = [] }) l (λ t. record { asked = refl; hearing = refl; end = λ n. n; starts = refl }) (λ e. same_past l)
hears_past l turn (came piece) = chosen (SamePast l) l.up (bytes_came l piece) l (λ t. holds_bytes (SamePast l) l piece (λ rest strange told more. record { asked = refl; hearing = refl; end = λ n. n; starts = refl })) (λ e. same_past l)
hears_past l turn (failed f) = same_past l
hears_past l turn (authorized c) = chosen (SamePast l) (awaits_credentials l) (authorized_by l c) l (λ t. record { asked = refl; hearing = refl; end = λ n. n; starts = refl }) (λ e. same_past l)
hears_past l turn (denied text) = same_past l
hears_past l turn deserted = same_past l
hears_past l turn (renewed c) = chosen (SamePast l) (may_renew l) (renewed_by l c) l (λ t. record { asked = refl; hearing = refl; end = λ n. n; starts = refl }) (λ e. same_past l)
hears_past l turn unrenewed = chosen (SamePast l) l.up (unrenewed_by l) l (λ t. record { asked = refl; hearing = refl; end = λ n. n; starts = refl }) (λ e. same_past l)
hears_past l turn (late k) = chosen (SamePast l) (l.up && is_renewal_open l k) (lost_by l) l (λ t. record { asked = refl; hearing = refl; end = λ n. n; starts = refl }) (λ e. same_past l)
hears_past l turn unrepeated = chosen (SamePast l) (is_repeating l) (unrepeated_by l) l (λ t. record { asked = refl; hearing = refl; end = λ n. n; starts = refl }) (λ e. same_past l)
hears_past l turn dropped = same_past l
hears_past l turn shut = same_past l

-- each line leaves it so
pub asked_keeps : (l : Ledger) (x : Line) → IsAsked l → IsAsked (noted l x)
asked_keeps l (asks info wanted hearing last again) h = refl
asked_keeps l (hears turn news) h = subst (λ (b : Bool). b ≡ true) (sym (hears_past l turn news).asked) h
asked_keeps l (begins s) h = h
asked_keeps l (offers bytes) h = h
asked_keeps l tells h = h
asked_keeps l sources h = h
asked_keeps l times h = h
asked_keeps l repeats_timed h = h
asked_keeps l (ends turn) h = h
asked_keeps l parts h = h

-- so many messages started, and more start
abbrev pub HasStarted : ℕ → Ledger → Type 0
HasStarted k l = k < length l.starts

-- each line leaves these
pub started_keeps : (k : ℕ) (l : Ledger) (x : Line) → HasStarted k l → HasStarted k (noted l x)
started_keeps k l (asks info wanted hearing last again) h = h
started_keeps k l (hears turn news) h = subst (λ (ss : List Start). k < length ss) (sym (hears_past l turn news).starts) h
started_keeps k l (begins s) h = let e : length (l.starts ++ s ∷ []) ≡ length l.starts + 1 = length-append l.starts (s ∷ []) in omega arith
started_keeps k l (offers bytes) h = h
started_keeps k l tells h = h
started_keeps k l sources h = h
started_keeps k l times h = h
started_keeps k l repeats_timed h = h
started_keeps k l (ends turn) h = h
started_keeps k l parts h = h

-- a link that was not asked for is not up, and has not ended
abbrev pub IsUnasked : Ledger → Type 0
IsUnasked l = (l.asked ≡ false) × (l.up ≡ false) × (l.end ≡ None)

-- what is done only where a link is up isn't done
unasked_unless_up : (l m : Ledger) → IsUnasked l → IsUnasked (if l.up then m else l)
unasked_unless_up l m h = if_false IsUnasked l.up m l h.1 h

-- it stays so, but for a connect that succeeds
pub unasked_hears : (l : Ledger) (turn : ℕ) (news : News) → (news ≡ connected → ⊥) → IsUnasked l → IsUnasked (with_news l turn news)
unasked_hears l turn silence not_up h = h
unasked_hears l turn connected not_up h = absurd (not_up refl)
unasked_hears l turn (refused f) not_up h = if_false IsUnasked (dials l) (refused_in l turn (error.Io f)) l (unasked_dials_not l h.0) h
unasked_hears l turn overdue not_up h = h
unasked_hears l turn (took count) not_up h = unasked_unless_up l (record l { taken = l.taken ++ take count l.offer; offer = [] }) h
unasked_hears l turn (came piece) not_up h = unasked_unless_up l (bytes_came l piece) h
unasked_hears l turn (failed f) not_up h = h
unasked_hears l turn (authorized c) not_up h = chosen IsUnasked (awaits_credentials l) (authorized_by l c) l (λ t. h) (λ e. h)
unasked_hears l turn (denied text) not_up h = h
unasked_hears l turn deserted not_up h = h
unasked_hears l turn (renewed c) not_up h = chosen IsUnasked (may_renew l) (renewed_by l c) l (λ t. h) (λ e. h)
unasked_hears l turn unrenewed not_up h = chosen IsUnasked l.up (unrenewed_by l) l (λ t. h) (λ e. h)
unasked_hears l turn (late k) not_up h = chosen IsUnasked (l.up && is_renewal_open l k) (lost_by l) l (λ t. h) (λ e. h)
unasked_hears l turn unrepeated not_up h = chosen IsUnasked (is_repeating l) (unrepeated_by l) l (λ t. h) (λ e. h)
unasked_hears l turn dropped not_up h = h
unasked_hears l turn shut not_up h = h

-- the bytes of a message more
pub joined_more : (ss : List Start) (s : Start) → joined (ss ++ s ∷ []) ≡ joined ss ++ s.bytes
joined_more [] s = append-nil s.bytes
joined_more (t ∷ ss) s = ap (λ x. t.bytes ++ x) (joined_more ss s) ∙ sym (append_assoc t.bytes (joined ss) s.bytes)

-- how much a message takes doesn't hang on what is dealt
pub reach_alike : (ss : List Start) (d e : List Data) → reach ss d ≡ reach ss e
reach_alike [] d e = refl
reach_alike (s ∷ ss) d e = ap (λ k. need_of s.shape + k) (reach_alike ss (drop (need_of s.shape) d) (drop (need_of s.shape) e))

-- a message more takes its own
pub reach_more : (ss : List Start) (s : Start) (d : List Data) → reach (ss ++ s ∷ []) d ≡ reach ss d + need_of s.shape
reach_more [] s d = omega arith
reach_more (t ∷ ss) s d = let e : reach (ss ++ s ∷ []) (drop (need_of t.shape) d) ≡ reach ss (drop (need_of t.shape) d) + need_of s.shape = reach_more ss s (drop (need_of t.shape) d) in omega arith

-- the first messages take as much where more start behind them
pub reached_more : (l : Ledger) (s : Start) (k : ℕ) → k ≤ length l.starts → reached (record l { starts = l.starts ++ s ∷ [] }) k ≡ reached l k
reached_more l s k i = ap (λ (ss : List Start). reach ss l.dealt) (take-append-le k l.starts (s ∷ []) i)

-- more items leave what messages take
pub reached_dealt : (l : Ledger) (rest : List ℕ) (more : List Data) (k : ℕ) → reached (record l { rest = rest; dealt = l.dealt ++ more }) k ≡ reached l k
reached_dealt l rest more k = reach_alike (take k l.starts) (l.dealt ++ more) l.dealt

-- a message takes an item at least
pub takes_one : (s : Shape) → 1 ≤ need_of s
takes_one Single = omega arith
takes_one Confirmation = omega arith
takes_one (Pipeline offset count transaction) = chosen (λ k. 1 ≤ offset + k) (count == 0) 1 count (λ t. omega arith) (λ f. let n : count ≢ 0 = ne_from count 0 f in omega arith)

-- no more items are dealt than the started messages take
abbrev pub FewAreDealt : Ledger → Type 0
FewAreDealt l = length l.dealt ≤ reach l.starts l.dealt

-- items that come are dealt as far as there is room
pub few_come : (l : Ledger) (more : List Data) → FewAreDealt l → FewAreDealt (items_came l more)
few_come l more h =
    let room : ℕ = reach l.starts l.dealt - length l.dealt in
    let d : List Data = l.dealt ++ take room more in
    let e : reach l.starts d ≡ reach l.starts l.dealt = reach_alike l.starts d l.dealt in
    let f : length d ≡ length l.dealt + length (take room more) = length-append l.dealt (take room more) in
    let g : length (take room more) ≡ min room (length more) = length-take room more in
    omega arith

-- so with each value
pub few_value : (l : Ledger) (v : Data) → FewAreDealt l → FewAreDealt (value_came l v)
few_value l v h = value_keeps FewAreDealt (λ m told strange k. k) (λ m w k. few_come m (w ∷ []) k) l v h

-- so with any news
few_hears : (l : Ledger) (turn : ℕ) (news : News) → FewAreDealt l → FewAreDealt (with_news l turn news)
few_hears l turn silence h = h
few_hears l turn connected h = chosen FewAreDealt (is_over l) l (record l { up = true }) (λ t. h) (λ e. h)
few_hears l turn (refused f) h = chosen FewAreDealt (dials l) (refused_in l turn (error.Io f)) l (λ t. h) (λ e. h)
few_hears l turn overdue h = h
few_hears l turn (took count) h = chosen FewAreDealt l.up (record l { taken = l.taken ++ take count l.offer; offer = [] }) l (λ t. h) (λ e. h)
few_hears l turn (came piece) h = chosen FewAreDealt l.up (bytes_came l piece) l (λ t. bytes_keep FewAreDealt few_value l piece h) (λ e. h)
few_hears l turn (failed f) h = h
few_hears l turn (authorized c) h = chosen FewAreDealt (awaits_credentials l) (authorized_by l c) l (λ t. h) (λ e. h)
few_hears l turn (denied text) h = h
few_hears l turn deserted h = h
few_hears l turn (renewed c) h = chosen FewAreDealt (may_renew l) (renewed_by l c) l (λ t. h) (λ e. h)
few_hears l turn unrenewed h = chosen FewAreDealt l.up (unrenewed_by l) l (λ t. h) (λ e. h)
few_hears l turn (late k) h = chosen FewAreDealt (l.up && is_renewal_open l k) (lost_by l) l (λ t. h) (λ e. h)
few_hears l turn unrepeated h = chosen FewAreDealt (is_repeating l) (unrepeated_by l) l (λ t. h) (λ e. h)
few_hears l turn dropped h = h
few_hears l turn shut h = h

-- and with any line
pub few_keeps : (l : Ledger) (x : Line) → FewAreDealt l → FewAreDealt (noted l x)
few_keeps l (asks info wanted hearing last again) h = h
few_keeps l (hears turn news) h = few_hears l turn news h
few_keeps l (begins s) h = let e : reach (l.starts ++ s ∷ []) l.dealt ≡ reach l.starts l.dealt + need_of s.shape = reach_more l.starts s l.dealt in omega arith
few_keeps l (offers bytes) h = h
few_keeps l tells h = h
few_keeps l sources h = h
few_keeps l times h = h
few_keeps l repeats_timed h = h
few_keeps l (ends turn) h = h
few_keeps l parts h = h
