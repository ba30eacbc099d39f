-- Links on which what is subscribed again is answered: it stays so.
use Rattle.std.proofs.Common.{◌≡◌, ℕ, suc, ◌+◌, ◌<◌, ◌≤◌, nat_le, Bool, true, false, ◌&&◌, ◌||◌, not, List, [], ◌∷◌, ◌++◌, length, take, Option, Some, None, refl, sym, ap, ◌∙◌, arith, length-append}
use Rattle.std.specs.Prelude.{slice_get}
use Rattle.containers.proofs.Choices.{by_test, chosen, taken_if, left_if, le_from, le_test}
use Rattle.resp_value.specs.Data.{Data}
use Rattle.redis_error.specs.declared.redis_error.RedisError.TheVariants as error
use Rattle.driver_model.specs.News.{News, silence, connected, refused, overdue, took, came, failed, authorized, denied, deserted, renewed, unrenewed, late, unrepeated, dropped, shut}
use Rattle.legal_trace.specs.Ledger.{Ledger, Heard, Line, Start, asks, hears, begins, offers, tells, sources, times, repeats_timed, ends, parts, noted, noted_each, with_news, refused_in, bytes_came, is_over, dials, awaits_credentials, authorized_by, may_renew, renewed_by, unrenewed_by, is_renewal_open, lost_by, is_repeating, unrepeated_by, reached, is_answered, is_of_again, again_among, again_of, is_served}
use Rattle.legal_trace.proofs.Came.{grown, holds_bytes}
use Rattle.legal_trace.proofs.Ledgers.{reached_more, reached_dealt}
use Rattle.legal_trace.proofs.Plain.{item_within, same_some}

-- a start among these subscribes again, and has that number, where the first of them has the number n
abbrev IsAgain : List Start → ℕ → ℕ → Type 0
IsAgain ss n k = (i : ℕ) × (s : Start) × (k ≡ n + i) × (slice_get ss i ≡ Some s)

-- the first that does is one
again_is : (ss : List Start) (n k : ℕ) → again_among ss n ≡ Some k → IsAgain ss n k
again_is [] n k e = cc e
again_is (s ∷ ss) n k e = by_test (is_of_again s.owner) (IsAgain (s ∷ ss) n k)
    (λ t. let here : n ≡ k = same_some n k (sym (taken_if (is_of_again s.owner) (Some n) (again_among ss (suc n)) t) ∙ e) in (0, s, omega (arith, here), refl))
    (λ f. let more = again_is ss (suc n) k (sym (left_if (is_of_again s.owner) (Some n) (again_among ss (suc n)) f) ∙ e) in
    let far : k ≡ suc n + more.0 = more.2 in (suc more.0, more.1, omega (arith, far), more.3))

-- it stays the first where more start
pub again_kept : (ss more : List Start) (n k : ℕ) → again_among ss n ≡ Some k → again_among (ss ++ more) n ≡ Some k
again_kept [] more n k e = cc e
again_kept (s ∷ ss) more n k e = by_test (is_of_again s.owner) (again_among ((s ∷ ss) ++ more) n ≡ Some k)
    (λ t. taken_if (is_of_again s.owner) (Some n) (again_among (ss ++ more) (suc n)) t ∙ (sym (taken_if (is_of_again s.owner) (Some n) (again_among ss (suc n)) t) ∙ e))
    (λ f. left_if (is_of_again s.owner) (Some n) (again_among (ss ++ more) (suc n)) f ∙ again_kept ss more (suc n) k (sym (left_if (is_of_again s.owner) (Some n) (again_among ss (suc n)) f) ∙ e))

-- one of three holds, where the second and the third stay
one_stays : (w over answered still after : Bool) → (over ≡ true → still ≡ true) → (answered ≡ true → after ≡ true) → (w || (over || answered)) ≡ true → (w || (still || after)) ≡ true
one_stays true over answered still after o a h = refl
one_stays false true answered still after o a h = ap (λ (p : Bool). p || after) (o refl)
one_stays false false answered true after o a h = refl
one_stays false false answered false after o a h = a h

-- it stays answered where a message starts behind it
answered_begins : (l : Ledger) (s : Start) (o : Option ℕ) → again_of l ≡ o → is_answered l o ≡ true → is_answered (record l { starts = l.starts ++ s ∷ [] }) (again_of (record l { starts = l.starts ++ s ∷ [] })) ≡ true
answered_begins l s None e h = cc h
answered_begins l s (Some k) e h =
    let m : Ledger = record l { starts = l.starts ++ s ∷ [] } in
    let there = again_is l.starts 0 k e in
    let within : there.0 < length l.starts = item_within l.starts there.0 there.1 there.3 in
    let placed : k ≡ 0 + there.0 = there.2 in
    let whole : reached m (k + 1) ≡ reached l (k + 1) = reached_more l s (k + 1) (omega (arith, within, placed)) in
    ap (is_answered m) (again_kept l.starts (s ∷ []) 0 k e) ∙ (ap (λ n. nat_le n (length l.dealt)) whole ∙ h)

-- and where more items are dealt
answered_grows : (l : Ledger) (rest : List ℕ) (strange : Bool) (told : List Heard) (more : List Data) (o : Option ℕ) → is_answered l o ≡ true → is_answered (grown l rest strange told more) o ≡ true
answered_grows l rest strange told more None h = cc h
answered_grows l rest strange told more (Some k) h =
    let m : Ledger = grown l rest strange told more in
    let fits : reached l (k + 1) ≤ length l.dealt = le_from (reached l (k + 1)) (length l.dealt) h in
    let long : length (l.dealt ++ more) ≡ length l.dealt + length more = length-append l.dealt more in
    let far : reached m (k + 1) ≡ reached l (k + 1) = reached_dealt l rest more (k + 1) in
    le_test (reached m (k + 1)) (length (l.dealt ++ more)) (omega (arith, fits, long, far))

-- what is subscribed again is answered on it, or given up, or there is nothing
abbrev pub IsServed : Ledger → Type 0
IsServed l = is_served l ≡ true

-- so it is where a message starts
pub begins_served : (l : Ledger) (s : Start) → IsServed l → IsServed (noted l (begins s))
begins_served l s h = one_stays (not l.again.wanted) l.again.over (is_answered l (again_of l)) l.again.over (is_answered (noted l (begins s)) (again_of (noted l (begins s)))) (λ o. o) (answered_begins l s (again_of l) refl) h

-- and with any news
pub hears_served : (l : Ledger) (turn : ℕ) (news : News) → IsServed l → IsServed (with_news l turn news)
hears_served l turn silence h = h
hears_served l turn connected h = chosen IsServed (is_over l) l (record l { up = true }) (λ t. h) (λ e. h)
hears_served l turn (refused f) h = chosen IsServed (dials l) (refused_in l turn (error.Io f)) l (λ t. h) (λ e. h)
hears_served l turn overdue h = h
hears_served l turn (took count) h = chosen IsServed l.up (record l { taken = l.taken ++ take count l.offer; offer = [] }) l (λ t. h) (λ e. h)
hears_served l turn (came piece) h = chosen IsServed l.up (bytes_came l piece) l
    (λ t. holds_bytes IsServed l piece (λ rest strange told more. one_stays (not l.again.wanted) l.again.over (is_answered l (again_of l)) l.again.over (is_answered (grown l rest strange told more) (again_of l)) (λ o. o) (answered_grows l rest strange told more (again_of l)) h)) (λ e. h)
hears_served l turn (failed f) h = h
hears_served l turn (authorized c) h = chosen IsServed (awaits_credentials l) (authorized_by l c) l (λ t. h) (λ e. h)
hears_served l turn (denied text) h = h
hears_served l turn deserted h = h
hears_served l turn (renewed c) h = chosen IsServed (may_renew l) (renewed_by l c) l (λ t. h) (λ e. h)
hears_served l turn unrenewed h = chosen IsServed l.up (unrenewed_by l) l (λ t. h) (λ e. h)
hears_served l turn (late k) h = chosen IsServed (l.up && is_renewal_open l k) (lost_by l) l (λ t. h) (λ e. h)
hears_served l turn unrepeated h = chosen IsServed (is_repeating l) (unrepeated_by l) l
    (λ t. one_stays (not l.again.wanted) l.again.over (is_answered l (again_of l)) true (is_answered l (again_of l)) (λ o. refl) (λ a. a) h) (λ e. h)
hears_served l turn dropped h = h
hears_served l turn shut h = h

-- a line that is no connect
abbrev pub is_connect : Line → Bool
is_connect (asks info wanted hearing last again) = true
is_connect (hears turn news) = false
is_connect (begins s) = false
is_connect (offers bytes) = false
is_connect tells = false
is_connect sources = false
is_connect times = false
is_connect repeats_timed = false
is_connect (ends turn) = false
is_connect parts = false

-- leaves it so
pub served_keeps : (l : Ledger) (x : Line) → is_connect x ≡ false → IsServed l → IsServed (noted l x)
served_keeps l (asks info wanted hearing last again) c h = absurd (cc c)
served_keeps l (hears turn news) c h = hears_served l turn news h
served_keeps l (begins s) c h = begins_served l s h
served_keeps l (offers bytes) c h = h
served_keeps l tells c h = h
served_keeps l sources c h = h
served_keeps l times c h = h
served_keeps l repeats_timed c h = h
served_keeps l (ends turn) c h = h
served_keeps l parts c h = h

-- on a link that isn't asked for nothing is subscribed again
abbrev pub WantsNone : Ledger → Type 0
WantsNone l = l.asked ≡ false → l.again.wanted ≡ false

-- so with any news
hears_none : (l : Ledger) (turn : ℕ) (news : News) → WantsNone l → WantsNone (with_news l turn news)
hears_none l turn silence h = h
hears_none l turn connected h = chosen WantsNone (is_over l) l (record l { up = true }) (λ t. h) (λ e. h)
hears_none l turn (refused f) h = chosen WantsNone (dials l) (refused_in l turn (error.Io f)) l (λ t. h) (λ e. h)
hears_none l turn overdue h = h
hears_none l turn (took count) h = chosen WantsNone l.up (record l { taken = l.taken ++ take count l.offer; offer = [] }) l (λ t. h) (λ e. h)
hears_none l turn (came piece) h = chosen WantsNone l.up (bytes_came l piece) l (λ t. holds_bytes WantsNone l piece (λ rest strange told more. h)) (λ e. h)
hears_none l turn (failed f) h = h
hears_none l turn (authorized c) h = chosen WantsNone (awaits_credentials l) (authorized_by l c) l (λ t. h) (λ e. h)
hears_none l turn (denied text) h = h
hears_none l turn deserted h = h
hears_none l turn (renewed c) h = chosen WantsNone (may_renew l) (renewed_by l c) l (λ t. h) (λ e. h)
hears_none l turn unrenewed h = chosen WantsNone l.up (unrenewed_by l) l (λ t. h) (λ e. h)
hears_none l turn (late k) h = chosen WantsNone (l.up && is_renewal_open l k) (lost_by l) l (λ t. h) (λ e. h)
hears_none l turn unrepeated h = chosen WantsNone (is_repeating l) (unrepeated_by l) l (λ t. h) (λ e. h)
hears_none l turn dropped h = h
hears_none l turn shut h = h

-- and with any line
pub none_keeps : (l : Ledger) (x : Line) → WantsNone l → WantsNone (noted l x)
none_keeps l (asks info wanted hearing last again) h = λ f. absurd (cc f)
none_keeps l (hears turn news) h = hears_none l turn news h
none_keeps l (begins s) h = h
none_keeps l (offers bytes) h = h
none_keeps l tells h = h
none_keeps l sources h = h
none_keeps l times h = h
none_keeps l repeats_timed h = h
none_keeps l (ends turn) h = h
none_keeps l parts h = h

-- none of these lines is a connect
abbrev pub NoConnects : List Line → Type 0
NoConnects [] = Unit {0}
NoConnects (x ∷ more) = (is_connect x ≡ false) × NoConnects more

-- so all of them leave it so
pub each_served : (l : Ledger) (lines : List Line) → NoConnects lines → IsServed l → IsServed (noted_each l lines)
each_served l [] plain h = h
each_served l (x ∷ more) plain h = each_served (noted l x) more plain.1 (served_keeps l x plain.0 h)
