-- Bytes that come in pieces, and where what is told of a value stands.
use Rattle.std.proofs.Common.{◌≡◌, ℕ, ◌+◌, ◌==◌, nat_lt, Bool, true, false, ◌||◌, not, if◌then◌else◌, List, [], ◌∷◌, ◌++◌, length, Option, Some, None, refl, sym, ap, ◌∙◌, subst, append_assoc, arith, length-append}
use Rattle.std.proofs.lemmas.List.{append-nil}
use Rattle.containers.proofs.Choices.{by_test, chosen, if_true, if_false, left_if, ne_test, taken_if, not_both}
use Rattle.resp_value.specs.Data.{Data}
use Rattle.resp_read.specs.Values.{values, left_over, is_spoiled}
use Rattle.resp_read.proofs.ValueLaws.{values-append, left_over-append, is_spoiled-append, values-spoiled}
use Rattle.driver_model.specs.Hearing.{Taking, taking}
use Rattle.driver_model.specs.Shape.{need_of}
use Rattle.driver_model.specs.declared.hearing.Hearing.{Hearing}
use Rattle.driver_model.specs.declared.hearing.Notice.{Notice}
use Rattle.link_core.specs.declared.message.Entry.{Entry}
use Rattle.link_core.specs.declared.message.NoticeAt.{NoticeAt}
use Rattle.link_core.specs.declared.message.Settled.{Settled}
use Rattle.link_core.specs.Dealing.{Dealing, dealing_with, with_item, settled_by, dealt_to, dealt, dealt_if, is_awaiting, noticed_behind, taking_in, taken_as, taken, taken_each}
use Rattle.link_core.specs.Link.{LinkState, Reading, nothing_read, read_with, came_all, piece_read}
use Rattle.link_laws.proofs.Choices.{chosen_both}
use Rattle.link_laws.proofs.Taken.{item_tells}
use Rattle.link_laws.specs.Pieces.{taken_by, later_each, read_then, is_set_up_behind, pieces_read, EndsAlike}

-- values one after another
--
-- and then others
pub taken-append : (h : Hearing) (ready : Bool) (d : Dealing) (xs ys : List Data) → taken_each h ready d (xs ++ ys) ≡ taken_each h ready (taken_each h ready d xs) ys
taken-append h ready d [] ys = refl
taken-append h ready d (x ∷ xs) ys = taken-append h ready (taken h ready d x) xs ys

-- behind one that ends the link none is taken
pub strange_stays : (h : Hearing) (ready : Bool) (d : Dealing) (vs : List Data) → d.strange ≡ true → taken_each h ready d vs ≡ d
strange_stays h ready d [] e = refl
strange_stays h ready d (v ∷ vs) e =
    ap (λ (x : Dealing). taken_each h ready x vs) (taken_if d.strange d (taken_as d (taking_in h ready d v) v) e) ∙ strange_stays h ready d vs e

-- what was settled and told before
--
-- is kept in front
abbrev pub behind : List Settled → List NoticeAt → Dealing → Dealing
behind out ns d = record { row = d.row; out = out ++ d.out; notices = ns ++ later_each (length out) d.notices; strange = d.strange }

-- a link is set up that was behind it
set_behind : (ready : Bool) (out more : List Settled) → (ready || not (length (out ++ more) == 0)) ≡ ((ready || not (length out == 0)) || not (length more == 0))
set_behind true out more = refl
set_behind false [] more = refl
set_behind false (s ∷ out) more =
    let some : (xs : List Settled) → (length (s ∷ xs) == 0) ≡ false = (λ xs. ne_test (length (s ∷ xs)) 0 (λ e. absurd (omega arith))) in
    ap not (some (out ++ more)) ∙ sym (ap (λ (b : Bool). not b || not (length more == 0)) (some out))

-- a notice more
later-append : (n : ℕ) (xs ys : List NoticeAt) → later_each n (xs ++ ys) ≡ later_each n xs ++ later_each n ys
later-append n [] ys = refl
later-append n (x ∷ xs) ys = ap (λ (ps : List NoticeAt). record x { settled = n + x.settled } ∷ ps) (later-append n xs ys)

-- stands behind both
noticed_later : (n m : ℕ) (o : Option Notice) → noticed_behind (n + m) o ≡ later_each n (noticed_behind m o)
noticed_later n m None = refl
noticed_later n m (Some what) = refl

-- an item
item_behind : (out : List Settled) (ns : List NoticeAt) (d : Dealing) (item : Data) (row : List Entry) → dealt_to (behind out ns d) item row ≡ behind out ns (dealt_to d item row)
item_behind out ns d item [] = refl
item_behind out ns d item (e ∷ es) =
    let f = with_item e item in
    chosen_both (λ (x y : Dealing). x ≡ behind out ns y) (nat_lt (length f.got) (need_of f.shape)) (record (behind out ns d) { row = f ∷ es }) (record (behind out ns d) { row = es; out = (out ++ d.out) ++ settled_by f }) (record d { row = f ∷ es }) (record d { row = es; out = d.out ++ settled_by f })
    (λ t. refl)
    (λ n. ap (λ (ss : List Settled). record (behind out ns d) { row = es; out = ss }) (append_assoc out d.out (settled_by f)))

-- a value of which this becomes
as_behind : (out : List Settled) (ns : List NoticeAt) (d : Dealing) (t : Taking) (v : Data) → taken_as (behind out ns d) t v ≡ behind out ns (taken_as d t v)
as_behind out ns d t v =
    let more = noticed_behind (length d.out) t.told in
    let m : Dealing = record d { notices = d.notices ++ more; strange = t.ends } in
    let told : (ns ++ later_each (length out) d.notices) ++ noticed_behind (length (out ++ d.out)) t.told ≡ ns ++ later_each (length out) (d.notices ++ more) =
    append_assoc ns (later_each (length out) d.notices) (noticed_behind (length (out ++ d.out)) t.told)
    ∙ ap (λ (ps : List NoticeAt). ns ++ (later_each (length out) d.notices ++ ps)) (ap (λ n. noticed_behind n t.told) (length-append out d.out) ∙ noticed_later (length out) (length d.out) t.told)
    ∙ ap (λ (ps : List NoticeAt). ns ++ ps) (sym (later-append (length out) d.notices more)) in
    ap (λ (ps : List NoticeAt). dealt_if t.dealt (record { row = d.row; out = out ++ d.out; notices = ps; strange = t.ends }) v) told
    ∙ chosen_both (λ (x y : Dealing). x ≡ behind out ns y) t.dealt (dealt (behind out ns m) v) (behind out ns m) (dealt m v) m (λ y. item_behind out ns m v d.row) (λ n. refl)

-- any value
taken_behind : (h : Hearing) (ready : Bool) (out : List Settled) (ns : List NoticeAt) (d : Dealing) (v : Data) → taken h ready (behind out ns d) v ≡ behind out ns (taken h (ready || not (length out == 0)) d v)
taken_behind h ready out ns d v =
    let after = ready || not (length out == 0) in
    chosen_both (λ (x y : Dealing). x ≡ behind out ns y) d.strange (behind out ns d) (taken_as (behind out ns d) (taking_in h ready (behind out ns d) v) v) d (taken_as d (taking_in h after d v) v)
    (λ t. refl)
    (λ n. ap (λ (b : Bool). taken_as (behind out ns d) (taking h b (is_awaiting d.row) v) v) (set_behind ready out d.out) ∙ as_behind out ns d (taking_in h after d v) v)

-- any values
all_behind : (h : Hearing) (ready : Bool) (out : List Settled) (ns : List NoticeAt) (d : Dealing) (vs : List Data) → taken_each h ready (behind out ns d) vs ≡ behind out ns (taken_each h (ready || not (length out == 0)) d vs)
all_behind h ready out ns d [] = refl
all_behind h ready out ns d (v ∷ vs) =
    let after = ready || not (length out == 0) in
    ap (λ (x : Dealing). taken_each h ready x vs) (taken_behind h ready out ns d v) ∙ all_behind h ready out ns (taken h after d v) vs

-- one text in two pieces
--
-- values in two parts, of which the first doesn't end the link
pub two_taken : (h : Hearing) (ready : Bool) (row : List Entry) (xs ys : List Data) → (let d = taken_each h ready (dealing_with row) xs in d.strange ≡ false
    → taken_each h ready (dealing_with row) (xs ++ ys) ≡ behind d.out d.notices (taken_each h (ready || not (length d.out == 0)) (dealing_with d.row) ys))
two_taken h ready row xs ys tame =
    let d = taken_each h ready (dealing_with row) xs in
    let front : d ≡ behind d.out d.notices (dealing_with d.row) = (λ i. record { row = d.row; out = sym (append-nil d.out) i; notices = sym (append-nil d.notices) i; strange = tame i }) in
    taken-append h ready (dealing_with row) xs ys
    ∙ ap (λ (x : Dealing). taken_each h ready x ys) front
    ∙ all_behind h ready d.out d.notices (dealing_with d.row) ys

-- a text in two pieces, of which the first leaves the link whole
two_read : (h : Hearing) (ready : Bool) (s : LinkState) (bs m : List ℕ) → is_spoiled bs ≡ false → (came_all h ready s bs).strange ≡ false
    → (let r = came_all h ready s bs in read_then r (came_all h (is_set_up_behind ready r) r.link (left_over bs ++ m)) ≡ came_all h ready s (bs ++ m))
two_read h ready s bs m sound tame =
    let x = taken_each h ready (dealing_with s.row) (values bs) in
    let y = taken_each h (ready || not (length x.out == 0)) (dealing_with x.row) (values (left_over bs ++ m)) in
    let z : taken_each h ready (dealing_with s.row) (values (bs ++ m)) ≡ behind x.out x.notices y =
    ap (taken_each h ready (dealing_with s.row)) (values-append bs m sound) ∙ two_taken h ready s.row (values bs) (values (left_over bs ++ m)) tame in
    (λ i. read_with (record s { rest = sym (left_over-append bs m sound) i; broken = sym (is_spoiled-append bs m sound) i }) (sym z i))

-- read on, where the first piece didn't end the link
pub same_sound : (h : Hearing) (ready : Bool) (s : LinkState) (p q : List ℕ) → (piece_read h ready s p).link.broken ≡ false → (piece_read h ready s p).strange ≡ false → pieces_read h ready s p q ≡ piece_read h ready s (p ++ q)
same_sound h ready s p q = chosen (λ (x : Reading). x.link.broken ≡ false → x.strange ≡ false → read_then x (piece_read h (is_set_up_behind ready x) x.link q) ≡ piece_read h ready s (p ++ q)) s.broken (nothing_read s) (came_all h ready s (s.rest ++ p))
    (λ t f tame. absurd (not_both s.broken f t))
    (λ g f tame.
    let bs = s.rest ++ p in
    let r = came_all h ready s bs in
    let after = is_set_up_behind ready r in
    let here : piece_read h after r.link q ≡ came_all h after r.link (left_over bs ++ q) = left_if r.link.broken (nothing_read r.link) (came_all h after r.link (left_over bs ++ q)) f in
    let there : piece_read h ready s (p ++ q) ≡ came_all h ready s (s.rest ++ (p ++ q)) = left_if s.broken (nothing_read s) (came_all h ready s (s.rest ++ (p ++ q))) g in
    ap (read_then r) here ∙ two_read h ready s bs q f tame ∙ ap (came_all h ready s) (append_assoc s.rest p q) ∙ sym there)

-- where a value ended it, no more is taken
strange_alike : (h : Hearing) (ready : Bool) (s : LinkState) (bs m : List ℕ) → (came_all h ready s bs).strange ≡ true → EndsAlike (came_all h ready s bs) (came_all h ready s (bs ++ m))
strange_alike h ready s bs m e =
    let x = taken_each h ready (dealing_with s.row) (values bs) in
    let same : taken_each h ready (dealing_with s.row) (values (bs ++ m)) ≡ x =
    by_test (is_spoiled bs) _
    (λ t. ap (taken_each h ready (dealing_with s.row)) (values-spoiled bs m t).0)
    (λ f. ap (taken_each h ready (dealing_with s.row)) (values-append bs m f) ∙ taken-append h ready (dealing_with s.row) (values bs) (values (left_over bs ++ m)) ∙ strange_stays h ready x (values (left_over bs ++ m)) e) in
    record { row = ap (λ (d : Dealing). d.row) same; settled = ap (λ (d : Dealing). d.out) same; told = ap (λ (d : Dealing). d.notices) same; strange = ap (λ (d : Dealing). d.strange) same }

pub same_strange : (h : Hearing) (ready : Bool) (s : LinkState) (p q : List ℕ) → (piece_read h ready s p).strange ≡ true → EndsAlike (piece_read h ready s p) (piece_read h ready s (p ++ q))
same_strange h ready s p q = chosen (λ (x : Reading). x.strange ≡ true → EndsAlike x (piece_read h ready s (p ++ q))) s.broken (nothing_read s) (came_all h ready s (s.rest ++ p))
    (λ t e. cc)
    (λ g e. if_false (EndsAlike (came_all h ready s (s.rest ++ p))) s.broken (nothing_read s) (came_all h ready s (s.rest ++ (p ++ q))) g
    (subst (λ (bytes : List ℕ). EndsAlike (came_all h ready s (s.rest ++ p)) (came_all h ready s bytes)) (append_assoc s.rest p q) (strange_alike h ready s (s.rest ++ p) q e)))

-- and where it broke it, so does the whole, with the same settled and told
abbrev SameBroken : Reading → Reading → Type 0
SameBroken x y = (y.link.broken ≡ true) × EndsAlike x y

pub same_broken : (h : Hearing) (ready : Bool) (s : LinkState) (p q : List ℕ) → (piece_read h ready s p).link.broken ≡ true → SameBroken (piece_read h ready s p) (piece_read h ready s (p ++ q))
same_broken h ready s p q = chosen (λ (x : Reading). x.link.broken ≡ true → SameBroken x (piece_read h ready s (p ++ q))) s.broken (nothing_read s) (came_all h ready s (s.rest ++ p))
    (λ t f. if_true (SameBroken (nothing_read s)) s.broken (nothing_read s) (came_all h ready s (s.rest ++ (p ++ q))) t (t, record { row = refl; settled = refl; told = refl; strange = refl }))
    (λ g f. if_false (SameBroken (came_all h ready s (s.rest ++ p))) s.broken (nothing_read s) (came_all h ready s (s.rest ++ (p ++ q))) g
    (subst (λ (bytes : List ℕ). SameBroken (came_all h ready s (s.rest ++ p)) (came_all h ready s bytes)) (append_assoc s.rest p q) (spoiled (s.rest ++ p) q f)))
  where
    spoiled : (bs m : List ℕ) → is_spoiled bs ≡ true → SameBroken (came_all h ready s bs) (came_all h ready s (bs ++ m))
    spoiled bs m e =
        let same = ap (taken_each h ready (dealing_with s.row)) (values-spoiled bs m e).0 in
        ((values-spoiled bs m e).1, record { row = ap (λ (d : Dealing). d.row) same; settled = ap (λ (d : Dealing). d.out) same; told = ap (λ (d : Dealing). d.notices) same; strange = ap (λ (d : Dealing). d.strange) same })

-- what is told of a value
--
-- what was told before is kept in front
abbrev told_first : List NoticeAt → Dealing → Dealing
told_first ns d = record d { notices = ns ++ d.notices }

first_item : (ns : List NoticeAt) (d : Dealing) (item : Data) (row : List Entry) → dealt_to (told_first ns d) item row ≡ told_first ns (dealt_to d item row)
first_item ns d item [] = refl
first_item ns d item (e ∷ es) =
    let f = with_item e item in
    chosen_both (λ (x y : Dealing). x ≡ told_first ns y) (nat_lt (length f.got) (need_of f.shape)) (record (told_first ns d) { row = f ∷ es }) (record (told_first ns d) { row = es; out = d.out ++ settled_by f }) (record d { row = f ∷ es }) (record d { row = es; out = d.out ++ settled_by f }) (λ t. refl) (λ n. refl)

first_as : (ns : List NoticeAt) (d : Dealing) (t : Taking) (v : Data) → taken_as (told_first ns d) t v ≡ told_first ns (taken_as d t v)
first_as ns d t v =
    let m : Dealing = record d { notices = d.notices ++ noticed_behind (length d.out) t.told; strange = t.ends } in
    ap (λ (ps : List NoticeAt). dealt_if t.dealt (record d { notices = ps; strange = t.ends }) v) (append_assoc ns d.notices (noticed_behind (length d.out) t.told))
    ∙ chosen_both (λ (x y : Dealing). x ≡ told_first ns y) t.dealt (dealt (told_first ns m) v) (told_first ns m) (dealt m v) m (λ y. first_item ns m v d.row) (λ n. refl)

first_taken : (h : Hearing) (ready : Bool) (ns : List NoticeAt) (d : Dealing) (vs : List Data) → taken_each h ready (told_first ns d) vs ≡ told_first ns (taken_each h ready d vs)
first_taken h ready ns d [] = refl
first_taken h ready ns d (v ∷ vs) =
    let t = taking_in h ready d v in
    ap (λ (x : Dealing). taken_each h ready x vs)
    (chosen_both (λ (x y : Dealing). x ≡ told_first ns y) d.strange (told_first ns d) (taken_as (told_first ns d) t v) d (taken_as d t v) (λ y. refl) (λ n. first_as ns d t v))
    ∙ first_taken h ready ns (taken h ready d v) vs

-- behind values
one_told : (h : Hearing) (ready : Bool) (d : Dealing) (v : Data) → (taken h ready d v).notices ≡ d.notices ++ (if d.strange then [] else noticed_behind (length d.out) (taking_in h ready d v).told)
one_told h ready d v =
    let t = taking_in h ready d v in
    let m : Dealing = record d { notices = d.notices ++ noticed_behind (length d.out) t.told; strange = t.ends } in
    chosen_both (λ (x : Dealing) (ps : List NoticeAt). x.notices ≡ d.notices ++ ps) d.strange d (taken_as d t v) [] (noticed_behind (length d.out) t.told)
    (λ y. sym (append-nil d.notices))
    (λ n. chosen (λ (x : Dealing). x.notices ≡ m.notices) t.dealt (dealt m v) m (λ y. (item_tells m v d.row).0) (λ y. refl))

-- so it stands behind what these settled
pub notice_stands : (h : Hearing) (ready : Bool) (s : LinkState) (piece : List ℕ) (before after : List Data) (v : Data) → s.broken ≡ false → values (s.rest ++ piece) ≡ before ++ v ∷ after
    → (let d = taken_by h ready s before in
    let e = taken_by h ready s (before ++ v ∷ []) in
    (piece_read h ready s piece).notices ≡ d.notices ++ (if d.strange then [] else noticed_behind (length d.out) (taking_in h ready d v).told) ++ (taken_each h ready (record e { notices = [] }) after).notices)
notice_stands h ready s piece before after v sound is =
    let start = dealing_with s.row in
    let d = taken_by h ready s before in
    let e = taken_by h ready s (before ++ v ∷ []) in
    let told = ap (λ (x : Dealing). x.notices) (taken-append h ready start before (v ∷ [])) ∙ one_told h ready d v in
    let bare : Dealing = record e { notices = [] } in
    let whole : e ≡ told_first e.notices bare = (λ i. record e { notices = sym (append-nil e.notices) i }) in
    ap (λ (x : Reading). x.notices) (left_if s.broken (nothing_read s) (came_all h ready s (s.rest ++ piece)) sound)
    ∙ ap (λ (vs : List Data). (taken_each h ready start vs).notices) (is ∙ sym (append_assoc before (v ∷ []) after))
    ∙ ap (λ (x : Dealing). x.notices) (taken-append h ready start (before ++ v ∷ []) after ∙ ap (λ (x : Dealing). taken_each h ready x after) whole ∙ first_taken h ready e.notices bare after)
    ∙ ap (λ (ps : List NoticeAt). ps ++ (taken_each h ready bare after).notices) told
