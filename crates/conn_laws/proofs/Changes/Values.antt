-- What a link gives with bytes, value by value: what is told of a value is told where it stands, and then what it settles is answered.
use Rattle.std.proofs.Common.{◌≡◌, inl, ℕ, ◌+◌, ◌≤◌, nat_le, Bool, true, false, List, [], ◌∷◌, ◌++◌, length, Option, Some, None, if◌then◌else◌, refl, sym, ap, ◌∙◌, subst, arith}
use Rattle.std.proofs.lemmas.List.{append-nil}
use Rattle.containers.proofs.Choices.{by_test, chosen, left_if, le_from, le_test, not_le_from, not_le_test}
use Rattle.resp_value.specs.Data.{Data}
use Rattle.resp_read.specs.Values.{values}
use Rattle.driver_model.specs.Hearing.{taking}
use Rattle.driver_model.specs.declared.hearing.Hearing.{Hearing}
use Rattle.driver_model.specs.declared.hearing.Notice.{Notice}
use Rattle.link_core.specs.declared.message.Entry.{Entry}
use Rattle.link_core.specs.declared.message.NoticeAt.{NoticeAt}
use Rattle.link_core.specs.declared.message.Settled.{Settled}
use Rattle.link_core.specs.Dealing.{Dealing, dealing_with, dealt, is_awaiting, noticed_behind, taken, taken_each}
use Rattle.link_core.specs.Link.{LinkState, nothing_read, came_all, piece_read}
use Rattle.link_laws.specs.Alike.{SameRow, SameDealing}
use Rattle.link_laws.specs.Pieces.{later_each}
use Rattle.link_laws.proofs.Alike.{tells_taken, tells_with}
use Rattle.link_laws.proofs.Pieces.{strange_stays, two_taken}
use Rattle.link_laws.proofs.Taken.{item_tells}
use Rattle.mux_conn.specs.Connection.{Work}
use Rattle.mux_conn.specs.Effects.{settled_one, settled_each, noticed, noticed_each, told_each}

-- the row behind one value on a link that is set up, what that value settles, and whether it ends the link
abbrev pub by_value : Hearing → List Entry → Data → Dealing
by_value what row v = taken what true (dealing_with row) v

-- what is told of a value, where messages take items or don't
abbrev pub told_of : Hearing → Bool → Data → List NoticeAt
told_of what awaited v = noticed_behind 0 (taking what true awaited v).told

-- this is told
abbrev pub value_told : Work → Hearing → Bool → Data → Work
value_told w what awaited v = noticed_each w (told_of what awaited v)

-- and what the value settles is answered
abbrev pub value_read : Work → Hearing → List Entry → Data → Work
value_read w what row v = settled_each (value_told w what (is_awaiting row) v) (by_value what row v).out

-- so are these values, in order, up to one that ends the link
abbrev pub values_read : Work → Hearing → List Entry → List Data → Work
values_read w what row [] = w
values_read w what row (v ∷ vs) =
    if (by_value what row v).strange then value_read w what row v else values_read (value_read w what row v) what (by_value what row v).row vs

-- what is told of one
told_is : (what : Hearing) (row : List Entry) (v : Data) → (by_value what row v).notices ≡ told_of what (is_awaiting row) v
told_is what row v =
    let t = taking what true (is_awaiting row) v in
    let m : Dealing = record (dealing_with row) { notices = noticed_behind 0 t.told; strange = t.ends } in
    chosen (λ (x : Dealing). x.notices ≡ m.notices) t.dealt (dealt m v) m (λ y. (item_tells m v row).0) (λ n. refl)

-- notices
--
-- none of these stands before so many messages
abbrev AreBehind : ℕ → List NoticeAt → Type 0
AreBehind n [] = Unit {0}
AreBehind n (p ∷ ps) = (n ≤ p.settled) × AreBehind n ps

-- so it is with those that stand behind that many more
later_behind : (n : ℕ) (ps : List NoticeAt) → AreBehind n (later_each n ps)
later_behind n [] = tt
later_behind n (p ∷ ps) = (omega arith, later_behind n ps)

-- telling
--
-- one after another
settled-append : (w : Work) (xs ss : List Settled) → settled_each w (xs ++ ss) ≡ settled_each (settled_each w xs) ss
settled-append w [] ss = refl
settled-append w (x ∷ xs) ss = settled-append (settled_one w x) xs ss

-- without notices
pub none_told : (w : Work) (n : ℕ) (ss : List Settled) → told_each w n [] ss ≡ settled_each w ss
none_told w n [] = refl
none_told w n (s ∷ ss) = refl

-- what stands behind none is told at once
told_first : (w : Work) (o : Option Notice) (ps : List NoticeAt) (ss : List Settled) → told_each w 0 (noticed_behind 0 o ++ ps) ss ≡ told_each (noticed_each w (noticed_behind 0 o)) 0 ps ss
told_first w None ps ss = refl
told_first w (Some n) ps [] = refl
told_first w (Some n) ps (s ∷ ss) = refl

-- messages before the first notice are answered at once
settled_first : (w : Work) (n : ℕ) (ps : List NoticeAt) (xs ss : List Settled) → AreBehind (n + length xs) ps → told_each w n ps (xs ++ ss) ≡ told_each (settled_each w xs) (n + length xs) ps ss
settled_first w n ps [] ss h = let same : n ≡ n + 0 = omega arith in ap (λ (m : ℕ). told_each w m ps ss) same
settled_first w n [] (x ∷ xs) ss h = settled-append w (x ∷ xs) ss ∙ sym (none_told (settled_each w (x ∷ xs)) (n + length (x ∷ xs)) ss)
settled_first w n (p ∷ ps) (x ∷ xs) ss h =
    let v = settled_one w x in
    let same : n + length (x ∷ xs) ≡ n + 1 + length xs = omega arith in
    left_if (nat_le p.settled n) _ _ (not_le_test p.settled n (omega (arith, h.0)))
    ∙ settled_first v (n + 1) (p ∷ ps) xs ss (subst (λ (m : ℕ). AreBehind m (p ∷ ps)) same h)
    ∙ ap (λ (m : ℕ). told_each (settled_each v xs) m (p ∷ ps) ss) (sym same)

-- behind that many more, the same is told
--
-- where nothing is settled
later_noticed : (w : Work) (n : ℕ) (ps : List NoticeAt) → noticed_each w (later_each n ps) ≡ noticed_each w ps
later_noticed w n [] = refl
later_noticed w n (p ∷ ps) = later_noticed (noticed w p.notice) n ps

-- a test of both
both_more : (n a b : ℕ) → nat_le (n + a) (n + b) ≡ nat_le a b
both_more n a b = by_test (nat_le a b) (nat_le (n + a) (n + b) ≡ nat_le a b)
    (λ t. le_test (n + a) (n + b) (omega (arith, le_from a b t)) ∙ sym t)
    (λ f. not_le_test (n + a) (n + b) (omega (arith, not_le_from a b f)) ∙ sym f)

-- and where messages are
later_told : (w : Work) (n k : ℕ) (ps : List NoticeAt) (ss : List Settled) → told_each w (n + k) (later_each n ps) ss ≡ told_each w k ps ss
later_told w n k ps [] = later_noticed w n ps
later_told w n k [] (s ∷ ss) = refl
later_told w n k (p ∷ ps) (s ∷ ss) =
    let same : n + k + 1 ≡ n + (k + 1) = omega arith in
    (λ i. if both_more n p.settled k i then later_told (noticed w p.notice) n k ps (s ∷ ss) i else (ap (λ (m : ℕ). told_each (settled_one w s) m (later_each n (p ∷ ps)) ss) same ∙ later_told (settled_one w s) n (k + 1) (p ∷ ps) ss) i)

-- so notices and messages are told value by value
told_by_values : (w : Work) (what : Hearing) (row : List Entry) (vs : List Data) → (let d = taken_each what true (dealing_with row) vs in told_each w 0 d.notices d.out ≡ values_read w what row vs)
told_by_values w what row [] = refl
told_by_values w what row (v ∷ vs) =
    let x = by_value what row v in
    let o = (taking what true (is_awaiting row) v).told in
    let told = told_is what row v in
    let d = taken_each what true x vs in
    let Tells : Work → Type 0 = λ y. told_each w 0 d.notices d.out ≡ y in
    chosen Tells x.strange (value_read w what row v) (values_read (value_read w what row v) what x.row vs)
    (λ t.
    ap (λ (y : Dealing). told_each w 0 y.notices y.out) (strange_stays what true x vs t)
    ∙ ap (λ (ps : List NoticeAt). told_each w 0 ps x.out) (told ∙ sym (append-nil (noticed_behind 0 o)))
    ∙ told_first w o [] x.out
    ∙ none_told (noticed_each w (noticed_behind 0 o)) 0 x.out)
    (λ f.
    let more = taken_each what true (dealing_with x.row) vs in
    let n = length x.out in
    let later = later_each n more.notices in
    let all : n ≡ 0 + n = omega arith in
    let none : n + 0 ≡ 0 + n = omega arith in
    ap (λ (y : Dealing). told_each w 0 y.notices y.out) (two_taken what true row (v ∷ []) vs f)
    ∙ ap (λ (ps : List NoticeAt). told_each w 0 (ps ++ later) (x.out ++ more.out)) told
    ∙ told_first w o later (x.out ++ more.out)
    ∙ settled_first (noticed_each w (noticed_behind 0 o)) 0 later x.out more.out (subst (λ (m : ℕ). AreBehind m later) all (later_behind n more.notices))
    ∙ ap (λ (m : ℕ). told_each (value_read w what row v) m later more.out) (sym none)
    ∙ later_told (value_read w what row v) n 0 more.notices more.out
    ∙ told_by_values (value_read w what row v) what x.row vs)

-- and so are those of bytes; a broken link reads no more
pub came_by_values : (w : Work) (what : Hearing) (l : LinkState) (piece : List ℕ) → (let r = piece_read what true l piece in told_each w 0 r.notices r.out ≡ (if l.broken then w else values_read w what l.row (values (l.rest ++ piece))))
came_by_values w what l piece = by_broken l.broken
  where
    by_broken : (b : Bool) → (let r = if b then nothing_read l else came_all what true l (l.rest ++ piece) in told_each w 0 r.notices r.out ≡ (if b then w else values_read w what l.row (values (l.rest ++ piece))))
    by_broken true = refl
    by_broken false = told_by_values w what l.row (values (l.rest ++ piece))

-- rows that are alike but for whether one message's verdict is wanted stay so
pub same_by_value : (id : ℕ) (what : Hearing) (row other : List Entry) (v : Data) → SameRow id row other → SameDealing id (by_value what row v) (by_value what other v)
same_by_value id what row other v h = (tells_taken id what true (dealing_with row) (dealing_with other) v (tells_with id true row other h (inl refl))).same
