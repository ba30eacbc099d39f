-- What a stream gains by acts, one by one.
use Rattle.std.proofs.Common.{◌≡◌, ℕ, zero, suc, ◌+◌, ◌-◌, ◌≤◌, ◌<◌, List, [], ◌∷◌, ◌++◌, length, take, drop, Bool, true, false, ◌||◌, refl, sym, ap, ◌∙◌, append_assoc, append-nil, arith}
use Rattle.std.specs.Prelude.{remove}
use Rattle.std.proofs.lemmas.List.Edits.{length-remove}
use Rattle.std.proofs.lemmas.List.{take_all}
use Rattle.driver_model.specs.declared.msg.Msg.{Msg}
use Rattle.resp_value.specs.declared.value.Value.{Value}
use Rattle.mux_client.specs.declared.act.ConnectionAct.{ConnectionAct}
use Rattle.mux_client.specs.declared.act.ConnectionAct.TheVariants as act
use Rattle.push_links.specs.Held.{Holding, put, finished}
use Rattle.push_links.specs.Links.{messages_among, told_among, are_closing, with_messages, with_told}

or_none : (b : Bool) → (b || false) ≡ b
or_none true = refl
or_none false = refl

or_all : (b : Bool) → (b || true) ≡ true
or_all true = refl
or_all false = refl

abbrev holding : {A : Type 0} → List A → Bool → Holding A
holding items ended = record { items = items; ended = ended }

same : {A : Type 0} (xs ys : List A) (b c : Bool) → xs ≡ ys → b ≡ c → holding xs b ≡ holding ys c
same xs ys b c items ended = ap (λ x. holding x b) items ∙ ap (holding ys) ended

pub no_message_more : (h : Holding Msg) → with_messages h [] ≡ h
no_message_more h = same (h.items ++ []) h.items (h.ended || false) h.ended (append-nil h.items) (or_none h.ended)

pub message_more : (h : Holding Msg) (m : Msg) (more : List ConnectionAct) → with_messages (put h m) more ≡ with_messages h (act.Message m ∷ more)
message_more h m more = ap (λ x. holding x (h.ended || are_closing more)) (append_assoc h.items (m ∷ []) (messages_among more))

pub messages_closed : (h : Holding Msg) (more : List ConnectionAct) → with_messages (finished h) more ≡ with_messages h (act.Close ∷ more)
messages_closed h more = ap (holding (h.items ++ messages_among more)) (sym (or_all h.ended))

pub nothing_told_more : (h : Holding Value) → with_told h [] ≡ h
nothing_told_more h = same (h.items ++ []) h.items (h.ended || false) h.ended (append-nil h.items) (or_none h.ended)

pub told_more : (h : Holding Value) (v : Value) (more : List ConnectionAct) → with_told (put h v) more ≡ with_told h (act.Monitor v ∷ more)
told_more h v more = ap (λ x. holding x (h.ended || are_closing more)) (append_assoc h.items (v ∷ []) (told_among more))

pub told_closed : (h : Holding Value) (more : List ConnectionAct) → with_told (finished h) more ≡ with_told h (act.Close ∷ more)
told_closed h more = ap (holding (h.items ++ told_among more)) (sym (or_all h.ended))

-- what begins with what begins with a list begins with it
pub front_on : {A : Type 0} (xs ys zs : List A) → take (length xs) ys ≡ xs → take (length ys) zs ≡ ys → take (length xs) zs ≡ xs
front_on [] ys zs first second = refl
front_on (x ∷ xs) [] zs first second = cc
front_on (x ∷ xs) (y ∷ ys) [] first second = cc
front_on (x ∷ xs) (y ∷ ys) (z ∷ zs) first second =
    let some : take (length xs) ys ≡ xs = cc in
    let more : take (length ys) zs ≡ ys = cc in
    let all = front_on xs ys zs some more in
    cc

-- an item behind the first so many goes, and these stay
pub one_cut : {A : Type 0} (xs : List A) (n i : ℕ) → n ≤ i → i < length xs → take n (remove xs i) ≡ take n xs
one_cut xs zero i behind there = refl
one_cut [] (suc n) i behind there = absurd (omega arith)
one_cut (x ∷ xs) (suc n) zero behind there = absurd (omega arith)
one_cut {A} (x ∷ xs) (suc n) (suc i) behind there = ap (λ (ys : List A). x ∷ ys) (one_cut xs n i (omega arith) (omega arith))

pub last_cut : {A : Type 0} (xs ys : List A) (i n : ℕ) → ys ≡ remove xs i → i ≡ length xs - 1 → n < length xs → take n ys ≡ take n xs
last_cut xs ys i n is last there = ap (take n) is ∙ one_cut xs n i (omega (arith, last, there)) (omega (arith, last, there))

pub one_fewer : {A : Type 0} (xs ys : List A) (i : ℕ) → ys ≡ remove xs i → i < length xs → length ys + 1 ≡ length xs
one_fewer xs ys i is there = ap (λ zs. length zs + 1) is ∙ length-remove xs i there

-- and no more than these are left
pub all_cut : {A : Type 0} (xs ys : List A) (n : ℕ) → length ys ≤ n → take n ys ≡ take n xs → ys ≡ take n xs
all_cut xs ys n few same = sym (take_all n ys few) ∙ same
