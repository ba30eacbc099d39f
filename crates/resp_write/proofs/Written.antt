-- What is written one after another.
use Rattle.std.specs.List.{flat_map}
use Rattle.std.proofs.Common.{◌≡◌, ℕ, ◌<◌, ◌≤◌, suc, List, [], ◌∷◌, ◌++◌, length, get_or, drop, Result, Ok, Err, OnOk, refl, sym, ap, subst, ◌∙◌, false, append_assoc, append-nil, drop-cons}
use Rattle.std.proofs.Math.ListN.{drop_of_length-le}
use Rattle.resp_write.specs.Command.{Command, with_args}
use Rattle.resp_write.specs.Arguments.{Arguments, exactly, among, IsWritten, of_part, and_then, of_each}

-- a command that has no name yet
abbrev pub empty : Command
empty = record { args = []; no_response = false }

more_behind : (c : Command) (xs ys : List (List ℕ)) → with_args (with_args c xs) ys ≡ with_args c (xs ++ ys)
more_behind c xs ys = ap (λ args. let d : Command = record { args = args; no_response = c.no_response } in d) (append_assoc c.args xs ys)

nothing_behind : (c : Command) → c ≡ with_args c []
nothing_behind c = ap (λ args. let d : Command = record { args = args; no_response = c.no_response } in d) (sym (append-nil c.args))

-- what was written into a command of its own, behind another
pub written_behind : {S : Type 0} (a : Arguments S) (x : S) (old more new : Command) → IsWritten a x empty more → new ≡ with_args old more.args → IsWritten a x old new
written_behind (exactly f) x old more new is put = put ∙ ap (λ c. with_args old c.args) is
written_behind (among allowed) x old more new is put = (is.0, is.1, put ∙ ap (λ c. with_args old c.args) is.2)

-- the same after an Ok
pub written_at_end : {S E U : Type 0} (a : Arguments S) (x : S) (old more new : Command) (r : Result U E) → OnOk r (new ≡ with_args old more.args) → IsWritten a x empty more → OnOk r (IsWritten a x old new)
written_at_end a x old more new (Ok u) put is = written_behind a x old more new is put
written_at_end a x old more new (Err e) put is = put

pub written_part : {R S : Type 0} (part : R → S) (a : Arguments S) (r : R) (old new : Command) → IsWritten a (part r) old new → IsWritten (of_part part a) r old new
written_part part (exactly f) r old new is = is
written_part part (among allowed) r old new is = is

-- the others behind the ones
pub written_next : {S : Type 0} (a b : Arguments S) (x : S) (old mid new : Command) → IsWritten b x mid new → IsWritten a x old mid → IsWritten (and_then a b) x old new
written_next (exactly f) (exactly g) x old mid new next is = next ∙ ap (λ c. with_args c (g x)) is ∙ more_behind old (f x) (g x)
written_next (exactly f) (among allowed) x old mid new next is =
    (f x ++ next.0, (next.0, next.1, refl), next.2 ∙ ap (λ c. with_args c next.0) is ∙ more_behind old (f x) next.0)
written_next (among allowed) (exactly g) x old mid new next is =
    (is.0 ++ g x, (is.0, g x, is.1, refl, refl), next ∙ ap (λ c. with_args c (g x)) is.2 ∙ more_behind old is.0 (g x))
written_next (among allowed) (among others) x old mid new next is =
    (is.0 ++ next.0, (is.0, next.0, is.1, next.1, refl), next.2 ∙ ap (λ c. with_args c next.0) is.2 ∙ more_behind old is.0 next.0)

-- an item, and the items behind it
written_first : {S : Type 0} (a : Arguments S) (x : S) (xs : List S) (old mid new : Command) → IsWritten a x old mid → IsWritten (of_each a) xs mid new → IsWritten (of_each a) (x ∷ xs) old new
written_first (exactly f) x xs old mid new is next = next ∙ ap (λ c. with_args c (flat_map f xs)) is ∙ more_behind old (f x) (flat_map f xs)
written_first (among allowed) x xs old mid new is next =
    (is.0 ++ next.0, (is.0, next.0, is.1, next.1, refl), next.2 ∙ ap (λ c. with_args c next.0) is.2 ∙ more_behind old is.0 next.0)

-- whatever a command is with the items that are left, it has all of the items behind the first command
abbrev pub Leads : {S : Type 0} → Arguments S → List S → List S → Command → Command → Type 0
Leads a xs left old mid = (new : Command) → IsWritten (of_each a) left mid new → IsWritten (of_each a) xs old new

pub leads_on : {S : Type 0} (a : Arguments S) (xs : List S) (i : ℕ) (x : S) (old mid next : Command) → i < length xs → x ≡ get_or xs i x → IsWritten a x mid next → Leads a xs (drop i xs) old mid → Leads a xs (drop (suc i) xs) old next
leads_on a xs i x old mid next h at is leads new written =
    leads new (subst (λ l. IsWritten (of_each a) l mid new) (sym (drop-cons xs i x h)) (
    subst (λ y. IsWritten (of_each a) (y ∷ drop (suc i) xs) mid new) at (
    written_first a x (drop (suc i) xs) mid next new is written)))

-- no items
none_left : {S : Type 0} (a : Arguments S) (c : Command) → IsWritten (of_each a) [] c c
none_left (exactly f) c = nothing_behind c
none_left (among allowed) c = ([], refl, nothing_behind c)

-- no items are left
pub all_written : {S : Type 0} (a : Arguments S) (xs : List S) (i : ℕ) (old mid : Command) → length xs ≤ i → Leads a xs (drop i xs) old mid → IsWritten (of_each a) xs old mid
all_written a xs i old mid h leads = leads mid (subst (λ l. IsWritten (of_each a) l mid mid) (sym (drop_of_length-le xs h)) (none_left a mid))
