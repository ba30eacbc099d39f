-- What comes on a link: what one value makes of its ledger, and so several, and the bytes of a piece.
use Rattle.std.proofs.Common.{◌≡◌, Bool, true, false, ℕ, List, [], ◌∷◌, ◌++◌, refl, sym, ap, ◌∙◌, subst, append_assoc}
use Rattle.std.proofs.lemmas.List.{append-nil}
use Rattle.containers.proofs.Choices.{chosen}
use Rattle.resp_value.specs.Data.{Data}
use Rattle.resp_read.specs.Values.{values, left_over}
use Rattle.driver_model.specs.Hearing.{Taking}
use Rattle.legal_trace.specs.Ledger.{Ledger, Heard, taking_of, value_by, value_came, values_came, bytes_came, items_came, heard_at}

-- a link on which this came: what is left of it, whether its last value ends the link, what is to be told of it, and which items
-- were dealt
abbrev pub grown : Ledger → List ℕ → Bool → List Heard → List Data → Ledger
grown l rest strange told more = record l { rest = rest; strange = strange; notices = l.notices ++ told; dealt = l.dealt ++ more }

-- the second is the first, on which something came
pub record Came (l m : Ledger) : Type 0 where
  pub rest : List ℕ
  pub strange : Bool
  pub told : List Heard
  pub more : List Data
  pub is : m ≡ grown l rest strange told more

-- what has this form has it by what is left, and told, and dealt
grown_as : (l : Ledger) (rest : List ℕ) (strange : Bool) (notices other : List Heard) (dealt items : List Data) → notices ≡ other → dealt ≡ items
    → record l { rest = rest; strange = strange; notices = notices; dealt = dealt } ≡ record l { rest = rest; strange = strange; notices = other; dealt = items }
grown_as l rest strange notices other dealt items e f =
    ap (λ (ns : List Heard). record l { rest = rest; strange = strange; notices = ns; dealt = dealt }) e ∙ ap (λ (ds : List Data). record l { rest = rest; strange = strange; notices = other; dealt = ds }) f

-- nothing more came
pub none_came : (l : Ledger) → Came l l
none_came l = record { rest = l.rest; strange = l.strange; told = []; more = []; is = grown_as l l.rest l.strange l.notices (l.notices ++ []) l.dealt (l.dealt ++ []) (sym (append-nil l.notices)) (sym (append-nil l.dealt)) }

-- something came, and then something else
pub came_on : (l m n : Ledger) → Came l m → Came m n → Came l n
came_on l m n first then = record {
  rest = then.rest;
  strange = then.strange;
  told = first.told ++ then.told;
  more = first.more ++ then.more;
  is = then.is ∙ (ap (λ (k : Ledger). grown k then.rest then.strange then.told then.more) first.is
      ∙ grown_as l then.rest then.strange ((l.notices ++ first.told) ++ then.told) (l.notices ++ (first.told ++ then.told)) ((l.dealt ++ first.more) ++ then.more) (l.dealt ++ (first.more ++ then.more))
      (append_assoc l.notices first.told then.told) (append_assoc l.dealt first.more then.more));
}

-- a value came that is dealt, or isn't
dealt_came : (dealt : Bool) (l : Ledger) (t : Taking) (v : Data) → t.dealt ≡ dealt → Came l (value_by l t v)
dealt_came true l t v e = subst (λ dealt. Came l (value_by l (record t { dealt = dealt }) v)) (sym e)
    (record { rest = l.rest; strange = t.ends; told = heard_at l t.told; more = _; is = refl })
dealt_came false l t v e = subst (λ dealt. Came l (value_by l (record t { dealt = dealt }) v)) (sym e)
    (record { rest = l.rest; strange = t.ends; told = heard_at l t.told; more = []; is = grown_as l l.rest t.ends (l.notices ++ heard_at l t.told) (l.notices ++ heard_at l t.told) l.dealt (l.dealt ++ []) refl (sym (append-nil l.dealt)) })

-- a value came
pub value_is : (l : Ledger) (v : Data) → Came l (value_came l v)
value_is l v = chosen (Came l) l.strange l (value_by l (taking_of l v) v) (λ t. none_came l) (λ f. dealt_came (taking_of l v).dealt l (taking_of l v) v refl)

-- several did
pub values_are : (l : Ledger) (vs : List Data) → Came l (values_came l vs)
values_are l [] = none_came l
values_are l (v ∷ vs) = came_on l (value_came l v) (values_came l (v ∷ vs)) (value_is l v) (values_are (value_came l v) vs)

-- bytes did
pub bytes_are : (l : Ledger) (piece : List ℕ) → Came l (bytes_came l piece)
bytes_are l piece =
    let rest : List ℕ = left_over (l.rest ++ piece) in
    let m : Ledger = record l { rest = rest } in
    came_on l m (bytes_came l piece) (record { rest = rest; strange = l.strange; told = []; more = []; is = grown_as l rest l.strange l.notices (l.notices ++ []) l.dealt (l.dealt ++ []) (sym (append-nil l.notices)) (sym (append-nil l.dealt)) })
    (values_are m (values (l.rest ++ piece)))

-- what holds of a link, whatever came on it, holds where something came
pub holds_came : (P : Ledger → Type 0) (l m : Ledger) → Came l m → ((rest : List ℕ) (strange : Bool) (told : List Heard) (more : List Data) → P (grown l rest strange told more)) → P m
holds_came P l m came h = subst P (sym came.is) (h came.rest came.strange came.told came.more)

-- so where bytes did
pub holds_bytes : (P : Ledger → Type 0) (l : Ledger) (piece : List ℕ) → ((rest : List ℕ) (strange : Bool) (told : List Heard) (more : List Data) → P (grown l rest strange told more)) → P (bytes_came l piece)
holds_bytes P l piece h = holds_came P l (bytes_came l piece) (bytes_are l piece) h

-- what each value that comes keeps
abbrev pub ValueKeeps : (Ledger → Type 0) → Type 0
ValueKeeps P = (l : Ledger) (v : Data) → P l → P (value_came l v)

-- several keep
pub values_keep : (P : Ledger → Type 0) → ValueKeeps P → (l : Ledger) (vs : List Data) → P l → P (values_came l vs)
values_keep P keeps l [] h = h
values_keep P keeps l (v ∷ vs) h = values_keep P keeps (value_came l v) vs (keeps l v h)

-- and bytes do, where it doesn't hang on those that are left
pub bytes_keep : (P : Ledger → Type 0) → ValueKeeps P → (l : Ledger) (piece : List ℕ) → P (record l { rest = left_over (l.rest ++ piece) }) → P (bytes_came l piece)
bytes_keep P keeps l piece h = values_keep P keeps (record l { rest = left_over (l.rest ++ piece) }) (values (l.rest ++ piece)) h

-- what a value keeps that is dealt, and one that isn't
pub value_keeps : (P : Ledger → Type 0) → ((l : Ledger) (told : List Heard) (strange : Bool) → P l → P (record l { notices = told; strange = strange })) → ((l : Ledger) (v : Data) → P l → P (items_came l (v ∷ []))) → ValueKeeps P
value_keeps P noted dealt l v h =
    let m : Ledger = record l { notices = l.notices ++ heard_at l (taking_of l v).told; strange = (taking_of l v).ends } in
    let k : P m = noted l (l.notices ++ heard_at l (taking_of l v).told) (taking_of l v).ends h in
    chosen P l.strange l (value_by l (taking_of l v) v) (λ t. h) (λ f. chosen P (taking_of l v).dealt (items_came m (v ∷ [])) m (λ t. dealt m v k) (λ e. k))
