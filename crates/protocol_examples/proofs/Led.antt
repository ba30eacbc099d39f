-- Errors that lead to a node, and errors that lead nowhere.
use Rattle.std.proofs.Common.{◌≡◌, ℕ, ◌<◌, ◌==◌, Bool, true, false, if◌then◌else◌, List, [], ◌∷◌, ◌++◌, Option, Some, None, refl, sym, ap, subst, ◌∙◌, arith, lit<}
use Rattle.std.specs.Prelude.{codes}
use Rattle.std.specs.Char.{digit_value}
use Rattle.std.specs.List.{All}
use Rattle.std.specs.Str.Parse.{AllDigits, IsNumeral, digits_value}
use Rattle.std.proofs.lemmas.Bool.Decides.{nat_tests}
use Rattle.resp_value.specs.declared.server_error.ServerError.{ServerError}
use Rattle.resp_value.specs.Redirect.{LeadsNowhere, is_for_one_command, slots}
use Rattle.protocol_examples.specs.Errors.{IsLead, told, leads, strays}
use Rattle.protocol_examples.proofs.Computed.{each}

lead : (code digits address : List ℕ) (slot : ℕ) (ask : Bool) → is_for_one_command code ≡ Some ask → IsNumeral 10 digits → digits_value 10 digits ≡ slot → slot < slots
    → IsLead (told code (digits ++ 32 ∷ address), slot, address, ask)
lead code digits address slot ask is numeral value below = (is, (digits ++ 32 ∷ address, refl, (digits, refl, numeral, value, below)))

pub each_leads : All IsLead leads
unfolding is_for_one_command
each_leads = each IsLead leads (
  lead (codes "MOVED") (codes "3999") (codes "127.0.0.1:6381") 3999 false refl (lit< tt, (lit< tt, (lit< tt, (lit< tt, (lit< tt, tt))))) refl (lit< tt),
  (
    lead (codes "ASK") (codes "3999") (codes "127.0.0.1:6381") 3999 true refl (lit< tt, (lit< tt, (lit< tt, (lit< tt, (lit< tt, tt))))) refl (lit< tt),
    (
      lead (codes "MOVED") (codes "0") (codes ":6381") 0 false refl (lit< tt, (lit< tt, tt)) refl (lit< tt),
      (
        lead (codes "MOVED") (codes "16383") (codes "host:7000") 16_383 false refl (lit< tt, (lit< tt, (lit< tt, (lit< tt, (lit< tt, (lit< tt, tt)))))) refl (lit< tt),
        tt,
      ),
    ),
  ),
)

-- the bytes before the first space, and those after it
abbrev before_space : List ℕ → List ℕ
before_space [] = []
before_space (b ∷ bs) = if b == 32 then [] else b ∷ before_space bs

abbrev after_space : List ℕ → Option (List ℕ)
after_space [] = None
after_space (b ∷ bs) = if b == 32 then Some bs else after_space bs

no_space : (d : ℕ) → digit_value d < 10 → (d == 32) ≡ false
no_space d h = grind (arith, nat_tests)

digits_before : (ds address : List ℕ) → AllDigits 10 ds → before_space (ds ++ 32 ∷ address) ≡ ds
digits_before [] address all = refl
digits_before (d ∷ ds) address all = ap (λ t. if t then [] else d ∷ before_space (ds ++ 32 ∷ address)) (no_space d all.0) ∙ ap (λ bs. d ∷ bs) (digits_before ds address all.1)

address_after : (ds address : List ℕ) → AllDigits 10 ds → after_space (ds ++ 32 ∷ address) ≡ Some address
address_after [] address all = refl
address_after (d ∷ ds) address all = ap (λ t. if t then Some (ds ++ 32 ∷ address) else after_space (ds ++ 32 ∷ address)) (no_space d all.0) ∙ address_after ds address all.1

-- no slot is told by these bytes
abbrev IsNoSlot : List ℕ → Type 0
IsNoSlot bytes = IsNumeral 10 bytes → digits_value 10 bytes < slots → ⊥

some_is_none : {A : Type 0} (a : A) → Some a ≡ None → ⊥
some_is_none a e = cc

none_is_some : {A : Type 0} (a : A) → None ≡ Some a → ⊥
none_is_some a e = cc

same_inside : {A : Type 0} (a b : A) → Some a ≡ Some b → a ≡ b
same_inside a b e = cc e

-- errors that lead nowhere: by their code, for want of a detail, of a space in it, or of a slot before that
by_code : (e : ServerError) → is_for_one_command e.code ≡ None → LeadsNowhere e
by_code e none slot address ask r = some_is_none ask (sym r.0 ∙ none)

undetailed : (e : ServerError) → e.detail ≡ None → LeadsNowhere e
undetailed e none slot address ask r = some_is_none r.1.0 (sym r.1.1 ∙ none)

without_space : (code detail : List ℕ) → after_space detail ≡ None → LeadsNowhere (told code detail)
without_space code detail none slot address ask r =
    let place = r.1.2 in
    let whole = same_inside detail r.1.0 r.1.1 ∙ place.1 in
    none_is_some address (sym none ∙ ap after_space whole ∙ address_after place.0 address place.2.1)

without_slot : (code detail : List ℕ) → IsNoSlot (before_space detail) → LeadsNowhere (told code detail)
without_slot code detail none slot address ask r =
    let place = r.1.2 in
    let whole = same_inside detail r.1.0 r.1.1 ∙ place.1 in
    let digits : place.0 ≡ before_space detail = sym (ap before_space whole ∙ digits_before place.0 address place.2.1) in
    let value : digits_value 10 place.0 < slots = subst (λ n. n < slots) (sym place.3) place.4 in
    none (subst (IsNumeral 10) digits place.2) (subst (λ ds. digits_value 10 ds < slots) digits value)

pub each_stray : All LeadsNowhere strays
unfolding is_for_one_command
each_stray = each LeadsNowhere strays (
  by_code (told (codes "ERR") (codes "3999 127.0.0.1:6381")) refl,
  (
    by_code (told (codes "moved") (codes "3999 127.0.0.1:6381")) refl,
    (
      undetailed (record { code = codes "MOVED"; detail = None }) refl,
      (
        without_space (codes "MOVED") [] refl,
        (
          without_space (codes "MOVED") (codes "3999") refl,
          (
            without_slot (codes "MOVED") (codes " 127.0.0.1:6381") (λ numeral fits. absurd (omega (arith, numeral.0))),
            (
              without_slot (codes "MOVED") (codes "-1 127.0.0.1:6381") (λ numeral fits. absurd (omega (arith, numeral.1.0))),
              (
                without_slot (codes "ASK") (codes "16384 127.0.0.1:6381") (λ numeral fits. absurd (omega (arith, fits))),
                tt,
              ),
            ),
          ),
        ),
      ),
    ),
  ),
)
