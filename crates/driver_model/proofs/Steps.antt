-- How many commands a setup has.
use lib.Dec.{eqb-suc-zero}
use Rattle.std.proofs.Common.{◌≡◌, ℕ, ◌+◌, ◌==◌, ◌∙◌, List, [], ◌∷◌, ◌++◌, length, Option, Some, None, ℤ, pos, negsuc, zero, suc, ◌≢◌, length-append, refl, sym, ap, arith}
use Rattle.connection_info.specs.declared.protocol.ProtocolVersion.{ProtocolVersion}
use Rattle.connection_info.specs.declared.protocol.ProtocolVersion.TheVariants.{RESP2, RESP3}
use Rattle.connection_setup.specs.Setup.{Step, opening, selection}
use Rattle.driver_model.specs.Setup.{says_nothing}

-- HELLO comes first on RESP3
pub hello_opens : (protocol : ProtocolVersion) (username password : Option (List ℕ)) → protocol ≡ RESP3 → 1 ≡ length (opening protocol username password)
hello_opens RESP3 username None e = refl
hello_opens RESP3 None (Some word) e = refl
hello_opens RESP3 (Some name) (Some word) e = refl
hello_opens RESP2 username password e = cc

-- AUTH comes first on RESP2 where there is a password
pub password_opens : (protocol : ProtocolVersion) (username password : Option (List ℕ)) (word : List ℕ) → protocol ≡ RESP2 → password ≡ Some word → 1 ≡ length (opening protocol username password)
password_opens RESP2 None (Some w) word e is = refl
password_opens RESP2 (Some name) (Some w) word e is = refl
password_opens RESP2 username None word e is = cc
password_opens RESP3 username password word e is = cc

-- and nothing where there is none
pub none_opens : (protocol : ProtocolVersion) (username password : Option (List ℕ)) → protocol ≡ RESP2 → password ≡ None → 0 ≡ length (opening protocol username password)
none_opens RESP2 username None e is = refl
none_opens RESP2 username (Some w) e is = cc
none_opens RESP3 username password e is = cc

-- database 0 isn't chosen
pub none_chosen : (db : ℤ) → db ≡ pos 0 → 0 ≡ length (selection db)
none_chosen db e = ap (λ d. length (selection d)) (sym e)

-- any other is
pub one_chosen : (db : ℤ) → db ≢ pos 0 → 1 ≡ length (selection db)
one_chosen (pos zero) other = absurd (other refl)
one_chosen (pos (suc n)) other = refl
one_chosen (negsuc n) other = refl

-- the parts of a setup together
pub all_of : (a b c : List Step) (l m n : ℕ) → l ≡ length a → m ≡ length b → n ≡ length c → l + (m + n) ≡ length (a ++ (b ++ c))
all_of a b c l m n p q r = omega (arith, p, q, r, length-append b c, length-append a (b ++ c))

-- nothing is said where there is no command
pub none_said : (steps : List Step) (n : ℕ) → n ≡ length steps → (n == 0) ≡ says_nothing steps
none_said [] n e = ap (λ m. m == 0) e
none_said (s ∷ steps) n e = ap (λ m. m == 0) e ∙ eqb-suc-zero (length steps)
