-- Which keys a connection that comes back has.
use Rattle.std.proofs.Common.{◌≡◌, ℕ, Bool, true, false, ◌||◌, List, bytes_eq, sym, ap, ◌∙◌}
use Rattle.std.specs.List.{list_any}
use Rattle.std.proofs.lemmas.List.Folds.{list_any-append}
use Rattle.script_text.specs.ConfigLine.{connection_keys, retry_keys, manager_keys}

-- a key of any multiplexed connection
pub key_before : (key : List ℕ) → true ≡ list_any (bytes_eq key) connection_keys → true ≡ list_any (bytes_eq key) manager_keys
key_before key is =
    ap (λ b. b || list_any (bytes_eq key) retry_keys) is ∙ sym (list_any-append (bytes_eq key) connection_keys retry_keys)

-- no such key: one of those behind them, or none
pub key_behind : (key : List ℕ) (found : Bool) → false ≡ list_any (bytes_eq key) connection_keys → found ≡ list_any (bytes_eq key) retry_keys → found ≡ list_any (bytes_eq key) manager_keys
key_behind key found none is =
    is ∙ ap (λ b. b || list_any (bytes_eq key) retry_keys) none ∙ sym (list_any-append (bytes_eq key) connection_keys retry_keys)
