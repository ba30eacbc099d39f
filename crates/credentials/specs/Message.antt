-- What a server is told when credentials are renewed.
use Rattle.std.specs.Prelude.{ℕ, List, [], ◌∷◌, codes}
use Rattle.resp_write.specs.Pack.{pack}

-- AUTH with user name and password, as one command
abbrev pub auth_bytes : List ℕ → List ℕ → List ℕ
auth_bytes user password = pack (codes "AUTH" ∷ user ∷ password ∷ [])
