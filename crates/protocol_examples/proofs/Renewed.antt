-- When credentials are renewed, and what a server is told then.
use Rattle.std.proofs.Common.{◌≡◌, ℕ, List, length, refl, codes, Some}
use Rattle.std.proofs.lemmas.List.{append-nil}
use Rattle.std.specs.Fmt.{digits}
use Rattle.resp_write.specs.Pack.{pack_pipeline}
use Rattle.connection_info.specs.declared.protocol.ProtocolVersion.TheVariants.{RESP2}
use Rattle.connection_setup.specs.Setup.{opening, pipeline_of}
use Rattle.credentials.specs.Message.{auth_bytes}

pub bytes : auth_bytes (codes "u") (codes "q") ≡ codes "*3\r\n$4\r\nAUTH\r\n$1\r\nu\r\n$1\r\nq\r\n"
unfolding digits
bytes = refl

pub count : length (auth_bytes (codes "u") (codes "q")) ≡ 28
unfolding digits
count = refl

pub swapped : auth_bytes (codes "q") (codes "u") ≡ codes "*3\r\n$4\r\nAUTH\r\n$1\r\nq\r\n$1\r\nu\r\n"
unfolding digits
swapped = refl

pub as_setup : (user : List ℕ) (password : List ℕ) → pack_pipeline (pipeline_of (opening RESP2 (Some user) (Some password))) ≡ auth_bytes user password
as_setup user password = append-nil (auth_bytes user password)
