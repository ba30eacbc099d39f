-- Addresses, read from their texts and written as them.
use Rattle.std.proofs.Common.{◌≡◌, ℕ, ◌<◌, List, length, refl, codes, Some, None, pos, arith}
use Rattle.std.proofs.lemmas.Bool.Decides.{nat_tests}
use Rattle.std.proofs.lemmas.Str.{IsUtf8-from_is_utf8}
use Rattle.std.specs.Str.Lossy.{utf8_lossy, utf8_valid_len}
use Rattle.url.proofs.OnLiterals.{url_on_literals}
use Rattle.percent_encoding.proofs.OnLiterals.{percent_encoding_on_literals}
use Rattle.connection_info.specs.declared.protocol.ProtocolVersion.TheVariants.{RESP2, RESP3}
use Rattle.connection_info.specs.Address.{address_of}
use Rattle.connection_info.specs.Written.{url_of, ReadsBack}
use Rattle.protocol_examples.specs.Connections.{at, place, secured}

pub name : address_of (codes "redis://127.0.0.1") ≡ Some (place (codes "127.0.0.1") 6379)
unfolding url_on_literals
name = refl

pub database : address_of (codes "redis://h/4") ≡ Some (at (codes "h") 6379 (pos 4) RESP2)
unfolding url_on_literals
database = refl

pub every_part : address_of (codes "valkey://u%40v:p%3Aq@[::1]:7000/2?a=b&protocol=3#c") ≡ Some (secured (codes "::1") 7000 (codes "u@v") (codes "p:q"))
unfolding url_on_literals utf8_lossy utf8_valid_len
every_part = refl

pub first_protocol : address_of (codes "redis://h?protocol=resp3&protocol=2") ≡ Some (at (codes "h") 6379 (pos 0) RESP3)
unfolding url_on_literals utf8_lossy utf8_valid_len
first_protocol = refl

pub encrypted : address_of (codes "rediss://h") ≡ None
unfolding url_on_literals
encrypted = refl

pub no_host : address_of (codes "redis://:6379") ≡ None
unfolding url_on_literals
no_host = refl

pub port : address_of (codes "redis://h:65536") ≡ None
unfolding url_on_literals
port = refl

pub no_database : address_of (codes "redis://h/x") ≡ None
unfolding url_on_literals
no_database = refl

pub password : address_of (codes "redis://u:%FF@h") ≡ None
unfolding url_on_literals
password = refl

pub protocol : address_of (codes "redis://h?protocol=4") ≡ None
unfolding url_on_literals utf8_lossy utf8_valid_len
protocol = refl

pub long : (text : List ℕ) → 1_048_576 < length text → address_of text ≡ None
long text h = grind (arith, nat_tests)

pub written : url_of (at (codes "h") 6379 (pos 4) RESP2) ≡ codes "redis://h:6379/4"
unfolding url_on_literals
written = refl

pub every_part_written : url_of (secured (codes "::1") 7000 (codes "u@v") (codes "p:q")) ≡ codes "redis://u%40v:p%3Aq@[::1]:7000/2?protocol=3"
unfolding url_on_literals percent_encoding_on_literals
every_part_written = refl

pub read : ReadsBack (secured (codes "::1") 7000 (codes "u@v") (codes "p:q"))
unfolding url_on_literals percent_encoding_on_literals utf8_lossy utf8_valid_len
read = (IsUtf8-from_is_utf8 _ refl, refl)
