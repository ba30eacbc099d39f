use Rattle.std.proofs.Common.{◌≡◌, unwrap_or, [], codes}
use Rattle.form_urlencoded.specs.Form.{raw_pairs}
use Rattle.form_urlencoded.specs.Parse.{pairs_left}
use Rattle.connection_info.specs.Protocol.{value_of}
use Rattle.connection_info.proofs.query.protocol.Given as goal

-- no pair that was passed has the name
abbrev pub invariant-loop-pair : goal.invariant-loop-pair
invariant-loop-pair l = value_of (codes "protocol") (raw_pairs (unwrap_or l.fn.url.query [])) ≡ value_of (codes "protocol") (pairs_left l.pair-iterator)
