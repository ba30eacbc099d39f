-- Pushes that the driver makes itself.
use Rattle.std.specs.Prelude.{Bool, true, false}
use Rattle.resp_value.specs.declared.push_kind.PushKind.{PushKind}
use Rattle.resp_value.specs.declared.push_kind.PushKind.TheVariants.{Disconnection}

-- it tells that a link has ended: no text that a server sends is read as this kind
abbrev pub is_disconnection : PushKind → Bool
is_disconnection Disconnection = true
is_disconnection _ = false
