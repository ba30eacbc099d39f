-- What is true of the fields of every link.
use Rattle.std.specs.Prelude.{◌≡◌, ◌≤◌, Bool, false, length}
use Rattle.resp_read.specs.State.{ReaderState}
use Rattle.resp_read.specs.Limits.{default_limits}
use Rattle.resp_read.specs.declared.reader.Health.TheVariants.{Sound}
use Rattle.link_core.specs.declared.outbox.Outbox.{Outbox}

-- no more bytes are offered than are unwritten, the reader has the default limits, and it reads on where the link does
pub record IsSound (outbox : Outbox) (reader : ReaderState) (broken failed : Bool) : Type 0 where
  pub offered : outbox.offered ≤ length outbox.unwritten
  pub limits : reader.limits ≡ default_limits
  pub reads : broken ≡ false → failed ≡ false → reader.health ≡ Sound
