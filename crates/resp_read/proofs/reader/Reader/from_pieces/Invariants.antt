use Rattle.std.proofs.Common.{◌≡◌, ◌≤◌, ◌+◌, ◌*◌, ◌++◌, length, drop}
use Rattle.resp_read.specs.State.{unseen}
use Rattle.resp_read.specs.Limits.{nearest_allowed}
use Rattle.resp_read.specs.Reads.{IsProperPrefixWithin}
use Rattle.resp_read.specs.Reading.{joined}
use Rattle.resp_read.specs.declared.reader.Health.TheVariants.{Sound}
use Rattle.resp_read.proofs.PieceLaws.{AreRead}
use Rattle.resp_read.proofs.reader.Reader.from_pieces.Given as goal

abbrev pub invariant-loop-piece : goal.invariant-loop-piece
invariant-loop-piece g l = record {
  sound : l.reader.health ≡ Sound;
  limits : l.reader.limits ≡ (nearest_allowed l.fn.limits);
  reads : AreRead (nearest_allowed l.fn.limits) (joined l.pieces) l.fn.out.items l.out.items (l.reader.rest ++ joined (drop l.piece-index l.pieces));
  waits : IsProperPrefixWithin (nearest_allowed l.fn.limits) l.reader.rest;
  costs : l.steps + 2 * unseen l.reader + 2 * length (joined (drop l.piece-index l.pieces)) ≤ l.fn.steps + 2 * length (joined l.pieces);
}
