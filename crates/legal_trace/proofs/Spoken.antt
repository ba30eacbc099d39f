-- Which submissions need RESP3 where it isn't spoken.
use Rattle.std.proofs.Common.{◌≡◌, Bool, true, false, ◌&&◌, not, refl}
use Rattle.connection_info.specs.Protocol.{is_resp3}
use Rattle.driver_model.specs.declared.event.Submission.{Submission}
use Rattle.driver_model.specs.Hearing.{hears_messages}
use Rattle.driver_model.specs.Request.{needs_resp3, lacks_resp3}
use Rattle.legal_trace.specs.Book.{Book, hearing_in, info_in, is_unspoken}

-- in which order three are asked for doesn't matter
first_first : (needs deaf other : Bool) → (needs && (deaf && other)) ≡ (deaf && needs && other)
first_first true true other = refl
first_first true false other = refl
first_first false true other = refl
first_first false false other = refl

-- they are those for which a connection lacks it that hears what the configuration says, and whose server is told this
pub unspoken_is_lacking : (b : Book) (what : Submission) → is_unspoken b what ≡ lacks_resp3 (hearing_in b.config) (info_in b.config).protocol what
unspoken_is_lacking b what = first_first (needs_resp3 what) (not (hears_messages (hearing_in b.config))) (not (is_resp3 (info_in b.config).protocol))
