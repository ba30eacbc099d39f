-- An opening that fails ends the connection or not, and a creation is told or not.
use Rattle.std.proofs.Common.{◌≡◌, Bool, true, false, Option, ◌++◌, ◌∷◌, [], sym, ap, ◌∙◌, if◌then◌else◌}
use Rattle.containers.proofs.Choices.{taken_if, left_if}
use Rattle.redis_error.specs.declared.redis_error.RedisError.{RedisError}
use Rattle.mux_conn.specs.declared.act.LinkAct.TheVariants as act
use Rattle.mux_conn.specs.Connection.{Work, acted}
use Rattle.mux_conn.specs.Effects.{afresh, creation_told, given_up, opening_failed}

-- where no other attempt follows it is given up
pub last_fails : (w : Work) (e : RedisError) → w.conn.last ≡ true → opening_failed w e ≡ given_up w e
last_fails w e last = taken_if w.conn.last (given_up w e) (record w { conn = afresh w.conn }) last

-- and else it starts afresh
pub another_follows : (w : Work) (e : RedisError) → w.conn.last ≡ false → opening_failed w e ≡ record w { conn = afresh w.conn }
another_follows w e last = left_if w.conn.last (given_up w e) (record w { conn = afresh w.conn }) last

-- a creation that wasn't told is shown
pub told_first : (w : Work) (e : Option RedisError) → w.conn.told ≡ false → creation_told w e ≡ acted (record w { conn = record w.conn { told = true } }) (act.Created e)
told_first w e first = ap (λ (b : Bool). record w { conn = record w.conn { told = true }; acts = if b then w.acts else w.acts ++ act.Created e ∷ [] }) first

-- and one that was told changes nothing
pub told_before : (w : Work) (e : Option RedisError) → w.conn.told ≡ true → creation_told w e ≡ w
told_before w e before =
    ap (λ (b : Bool). record w { conn = record w.conn { told = true }; acts = if b then w.acts else w.acts ++ act.Created e ∷ [] }) before
    ∙ ap (λ (b : Bool). record w { conn = record w.conn { told = b } }) (sym before)
