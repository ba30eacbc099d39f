use Rattle.resp_convert.proofs.Fit.{told_pair, no_key}
use Rattle.resp_convert.proofs.aggregates.look_at_pair.Goals as goal

pub returns-in-Fits : goal.returns-in-Fits
returns-in-Fits g c =
    told_pair g.K.FromRedisValue.moves g.V.FromRedisValue.moves g.K.FromRedisValue.fits g.V.FromRedisValue.fits g.K.FromRedisValue.reads g.V.FromRedisValue.reads _ _ c.in-Fits.ensures _ c.look-in-Fits.ensures

pub returns-in-Unfit : goal.returns-in-Unfit
returns-in-Unfit g c =
    no_key g.K.FromRedisValue.reads g.V.FromRedisValue.reads _ _ c.in-Unfit.ensures

pub returns-in-Untold : goal.returns-in-Untold
returns-in-Untold g c both = c.in-Untold.ensures both.0
