use Rattle.std.proofs.Common.{arith}
use Rattle.live_run.proofs.Runs.{broke_call}
use Rattle.live_run.proofs.Turns.{dialled_one, dial_broken}
use Rattle.live_run.proofs.deeds.dial_link.Goals as goal

pub returns-in-Err-clause-err : goal.returns-in-Err-clause-err
returns-in-Err-clause-err g c = broke_call _ c.dial-answer.ensures.tells

pub returns-in-Ok-settle-clause-did : goal.returns-in-Ok-settle-clause-did
returns-in-Ok-settle-clause-did g c =
    dialled_one c.args.target.now c.claim_up_to-agenda.result c.claim_up_to-agenda.ensures.most c.host_text-name.ensures c.dial-answer.ensures.tells (c.dial_news-news.ensures c.host_text-name.result.now c.args.target.now.port)
    (c.in-Ok.ensures.noted c.host_text-name.result.now c.args.target.now.port) c.in-Ok-settle.ensures.ok

pub returns-in-Err-settle-clause-err : goal.returns-in-Err-settle-clause-err
returns-in-Err-settle-clause-err g c =
    dial_broken c.args.target.now c.claim_up_to-agenda.result c.claim_up_to-agenda.ensures.most c.host_text-name.ensures c.dial-answer.ensures.tells (c.dial_news-news.ensures c.host_text-name.result.now c.args.target.now.port) c.in-Err-settle.ensures.err

pub returns-in-Err-clause-few : goal.returns-in-Err-clause-few
returns-in-Err-clause-few g c = omega arith

pub returns-in-Err-settle-clause-few : goal.returns-in-Err-settle-clause-few
returns-in-Err-settle-clause-few g c = c.in-Err-settle.ensures.few
