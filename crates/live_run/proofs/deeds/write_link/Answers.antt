use Rattle.live_run.proofs.Turns.{write_one, write_broken}
use Rattle.live_run.proofs.deeds.write_link.Goals as goal

pub returns-in-Ok-clause-did : goal.returns-in-Ok-clause-did
returns-in-Ok-clause-did g c =
    let offer = c.in-Some.ensures in
    write_one c.args.link c.in-Some.offer.now offer.0 offer.1 c.write-answer.ensures.within c.write-answer.ensures.tells (c.write_news-news.ensures c.in-Some.offer.now)
    (c.after_write.ensures.noted c.in-Some.offer.now) c.in-Ok.ensures.ok

pub returns-in-Err-clause-err : goal.returns-in-Err-clause-err
returns-in-Err-clause-err g c =
    let offer = c.in-Some.ensures in
    write_broken c.args.link c.in-Some.offer.now offer.0 offer.1 c.write-answer.ensures.within c.write-answer.ensures.tells (c.write_news-news.ensures c.in-Some.offer.now) c.in-Err.ensures.err

pub returns-in-Err-clause-few : goal.returns-in-Err-clause-few
returns-in-Err-clause-few g c = c.in-Err.ensures.few
