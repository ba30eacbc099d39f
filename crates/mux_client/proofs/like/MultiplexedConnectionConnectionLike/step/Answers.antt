use Rattle.std.proofs.Common.{◌≡◌, ◌⊎◌, inr, ◌++◌, true, Some, OnOk, sym, subst}
use Rattle.driver_model.specs.News.{told}
use Rattle.mux_conn.specs.Connection.{uses_up}
use Rattle.mux_conn.specs.declared.errors.ConnectionError.TheVariants as failure
use Rattle.mux_client.specs.declared.event.ConnectionNews.{ConnectionNews}
use Rattle.mux_client.specs.Calls.{stepped, acts_of, turn_of}
use Rattle.mux_client.specs.Events.{happened}
use Rattle.mux_client.specs.LikeLaws.{outcomes_kept}
use Rattle.mux_client.specs.Like.{behind, shown_by, Spends}
use Rattle.mux_client.proofs.Told.{told_on, timely, between}
use Rattle.mux_client.proofs.like.MultiplexedConnectionConnectionLike.step.Goals as goal

pub returns-in-Late-clause-next : goal.returns-in-Late-clause-next
returns-in-Late-clause-next c =
    subst (λ (n : ConnectionNews). OnOk c.step_late.result (c.step_late.new.self ≡ behind c.args.self.now (happened n))) (sym c.in-Late.is) c.step_late.ensures.conn

pub returns-in-Late-clause-acts : goal.returns-in-Late-clause-acts
returns-in-Late-clause-acts c =
    subst (λ (n : ConnectionNews). OnOk c.step_late.result (c.step_late.new.out.items ≡ c.args.out.now.items ++ shown_by c.args.self.now (happened n))) (sym c.in-Late.is) c.step_late.ensures.acts

pub returns-in-Late-clause-spent : goal.returns-in-Late-clause-spent
returns-in-Late-clause-spent c =
    λ h. subst (λ (n : ConnectionNews). (c.args.self.now.core.failure ≡ Some failure.Spent) ⊎ Spends c.args.self.now (happened n)) (sym c.in-Late.is) (between (c.step_late.ensures.spent h))

pub returns-clause-next : goal.returns-clause-next
returns-clause-next c =
    told_on (λ d hears. OnOk c.step.result (c.step.new.self ≡ stepped d hears)) c.args.self.now c.args.self.now (happened c.args.event.news) (told c.seen_on-news.result)
    (timely c.args.self.now c.args.event.news c.in_default.not-Late) c.seen_on-news.ensures c.step.ensures.conn

pub returns-clause-acts : goal.returns-clause-acts
returns-clause-acts c =
    told_on (λ d hears. OnOk c.step.result (c.step.new.out.items ≡ c.args.out.now.items ++ acts_of d hears)) c.args.self.now c.args.self.now (happened c.args.event.news) (told c.seen_on-news.result)
    (timely c.args.self.now c.args.event.news c.in_default.not-Late) c.seen_on-news.ensures c.step.ensures.acts

pub returns-clause-spent : goal.returns-clause-spent
returns-clause-spent c =
    λ h. inr (told_on (λ d hears. (d.core.failure ≡ Some failure.Spent) ⊎ (uses_up (turn_of d hears) ≡ true)) c.args.self.now c.args.self.now (happened c.args.event.news) (told c.seen_on-news.result)
    (timely c.args.self.now c.args.event.news c.in_default.not-Late) c.seen_on-news.ensures (c.step.ensures.spent h))

pub returns-in-Late-clause-kept : goal.returns-in-Late-clause-kept
returns-in-Late-clause-kept c = outcomes_kept c.step_late.result c.args.self.now c.step_late.new.self c.step_late.ensures.kept

pub returns-clause-kept : goal.returns-clause-kept
returns-clause-kept c = outcomes_kept c.step.result c.args.self.now c.step.new.self c.step.ensures.kept
