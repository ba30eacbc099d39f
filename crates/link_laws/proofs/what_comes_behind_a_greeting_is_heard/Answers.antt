use Rattle.link_laws.proofs.Greetings.{setup_heard, monitor_heard}
use Rattle.link_laws.proofs.what_comes_behind_a_greeting_is_heard.Goals as goal

pub returns : goal.returns
returns c = record {
  setup = λ name h info size boundary id piece owns plain says. setup_heard name h info size boundary id piece owns plain says;
  monitor = λ name size boundary id piece owns. monitor_heard name size boundary id piece owns;
}
