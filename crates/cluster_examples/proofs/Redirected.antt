-- Ends of a round that lead to `foo:1234`, for the slot 123.
use Rattle.std.proofs.Common.{◌≡◌, ℕ, Bool, true, false, List, Some, refl, lit<}
use Rattle.std.specs.Prelude.{codes}
use Rattle.std.specs.Str.Parse.{IsNumeral}
use Rattle.resp_value.specs.ErrorTable.{method_of}
use Rattle.resp_value.specs.Redirect.{IsPlace, IsRedirect, is_for_one_command}
use Rattle.cluster_retries.specs.Table.{IsLed, IsNotLed, following}
use Rattle.cluster_examples.specs.Retries.{a_node, ask_value, moved_value, read_only_value, server}

numeral : IsNumeral 10 (codes "123")
numeral = (lit< tt, (lit< tt, (lit< tt, (lit< tt, tt))))

place : IsPlace (codes "123 foo:1234") 123 (codes "foo:1234")
place = (codes "123", refl, numeral, refl, lit< tt)

leads : (code : List ℕ) (ask : Bool) → is_for_one_command code ≡ Some ask → IsRedirect (server code (codes "123 foo:1234")) 123 (codes "foo:1234") ask
leads code ask is = (is, (codes "123 foo:1234", refl, place))

ask_code : is_for_one_command (codes "ASK") ≡ Some true
unfolding is_for_one_command
ask_code = refl

moved_code : is_for_one_command (codes "MOVED") ≡ Some false
unfolding is_for_one_command
moved_code = refl

pub ask_leads : IsLed a_node ask_value true 123 (codes "foo:1234") true
unfolding following method_of
ask_leads = leads (codes "ASK") true ask_code

pub moved_leads : IsLed a_node moved_value true 123 (codes "foo:1234") false
unfolding following method_of
moved_leads = leads (codes "MOVED") false moved_code

pub spent_leads_nowhere : IsNotLed a_node ask_value false
unfolding following method_of
spent_leads_nowhere slot address ask h = h

pub read_only_leads_nowhere : IsNotLed a_node read_only_value true
unfolding following method_of
read_only_leads_nowhere slot address ask h = h
