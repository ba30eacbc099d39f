use Rattle.text_laws.proofs.OneTrace.{same_trace, same_good_trace, same_script_trace, same_script}
use Rattle.text_laws.proofs.one_text_has_one_trace.Goals as goal

pub returns-clause-one_trace : goal.returns-clause-one_trace
returns-clause-one_trace c = same_good_trace

pub returns-clause-also_of_bad : goal.returns-clause-also_of_bad
returns-clause-also_of_bad c = same_trace

pub returns-clause-of_scripts : goal.returns-clause-of_scripts
returns-clause-of_scripts c = same_script_trace

pub returns-clause-one_script : goal.returns-clause-one_script
returns-clause-one_script c = same_script
