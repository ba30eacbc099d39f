use Rattle.legal_laws.proofs.Links.Given.{starts_none_lacking, starts_authorized}
use Rattle.legal_laws.proofs.no_setup_starts_before_its_credentials.Goals as goal

pub returns-clause-lacking : goal.returns-clause-lacking
returns-clause-lacking c = starts_none_lacking

pub returns-clause-authorized : goal.returns-clause-authorized
returns-clause-authorized c = starts_authorized
