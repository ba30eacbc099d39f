use Rattle.cluster_examples.proofs.Redirected.{ask_leads, moved_leads, read_only_leads_nowhere, spent_leads_nowhere}
use Rattle.cluster_examples.proofs.retries.redirects_lead_these_requests.Goals as goal

pub returns : goal.returns
returns c = record { ask = ask_leads; moved = moved_leads; spent = spent_leads_nowhere; unled = read_only_leads_nowhere }
