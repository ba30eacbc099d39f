-- Credentials of a link that come of sources: what they say of it.
use Rattle.std.proofs.Common.{◌≡◌, true, false, ◌&&◌, ◌||◌, not, sym, ap, ◌∙◌}
use Rattle.containers.proofs.Choices.{by_test, both_left, both_right, not_both}
use Rattle.legal_trace.specs.Ledger.{Ledger, awaits_credentials, lacks_credentials, is_set_up, source_due}
use Rattle.legal_trace.proofs.Setups.{set_is_given}

-- a link that waits for credentials is up
pub awaits_up : (l : Ledger) → awaits_credentials l ≡ true → l.up ≡ true
awaits_up l h = both_left l.up l.creds.asked (both_left (l.up && l.creds.asked) (lacks_credentials l) h)

-- it lacks them
pub awaits_lacks : (l : Ledger) → awaits_credentials l ≡ true → lacks_credentials l ≡ true
awaits_lacks l h = both_right (l.up && l.creds.asked) (lacks_credentials l) h

-- and isn't set up
pub awaits_unset : (l : Ledger) → awaits_credentials l ≡ true → is_set_up l ≡ true → ⊥
awaits_unset l h set = not_both (lacks_credentials l) (set_is_given l set) (awaits_lacks l h)

-- a link for which a source is to be asked for is up
pub source_is_up : (l : Ledger) → source_due l ≡ true → l.up ≡ true
source_is_up l h = both_left l.up l.creds.wanted (both_left (l.up && l.creds.wanted) (not l.creds.asked || (is_set_up l && not l.creds.renews)) h)

-- one that has its first
due_again : (l : Ledger) → source_due l ≡ true → l.creds.asked ≡ true → (is_set_up l && not l.creds.renews) ≡ true
due_again l h asked = sym (ap (λ first. not first || (is_set_up l && not l.creds.renews)) asked) ∙ both_right (l.up && l.creds.wanted) (not l.creds.asked || (is_set_up l && not l.creds.renews)) h

-- is set up
pub second_is_set : (l : Ledger) → source_due l ≡ true → l.creds.asked ≡ true → is_set_up l ≡ true
second_is_set l h asked = both_left (is_set_up l) (not l.creds.renews) (due_again l h asked)

-- and has no second one
pub second_is_new : (l : Ledger) → source_due l ≡ true → l.creds.asked ≡ true → l.creds.renews ≡ false
second_is_new l h asked = by_test l.creds.renews (l.creds.renews ≡ false)
    (λ t. absurd (let x : false ≡ true = sym (ap not t) ∙ both_right (is_set_up l) (not l.creds.renews) (due_again l h asked) in cc x)) (λ f. f)
