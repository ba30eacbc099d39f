-- Whether a link takes requests: it is set up, and what is subscribed again on it is answered, if anything is.
use Rattle.std.proofs.Common.{◌≡◌, true, false, ◌&&◌, not, refl, ap, ◌∙◌}
use Rattle.std.proofs.Math.Bool.{and-false}
use Rattle.std.proofs.lemmas.Bool.{not-true}
use Rattle.containers.proofs.Choices.{both_left, both_right, by_test, not_both}
use Rattle.mux_conn.specs.declared.again.Again.{Again}
use Rattle.mux_conn.specs.declared.again.Again.TheVariants as again
use Rattle.mux_conn.specs.declared.life.Life.{Life}
use Rattle.mux_conn.specs.declared.life.Life.TheVariants.{Resting, Dialing, Wanting, SettingUp, Ready, Ended}
use Rattle.mux_conn.specs.Connection.{is_outstanding, is_ready, is_resting}
use Rattle.mux_conn.specs.Repeats.{is_to_start}
use Rattle.conn_laws.proofs.Internal.Repeats.{serves}

-- one that isn't set up doesn't
pub unready_serves : (life : Life) (a : Again) → is_ready life ≡ false → serves life a ≡ false
unready_serves life a down = ap (λ up. up && not (is_outstanding a)) down

-- nor does one on which that isn't answered
pub outstanding_serves : (life : Life) (a : Again) → is_outstanding a ≡ true → serves life a ≡ false
outstanding_serves life a goes = ap (λ open_is. is_ready life && not open_is) goes ∙ and-false (is_ready life)

-- any other does
pub answered_serves : (life : Life) (a : Again) → is_ready life ≡ true → is_outstanding a ≡ false → serves life a ≡ true
answered_serves life a up none = λ i. up i && not (none i)

-- so what isn't answered is on a link that is set up and doesn't
pub unserved_goes : (life : Life) (a : Again) → is_ready life ≡ true → serves life a ≡ false → is_outstanding a ≡ true
unserved_goes life a up down = by_test (is_outstanding a) (is_outstanding a ≡ true) (λ t. t) (λ f. absurd (not_both (serves life a) down (answered_serves life a up f)))

-- where answers leave none that isn't answered, a link that took requests takes them
pub unserved_before : (now was : Life) (a b : Again) → is_ready now ≡ true → is_ready was ≡ true → (is_outstanding a ≡ false → is_outstanding b ≡ false) → serves now b ≡ false → serves was a ≡ false
unserved_before now was a b up ready answered down = by_test (is_outstanding a) (serves was a ≡ false) (λ t. outstanding_serves was a t) (λ f. absurd (not_both (serves now b) down (answered_serves now b up (answered f))))

-- one that does is set up
pub serves_ready : (life : Life) (a : Again) → serves life a ≡ true → is_ready life ≡ true
serves_ready life a e = both_left (is_ready life) (not (is_outstanding a)) e

-- and nothing is to be answered on it
pub serves_answered : (life : Life) (a : Again) → serves life a ≡ true → is_outstanding a ≡ false
serves_answered life a e = not-true (is_outstanding a) (both_right (is_ready life) (not (is_outstanding a)) e)

-- nor to start
pub answered_started : (a : Again) → is_outstanding a ≡ false → is_to_start a ≡ false
answered_started again.Nothing none = refl
answered_started (again.Due packed of_shape timed) none = cc
answered_started again.Sent none = refl

-- what is to start isn't answered
pub to_start_goes : (a : Again) → is_to_start a ≡ true → is_outstanding a ≡ true
to_start_goes again.Nothing e = cc
to_start_goes (again.Due packed of_shape timed) e = refl
to_start_goes again.Sent e = cc

-- where there is no link, none is set up
pub resting_unready : (life : Life) → is_resting life ≡ true → is_ready life ≡ false
resting_unready Resting e = refl
resting_unready Dialing e = cc
resting_unready (Wanting link) e = cc
resting_unready (SettingUp link greeting) e = cc
resting_unready (Ready link) e = cc
resting_unready (Ended x) e = cc
