-- What the driver says itself leaves those that wait, and whether what is subscribed again is answered.
use Rattle.std.proofs.Common.{List, None, Option, Some, [], ap, refl, sym, ℕ, ◌∙◌, ◌∷◌, ◌≡◌}
use Rattle.std.specs.Prelude.{◌&&◌}
use Rattle.containers.proofs.Choices.{chosen}
use Rattle.credentials.specs.Credentials.{Credentials}
use Rattle.link_core.specs.Link.{holds_back, started_to}
use Rattle.mux_conn.specs.Connection.{Work, is_due, is_outstanding, is_ready, last_queued, with_link}
use Rattle.conn_laws.proofs.Requests.Starts.{shown_is}
use Rattle.mux_conn.specs.Passes.{said}
use Rattle.mux_conn.specs.Renewals.{asked_next, renewal_asked, renewal_moved, renewal_timed, renewal_told, renewed, renewing, started_ahead, started_ahead_at}
use Rattle.mux_conn.specs.Repeats.{is_to_start, is_untimed, repeat_asked, repeat_moved, repeat_timed, repeat_told, repeated, repeating, with_timer}
use Rattle.mux_conn.specs.declared.again.Again.{Again}
use Rattle.mux_conn.specs.declared.again.Again.TheVariants as again
use Rattle.mux_conn.specs.declared.life.Life.{Life}
use Rattle.mux_conn.specs.declared.life.Life.TheVariants.{Resting, Dialing, Wanting, SettingUp, Ready, Ended}

-- those that wait for a place stay, and so does whether what is subscribed again is answered
pub record SaysAlone (w v : Work) : Type 0 where
  pub admitted : v.conn.admitted ≡ w.conn.admitted
  pub goes : is_outstanding v.conn.again ≡ is_outstanding w.conn.again

-- nothing is said
says_none : (w : Work) → SaysAlone w w
says_none w = record { admitted = refl; goes = refl }

-- one after another
pub says_on : (u v w : Work) → SaysAlone u v → SaysAlone v w → SaysAlone u w
says_on u v w h k = record { admitted = k.admitted ∙ h.admitted; goes = k.goes ∙ h.goes }

-- a stage of what is subscribed again is as open as before its timer was asked for
timer_goes : (a : Again) → is_outstanding (with_timer a) ≡ is_outstanding a
timer_goes again.Nothing = refl
timer_goes (again.Due packed of_shape timed) = refl
timer_goes again.Sent = refl

-- its timer
asked_alone : (w : Work) → SaysAlone w (repeat_asked w)
asked_alone w =
    let v = repeating w (with_timer w.conn.again) in
    chosen (SaysAlone w) (is_untimed w.conn.again) (repeat_timed v w.conn.renewal.within) v (λ t. by_within w.conn.renewal.within) (λ f. record { admitted = refl; goes = timer_goes w.conn.again })
  where
    by_within : (within : Option ℕ) → SaysAlone w (repeat_timed (repeating w (with_timer w.conn.again)) within)
    by_within None = record { admitted = refl; goes = timer_goes w.conn.again }
    by_within (Some ms) = record { admitted = refl; goes = timer_goes w.conn.again }

-- its message
told_alone : (v : Work) (life : Life) (a : Again) → is_outstanding v.conn.again ≡ is_outstanding a → SaysAlone v (repeat_moved v life a)
told_alone v (Ready link) (again.Due packed of_shape timed) same = chosen (SaysAlone v) (holds_back link) v (repeat_told v link packed of_shape) (λ held. says_none v) (λ free. record { admitted = refl; goes = sym same })
told_alone v (Ready link) again.Nothing same = says_none v
told_alone v (Ready link) again.Sent same = says_none v
told_alone v Resting a same = says_none v
told_alone v Dialing a same = says_none v
told_alone v (Wanting link) a same = says_none v
told_alone v (SettingUp link greeting) a same = says_none v
told_alone v (Ended e) a same = says_none v

-- so it is subscribed again
pub repeated_alone : (w : Work) → SaysAlone w (repeated w)
repeated_alone w =
    let v = repeat_asked w in
    let asked = asked_alone w in
    chosen (SaysAlone w) (is_ready w.conn.life && is_to_start w.conn.again) (repeat_moved v w.conn.life w.conn.again) w
    (λ t. says_on w v (repeat_moved v w.conn.life w.conn.again) asked (told_alone v w.conn.life w.conn.again asked.goes))
    (λ n. says_none w)

-- and new credentials are told
credentials_asked : (w : Work) → SaysAlone w (renewal_asked w)
credentials_asked w =
    let r = w.conn.renewal in
    chosen (SaysAlone w) r.pending w (renewal_timed (renewing w (asked_next r (last_queued w.conn.life))) r.asked r.within) (λ p. says_none w) (λ n. by_within r.within)
  where
    by_within : (within : Option ℕ) → SaysAlone w (renewal_timed (renewing w (asked_next w.conn.renewal (last_queued w.conn.life))) w.conn.renewal.asked within)
    by_within None = record { admitted = refl; goes = refl }
    by_within (Some ms) = record { admitted = refl; goes = refl }

credentials_told : (v : Work) (life : Life) (cs : List Credentials) → SaysAlone v (renewal_moved v life cs)
credentials_told v (Ready link) (c ∷ cs) = chosen (SaysAlone v) (holds_back link) v (renewal_told v link c cs) (λ held. says_none v) (λ free. record { admitted = refl; goes = refl })
credentials_told v (Ready link) [] = says_none v
credentials_told v Resting cs = says_none v
credentials_told v Dialing cs = says_none v
credentials_told v (Wanting link) cs = says_none v
credentials_told v (SettingUp link greeting) cs = says_none v
credentials_told v (Ended e) cs = says_none v

-- behind those that are ahead of them
ahead_alone : (v : Work) (life : Life) → SaysAlone v (started_ahead_at v life)
ahead_alone v (Ready link) =
    let s = started_to v.conn.renewal.last (record { link = link; out = [] }) in
    let same = shown_is (with_link v s.link) s.out in
    record { admitted = ap (λ (x : Work). x.conn.admitted) same; goes = ap (λ (x : Work). is_outstanding x.conn.again) same }
ahead_alone v Resting = says_none v
ahead_alone v Dialing = says_none v
ahead_alone v (Wanting link) = says_none v
ahead_alone v (SettingUp link greeting) = says_none v
ahead_alone v (Ended e) = says_none v

pub renewed_alone : (w : Work) → SaysAlone w (renewed w)
renewed_alone w =
    let v = renewal_asked w in
    let u = started_ahead v in
    let told = renewal_moved u u.conn.life u.conn.renewal.waiting in
    chosen (SaysAlone w) (is_ready w.conn.life && is_due w.conn.renewal) told w
    (λ t. says_on w v told (credentials_asked w) (says_on v u told (ahead_alone v v.conn.life) (credentials_told u u.conn.life u.conn.renewal.waiting)))
    (λ n. says_none w)

-- all of it
pub said_alone : (w : Work) → SaysAlone w (said w)
said_alone w = says_on w (repeated w) (said w) (repeated_alone w) (renewed_alone (repeated w))
