-- What is subscribed again on the next link of a session that comes back: the machine's message is the book's.
use Rattle.std.proofs.Common.{◌≡◌, ◌≢◌, ℕ, ◌+◌, ◌<◌, ◌==◌, Bool, true, false, ◌&&◌, not, if◌then◌else◌, List, [], ◌∷◌, length, Some, refl, sym, ap, subst, arith, codes}
use Rattle.containers.proofs.Choices.{chosen, ne_from}
use Rattle.connection_info.specs.declared.address.ConnectionInfo.{ConnectionInfo}
use Rattle.manager_config.specs.declared.config.ConnectionManagerConfig.{ConnectionManagerConfig}
use Rattle.resp_write.specs.Command.{CommandList}
use Rattle.resp_write.specs.Pack.{pack_pipeline}
use Rattle.sub_tracker.specs.Held.{Held, held_after}
use Rattle.sub_tracker.specs.Pipeline.{command_for, followed_by, resubscription}
use Rattle.sub_tracker.specs.Subscribed.{Request}
use Rattle.driver_model.specs.declared.outcome.Shape.{Shape}
use Rattle.driver_model.specs.declared.outcome.Shape.TheVariants.{Single, Pipeline}
use Rattle.driver_model.specs.Shape.{need_of, one_at_least, shape_inside}
use Rattle.mux_conn.specs.declared.again.Again.TheVariants as again
use Rattle.single_session.specs.declared.generations.Generations.{Generations}
use Rattle.single_session.specs.Generations.{repeat_for, generations_at}
use Rattle.single_session.specs.Subscriptions.{repeat_after, repeat_of}
use Rattle.legal_trace.specs.Again.{is_subscribed, repeats_in}
use Rattle.conn_laws.proofs.Internal.Subscribes.{RepeatsNext}

-- the message
--
-- it carries bytes where there is a command
no_bytes : (x : ℕ) (xs : List ℕ) → x ∷ xs ≡ [] → ⊥
no_bytes x xs e = cc

subscribes_some : (h : Held) → (length (resubscription h).commands == 0) ≡ false → pack_pipeline (resubscription h) ≢ []
unfolding resubscription
subscribes_some h some = by_names h.plain h.sharded h.pattern some
  where
    all : List (List ℕ) → List (List ℕ) → List (List ℕ) → CommandList
    all plain sharded pattern = followed_by (followed_by (followed_by (record { commands = []; ignored = []; atomic = false }) (command_for (codes "SUBSCRIBE") plain)) (command_for (codes "SSUBSCRIBE") sharded)) (command_for (codes "PSUBSCRIBE") pattern)

    by_names : (plain sharded pattern : List (List ℕ)) → (length (all plain sharded pattern).commands == 0) ≡ false → pack_pipeline (all plain sharded pattern) ≢ []
    by_names (x ∷ xs) sharded pattern some e = no_bytes _ _ e
    by_names [] (x ∷ xs) pattern some e = no_bytes _ _ e
    by_names [] [] (x ∷ xs) some e = no_bytes _ _ e
    by_names [] [] [] some e = cc

-- and takes items
one_needed : (n : ℕ) → 0 < 0 + one_at_least n
one_needed n = chosen (λ k. 0 < 0 + k) (n == 0) 1 n (λ t. omega arith) (λ f. let other = ne_from n 0 f in omega (arith, other))

inside_needs : (n : ℕ) → 0 < need_of (shape_inside n)
inside_needs n = chosen (λ (s : Shape). 0 < need_of s) (n == 1) Single (Pipeline 0 n false) (λ t. omega arith) (λ f. one_needed n)

-- on the next link
--
-- by what is held after them
held_next : (calls : List Request) → RepeatsNext (is_subscribed calls) calls (repeat_of (resubscription (held_after calls)))
held_next calls =
    let p = resubscription (held_after calls) in
    chosen (RepeatsNext (is_subscribed calls) calls) (length p.commands == 0) again.Nothing (again.Due (pack_pipeline p) (shape_inside (length p.commands)) false)
    (λ t. ap not t)
    (λ f. record { goes = ap not f; untimed = refl; message = refl; some = subscribes_some (held_after calls) f; needs = inside_needs (length p.commands) })

-- so it is of a session that knows what is held
pub repeats_next : (g : Generations) (calls : List Request) → g.subscribed.tracker.held ≡ held_after calls → RepeatsNext (repeats_in (Some g.settings) calls) calls (repeat_for g)
repeats_next g calls held = by_kind g.settings.automatic_resubscription
  where
    by_kind : (subscribes : Bool) → RepeatsNext (subscribes && is_subscribed calls) calls (if subscribes then repeat_after g.subscribed else again.Nothing)
    by_kind true = subst (λ (h : Held). RepeatsNext (is_subscribed calls) calls (repeat_of (resubscription h))) (sym held) (held_next calls)
    by_kind false = refl

-- before the first call nothing is
pub nothing_first : (settings : ConnectionManagerConfig) (info : ConnectionInfo) (number : ℕ) → repeat_for (generations_at settings info number) ≡ again.Nothing
unfolding resubscription held_after
nothing_first settings info number = by_kind settings.automatic_resubscription
  where
    by_kind : (subscribes : Bool) → (if subscribes then repeat_after (generations_at settings info number).subscribed else again.Nothing) ≡ again.Nothing
    by_kind true = refl
    by_kind false = refl
