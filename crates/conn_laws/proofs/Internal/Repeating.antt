-- What is subscribed again on a link that is set up, behind a pass.
use Rattle.std.proofs.Common.{false, true, ◌≡◌}
use Rattle.link_core.specs.Link.{LinkState, holds_back}
use Rattle.mux_conn.specs.declared.life.Life.{Life}
use Rattle.mux_conn.specs.declared.life.Life.TheVariants.{Ready}
use Rattle.mux_conn.specs.declared.again.Again.{Again}
use Rattle.mux_conn.specs.Repeats.{is_to_start, is_untimed}

-- behind a pass, what is to start on a link that is set up has its timer, and waits for its link, which is held back
abbrev pub HasRepeated : Again → Life → Type 0
HasRepeated a life = (link : LinkState) → life ≡ Ready link → is_to_start a ≡ true → (is_untimed a ≡ false) × (holds_back link ≡ true)
