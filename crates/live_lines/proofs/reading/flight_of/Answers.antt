use Rattle.std.proofs.Common.{◌≡◌, inl, inr, Ok, ◌∙◌, subst, sym}
use Rattle.driver_model.specs.declared.kind.SessionKind.{SessionKind}
use Rattle.script_text.specs.Lines.{lines_of}
use Rattle.live_lines.proofs.reading.flight_of.Goals as goal

pub returns-in-Ok-fly-clause-flight : goal.returns-in-Ok-fly-clause-flight
returns-in-Ok-fly-clause-flight g c = λ bytes told. record {
  asked = record { plan = c.in-Ok-Some.plan; plans = sym c.in-Ok-Some.ensures ∙ c.in-Ok-Some.field-0-is; lines = c.in-Ok.lines.items; reads = subst (λ (kind : SessionKind). lines_of kind bytes ≡ Ok c.in-Ok.lines.items) c.kind.ensures (c.in-Ok.ensures.lines.read bytes told) };
  ended = c.in-Ok.ensures.lines.ended bytes told;
  flight = c.in-Ok-fly.ensures.flight;
}

pub returns-in-Err-Config-clause-refused : goal.returns-in-Err-Config-clause-refused
returns-in-Err-Config-clause-refused g c =
    let plans = sym c.in-Ok-Some.ensures ∙ c.in-Ok-Some.field-0-is in
    let why = rw c.in-Err-Config.field-0-is at c.in-Err-Config.ensures.err in (
      record { plan = c.in-Ok-Some.plan; plans = plans },
      (λ bytes told. record {
        asked = record { plan = c.in-Ok-Some.plan; plans = plans; lines = c.in-Ok.lines.items; reads = subst (λ (kind : SessionKind). lines_of kind bytes ≡ Ok c.in-Ok.lines.items) c.kind.ensures (c.in-Ok.ensures.lines.read bytes told) };
        refused = why.0;
      }),
      why.1,
    )

pub returns-in-Err-NoMemory-clause-refused : goal.returns-in-Err-NoMemory-clause-refused
returns-in-Err-NoMemory-clause-refused g c =
    let plans = sym c.in-Ok-Some.ensures ∙ c.in-Ok-Some.field-0-is in
    elim (rw c.in-Err-NoMemory.field-0-is at c.in-Err-NoMemory.ensures.err) [
      | inl same ↦ inl same
      | inr stopped ↦ inr (λ bytes told. record {
        asked = record { plan = c.in-Ok-Some.plan; plans = plans; lines = c.in-Ok.lines.items; reads = subst (λ (kind : SessionKind). lines_of kind bytes ≡ Ok c.in-Ok.lines.items) c.kind.ensures (c.in-Ok.ensures.lines.read bytes told) };
        stopped = stopped;
      })
    ]
