-- A line that has not ended, looked at bit by bit.
use Rattle.std.proofs.Common.{◌≡◌, ℕ, List, ◌++◌, take, drop, sym, ap, ◌∙◌, subst}
use Rattle.std.proofs.lemmas.List.{take-append-drop}
use Rattle.resp_read.specs.Parser.{unended, line}
use Rattle.resp_read.specs.Digits.{digits_run}
use Rattle.resp_read.specs.Doubles.{run}
use Rattle.resp_read.specs.declared.digits.Digits.{Digits}
use Rattle.resp_read.specs.declared.digits.Digits.TheVariants.{Empty}
use Rattle.resp_read.specs.declared.decimals.Seen.{Seen}
use Rattle.resp_read.specs.declared.decimals.Seen.TheVariants.{Nothing}
use Rattle.resp_read.specs.Waiting.{IsFrontOf, IsLooked}
use Rattle.resp_read.specs.declared.waiting.Looked.{Looked}
use Rattle.resp_read.specs.declared.waiting.Front.TheVariants.{Numeral, Double}
use Rattle.resp_read.proofs.DigitLaws.{run-append}
use Rattle.resp_read.proofs.DoubleLaws.{double-append}
use Rattle.resp_read.proofs.FirstLine.{bytes_before, before-unended, going_on, line-append}

-- what goes on without CR has not ended
pub line_on : (p q : List ℕ) → line p ≡ unended p → line q ≡ unended q → line (p ++ q) ≡ unended (p ++ q)
line_on p q h k = line-append p q ∙ ap (λ x. going_on x q) h ∙ ap (bytes_before p) k ∙ before-unended p q

-- what was read of the bytes that were looked at, and of those behind them
module _ (looked : Looked) (text more : List ℕ) (known : IsLooked looked text) (behind : more ≡ drop looked.count text) where
  pub numeral_on : (d result : Digits) → looked.front ≡ Numeral d → result ≡ digits_run d more → result ≡ digits_run Empty text
  numeral_on d result is run =
      let front : IsFrontOf (Numeral d) (take looked.count text) = subst (λ f. IsFrontOf f (take looked.count text)) is known.front in
      run ∙ (λ i. digits_run (front.0 i) (behind i)) ∙ sym (run-append Empty (take looked.count text) (drop looked.count text)) ∙ ap (digits_run Empty) (take-append-drop looked.count text)

  pub double_on_text : (s result : Seen) → looked.front ≡ Double s → result ≡ run s more → result ≡ run Nothing text
  double_on_text s result is read =
      let front : IsFrontOf (Double s) (take looked.count text) = subst (λ f. IsFrontOf f (take looked.count text)) is known.front in
      read ∙ (λ i. run (front i) (behind i)) ∙ sym (double-append Nothing (take looked.count text) (drop looked.count text)) ∙ ap (run Nothing) (take-append-drop looked.count text)
