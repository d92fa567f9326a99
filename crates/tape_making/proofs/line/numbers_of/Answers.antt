use Rattle.std.proofs.Common.{◌≡◌, ◌-◌, ◌+◌, ◌++◌, ℕ, List, length, take, drop, arith, ap, sym, refl, ◌∙◌, Some, None}
use Rattle.std.specs.List.{position}
use Rattle.tape_making.specs.Words.{AreNumbers, HasNumbers, is_slash}
use Rattle.tape_making.specs.Reading.{IsNone}
use Rattle.tape_making.proofs.Numbers.{match_as, none_from, error_is}
use Rattle.tape_making.proofs.Lines.{no_slash, no_slash_back, with_slash, address_back, words_back, one_address}
use Rattle.tape_making.proofs.line.numbers_of.Goals as goal

pub returns-in_default : goal.returns-in_default
returns-in_default c =
    let text = c.args.text.now in
    let nowhere : position is_slash text ≡ None = sym c.slash_place.ensures ∙ c.in_default.is in
    match_as c.numbers_in.result (λ numbers. AreNumbers text numbers.items) (λ numbers. HasNumbers text numbers.items) (IsNone (AreNumbers text)) (IsNone (HasNumbers text))
    (λ numbers are. no_slash text numbers.items nowhere are) (none_from (AreNumbers text) (HasNumbers text) (λ ns has. no_slash_back text ns nowhere has)) c.numbers_in.ensures

pub returns-in_err-numbers : goal.returns-in_err-numbers
returns-in_err-numbers c =
    let text = c.args.text.now in
    let place : position is_slash text ≡ Some c.in-Some.slash = sym c.slash_place.ensures ∙ c.in-Some.is in
    error_is c.from_residual.result c.in_err-numbers.field-0.0 (λ numbers. HasNumbers text numbers.items) (IsNone (HasNumbers text)) c.from_residual.ensures.1
    (none_from (AreNumbers (take c.in-Some.slash text)) (HasNumbers text) (λ ns has. address_back text c.in-Some.slash ns place has) _ c.in_err-numbers.ensures)

pub returns-then-len-ne1 : goal.returns-then-len-ne1
returns-then-len-ne1 c =
    let text = c.args.text.now in
    let place : position is_slash text ≡ Some c.in-Some.slash = sym c.slash_place.ensures ∙ c.in-Some.is in (
      refl,
      λ all has.
          let one : length c.in_ok-numbers.numbers.items ≡ 1 = one_address text c.in-Some.slash c.in_ok-numbers.numbers.items all place c.in_ok-numbers.ensures has in
          absurd (omega arith),
    )

pub returns-in_err-words : goal.returns-in_err-words
returns-in_err-words c =
    let text = c.args.text.now in
    let place : position is_slash text ≡ Some c.in-Some.slash = sym c.slash_place.ensures ∙ c.in-Some.is in
    error_is c.from_residual-in_err-words.result c.in_err-words.field-0.0 (λ numbers. HasNumbers text numbers.items) (IsNone (HasNumbers text)) c.from_residual-in_err-words.ensures.1
    (none_from (AreNumbers (take (length text - (c.in-Some.slash + 1)) (drop (c.in-Some.slash + 1) text))) (HasNumbers text) (λ ns has. words_back text c.in-Some.slash ns place has) _ c.in_err-words.ensures)

pub returns : goal.returns
returns c =
    let text = c.args.text.now in
    let place : position is_slash text ≡ Some c.in-Some.slash = sym c.slash_place.ensures ∙ c.in-Some.is in
    let one : length c.in_ok-numbers.numbers.items ≡ 1 = omega arith in
    with_slash text c.in-Some.slash c.in_ok-numbers.numbers.items c.in_ok-words.words.items c.extend_from_slice.new.self.items place c.in_ok-numbers.ensures one c.in_ok-words.ensures
    (c.in_ok-extend_from_slice.ensures.items ∙ ap (λ (ws : List ℕ). c.in_ok-numbers.numbers.items ++ ws) c.deref.ensures.value)
