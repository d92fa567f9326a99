use Rattle.std.proofs.Common.{ℕ, List, [], map, ap, sym, refl, ◌∙◌, subst, Bor}
use Rattle.std.specs.List.{AllZip}
use Rattle.tape_making.specs.Words.{IsNumber}
use Rattle.tape_making.proofs.Numbers.{numbers_more, no_numbers, numbers_all}
use Rattle.tape_making.proofs.number.numbers_in.Goals as goal

pub loop-field-init : goal.loop-field-init
loop-field-init c = subst (AllZip IsNumber []) (sym c.new-numbers.ensures.items) tt

pub returns-in_default : goal.returns-in_default
returns-in_default c = (
  refl,
  no_numbers c.args.text.now c.deref-field-items.result.now c.loop-field.field-index _
      (ap (map (λ (f : Bor (List ℕ)). f.now)) c.deref-field-items.ensures.value ∙ c.in_ok-fields.ensures) c.loop-field-test.true (λ n. c.in_default.ensures.none n),
)

pub loop-field-preserved : goal.loop-field-preserved
loop-field-preserved c =
    numbers_more c.args.text.now c.deref-field-items.result.now c.loop-field.field-index _ c.loop-field.numbers.items c.push.new.self.items c.in-Some.number
    (ap (map (λ (f : Bor (List ℕ)). f.now)) c.deref-field-items.ensures.value ∙ c.in_ok-fields.ensures) c.loop-field-test.true c.loop-field.invariant c.in-Some.ensures.found c.in_ok-push.ensures.items

pub returns : goal.returns
returns c =
    numbers_all c.args.text.now c.deref-field-items.result.now c.loop-field.field-index c.loop-field.numbers.items
    (ap (map (λ (f : Bor (List ℕ)). f.now)) c.deref-field-items.ensures.value ∙ c.in_ok-fields.ensures) c.loop-field-test.false c.loop-field.invariant
