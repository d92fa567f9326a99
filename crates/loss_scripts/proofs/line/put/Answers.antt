use Rattle.std.proofs.Common.{refl, sym, subst}
use Rattle.std.proofs.lemmas.List.{take_rest}
use Rattle.octal.specs.Octal.{IsOct6}
use Rattle.loss_scripts.proofs.Forms.{put_parts, parts_put}
use Rattle.loss_scripts.proofs.line.put.Goals as goal

pub returns-in_err-address-clause-none : goal.returns-in_err-address-clause-none
returns-in_err-address-clause-none c =
    rw c.from_residual-in_err-address.ensures (λ address value put.
    let parts = put_parts c.args.text.now c.in_ok-rest.rest.now address value c.in_ok-rest.ensures.found put in
    let contrary = (c.in_err-address.ensures address).1 parts.address_is in cc)

pub returns-in_err-value-clause-none : goal.returns-in_err-value-clause-none
returns-in_err-value-clause-none c =
    rw c.from_residual-in_err-value.ensures (λ address value put.
    let parts = put_parts c.args.text.now c.in_ok-rest.rest.now address value c.in_ok-rest.ensures.found put in
    let contrary = (c.in_err-value.ensures value).1 (subst (IsOct6 value) (sym (take_rest c.in_ok-rest.rest.now 7)) parts.value_is) in cc)

pub returns-clause-found : goal.returns-clause-found
returns-clause-found c =
    parts_put c.args.text.now c.in_ok-rest.rest.now _ _ c.in_ok-rest.ensures.found (record {
      length = c.if-rest.false;
      space = c.if-rest-ne32.false;
      address_is = (c.in_ok-address.ensures c.in_ok-address.address).0 refl;
      value_is = subst (IsOct6 c.in_ok-value.value) (take_rest c.in_ok-rest.rest.now 7) ((c.in_ok-value.ensures c.in_ok-value.value).0 refl);
    })
