use Rattle.std.proofs.Common.{refl, sym, ◌∙◌}
use Rattle.loss_scripts.specs.declared.line.Setting.TheVariants as setting
use Rattle.loss_scripts.proofs.Drafts.{joined, is_new, taken, named_first}
use Rattle.loss_scripts.proofs.script.Draft.set.Goals as goal

pub returns-in-Words : goal.returns-in-Words
returns-in-Words c before holds is =
    let next = record c.args.self.now { words = c.replace.new.self } in
    rw c.in-Words.is (taken before (setting.Words c.in-Words.n) c.args.self.now next _ holds c.requires (is_new _ _ _ c.is_none.ensures (c.replace.ensures.value ∙ holds.words))
    (λ new. joined before _ c.args.number c.args.self.now next is holds (c.replace.ensures.after ∙ named_first _ _ _ holds.words new) refl refl refl refl refl))

pub returns-in-OfStyle : goal.returns-in-OfStyle
returns-in-OfStyle c before holds is =
    let next = record c.args.self.now { style = c.replace-in-OfStyle.new.self } in
    rw c.in-OfStyle.is (taken before (setting.OfStyle c.in-OfStyle.style) c.args.self.now next _ holds c.requires (is_new _ _ _ c.is_none-in-OfStyle.ensures (c.replace-in-OfStyle.ensures.value ∙ holds.style))
    (λ new. joined before _ c.args.number c.args.self.now next is holds refl (c.replace-in-OfStyle.ensures.after ∙ named_first _ _ _ holds.style new) refl refl refl refl))

pub returns-in-Patience : goal.returns-in-Patience
returns-in-Patience c before holds is =
    let next = record c.args.self.now { patience = c.replace-in-Patience.new.self } in
    rw c.in-Patience.is (taken before (setting.Patience c.in-Patience.n) c.args.self.now next _ holds c.requires (is_new _ _ _ c.is_none-in-Patience.ensures (c.replace-in-Patience.ensures.value ∙ holds.patience))
    (λ new. joined before _ c.args.number c.args.self.now next is holds refl refl (c.replace-in-Patience.ensures.after ∙ named_first _ _ _ holds.patience new) refl refl refl))

pub returns-in-Wait : goal.returns-in-Wait
returns-in-Wait c before holds is =
    let next = record c.args.self.now { waiting = c.replace-in-Wait.new.self } in
    rw c.in-Wait.is (taken before (setting.Wait c.in-Wait.characters) c.args.self.now next _ holds c.requires (is_new _ _ _ c.is_none-in-Wait.ensures (c.replace-in-Wait.ensures.value ∙ holds.waiting))
    (λ new. joined before _ c.args.number c.args.self.now next is holds refl refl refl (c.replace-in-Wait.ensures.after ∙ named_first _ _ _ holds.waiting new) refl refl))

pub returns-in_ok-push-in-Put : goal.returns-in_ok-push-in-Put
returns-in_ok-push-in-Put c before holds is =
    let next = record c.args.self.now { puts = c.push.new.self } in
    rw c.in-Put.is ((sym holds.steps ∙ c.requires, tt), joined before _ c.args.number c.args.self.now next is holds refl refl refl refl c.in_ok-push-in-Put.ensures.items refl)
