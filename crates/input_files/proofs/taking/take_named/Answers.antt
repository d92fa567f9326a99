use Rattle.std.proofs.Common.{◌≡◌, List, [], ◌∷◌, length, suc, refl, ap, sym, ◌∙◌}
use Rattle.std.proofs.lemmas.List.{length-map}
use Rattle.tape_blocks.specs.declared.layout.Layout.{Layout}
use Rattle.input_files.specs.Tapes.{AreLaidOut, TapeText}
use Rattle.input_files.proofs.taking.take_named.Goals as goal

one_each : (texts : List TapeText) (layouts : List Layout) → AreLaidOut texts layouts → length layouts ≡ length texts
one_each [] [] laid = refl
one_each [] (l ∷ ls) laid = absurd laid
one_each (t ∷ ts) [] laid = absurd laid
one_each (t ∷ ts) (l ∷ ls) laid = ap suc (one_each ts ls laid.1)

pub returns-in-Ok-clause-each : goal.returns-in-Ok-clause-each
returns-in-Ok-clause-each g c =
    let are = c.in-Ok.ensures.ok in
    one_each are.texts c.in-Ok.taken.layouts.items are.laid ∙ sym (ap length are.tapes_are ∙ length-map are.texts (λ (t : TapeText). t.tape))
