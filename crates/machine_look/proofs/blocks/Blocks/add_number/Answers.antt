use Rattle.std.proofs.Common.{◌≡◌, ◌∙◌, ℕ, List, ◌∷◌, ◌++◌, [], inl, inr, refl, arith, ap, sym, subst}
use Rattle.std.proofs.lemmas.Bool.{eqb-true}
use Rattle.arrayvec.specs.ArrayVec.{array_vec_len}
use Rattle.tape_values.specs.Block.{data_block}
use Rattle.tape_shelf.specs.SavedTape.{saved_block}
use Rattle.tape_shelf.specs.Shelf.{Add, NotAdded}
use Rattle.tape_shelf.specs.ShelfTold.{IsDone}
use Rattle.machine_look.proofs.blocks.Blocks.add_number.Goals as goal

pub returns-in-Ok-clause-added : goal.returns-in-Ok-clause-added
returns-in-Ok-clause-added g c =
    let old = c.args.self.now in
    let whole : array_vec_len c.push.new.self ≡ 256 = eqb-true (array_vec_len c.push.new.self) 256 (sym c.if-not-is_full.ensures.value) in
    let text : c.deref-2.result.now ≡ data_block (saved_block old.from (old.numbers.items ++ c.args.number ∷ []) 0) =
    c.deref-2.ensures.0 ∙ (c.block_text-text.ensures ∙ ap (λ (list : List ℕ). data_block (saved_block old.from list 0)) (c.deref.ensures.0 ∙ c.push.ensures.items)) in
    inr (record {
      whole = omega (arith, whole, c.push.ensures.len);
      from = refl;
      numbers = c.clear.ensures;
      shelf = record { name = refl; opened = c.in-Ok.ensures.opened };
      added = λ folder. subst (λ t. IsDone folder (Add t) (g.S.Shelf.told old.shelf.now) (g.S.Shelf.told c.add.new.self)) text (c.in-Ok.ensures.done folder);
    })

pub returns-in-Err-clause-not_added : goal.returns-in-Err-clause-not_added
returns-in-Err-clause-not_added g c =
    let old = c.args.self.now in
    let whole : array_vec_len c.push.new.self ≡ 256 = eqb-true (array_vec_len c.push.new.self) 256 (sym c.if-not-is_full.ensures.value) in
    let text : c.deref-2.result.now ≡ data_block (saved_block old.from (old.numbers.items ++ c.args.number ∷ []) 0) =
    c.deref-2.ensures.0 ∙ (c.block_text-text.ensures ∙ ap (λ (list : List ℕ). data_block (saved_block old.from list 0)) (c.deref.ensures.0 ∙ c.push.ensures.items)) in
    inl (record {
      whole = omega (arith, whole, c.push.ensures.len);
      shelf = record { name = refl; opened = c.in-Err.ensures.opened };
      not_added = λ folder. subst (λ t. IsDone folder (NotAdded t) (g.S.Shelf.told old.shelf.now) (g.S.Shelf.told c.add.new.self)) text (c.in-Err.ensures.done folder);
    })
