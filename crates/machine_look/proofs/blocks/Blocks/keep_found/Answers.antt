use Rattle.std.proofs.Common.{◌+◌, ◌*◌, ◌≤◌, ◌∙◌, List, ℕ, length, refl, sym, subst, arith, drop, get_or, take}
use Rattle.std.proofs.lemmas.List.{take_all, take_more}
use Rattle.std.specs.Prelude.{None}
use Rattle.engine.proofs.Fronts.{split_at}
use Rattle.tape_values.specs.Block.{top}
use Rattle.tape_shelf.specs.ShelfAt.{shelf_at}
use Rattle.machine_look.specs.Adding.{AddsAll, HasAdded, blocks_at}
use Rattle.machine_look.proofs.Adding.{adds_one, none_added, one_not_added, same_name, still_same_name}
use Rattle.machine_look.proofs.blocks.Blocks.keep_found.Goals as goal

pub loop-number-init : goal.loop-number-init
loop-number-init g c = record { added = none_added c.args.self.now.from (shelf_at g.S.Shelf c.args.self.now.shelf.now) _ refl c.requires.empty (λ folder first begin done. (begin, done)); same = refl }

pub loop-number-preserved : goal.loop-number-preserved
loop-number-preserved g c =
    let found = c.args.found.now in
    let i = c.loop-number.number-index in
    let before = shelf_at g.S.Shelf c.args.self.now.shelf.now in
    let a = blocks_at c.loop-number.self.from c.loop-number.self.numbers.items (shelf_at g.S.Shelf c.loop-number.self.shelf.now) c.loop-number.self.shelf.ghost_name in
    let b = blocks_at c.add_number.new.self.from c.add_number.new.self.numbers.items (shelf_at g.S.Shelf c.add_number.new.self.shelf.now) c.add_number.new.self.shelf.ghost_name in
    record {
      added = subst (λ (list : List ℕ). HasAdded c.args.self.now.from list before b) (sym (take_more found i 0 c.loop-number-test.true))
          (adds_one c.args.self.now.from (take i found) (get_or found i 0) before a b c.loop-number.invariant.added c.in_default.ensures.added);
      same = same_name (get_or found i 0) a b c.in_default.ensures.added ∙ c.loop-number.invariant.same;
    }

pub returns-in-Err-clause-not_added : goal.returns-in-Err-clause-not_added
returns-in-Err-clause-not_added g c =
    let found = c.args.found.now in
    let i = c.loop-number.number-index in
    let before = shelf_at g.S.Shelf c.args.self.now.shelf.now in
    let a = blocks_at c.loop-number.self.from c.loop-number.self.numbers.items (shelf_at g.S.Shelf c.loop-number.self.shelf.now) c.loop-number.self.shelf.ghost_name in
    let b = blocks_at c.add_number.new.self.from c.add_number.new.self.numbers.items (shelf_at g.S.Shelf c.add_number.new.self.shelf.now) c.add_number.new.self.shelf.ghost_name in
    let whole = split_at found i 0 c.loop-number-test.true in
    subst (λ (list : List ℕ). AddsAll None c.args.self.now.from list before b.shelf) (sym whole)
    (one_not_added c.args.self.now.from (take i found) (drop (i + 1) found) (get_or found i 0) before a b c.loop-number.invariant.added c.in-Err.ensures.not_added
    (subst (λ (list : List ℕ). c.args.self.now.from + 2 * length list ≤ top) whole c.requires.below))

pub returns-in-Err-clause-same_reference : goal.returns-in-Err-clause-same_reference
returns-in-Err-clause-same_reference g c = still_same_name _ _ _ c.in-Err.ensures.not_added ∙ c.loop-number.invariant.same

pub returns-clause-added : goal.returns-clause-added
returns-clause-added g c =
    subst (λ (list : List ℕ). HasAdded c.args.self.now.from list (shelf_at g.S.Shelf c.args.self.now.shelf.now)
    (blocks_at c.loop-number.self.from c.loop-number.self.numbers.items (shelf_at g.S.Shelf c.loop-number.self.shelf.now) c.loop-number.self.shelf.ghost_name))
    (take_all c.loop-number.number-index c.args.found.now (omega (arith, c.loop-number-test.false))) c.loop-number.invariant.added
