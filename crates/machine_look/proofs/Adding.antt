-- The blocks of numbers that come one after another.
use Rattle.std.proofs.Common.{◌≡◌, ◌⊎◌, ℕ, ◌+◌, ◌*◌, ◌<◌, ◌≤◌, List, [], ◌∷◌, ◌++◌, length, inl, inr, Some, refl, arith, ap, sym, subst, ◌∙◌, append_assoc, append-nil, length-append}
use Rattle.engine.specs.Keeping.{IsKeptBy, KeeperCalls, KeepsEach, keeping}
use Rattle.engine.specs.Stopping.{keep_fault}
use Rattle.engine.specs.declared.stop.Stop.{Stop}
use Rattle.engine.specs.declared.stop.Stop.TheVariants.{Ended, KeepFailed, CutOff}
use Rattle.looking_engine.specs.Leading.{stop_of}
use Rattle.looking_engine.proofs.Numbers.{AreGiven}
use Rattle.reading_core.specs.declared.phase.End.{End}
use Rattle.std.specs.Prelude.{None}
use Rattle.tape_values.specs.Block.{data_block, top}
use Rattle.tape_shelf.specs.SavedSteps.{adds, full, not_all_added}
use Rattle.tape_shelf.specs.SavedTape.{saved_block}
use Rattle.tape_shelf.specs.Shelf.{Add, NotAdded}
use Rattle.tape_shelf.specs.ShelfAt.{GoesOnTo, ShelfAt}
use Rattle.tape_shelf.specs.ShelfTold.{AreDone}
use Rattle.tape_shelf.proofs.Added.{block_behind, done_more, no_adds, one_more_add, same_adds, same_block}
use Rattle.machine_look.specs.Adding.{AddsAll, AddsNoNumber, AddsNumber, BlocksAt, HasAdded, text_with}

-- no block is full where no number came
pub none_added : {Name : Type 0} (from : ℕ) (before : ShelfAt) (now : BlocksAt Name) → now.from ≡ from → now.numbers ≡ [] → GoesOnTo [] [] before now.shelf → HasAdded from [] before now
none_added from before now begins none still = record {
  blocks = [];
  numbers_are = sym none;
  whole = refl;
  short = omega (arith, ap length none);
  begins = omega (arith, begins);
  added = subst (λ steps. GoesOnTo [] steps before now.shelf) (sym (no_adds from [])) still;
}

text_is : (from at : ℕ) (blocks read : List ℕ) → length blocks ≡ 256 * full blocks → at ≡ from + 2 * length blocks → saved_block from (blocks ++ read) (full blocks) ≡ saved_block at read 0
text_is from at blocks read whole is =
    (let none : full blocks ≡ full blocks + 0 = omega arith in ap (saved_block from (blocks ++ read)) none)
    ∙ (block_behind from blocks read (full blocks) 0 whole ∙ ap (λ a. saved_block a read 0) (sym is))

adds_front : (from : ℕ) (all blocks read : List ℕ) → all ≡ blocks ++ read → length blocks ≡ 256 * full blocks → adds from all (full blocks) ≡ adds from blocks (full blocks)
adds_front from all blocks read is whole = ap (λ v. adds from v (full blocks)) is ∙ same_adds from blocks read (full blocks) (omega (arith, whole))

-- one number more
pub adds_one : {Name : Type 0} (from : ℕ) (all : List ℕ) (n : ℕ) (before : ShelfAt) (a b : BlocksAt Name) → HasAdded from all before a → AddsNumber a n b → HasAdded from (all ++ n ∷ []) before b
adds_one from all n before a b h (inl w) = record {
  blocks = h.blocks;
  numbers_are = ap (λ l. l ++ n ∷ []) h.numbers_are ∙ (append_assoc h.blocks a.numbers (n ∷ []) ∙ ap (λ l. h.blocks ++ l) (sym w.numbers));
  whole = h.whole;
  short = omega (arith, w.short, ap length w.numbers, length-append a.numbers (n ∷ []));
  begins = w.from ∙ h.begins;
  added = λ folder first begin done.
      let r = h.added folder first begin done in
      (w.shelf.opened folder r.0, subst (λ t. AreDone folder (adds from h.blocks (full h.blocks)) first t) (sym w.untouched) r.1);
}
adds_one from all n before a b h (inr f) =
    let more : List ℕ = all ++ n ∷ [] in
    let is : more ≡ h.blocks ++ (a.numbers ++ n ∷ []) = ap (λ l. l ++ n ∷ []) h.numbers_are ∙ append_assoc h.blocks a.numbers (n ∷ []) in
    let long : length more ≡ length h.blocks + 256 = omega (arith, ap length is, length-append h.blocks (a.numbers ++ n ∷ []), length-append a.numbers (n ∷ []), f.whole) in
    let one : full more ≡ full h.blocks + 1 = omega (arith, long, h.whole) in
    let steps : adds from h.blocks (full h.blocks) ++ Add (text_with a n) ∷ [] ≡ adds from more (full more) =
    ap (λ s. s ++ Add (text_with a n) ∷ []) (sym (adds_front from more h.blocks (a.numbers ++ n ∷ []) is h.whole))
    ∙ (ap (λ block. adds from more (full h.blocks) ++ Add (data_block block) ∷ []) (sym (ap (λ v. saved_block from v (full h.blocks)) is ∙ text_is from a.from h.blocks (a.numbers ++ n ∷ []) h.whole h.begins))
    ∙ (sym (one_more_add from more (full h.blocks)) ∙ ap (adds from more) (sym one))) in
    record {
      blocks = more;
      numbers_are = sym (append-nil more) ∙ ap (λ l. more ++ l) (sym f.numbers);
      whole = omega (arith, long, one, h.whole);
      short = omega (arith, ap length f.numbers);
      begins = omega (arith, f.from, h.begins, long);
      added = λ folder first begin done.
          let r = h.added folder first begin done in
          (f.shelf.opened folder r.0, subst (λ s. AreDone folder s first b.shelf.told) steps (done_more folder (adds from h.blocks (full h.blocks)) (Add (text_with a n)) first a.shelf.told b.shelf.told r.1 (f.added folder)));
    }

-- each full block is on the shelf
pub all_added : {Name : Type 0} (from : ℕ) (all : List ℕ) (before : ShelfAt) (now : BlocksAt Name) → HasAdded from all before now → GoesOnTo [] (adds from all (full all)) before now.shelf
all_added from all before now h =
    let same : full all ≡ full h.blocks = omega (arith, ap length h.numbers_are, length-append h.blocks now.numbers, h.whole, h.short) in
    subst (λ steps. GoesOnTo [] steps before now.shelf) (sym (ap (adds from all) same ∙ adds_front from all h.blocks now.numbers h.numbers_are h.whole)) h.added

-- or one could not be put there
pub one_not_added : {Name : Type 0} (from : ℕ) (all rest : List ℕ) (n : ℕ) (before : ShelfAt) (a b : BlocksAt Name) → HasAdded from all before a → AddsNoNumber a n b → from + 2 * length (all ++ n ∷ rest) ≤ top → AddsAll None from (all ++ n ∷ rest) before b.shelf
one_not_added from all rest n before a b h (inl f) below =
    let values : List ℕ = all ++ n ∷ rest in
    let read : List ℕ = a.numbers ++ n ∷ [] in
    let is : values ≡ h.blocks ++ (a.numbers ++ n ∷ rest) = ap (λ l. l ++ n ∷ rest) h.numbers_are ∙ append_assoc h.blocks a.numbers (n ∷ rest) in
    let cut : values ≡ (h.blocks ++ read) ++ rest = is ∙ (ap (λ l. h.blocks ++ l) (sym (append_assoc a.numbers (n ∷ []) rest)) ∙ sym (append_assoc h.blocks read rest)) in
    let long : length (h.blocks ++ read) ≡ length h.blocks + 256 = omega (arith, length-append h.blocks read, length-append a.numbers (n ∷ []), f.whole) in
    let all_long : length values ≡ length (h.blocks ++ read) + length rest = ap length cut ∙ length-append (h.blocks ++ read) rest in
    let block : saved_block from values (full h.blocks) ≡ saved_block a.from read 0 =
    ap (λ v. saved_block from v (full h.blocks)) cut ∙ (same_block from (h.blocks ++ read) rest (full h.blocks) (omega (arith, long, h.whole)) ∙ text_is from a.from h.blocks read h.whole h.begins) in
    let steps : adds from h.blocks (full h.blocks) ++ NotAdded (text_with a n) ∷ [] ≡ not_all_added from values (full h.blocks) =
    ap (λ s. s ++ NotAdded (text_with a n) ∷ []) (sym (adds_front from values h.blocks (a.numbers ++ n ∷ rest) is h.whole))
    ∙ ap (λ one. adds from values (full h.blocks) ++ NotAdded (data_block one) ∷ []) (sym block) in (
      full h.blocks,
      omega (arith, all_long, long, h.whole),
      λ folder first begin done.
          let r = h.added folder first begin done in
          (f.shelf.opened folder r.0, subst (λ s. AreDone folder s first b.shelf.told) steps (done_more folder (adds from h.blocks (full h.blocks)) (NotAdded (text_with a n)) first a.shelf.told b.shelf.told r.1 (f.not_added folder))),
    )
one_not_added from all rest n before a b h (inr r) below = absurd (no_room r.past) where
  long : length (all ++ n ∷ rest) ≡ length h.blocks + length a.numbers + 1 + length rest
  long = omega (arith, length-append all (n ∷ rest), ap length h.numbers_are, length-append h.blocks a.numbers)

  no_room : (256 ≤ length a.numbers) ⊎ (top < a.from + 2 * (length a.numbers + 1)) → ⊥
  no_room (inl whole) = omega (arith, whole, h.short)
  no_room (inr past) = omega (arith, past, h.begins, below, long)

-- ---- a keeper of blocks

-- what a keeper's calls make of its blocks
pub record AddsThem {K Name : Type 0} (calls : KeeperCalls K ℕ) (at : K → BlocksAt Name) : Type 0 where
  pub keeps : (a b : K) (n : ℕ) → calls.keeps a n b → AddsNumber (at a) n (at b)
  pub fails : (a b : K) (n : ℕ) → calls.fails a n b → AddsNoNumber (at a) n (at b)

pub same_name : {Name : Type 0} (n : ℕ) (a b : BlocksAt Name) → AddsNumber a n b → b.name ≡ a.name
same_name n a b (inl w) = w.shelf.name
same_name n a b (inr f) = f.shelf.name

pub still_same_name : {Name : Type 0} (n : ℕ) (a b : BlocksAt Name) → AddsNoNumber a n b → b.name ≡ a.name
still_same_name n a b (inl f) = f.shelf.name
still_same_name n a b (inr r) = r.shelf.name

adds_each : {K Name : Type 0} (calls : KeeperCalls K ℕ) (at : K → BlocksAt Name) → AddsThem calls at → (from : ℕ) (all items : List ℕ) (before : ShelfAt) (a b : K) → HasAdded from all before (at a) → KeepsEach calls.keeps a items b
    → HasAdded from (all ++ items) before (at b) × ((at b).name ≡ (at a).name)
adds_each {K} calls at are from all [] before a b h each =
    let P : K → Type 0 = λ k. HasAdded from (all ++ []) before (at k) × ((at k).name ≡ (at a).name) in
    subst P (sym each) (subst (λ l. HasAdded from l before (at a)) (sym (append-nil all)) h, refl)
adds_each calls at are from all (n ∷ items) before a b h (mid, one, rest) =
    let more = adds_each calls at are from (all ++ n ∷ []) items before mid b (adds_one from all n before (at a) (at mid) h (are.keeps a mid n one)) rest in
    (subst (λ l. HasAdded from l before (at b)) (append_assoc all (n ∷ []) items) more.0, more.1 ∙ same_name n (at a) (at mid) (are.keeps a mid n one))

added_all : {K Name : Type 0} (calls : KeeperCalls K ℕ) (at : K → BlocksAt Name) → AddsThem calls at → (from : ℕ) (all numbers given : List ℕ) (before : ShelfAt) (a b : K) → HasAdded from all before (at a) → numbers ≡ given → KeepsEach calls.keeps a given b
    → GoesOnTo [] (adds from (all ++ numbers) (full (all ++ numbers))) before (at b).shelf × ((at b).name ≡ (at a).name)
added_all calls at are from all numbers given before a b h is each =
    let r = adds_each calls at are from all given before a b h each in
    (subst (λ l. GoesOnTo [] (adds from (all ++ l) (full (all ++ l))) before (at b).shelf) (sym is) (all_added from (all ++ given) before (at b) r.0), r.1)

pub added_by : {K Name : Type 0} (calls : KeeperCalls K ℕ) (at : K → BlocksAt Name) → AddsThem calls at → (stop : Stop End) (from : ℕ) (all numbers given : List ℕ) (before : ShelfAt) (a b : K) → HasAdded from all before (at a) → AreGiven stop numbers given
    → from + 2 * length (all ++ numbers) ≤ top → IsKeptBy calls (keeping given (keep_fault (Some stop))) a b → AddsAll (stop_of stop) from (all ++ numbers) before (at b).shelf × ((at b).name ≡ (at a).name)
added_by calls at are (Ended end) from all numbers given before a b h is below made = added_all calls at are from all numbers given before a b h is made.kept_by
added_by calls at are (CutOff cut) from all numbers given before a b h is below made = added_all calls at are from all numbers given before a b h is made.kept_by
added_by calls at are (KeepFailed fault) from all numbers given before a b h (rest, is) below made =
    let k = made.kept_by in
    let r = adds_each calls at are from all k.kept before a k.next h k.each in
    let f = are.fails k.next b k.last k.failing in
    let cut : (all ++ k.kept) ++ k.last ∷ rest ≡ all ++ numbers =
    append_assoc all k.kept (k.last ∷ rest) ∙ ap (λ l. all ++ l) (sym (is ∙ (ap (λ l. l ++ rest) k.items_are ∙ append_assoc k.kept (k.last ∷ []) rest))) in
    let within : from + 2 * length ((all ++ k.kept) ++ k.last ∷ rest) ≤ top = subst (λ l. from + 2 * length l ≤ top) (sym cut) below in (
      subst (λ l. AddsAll None from l before (at b).shelf) cut (one_not_added from (all ++ k.kept) rest k.last before (at k.next) (at b) r.0 f within),
      still_same_name k.last (at k.next) (at b) f ∙ r.1,
    )
