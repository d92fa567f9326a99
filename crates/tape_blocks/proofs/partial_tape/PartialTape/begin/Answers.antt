use Rattle.std.proofs.Common.{◌≡◌, ℕ, ◌+◌, ◌≤◌, List, [], ◌∷◌, ◌++◌, length, take, arith, ap, ◌∙◌, refl, sym, subst}
use Rattle.std.proofs.lemmas.List.{take_all}
use Rattle.std.proofs.lemmas.Result.{err_from_is_err_and}
use Rattle.tape_values.specs.Block.{BlockValue, block_at, data_block, transfer_block}
use Rattle.tape_blocks.specs.Head.{IsHead, IsFaultyBlock, IsWanting}
use Rattle.tape_blocks.specs.Standing.{IsReadTo}
use Rattle.tape_blocks.specs.PartialTape.{part_of}
use Rattle.tape_values.proofs.Pieces.{length-framed}
use Rattle.tape_blocks.proofs.Steps.{no_part, wants_nothing, step_blank, step_data, step_transfer, step_fault, front_is, front_fits, alone, first_byte, same_read}
use Rattle.tape_blocks.proofs.Standings.{IsReadTo-grow}
use Rattle.tape_blocks.proofs.Placings.{place_more, places_grow, same_placed}
use Rattle.tape_blocks.proofs.partial_tape.PartialTape.begin.Goals as goal
use Rattle.tape_blocks.proofs.partial_tape.PartialTape.begin.Goals.{After-head_of, In_ok-head_of, In_ok-add-in-Data}

none : (c : After-head_of) → part_of c.args.self.now ≡ []
none c = no_part c.args.self.now.header.items c.args.self.now.body.items c.requires.part.split c.requires.between

-- the two halves are the text
joined : (c : After-head_of) → c.split_at.result.0.now ++ c.split_at.result.1.now ≡ c.args.text.now
joined c = sym c.split_at.ensures.by_index.0

pub returns-then-text-eq-BLANK-clause-step : goal.returns-then-text-eq-BLANK-clause-step
returns-then-text-eq-BLANK-clause-step c =
    let e : part_of c.args.self.now ≡ [] = no_part c.args.self.now.header.items c.args.self.now.body.items c.requires.part.split c.requires.between in
    let l : length (part_of c.args.self.now) ≡ 0 = ap length e in (
      omega arith,
      record { split = c.requires.part.split; wanting = wants_nothing (c.args.self.now.place + 1) (part_of c.args.self.now) e; within = omega arith },
      λ fed read. subst (IsReadTo _ _ _) (sym e)
          (step_blank fed (take 1 c.args.text.now) (part_of c.args.self.now) _ c.args.self.now.place read
          (alone (part_of c.args.self.now) (take 1 c.args.text.now) e ∙ first_byte c.args.text.now 0 c.requires.some c.if-text-eq-BLANK.true)),
    )

pub returns-in_err-head_of-clause-step : goal.returns-in_err-head_of-clause-step
returns-in_err-head_of-clause-step c =
    let a = (goal.at.returns-in_err-head_of-clause-step c).After-head_of in
    let p = err_from_is_err_and c.from_residual.result c.from_residual.ensures.1 in
    let is : part_of c.args.self.now ++ c.args.text.now ≡ c.args.text.now = alone (part_of c.args.self.now) c.args.text.now (none a) in
    let e : length (part_of c.args.self.now ++ c.args.text.now) ≡ length c.args.text.now = ap length is in
    rw (p.1, p.2) (λ fed read.
    step_fault fed c.args.text.now (part_of c.args.self.now) _ c.args.self.now.place c.in_err-head_of.field-0.0 read (omega arith)
    (subst (λ t. IsFaultyBlock c.args.self.now.place t c.in_err-head_of.field-0.0) (joined a ∙ sym is) c.in_err-head_of.ensures))

-- what was found at the head of the text
found : (c : In_ok-head_of) → IsHead c.args.self.now.place c.args.text.now c.in_ok-head_of.field-0
found c = subst (λ t. IsHead c.args.self.now.place t c.in_ok-head_of.field-0) (joined ((goal.at.In_ok-head_of c).After-head_of)) c.in_ok-head_of.ensures

pub returns-in_ok-put-in-Part-clause-step : goal.returns-in_ok-put-in-Part-clause-step
returns-in_ok-put-in-Part-clause-step c =
    let text : List ℕ = c.args.text.now in
    let e = none ((goal.at.returns-in_ok-put-in-Part-clause-step c).After-head_of) in
    let added : part_of c.put.new.self ≡ part_of c.args.self.now ++ text = c.in_ok-put-in-Part.ensures.added in
    let is : part_of c.put.new.self ≡ text = added ∙ alone (part_of c.args.self.now) text e in
    let l : length (part_of c.put.new.self) ≡ length text = ap length is in
    let place : c.put.new.self.place ≡ c.args.self.now.place = c.in_ok-put-in-Part.ensures.place in
    let wanting : IsWanting c.args.self.now.place text =
    subst (IsHead c.args.self.now.place text) c.in-Part.is (found ((goal.at.returns-in_ok-put-in-Part-clause-step c).In_ok-head_of)) in (
      omega arith,
      record {
        split = c.in_ok-put-in-Part.ensures.split;
        wanting = subst (λ n. IsWanting n (part_of c.put.new.self)) (sym place) (subst (IsWanting c.args.self.now.place) (sym is) wanting);
        within = omega arith;
      },
      λ fed read.
          same_read _ _ _ _ _ _ _ _ (ap (λ t. fed ++ t) (sym (take_all (length text) text (omega arith))))
          (ap (λ v. v.items) (sym c.in_ok-put-in-Part.ensures.kept)) (sym place) (sym added)
          (IsReadTo-grow fed text _ c.args.self.now.place (part_of c.args.self.now) read),
    )

-- the block that was found
abbrev block : In_ok-add-in-Data → BlockValue
block c = block_at c.in-Data.address c.in-Data.data.now

-- it stands first
first_is : (c : In_ok-add-in-Data) → part_of c.args.self.now ++ take (7 + length c.in-Data.data.now) c.args.text.now ≡ data_block (block c)
first_is c =
    let text : List ℕ = c.args.text.now in
    let e = none ((goal.at.In_ok-add-in-Data c).After-head_of) in
    let h = subst (IsHead c.args.self.now.place text) c.in-Data.is (found ((goal.at.In_ok-add-in-Data c).In_ok-head_of)) in
    let n : ℕ = 7 + length c.in-Data.data.now in
    let k : n ≡ length (data_block (block c)) = sym (length-framed c.in-Data.address c.in-Data.data.now) in
    alone (part_of c.args.self.now) (take n text) e ∙ front_is n (data_block (block c)) text h.2 k

blocks_are : (c : In_ok-add-in-Data) → c.add.new.self.blocks.items ≡ c.args.self.now.blocks.items ++ block c ∷ []
blocks_are c =
    c.in_ok-add-in-Data.ensures.blocks ∙ ap (λ x. c.args.self.now.blocks.items ++ block_at c.in-Data.address x ∷ []) c.in_ok-bytes-in-Data.ensures.items

pub returns-in_ok-add-in-Data-clause-step : goal.returns-in_ok-add-in-Data-clause-step
returns-in_ok-add-in-Data-clause-step c =
    let o = (goal.at.returns-in_ok-add-in-Data-clause-step c).In_ok-add-in-Data in
    let text : List ℕ = c.args.text.now in
    let e = none ((goal.at.returns-in_ok-add-in-Data-clause-step c).After-head_of) in
    let h = subst (IsHead c.args.self.now.place text) c.in-Data.is (found ((goal.at.returns-in_ok-add-in-Data-clause-step c).In_ok-head_of)) in
    let n : ℕ = 7 + length c.in-Data.data.now in
    let k : n ≡ length (data_block (block o)) = sym (length-framed c.in-Data.address c.in-Data.data.now) in
    let fits : n ≤ length text = front_fits n (data_block (block o)) text h.2 k in
    let a = c.in_ok-add-in-Data.ensures in
    let place : c.add.new.self.place ≡ c.args.self.now.place + n = a.place ∙ ap (λ x. c.args.self.now.place + (7 + length x)) c.in_ok-bytes-in-Data.ensures.items in
    let part : part_of c.add.new.self ≡ [] =
    ap (λ x. x.items ++ c.add.new.self.body.items) a.header ∙ ap (λ x. c.args.self.now.header.items ++ x.items) a.body ∙ e in
    let l : length (part_of c.add.new.self) ≡ 0 = ap length part in (
      fits,
      record {
        split = rw (a.header, a.body) c.requires.part.split;
        wanting = wants_nothing c.add.new.self.place (part_of c.add.new.self) part;
        within = omega arith;
      },
      λ fed read.
          same_read _ _ _ _ _ _ _ _ refl (sym (blocks_are o)) (sym place) (sym part)
          (step_data fed (take n text) (part_of c.args.self.now) c.args.self.now.blocks.items c.args.self.now.place (block o) read h.0 h.1 (first_is o)),
    )

pub returns-in_ok-add-in-Data-clause-places : goal.returns-in_ok-add-in-Data-clause-places
returns-in_ok-add-in-Data-clause-places c = λ fed read placed.
    let o = (goal.at.returns-in_ok-add-in-Data-clause-places c).In_ok-add-in-Data in
    same_placed _ _ _ _ _ (sym (blocks_are o)) (sym c.in_ok-add-in-Data.ensures.places)
    (place_more fed (take (7 + length c.in-Data.data.now) c.args.text.now) (part_of c.args.self.now) _ _ c.args.self.now.place (block o) read placed (first_is o))

pub returns-then-text-eq-BLANK-clause-places : goal.returns-then-text-eq-BLANK-clause-places
returns-then-text-eq-BLANK-clause-places c = λ fed read placed. places_grow fed _ _ _ placed

pub returns-in_ok-put-in-Part-clause-places : goal.returns-in_ok-put-in-Part-clause-places
returns-in_ok-put-in-Part-clause-places c = λ fed read placed.
    same_placed _ _ _ _ _ (ap (λ v. v.items) (sym c.in_ok-put-in-Part.ensures.kept)) (ap (λ v. v.items) (sym c.in_ok-put-in-Part.ensures.places))
    (places_grow fed _ _ _ placed)

pub returns-in-Transfer-clause-places : goal.returns-in-Transfer-clause-places
returns-in-Transfer-clause-places c = λ fed read placed. places_grow fed _ _ _ placed

pub returns-in-Transfer-clause-step : goal.returns-in-Transfer-clause-step
returns-in-Transfer-clause-step c =
    let text : List ℕ = c.args.text.now in
    let e = none ((goal.at.returns-in-Transfer-clause-step c).After-head_of) in
    let h = subst (IsHead c.args.self.now.place text) c.in-Transfer.is (found ((goal.at.returns-in-Transfer-clause-step c).In_ok-head_of)) in
    let k : 7 ≡ length (transfer_block c.in-Transfer.start) = sym (length-framed c.in-Transfer.start []) in
    let fits : 7 ≤ length text = front_fits 7 (transfer_block c.in-Transfer.start) text h.1 k in (
      fits,
      λ fed read.
          step_transfer fed (take 7 text) (part_of c.args.self.now) _ c.args.self.now.place c.in-Transfer.start read
          (alone (part_of c.args.self.now) (take 7 text) e ∙ front_is 7 (transfer_block c.in-Transfer.start) text h.1 k) (omega arith) h.0,
    )
